use Rattle.std.proofs.Common.{◌≡◌, ℕ, List, ◌<◌, ◌+◌, [], ◌∷◌, ◌++◌, length, map, take, drop, get_or, Option, Some, None, sym, ap, ◌∙◌, subst, arith, refl, true, false}
use Rattle.std.proofs.lemmas.List.{take_all, map-append, length-map, get_or-map}
use Rattle.std.specs.List.{flat_map}
use Rattle.std.specs.Option.{is_some}
use Rattle.term_lex.specs.declared.fault.Fault.{Fault}
use Rattle.def_file.specs.declared.tree.Condition.{Condition as Value}
use Rattle.def_file.specs.declared.naming.conditions.TakenCondition.{TakenCondition}
use Rattle.symbol_table.specs.Table.{Table}
use Rattle.def_file.specs.Views.{condition, restriction}
use Rattle.def_file.specs.Names.{Known}
use Rattle.def_file.specs.Trees.{Condition}
use Rattle.def_file.specs.Pairs.{AreRelated}
use Rattle.def_file.specs.Sides.{Limit, Cells, alternatives_of, alternatives_in, KeepsAll, PassesFirst, AnswersLimits}
use Rattle.def_file.specs.Taking.{TakesChoice, TakesCondition}
use Rattle.def_file.proofs.Pairs.{related_at, length-related, flat_next, flat_around}
use Rattle.def_file.proofs.Limits.{keeps_append, passes_before, passes_behind}
use Rattle.term_lex.specs.declared.syntax.Syntax.{Syntax}
use Rattle.def_file.specs.Notations.{notation_of}
use Rattle.def_file.proofs.naming.limits.conditions_fault.Goals as goal

false-true : false ≡ true → ⊥
false-true e = cc

-- the limits of a condition
abbrev limits_at : Value → List Limit
limits_at c = map (Cells 255) (alternatives_in (restriction c.restriction))

-- the limits of conditions, one after another
all_at : (cs : List Value) → map (Cells 255) (flat_map alternatives_of (map condition cs)) ≡ flat_map limits_at cs
all_at [] = refl
all_at (c ∷ cs) = map-append (Cells 255) (alternatives_in (restriction c.restriction)) (flat_map alternatives_of (map condition cs)) ∙ ap (λ l. limits_at c ++ l) (all_at cs)

module _ (syntax : Syntax) (text : List ℕ) (known : Known) (table : Table) where
  abbrev Taken : Condition → TakenCondition → Type 0
  Taken c t = TakesCondition (notation_of syntax) text known table c.variable c.restriction t

  -- the choice of the condition with a number
  choice_at : (cs : List Value) (ts : List TakenCondition) (i : ℕ) (c : Value) (t : TakenCondition) → c ≡ get_or cs i c → t ≡ get_or ts i t → i < length cs → AreRelated Taken (map condition cs) ts → TakesChoice (notation_of syntax) text known table (restriction c.restriction) t.choice
  choice_at cs ts i c t is is' lt related =
      let within : i < length (map condition cs) = simp length-map lt in
      let here : Taken (get_or (map condition cs) i (condition c)) (get_or ts i t) = related_at Taken (map condition cs) ts i (condition c) t within related in
      let named : get_or (map condition cs) i (condition c) ≡ condition c = get_or-map condition cs i c (condition c) lt ∙ ap condition (sym is) in
      (subst (λ (x : Condition). Taken x t) named (subst (Taken (get_or (map condition cs) i (condition c))) (sym is') here)).choice

pub returns-in_default : goal.returns-in_default
returns-in_default c = λ syntax text known table related.
    let same = length-related (Taken syntax text known table) (map condition c.args.conditions.now) c.args.taken.now related in
    absurd (omega (arith, same, length-map c.args.conditions.now condition, c.in_default.ensures.lookup.3, c.loop-i-test.true))

-- the limits around those of a condition
limits_around : (syntax : Syntax) (text : List ℕ) (known : Known) (cs : List Value) (i : ℕ) (c : Value) → c ≡ get_or cs i c → i < length cs → (r : Option Fault) → is_some r ≡ true → KeepsAll (notation_of syntax) text known (map (Cells 255) (flat_map alternatives_of (map condition (take i cs)))) → AnswersLimits (notation_of syntax) text known (limits_at c) r → AnswersLimits (notation_of syntax) text known (map (Cells 255) (flat_map alternatives_of (map condition cs))) r
limits_around syntax text known cs i c is lt None some before here = absurd (false-true some)
limits_around syntax text known cs i c is lt (Some f) some before here =
    let front : KeepsAll (notation_of syntax) text known (flat_map limits_at (take i cs)) = subst (KeepsAll (notation_of syntax) text known) (all_at (take i cs)) before in
    subst (λ ls. PassesFirst (notation_of syntax) text known ls f) (sym (all_at cs ∙ flat_around limits_at cs i c c is lt)) (passes_behind (notation_of syntax) text known (flat_map limits_at (take i cs)) (limits_at c ++ flat_map limits_at (drop (i + 1) cs)) f front (passes_before (notation_of syntax) text known (limits_at c) (flat_map limits_at (drop (i + 1) cs)) f here))

limits_next : (syntax : Syntax) (text : List ℕ) (known : Known) (cs : List Value) (i : ℕ) (c : Value) → c ≡ get_or cs i c → i < length cs → (r : Option Fault) → is_some r ≡ false → KeepsAll (notation_of syntax) text known (map (Cells 255) (flat_map alternatives_of (map condition (take i cs)))) → AnswersLimits (notation_of syntax) text known (limits_at c) r → KeepsAll (notation_of syntax) text known (map (Cells 255) (flat_map alternatives_of (map condition (take (i + 1) cs))))
limits_next syntax text known cs i c is lt (Some f) none before here = absurd (false-true (sym none))
limits_next syntax text known cs i c is lt None none before here =
    let front : KeepsAll (notation_of syntax) text known (flat_map limits_at (take i cs)) = subst (KeepsAll (notation_of syntax) text known) (all_at (take i cs)) before in
    subst (KeepsAll (notation_of syntax) text known) (sym (all_at (take (i + 1) cs) ∙ flat_next limits_at cs i c c is lt)) (keeps_append (notation_of syntax) text known (flat_map limits_at (take i cs)) (limits_at c) front here)

pub returns : goal.returns
returns c = λ syntax text known table related. subst (λ l. KeepsAll (notation_of syntax) text known (map (Cells 255) (flat_map alternatives_of (map condition l)))) (take_all c.loop-i.i c.args.conditions.now c.loop-i-test.false) (c.loop-i.invariant syntax text known table related)

pub returns-then-is_some : goal.returns-then-is_some
returns-then-is_some c = λ syntax text known table related.
    let some : is_some c.choice_fault-fault.result ≡ true = sym c.is_some.ensures ∙ c.if-is_some.true in
    let choice = choice_at syntax text known table c.args.conditions.now c.args.taken.now c.loop-i.i c.index-conditions-i.result c.in-Some.next.now c.index-conditions-i.is c.in-Some.ensures.lookup.1 c.loop-i-test.true related in
    limits_around syntax text known c.args.conditions.now c.loop-i.i c.index-conditions-i.result c.index-conditions-i.is c.loop-i-test.true c.choice_fault-fault.result some (c.loop-i.invariant syntax text known table related) (c.choice_fault-fault.ensures syntax text known table choice)

pub loop-i-preserved : goal.loop-i-preserved
loop-i-preserved c = λ syntax text known table related.
    let none : is_some c.choice_fault-fault.result ≡ false = sym c.is_some.ensures ∙ c.if-is_some.false in
    let choice = choice_at syntax text known table c.args.conditions.now c.args.taken.now c.loop-i.i c.index-conditions-i.result c.in-Some.next.now c.index-conditions-i.is c.in-Some.ensures.lookup.1 c.loop-i-test.true related in
    limits_next syntax text known c.args.conditions.now c.loop-i.i c.index-conditions-i.result c.index-conditions-i.is c.loop-i-test.true c.choice_fault-fault.result none (c.loop-i.invariant syntax text known table related) (c.choice_fault-fault.ensures syntax text known table choice)
