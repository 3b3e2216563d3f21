use Rattle.std.proofs.Common.{◌≡◌, ℕ, ◌<◌, ◌+◌, List, ◌∷◌, ◌++◌, [], Err, rules, map, take, drop, length, ap, get_or, subst, sym, ◌∙◌, add-one}
use Rattle.std.proofs.lemmas.List.{drop_all, map-append, take_all}
use Rattle.std.proofs.Math.Seq.{take-suc}
use Rattle.symbol_table.proofs.Keeping.{keeps_refl, keeps_trans}
use Rattle.def_file.specs.declared.tree.Condition.{Condition}
use Rattle.def_file.specs.Views.{condition, restriction}
use Rattle.def_file.specs.Names.{Place, Qualified, token_bytes, restriction_places, condition_places}
use Rattle.def_file.specs.Naming.{IsPlaced, ArePlaced, knowing, qualified_names}
use Rattle.def_file.specs.Pairs.{AreRelated}
use Rattle.def_file.specs.Taking.{TakesCondition}
use Rattle.def_file.specs.Trees.{Condition as Written}
use Rattle.def_file.specs.declared.naming.conditions.TakenCondition.{TakenCondition}
use Rattle.def_file.proofs.Pairs.{related_more, take-next, map_next}
use Rattle.def_file.proofs.Namings.{drop-next, all_split, none_taken, more_taken, one_refused, all_taken, taking_refused}
use Rattle.def_file.specs.Notations.{notation_of}
use Rattle.def_file.proofs.naming.conditions.take_conditions.Goals as goal

-- the places of the conditions from a number on
abbrev places_from : List Condition → ℕ → List Place
places_from cs i = condition_places (qualified_names (take i cs)) (map condition (drop i cs))

-- the places of the condition with a number
abbrev places_at : List Condition → ℕ → Condition → List Place
places_at cs i c = Qualified (qualified_names (take i cs)) c.variable ∷ restriction_places (restriction c.restriction)

next_condition : (cs : List Condition) (i : ℕ) (c : Condition) → c ≡ get_or cs i c → i < length cs → places_from cs i ≡ places_at cs i c ++ places_from cs (i + 1)
next_condition cs i c is h =
    let rest : drop i cs ≡ c ∷ drop (i + 1) cs = drop-next cs i c h ∙ ap (λ x. x ∷ drop (i + 1) cs) (sym is) in
    let front : take (i + 1) cs ≡ take i cs ++ c ∷ [] = ap (λ k. take k cs) (add-one i) ∙ take-suc cs i c h ∙ ap (λ x. take i cs ++ x ∷ []) (sym is) in
    let names : qualified_names (take (i + 1) cs) ≡ qualified_names (take i cs) ++ c.variable ∷ [] = ap qualified_names front ∙ map-append (λ (x : Condition). x.variable) (take i cs) (c ∷ []) in
    ap (λ xs. condition_places (qualified_names (take i cs)) (map condition xs)) rest ∙ ap (λ ns. places_at cs i c ++ condition_places ns (map condition (drop (i + 1) cs))) (sym names)

-- the names that are qualified behind one more condition
names_more : (text : List ℕ) (cs : List Condition) (i : ℕ) (c : Condition) → c ≡ get_or cs i c → i < length cs → map (token_bytes text) (qualified_names (take (i + 1) cs)) ≡ map (token_bytes text) (qualified_names (take i cs)) ++ token_bytes text c.variable ∷ []
names_more text cs i c is h = ap (map (token_bytes text)) (map_next (λ (x : Condition). x.variable) cs i c c is h) ∙ map-append (token_bytes text) (qualified_names (take i cs)) (c.variable ∷ [])

pub loop-next-init : goal.loop-next-init
loop-next-init c = record { under_way = λ operations. none_taken (notation_of c.args.syntax) c.args.text.now _ _; placed = c.requires.placed; qualified = c.new-qualified.ensures; keeps = keeps_refl _; conditions = λ later operations k. subst (AreRelated (λ (w : Written) (t : TakenCondition). TakesCondition (notation_of c.args.syntax) c.args.text.now (knowing later c.args.listed.now operations) later w.variable w.restriction t) []) (sym c.new-taken.ensures.items) tt }

pub take_condition-requires : goal.take_condition-requires
take_condition-requires c =
    let here = (all_split (IsPlaced c.args.text.now) (places_at c.args.conditions.now c.loop-next.next-index c.next-item.result) (places_from c.args.conditions.now (c.loop-next.next-index + 1)) (subst (ArePlaced c.args.text.now) (next_condition c.args.conditions.now c.loop-next.next-index c.next-item.result c.next-item.is c.loop-next-test.true) c.loop-next.invariant.placed)).0 in
    record { name = here.0.1; placed = here.1 }

pub returns-in_err-condition-clause-taking : goal.returns-in_err-condition-clause-taking
returns-in_err-condition-clause-taking c = λ operations.
    let same : c.from_residual.result ≡ Err c.in_err-condition.field-0.0 = search rules in
    taking_refused (notation_of c.args.syntax) c.args.text.now (knowing c.args.symbols.now c.args.listed.now operations) (knowing c.take_condition.new.symbols c.args.listed.now operations) (condition_places [] (map condition c.args.conditions.now)) c.from_residual.result c.in_err-condition.field-0.0 same (one_refused (notation_of c.args.syntax) c.args.text.now (knowing c.args.symbols.now c.args.listed.now operations) (knowing c.loop-next.symbols c.args.listed.now operations) (condition_places [] (map condition c.args.conditions.now)) (places_from c.args.conditions.now c.loop-next.next-index) (places_at c.args.conditions.now c.loop-next.next-index c.next-item.result) (places_from c.args.conditions.now (c.loop-next.next-index + 1)) (next_condition c.args.conditions.now c.loop-next.next-index c.next-item.result c.next-item.is c.loop-next-test.true) (c.loop-next.invariant.under_way operations) c.in_err-condition.field-0.0 (c.in_err-condition.ensures.taking operations (qualified_names (take c.loop-next.next-index c.args.conditions.now)) c.loop-next.invariant.qualified))

pub returns-in_err-condition-clause-keeps : goal.returns-in_err-condition-clause-keeps
returns-in_err-condition-clause-keeps c = keeps_trans _ _ _ c.loop-next.invariant.keeps c.take_condition.ensures.keeps

pub returns-in_err-push-clause-keeps : goal.returns-in_err-push-clause-keeps
returns-in_err-push-clause-keeps c = keeps_trans _ _ _ c.loop-next.invariant.keeps c.take_condition.ensures.keeps

pub loop-next-preserved : goal.loop-next-preserved
loop-next-preserved c = record {
  under_way = λ operations. more_taken (notation_of c.args.syntax) c.args.text.now (knowing c.args.symbols.now c.args.listed.now operations) (knowing c.loop-next.symbols c.args.listed.now operations) (condition_places [] (map condition c.args.conditions.now)) (places_from c.args.conditions.now c.loop-next.next-index) (places_at c.args.conditions.now c.loop-next.next-index c.next-item.result) (places_from c.args.conditions.now (c.loop-next.next-index + 1)) (next_condition c.args.conditions.now c.loop-next.next-index c.next-item.result c.next-item.is c.loop-next-test.true) (c.loop-next.invariant.under_way operations) (knowing c.take_condition.new.symbols c.args.listed.now operations) (c.in_ok-condition.ensures.taking operations (qualified_names (take c.loop-next.next-index c.args.conditions.now)) c.loop-next.invariant.qualified);
  placed = (all_split (IsPlaced c.args.text.now) (places_at c.args.conditions.now c.loop-next.next-index c.next-item.result) (places_from c.args.conditions.now (c.loop-next.next-index + 1)) (subst (ArePlaced c.args.text.now) (next_condition c.args.conditions.now c.loop-next.next-index c.next-item.result c.next-item.is c.loop-next-test.true) c.loop-next.invariant.placed)).1;
  qualified = c.in_ok-condition.ensures.qualified ∙ ap (λ l. l ++ token_bytes c.args.text.now c.next-item.result.variable ∷ []) c.loop-next.invariant.qualified ∙ sym (names_more c.args.text.now c.args.conditions.now c.loop-next.next-index c.next-item.result c.next-item.is c.loop-next-test.true);
  keeps = keeps_trans _ _ _ c.loop-next.invariant.keeps c.take_condition.ensures.keeps;
  conditions = λ later operations k.
      let R = λ (w : Written) (t : TakenCondition). TakesCondition (notation_of c.args.syntax) c.args.text.now (knowing later c.args.listed.now operations) later w.variable w.restriction t in
      let before = c.loop-next.invariant.conditions later operations (keeps_trans _ _ _ c.take_condition.ensures.keeps k) in
      let next : map condition (take (c.loop-next.next-index + 1) c.args.conditions.now) ≡ map condition (take c.loop-next.next-index c.args.conditions.now) ++ condition c.next-item.result ∷ [] =
      ap (map condition) (take-next c.args.conditions.now c.loop-next.next-index c.next-item.result c.next-item.result c.next-item.is c.loop-next-test.true) ∙ map-append condition (take c.loop-next.next-index c.args.conditions.now) (c.next-item.result ∷ []) in
      let more = related_more R (map condition (take c.loop-next.next-index c.args.conditions.now)) c.loop-next.taken.items (condition c.next-item.result) c.in_ok-condition.condition before (c.in_ok-condition.ensures.condition later operations k) in
      subst (λ l. AreRelated R l c.push.new.self.items) (sym next) (subst (AreRelated R (map condition (take c.loop-next.next-index c.args.conditions.now) ++ condition c.next-item.result ∷ [])) (sym c.in_ok-push.ensures.items) more);
}

pub returns-clause-taking : goal.returns-clause-taking
returns-clause-taking c = λ operations. all_taken (notation_of c.args.syntax) c.args.text.now (knowing c.args.symbols.now c.args.listed.now operations) (knowing c.loop-next.symbols c.args.listed.now operations) (condition_places [] (map condition c.args.conditions.now)) (places_from c.args.conditions.now c.loop-next.next-index) (ap (λ xs. condition_places (qualified_names (take c.loop-next.next-index c.args.conditions.now)) (map condition xs)) (drop_all c.loop-next.next-index c.args.conditions.now c.loop-next-test.false)) (c.loop-next.invariant.under_way operations)

pub returns-clause-conditions : goal.returns-clause-conditions
returns-clause-conditions c = λ later operations k. subst (λ l. AreRelated (λ (w : Written) (t : TakenCondition). TakesCondition (notation_of c.args.syntax) c.args.text.now (knowing later c.args.listed.now operations) later w.variable w.restriction t) (map condition l) c.loop-next.taken.items) (take_all c.loop-next.next-index c.args.conditions.now c.loop-next-test.false) (c.loop-next.invariant.conditions later operations k)
