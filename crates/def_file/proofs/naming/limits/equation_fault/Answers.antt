use Rattle.std.proofs.Common.{◌≡◌, ◌<◌, ◌≤◌, [], ◌∷◌, map, inl, inr, refl, sym, ◌∙◌, subst, arith, Bool, true, false, true≢false}
use Rattle.std.specs.Prelude.{◌↔◌, IsTrue}
use Rattle.std.specs.List.{flat_map}
use Rattle.eq_base.specs.Tree.{Tree, node, size}
use Rattle.eq_base.specs.Pattern.{PatternCell, fixed, variable, restricted}
use Rattle.eq_base.specs.Mapping.{map_cell}
use Rattle.eq_base.specs.declared.head.Head.{Head}
use Rattle.eq_base.specs.declared.head.Head.TheVariants.{Symbol, Numeral, Atom, Text}
use Rattle.eq_base.proofs.Trees.{size-map_heads}
use Rattle.symbol_table.specs.Table.{Table}
use Rattle.symbol_table.specs.Reading.{read_head, read_pattern}
use Rattle.def_file.specs.declared.naming.conditions.TakenCondition.{TakenCondition}
use Rattle.def_file.specs.Views.{condition}
use Rattle.def_file.specs.Trees.{Condition}
use Rattle.def_file.specs.Pairs.{AreRelated}
use Rattle.def_file.specs.Sides.{Equations, Application, Cells, IsSymbolApplied, alternatives_of, AnswersLimits}
use Rattle.def_file.specs.Taking.{HasDeclaredRoot, TakesCondition}
use Rattle.def_file.proofs.Limits.{answers_behind}
use Rattle.def_file.specs.Notations.{notation_of}
use Rattle.def_file.proofs.naming.limits.equation_fault.Goals as goal

-- a symbol stands at the root exactly where one does as the pattern is read
root_read : (table : Table) (p : Tree (PatternCell Head)) → HasDeclaredRoot p ↔ IsSymbolApplied (read_pattern table p)
root_read table (node (fixed (Symbol n)) ps) = (λ h. h, λ h. h)
root_read table (node (fixed (Numeral n)) ps) = (λ h. h, λ h. h)
root_read table (node (fixed (Atom n)) ps) = (λ h. h, λ h. h)
root_read table (node (fixed (Text n)) ps) = (λ h. h, λ h. h)
root_read table (node (variable x) ps) = (λ h. h, λ h. h)
root_read table (node (restricted x class) ps) = (λ h. h, λ h. h)

size_read : (table : Table) (p : Tree (PatternCell Head)) → size (read_pattern table p) ≡ size p
size_read table p = size-map_heads (map_cell (read_head table)) p

module _ (root : Bool) (table : Table) (p : Tree (PatternCell Head)) (exact : IsTrue root ↔ HasDeclaredRoot p) where
  is_application : root ≡ true → IsSymbolApplied (read_pattern table p)
  is_application found = (root_read table p).0 (exact.0 found)

  is_none : root ≡ false → ¬ IsSymbolApplied (read_pattern table p)
  is_none missing app = true≢false (sym (exact.1 ((root_read table p).1 app)) ∙ missing)

pub returns-then-not-is_application : goal.returns-then-not-is_application
returns-then-not-is_application c = λ syntax text known table t.
    let left = read_pattern table c.args.taken.now.left in
    inr (omega arith, inl (left, t.left.means, is_none _ table c.args.taken.now.left c.is_application.ensures c.if-not-is_application.true, refl))

pub returns-then-len-gt-MOST_LEFT_CELLS : goal.returns-then-len-gt-MOST_LEFT_CELLS
returns-then-len-gt-MOST_LEFT_CELLS c = λ syntax text known table t.
    let left = read_pattern table c.args.taken.now.left in
    let app = is_application _ table c.args.taken.now.left c.is_application.ensures c.if-not-is_application.false in
    let long : 255 < size left = omega (arith, size_read table c.args.taken.now.left) in
    inr (omega arith, inr ((left, t.left.means, app), inl (left, t.left.means, long, refl)))

pub returns-then-len-gt-MOST_RIGHT_CELLS : goal.returns-then-len-gt-MOST_RIGHT_CELLS
returns-then-len-gt-MOST_RIGHT_CELLS c = λ syntax text known table t.
    let left = read_pattern table c.args.taken.now.left in
    let right = read_pattern table c.args.taken.now.right in
    let app = is_application _ table c.args.taken.now.left c.is_application.ensures c.if-not-is_application.false in
    let short : size left ≤ 255 = omega (arith, size_read table c.args.taken.now.left) in
    let long : 65535 < size right = omega (arith, size_read table c.args.taken.now.right) in
    inr (omega arith, inr ((left, t.left.means, app), inr ((left, t.left.means, short), inl (right, t.right.means, long, refl))))

pub returns : goal.returns
returns c = λ syntax text known table t.
    let written = c.args.written.now in
    let left = read_pattern table c.args.taken.now.left in
    let right = read_pattern table c.args.taken.now.right in
    let app = is_application _ table c.args.taken.now.left c.is_application.ensures c.if-not-is_application.false in
    let short : size left ≤ 255 = omega (arith, size_read table c.args.taken.now.left) in
    let fits : size right ≤ 65535 = omega (arith, size_read table c.args.taken.now.right) in
    let lt : c.args.before < 2048 = omega arith in
    let related = subst (λ ts. AreRelated (λ (w : Condition) (u : TakenCondition). TakesCondition (notation_of syntax) text known table w.variable w.restriction u) (map condition c.deref.result.now) ts) (sym c.deref-2.ensures.value)
    (subst (λ cs. AreRelated (λ (w : Condition) (u : TakenCondition). TakesCondition (notation_of syntax) text known table w.variable w.restriction u) (map condition cs) c.args.taken.now.conditions.items) (sym c.deref.ensures.value) t.conditions) in
    let rest = subst (λ cs. AnswersLimits (notation_of syntax) text known (map (Cells 255) (flat_map alternatives_of (map condition cs))) c.conditions_fault.result) c.deref.ensures.value (c.conditions_fault.ensures syntax text known table related) in
    answers_behind (notation_of syntax) text known (Equations c.args.before written.left ∷ Application written.left ∷ Cells 255 written.left ∷ Cells 65535 written.right ∷ []) _ c.conditions_fault.result
    (lt, ((left, t.left.means, app), ((left, t.left.means, short), ((right, t.right.means, fits), tt)))) rest
