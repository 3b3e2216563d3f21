use Rattle.std.proofs.Common.{◌≡◌, ◌+◌, ◌-◌, Some, arith, refl, sym, ap, ◌∙◌}
use Rattle.eq_base.specs.Tree.{size, head_of, nth_subtree}
use Rattle.eq_base.specs.Pattern.{fixed}
use Rattle.eq_base.specs.Cells.{variable_in}
use Rattle.eq_base.specs.declared.head.Head as heads
use Rattle.eq_base.proofs.Trees.{end_within}
use Rattle.eq_base.proofs.Numbers.{has_node}
use Rattle.regularity.specs.declared.facing.Facing.TheVariants as facing
use Rattle.regularity.specs.Occurrences.{variable_of}
use Rattle.regularity.proofs.Occurrences.{variable_at_root}
use Rattle.regularity.proofs.Facings.{faced, passed}
use Rattle.regularity.proofs.Finding.{find_start, find_there, find_small, find_no_clash, find_here, find_inside, find_down, find_no_variable, find_past_own, find_past_other, other_no_head, head_of_root, no_head, same_variable, other_variable}
use Rattle.regularity.proofs.merge.find.Goals as goal
use Rattle.regularity.proofs.merge.find.Goals.{Then-prove, Else-own-end, In_default, In-Mismatch}

pub loop-at-init : goal.loop-at-init
loop-at-init c = find_start c.args.left.now c.args.other.now c.args.variable c.requires.merge

pub prove-unreachable-requires : goal.prove-unreachable-requires
prove-unreachable-requires c =
    let there = find_there c.args.left.now c.args.other.now c.args.variable c.requires.merge c.loop-at.at c.loop-at.beside c.loop-at.name c.loop-at.invariant (omega arith) in
    omega arith

pub returns-then-eq-clause-value : goal.returns-then-eq-clause-value
returns-then-eq-clause-value c =
    let own : variable_of (head_of (nth_subtree c.args.left.now c.loop-at.at)) ≡ Some c.args.variable = sym (variable_at_root (nth_subtree c.args.left.now c.loop-at.at)) ∙ ap variable_in (sym c.cell-cell.ensures.value) ∙ sym c.variable.ensures ∙ same_variable c.variable.result c.args.variable c.if-eq.ensures in
    find_here c.args.left.now c.args.other.now c.args.variable c.requires.merge c.loop-at.at c.loop-at.beside c.loop-at.name c.loop-at.invariant (omega arith) own

pub unreachable-requires : goal.unreachable-requires
unreachable-requires c =
    let s = nth_subtree c.args.left.now c.loop-at.at in
    let u = nth_subtree c.args.other.now c.loop-at.beside in
    find_no_clash c.args.left.now c.args.other.now c.args.variable c.requires.merge c.loop-at.at c.loop-at.beside c.loop-at.name c.loop-at.invariant (omega arith)
    (faced c.args.classes.now s u _ _ _ facing.Clash c.cell-cell.ensures.value c.cell.ensures.value c.in-Clash.is c.facing_of.ensures)

pub loop-at-preserved-in-SameHead : goal.loop-at-preserved-in-SameHead
loop-at-preserved-in-SameHead c =
    let s = nth_subtree c.args.left.now c.loop-at.at in
    let u = nth_subtree c.args.other.now c.loop-at.beside in
    find_down c.args.left.now c.args.other.now c.args.variable c.requires.merge c.loop-at.at c.loop-at.beside c.loop-at.name c.loop-at.invariant (omega arith)
    (faced c.args.classes.now s u _ _ _ facing.SameHead c.cell-cell.ensures.value c.cell.ensures.value c.in-SameHead.is c.facing_of.ensures)
    (λ own. other_variable c.variable.result c.args.variable c.if-eq.ensures (c.variable.ensures ∙ ap variable_in c.cell-cell.ensures.value ∙ variable_at_root (nth_subtree c.args.left.now c.loop-at.at) ∙ own))

pub first_occurrence-own-requires-clause-end : goal.first_occurrence-own-requires-clause-end
first_occurrence-own-requires-clause-end c = omega (arith, c.end_of-end.ensures, end_within c.args.left.now c.loop-at.at (omega arith))

pub returns-then-own-end-clause-value : goal.returns-then-own-end-clause-value
returns-then-own-end-clause-value c =
    let s = nth_subtree c.args.left.now c.loop-at.at in
    let u = nth_subtree c.args.other.now c.loop-at.beside in
    let root = head_of_root s c.in-Head.field-0 c.in-Head.field-1 (sym c.cell-cell.ensures.value ∙ c.in-Head.is) in
    let either = (passed c.args.classes.now _ _ _ c.in-Mismatch.is (faced c.args.classes.now s u _ _ _ _ c.cell-cell.ensures.value c.cell.ensures.value refl c.facing_of.ensures)).1 in
    find_inside c.args.left.now c.args.other.now c.args.variable c.requires.merge c.loop-at.at c.loop-at.beside c.loop-at.name c.loop-at.invariant (omega arith)
    c.in-Head.field-0 root (other_no_head c.in-Head.field-0 root either) c.first_occurrence-own.result c.first_occurrence-own.ensures.from (omega (arith, c.end_of-end.ensures)) (c.first_occurrence-own.ensures.found c.if-own-end.true)

pub overflow_add-name-in_default : goal.overflow_add-name-in_default
overflow_add-name-in_default c =
    let small = find_small c.args.left.now c.args.other.now c.args.variable c.requires.merge c.loop-at.at c.loop-at.beside c.loop-at.name c.loop-at.invariant (omega arith) in
    let there = find_there c.args.left.now c.args.other.now c.args.variable c.requires.merge c.loop-at.at c.loop-at.beside c.loop-at.name c.loop-at.invariant (omega arith) in
    omega (arith, c.end_of-other_end.ensures, c.requires.merge.other_size, end_within c.args.other.now c.loop-at.beside there)

pub loop-at-smaller-else-own-end : goal.loop-at-smaller-else-own-end
loop-at-smaller-else-own-end c = omega (arith, c.end_of-end.ensures, has_node (nth_subtree c.args.left.now c.loop-at.at))

pub loop-at-preserved-else-own-end : goal.loop-at-preserved-else-own-end
loop-at-preserved-else-own-end c =
    let s = nth_subtree c.args.left.now c.loop-at.at in
    let u = nth_subtree c.args.other.now c.loop-at.beside in
    let root = head_of_root s c.in-Head.field-0 c.in-Head.field-1 (sym c.cell-cell.ensures.value ∙ c.in-Head.is) in
    let either = (passed c.args.classes.now _ _ _ c.in-Mismatch.is (faced c.args.classes.now s u _ _ _ _ c.cell-cell.ensures.value c.cell.ensures.value refl c.facing_of.ensures)).1 in
    let wide : c.loop-at.name + (c.end_of-end.result - c.loop-at.at) ≡ c.loop-at.name + size s = omega (arith, c.end_of-end.ensures) in
    rw (wide, c.end_of-end.ensures, c.end_of-other_end.ensures)
    (find_past_own c.args.left.now c.args.other.now c.args.variable c.requires.merge c.loop-at.at c.loop-at.beside c.loop-at.name c.loop-at.invariant (omega arith) either
    (λ k from below o. c.first_occurrence-own.ensures.none k from (omega (arith, c.end_of-end.ensures, below)) o) c.in-Head.field-0 root)

pub loop-at-smaller : goal.loop-at-smaller
loop-at-smaller c = omega (arith, c.end_of-end.ensures, has_node (nth_subtree c.args.left.now c.loop-at.at))

pub loop-at-preserved : goal.loop-at-preserved
loop-at-preserved c =
    let s = nth_subtree c.args.left.now c.loop-at.at in
    let u = nth_subtree c.args.other.now c.loop-at.beside in
    let none : (h : heads.Head) → head_of s ≡ fixed h → ⊥ = no_head s (λ h m e. c.in_default.not-Head h m (c.cell-cell.ensures.value ∙ e)) in
    let either = (passed c.args.classes.now _ _ _ c.in-Mismatch.is (faced c.args.classes.now s u _ _ _ _ c.cell-cell.ensures.value c.cell.ensures.value refl c.facing_of.ensures)).1 in
    let wide : c.loop-at.name + (c.end_of-other_end.result - c.loop-at.beside) ≡ c.loop-at.name + size u = omega (arith, c.end_of-other_end.ensures) in
    rw (wide, c.end_of-end.ensures, c.end_of-other_end.ensures)
    (find_past_other c.args.left.now c.args.other.now c.args.variable c.requires.merge c.loop-at.at c.loop-at.beside c.loop-at.name c.loop-at.invariant (omega arith) either
    (find_no_variable c.args.left.now c.args.other.now c.args.variable c.requires.merge c.loop-at.at c.loop-at.beside c.loop-at.name c.loop-at.invariant (omega arith) none (λ own. other_variable c.variable.result c.args.variable c.if-eq.ensures (c.variable.ensures ∙ ap variable_in c.cell-cell.ensures.value ∙ variable_at_root (nth_subtree c.args.left.now c.loop-at.at) ∙ own))) none)
