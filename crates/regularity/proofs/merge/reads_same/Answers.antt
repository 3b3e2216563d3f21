use Rattle.std.proofs.Common.{◌≡◌, Some, arith, refl, sym, ap, ◌∙◌}
use Rattle.eq_base.specs.Tree.{head_of, nth_subtree}
use Rattle.eq_base.specs.Cells.{variable_in}
use Rattle.regularity.specs.Occurrences.{variable_of}
use Rattle.regularity.proofs.Occurrences.{variable_at_root}
use Rattle.regularity.proofs.Finding.{fill-variable}
use Rattle.regularity.proofs.Readings.{rights_start, rights_there, rights_end, rights_differ, rights_pass, rights_cell_differs, rights_cell_on, can_merge_back}
use Rattle.regularity.proofs.merge.reads_same.Goals as goal
use Rattle.regularity.proofs.merge.reads_same.Goals.{In-Some, In-Some-variable}

variable_here : (c : In-Some) → variable_of (head_of (nth_subtree c.args.right.now c.loop-at.at)) ≡ Some c.in-Some.variable
variable_here c = sym (variable_at_root (nth_subtree c.args.right.now c.loop-at.at)) ∙ ap variable_in (sym c.cell-cell.ensures.value) ∙ sym c.variable.ensures ∙ c.in-Some.is

variable_beside : (c : In-Some-variable) → variable_of (head_of (nth_subtree c.args.other_right.now c.loop-at.beside)) ≡ Some c.in-Some-variable.variable
variable_beside c = sym (variable_at_root (nth_subtree c.args.other_right.now c.loop-at.beside)) ∙ ap variable_in (sym c.cell-other_cell.ensures.value) ∙ sym c.variable-in_default.ensures ∙ c.in-Some-variable.is

pub loop-at-init : goal.loop-at-init
loop-at-init c = rights_start c.args.left.now c.args.right.now c.args.other.now c.args.other_right.now

pub prove-unreachable-requires : goal.prove-unreachable-requires
prove-unreachable-requires c =
    let there = rights_there c.args.left.now c.args.right.now c.args.other.now c.args.other_right.now c.loop-at.at c.loop-at.beside c.loop-at.invariant (omega arith) in
    omega arith

pub find-part-requires-clause-occurs : goal.find-part-requires-clause-occurs
find-part-requires-clause-occurs c = c.requires.right c.loop-at.at c.in-Some.variable (record { there = omega arith; is = variable_here (goal.at.find-part-requires-clause-occurs c).In-Some })

pub reads_as-requires-clause-merge : goal.reads_as-requires-clause-merge
reads_as-requires-clause-merge c = can_merge_back c.args.left.now c.args.other.now c.requires.merge

pub returns-then-not-reads_as : goal.returns-then-not-reads_as
returns-then-not-reads_as c =
    let own = variable_here (goal.at.returns-then-not-reads_as c).In-Some in
    λ θ η e f. (
      λ answer. cc,
      λ same. absurd (rights_differ c.args.left.now c.args.right.now c.args.other.now c.args.other_right.now c.loop-at.at c.loop-at.beside c.loop-at.invariant (omega arith) (rights_there c.args.left.now c.args.right.now c.args.other.now c.args.other_right.now c.loop-at.at c.loop-at.beside c.loop-at.invariant (omega arith))
          (λ θ η e f first. let answer = (c.reads_as.ensures η f).1 (sym first ∙ fill-variable θ (nth_subtree c.args.right.now c.loop-at.at) c.in-Some.variable own ∙ c.find-part.ensures.value θ e) in let none = c.if-not-reads_as.true in cc)
          θ η e f same),
    )

pub loop-at-preserved-in-Some : goal.loop-at-preserved-in-Some
loop-at-preserved-in-Some c =
    let own = variable_here (goal.at.loop-at-preserved-in-Some c).In-Some in
    rw (c.end_of-at.ensures, c.end_of-beside.ensures)
    (rights_pass c.args.left.now c.args.right.now c.args.other.now c.args.other_right.now c.loop-at.at c.loop-at.beside c.loop-at.invariant (omega arith) (rights_there c.args.left.now c.args.right.now c.args.other.now c.args.other_right.now c.loop-at.at c.loop-at.beside c.loop-at.invariant (omega arith))
    (λ θ η e f. fill-variable θ (nth_subtree c.args.right.now c.loop-at.at) c.in-Some.variable own ∙ c.find-part.ensures.value θ e ∙ sym ((c.reads_as.ensures η f).0 c.if-not-reads_as.false)))

pub find-part-requires-in-Some-variable-clause-merge : goal.find-part-requires-in-Some-variable-clause-merge
find-part-requires-in-Some-variable-clause-merge c = can_merge_back c.args.left.now c.args.other.now c.requires.merge

pub find-part-requires-in-Some-variable-clause-occurs : goal.find-part-requires-in-Some-variable-clause-occurs
find-part-requires-in-Some-variable-clause-occurs c = c.requires.other_right c.loop-at.beside c.in-Some-variable.variable (record { there = rights_there c.args.left.now c.args.right.now c.args.other.now c.args.other_right.now c.loop-at.at c.loop-at.beside c.loop-at.invariant (omega arith); is = variable_beside (goal.at.find-part-requires-in-Some-variable-clause-occurs c).In-Some-variable })

pub returns-then-not-reads_as-2 : goal.returns-then-not-reads_as-2
returns-then-not-reads_as-2 c =
    let own = variable_beside (goal.at.returns-then-not-reads_as-2 c).In-Some-variable in
    λ θ η e f. (
      λ answer. cc,
      λ same. absurd (rights_differ c.args.left.now c.args.right.now c.args.other.now c.args.other_right.now c.loop-at.at c.loop-at.beside c.loop-at.invariant (omega arith) (rights_there c.args.left.now c.args.right.now c.args.other.now c.args.other_right.now c.loop-at.at c.loop-at.beside c.loop-at.invariant (omega arith))
          (λ θ η e f first. let answer = (c.reads_as-in-Some-variable.ensures θ e).1 (first ∙ fill-variable η (nth_subtree c.args.other_right.now c.loop-at.beside) c.in-Some-variable.variable own ∙ c.find-part-in-Some-variable.ensures.value η f) in let none = c.if-not-reads_as-2.true in cc)
          θ η e f same),
    )

pub loop-at-preserved-in-Some-variable : goal.loop-at-preserved-in-Some-variable
loop-at-preserved-in-Some-variable c =
    let own = variable_beside (goal.at.loop-at-preserved-in-Some-variable c).In-Some-variable in
    rw (c.end_of-at-in-Some-variable.ensures, c.end_of-beside-in-Some-variable.ensures)
    (rights_pass c.args.left.now c.args.right.now c.args.other.now c.args.other_right.now c.loop-at.at c.loop-at.beside c.loop-at.invariant (omega arith) (rights_there c.args.left.now c.args.right.now c.args.other.now c.args.other_right.now c.loop-at.at c.loop-at.beside c.loop-at.invariant (omega arith))
    (λ θ η e f. (c.reads_as-in-Some-variable.ensures θ e).0 c.if-not-reads_as-2.false ∙ sym (fill-variable η (nth_subtree c.args.other_right.now c.loop-at.beside) c.in-Some-variable.variable own ∙ c.find-part-in-Some-variable.ensures.value η f)))

pub returns-then-not-is_same_cell : goal.returns-then-not-is_same_cell
returns-then-not-is_same_cell c =
    λ θ η e f. (
      λ answer. cc,
      λ same. absurd (rights_cell_differs c.args.left.now c.args.right.now c.args.other.now c.args.other_right.now c.loop-at.at c.loop-at.beside c.loop-at.invariant (omega arith)
          c.cell-cell.result c.cell-other_cell.result c.cell-cell.ensures.value c.cell-other_cell.ensures.value c.cell-cell.ensures.arity c.cell-other_cell.ensures.arity (sym c.variable.ensures ∙ c.in_default.is) (sym c.variable-in_default.ensures ∙ c.in_default-variable.is)
          (λ g. let answer = c.is_same_cell.ensures.1 g in let none = c.if-not-is_same_cell.true in cc) θ η e f same),
    )

pub loop-at-preserved : goal.loop-at-preserved
loop-at-preserved c =
    rights_cell_on c.args.left.now c.args.right.now c.args.other.now c.args.other_right.now c.loop-at.at c.loop-at.beside c.loop-at.invariant (omega arith)
    c.cell-cell.result c.cell-other_cell.result c.cell-cell.ensures.value c.cell-other_cell.ensures.value c.cell-cell.ensures.arity c.cell-other_cell.ensures.arity (sym c.variable.ensures ∙ c.in_default.is) (sym c.variable-in_default.ensures ∙ c.in_default-variable.is)
    (c.is_same_cell.ensures.0 c.if-not-is_same_cell.false)

pub returns : goal.returns
returns c = λ θ η e f. (λ answer. rights_end c.args.left.now c.args.right.now c.args.other.now c.args.other_right.now c.loop-at.at c.loop-at.beside c.loop-at.invariant (omega arith) θ η e f, λ same. refl)
