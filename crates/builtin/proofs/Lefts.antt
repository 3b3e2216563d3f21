-- The cells of the left sides of operations.
use Rattle.std.proofs.Common.{◌≡◌, ◌≢◌, ℕ, [], ◌∷◌, true, false, refl, sym, ◌∙◌, ap, arith}
use Rattle.eq_base.specs.Tree.{Tree, Forest, node, empty, grow, arity_of, size, nth_subtree, cells}
use Rattle.eq_base.specs.Pattern.{PatternCell, fixed, variable, restricted}
use Rattle.eq_base.specs.Cells.{root_cell}
use Rattle.eq_base.specs.Meeting.{class_number}
use Rattle.eq_base.specs.Operations.{application, operand_class}
use Rattle.eq_base.specs.declared.head.Head.{Head}
use Rattle.eq_base.specs.declared.head.Cell.TheVariants.{Class}
use Rattle.builtin.specs.Lefts.{IsHeadCell, IsOverOne, IsOverTwo}
use Rattle.eq_base.specs.declared.rules.Op.{Op}
use Rattle.eq_base.proofs.Trees.{cells-injective}
use Rattle.eq_base.specs.declared.rules.Op.TheVariants.{AddInt, SubInt, MultInt, DivInt, ModInt, EquInt, LessInt, EquAtom, EquStr, ConcatStr, LengthStr}

-- every operation but the length of a string has two operands
pub application_cells : (op : Op) (f : Head) → op ≢ LengthStr → cells (application op f) ≡ (fixed f, 2) ∷ (restricted 0 (class_number (operand_class op)), 0) ∷ (restricted 1 (class_number (operand_class op)), 0) ∷ []
application_cells AddInt f other = refl
application_cells SubInt f other = refl
application_cells MultInt f other = refl
application_cells DivInt f other = refl
application_cells ModInt f other = refl
application_cells EquInt f other = refl
application_cells LessInt f other = refl
application_cells EquAtom f other = refl
application_cells EquStr f other = refl
application_cells ConcatStr f other = refl
application_cells LengthStr f other = absurd (other refl)

-- the pattern of these cells is the left side
pub two_operands : (op : Op) (f : Head) (class : ℕ) (left : Tree (PatternCell Head)) → op ≢ LengthStr → class ≡ class_number (operand_class op) → cells left ≡ (fixed f, 2) ∷ (restricted 0 class, 0) ∷ (restricted 1 class, 0) ∷ [] → left ≡ application op f
two_operands op f class left other e is = cells-injective left (application op f) (is ∙ rw e (sym (application_cells op f other)))

pub one_operand : (op : Op) (f : Head) (class : ℕ) (left : Tree (PatternCell Head)) → op ≡ LengthStr → class ≡ class_number (operand_class op) → cells left ≡ (fixed f, 1) ∷ (restricted 0 class, 0) ∷ [] → left ≡ application op f
one_operand op f class left e e' is =
    let same : class ≡ class_number (operand_class LengthStr) = e' ∙ ap (λ op. class_number (operand_class op)) e in
    rw e (cells-injective left (application LengthStr f) (is ∙ rw same refl))

-- ---- which patterns are a head over variables in a class

-- a test that failed did not hold
pub not_true : false ≡ true → ⊥
not_true e = cc

head_is : (a : PatternCell Head) (ps : Forest (PatternCell Head)) → IsHeadCell (root_cell (node a ps)) → (f : Head) × (a ≡ fixed f)
head_is (fixed f) ps is = (f, refl)
head_is (variable x) ps is = absurd (let e = is.2 in cc)
head_is (restricted x class) ps is = absurd (let e = is.2 in cc)

operand_is : (b : PatternCell Head) (ps : Forest (PatternCell Head)) (x class : ℕ) → root_cell (node b ps) ≡ Class x class → b ≡ restricted x class
operand_is (fixed f) ps x class is = absurd (cc)
operand_is (variable y) ps x class is = absurd (cc)
operand_is (restricted y k) ps x class is = let same : y ≡ x = cc in let same' : k ≡ class = cc in rw (same, same') refl

pub over_one_is : (class : ℕ) (p : Tree (PatternCell Head)) → size p ≡ 2 → IsHeadCell (root_cell (nth_subtree p 0)) → root_cell (nth_subtree p 1) ≡ Class 0 class → IsOverOne class p
over_one_is class (node a empty) e head one = absurd (omega arith)
over_one_is class (node a (grow (node b (grow (node c cs) bs)) ts)) e head one = absurd (omega arith)
over_one_is class (node a (grow (node b empty) (grow (node c cs) ts))) e head one = absurd (omega arith)
over_one_is class (node a (grow (node b empty) empty)) e head one =
    let f = head_is a _ head in
    (f.0, ap (λ h. node h (grow (node b empty) empty)) f.1 ∙ ap (λ x. node (fixed f.0) (grow (node x empty) empty)) (operand_is b empty 0 class one))

pub over_two_is : (class : ℕ) (p : Tree (PatternCell Head)) → size p ≡ 3 → IsHeadCell (root_cell (nth_subtree p 0)) → root_cell (nth_subtree p 1) ≡ Class 0 class → arity_of (nth_subtree p 1) ≡ 0 → root_cell (nth_subtree p 2) ≡ Class 1 class → IsOverTwo class p
over_two_is class (node a empty) e head one none other = absurd (omega arith)
over_two_is class (node a (grow (node b (grow c bs)) ts)) e head one none other = absurd (omega arith)
over_two_is class (node a (grow (node b empty) empty)) e head one none other = absurd (omega arith)
over_two_is class (node a (grow (node b empty) (grow (node c (grow (node d ds) cs)) ts))) e head one none other = absurd (omega arith)
over_two_is class (node a (grow (node b empty) (grow (node c empty) (grow (node d ds) ts)))) e head one none other = absurd (omega arith)
over_two_is class (node a (grow (node b empty) (grow (node c empty) empty))) e head one none other =
    let f = head_is a _ head in (
      f.0,
      ap (λ h. node h (grow (node b empty) (grow (node c empty) empty))) f.1
          ∙ ap (λ x. node (fixed f.0) (grow (node x empty) (grow (node c empty) empty))) (operand_is b empty 0 class one)
          ∙ ap (λ y. node (fixed f.0) (grow (node (restricted 0 class) empty) (grow (node y empty) empty))) (operand_is c empty 1 class other),
    )
