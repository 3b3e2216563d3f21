-- What the facing of two cells says of the scan.
use Rattle.std.proofs.Common.{◌≡◌, ◌⊎◌, inl, inr, List, refl, ◌∙◌, ap, subst, ⊎_elim}
use Rattle.eq_base.specs.Tree.{Tree, node, head_of}
use Rattle.eq_base.specs.Pattern.{PatternCell, fixed, variable, restricted, Classes}
use Rattle.eq_base.specs.Cells.{kind_of, root_cell}
use Rattle.eq_base.specs.Meeting.{in_class_of}
use Rattle.eq_base.specs.declared.head.Head.{Head}
use Rattle.eq_base.specs.declared.head.Cell as cells
use Rattle.regularity.specs.Facing.{DoClash, IsMismatch, IsSameHead, IsFacing}
use Rattle.regularity.specs.declared.facing.Facing as facings
use Rattle.regularity.specs.declared.facing.Facing.TheVariants as facing

pub kind_of-root_cell : (p : Tree (PatternCell Head)) → kind_of (root_cell p) ≡ head_of p
kind_of-root_cell (node (fixed h) args) = refl
kind_of-root_cell (node (variable x) args) = refl
kind_of-root_cell (node (restricted x class) args) = refl

-- the facing of two read cells is that of the heads of their subtrees
pub faced : (classes : List (List Head)) (p r : Tree (PatternCell Head)) (one other : cells.Cell) (f g : facings.Facing) → one ≡ root_cell p → other ≡ root_cell r → f ≡ g → IsFacing classes (kind_of one) (kind_of other) f → IsFacing classes (head_of p) (head_of r) g
faced classes p r one other f g e e' is h =
    let one_is : kind_of one ≡ head_of p = ap kind_of e ∙ kind_of-root_cell p in
    let other_is : kind_of other ≡ head_of r = ap kind_of e' ∙ kind_of-root_cell r in
    subst (IsFacing classes (head_of p) (head_of r)) is (subst (λ d. IsFacing classes (head_of p) d f) other_is (subst (λ c. IsFacing classes c (kind_of other) f) one_is h))

module _ {H : Type 0} where
  -- one of the cells is no head
  abbrev pub HasVariable : PatternCell H → PatternCell H → Type 0
  HasVariable c d = ((g : H) → c ≡ fixed g → ⊥) ⊎ ((h : H) → d ≡ fixed h → ⊥)

  pub mismatch_no_clash : (in_class : Classes H) (c d : PatternCell H) → IsMismatch c d → DoClash in_class c d → ⊥
  mismatch_no_clash in_class c d m z = ⊎_elim (λ w. w.1 z.1) (λ w. w.0 z.0) m

  pub mismatch_variable : (c d : PatternCell H) → IsMismatch c d → HasVariable c d
  mismatch_variable c d m = ⊎_elim (λ w. inr (λ h e. w.1 (rw e tt))) (λ w. inl (λ g e. w.0 (rw e tt))) m

  pub same_head_no_clash : (in_class : Classes H) (c d : PatternCell H) → IsSameHead c d → DoClash in_class c d → ⊥
  same_head_no_clash in_class c d s z = z.2 s.0 (rw s.1 refl) (rw s.2 refl)

-- where neither the cells clash nor are the same head, the scan goes on behind them
pub passed : (classes : List (List Head)) (c d : PatternCell Head) (f : facings.Facing) → (f ≡ facing.Mismatch) ⊎ (f ≡ facing.Variable) → IsFacing classes c d f → (DoClash (in_class_of classes) c d → ⊥) × HasVariable c d
passed classes c d f is h =
    ⊎_elim
    (λ e. let m : IsMismatch c d = subst (IsFacing classes c d) e h in (mismatch_no_clash (in_class_of classes) c d m, mismatch_variable c d m))
    (λ e. let v = subst (IsFacing classes c d) e h in (v.no_clash, v.variable))
    is
