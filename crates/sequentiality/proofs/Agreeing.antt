-- Cells with neither a clash nor a mismatch, and positions where such cells stand.
use Rattle.std.proofs.Common.{◌≡◌, Some, subst, ⊎_elim}
use Rattle.eq_base.specs.Tree.{Tree, head_of, Position, subtree_at}
use Rattle.eq_base.specs.Pattern.{PatternCell, Classes, IsTested}
use Rattle.eq_base.specs.Testing.{ClashAt}
use Rattle.regularity.specs.Facing.{DoClash, IsMismatch, IsSameHead}
use Rattle.regularity.proofs.Facings.{same_head_no_clash}
use Rattle.regularity.proofs.Clashes.{do_clash}
use Rattle.sequentiality.specs.Comparing.{MismatchAt, AgreeAt}

module _ {H : Type 0} (in_class : Classes H) where
  -- the cells have neither a clash nor a mismatch
  abbrev pub Agree : PatternCell H → PatternCell H → Type 0
  Agree c d = (DoClash in_class c d → ⊥) × (IsMismatch c d → ⊥)

  same_head_no_mismatch : (c d : PatternCell H) → IsSameHead c d → IsMismatch c d → ⊥
  same_head_no_mismatch c d s m = ⊎_elim (λ w. w.1 (rw s.2 tt)) (λ w. w.0 (rw s.1 tt)) m

  pub same_heads_agree : (c d : PatternCell H) → IsSameHead c d → Agree c d
  same_heads_agree c d s = (same_head_no_clash in_class c d s, same_head_no_mismatch c d s)

  module _ (p r : Tree (PatternCell H)) (q : Position) where
    -- where all cells at a position agree, so do the patterns
    pub agree_at : ((one other : Tree (PatternCell H)) → subtree_at p q ≡ Some one → subtree_at r q ≡ Some other → Agree (head_of one) (head_of other)) → AgreeAt in_class p r q
    agree_at all = record {
      no_clash = λ clash. (all clash.one.part clash.other.part clash.one.stands clash.other.stands).0 (do_clash in_class p r q clash);
      no_mismatch = λ m. (all m.one m.other m.one_stands m.other_stands).1 m.differ;
    }

-- a position with a clash has no mismatch
pub clash_no_mismatch : {H : Type 0} (in_class : Classes H) (p r : Tree (PatternCell H)) (q : Position) → ClashAt in_class p r q → MismatchAt p r q → ⊥
clash_no_mismatch in_class p r q c m =
    let one : c.one.part ≡ m.one = let a = c.one.stands in let b = m.one_stands in cc in
    let other : c.other.part ≡ m.other = let a = c.other.stands in let b = m.other_stands in cc in
    ⊎_elim
    (λ w. w.1 (subst (λ t. IsTested (head_of t)) other c.other.tested))
    (λ w. w.0 (subst (λ t. IsTested (head_of t)) one c.one.tested))
    m.differ
