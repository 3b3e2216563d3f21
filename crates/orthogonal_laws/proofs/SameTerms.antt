-- Equality of terms is decided.
use Rattle.std.proofs.Common.{◌≡◌, Bool, true, false, ◌⊎◌, inl, inr, refl, ap}
use Rattle.std.specs.Prelude.{◌↔◌, IsTrue}
use Rattle.eq_base.specs.Tree.{Tree, Forest, node, empty, grow}
use Rattle.eq_base.specs.declared.head.Head.{Head}
use Rattle.eq_base.specs.Meeting.{same_head}
use Rattle.eq_base.proofs.ClassMembers.{same_head_decides}

head_or_not : (g h : Head) → (g ≡ h) ⊎ (g ≡ h → ⊥)
head_or_not g h = by_test (same_head g h) (same_head_decides g h)
  where
    by_test : (b : Bool) → IsTrue b ↔ (g ≡ h) → (g ≡ h) ⊎ (g ≡ h → ⊥)
    by_test true d = inl (d.0 refl)
    by_test false d = inr (λ e. let z = d.1 e in absurd (cc))

trees_or_not : (ts us : Forest Head) → (ts ≡ us) ⊎ (ts ≡ us → ⊥)
trees_or_not empty empty = inl refl
trees_or_not empty (grow u us) = inr (λ e. cc)
trees_or_not (grow t ts) empty = inr (λ e. cc)
trees_or_not (grow (node g ts) rest) (grow (node h us) others) =
    elim (head_or_not g h) [
      | inr n ↦ inr (λ e. n (cc))
      | inl e ↦ elim (trees_or_not ts us) [
        | inr n ↦ inr (λ e. n (cc))
        | inl e' ↦ elim (trees_or_not rest others) [ inr n ↦ inr (λ e. n (cc)) | inl e'' ↦ inl (rw (e, e', e'') refl) ]
      ]
    ]

-- terms that are not different are the same
pub not_different : (t u : Tree Head) → ((t ≡ u → ⊥) → ⊥) → t ≡ u
not_different t u n = elim (trees_or_not (grow t empty) (grow u empty)) [ inl e ↦ (let z = e in cc) | inr m ↦ absurd (n (λ e. m (ap (λ z. grow z empty) e))) ]
