-- The strategy of a system and of its image, where the image can be mapped back: next redexes are at the same positions.
use Rattle.std.proofs.Common.{◌≡◌, ℕ, [], ◌∷◌, sym, subst, ⊎_elim}
use Rattle.std.specs.Prelude.{◌<◌}
use Rattle.eq_base.specs.Tree.{Tree, map_heads, Position, size, nth_subtree, nth_position}
use Rattle.eq_base.specs.Rewriting.{System, IsRedexBy, IsRedex, IsNormal}
use Rattle.eq_base.proofs.Trees.{size-map_heads, nth_subtree-map_heads}
use Rattle.eq_base.proofs.Mapped.{subtree_at-map, subtree_at-unmap, map-back, nth_position-map}
use Rattle.orthogonal_laws.specs.Orthogonal.{IsWellFormedSystem, IsOrthogonal}
use Rattle.orthogonal_laws.specs.Strategy.{IsDemanded, IsDemandedRedex, at_root, at_demanded, HasNoDemandedRedex, none_demanded, IsNext, demanded, in_argument, HasNoNext, none_next}
use Rattle.orthogonal_laws.specs.Next.{IsFirstFit, IsNextRedex}
use Rattle.orthogonal_laws.proofs.Images.{IsImage, redex_by-image, redex-image, demanded-image, orthogonal-back, well_formed-back}
use Rattle.orthogonal_laws.proofs.Deciding.{no_next_redex-normal, normal-no_next_redex}
use Rattle.orthogonal_laws.proofs.NextLaws.{next_one, next_not_normal, normal_or_next_redex}

module _ {A B : Type 0} (f : A → B) (g : B → A) (back : (a : A) → g (f a) ≡ a) (S : System A) (T : System B) (image : IsImage f S T) (returns : IsImage g T S) where
  -- ---- redexes and demand, mapped back

  pub redex_by-back : (n : ℕ) (t : Tree A) → IsRedexBy T n (map_heads f t) → IsRedexBy S n t
  redex_by-back n t r = subst (λ t. IsRedexBy S n t) (map-back f g back t) (redex_by-image g T S returns n (map_heads f t) r)

  pub redex-back : (t : Tree A) → IsRedex T (map_heads f t) → IsRedex S t
  redex-back t r = subst (λ t. IsRedex S t) (map-back f g back t) (redex-image g T S returns (map_heads f t) r)

  pub demanded-back : (t : Tree A) (q : Position) → IsDemanded T (map_heads f t) q → IsDemanded S t q
  demanded-back t q d = subst (λ t. IsDemanded S t q) (map-back f g back t) (demanded-image g T S returns (map_heads f t) q d)

  -- ---- the strategy of the image

  mutual
    pub none_demanded-image : (t : Tree A) → HasNoDemandedRedex S t → HasNoDemandedRedex T (map_heads f t)
    none_demanded-image t (none_demanded none each) =
        none_demanded (λ r. none (redex-back t r))
        (λ r u d e. let s = subtree_at-unmap f t r u e in subst (λ u. HasNoDemandedRedex T u) s.2 (none_demanded-image s.0 (each r s.0 (demanded-back t r d) s.1)))

    pub demanded_redex-image : (t : Tree A) (q : Position) → IsDemandedRedex S t q → IsDemandedRedex T (map_heads f t) q
    demanded_redex-image t q (at_root r) = at_root (redex-image f S T image t r)
    demanded_redex-image t whole (at_demanded q p s none d e rest before is) =
        at_demanded q p (map_heads f s) (λ r. none (redex-back t r)) (demanded-image f S T image t q d) (subtree_at-map f t q s e) (demanded_redex-image s p rest)
        (λ r u b d e. let s = subtree_at-unmap f t r u e in subst (λ u. HasNoDemandedRedex T u) s.2 (none_demanded-image s.0 (before r s.0 b (demanded-back t r d) s.1)))
        is

  mutual
    pub none_next-image : (t : Tree A) → HasNoNext S t → HasNoNext T (map_heads f t)
    none_next-image t (none_next none each) =
        none_next (none_demanded-image t none) (λ j u e. let s = subtree_at-unmap f t (j ∷ []) u e in subst (λ u. HasNoNext T u) s.2 (none_next-image s.0 (each j s.0 s.1)))

    pub next-image : (t : Tree A) (q : Position) → IsNext S t q → IsNext T (map_heads f t) q
    next-image t q (demanded d) = demanded (demanded_redex-image t q d)
    next-image t whole (in_argument i q s none e next before) =
        in_argument i q (map_heads f s) (none_demanded-image t none) (subtree_at-map f t (i ∷ []) s e) (next-image s q next)
        (λ j u b e. let s = subtree_at-unmap f t (j ∷ []) u e in subst (λ u. HasNoNext T u) s.2 (none_next-image s.0 (before j s.0 b s.1)))

  -- ---- next redexes, both ways, where the image is orthogonal

  module _ (w : IsWellFormedSystem T) (o : IsOrthogonal T) where
    own_well_formed : IsWellFormedSystem S
    own_well_formed = well_formed-back f g back S T image returns w

    own_orthogonal : IsOrthogonal S
    own_orthogonal = orthogonal-back f g back S T image returns o

    pub next-back : (t : Tree A) (q : Position) → IsNext T (map_heads f t) q → IsNext S t q
    next-back t q next =
        ⊎_elim
        (λ normal. absurd (next_not_normal T w o (map_heads f t) q next (no_next_redex-normal T w o (map_heads f t) (none_next-image t (normal-no_next_redex S own_well_formed own_orthogonal t normal)))))
        (λ found. subst (λ q. IsNext S t q) (next_one T w o (map_heads f t) found.0 q (next-image t found.0 found.1) next) found.1)
        (normal_or_next_redex S own_well_formed own_orthogonal t)

    pub normal-image : (t : Tree A) → IsNormal S t → IsNormal T (map_heads f t)
    normal-image t normal = no_next_redex-normal T w o (map_heads f t) (none_next-image t (normal-no_next_redex S own_well_formed own_orthogonal t normal))

    pub normal-back : (t : Tree A) → IsNormal T (map_heads f t) → IsNormal S t
    normal-back t normal =
        ⊎_elim (λ is. is) (λ found. absurd (next_not_normal T w o (map_heads f t) found.0 (next-image t found.0 found.1) normal)) (normal_or_next_redex S own_well_formed own_orthogonal t)

    -- ---- by the numbers of nodes

    first_fit-back : (t : Tree A) (n : ℕ) → IsFirstFit T n (map_heads f t) → IsFirstFit S n t
    first_fit-back t n fit = record {
      redex = redex_by-back n t fit.redex;
      first = λ k lt r. fit.first k lt (redex_by-image f S T image k t r);
    }

    first_fit-image : (t : Tree A) (n : ℕ) → IsFirstFit S n t → IsFirstFit T n (map_heads f t)
    first_fit-image t n fit = record {
      redex = redex_by-image f S T image n t fit.redex;
      first = λ k lt r. fit.first k lt (redex_by-back k t r);
    }

    pub next_redex-back : (t : Tree A) (at n : ℕ) → IsNextRedex T (map_heads f t) at n → IsNextRedex S t at n
    next_redex-back t at n next =
        let there : at < size t = subst (λ z. at < z) (size-map_heads f t) next.there in
        record {
          there = there;
          next = next-back t (nth_position t at) (subst (λ q. IsNext T (map_heads f t) q) (nth_position-map f t at) next.next);
          first = first_fit-back (nth_subtree t at) n (subst (λ s. IsFirstFit T n s) (nth_subtree-map_heads f t at there) next.first);
        }

    pub next_redex-image : (t : Tree A) (at n : ℕ) → IsNextRedex S t at n → IsNextRedex T (map_heads f t) at n
    next_redex-image t at n next =
        record {
          there = subst (λ z. at < z) (sym (size-map_heads f t)) next.there;
          next = subst (λ q. IsNext T (map_heads f t) q) (sym (nth_position-map f t at)) (next-image t (nth_position t at) next.next);
          first = subst (λ s. IsFirstFit T n s) (sym (nth_subtree-map_heads f t at next.there)) (first_fit-image (nth_subtree t at) n next.first);
        }
