-- The position of a node, by the argument in which it lies.
use Rattle.std.proofs.Common.{◌≡◌, ℕ, ◌+◌, ◌-◌, ◌<◌, ◌≤◌, Some, [], ◌∷◌, refl, sym, ◌∙◌, ap, arith}
use Rattle.eq_base.specs.Tree.{Tree, node, arity_of, size, nth_subtree, nth_position, subtree_at, number}
use Rattle.eq_base.proofs.Trees.{argument_of, subtree_at-argument_of}
use Rattle.eq_base.proofs.Positions.{subtree_at-nth_position}
use Rattle.eq_base.proofs.Replacing.{number-nth_position}
use Rattle.eq_base.proofs.Numbers.{subtree-append, number-append, position-number}
use Rattle.eq_base.proofs.Arguments.{place_of}

module _ {A : Type 0} where
  -- the position of a node below an argument
  below_argument : (s u : Tree A) (i n : ℕ) → subtree_at s (i ∷ []) ≡ Some u → n < size u → nth_position s (number s (i ∷ []) + n) ≡ i ∷ nth_position u n
  below_argument s u i n e lt =
      let q = nth_position u n in
      let there : subtree_at s (i ∷ q) ≡ Some (nth_subtree u n) = subtree-append s (i ∷ []) q u e ∙ subtree_at-nth_position u n lt in
      let place : number s (i ∷ []) + n ≡ number s (i ∷ q) = omega (arith, number-append s (i ∷ []) q u e, number-nth_position u n lt) in
      ap (nth_position s) place ∙ position-number s (i ∷ q) (nth_subtree u n) there

  -- the way to a node goes on from the argument in which it lies
  pub way_on : (t : Tree A) (at i argument target : ℕ) → at < size t → i < arity_of (nth_subtree t at) → argument ≡ argument_of t at i → argument ≤ target → target < argument + size (nth_subtree t argument) → nth_position (nth_subtree t at) (target - at) ≡ i ∷ nth_position (nth_subtree t argument) (target - argument)
  way_on t at i argument target lt there place before within =
      let s = nth_subtree t at in
      let u = nth_subtree t argument in
      let stands : subtree_at s (i ∷ []) ≡ Some u = subtree_at-argument_of t at i lt there ∙ ap (λ k. Some (nth_subtree t k)) (sym place) in
      let first = place_of s i u stands in
      let past : target - at ≡ number s (i ∷ []) + (target - argument) = omega (arith, place, first, before) in
      ap (nth_position s) past ∙ below_argument s u i (target - argument) stands (omega (arith, before, within))

  -- the way to the root has no arguments
  pub nth_position-zero : (t : Tree A) → nth_position t 0 ≡ []
  nth_position-zero (node a args) = refl
