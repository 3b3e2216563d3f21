-- Demanded positions, the demanded redex and the next redex are decided, and there is at most one of each redex.
use Rattle.std.proofs.Common.{◌≡◌, ℕ, zero, suc, List, [], ◌∷◌, ◌⊎◌, inl, inr, Some, refl, subst}
use Rattle.eq_base.specs.Tree.{Tree, Forest, node, empty, grow, count, Position, subtree_in}
use Rattle.eq_base.specs.Pattern.{PatternCell}
use Rattle.eq_base.specs.Rewriting.{System, IsRedex, IsNormal}
use Rattle.orthogonal_laws.specs.Orthogonal.{IsWellFormedSystem, IsOrthogonal}
use Rattle.orthogonal_laws.specs.Strategy.{IsDemanded, IsDemandedRedex, HasNoDemandedRedex, HasNoNext}
use Rattle.orthogonal_laws.proofs.LeftSides.{fill, Redex}
use Rattle.orthogonal_laws.proofs.ForestStrategy.{DemandedRedex, demand_root}
use Rattle.orthogonal_laws.proofs.Matchers.{Matcher, Read, Skip, End, Done, Stop, run, tree}
use Rattle.orthogonal_laws.proofs.ReadPositions.{Reads, reads_here, reads_below, reads_after, reads_skip, nothing-read, regular-reads}
use Rattle.orthogonal_laws.proofs.DecisionTrees.{regular-compiles}
use Rattle.orthogonal_laws.proofs.Existence.{redex_or_not, quiet_or_demand}
use Rattle.orthogonal_laws.proofs.Strategies.{reads-root, quiet-no_demand, demand-no_demand, demand_unique, leads-demand, normal-no_next, no_next-next}
use Rattle.orthogonal_laws.proofs.Redexes.{compiled, redex-step}
use Rattle.orthogonal_laws.proofs.Regularity.{orthogonal-regular}
use Rattle.orthogonal_laws.proofs.Demands.{below-demanded, demanded-below}
use Rattle.orthogonal_laws.proofs.Stepping.{normal-to, no_redex-to}
use Rattle.orthogonal_laws.proofs.NextRedexes.{no_demand-to, no_demand-from, demand-to, demand-from, no_next-to, no_next-from, next-from}
use Rattle.orthogonal_laws.proofs.NextLaws.{normal_or_next_redex}

module _ {H : Type 0} where
  -- whether a matcher reads a position is decided
  reads_or_not : (ts : Forest H) (m : Matcher H) (p : List ℕ) → Reads m ts p ⊎ (Reads m ts p → ⊥)
  reads_or_not ts m [] = inr (λ r. reads-root r)
  reads_or_not empty m (i ∷ p) = inr (λ r. nothing-read r)
  reads_or_not (grow (node h args) rest) (Read f) (zero ∷ []) = inl reads_here
  reads_or_not (grow (node h args) rest) (Read f) (zero ∷ j ∷ p) =
      elim (reads_or_not args (f (h, count args)) (j ∷ p)) [
        | inl r ↦ inl (reads_below r)
        | inr no_read ↦ inr (λ r. no_read (below r))
      ]
    where
      below : Reads (Read f) (grow (node h args) rest) (0 ∷ j ∷ p) → Reads (f (h, count args)) args (j ∷ p)
      below (reads_below r) = r
  reads_or_not (grow (node h args) rest) (Read f) (suc i ∷ p) =
      elim (reads_or_not rest (run (f (h, count args)) args) (i ∷ p)) [
        | inl r ↦ inl (reads_after r)
        | inr no_read ↦ inr (λ r. no_read (after r))
      ]
    where
      after : Reads (Read f) (grow (node h args) rest) (suc i ∷ p) → Reads (run (f (h, count args)) args) rest (i ∷ p)
      after (reads_after r) = r
  reads_or_not (grow t rest) (Skip m) (zero ∷ p) = inr (λ r. elim r [ ])
  reads_or_not (grow t rest) (Skip m) (suc i ∷ p) =
      elim (reads_or_not rest m (i ∷ p)) [
        | inl r ↦ inl (reads_skip r)
        | inr no_read ↦ inr (λ r. no_read (after r))
      ]
    where
      after : Reads (Skip m) (grow t rest) (suc i ∷ p) → Reads m rest (i ∷ p)
      after (reads_skip r) = r
  reads_or_not (grow t rest) (End m) (i ∷ p) = inr (λ r. elim r [ ])
  reads_or_not (grow t rest) (Done r) (i ∷ p) = inr (λ r. elim r [ ])
  reads_or_not (grow t rest) Stop (i ∷ p) = inr (λ r. elim r [ ])

module _ {H : Type 0} (system : System H) (w : IsWellFormedSystem system) (o : IsOrthogonal system) where
  pub demanded_or_not : (t : Tree H) (q : Position) → IsDemanded system t q ⊎ (IsDemanded system t q → ⊥)
  demanded_or_not (node h args) q =
      let reads = regular-reads (orthogonal-regular system w o) in
      elim (reads_or_not args (tree (compiled system w) (h, count args)) q) [
        | inl r ↦ inl (below-demanded system w h args q (reads.wanted h args q r))
        | inr no_read ↦ inr (λ d. no_read (reads.read h args q (demanded-below system w h args q d)))
      ]

  pub redex_decided : (t : Tree H) → IsRedex system t ⊎ (IsRedex system t → ⊥)
  redex_decided (node h args) =
      elim (redex_or_not (compiled system w) (tree (compiled system w)) (regular-compiles (orthogonal-regular system w o)) h args) [
        | inl x ↦ inl (fill h x.0 x.1, redex-step system w o h args x.1 x.0 x.2)
        | inr none ↦ inr (no_redex-to system w o h args none)
      ]

  -- a term has a demanded redex, or none
  pub demanded_redex_or_none : (t : Tree H) → HasNoDemandedRedex system t ⊎ ((q : Position) × IsDemandedRedex system t q)
  demanded_redex_or_none (node h args) =
      let rules = compiled system w in
      let c = regular-compiles (orthogonal-regular system w o) in
      let reads = regular-reads (orthogonal-regular system w o) in
      elim (redex_or_not rules (tree rules) c h args) [
        | inl x ↦ inr ([], demand-to system w o (root x.2))
        | inr none ↦ elim (quiet_or_demand rules (tree rules) c args (tree rules (h, count args))) [
          | inl quiet ↦ inl (no_demand-to system w o (quiet-no_demand rules (tree rules) c reads h args none quiet))
          | inr d ↦ inr (_, demand-to system w o (leads-demand rules (tree rules) c reads none d.3))
        ]
      ]
    where
      root : {r : Tree (PatternCell H)} {es : Forest H} → Redex (compiled system w) h args r es → DemandedRedex (compiled system w) h args []
      root x = demand_root x

  pub demanded_redex_not_none : (t : Tree H) (q : Position) → IsDemandedRedex system t q → HasNoDemandedRedex system t → ⊥
  demanded_redex_not_none (node h args) q d none =
      let regular = orthogonal-regular system w o in
      demand-no_demand (compiled system w) (tree (compiled system w)) (regular-compiles regular) (regular-reads regular) (demand-from system w o d) (no_demand-from system w o none)

  pub one_demanded_redex : (t : Tree H) (p q : Position) → IsDemandedRedex system t p → IsDemandedRedex system t q → p ≡ q
  one_demanded_redex (node h args) p q d d' =
      let regular = orthogonal-regular system w o in
      demand_unique (compiled system w) (tree (compiled system w)) (regular-compiles regular) (regular-reads regular) (demand-from system w o d) (demand-from system w o d')

  -- a term is normal exactly where it has no next redex
  pub normal-no_next_redex : (t : Tree H) → IsNormal system t → HasNoNext system t
  normal-no_next_redex t normal =
      let regular = orthogonal-regular system w o in
      no_next-to system w o (normal-no_next (compiled system w) (tree (compiled system w)) (regular-compiles regular) (regular-reads regular) (normal-to system w o t normal)) 0 t refl

  pub no_next_redex-normal : (t : Tree H) → HasNoNext system t → IsNormal system t
  no_next_redex-normal t none =
      let regular = orthogonal-regular system w o in
      elim (normal_or_next_redex system w o t) [
        | inl normal ↦ normal
        | inr n ↦ absurd (no_next-next (compiled system w) (tree (compiled system w)) (regular-compiles regular) (regular-reads regular) (no_next-from system w o (grow t empty) (λ j u e. only_one j u e)) (next-from system w o n.1))
      ]
    where
      only_one : (j : ℕ) (u : Tree H) → subtree_in (grow t empty) j [] ≡ Some u → HasNoNext system u
      only_one zero u e = let same : t ≡ u = cc in subst (λ z. HasNoNext system z) same none
      only_one (suc j) u e = absurd (cc)
