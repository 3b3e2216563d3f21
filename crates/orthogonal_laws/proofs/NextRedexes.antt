-- Demanded and next redexes of trees, as those of lists of trees.
use Rattle.std.proofs.Common.{◌≡◌, ℕ, zero, suc, ◌<◌, [], ◌∷◌, inl, inr, Some, refl, subst, arith}
use Rattle.eq_base.specs.Tree.{Tree, Forest, node, empty, grow, Position, subtree_at, subtree_in, IsBefore}
use Rattle.eq_base.specs.Rewriting.{System}
use Rattle.orthogonal_laws.specs.Orthogonal.{IsWellFormedSystem, IsOrthogonal}
use Rattle.orthogonal_laws.specs.Strategy.{IsDemanded, IsDemandedRedex, at_root, at_demanded, HasNoDemandedRedex, none_demanded, IsNext, demanded, in_argument, HasNoNext, none_next}
use Rattle.orthogonal_laws.proofs.LeftSides.{fill}
use Rattle.orthogonal_laws.proofs.ForestSteps.{At}
use Rattle.orthogonal_laws.proofs.ForestStrategy.{Before, before_above, before_left, before_below, NoDemandedRedex, no_demand, DemandedRedex, demand_root, demand_below, NoNext, no_next_nil, no_next_cons, Next, next_demand, next_below, next_after}
use Rattle.orthogonal_laws.proofs.Redexes.{compiled, redex-step, step-redex}
use Rattle.orthogonal_laws.proofs.Demands.{below-demanded, demanded-below}
use Rattle.orthogonal_laws.proofs.Stepping.{at-stands, stands-at, no_redex-to, no_redex-from}

before-to : {p q : Position} → Before p q → IsBefore p q
before-to before_above = tt
before-to (before_left l) = inl l
before-to (before_below b) = inr (refl, before-to b)

before-from : (p q : Position) → IsBefore p q → Before p q
before-from p [] b = absurd b
before-from [] (j ∷ q) b = before_above
before-from (i ∷ p) (j ∷ q) (inl l) = before_left l
before-from (i ∷ p) (j ∷ q) (inr s) = subst (λ k. Before (i ∷ p) (k ∷ q)) s.0 (before_below (before-from p q s.1))

-- every tree is a head over arguments
on_tree : {H : Type 0} (P : Tree H → Type 0) → ((g : H) (us : Forest H) → P (node g us)) → (t : Tree H) → P t
on_tree P f (node g us) = f g us

module _ {H : Type 0} (system : System H) (w : IsWellFormedSystem system) (o : IsOrthogonal system) where
  at_of : (h : H) (args : Forest H) (q : Position) (g : H) (us : Forest H) → IsDemanded system (node h args) q → subtree_at (node h args) q ≡ Some (node g us) → At args q g us
  at_of h args [] g us d e = absurd (d.not_root refl)
  at_of h args (i ∷ q) g us d e = stands-at args i q g us e

  pub no_demand-to : {h : H} {args : Forest H} → NoDemandedRedex (compiled system w) h args → HasNoDemandedRedex system (node h args)
  no_demand-to {h} {args} (no_demand none each) =
      none_demanded (no_redex-to system w o h args none)
      (λ r u d there. on_tree (λ u. subtree_at (node h args) r ≡ Some u → HasNoDemandedRedex system u) (λ g us there. no_demand-to (each r g us (demanded-below system w h args r d) (at_of h args r g us d there))) u there)

  pub demand-to : {h : H} {args : Forest H} {p : Position} → DemandedRedex (compiled system w) h args p → IsDemandedRedex system (node h args) p
  demand-to {h} {args} (demand_root {es = es} {r = r} x) = at_root (fill h r es, redex-step system w o h args es r x)
  demand-to {h} {args} (demand_below {g = g} {us = us} {q = q} {p = p} none wanted there d earlier e) =
      at_demanded q p (node g us) (no_redex-to system w o h args none) (below-demanded system w h args q wanted) (at-stands h there) (demand-to d)
      (λ r u before d' there'. on_tree (λ u. subtree_at (node h args) r ≡ Some u → HasNoDemandedRedex system u)
      (λ f vs there'. no_demand-to (earlier r f vs (demanded-below system w h args r d') (before-from r q before) (at_of h args r f vs d' there'))) u there')
      e

  pub no_demand-from : {h : H} {args : Forest H} → HasNoDemandedRedex system (node h args) → NoDemandedRedex (compiled system w) h args
  no_demand-from {h} {args} (none_demanded none each) =
      no_demand (no_redex-from system w o h args none) (λ q g us wanted there. no_demand-from (each q (node g us) (below-demanded system w h args q wanted) (at-stands h there)))

  pub demand-from : {h : H} {args : Forest H} {p : Position} → IsDemandedRedex system (node h args) p → DemandedRedex (compiled system w) h args p
  demand-from {h} {args} (at_root r) = let x = step-redex system w o h args r.0 r.1 in demand_root x.redex
  demand-from {h} {args} (at_demanded q p (node g us) none d there demand earlier e) =
      demand_below (no_redex-from system w o h args none) (demanded-below system w h args q d) (at_of h args q g us d there) (demand-from demand)
      (λ r f vs wanted before there'. no_demand-from (earlier r (node f vs) (before-to before) (below-demanded system w h args r wanted) (at-stands h there'))) e

  pub no_next-to : {ts : Forest H} → NoNext (compiled system w) ts → (j : ℕ) (u : Tree H) → subtree_in ts j [] ≡ Some u → HasNoNext system u
  no_next-to no_next_nil j u e = absurd (cc)
  no_next-to (no_next_cons {h = h} {args = args} nothing n n') zero u e =
      let same : node h args ≡ u = cc in subst (λ z. HasNoNext system z) same (none_next (no_demand-to nothing) (λ j u e. no_next-to n j u e))
  no_next-to (no_next_cons nothing n n') (suc j) u e = no_next-to n' j u e

  no_next_args : {h : H} {args : Forest H} → HasNoNext system (node h args) → HasNoDemandedRedex system (node h args) × ((j : ℕ) (u : Tree H) → subtree_in args j [] ≡ Some u → HasNoNext system u)
  no_next_args (none_next nothing each) = (nothing, each)

  pub no_next-from : (ts : Forest H) → ((j : ℕ) (u : Tree H) → subtree_in ts j [] ≡ Some u → HasNoNext system u) → NoNext (compiled system w) ts
  no_next-from empty each = no_next_nil
  no_next-from (grow (node h args) rest) each =
      let x = no_next_args (each 0 (node h args) refl) in
      no_next_cons (no_demand-from x.0) (no_next-from args x.1) (no_next-from rest (λ j u e. each (suc j) u e))

  -- the next redex of a list of trees is that of the first tree that has one
  pub record NextIn (ts : Forest H) (i : ℕ) (q : Position) : Type 0 where
    pub tree : Tree H
    pub stands : subtree_in ts i [] ≡ Some tree
    pub next : IsNext system tree q
    pub earlier : (j : ℕ) (u : Tree H) → j < i → subtree_in ts j [] ≡ Some u → HasNoNext system u

  next_root : {ts : Forest H} → Next (compiled system w) ts [] → ⊥
  next_root n = elim n [ ]

  pub next-to : {ts : Forest H} {i : ℕ} {q : Position} → Next (compiled system w) ts (i ∷ q) → NextIn ts i q
  next-to (next_demand d) = record { tree = _; stands = refl; next = demanded (demand-to d); earlier = λ j u l e. absurd (omega arith) }
  next-to (next_below {p = []} nothing n) = absurd (next_root n)
  next-to (next_below {p = i ∷ q} nothing n) =
      let x = next-to n in
      record { tree = _; stands = refl; next = in_argument i q x.tree (no_demand-to nothing) x.stands x.next x.earlier; earlier = λ j u l e. absurd (omega arith) }
  next-to (next_after {h = h} {args = args} {rest = rest} {i = i} nothing n m) =
      let x = next-to m in
      record { tree = x.tree; stands = x.stands; next = x.next; earlier = λ j u l e. before_next x.earlier j u l e }
    where
      before_next : ((j : ℕ) (u : Tree H) → j < i → subtree_in rest j [] ≡ Some u → HasNoNext system u) → (j : ℕ) (u : Tree H) → j < suc i → subtree_in (grow (node h args) rest) j [] ≡ Some u → HasNoNext system u
      before_next each zero u l e = no_next-to (no_next_cons nothing n no_next_nil) 0 u e
      before_next each (suc j) u l e = each j u (omega arith) e

  next_here : {h : H} {args rest : Forest H} {q : Position} → ((i : ℕ) (q : Position) (s : Tree H) → subtree_in args i [] ≡ Some s → IsNext system s q → ((j : ℕ) (u : Tree H) → j < i → subtree_in args j [] ≡ Some u → HasNoNext system u) → Next (compiled system w) args (i ∷ q)) →
      IsNext system (node h args) q → Next (compiled system w) (grow (node h args) rest) (0 ∷ q)
  next_here below (demanded d) = next_demand (demand-from d)
  next_here below (in_argument i q s nothing there n earlier) = next_below (no_demand-from nothing) (below i q s there n earlier)

  pub next_in : (ts : Forest H) (i : ℕ) (q : Position) (s : Tree H) → subtree_in ts i [] ≡ Some s → IsNext system s q → ((j : ℕ) (u : Tree H) → j < i → subtree_in ts j [] ≡ Some u → HasNoNext system u) → Next (compiled system w) ts (i ∷ q)
  next_in empty i q s e n earlier = absurd (cc)
  next_in (grow (node h args) rest) zero q s e n earlier =
      let same : s ≡ node h args = cc in
      next_here (λ i q s e n earlier. next_in args i q s e n earlier) (subst (λ z. IsNext system z q) same n)
  next_in (grow (node h args) rest) (suc i) q s e n earlier =
      let x = no_next_args (earlier 0 (node h args) (omega arith) refl) in
      next_after (no_demand-from x.0) (no_next-from args x.1) (next_in rest i q s e n (λ j u l e. earlier (suc j) u (omega arith) e))

  -- of one tree
  pub next-from : {t : Tree H} {q : Position} → IsNext system t q → Next (compiled system w) (grow t empty) (0 ∷ q)
  next-from {t} {q} n = next_in (grow t empty) 0 q t refl n (λ j u l e. absurd (omega arith))

  pub next-one : {t : Tree H} {q : Position} → Next (compiled system w) (grow t empty) (0 ∷ q) → IsNext system t q
  next-one {t} {q} n = let x = next-to n in let same : x.tree ≡ t = let z = x.stands in cc in subst (λ z. IsNext system z q) same x.next
