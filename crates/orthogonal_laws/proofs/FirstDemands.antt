-- The next redex is the demanded redex of the first node in preorder that has one.
use Rattle.std.proofs.Common.{◌≡◌, ℕ, zero, suc, ◌<◌, List, [], ◌∷◌, ◌++◌, Some, sym, ◌∙◌, ap, subst, arith, ⊎_elim}
use Rattle.std.proofs.lemmas.Bool.{cases_lt}
use Rattle.eq_base.specs.Tree.{Tree, Forest, node, empty, grow, size, nth_subtree, Position, nth_position, subtree_at, number, number_in}
use Rattle.eq_base.specs.Rewriting.{System, IsRedex, IsNormal}
use Rattle.eq_base.proofs.Positions.{subtree_at-nth_position}
use Rattle.eq_base.proofs.Replacing.{number-nth_position}
use Rattle.orthogonal_laws.specs.declared.demand.Fit.{Fit}
use Rattle.orthogonal_laws.specs.Next.{IsFirstFit, IsNextRedex}
use Rattle.orthogonal_laws.specs.Demanded.{IsDemandedFit}
use Rattle.orthogonal_laws.specs.Orthogonal.{IsWellFormedSystem, IsOrthogonal}
use Rattle.orthogonal_laws.specs.Strategy.{IsDemandedRedex, HasNoDemandedRedex, none_demanded, IsNext}
use Rattle.orthogonal_laws.proofs.LeftSides.{Compiled}
use Rattle.orthogonal_laws.proofs.ForestSteps.{At, at_here, at_below, at_after}
use Rattle.orthogonal_laws.proofs.ForestStrategy.{NoDemandedRedex, DemandedRedex, NoNext, no_next_nil, no_next_cons, Next, next_demand, next_below, next_after}
use Rattle.orthogonal_laws.proofs.Redexes.{compiled}
use Rattle.orthogonal_laws.proofs.Stepping.{at-stands, stands-at}
use Rattle.orthogonal_laws.proofs.NextRedexes.{no_demand-from, demand-from, next-one}
use Rattle.orthogonal_laws.proofs.NextLaws.{next_one, next_not_normal}
use Rattle.orthogonal_laws.proofs.Nexts.{IsNormal-from_none}
use Rattle.eq_base.proofs.Numbers.{number_within_in, subtree-append, number-append, position-number, nth_subtree-number}

module _ {H : Type 0} (rules : List (Compiled H)) where
  none_in : (ts : Forest H) → ((j : ℕ) (r : Position) (g : H) (us : Forest H) → At ts (j ∷ r) g us → NoDemandedRedex rules g us) → NoNext rules ts
  none_in empty each = no_next_nil
  none_in (grow (node h args) rest) each =
      no_next_cons (each 0 [] h args at_here) (none_in args (λ j r g us a. each 0 (j ∷ r) g us (at_below a))) (none_in rest (λ j r g us a. each (suc j) r g us (at_after a)))

  first_demand : (ts : Forest H) (i : ℕ) (q p : Position) (h : H) (args : Forest H) → At ts (i ∷ q) h args → ((j : ℕ) (r : Position) (g : H) (us : Forest H) → At ts (j ∷ r) g us → number_in ts j r < number_in ts i q → NoDemandedRedex rules g us) →
      DemandedRedex rules h args p → Next rules ts (i ∷ (q ++ p))
  first_demand empty i q p h args a each d = elim a [ ]
  first_demand (grow (node k ks) rest) zero [] p h args at_here each d = next_demand d
  first_demand (grow (node k ks) rest) zero [] p h args (at_below a) each d = elim a [ ]
  first_demand (grow (node k ks) rest) zero (j ∷ q) p h args (at_below a) each d =
      next_below (each 0 [] k ks at_here (omega arith)) (first_demand ks j q p h args a (λ j r g us a lt. each 0 (j ∷ r) g us (at_below a) (omega arith)) d)
  first_demand (grow (node k ks) rest) (suc i) q p h args (at_after a) each d =
      next_after (each 0 [] k ks at_here (omega arith))
      (none_in ks (λ j r g us a. each 0 (j ∷ r) g us (at_below a) (let z = number_within_in ks j r (node g us) (at-stands k a) in omega (arith, z))))
      (first_demand rest i q p h args a (λ j r g us a lt. each (suc j) r g us (at_after a) (omega arith)) d)

pub no_redex_there : {H : Type 0} {system : System H} (t : Tree H) → HasNoDemandedRedex system t → IsRedex system t → ⊥
no_redex_there t (none_demanded none each) r = none r

module _ {H : Type 0} (system : System H) (w : IsWellFormedSystem system) (o : IsOrthogonal system) where
  first_of_tree : (t : Tree H) (q p : Position) (s : Tree H) → subtree_at t q ≡ Some s → ((r : Position) (u : Tree H) → subtree_at t r ≡ Some u → number t r < number t q → HasNoDemandedRedex system u) → IsDemandedRedex system s p → IsNext system t (q ++ p)
  first_of_tree t q p (node g us) there each d =
      next-one system w o (first_demand (compiled system w) (grow t empty) 0 q p g us (stands-at (grow t empty) 0 q g us there) earlier (demand-from system w o d))
    where
      earlier : (j : ℕ) (r : Position) (f : H) (vs : Forest H) → At (grow t empty) (j ∷ r) f vs → number_in (grow t empty) j r < number_in (grow t empty) 0 q → NoDemandedRedex (compiled system w) f vs
      earlier zero r f vs a lt = no_demand-from system w o (each r (node f vs) (at-stands g a) lt)
      earlier (suc j) r f vs a lt = absurd (let z = at-stands g a in cc)

  pub first_node : (t : Tree H) (at : ℕ) (p : Position) → at < size t → ((k : ℕ) → k < at → HasNoDemandedRedex system (nth_subtree t k)) → IsDemandedRedex system (nth_subtree t at) p → IsNext system t (nth_position t at ++ p)
  first_node t at p lt each d =
      let n = number-nth_position t at lt in
      first_of_tree t (nth_position t at) p (nth_subtree t at) (subtree_at-nth_position t at lt)
      (λ r u there before. subst (λ z. HasNoDemandedRedex system z) (nth_subtree-number t r u there) (each (number t r) (omega (arith, n)))) d

  pub normal_node : (t : Tree H) (k : ℕ) → HasNoDemandedRedex system (nth_subtree t k) → IsRedex system (nth_subtree t k) → ⊥
  normal_node t k none r = no_redex_there (nth_subtree t k) none r

module _ {H : Type 0} (system : System H) (w : IsWellFormedSystem system) (o : IsOrthogonal system) (t : Tree H) where
  -- the demanded redex of the first node that has one is the next redex
  pub next_of_fit : (at : ℕ) (fit : Fit) → at < size t → ((k : ℕ) → k < at → HasNoDemandedRedex system (nth_subtree t k)) → IsDemandedFit system t at fit → IsNextRedex system t fit.at fit.equation
  next_of_fit at fit lt each d =
      let q = nth_position t at ++ d.position in
      let here = subtree_at-nth_position t at lt in
      let there : subtree_at t q ≡ Some (nth_subtree t fit.at) = subtree-append t (nth_position t at) d.position (nth_subtree t at) here ∙ d.stands in
      let n : number t q ≡ fit.at = (let a = number-append t (nth_position t at) d.position (nth_subtree t at) here in let b = number-nth_position t at lt in omega (arith, a, b, d.place)) in
      let same : q ≡ nth_position t fit.at = sym (position-number t q (nth_subtree t fit.at) there) ∙ ap (nth_position t) n in
      record { there = d.there; next = subst (λ z. IsNext system t z) same (first_node system w o t at d.position lt each d.demanded); first = d.first }

  first_one : (s : Tree H) (a b : ℕ) → IsFirstFit system a s → IsFirstFit system b s → a ≡ b
  first_one s a b f g =
      ⊎_elim (λ below. absurd (g.first a below f.redex)) (λ past. ⊎_elim (λ below. absurd (f.first b below g.redex)) (λ past'. omega arith) (cases_lt b a)) (cases_lt a b)

  -- there is one
  pub next_is_one : (a b e f : ℕ) → IsNextRedex system t a e → IsNextRedex system t b f → (a ≡ b) × (e ≡ f)
  next_is_one a b e f x y =
      let p = ap (number t) (next_one system w o t (nth_position t a) (nth_position t b) x.next y.next) in
      let same : a ≡ b = omega (arith, p, number-nth_position t a x.there, number-nth_position t b y.there) in
      (same, first_one (nth_subtree t b) e f (subst (λ z. IsFirstFit system e (nth_subtree t z)) same x.first) y.first)

  pub next_from_one : (a e : ℕ) → IsNextRedex system t a e → IsNormal system t → ⊥
  next_from_one a e x normal = next_not_normal system w o t (nth_position t a) x.next normal

  pub none_normal : ((k : ℕ) → k < size t → HasNoDemandedRedex system (nth_subtree t k)) → IsNormal system t
  none_normal each = IsNormal-from_none system t (λ k lt. normal_node system w o t k (each k lt))
