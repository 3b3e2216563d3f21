-- Steps and normal forms of trees, as those of lists of trees.
use Rattle.std.proofs.Common.{◌≡◌, ℕ, zero, suc, [], ◌∷◌, Some, refl, sym, ap, subst}
use Rattle.eq_base.specs.Tree.{Tree, Forest, node, empty, grow, Position, subtree_at, subtree_in, replace_at, replace_in}
use Rattle.eq_base.specs.Rewriting.{System, RootStep, IsRedex, StepAt, IsNormal}
use Rattle.orthogonal_laws.specs.Orthogonal.{IsWellFormedSystem, IsOrthogonal}
use Rattle.orthogonal_laws.proofs.LeftSides.{fill, NoRedex}
use Rattle.orthogonal_laws.proofs.ForestSteps.{At, at_here, at_below, at_after, Step, step_here, step_below, step_after, Normal, normal_nil, normal_cons}
use Rattle.orthogonal_laws.proofs.Redexes.{compiled, redex-step, step-redex}

module _ {H : Type 0} where
  pub at-stands : (c : H) {ts : Forest H} {p : Position} {g : H} {us : Forest H} → At ts p g us → subtree_at (node c ts) p ≡ Some (node g us)
  at-stands c at_here = refl
  at-stands c (at_below {h = h} a) = at-stands h a
  at-stands c (at_after a) = at-stands c a

  pub stands-at : (ts : Forest H) (i : ℕ) (q : Position) (g : H) (us : Forest H) → subtree_in ts i q ≡ Some (node g us) → At ts (i ∷ q) g us
  stands-at empty i q g us e = absurd (cc)
  stands-at (grow (node h args) rest) zero [] g us e =
      let a : h ≡ g = cc in
      let b : args ≡ us = cc in
      subst (λ x. At (grow (node h args) rest) (0 ∷ []) x us) a (subst (λ x. At (grow (node h args) rest) (0 ∷ []) h x) b at_here)
  stands-at (grow (node h args) rest) zero (j ∷ q) g us e = at_below (stands-at args j q g us e)
  stands-at (grow t rest) (suc i) q g us e = at_after (stands-at rest i q g us e)

module _ {H : Type 0} (system : System H) (w : IsWellFormedSystem system) (o : IsOrthogonal system) where
  pub no_redex-to : (h : H) (us : Forest H) → NoRedex (compiled system w) h us → IsRedex system (node h us) → ⊥
  no_redex-to h us none r = let x = step-redex system w o h us r.0 r.1 in none x.right x.parts x.redex

  pub no_redex-from : (h : H) (us : Forest H) → (IsRedex system (node h us) → ⊥) → NoRedex (compiled system w) h us
  no_redex-from h us none r es x = none (fill h r es, redex-step system w o h us es r x)

  -- a root step at a position
  pub step_in : (ts : Forest H) (i : ℕ) (q : Position) (s v : Tree H) → subtree_in ts i q ≡ Some s → RootStep system s v → Step (compiled system w) ts (i ∷ q) (replace_in ts i q v)
  step_in empty i q s v e r = absurd (cc)
  step_in (grow (node h us) rest) zero [] s v e r =
      let same : s ≡ node h us = cc in
      let x = step-redex system w o h us v (subst (λ z. RootStep system z v) same r) in
      subst (λ z. Step (compiled system w) (grow (node h us) rest) (0 ∷ []) (grow z rest)) (sym x.value) (step_here x.redex)
  step_in (grow (node h us) rest) zero (j ∷ q) s v e r = step_below (step_in us j q s v e r)
  step_in (grow t rest) (suc i) q s v e r = step_after (step_in rest i q s v e r)

  pub step-to : {t u : Tree H} {q : Position} → StepAt system t q u → (rest : Forest H) → Step (compiled system w) (grow t rest) (0 ∷ q) (grow u rest)
  step-to {t} {q = q} s rest = subst (λ z. Step (compiled system w) (grow t rest) (0 ∷ q) (grow z rest)) s.result (step_in (grow t rest) 0 q s.redex s.contractum s.stands s.root_step)

  pub step-from : (c : H) {ts us : Forest H} {p : Position} → Step (compiled system w) ts p us → StepAt system (node c ts) p (node c us)
  step-from c (step_here {h = h} {args = args} {es = es} {r = r} x) = record { redex = node h args; contractum = fill h r es; stands = refl; root_step = redex-step system w o h args es r x; result = refl }
  step-from c (step_below {h = h} {rest = rest} s) =
      let x = step-from h s in
      record { redex = x.redex; contractum = x.contractum; stands = x.stands; root_step = x.root_step; result = ap (λ z. node c (grow z rest)) x.result }
  step-from c (step_after {t = t} {rest = rest} {us = us} {i = i} {p = p} s) =
      let x = step-from c s in
      record { redex = x.redex; contractum = x.contractum; stands = x.stands; root_step = x.root_step; result = let e : replace_in rest i p x.contractum ≡ us = let z = x.result in cc in ap (λ z. node c (grow t z)) e }

  -- a step in the only tree of a list
  pub step_alone : (c : H) {t : Tree H} {us : Forest H} {q : Position} → Step (compiled system w) (grow t empty) (0 ∷ q) us → (u : Tree H) × (us ≡ grow u empty) × StepAt system t q u
  step_alone c {t} {us} {q} s =
      let x = step-from c s in
      (replace_at t q x.contractum, let z = x.result in cc, record { redex = x.redex; contractum = x.contractum; stands = x.stands; root_step = x.root_step; result = refl })

  pub normal_in : (ts : Forest H) → ((i : ℕ) (q : Position) (s v : Tree H) → subtree_in ts i q ≡ Some s → RootStep system s v → ⊥) → Normal (compiled system w) ts
  normal_in empty none = normal_nil
  normal_in (grow (node h us) rest) none =
      normal_cons
      (no_redex-from h us (λ r. none 0 [] (node h us) r.0 refl r.1))
      (normal_in us (λ i q s v e r. none 0 (i ∷ q) s v e r))
      (normal_in rest (λ i q s v e r. none (suc i) q s v e r))

  pub normal-to : (t : Tree H) → IsNormal system t → Normal (compiled system w) (grow t empty)
  normal-to t normal = normal_in (grow t empty) (λ i q s v e r. one i q s v e r)
    where
      one : (i : ℕ) (q : Position) (s v : Tree H) → subtree_in (grow t empty) i q ≡ Some s → RootStep system s v → ⊥
      one zero q s v e r = normal (replace_at t q v) (q, record { redex = s; contractum = v; stands = e; root_step = r; result = refl })
      one (suc i) q s v e r = absurd (cc)

  normal_step : {ts us : Forest H} {p : Position} → Normal (compiled system w) ts → Step (compiled system w) ts p us → ⊥
  normal_step (normal_cons none n n') (step_here x) = none _ _ x
  normal_step (normal_cons none n n') (step_below s) = normal_step n s
  normal_step (normal_cons none n n') (step_after s) = normal_step n' s
  normal_step normal_nil s = elim s [ ]

  pub normal-from : (t : Tree H) → Normal (compiled system w) (grow t empty) → IsNormal system t
  normal-from t normal u s = normal_step normal (step-to s.1 empty)
