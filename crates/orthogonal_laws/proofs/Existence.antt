-- The next redex: there is one exactly where a list of trees is not normal, and only one.
use Rattle.std.proofs.Common.{◌≡◌, ℕ, List, ◌∷◌, ◌⊎◌, inl, inr, refl, sym, ◌∙◌, ap, subst}
use Rattle.eq_base.specs.Tree.{Tree, Forest, node, empty, grow, count}
use Rattle.eq_base.specs.Pattern.{PatternCell}
use Rattle.orthogonal_laws.proofs.LeftSides.{Label, Compiled, Redex, NoRedex}
use Rattle.orthogonal_laws.proofs.ForestSteps.{Step, step_here, step_below, step_after, Normal, normal_nil, normal_cons, Outermost, outer_here, outer_below, outer_after}
use Rattle.orthogonal_laws.proofs.Matchers.{Matcher, Read, Skip, End, Done, Stop, run, Compiles}
use Rattle.orthogonal_laws.proofs.Walks.{Quiet, quiet_read, quiet_skip, quiet_nil, quiet_end, quiet_done, quiet_stop, Leads, leads_here, leads_below, leads_within, leads_after, leads_skip, Advances, advances_here, advances_demand, advances_below, advances_after}
use Rattle.orthogonal_laws.proofs.TestedParts.{not_both}
use Rattle.orthogonal_laws.proofs.Advancing.{same_right}

done_or_not : {H : Type 0} (m : Matcher H) → ((r : Tree (PatternCell H)) × (m ≡ Done r)) ⊎ ((r : Tree (PatternCell H)) → m ≡ Done r → ⊥)
done_or_not (Read f) = inr (λ r e. cc)
done_or_not (Skip m) = inr (λ r e. cc)
done_or_not (End m) = inr (λ r e. cc)
done_or_not (Done r) = inl (r, refl)
done_or_not Stop = inr (λ r e. cc)

module _ {H : Type 0} (rules : List (Compiled H)) (start : Label H → Matcher H) (c : Compiles rules start) where
  -- some tree that the matcher reads has a demanded redex
  abbrev pub HasDemand : Matcher H → Forest H → Type 0
  HasDemand m ts = (i : ℕ) × (p : List ℕ) × (us : Forest H) × Leads rules start m ts (i ∷ p) us

  -- there is a next redex
  abbrev pub HasNext : Forest H → Type 0
  HasNext ts = (i : ℕ) × (p : List ℕ) × (us : Forest H) × Advances rules start ts (i ∷ p) us

  pub redex_or_not : (h : H) (args : Forest H) → ((r : Tree (PatternCell H)) × (es : Forest H) × Redex rules h args r es) ⊎ NoRedex rules h args
  redex_or_not h args =
      elim (done_or_not (run (start (h, count args)) args)) [
        | inl e ↦ inl (e.0, _, c.redex h args e.0 e.1)
        | inr none ↦ inr (λ r es x. none r (c.finds h args r es x))
      ]

  pub quiet_or_demand : (ts : Forest H) (m : Matcher H) → Quiet rules start m ts ⊎ HasDemand m ts
  quiet_or_demand empty m = inl quiet_nil
  quiet_or_demand (grow (node h args) rest) (Skip m) =
      elim (quiet_or_demand rest m) [
        | inl q ↦ inl (quiet_skip q)
        | inr d ↦ inr (_, _, _, leads_skip d.3)
      ]
  quiet_or_demand (grow (node h args) rest) (End m) = inl quiet_end
  quiet_or_demand (grow (node h args) rest) (Done r) = inl quiet_done
  quiet_or_demand (grow (node h args) rest) Stop = inl quiet_stop
  quiet_or_demand (grow (node h args) rest) (Read f) =
      elim (redex_or_not h args) [
        | inl e ↦ inr (_, _, _, leads_here e.2)
        | inr none ↦ elim (quiet_or_demand args (start (h, count args))) [
          | inr d ↦ inr (_, _, _, leads_below none d.3)
          | inl q ↦ elim (quiet_or_demand args (f (h, count args))) [
            | inr d ↦ inr (_, _, _, leads_within none q d.3)
            | inl q' ↦ elim (quiet_or_demand rest (run (f (h, count args)) args)) [
              | inr d ↦ inr (_, _, _, leads_after none q q' refl d.3)
              | inl q'' ↦ inl (quiet_read none q q' refl q'')
            ]
          ]
        ]
      ]

  pub normal_or_next : (ts : Forest H) → Normal rules ts ⊎ HasNext ts
  normal_or_next empty = inl normal_nil
  normal_or_next (grow (node h args) rest) =
      elim (redex_or_not h args) [
        | inl e ↦ inr (_, _, _, advances_here e.2)
        | inr none ↦ elim (quiet_or_demand args (start (h, count args))) [
          | inr d ↦ inr (_, _, _, advances_demand none d.3)
          | inl q ↦ elim (normal_or_next args) [
            | inr d ↦ inr (_, _, _, advances_below none q d.3)
            | inl n ↦ elim (normal_or_next rest) [
              | inr d ↦ inr (_, _, _, advances_after none n d.3)
              | inl n' ↦ inl (normal_cons none n n')
            ]
          ]
        ]
      ]

  pub normal_not_demand : {m : Matcher H} {ts us : Forest H} {p : List ℕ} → Leads rules start m ts p us → Normal rules ts → ⊥
  normal_not_demand (leads_here e) (normal_cons none n n') = none _ _ e
  normal_not_demand (leads_below x d) (normal_cons none n n') = normal_not_demand d n
  normal_not_demand (leads_within x q d) (normal_cons none n n') = normal_not_demand d n
  normal_not_demand (leads_after x q q' e d) (normal_cons none n n') = normal_not_demand d n'
  normal_not_demand (leads_skip d) (normal_cons none n n') = normal_not_demand d n'

  pub normal_not_next : {ts us : Forest H} {p : List ℕ} → Advances rules start ts p us → Normal rules ts → ⊥
  normal_not_next (advances_here e) (normal_cons none n n') = none _ _ e
  normal_not_next (advances_demand x d) (normal_cons none n n') = normal_not_demand d n
  normal_not_next (advances_below x q d) (normal_cons none n n') = normal_not_next d n
  normal_not_next (advances_after x m d) (normal_cons none n n') = normal_not_next d n'

  pub demand_outermost : {m : Matcher H} {ts us : Forest H} {p : List ℕ} → Leads rules start m ts p us → Outermost rules ts p
  demand_outermost (leads_here e) = outer_here e
  demand_outermost (leads_below x d) = outer_below x (demand_outermost d)
  demand_outermost (leads_within x q d) = outer_below x (demand_outermost d)
  demand_outermost (leads_after x q q' e d) = outer_after (demand_outermost d)
  demand_outermost (leads_skip d) = outer_after (demand_outermost d)

  pub next_outermost : {ts us : Forest H} {p : List ℕ} → Advances rules start ts p us → Outermost rules ts p
  next_outermost (advances_here e) = outer_here e
  next_outermost (advances_demand x d) = outer_below x (demand_outermost d)
  next_outermost (advances_below x q d) = outer_below x (next_outermost d)
  next_outermost (advances_after x m d) = outer_after (next_outermost d)

  pub demand_step : {m : Matcher H} {ts us : Forest H} {p : List ℕ} → Leads rules start m ts p us → Step rules ts p us
  demand_step (leads_here e) = step_here e
  demand_step (leads_below x d) = step_below (demand_step d)
  demand_step (leads_within x q d) = step_below (demand_step d)
  demand_step (leads_after x q q' e d) = step_after (demand_step d)
  demand_step (leads_skip d) = step_after (demand_step d)

  pub next_step : {ts us : Forest H} {p : List ℕ} → Advances rules start ts p us → Step rules ts p us
  next_step (advances_here e) = step_here e
  next_step (advances_demand x d) = step_below (demand_step d)
  next_step (advances_below x q d) = step_below (next_step d)
  next_step (advances_after x m d) = step_after (next_step d)

  -- the step at a position is determined by the position
  pub step_unique : {ts us us' : Forest H} {p : List ℕ} → Step rules ts p us → Step rules ts p us' → us ≡ us'
  step_unique (step_here {h = h} {args = args} {es = es} {rest = rest} {r = r} x) (step_here {es = es'} {r = r'} x') =
      let e : es ≡ es' = c.opens h args r es x ∙ sym (c.opens h args r' es' x') in
      let e' : r ≡ r' = same_right (c.finds h args r es x) (c.finds h args r' es' x') in
      rw (e, e') refl
  step_unique (step_here x) (step_below d) = elim d [ ]
  step_unique (step_below d) (step_here x) = elim d [ ]
  step_unique (step_below {h = h} {rest = rest} d) (step_below d') = ap (λ us. grow (node h us) rest) (step_unique d d')
  step_unique (step_after {t = t} d) (step_after d') = ap (λ us. grow t us) (step_unique d d')

  pub demand_position : {m : Matcher H} {ts us us' : Forest H} {p p' : List ℕ} → Leads rules start m ts p us → Leads rules start m ts p' us' → p ≡ p'
  demand_position (leads_here e) (leads_here e') = refl
  demand_position (leads_here e) (leads_below x d) = absurd (x _ _ e)
  demand_position (leads_here e) (leads_within x q d) = absurd (x _ _ e)
  demand_position (leads_here e) (leads_after x q q' e' d) = absurd (x _ _ e)
  demand_position (leads_below x d) (leads_here e) = absurd (x _ _ e)
  demand_position (leads_below x d) (leads_below x' d') = ap (λ p. 0 ∷ p) (demand_position d d')
  demand_position (leads_below x d) (leads_within x' q d') = absurd (not_both rules start c q d)
  demand_position (leads_below x d) (leads_after x' q q' e d') = absurd (not_both rules start c q d)
  demand_position (leads_within x q d) (leads_here e) = absurd (x _ _ e)
  demand_position (leads_within x q d) (leads_below x' d') = absurd (not_both rules start c q d')
  demand_position (leads_within x q d) (leads_within x' q' d') = ap (λ p. 0 ∷ p) (demand_position d d')
  demand_position (leads_within x q d) (leads_after x' q' q'' e d') = absurd (not_both rules start c q'' d)
  demand_position (leads_after x q q' e d) (leads_here e') = absurd (x _ _ e')
  demand_position (leads_after x q q' e d) (leads_below x' d') = absurd (not_both rules start c q d')
  demand_position (leads_after x q q' e d) (leads_within x' q'' d') = absurd (not_both rules start c q' d')
  demand_position (leads_after {rest = rest} x q q' e d) (leads_after {us = us'} {i = i'} {p = p'} x' q2 q3 e' d') =
      let z = demand_position d (subst (λ m. Leads rules start m rest (i' ∷ p') us') (sym e' ∙ e) d') in cc
  demand_position (leads_skip d) (leads_skip d') = let z = demand_position d d' in cc

  pub next_position : {ts us us' : Forest H} {p p' : List ℕ} → Advances rules start ts p us → Advances rules start ts p' us' → p ≡ p'
  next_position (advances_here e) (advances_here e') = refl
  next_position (advances_here e) (advances_demand x d) = absurd (x _ _ e)
  next_position (advances_here e) (advances_below x q d) = absurd (x _ _ e)
  next_position (advances_here e) (advances_after x m d) = absurd (x _ _ e)
  next_position (advances_demand x d) (advances_here e) = absurd (x _ _ e)
  next_position (advances_demand x d) (advances_demand x' d') = ap (λ p. 0 ∷ p) (demand_position d d')
  next_position (advances_demand x d) (advances_below x' q d') = absurd (not_both rules start c q d)
  next_position (advances_demand x d) (advances_after x' m d') = absurd (normal_not_demand d m)
  next_position (advances_below x q d) (advances_here e) = absurd (x _ _ e)
  next_position (advances_below x q d) (advances_demand x' d') = absurd (not_both rules start c q d')
  next_position (advances_below x q d) (advances_below x' q' d') = ap (λ p. 0 ∷ p) (next_position d d')
  next_position (advances_below x q d) (advances_after x' m d') = absurd (normal_not_next d m)
  next_position (advances_after x m d) (advances_here e) = absurd (x _ _ e)
  next_position (advances_after x m d) (advances_demand x' d') = absurd (normal_not_demand d' m)
  next_position (advances_after x m d) (advances_below x' q d') = absurd (normal_not_next d' m)
  next_position (advances_after x m d) (advances_after x' m' d') = let z = next_position d d' in cc
