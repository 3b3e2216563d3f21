-- A development that marks the next redex begins with it; one that does not leaves it in place.
use Rattle.std.proofs.Common.{◌≡◌, ℕ, zero, suc, ◌+◌, List, [], ◌∷◌, ◌++◌, true, false, refl, sym, ◌∙◌, ap, subst, arith}
use Rattle.eq_base.specs.Tree.{Tree, Forest, node, empty, grow, count}
use Rattle.eq_base.specs.Pattern.{PatternCell, fixed, variable, restricted, apply_all, all_variables}
use Rattle.orthogonal_laws.proofs.LeftSides.{Label, nth, fill, Compiled, Redex, NoRedex}
use Rattle.orthogonal_laws.proofs.ForestSteps.{At, at_here, at_below, at_after, Normal, normal_nil, normal_cons}
use Rattle.orthogonal_laws.proofs.ForestDevelopments.{Develops, nil, keep, contract, marks_at, total, nth_weight, weight}
use Rattle.orthogonal_laws.specs.Development.{sum_of}
use Rattle.orthogonal_laws.proofs.Matchers.{Matcher, Done, run, parts, Compiles}
use Rattle.orthogonal_laws.proofs.Sequential.{Guarded, guarded_read, guarded_skip, Sequential}
use Rattle.orthogonal_laws.proofs.Walks.{Quiet, Leads, leads_here, leads_below, leads_within, leads_after, leads_skip, Advances, advances_here, advances_demand, advances_below, advances_after}
use Rattle.orthogonal_laws.proofs.Staying.{stays, no_redex, develops-count}
use Rattle.orthogonal_laws.proofs.TestedParts.{guarded-run, not_both, redex_quiet}

pub same_right : {H : Type 0} {m : Matcher H} {r r' : Tree (PatternCell H)} → m ≡ Done r → m ≡ Done r' → r ≡ r'
same_right e e' = cc

-- the position p of ts and us holds the same head, over arguments of which the second are a development of the first; there is a root step in ts
pub record Site {H : Type 0} (rules : List (Compiled H)) (ts us : Forest H) (p : List ℕ) : Type 0 where
  pub head : H
  pub args : Forest H
  pub vs : Forest H
  pub right : Tree (PatternCell H)
  pub parts : Forest H
  pub weights : List ℕ
  pub there : At ts p head args
  pub there' : At us p head vs
  pub redex : Redex rules head args right parts
  pub develops : Develops rules args vs weights

sum_of-append : (w : ℕ → ℕ) (xs ys : List ℕ) → sum_of w (xs ++ ys) ≡ sum_of w xs + sum_of w ys
sum_of-append w [] ys = omega arith
sum_of-append w (x ∷ xs) ys = omega (arith, sum_of-append w xs ys)

plus_none : (n : ℕ) → n ≡ n + 0
plus_none n = omega arith

module _ {H : Type 0} (rules : List (Compiled H)) where
  site_here : {h : H} {args es vs rest rest' : Forest H} {r : Tree (PatternCell H)} {ns : List ℕ} → Redex rules h args r es → Develops rules args vs ns → Site rules (grow (node h args) rest) (grow (node h vs) rest') (0 ∷ [])
  site_here x d = record { head = _; args = _; vs = _; right = _; parts = _; weights = _; there = at_here; there' = at_here; redex = x; develops = d }

  site_below : {h h' : H} {ts us rest rest' : Forest H} {p : List ℕ} → Site rules ts us p → Site rules (grow (node h ts) rest) (grow (node h' us) rest') (0 ∷ p)
  site_below s = record { head = s.head; args = s.args; vs = s.vs; right = s.right; parts = s.parts; weights = s.weights; there = at_below s.there; there' = at_below s.there'; redex = s.redex; develops = s.develops }

  site_after : {t t' : Tree H} {ts us : Forest H} {i : ℕ} {p : List ℕ} → Site rules ts us (i ∷ p) → Site rules (grow t ts) (grow t' us) (suc i ∷ p)
  site_after s = record { head = s.head; args = s.args; vs = s.vs; right = s.right; parts = s.parts; weights = s.weights; there = at_after s.there; there' = at_after s.there'; redex = s.redex; develops = s.develops }

module _ {H : Type 0} (rules : List (Compiled H)) (start : Label H → Matcher H) (c : Compiles rules start) where
  pub nth_develops : (h : H) (i : ℕ) {e e' rest vs : Forest H} {ns ms : List ℕ} → Develops rules e e' ns → Develops rules rest vs ms → Develops rules (grow (nth h i e) rest) (grow (nth h i e') vs) (nth_weight i ns ∷ ms)
  nth_develops h i nil d = keep nil d
  nth_develops h zero (keep dk dr) d = keep dk d
  nth_develops h zero (contract x' dk dr) d = contract x' dk d
  nth_develops h (suc i) (keep dk dr) d = nth_develops h i dr d
  nth_develops h (suc i) (contract x' dk dr) d = nth_develops h i dr d

  -- right sides over developments
  record Filled (h : H) (ps : Forest (PatternCell H)) (e e' : Forest H) (ns : List ℕ) : Type 0 where
    weights : List ℕ
    develops : Develops rules (apply_all (λ i. nth h i e) ps) (apply_all (λ i. nth h i e') ps) weights
    sums : total weights ≡ sum_of (λ i. nth_weight i ns) (all_variables ps)

  fill_all_develops : (h : H) (ps : Forest (PatternCell H)) {e e' : Forest H} {ns : List ℕ} → Develops rules e e' ns → Filled h ps e e' ns
  fill_all_develops h empty d = record { weights = []; develops = nil; sums = refl }
  fill_all_develops h (grow (node (fixed g) qs) ps) {ns = ns} d =
      let a = fill_all_develops h qs d in
      let b = fill_all_develops h ps d in
      record { weights = _; develops = keep a.develops b.develops; sums = omega (arith, a.sums, b.sums, sum_of-append (λ i. nth_weight i ns) (all_variables qs) (all_variables ps)) }
  fill_all_develops h (grow (node (variable i) qs) ps) d =
      let b = fill_all_develops h ps d in
      record { weights = _; develops = nth_develops h i d b.develops; sums = omega (arith, b.sums) }
  fill_all_develops h (grow (node (restricted i class) qs) ps) d =
      let b = fill_all_develops h ps d in
      record { weights = _; develops = nth_develops h i d b.develops; sums = omega (arith, b.sums) }

  pub fill_develops : (h : H) (r : Tree (PatternCell H)) {e e' rest vs : Forest H} {ns ms : List ℕ} → Develops rules e e' ns → Develops rules rest vs ms → Develops rules (grow (fill h r e) rest) (grow (fill h r e') vs) (weight r ns ∷ ms)
  fill_develops h (node (fixed g) ps) {e = e} {e' = e'} {rest = rest} {vs = vs} {ms = ms} d d' =
      let a = fill_all_develops h ps d in
      subst (λ n. Develops rules (grow (fill h (node (fixed g) ps) e) rest) (grow (fill h (node (fixed g) ps) e') vs) (n ∷ ms)) a.sums (keep a.develops d')
  fill_develops h (node (variable i) ps) {e = e} {e' = e'} {rest = rest} {vs = vs} {ns = ns} {ms = ms} d d' =
      subst (λ n. Develops rules (grow (nth h i e) rest) (grow (nth h i e') vs) (n ∷ ms)) (plus_none (nth_weight i ns)) (nth_develops h i d d')
  fill_develops h (node (restricted i class) ps) {e = e} {e' = e'} {rest = rest} {vs = vs} {ns = ns} {ms = ms} d d' =
      subst (λ n. Develops rules (grow (nth h i e) rest) (grow (nth h i e') vs) (n ∷ ms)) (plus_none (nth_weight i ns)) (nth_develops h i d d')

  -- a redex whose root is not marked stays one, and its parts develop
  pub root_kept : Sequential start → {h : H} {args es us : Forest H} {r : Tree (PatternCell H)} {ns : List ℕ} → Redex rules h args r es → Develops rules args us ns → (fs : Forest H) × (ms : List ℕ) × Redex rules h us r fs × Develops rules es fs ms
  root_kept sq {h} {args} {es} {us} {r} x dk =
      let s = stays rules start c (redex_quiet rules start c sq h args es r x) dk in
      let w = s.parts_develop nil in
      let n : count us ≡ count args = develops-count rules start c dk in
      (_, w.0, c.redex h us r (ap (λ k. run (start (h, k)) us) n ∙ (s.same ∙ c.finds h args r es x)), subst (λ z. Develops rules z (parts (start (h, count us)) us empty) w.0) (sym (c.opens h args r es x)) (subst (λ k. Develops rules (parts (start (h, count args)) args empty) (parts (start (h, k)) us empty) w.0) (sym n) w.1))

  pub root_marked : {h : H} {args es es' us : Forest H} {r r' : Tree (PatternCell H)} {ns : List ℕ} → Redex rules h args r es → Redex rules h args r' es' → Develops rules es' us ns → (r' ≡ r) × Develops rules es us ns
  root_marked {h} {args} {es} {es'} {us} {r} {r'} {ns} x x' dk =
      (same_right (c.finds h args r' es' x') (c.finds h args r es x), subst (λ z. Develops rules z us ns) (c.opens h args r' es' x' ∙ sym (c.opens h args r es x)) dk)

  pub marks-root : {ts us : Forest H} {ns : List ℕ} (d : Develops rules ts us ns) → marks_at d [] ≡ false
  marks-root nil = refl
  marks-root (keep dk dr) = refl
  marks-root (contract x' dk dr) = refl

  -- not marked: the demanded redex stays, and its step after the development is joined with its step before it
  pub demand_kept : Sequential start → {m : Matcher H} {ts ts' : Forest H} {p : List ℕ} → Leads rules start m ts p ts' → Guarded start m → {us : Forest H} {ns : List ℕ} (d : Develops rules ts us ns) → marks_at d p ≡ false → (us' : Forest H) × (ms : List ℕ) × Leads rules start m us p us' × Develops rules ts' us' ms × Site rules ts us p
  demand_kept sq (leads_here {h = h} {r = r} x) g (keep dk dr) off =
      let w = root_kept sq x dk in
      (_, _, leads_here w.2, fill_develops h r w.3 dr, site_here rules x dk)
  demand_kept sq (leads_here x) g (contract x' dk dr) off = absurd (cc)
  demand_kept sq (leads_below {h = h} {args = args} {p = p} none demand) g (keep {us = us} dk dr) off =
      let w = demand_kept sq demand (sq (h, count args)) dk off in
      let l = subst (λ k. Leads rules start (start (h, k)) us p w.0) (sym (develops-count rules start c dk)) w.2 in
      (_, _, leads_below (λ r es x. not_both rules start c (redex_quiet rules start c sq h us es r x) l) l, keep w.3 dr, site_below rules w.4)
  demand_kept sq (leads_below none demand) g (contract x' dk dr) off = absurd (none _ _ x')
  demand_kept sq (leads_within {f = f} {h = h} {args = args} {p = p} none q demand) (guarded_read foe gs) (keep {us = us} dk dr) off =
      let s = stays rules start c q dk in
      let w = demand_kept sq demand (gs (h, count args)) dk off in
      let n : count us ≡ count args = develops-count rules start c dk in
      (_, _, leads_within (no_redex rules start c h args us n s.same none) (subst (λ k. Quiet rules start (start (h, k)) us) (sym n) s.quiet) (subst (λ k. Leads rules start (f (h, k)) us p w.0) (sym n) w.2), keep w.3 dr, site_below rules w.4)
  demand_kept sq (leads_within none q demand) g (contract x' dk dr) off = absurd (none _ _ x')
  demand_kept sq (leads_after {f = f} {m = m} {h = h} {args = args} none q q' e demand) (guarded_read foe gs) (keep {us = us} dk dr) off =
      let s = stays rules start c q dk in
      let s' = stays rules start c q' dk in
      let w = demand_kept sq demand (subst (λ m. Guarded start m) e (guarded-run start args (gs (h, count args)))) dr off in
      let n : count us ≡ count args = develops-count rules start c dk in
      (_, _, leads_after (no_redex rules start c h args us n s.same none) (subst (λ k. Quiet rules start (start (h, k)) us) (sym n) s.quiet) (subst (λ k. Quiet rules start (f (h, k)) us) (sym n) s'.quiet) (ap (λ k. run (f (h, k)) us) n ∙ (s'.same ∙ e)) w.2, keep dk w.3, site_after rules w.4)
  demand_kept sq (leads_after none q q' e demand) g (contract x' dk dr) off = absurd (none _ _ x')
  demand_kept sq (leads_skip demand) (guarded_skip g) (keep dk dr) off =
      let w = demand_kept sq demand g dr off in
      (_, _, leads_skip w.2, keep dk w.3, site_after rules w.4)
  demand_kept sq (leads_skip demand) (guarded_skip g) (contract x' dk dr) off =
      let w = demand_kept sq demand g dr off in
      (_, _, leads_skip w.2, contract x' dk w.3, site_after rules w.4)

  -- marked: the development is the step at the demanded redex followed by one of weight smaller by 1
  pub demand_marked : {m : Matcher H} {ts ts' : Forest H} {p : List ℕ} → Leads rules start m ts p ts' → {us : Forest H} {ns : List ℕ} (d : Develops rules ts us ns) → marks_at d p ≡ true → (ms : List ℕ) × Develops rules ts' us ms × (total ns ≡ suc (total ms))
  demand_marked (leads_here x) (keep dk dr) on = absurd (let z = marks-root dk in cc)
  demand_marked (leads_here {h = h} {r = r} x) (contract {us = us} {vs = vs} {r = r'} {ns = ns} {ms = ms} x' dk dr) on =
      let w = root_marked x x' dk in
      rw w.0 (_, fill_develops h r w.1 dr, omega arith)
  demand_marked (leads_below none demand) (keep dk dr) on =
      let w = demand_marked demand dk on in
      (_, keep w.1 dr, omega (arith, w.2))
  demand_marked (leads_below none demand) (contract x' dk dr) on = absurd (none _ _ x')
  demand_marked (leads_within none q demand) (keep dk dr) on =
      let w = demand_marked demand dk on in
      (_, keep w.1 dr, omega (arith, w.2))
  demand_marked (leads_within none q demand) (contract x' dk dr) on = absurd (none _ _ x')
  demand_marked (leads_after none q q' e demand) (keep dk dr) on =
      let w = demand_marked demand dr on in
      (_, keep dk w.1, omega (arith, w.2))
  demand_marked (leads_after none q q' e demand) (contract x' dk dr) on = absurd (none _ _ x')
  demand_marked (leads_skip demand) (keep dk dr) on =
      let w = demand_marked demand dr on in
      (_, keep dk w.1, omega (arith, w.2))
  demand_marked (leads_skip demand) (contract x' dk dr) on =
      let w = demand_marked demand dr on in
      (_, contract x' dk w.1, omega (arith, w.2))

  -- a normal list of trees develops to itself alone
  pub normal_develops : {ts us : Forest H} {ns : List ℕ} → Normal rules ts → Develops rules ts us ns → us ≡ ts
  normal_develops normal_nil nil = refl
  normal_develops (normal_cons none n n') (keep {h = h} {args = args} {us = us} {rest = rest} {vs = vs} dk dr) =
      let e : us ≡ args = normal_develops n dk in
      let e' : vs ≡ rest = normal_develops n' dr in
      cc
  normal_develops (normal_cons none n n') (contract x' dk dr) = absurd (none _ _ x')

  pub next_kept : Sequential start → {ts ts' : Forest H} {p : List ℕ} → Advances rules start ts p ts' → {us : Forest H} {ns : List ℕ} (d : Develops rules ts us ns) → marks_at d p ≡ false → (us' : Forest H) × (ms : List ℕ) × Advances rules start us p us' × Develops rules ts' us' ms × Site rules ts us p
  next_kept sq (advances_here {h = h} {r = r} x) (keep dk dr) off =
      let w = root_kept sq x dk in
      (_, _, advances_here w.2, fill_develops h r w.3 dr, site_here rules x dk)
  next_kept sq (advances_here x) (contract x' dk dr) off = absurd (cc)
  next_kept sq (advances_demand {h = h} {args = args} {p = p} none demand) (keep {us = us} dk dr) off =
      let w = demand_kept sq demand (sq (h, count args)) dk off in
      let l = subst (λ k. Leads rules start (start (h, k)) us p w.0) (sym (develops-count rules start c dk)) w.2 in
      (_, _, advances_demand (λ r es x. not_both rules start c (redex_quiet rules start c sq h us es r x) l) l, keep w.3 dr, site_below rules w.4)
  next_kept sq (advances_demand none demand) (contract x' dk dr) off = absurd (none _ _ x')
  next_kept sq (advances_below {h = h} {args = args} none q next) (keep {us = us} dk dr) off =
      let s = stays rules start c q dk in
      let w = next_kept sq next dk off in
      let n : count us ≡ count args = develops-count rules start c dk in
      (_, _, advances_below (no_redex rules start c h args us n s.same none) (subst (λ k. Quiet rules start (start (h, k)) us) (sym n) s.quiet) w.2, keep w.3 dr, site_below rules w.4)
  next_kept sq (advances_below none q next) (contract x' dk dr) off = absurd (none _ _ x')
  next_kept sq (advances_after {h = h} {args = args} none n next) (keep {us = us} dk dr) off =
      let e : us ≡ args = normal_develops n dk in
      let w = next_kept sq next dr off in
      (_, _, advances_after (subst (λ x. NoRedex rules h x) (sym e) none) (subst (λ x. Normal rules x) (sym e) n) w.2, keep dk w.3, site_after rules w.4)
  next_kept sq (advances_after none n next) (contract x' dk dr) off = absurd (none _ _ x')

  pub next_marked : {ts ts' : Forest H} {p : List ℕ} → Advances rules start ts p ts' → {us : Forest H} {ns : List ℕ} (d : Develops rules ts us ns) → marks_at d p ≡ true → (ms : List ℕ) × Develops rules ts' us ms × (total ns ≡ suc (total ms))
  next_marked (advances_here x) (keep dk dr) on = absurd (let z = marks-root dk in cc)
  next_marked (advances_here {h = h} {r = r} x) (contract {us = us} {vs = vs} {r = r'} {ns = ns} {ms = ms} x' dk dr) on =
      let w = root_marked x x' dk in
      rw w.0 (_, fill_develops h r w.1 dr, omega arith)
  next_marked (advances_demand none demand) (keep dk dr) on =
      let w = demand_marked demand dk on in
      (_, keep w.1 dr, omega (arith, w.2))
  next_marked (advances_demand none demand) (contract x' dk dr) on = absurd (none _ _ x')
  next_marked (advances_below none q next) (keep dk dr) on =
      let w = next_marked next dk on in
      (_, keep w.1 dr, omega (arith, w.2))
  next_marked (advances_below none q next) (contract x' dk dr) on = absurd (none _ _ x')
  next_marked (advances_after none n next) (keep dk dr) on =
      let w = next_marked next dr on in
      (_, keep dk w.1, omega (arith, w.2))
  next_marked (advances_after none n next) (contract x' dk dr) on = absurd (none _ _ x')
