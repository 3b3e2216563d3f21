-- The strategy by demanded positions is the strategy by the decision tree.
use Rattle.std.proofs.Common.{◌≡◌, ℕ, suc, ◌<◌, List, [], ◌∷◌, ◌++◌, ◌⊎◌, inl, inr, refl, sym, ap, subst, arith}
use Rattle.eq_base.specs.Tree.{Tree, Forest, node, empty, grow, count}
use Rattle.orthogonal_laws.proofs.LeftSides.{Label, Compiled, NoRedex}
use Rattle.orthogonal_laws.proofs.ForestSteps.{At, at_here, at_below, at_after, Step, Normal, normal_nil, normal_cons}
use Rattle.orthogonal_laws.proofs.ForestStrategy.{Before, before_above, before_left, before_below, NoDemandedRedex, no_demand, DemandedRedex, demand_root, demand_below, NoNext, no_next_nil, no_next_cons, Next, next_demand, next_below, next_after}
use Rattle.orthogonal_laws.proofs.Matchers.{Matcher, Read, Skip, run, Compiles}
use Rattle.orthogonal_laws.proofs.Walks.{Quiet, quiet_read, quiet_skip, quiet_nil, quiet_end, quiet_done, quiet_stop, Leads, leads_here, leads_below, leads_within, leads_after, leads_skip, Advances, advances_here, advances_demand, advances_below, advances_after}
use Rattle.orthogonal_laws.proofs.ReadPositions.{Reads, reads_here, reads_below, reads_after, reads_skip, ReadsDemanded}
use Rattle.orthogonal_laws.proofs.Existence.{quiet_or_demand, normal_or_next, normal_not_demand, next_step, step_unique}

before_first : {p : List ℕ} → Before p (0 ∷ []) → p ≡ []
before_first before_above = refl
before_first (before_left l) = absurd (omega arith)
before_first (before_below b) = elim b [ ]

data Order (p q : List ℕ) : Type 0 where
  order_before : Before p q → Order p q
  order_same : p ≡ q → Order p q
  order_after : Before q p → Order p q

order_below : (i : ℕ) {p q : List ℕ} → Order p q → Order (i ∷ p) (i ∷ q)
order_below i (order_before b) = order_before (before_below b)
order_below i (order_same e) = order_same (ap (λ z. i ∷ z) e)
order_below i (order_after b) = order_after (before_below b)

lt_or_ge : (i j : ℕ) → (i < j) ⊎ ((i ≡ j) ⊎ (j < i))
lt_or_ge i j = grind arith

order : (p q : List ℕ) → Order p q
order [] [] = order_same refl
order [] (j ∷ q) = order_before before_above
order (i ∷ p) [] = order_after before_above
order (i ∷ p) (j ∷ q) =
    let below = order_below i (order p q) in
    elim (lt_or_ge i j) [
      | inl l ↦ order_before (before_left l)
      | inr r ↦ elim r [ inl e ↦ subst (λ k. Order (i ∷ p) (k ∷ q)) e below | inr g ↦ order_after (before_left g) ]
    ]

moved_position : (i j : ℕ) (p q s : List ℕ) → i ∷ p ≡ (j ∷ q) ++ s → suc i ∷ p ≡ (suc j ∷ q) ++ s
moved_position i j p q s e = cc

module _ {H : Type 0} where
  pub reads-root : {m : Matcher H} {ts : Forest H} → Reads m ts [] → ⊥
  reads-root r = elim r [ ]

  pub at_unique : {ts : Forest H} {p : List ℕ} {h g : H} {us vs : Forest H} → At ts p h us → At ts p g vs → (h ≡ g) × (us ≡ vs)
  at_unique at_here at_here = (refl, refl)
  at_unique at_here (at_below a) = elim a [ ]
  at_unique (at_below a) at_here = elim a [ ]
  at_unique (at_below a) (at_below a') = at_unique a a'
  at_unique (at_after a) (at_after a') = at_unique a a'

module _ {H : Type 0} (rules : List (Compiled H)) (start : Label H → Matcher H) (c : Compiles rules start) (k : ReadsDemanded rules start) where
  -- where the matcher finds no demanded redex, the trees that it reads have none
  quiet-reads : {m : Matcher H} {ts : Forest H} {p : List ℕ} {g : H} {us : Forest H} → Quiet rules start m ts → Reads m ts p → At ts p g us → NoRedex rules g us × Quiet rules start (start (g, count us)) us
  quiet-reads (quiet_read none q1 q2 e q3) reads_here at_here = (none, q1)
  quiet-reads (quiet_read none q1 q2 e q3) reads_here (at_below a) = elim a [ ]
  quiet-reads (quiet_read none q1 q2 e q3) (reads_below r) at_here = absurd (reads-root r)
  quiet-reads (quiet_read none q1 q2 e q3) (reads_below r) (at_below a) = quiet-reads q2 r a
  quiet-reads (quiet_read {rest = rest} none q1 q2 e q3) (reads_after {i = i} {p = p} r) (at_after a) = quiet-reads q3 (subst (λ m. Reads m rest (i ∷ p)) e r) a
  quiet-reads (quiet_skip q) (reads_skip r) (at_after a) = quiet-reads q r a
  quiet-reads quiet_nil r a = elim r [ ]
  quiet-reads quiet_end r a = elim r [ ]
  quiet-reads quiet_done r a = elim r [ ]
  quiet-reads quiet_stop r a = elim r [ ]

  quiet_within : (ts : Forest H) {p : List ℕ} {g : H} {us : Forest H} → At ts p g us → NoRedex rules g us → Quiet rules start (start (g, count us)) us → NoDemandedRedex rules g us
  quiet_within empty a none q = elim a [ ]
  quiet_within (grow (node h args) rest) at_here none q =
      no_demand none (λ p g us wanted a. let w = quiet-reads q (k.read h args p wanted) a in quiet_within args a w.0 w.1)
  quiet_within (grow (node h args) rest) (at_below a) none q = quiet_within args a none q
  quiet_within (grow (node h args) rest) (at_after a) none q = quiet_within rest a none q

  pub quiet-no_demand : (h : H) (args : Forest H) → NoRedex rules h args → Quiet rules start (start (h, count args)) args → NoDemandedRedex rules h args
  quiet-no_demand h args none q = quiet_within (grow (node h args) empty) at_here none q

  pub demand-no_demand : {h : H} {args : Forest H} {p : List ℕ} → DemandedRedex rules h args p → NoDemandedRedex rules h args → ⊥
  demand-no_demand (demand_root x) (no_demand none each) = none _ _ x
  demand-no_demand (demand_below none wanted a d earlier e) (no_demand none' each) = demand-no_demand d (each _ _ _ wanted a)

  -- the first tree that the matcher reads and that has a demanded redex
  record First (m : Matcher H) (ts : Forest H) (p : List ℕ) : Type 0 where
    i : ℕ
    q : List ℕ
    h : H
    us : Forest H
    s : List ℕ
    reads : Reads m ts (i ∷ q)
    there : At ts (i ∷ q) h us
    demand : DemandedRedex rules h us s
    earlier : (q' : List ℕ) (g : H) (vs : Forest H) → Reads m ts q' → Before q' (i ∷ q) → At ts q' g vs → NoDemandedRedex rules g vs
    position : p ≡ (i ∷ q) ++ s

  first_earlier : {m : Matcher H} {ts vs : Forest H} {g : H} {q' : List ℕ} → Reads m ts q' → Before q' (0 ∷ []) → At ts q' g vs → NoDemandedRedex rules g vs
  first_earlier {m} {ts} r b a = absurd (reads-root (subst (λ p. Reads m ts p) (before_first b) r))

  within_earlier : {f : Label H → Matcher H} {h : H} {args rest : Forest H} {i : ℕ} {q : List ℕ} → NoDemandedRedex rules h args →
      ((q' : List ℕ) (g : H) (vs : Forest H) → Reads (f (h, count args)) args q' → Before q' (i ∷ q) → At args q' g vs → NoDemandedRedex rules g vs) →
      {q' : List ℕ} {g : H} {vs : Forest H} → Reads (Read f) (grow (node h args) rest) q' → Before q' (0 ∷ i ∷ q) → At (grow (node h args) rest) q' g vs → NoDemandedRedex rules g vs
  within_earlier nothing each reads_here b at_here = nothing
  within_earlier nothing each reads_here b (at_below a) = elim a [ ]
  within_earlier nothing each (reads_below r) b at_here = absurd (reads-root r)
  within_earlier nothing each (reads_below r) (before_left l) (at_below a) = absurd (omega arith)
  within_earlier nothing each (reads_below r) (before_below b) (at_below a) = each _ _ _ r b a
  within_earlier nothing each (reads_after r) (before_left l) a = absurd (omega arith)

  after_earlier : {f : Label H → Matcher H} {h : H} {args rest : Forest H} {i : ℕ} {q : List ℕ} → NoDemandedRedex rules h args →
      ((q' : List ℕ) (g : H) (vs : Forest H) → Reads (f (h, count args)) args q' → At args q' g vs → NoDemandedRedex rules g vs) →
      ((q' : List ℕ) (g : H) (vs : Forest H) → Reads (run (f (h, count args)) args) rest q' → Before q' (i ∷ q) → At rest q' g vs → NoDemandedRedex rules g vs) →
      {q' : List ℕ} {g : H} {vs : Forest H} → Reads (Read f) (grow (node h args) rest) q' → Before q' (suc i ∷ q) → At (grow (node h args) rest) q' g vs → NoDemandedRedex rules g vs
  after_earlier nothing below each reads_here b at_here = nothing
  after_earlier nothing below each reads_here b (at_below a) = elim a [ ]
  after_earlier nothing below each (reads_below r) b at_here = absurd (reads-root r)
  after_earlier nothing below each (reads_below r) b (at_below a) = below _ _ _ r a
  after_earlier nothing below each (reads_after r) (before_left l) (at_after a) = each _ _ _ r (before_left (omega arith)) a
  after_earlier nothing below each (reads_after r) (before_below b) (at_after a) = each _ _ _ r (before_below b) a

  skip_earlier : {m : Matcher H} {t : Tree H} {rest : Forest H} {i : ℕ} {q : List ℕ} →
      ((q' : List ℕ) (g : H) (vs : Forest H) → Reads m rest q' → Before q' (i ∷ q) → At rest q' g vs → NoDemandedRedex rules g vs) →
      {q' : List ℕ} {g : H} {vs : Forest H} → Reads (Skip m) (grow t rest) q' → Before q' (suc i ∷ q) → At (grow t rest) q' g vs → NoDemandedRedex rules g vs
  skip_earlier each (reads_skip r) (before_left l) (at_after a) = each _ _ _ r (before_left (omega arith)) a
  skip_earlier each (reads_skip r) (before_below b) (at_after a) = each _ _ _ r (before_below b) a

  demanded_demand : {h : H} {args : Forest H} {p : List ℕ} → NoRedex rules h args → First (start (h, count args)) args p → DemandedRedex rules h args p
  demanded_demand {h} {args} none w =
      demand_below none (k.wanted h args _ w.reads) w.there w.demand (λ q' g vs wanted b a. w.earlier q' g vs (k.read h args q' wanted) b a) w.position

  first : {m : Matcher H} {ts us : Forest H} {p : List ℕ} → Leads rules start m ts p us → First m ts p
  first (leads_here x) =
      record { i = 0; q = []; h = _; us = _; s = []; reads = reads_here; there = at_here; demand = demand_root x; earlier = λ q' g vs r b a. first_earlier r b a; position = refl }
  first (leads_below {h = h} {args = args} {p = p} none d) =
      record { i = 0; q = []; h = h; us = args; s = p; reads = reads_here; there = at_here; demand = demanded_demand none (first d); earlier = λ q' g vs r b a. first_earlier r b a; position = refl }
  first (leads_within {h = h} {args = args} none quiet d) =
      let w = first d in
      record {
        i = 0;
        q = w.i ∷ w.q;
        h = w.h;
        us = w.us;
        s = w.s;
        reads = reads_below w.reads;
        there = at_below w.there;
        demand = w.demand;
        earlier = λ q' g vs r b a. within_earlier (quiet-no_demand h args none quiet) w.earlier r b a;
        position = ap (λ z. 0 ∷ z) w.position;
      }
  first (leads_after {h = h} {args = args} {rest = rest} {i = i} {p = p} none quiet quiet' e d) =
      let w = first d in
      record {
        i = suc w.i;
        q = w.q;
        h = w.h;
        us = w.us;
        s = w.s;
        reads = reads_after (subst (λ m. Reads m rest (w.i ∷ w.q)) (sym e) w.reads);
        there = at_after w.there;
        demand = w.demand;
        earlier = λ q' g vs r b a. after_earlier (quiet-no_demand h args none quiet)
            (λ q' g vs r a. let z = quiet-reads quiet' r a in quiet-no_demand g vs z.0 z.1)
            (λ q' g vs r b a. w.earlier q' g vs (subst (λ m. Reads m rest q') e r) b a) r b a;
        position = moved_position i w.i p w.q w.s w.position;
      }
  first (leads_skip {i = i} {p = p} d) =
      let w = first d in
      record {
        i = suc w.i;
        q = w.q;
        h = w.h;
        us = w.us;
        s = w.s;
        reads = reads_skip w.reads;
        there = at_after w.there;
        demand = w.demand;
        earlier = λ q' g vs r b a. skip_earlier w.earlier r b a;
        position = moved_position i w.i p w.q w.s w.position;
      }

  pub leads-demand : {h : H} {args us : Forest H} {p : List ℕ} → NoRedex rules h args → Leads rules start (start (h, count args)) args p us → DemandedRedex rules h args p
  leads-demand none d = demanded_demand none (first d)

  -- what has no demanded redex has none among the trees that the decision tree reads
  pub no_demand-quiet : {h : H} {args : Forest H} → NoDemandedRedex rules h args → NoRedex rules h args × Quiet rules start (start (h, count args)) args
  no_demand-quiet {h} {args} (no_demand none each) = (
    none,
    elim (quiet_or_demand rules start c args (start (h, count args))) [
      | inl q ↦ q
      | inr d ↦ absurd (demand-no_demand (demanded_demand none (first d.3)) (no_demand none each))
    ],
  )

  pub normal-quiet : (h : H) (args : Forest H) → Normal rules args → Quiet rules start (start (h, count args)) args
  normal-quiet h args n =
      elim (quiet_or_demand rules start c args (start (h, count args))) [ inl q ↦ q | inr d ↦ absurd (normal_not_demand rules start c d.3 n) ]

  pub normal-no_next : {ts : Forest H} → Normal rules ts → NoNext rules ts
  normal-no_next normal_nil = no_next_nil
  normal-no_next (normal_cons {h = h} {args = args} none n n') = no_next_cons (quiet-no_demand h args none (normal-quiet h args n)) (normal-no_next n) (normal-no_next n')

  pub advances-next : {ts us : Forest H} {p : List ℕ} → Advances rules start ts p us → Next rules ts p
  advances-next (advances_here x) = next_demand (demand_root x)
  advances-next (advances_demand none d) = next_demand (demanded_demand none (first d))
  advances-next (advances_below {h = h} {args = args} none q a) = next_below (quiet-no_demand h args none q) (advances-next a)
  advances-next (advances_after {h = h} {args = args} none n a) = next_after (quiet-no_demand h args none (normal-quiet h args n)) (normal-no_next n) (advances-next a)

  pub demand_unique : {h : H} {args : Forest H} {p p' : List ℕ} → DemandedRedex rules h args p → DemandedRedex rules h args p' → p ≡ p'
  demand_unique (demand_root x) (demand_root y) = refl
  demand_unique (demand_root x) (demand_below none wanted a d earlier e) = absurd (none _ _ x)
  demand_unique (demand_below none wanted a d earlier e) (demand_root x) = absurd (none _ _ x)
  demand_unique (demand_below {g = g} {args = args} {us = us} {q = q} {p = p} none wanted a d earlier e) (demand_below {g = g'} {us = us'} {q = q'} {p = p'} none' demanded' a' d' earlier' e') =
      elim (order q q') [
        | order_before b ↦ absurd (demand-no_demand d (earlier' q g us wanted b a))
        | order_after b ↦ absurd (demand-no_demand d' (earlier q' g' us' demanded' b a'))
        | order_same same ↦
            let w = at_unique (subst (λ z. At args z g us) same a) a' in
            let d'' = subst (λ v. DemandedRedex rules g v p') (sym w.1) (subst (λ x. DemandedRedex rules x us' p') (sym w.0) d') in
            let last : p ≡ p' = demand_unique d d'' in
            cc
      ]

  pub no_next-next : {ts : Forest H} {p : List ℕ} → NoNext rules ts → Next rules ts p → ⊥
  no_next-next (no_next_cons nothing n n') (next_demand d) = demand-no_demand d nothing
  no_next-next (no_next_cons nothing n n') (next_below x d) = no_next-next n d
  no_next-next (no_next_cons nothing n n') (next_after x y d) = no_next-next n' d
  no_next-next no_next_nil d = elim d [ ]

  pub next_unique : {ts : Forest H} {p p' : List ℕ} → Next rules ts p → Next rules ts p' → p ≡ p'
  next_unique (next_demand d) (next_demand d') = ap (λ p. 0 ∷ p) (demand_unique d d')
  next_unique (next_demand d) (next_below x n) = absurd (demand-no_demand d x)
  next_unique (next_demand d) (next_after x y n) = absurd (demand-no_demand d x)
  next_unique (next_below x n) (next_demand d) = absurd (demand-no_demand d x)
  next_unique (next_below x n) (next_below x' n') = ap (λ p. 0 ∷ p) (next_unique n n')
  next_unique (next_below x n) (next_after x' y n') = absurd (no_next-next y n)
  next_unique (next_after x y n) (next_demand d) = absurd (demand-no_demand d x)
  next_unique (next_after x y n) (next_below x' n') = absurd (no_next-next y n')
  next_unique (next_after x y n) (next_after x' y' n') = let z = next_unique n n' in cc

  -- the step at the next redex is the advance of the decision tree
  pub next-advances : {ts us : Forest H} {p : List ℕ} → Next rules ts p → Step rules ts p us → Advances rules start ts p us
  next-advances {ts} {us} {p} n s =
      elim (normal_or_next rules start c ts) [
        | inl normal ↦ absurd (no_next-next (normal-no_next normal) n)
        | inr a ↦
            let e : a.0 ∷ a.1 ≡ p = next_unique (advances-next a.3) n in
            let e' : a.2 ≡ us = step_unique rules start c (next_step rules start c a.3) (subst (λ q. Step rules ts q us) (sym e) s) in
            subst (λ q. Advances rules start ts q us) e (subst (λ v. Advances rules start ts (a.0 ∷ a.1) v) e' a.3)
      ]

  pub next-normal : {ts : Forest H} {p : List ℕ} → Next rules ts p → Normal rules ts → ⊥
  next-normal n normal = no_next-next (normal-no_next normal) n
