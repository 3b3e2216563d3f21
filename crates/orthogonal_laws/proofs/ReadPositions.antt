-- The decision tree reads exactly the positions that are demanded.
use Rattle.std.proofs.Common.{◌≡◌, ℕ, suc, List, [], ◌∷◌, Bool, true, false, cond, ◌⊎◌, inl, inr, refl, sym, ◌∙◌, ap, subst}
use Rattle.std.specs.Prelude.{IsTrue}
use Rattle.eq_base.specs.Tree.{Tree, Forest, node, empty, grow, count}
use Rattle.orthogonal_laws.proofs.LeftSides.{Label, Patterns, Last, Open, Test, Compiled, skeleton, Regular}
use Rattle.orthogonal_laws.proofs.ForestStrategy.{Demands, demands_here, demands_below, demands_after, demands_skip, DemandedBelow}
use Rattle.orthogonal_laws.proofs.Matchers.{Matcher, Read, Skip, Stop, run, path, done, join, tree, Alive}
use Rattle.orthogonal_laws.proofs.Sequential.{Beside, beside_read, beside_skip, beside_end, beside_done, beside_stop_left, beside_stop_right}
use Rattle.orthogonal_laws.proofs.TestedParts.{alive_before}
use Rattle.orthogonal_laws.proofs.DecisionTrees.{Member, member_first, member_next, member_of, contains_of, Fit, first_fits, regular-fit}
use Rattle.orthogonal_laws.proofs.Paths.{rule_path, path-run, path-meets, cond_alive}
use Rattle.orthogonal_laws.proofs.Joins.{join-stop, joined}

-- the matcher reads the head at a position
pub data Reads {H : Type 0} : Matcher H → Forest H → List ℕ → Type 0 where
  reads_here : {f : Label H → Matcher H} {h : H} {args rest : Forest H} → Reads (Read f) (grow (node h args) rest) (0 ∷ [])
  reads_below : {f : Label H → Matcher H} {h : H} {args rest : Forest H} {p : List ℕ} → Reads (f (h, count args)) args p → Reads (Read f) (grow (node h args) rest) (0 ∷ p)
  reads_after : {f : Label H → Matcher H} {h : H} {args rest : Forest H} {i : ℕ} {p : List ℕ} → Reads (run (f (h, count args)) args) rest (i ∷ p) → Reads (Read f) (grow (node h args) rest) (suc i ∷ p)
  reads_skip : {m : Matcher H} {t : Tree H} {rest : Forest H} {i : ℕ} {p : List ℕ} → Reads m rest (i ∷ p) → Reads (Skip m) (grow t rest) (suc i ∷ p)

module _ {H : Type 0} where
  reads-alive : {m : Matcher H} {ts : Forest H} {p : List ℕ} → Reads m ts p → Alive m
  reads-alive reads_here = tt
  reads-alive (reads_below r) = tt
  reads-alive (reads_after r) = tt
  reads-alive (reads_skip r) = tt

  cond-reads : (b : Bool) (m : Matcher H) {us : Forest H} {p : List ℕ} → Reads (cond b m Stop) us p → (b ≡ true) × Reads m us p
  cond-reads true m r = (refl, r)
  cond-reads false m r = elim r [ ]

  -- what a path reads, its patterns demand
  path-reads : (f : H) (ps : Patterns H) (ts : Forest H) (k : Forest H → Matcher H) {p : List ℕ} → Reads (path f ps k) ts p → Demands ps ts p
  path-reads f Last empty k r = elim r [ ]
  path-reads f Last (grow t more) k r = elim r [ ]
  path-reads f (Open ps) empty k r = elim r [ ]
  path-reads f (Open ps) (grow t more) k (reads_skip r) = demands_skip (path-reads f ps more (λ ts. k (grow (node f empty) ts)) r)
  path-reads f (Test t ps qs) empty k r = elim r [ ]
  path-reads f (Test t ps qs) (grow (node h us) more) k reads_here = demands_here
  path-reads f (Test t ps qs) (grow (node h us) more) k (reads_below r) =
      let k' = λ (us : Forest H). path f qs (λ ts. k (grow (node h us) ts)) in
      let w = cond-reads (t (h, count us)) (path f ps k') r in
      demands_below w.0 (path-reads f ps us k' w.1)
  path-reads f (Test t ps qs) (grow (node h us) more) k (reads_after {i = i} {p = p} r) =
      let k' = λ (us : Forest H). path f qs (λ ts. k (grow (node h us) ts)) in
      let m = path f ps k' in
      let alive1 = reads-alive r in
      let e : t (h, count us) ≡ true = cond_alive (t (h, count us)) m (alive_before (cond (t (h, count us)) m Stop) us alive1) in
      let met = path-meets f ps us k' (subst (λ b. Alive (run (cond b m Stop) us)) e alive1) in
      demands_after e met (path-reads f qs more (λ ts. k (grow (node h (skeleton f ps us)) ts))
      (subst (λ n. Reads n more (i ∷ p)) (ap (λ b. run (cond b m Stop) us) e ∙ path-run f ps us k' met) r))

  -- what patterns demand, their path reads
  demands-path : {ps : Patterns H} {ts : Forest H} {p : List ℕ} → Demands ps ts p → (f : H) (k : Forest H → Matcher H) → Reads (path f ps k) ts p
  demands-path demands_here f k = reads_here
  demands-path (demands_below {ps = ps} {qs = qs} {h = h} {us = us} {p = p} e a) f k =
      let k' = λ (us : Forest H). path f qs (λ ts. k (grow (node h us) ts)) in
      reads_below (subst (λ b. Reads (cond b (path f ps k') Stop) us p) (sym e) (demands-path a f k'))
  demands-path (demands_after {ps = ps} {qs = qs} {h = h} {us = us} {more = more} {i = i} {p = p} e met a) f k =
      let k' = λ (us : Forest H). path f qs (λ ts. k (grow (node h us) ts)) in
      let m = path f ps k' in
      reads_after (subst (λ n. Reads n more (i ∷ p)) (sym (ap (λ b. run (cond b m Stop) us) e ∙ path-run f ps us k' met)) (demands-path a f (λ ts. k (grow (node h (skeleton f ps us)) ts))))
  demands-path (demands_skip a) f k = reads_skip (demands-path a f (λ ts. k (grow (node f empty) ts)))

  pub nothing-read : {m : Matcher H} {p : List ℕ} → Reads m empty p → ⊥
  nothing-read r = elim r [ ]

  join-stop-reads : (a : Matcher H) {ts : Forest H} {p : List ℕ} → Reads (join a Stop) ts p → Reads a ts p
  join-stop-reads a {ts} {p} r = subst (λ m. Reads m ts p) (join-stop a) r

  -- both at once read what either reads
  join-reads : (ts : Forest H) {a b : Matcher H} {p : List ℕ} → Beside (λ r s. r ≡ s) a b → Reads (join a b) ts p → Reads a ts p ⊎ Reads b ts p
  join-reads empty x r = absurd (nothing-read r)
  join-reads (grow (node h args) rest) (beside_read x) reads_here = inl reads_here
  join-reads (grow (node h args) rest) (beside_read x) (reads_below r) =
      elim (join-reads args (x (h, count args)) r) [ inl r' ↦ inl (reads_below r') | inr r' ↦ inr (reads_below r') ]
  join-reads (grow (node h args) rest) (beside_read x) (reads_after {i = i} {p = p} r) =
      let j = joined args (x (h, count args)) in
      elim (join-reads rest j.fits (subst (λ m. Reads m rest (i ∷ p)) j.runs r)) [ inl r' ↦ inl (reads_after r') | inr r' ↦ inr (reads_after r') ]
  join-reads (grow (node h args) rest) (beside_skip x) (reads_skip r) =
      elim (join-reads rest x r) [ inl r' ↦ inl (reads_skip r') | inr r' ↦ inr (reads_skip r') ]
  join-reads (grow (node h args) rest) (beside_end x) r = elim r [ ]
  join-reads (grow (node h args) rest) (beside_done x) r = elim r [ ]
  join-reads (grow (node h args) rest) beside_stop_left r = inr r
  join-reads (grow (node h args) rest) (beside_stop_right {a = a}) r = inl (join-stop-reads a r)

  reads-join_left : {a : Matcher H} {ts : Forest H} {p : List ℕ} → Reads a ts p → {b : Matcher H} → Beside (λ r s. r ≡ s) a b → Reads (join a b) ts p
  reads-join_left reads_here (beside_read x) = reads_here
  reads-join_left (reads_below {h = h} {args = args} r) (beside_read x) = reads_below (reads-join_left r (x (h, count args)))
  reads-join_left (reads_after {h = h} {args = args} {rest = rest} {i = i} {p = p} r) (beside_read x) =
      let j = joined args (x (h, count args)) in
      reads_after (subst (λ m. Reads m rest (i ∷ p)) (sym j.runs) (reads-join_left r j.fits))
  reads-join_left (reads_skip r) (beside_skip x) = reads_skip (reads-join_left r x)
  reads-join_left {a} {ts} {p} r beside_stop_right = subst (λ m. Reads m ts p) (sym (join-stop a)) r
  reads-join_left r (beside_end x) = elim r [ ]
  reads-join_left r (beside_done x) = elim r [ ]
  reads-join_left r beside_stop_left = elim r [ ]

  reads-join_right : {b : Matcher H} {ts : Forest H} {p : List ℕ} → Reads b ts p → {a : Matcher H} → Beside (λ r s. r ≡ s) a b → Reads (join a b) ts p
  reads-join_right reads_here (beside_read x) = reads_here
  reads-join_right (reads_below {h = h} {args = args} r) (beside_read x) = reads_below (reads-join_right r (x (h, count args)))
  reads-join_right (reads_after {h = h} {args = args} {rest = rest} {i = i} {p = p} r) (beside_read x) =
      let j = joined args (x (h, count args)) in
      reads_after (subst (λ m. Reads m rest (i ∷ p)) (sym j.runs) (reads-join_right r j.fits))
  reads-join_right (reads_skip r) (beside_skip x) = reads_skip (reads-join_right r x)
  reads-join_right r beside_stop_left = r
  reads-join_right r (beside_end x) = elim r [ ]
  reads-join_right r (beside_done x) = elim r [ ]
  reads-join_right r beside_stop_right = elim r [ ]

  tree-reads : (rules : List (Compiled H)) → Fit rules → (h : H) (args : Forest H) {p : List ℕ} → Reads (tree rules (h, count args)) args p → (rule : Compiled H) × Member rules rule × IsTrue (rule.root (h, count args)) × Demands rule.args args p
  tree-reads [] fit h args r = elim r [ ]
  tree-reads (rule ∷ rules) fit h args r =
      elim (join-reads args (first_fits rule rules fit (h, count args)) r) [
        | inl r' ↦
            let w = cond-reads (rule.root (h, count args)) (rule_path rule (h, count args)) r' in
            (rule, member_first, w.0, path-reads h rule.args args (λ us. done (rule.right (node h us))) w.1)
        | inr r' ↦
            let w = tree-reads rules (λ a b i i' h. fit a b (member_next i) (member_next i') h) h args r' in
            (w.0, member_next w.1, w.2, w.3)
      ]

  reads-tree : {rules : List (Compiled H)} {rule : Compiled H} → Member rules rule → Fit rules → (h : H) (args : Forest H) (p : List ℕ) → IsTrue (rule.root (h, count args)) → Demands rule.args args p → Reads (tree rules (h, count args)) args p
  reads-tree (member_first {rule = rule} {rules = rules}) fit h args p e a =
      reads-join_left
      (subst (λ b. Reads (cond b (rule_path rule (h, count args)) Stop) args p) (sym e) (demands-path a h (λ us. done (rule.right (node h us)))))
      (first_fits rule rules fit (h, count args))
  reads-tree (member_next {other = other} {rules = rules} i) fit h args p e a =
      reads-join_right (reads-tree i (λ a b i i' h. fit a b (member_next i) (member_next i') h) h args p e a) (first_fits other rules fit (h, count args))

  -- the decision tree reads the demanded positions
  pub record ReadsDemanded (rules : List (Compiled H)) (start : Label H → Matcher H) : Type 0 where
    pub wanted : (h : H) (args : Forest H) (p : List ℕ) → Reads (start (h, count args)) args p → DemandedBelow rules h args p
    pub read : (h : H) (args : Forest H) (p : List ℕ) → DemandedBelow rules h args p → Reads (start (h, count args)) args p

  pub regular-reads : {rules : List (Compiled H)} → Regular rules → ReadsDemanded rules (tree rules)
  regular-reads {rules} regular =
      record {
        wanted = λ h args p r.
            let w = tree-reads rules (regular-fit regular) h args r in
            record { rule = w.0; among = contains_of w.1; root = w.2; demands = w.3 };
        read = λ h args p a. reads-tree (member_of a.among) (regular-fit regular) h args p a.root a.demands;
      }
