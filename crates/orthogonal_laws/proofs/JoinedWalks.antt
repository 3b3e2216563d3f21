-- What two matchers that are apart find in the trees that they read, one after the other, both at once find too.
use Rattle.std.proofs.Common.{◌≡◌, ℕ, zero, suc, ◌+◌, ◌-◌, ◌<◌, ◌≤◌, List, [], ◌∷◌, refl, sym, ◌∙◌, ap, subst, arith}
use Rattle.eq_base.specs.Tree.{Tree, Forest, node, empty, grow, count, size, total_size}
use Rattle.eq_base.specs.Storing.{first_trees}
use Rattle.eq_base.specs.Pattern.{PatternCell}
use Rattle.orthogonal_laws.proofs.LeftSides.{Label, Compiled, Redex, NoRedex}
use Rattle.orthogonal_laws.proofs.ForestSteps.{At, at_here, at_below, at_after}
use Rattle.orthogonal_laws.proofs.Matchers.{Matcher, Read, Skip, Stop, run, join, Compiles}
use Rattle.orthogonal_laws.proofs.Sequential.{Beside, Apart, beside_read, beside_skip, beside_end, beside_done, beside_stop_left, beside_stop_right, Guarded, guarded_read, guarded_skip, guarded_end, guarded_done, guarded_stop}
use Rattle.orthogonal_laws.proofs.Walks.{Quiet, quiet_read, quiet_skip, quiet_nil, quiet_end, quiet_done, quiet_stop, Leads, leads_here, leads_below, leads_within, leads_after, leads_skip}
use Rattle.orthogonal_laws.proofs.TestedParts.{guarded-run, apart_quiet, apart-done, calm}
use Rattle.orthogonal_laws.proofs.Joins.{join-stop, joined}
use Rattle.orthogonal_laws.proofs.Reaching.{Reaches, reaches_none, reaches_within, reaches_after, reaches_over, run_stop, reaches-stop, reaches-bound}

module _ {H : Type 0} where
  -- matchers that are apart never come to right sides that differ
  pub apart-beside : {a b : Matcher H} → Apart a b → Beside (λ r s. r ≡ s) a b
  apart-beside (beside_read x) = beside_read (λ h. apart-beside (x h))
  apart-beside (beside_skip x) = beside_skip (apart-beside x)
  apart-beside (beside_end x) = beside_end (apart-beside x)
  apart-beside (beside_done x) = absurd x
  apart-beside beside_stop_left = beside_stop_left
  apart-beside beside_stop_right = beside_stop_right

  pub apart-run : (ts : Forest H) {a b : Matcher H} → Apart a b → Apart (run a ts) (run b ts)
  apart-run empty (beside_read x) = beside_stop_left
  apart-run empty (beside_skip x) = beside_stop_left
  apart-run empty (beside_end x) = x
  apart-run empty (beside_done x) = absurd x
  apart-run empty beside_stop_left = beside_stop_left
  apart-run empty beside_stop_right = beside_stop_right
  apart-run (grow (node h args) rest) (beside_read x) = apart-run rest (apart-run args (x (h, count args)))
  apart-run (grow t rest) (beside_skip x) = apart-run rest x
  apart-run (grow t rest) (beside_end x) = beside_stop_left
  apart-run (grow t rest) (beside_done x) = absurd x
  apart-run (grow t rest) beside_stop_left = beside_stop_left
  apart-run (grow t rest) beside_stop_right = beside_stop_right

module _ {H : Type 0} (rules : List (Compiled H)) (start : Label H → Matcher H) where
  pub quiet_join : (ts : Forest H) {a b : Matcher H} → Apart a b → Quiet rules start (join a b) ts → Quiet rules start a ts × Quiet rules start b ts
  quiet_join empty x q = (quiet_nil, quiet_nil)
  quiet_join (grow (node h args) rest) (beside_read {f = f} {g = g} x) (quiet_read none q1 q2 e q3) =
      let below = quiet_join args (x (h, count args)) q2 in
      let j = joined args (apart-beside (x (h, count args))) in
      let after = quiet_join rest (apart-run args (x (h, count args))) (subst (λ m. Quiet rules start m rest) (sym e ∙ j.runs) q3) in
      (quiet_read none q1 below.0 refl after.0, quiet_read none q1 below.1 refl after.1)
  quiet_join (grow t rest) (beside_skip x) (quiet_skip q) = let after = quiet_join rest x q in (quiet_skip after.0, quiet_skip after.1)
  quiet_join (grow t rest) (beside_end x) q = (quiet_end, quiet_end)
  quiet_join (grow t rest) (beside_done x) q = (quiet_done, quiet_done)
  quiet_join (grow t rest) beside_stop_left q = (quiet_stop, q)
  quiet_join (grow t rest) (beside_stop_right {a = a}) q = (subst (λ m. Quiet rules start m (grow t rest)) (join-stop a) q, quiet_stop)

  quiet_first : {f : Label H → Matcher H} {h : H} {args rest : Forest H} → Quiet rules start (Read f) (grow (node h args) rest) → NoRedex rules h args × Quiet rules start (start (h, count args)) args × Quiet rules start (f (h, count args)) args
  quiet_first (quiet_read none q1 q2 e q3) = (none, q1, q2)

  quiet_after : {f : Label H → Matcher H} {h : H} {args rest : Forest H} → Quiet rules start (Read f) (grow (node h args) rest) → Quiet rules start (run (f (h, count args)) args) rest
  quiet_after {rest = rest} (quiet_read none q1 q2 e q3) = subst (λ m. Quiet rules start m rest) (sym e) q3

  quiet_past : {m : Matcher H} {t : Tree H} {rest : Forest H} → Quiet rules start (Skip m) (grow t rest) → Quiet rules start m rest
  quiet_past (quiet_skip q) = q

  pub both_quiet : (ts : Forest H) {a b : Matcher H} → Apart a b → Quiet rules start a ts → Quiet rules start b ts → Quiet rules start (join a b) ts
  both_quiet empty x q q' = quiet_nil
  both_quiet (grow (node h args) rest) (beside_read x) q q' =
      let one = quiet_first q in
      let other = quiet_first q' in
      let j = joined args (apart-beside (x (h, count args))) in
      quiet_read one.0 one.1 (both_quiet args (x (h, count args)) one.2 other.2) j.runs (both_quiet rest (apart-run args (x (h, count args))) (quiet_after q) (quiet_after q'))
  both_quiet (grow t rest) (beside_skip x) (quiet_skip q) (quiet_skip q') = quiet_skip (both_quiet rest x q q')
  both_quiet (grow t rest) (beside_end x) q q' = quiet_end
  both_quiet (grow t rest) (beside_done x) q q' = quiet_done
  both_quiet (grow t rest) beside_stop_left q q' = q'
  both_quiet (grow t rest) (beside_stop_right {a = a}) q q' = subst (λ m. Quiet rules start m (grow t rest)) (sym (join-stop a)) q

  -- the second finds it, or finds nothing and has failed, and the first finds it
  pub data Found (a b : Matcher H) (ts : Forest H) (p : List ℕ) (us : Forest H) : Type 0 where
    by_second : Leads rules start b ts p us → Found a b ts p us
    by_first : Quiet rules start b ts → Leads rules start a ts p us → run b ts ≡ Stop → Found a b ts p us

  nothing_leads : {m : Matcher H} {p : List ℕ} {us : Forest H} → Leads rules start m empty p us → ⊥
  nothing_leads d = elim d [ ]

  pub leads_join : (ts : Forest H) {a b : Matcher H} {p : List ℕ} {us : Forest H} → Apart a b → Leads rules start (join a b) ts p us → Found a b ts p us
  leads_join empty x d = absurd (nothing_leads d)
  leads_join (grow (node h args) rest) (beside_read x) (leads_here r) = by_second (leads_here r)
  leads_join (grow (node h args) rest) (beside_read x) (leads_below none d) = by_second (leads_below none d)
  leads_join (grow (node h args) rest) (beside_read x) (leads_within none q d) =
      elim (leads_join args (x (h, count args)) d) [
        | by_second d' ↦ by_second (leads_within none q d')
        | by_first q' d' e ↦ by_first (quiet_read none q q' e quiet_stop) (leads_within none q d') (ap (λ m. run m rest) e ∙ run_stop rest)
      ]
  leads_join (grow (node h args) rest) (beside_read {f = f} {g = g} x) (leads_after {us = us} {i = i} {p = p} none q q' e d) =
      let below = quiet_join args (x (h, count args)) q' in
      let j = joined args (apart-beside (x (h, count args))) in
      elim (leads_join rest (apart-run args (x (h, count args))) (subst (λ m. Leads rules start m rest (i ∷ p) us) (sym e ∙ j.runs) d)) [
        | by_second d' ↦ by_second (leads_after none q below.1 refl d')
        | by_first q2 d' e' ↦ by_first (quiet_read none q below.1 refl q2) (leads_after none q below.0 refl d') e'
      ]
  leads_join (grow t rest) (beside_skip x) (leads_skip d) =
      elim (leads_join rest x d) [
        | by_second d' ↦ by_second (leads_skip d')
        | by_first q d' e ↦ by_first (quiet_skip q) (leads_skip d') e
      ]
  leads_join (grow t rest) (beside_end x) d = elim d [ ]
  leads_join (grow t rest) (beside_done x) d = elim d [ ]
  leads_join (grow t rest) beside_stop_left d = by_second d
  leads_join (grow t rest) {p = p} {us = us} (beside_stop_right {a = a}) d = by_first quiet_stop (subst (λ m. Leads rules start m (grow t rest) p us) (join-stop a) d) refl

  -- ---- the tree in which the matcher fails

  -- what the matcher finds is what is found in h args, which is the i-th of the trees, by the left sides and by what the matcher goes on with there
  pub record Descent (a : Matcher H) (ts : Forest H) (i : ℕ) (h : H) (args : Forest H) (n : ℕ) : Type 0 where
    pub matcher : Matcher H
    pub reaches : Reaches matcher args n
    pub guarded : Guarded start matcher
    pub apart : Apart matcher (start (h, count args))
    pub here : (r : Tree (PatternCell H)) (es : Forest H) → Redex rules h args r es → (us : Forest H) × Leads rules start a ts (i ∷ []) us
    pub below : NoRedex rules h args → (p : List ℕ) (vs : Forest H) → Leads rules start (start (h, count args)) args p vs → (us : Forest H) × Leads rules start a ts (i ∷ p) us
    pub within : NoRedex rules h args → Quiet rules start (start (h, count args)) args → (p : List ℕ) (vs : Forest H) → Leads rules start matcher args p vs → (us : Forest H) × Leads rules start a ts (i ∷ p) us
    pub quiet : NoRedex rules h args → Quiet rules start (start (h, count args)) args → Quiet rules start matcher args → Quiet rules start a ts
    pub quiet_there : Quiet rules start a ts → NoRedex rules h args × Quiet rules start (start (h, count args)) args × Quiet rules start matcher args

  module _ (c : Compiles rules start) where
    pub descend : (ts : Forest H) {a : Matcher H} {n : ℕ} → Guarded start a → Reaches a ts (suc n) → (i : ℕ) (h : H) (args : Forest H) → At ts (i ∷ []) h args → total_size (first_trees i ts) ≤ n → n < total_size (first_trees i ts) + size (node h args) → Descent a ts i h args (n - total_size (first_trees i ts))
    descend empty g r i h args at low high = elim at [ ]
    descend (grow (node k ks) rest) {n = n} (guarded_read {f = f} foe gs) (reaches_within {n = m} r e) zero h args at_here low high =
        record {
          matcher = f (k, count ks);
          reaches = let z : m ≡ n - 0 = omega (arith, e) in subst (λ z. Reaches (f (k, count ks)) ks z) z r;
          guarded = gs (k, count ks);
          apart = foe (k, count ks);
          here = λ r es x. (_, leads_here x);
          below = λ none p vs d. (_, leads_below none d);
          within = λ none q p vs d. (_, leads_within none q d);
          quiet = λ none q q'. quiet_read none q q' (reaches-stop r) quiet_stop;
          quiet_there = λ q. quiet_first q;
        }
    descend (grow (node k ks) rest) (guarded_read foe gs) (reaches_within r e) zero h args (at_below at) low high = elim at [ ]
    descend (grow (node k ks) rest) (guarded_read foe gs) (reaches_within r e) (suc i) h args at low high = absurd (omega (arith, e, reaches-bound r))
    descend (grow (node k ks) rest) (guarded_read foe gs) (reaches_after alive r e) zero h args at_here low high = absurd (omega (arith, e))
    descend (grow (node k ks) rest) (guarded_read foe gs) (reaches_after alive r e) zero h args (at_below at) low high = elim at [ ]
    descend (grow (node k ks) rest) {n = n} (guarded_read {f = f} foe gs) (reaches_after {n = m} alive r e) (suc i) h args (at_after at) low high =
        let own = apart_quiet rules start c ks (gs (k, count ks)) (foe (k, count ks)) alive in
        let calm = calm rules start c ks (gs (k, count ks)) alive in
        let none : NoRedex rules k ks = λ r es x. apart-done (subst (λ m. Apart (run (f (k, count ks)) ks) m) (c.finds k ks r es x) own.1) alive in
        let d = descend rest (guarded-run start ks (gs (k, count ks))) r i h args at (omega (arith, e)) (omega (arith, e)) in
        record {
          matcher = d.matcher;
          reaches = let z : m - total_size (first_trees i rest) ≡ n - total_size (first_trees (suc i) (grow (node k ks) rest)) = omega (arith, e) in subst (λ z. Reaches d.matcher args z) z d.reaches;
          guarded = d.guarded;
          apart = d.apart;
          here = λ r es x. (_, leads_after none own.0 calm refl (d.here r es x).1);
          below = λ none' p vs l. (_, leads_after none own.0 calm refl (d.below none' p vs l).1);
          within = λ none' q p vs l. (_, leads_after none own.0 calm refl (d.within none' q p vs l).1);
          quiet = λ none' q q'. quiet_read none own.0 calm refl (d.quiet none' q q');
          quiet_there = λ q. d.quiet_there (quiet_after q);
        }
    descend (grow (node k ks) rest) (guarded_skip g) (reaches_over r e) zero h args at_here low high = absurd (omega (arith, e))
    descend (grow (node k ks) rest) (guarded_skip g) (reaches_over r e) zero h args (at_below at) low high = elim at [ ]
    descend (grow (node k ks) rest) {n = n} (guarded_skip g) (reaches_over {n = m} r e) (suc i) h args (at_after at) low high =
        let d = descend rest g r i h args at (omega (arith, e)) (omega (arith, e)) in
        record {
          matcher = d.matcher;
          reaches = let z : m - total_size (first_trees i rest) ≡ n - total_size (first_trees (suc i) (grow (node k ks) rest)) = omega (arith, e) in subst (λ z. Reaches d.matcher args z) z d.reaches;
          guarded = d.guarded;
          apart = d.apart;
          here = λ r es x. (_, leads_skip (d.here r es x).1);
          below = λ none p vs l. (_, leads_skip (d.below none p vs l).1);
          within = λ none q p vs l. (_, leads_skip (d.within none q p vs l).1);
          quiet = λ none q q'. quiet_skip (d.quiet none q q');
          quiet_there = λ q. d.quiet_there (quiet_past q);
        }
    descend (grow t rest) (guarded_end g) r i h args at low high = elim r [ ]
    descend (grow t rest) guarded_done r i h args at low high = elim r [ ]
    descend (grow t rest) guarded_stop (reaches_none e) i h args at low high = absurd (omega (arith, e))
