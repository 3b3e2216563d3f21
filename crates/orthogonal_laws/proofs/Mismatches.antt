-- Where a tree first fails to meet a left side, the matcher of that left side fails.
use Rattle.std.proofs.Common.{◌≡◌, ℕ, suc, ◌+◌, Bool, true, false, cond, refl, sym, ◌∙◌, ap, subst, arith}
use Rattle.std.specs.Prelude.{IsTrue, ◌↔◌}
use Rattle.eq_base.specs.Tree.{Tree, Forest, node, empty, grow, head_of, arity_of, count, total_size}
use Rattle.eq_base.specs.Pattern.{PatternCell, fixed, variable, restricted, Classes, IsTested}
use Rattle.eq_base.proofs.Instances.{FitAll}
use Rattle.orthogonal_laws.specs.Matching.{AreMet, none_met, head_met, variable_met, constant_met, IsFirstFailure, here, below, after}
use Rattle.orthogonal_laws.proofs.LeftSides.{Label, Patterns, Last, Test, Meets, skeleton}
use Rattle.orthogonal_laws.proofs.Matchers.{Matcher, Stop, run, path, Alive}
use Rattle.orthogonal_laws.proofs.Paths.{path-run}
use Rattle.orthogonal_laws.proofs.Translation.{test_of, tests, args_tests, fit-meets}
use Rattle.orthogonal_laws.proofs.Demands.{test-meets, meets-test}
use Rattle.orthogonal_laws.proofs.Reaching.{Reaches, reaches_none, reaches_within, reaches_after, reaches_over, reaches-alive}

module _ {H : Type 0} (same : H → H → Bool) (decides : (g h : H) → IsTrue (same g h) ↔ (g ≡ h)) (in_class : Classes H) where
  met-fit : {ps : Forest (PatternCell H)} {ts : Forest H} → AreMet in_class ps ts → FitAll in_class ps ts
  met-fit none_met = tt
  met-fit (head_met m m') = ((refl, met-fit m), met-fit m')
  met-fit (variable_met m) = (tt, met-fit m)
  met-fit (constant_met is m) = (is, met-fit m)

  not_alive : (m : Matcher H) (b : Bool) {ts : Forest H} → (b ≡ true → ⊥) → Reaches (cond b m Stop) ts 0
  not_alive m true fails = absurd (fails refl)
  not_alive m false fails = reaches_none refl

  -- past a tree that meets a tested pattern, a path fails where what follows fails
  past : (f : H) (test : Label H → Bool) (inner rest : Patterns H) (h : H) (vs ts : Forest H) (k : Forest H → Matcher H) (n : ℕ) → test (h, count vs) ≡ true → Meets inner vs →
      ((k : Forest H → Matcher H) → Reaches (path f rest k) ts (suc n)) → (m : ℕ) → m ≡ suc (total_size vs) + suc n → Reaches (path f (Test test inner rest) k) (grow (node h vs) ts) m
  past f test inner rest h vs ts k n e met each m e' =
      let k' : Forest H → Matcher H = λ us. path f rest (λ ts. k (grow (node h us) ts)) in
      let r = each (λ ts. k (grow (node h (skeleton f inner vs)) ts)) in
      let comes : run (cond (test (h, count vs)) (path f inner k') Stop) vs ≡ path f rest (λ ts. k (grow (node h (skeleton f inner vs)) ts)) =
      ap (λ b. run (cond b (path f inner k') Stop) vs) e ∙ path-run f inner vs k' met in
      reaches_after (subst Alive (sym comes) (reaches-alive r)) (subst (λ z. Reaches z ts (suc n)) (sym comes) r) e'

  -- a path fails where the trees first fail to meet its patterns
  pub mismatch-reaches : {ps : Forest (PatternCell H)} {ts : Forest H} {n : ℕ} → IsFirstFailure in_class ps ts n → (f : H) (k : Forest H → Matcher H) → Reaches (path f (tests same in_class ps) k) ts (suc n)
  mismatch-reaches (here {p = node (fixed g) us} {t = node h vs} fails e) f k =
      reaches_within (not_alive _ (test_of same in_class (fixed g) (count us) (h, count vs)) (λ met. fails (test-meets same decides in_class (fixed g) us h vs tt met))) (ap suc e)
  mismatch-reaches (here {p = node (variable x) us} fails e) f k = absurd (fails tt)
  mismatch-reaches (here {p = node (restricted x class) us} {t = node h vs} fails e) f k =
      reaches_within (not_alive _ (test_of same in_class (restricted x class) 0 (h, count vs)) (λ met. fails (test-meets same decides in_class (restricted x class) us h vs tt met))) (ap suc e)
  mismatch-reaches (below {h = h} {us = us} {ps = ps} {vs = vs} {k = n} c m e) f k =
      let k' : Forest H → Matcher H = λ us. path f (tests same in_class ps) (λ ts. k (grow (node h us) ts)) in
      let met : test_of same in_class (fixed h) (count us) (h, count vs) ≡ true = meets-test same decides in_class (fixed h) us h vs tt (refl, c) in
      reaches_within (subst (λ b. Reaches (cond b (path f (tests same in_class us) k') Stop) vs (suc n)) (sym met) (mismatch-reaches m f k')) (ap suc e)
  mismatch-reaches (after {p = node (fixed g) us} {ps = ps} {t = node h vs} {ts = ts} {k = n} met m e) f k =
      let x = fit-meets same in_class decides (grow (node (fixed g) us) empty) (grow (node h vs) empty) (met-fit met) in
      past f _ (tests same in_class us) (tests same in_class ps) h vs ts k n x.0 x.1 (λ k. mismatch-reaches m f k) _ (omega (arith, e))
  mismatch-reaches (after {p = node (variable x) us} met m e) f k = reaches_over (mismatch-reaches m f _) (omega (arith, e))
  mismatch-reaches (after {p = node (restricted x class) us} {ps = ps} {t = node h vs} {ts = ts} {k = n} met m e) f k =
      let x = fit-meets same in_class decides (grow (node (restricted x class) us) empty) (grow (node h vs) empty) (met-fit met) in
      past f _ Last (tests same in_class ps) h vs ts k n x.0 x.1 (λ k. mismatch-reaches m f k) _ (omega (arith, e))

  -- so does the matcher of a rule
  pub failure-reaches : (left : Tree (PatternCell H)) (h : H) (args : Forest H) (n : ℕ) → IsFirstFailure in_class (grow left empty) (grow (node h args) empty) n → IsTested (head_of left) → (k : Forest H → Matcher H) →
      Reaches (cond (test_of same in_class (head_of left) (arity_of left) (h, count args)) (path h (args_tests same in_class left) k) Stop) args n
  failure-reaches (node (fixed g) us) h args n (here fails e) tested k =
      subst (λ n. Reaches (cond (test_of same in_class (fixed g) (count us) (h, count args)) (path h (tests same in_class us) k) Stop) args n) (sym e)
      (not_alive _ (test_of same in_class (fixed g) (count us) (h, count args)) (λ met. fails (test-meets same decides in_class (fixed g) us h args tt met)))
  failure-reaches (node (fixed g) us) h args n (below {k = m} c mismatch e) tested k =
      let met : test_of same in_class (fixed g) (count us) (g, count args) ≡ true = meets-test same decides in_class (fixed g) us g args tt (refl, c) in
      subst (λ n. Reaches (cond (test_of same in_class (fixed g) (count us) (g, count args)) (path g (tests same in_class us) k) Stop) args n) (sym e)
      (subst (λ b. Reaches (cond b (path g (tests same in_class us) k) Stop) args (suc m)) (sym met) (mismatch-reaches mismatch g k))
  failure-reaches left h args n (after met mismatch e) tested k = elim mismatch [ ]
  failure-reaches (node (variable x) us) h args n mismatch tested k = absurd tested
  failure-reaches (node (restricted x class) us) h args n (here fails e) tested k =
      subst (λ n. Reaches (cond (test_of same in_class (restricted x class) (count us) (h, count args)) (path h Last k) Stop) args n) (sym e)
      (not_alive _ (test_of same in_class (restricted x class) (count us) (h, count args)) (λ met. fails (test-meets same decides in_class (restricted x class) us h args tt met)))
