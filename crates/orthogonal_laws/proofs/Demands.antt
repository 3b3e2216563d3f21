-- The positions that a system demands are those that its translated rules demand.
use Rattle.std.proofs.Common.{◌≡◌, ℕ, zero, suc, List, [], ◌∷◌, Bool, inl, inr, Some, refl, sym, ap, subst, arith}
use Rattle.std.specs.Prelude.{IsTrue, ◌↔◌, ◌≢◌}
use Rattle.std.proofs.lemmas.Bool.{eq-eqb, eqb-true}
use Rattle.eq_base.specs.Tree.{Tree, Forest, node, empty, grow, head_of, arity_of, count, Position, subtree_in, IsBefore}
use Rattle.eq_base.specs.Pattern.{PatternCell, fixed, variable, restricted, Classes, IsTested, IsConstantOf}
use Rattle.eq_base.specs.Testing.{MeetsRoot, IsTestedAt, MeetsAt, IsPattern, ArePatterns}
use Rattle.eq_base.specs.Rewriting.{System}
use Rattle.orthogonal_laws.specs.Orthogonal.{IsWellFormedSystem}
use Rattle.orthogonal_laws.specs.Strategy.{IsDemanded}
use Rattle.orthogonal_laws.proofs.Members.{contains-in, in-contains, in-map, map-in}
use Rattle.orthogonal_laws.proofs.LeftSides.{Patterns, Meets}
use Rattle.orthogonal_laws.proofs.ForestStrategy.{Demands, demands_here, demands_below, demands_after, demands_skip, DemandedBelow}
use Rattle.orthogonal_laws.proofs.Translation.{test_of, tests, args_tests, both_true, first_true, second_true}
use Rattle.orthogonal_laws.proofs.Redexes.{compile, compiled}

sooner : (i j : ℕ) (q r : Position) → IsBefore (suc j ∷ r) (suc i ∷ q) → IsBefore (j ∷ r) (i ∷ q)
sooner i j q r (inl less) = inl (omega arith)
sooner i j q r (inr same) = inr (let z = same.0 in omega (arith, z), same.1)

later : (i j : ℕ) (q r : Position) → IsBefore (j ∷ r) (i ∷ q) → IsBefore (suc j ∷ r) (suc i ∷ q)
later i j q r (inl less) = inl (omega arith)
later i j q r (inr same) = inr (ap suc same.0, same.1)

module _ {H : Type 0} (same : H → H → Bool) (decides : (g h : H) → IsTrue (same g h) ↔ (g ≡ h)) (in_class : Classes H) where
  deeper : {c d : PatternCell H} {us ps : Forest (PatternCell H)} {q : Position} → IsTestedAt (node d us) q → IsTestedAt (node c (grow (node d us) ps)) (0 ∷ q)
  deeper t = record { part = t.part; stands = t.stands; tested = t.tested }

  along : {c : PatternCell H} {p : Tree (PatternCell H)} {ps : Forest (PatternCell H)} {i : ℕ} {q : Position} → IsTestedAt (node c ps) (i ∷ q) → IsTestedAt (node c (grow p ps)) (suc i ∷ q)
  along t = record { part = t.part; stands = t.stands; tested = t.tested }

  demands-tested : (c : PatternCell H) (ps : Forest (PatternCell H)) (ts : Forest H) {q : Position} → Demands (tests same in_class ps) ts q → IsTestedAt (node c ps) q
  demands-tested c empty ts a = elim a [ ]
  demands-tested c (grow (node (fixed g) us) ps) ts demands_here = record { part = _; stands = refl; tested = tt }
  demands-tested c (grow (node (fixed g) us) ps) ts (demands_below {us = vs} e a) = deeper (demands-tested (fixed g) us vs a)
  demands-tested c (grow (node (fixed g) us) ps) ts (demands_after {more = more} e m a) = along (demands-tested c ps more a)
  demands-tested c (grow (node (variable x) us) ps) ts (demands_skip {more = more} a) = along (demands-tested c ps more a)
  demands-tested c (grow (node (restricted x class) us) ps) ts demands_here = record { part = _; stands = refl; tested = tt }
  demands-tested c (grow (node (restricted x class) us) ps) ts (demands_below e a) = elim a [ ]
  demands-tested c (grow (node (restricted x class) us) ps) ts (demands_after {more = more} e m a) = along (demands-tested c ps more a)

  -- a head that passes a test meets the cell
  constant_of : (class : ℕ) (h : H) (us : Forest H) → IsTrue (test_of same in_class (restricted 0 class) 0 (h, count us)) → IsConstantOf in_class class (node h us)
  constant_of class h empty e = first_true _ _ e
  constant_of class h (grow u us) e = let z : count (grow u us) ≡ 0 = eqb-true _ _ (second_true (in_class class h) _ e) in absurd (omega (arith, z))

  constant_test : (class : ℕ) (h : H) (us : Forest H) → IsConstantOf in_class class (node h us) → IsTrue (test_of same in_class (restricted 0 class) 0 (h, count us))
  constant_test class h empty m = both_true m refl
  constant_test class h (grow u us) m = absurd m

  pub test-meets : (c : PatternCell H) (us : Forest (PatternCell H)) (h : H) (vs : Forest H) → IsTested c → IsTrue (test_of same in_class c (count us) (h, count vs)) → MeetsRoot in_class (node c us) (node h vs)
  test-meets (fixed g) us h vs t e = ((decides g h).0 (first_true _ _ e), sym (eqb-true _ _ (second_true _ _ e)))
  test-meets (variable x) us h vs t e = absurd t
  test-meets (restricted x class) us h vs t e = constant_of class h vs e

  pub meets-test : (c : PatternCell H) (us : Forest (PatternCell H)) (h : H) (vs : Forest H) → IsTested c → MeetsRoot in_class (node c us) (node h vs) → IsTrue (test_of same in_class c (count us) (h, count vs))
  meets-test (fixed g) us h vs t m = both_true ((decides g h).1 m.0) (eq-eqb _ _ (sym m.1))
  meets-test (variable x) us h vs t m = absurd t
  meets-test (restricted x class) us h vs t m = constant_test class h vs m

  met_below : {c d : PatternCell H} {us ps : Forest (PatternCell H)} {k h : H} {vs ts : Forest H} {q : Position} → MeetsAt in_class (node d us) (node h vs) q → MeetsAt in_class (node c (grow (node d us) ps)) (node k (grow (node h vs) ts)) (0 ∷ q)
  met_below m = record { part = m.part; subterm = m.subterm; part_stands = m.part_stands; subterm_stands = m.subterm_stands; meets = m.meets }

  met_after : {c : PatternCell H} {p : Tree (PatternCell H)} {ps : Forest (PatternCell H)} {k : H} {t : Tree H} {ts : Forest H} {i : ℕ} {q : Position} → MeetsAt in_class (node c ps) (node k ts) (i ∷ q) → MeetsAt in_class (node c (grow p ps)) (node k (grow t ts)) (suc i ∷ q)
  met_after m = record { part = m.part; subterm = m.subterm; part_stands = m.part_stands; subterm_stands = m.subterm_stands; meets = m.meets }

  from_below : {c d : PatternCell H} {us ps : Forest (PatternCell H)} {k h : H} {vs ts : Forest H} {q : Position} → MeetsAt in_class (node c (grow (node d us) ps)) (node k (grow (node h vs) ts)) (0 ∷ q) → MeetsAt in_class (node d us) (node h vs) q
  from_below m = record { part = m.part; subterm = m.subterm; part_stands = m.part_stands; subterm_stands = m.subterm_stands; meets = m.meets }

  from_after : {c : PatternCell H} {p : Tree (PatternCell H)} {ps : Forest (PatternCell H)} {k : H} {t : Tree H} {ts : Forest H} {i : ℕ} {q : Position} → MeetsAt in_class (node c (grow p ps)) (node k (grow t ts)) (suc i ∷ q) → MeetsAt in_class (node c ps) (node k ts) (i ∷ q)
  from_after m = record { part = m.part; subterm = m.subterm; part_stands = m.part_stands; subterm_stands = m.subterm_stands; meets = m.meets }

  pub met_root : {p : Tree (PatternCell H)} {t : Tree H} → MeetsAt in_class p t [] → MeetsRoot in_class p t
  met_root {p} {t} m =
      let e : m.part ≡ p = let z = m.part_stands in cc in
      let e' : m.subterm ≡ t = let z = m.subterm_stands in cc in
      subst (λ x. MeetsRoot in_class p x) e' (subst (λ x. MeetsRoot in_class x m.subterm) e m.meets)

  root_met : {p : Tree (PatternCell H)} {t : Tree H} → MeetsRoot in_class p t → MeetsAt in_class p t []
  root_met m = record { part = _; subterm = _; part_stands = refl; subterm_stands = refl; meets = m }

  -- nothing is tested below a variable
  untested : {c : PatternCell H} {x : ℕ} {us ps : Forest (PatternCell H)} (r : Position) → us ≡ empty → IsTestedAt (node c (grow (node (variable x) us) ps)) (0 ∷ r) → ⊥
  untested {x = x} {us = us} [] e t = let z : node (variable x) us ≡ t.part = let y = t.stands in cc in subst (λ p. IsTested (head_of p)) (sym z) t.tested
  untested {us = us} (j ∷ r) e t = let z : subtree_in empty j r ≡ Some t.part = subst (λ z. subtree_in z j r ≡ Some t.part) e t.stands in absurd (cc)

  constant_below : {c : PatternCell H} {x class : ℕ} {us ps : Forest (PatternCell H)} (j : ℕ) (r : Position) → us ≡ empty → IsTestedAt (node c (grow (node (restricted x class) us) ps)) (0 ∷ j ∷ r) → ⊥
  constant_below {us = us} j r e t = let z : subtree_in empty j r ≡ Some t.part = subst (λ z. subtree_in z j r ≡ Some t.part) e t.stands in absurd (cc)

  abbrev shallower : {c d : PatternCell H} {us ps : Forest (PatternCell H)} {q : Position} → IsTestedAt (node c (grow (node d us) ps)) (0 ∷ q) → IsTestedAt (node d us) q
  shallower t = record { part = t.part; stands = t.stands; tested = t.tested }

  abbrev back : {c : PatternCell H} {p : Tree (PatternCell H)} {ps : Forest (PatternCell H)} {i : ℕ} {q : Position} → IsTestedAt (node c (grow p ps)) (suc i ∷ q) → IsTestedAt (node c ps) (i ∷ q)
  back t = record { part = t.part; stands = t.stands; tested = t.tested }

  -- trees that pass all tests meet the patterns at all tested positions
  all-met : (c : PatternCell H) (k : H) (ps : Forest (PatternCell H)) (ts : Forest H) → ArePatterns ps → Meets (tests same in_class ps) ts → (j : ℕ) (r : Position) → IsTestedAt (node c ps) (j ∷ r) → MeetsAt in_class (node c ps) (node k ts) (j ∷ r)
  all-met c k empty ts a m j r t = absurd (let z = t.stands in cc)
  all-met c k (grow (node (fixed g) us) ps) empty a m j r t = absurd m
  all-met c k (grow (node (variable x) us) ps) empty a m j r t = absurd m
  all-met c k (grow (node (restricted x class) us) ps) empty a m j r t = absurd m
  all-met c k (grow (node (fixed g) us) ps) (grow (node h vs) ts) a m zero [] t = met_below (root_met (test-meets (fixed g) us h vs tt m.0))
  all-met c k (grow (node (fixed g) us) ps) (grow (node h vs) ts) a m zero (l ∷ r) t = met_below (all-met (fixed g) h us vs a.0 m.1 l r (shallower t))
  all-met c k (grow (node (fixed g) us) ps) (grow (node h vs) ts) a m (suc j) r t = met_after (all-met c k ps ts a.1 m.2 j r (back t))
  all-met c k (grow (node (variable x) us) ps) (grow t' ts) a m zero r t = absurd (untested r a.0 t)
  all-met c k (grow (node (variable x) us) ps) (grow t' ts) a m (suc j) r t = met_after (all-met c k ps ts a.1 m j r (back t))
  all-met c k (grow (node (restricted x class) us) ps) (grow (node h vs) ts) a m zero [] t = met_below (root_met (constant_of class h vs m.0))
  all-met c k (grow (node (restricted x class) us) ps) (grow (node h vs) ts) a m zero (l ∷ r) t = absurd (constant_below l r a.0 t)
  all-met c k (grow (node (restricted x class) us) ps) (grow (node h vs) ts) a m (suc j) r t = met_after (all-met c k ps ts a.1 m.2 j r (back t))

  -- before a demanded position the trees meet the patterns
  demands-met : (c : PatternCell H) (k : H) (ps : Forest (PatternCell H)) (ts : Forest H) → ArePatterns ps → {q : Position} → Demands (tests same in_class ps) ts q → (j : ℕ) (r : Position) → IsBefore (j ∷ r) q → IsTestedAt (node c ps) (j ∷ r) → MeetsAt in_class (node c ps) (node k ts) (j ∷ r)
  demands-met c k empty ts a demands j r before t = elim demands [ ]
  demands-met c k (grow (node (fixed g) us) ps) ts a demands_here j r (inl less) t = absurd (omega arith)
  demands-met c k (grow (node (fixed g) us) ps) ts a demands_here j r (inr same) t = absurd same.1
  demands-met c k (grow (node (fixed g) us) ps) ts a (demands_below e demands) j r (inl less) t = absurd (omega arith)
  demands-met c k (grow (node (fixed g) us) ps) ts a (demands_below {h = h} {us = vs} e demands) zero [] (inr same) t = met_below (root_met (test-meets (fixed g) us h vs tt e))
  demands-met c k (grow (node (fixed g) us) ps) ts a (demands_below {h = h} {us = vs} e demands) zero (l ∷ r) (inr same) t = met_below (demands-met (fixed g) h us vs a.0 demands l r same.1 (shallower t))
  demands-met c k (grow (node (fixed g) us) ps) ts a (demands_below e demands) (suc j) r (inr same) t = absurd (let z = same.0 in omega (arith, z))
  demands-met c k (grow (node (fixed g) us) ps) ts a (demands_after {h = h} {us = vs} e m demands) zero [] before t = met_below (root_met (test-meets (fixed g) us h vs tt e))
  demands-met c k (grow (node (fixed g) us) ps) ts a (demands_after {h = h} {us = vs} e m demands) zero (l ∷ r) before t = met_below (all-met (fixed g) h us vs a.0 m l r (shallower t))
  demands-met c k (grow (node (fixed g) us) ps) ts a (demands_after {more = more} {i = i} {p = p} e m demands) (suc j) r before t = met_after (demands-met c k ps more a.1 demands j r (sooner i j p r before) (back t))
  demands-met c k (grow (node (variable x) us) ps) ts a (demands_skip demands) zero r before t = absurd (untested r a.0 t)
  demands-met c k (grow (node (variable x) us) ps) ts a (demands_skip {more = more} {i = i} {p = p} demands) (suc j) r before t = met_after (demands-met c k ps more a.1 demands j r (sooner i j p r before) (back t))
  demands-met c k (grow (node (restricted x class) us) ps) ts a demands_here j r (inl less) t = absurd (omega arith)
  demands-met c k (grow (node (restricted x class) us) ps) ts a demands_here j r (inr same) t = absurd same.1
  demands-met c k (grow (node (restricted x class) us) ps) ts a (demands_below e demands) j r before t = elim demands [ ]
  demands-met c k (grow (node (restricted x class) us) ps) ts a (demands_after {h = h} {us = vs} e m demands) zero [] before t = met_below (root_met (constant_of class h vs e))
  demands-met c k (grow (node (restricted x class) us) ps) ts a (demands_after e m demands) zero (l ∷ r) before t = absurd (constant_below l r a.0 t)
  demands-met c k (grow (node (restricted x class) us) ps) ts a (demands_after {more = more} {i = i} {p = p} e m demands) (suc j) r before t = met_after (demands-met c k ps more a.1 demands j r (sooner i j p r before) (back t))

  no_args : (class : ℕ) (h : H) (vs : Forest H) → IsConstantOf in_class class (node h vs) → vs ≡ empty
  no_args class h empty m = refl
  no_args class h (grow v vs) m = absurd m

  -- trees that meet the patterns at all tested positions pass all tests
  met-all : (c : PatternCell H) (k : H) (ps : Forest (PatternCell H)) (ts : Forest H) → ArePatterns ps → count ps ≡ count ts → ((j : ℕ) (r : Position) → IsTestedAt (node c ps) (j ∷ r) → MeetsAt in_class (node c ps) (node k ts) (j ∷ r)) → Meets (tests same in_class ps) ts
  met-all c k empty empty a n m = tt
  met-all c k empty (grow t ts) a n m = absurd (omega arith)
  met-all c k (grow p ps) empty a n m = absurd (omega arith)
  met-all c k (grow (node (fixed g) us) ps) (grow (node h vs) ts) a n m =
      let root : MeetsRoot in_class (node (fixed g) us) (node h vs) = met_root (from_below (m 0 [] (record { part = _; stands = refl; tested = tt }))) in
      (meets-test (fixed g) us h vs tt root, met-all (fixed g) h us vs a.0 root.1 (λ j r t. from_below (m 0 (j ∷ r) (deeper t))), met-all c k ps ts a.1 (omega arith) (λ j r t. from_after (m (suc j) r (along t))))
  met-all c k (grow (node (variable x) us) ps) (grow (node h vs) ts) a n m = met-all c k ps ts a.1 (omega arith) (λ j r t. from_after (m (suc j) r (along t)))
  met-all c k (grow (node (restricted x class) us) ps) (grow (node h vs) ts) a n m =
      let root : MeetsRoot in_class (node (restricted x class) us) (node h vs) = met_root (from_below (m 0 [] (record { part = _; stands = refl; tested = tt }))) in
      (constant_test class h vs root, rw (no_args class h vs root) tt, met-all c k ps ts a.1 (omega arith) (λ j r t. from_after (m (suc j) r (along t))))

  -- a tested position before which the trees meet the patterns is demanded
  pub met-demands : (c : PatternCell H) (k : H) (ps : Forest (PatternCell H)) (ts : Forest H) → ArePatterns ps → count ps ≡ count ts → (i : ℕ) (q : Position) → IsTestedAt (node c ps) (i ∷ q) →
      ((j : ℕ) (r : Position) → IsBefore (j ∷ r) (i ∷ q) → IsTestedAt (node c ps) (j ∷ r) → MeetsAt in_class (node c ps) (node k ts) (j ∷ r)) → Demands (tests same in_class ps) ts (i ∷ q)
  met-demands c k empty ts a n i q t m = absurd (let z = t.stands in cc)
  met-demands c k (grow p ps) empty a n i q t m = absurd (omega arith)
  met-demands c k (grow (node (variable x) us) ps) (grow t' ts) a n zero q t m = absurd (untested q a.0 t)
  met-demands c k (grow (node (variable x) us) ps) (grow (node h vs) ts) a n (suc i) q t m = demands_skip (met-demands c k ps ts a.1 (omega arith) i q (back t) (λ j r before t'. from_after (m (suc j) r (later i j q r before) (along t'))))
  met-demands c k (grow (node (fixed g) us) ps) (grow (node h vs) ts) a n zero [] t m = demands_here
  met-demands c k (grow (node (fixed g) us) ps) (grow (node h vs) ts) a n zero (l ∷ q) t m =
      let root : MeetsRoot in_class (node (fixed g) us) (node h vs) = met_root (from_below (m 0 [] (inr (refl, tt)) (record { part = _; stands = refl; tested = tt }))) in
      demands_below (meets-test (fixed g) us h vs tt root) (met-demands (fixed g) h us vs a.0 root.1 l q (shallower t) (λ j r before t'. from_below (m 0 (j ∷ r) (inr (refl, before)) (deeper t'))))
  met-demands c k (grow (node (fixed g) us) ps) (grow (node h vs) ts) a n (suc i) q t m =
      let root : MeetsRoot in_class (node (fixed g) us) (node h vs) = met_root (from_below (m 0 [] (inl (omega arith)) (record { part = _; stands = refl; tested = tt }))) in
      demands_after (meets-test (fixed g) us h vs tt root) (met-all (fixed g) h us vs a.0 root.1 (λ j r t'. from_below (m 0 (j ∷ r) (inl (omega arith)) (deeper t'))))
      (met-demands c k ps ts a.1 (omega arith) i q (back t) (λ j r before t'. from_after (m (suc j) r (later i j q r before) (along t'))))
  met-demands c k (grow (node (restricted x class) us) ps) (grow (node h vs) ts) a n zero [] t m = demands_here
  met-demands c k (grow (node (restricted x class) us) ps) (grow (node h vs) ts) a n zero (l ∷ q) t m = absurd (constant_below l q a.0 t)
  met-demands c k (grow (node (restricted x class) us) ps) (grow (node h vs) ts) a n (suc i) q t m =
      let root : MeetsRoot in_class (node (restricted x class) us) (node h vs) = met_root (from_below (m 0 [] (inl (omega arith)) (record { part = _; stands = refl; tested = tt }))) in
      demands_after (constant_test class h vs root) (rw (no_args class h vs root) tt)
      (met-demands c k ps ts a.1 (omega arith) i q (back t) (λ j r before t'. from_after (m (suc j) r (later i j q r before) (along t'))))

demands-not_root : {H : Type 0} {ps : Patterns H} {ts : Forest H} → Demands ps ts [] → ⊥
demands-not_root a = elim a [ ]

not_empty : {A : Type 0} (P : List A → Type 0) (q : List A) → P q → (P [] → ⊥) → q ≢ []
not_empty P q x none e = none (subst P e x)

module _ {H : Type 0} (system : System H) (w : IsWellFormedSystem system) where
  -- what the translated rules demand, the system demands
  pub below-demanded : (h : H) (args : Forest H) (q : Position) → DemandedBelow (compiled system w) h args q → IsDemanded system (node h args) q
  below-demanded h args q a =
      let m = map-in (compile system w) system.rules a.rule (contains-in a.among) in
      let rule = m.0 in
      let listed = in-contains m.1 in
      let root = subst (λ z. IsTrue (z.root (h, count args))) (sym m.2) a.root in
      let demands = subst (λ z. Demands z.args args q) (sym m.2) a.demands in
      let f = of_left rule.left root demands (w.patterns rule listed) in
      record { rule = rule; listed = listed; not_root = not_empty (λ q. Demands (args_tests w.same system.in_class rule.left) args q) q demands (λ x. demands-not_root x); tested = f.0; met = f.1 }
    where
      of_left : (l : Tree (PatternCell H)) → IsTrue (test_of w.same system.in_class (head_of l) (arity_of l) (h, count args)) → Demands (args_tests w.same system.in_class l) args q → IsPattern l → IsTestedAt l q × ((p : Position) → IsBefore p q → IsTestedAt l p → MeetsAt system.in_class l (node h args) p)
      of_left (node (variable x) us) root demands is = elim demands [ ]
      of_left (node (restricted x class) us) root demands is = elim demands [ ]
      of_left (node (fixed g) us) root demands is = (demands-tested w.same w.decides system.in_class (fixed g) us args demands, λ p before t. met p before t)
        where
          met : (p : Position) → IsBefore p q → IsTestedAt (node (fixed g) us) p → MeetsAt system.in_class (node (fixed g) us) (node h args) p
          met [] before t = root_met w.same w.decides system.in_class (test-meets w.same w.decides system.in_class (fixed g) us h args tt root)
          met (j ∷ r) before t = demands-met w.same w.decides system.in_class (fixed g) h us args is demands j r before t

  -- and conversely
  pub demanded-below : (h : H) (args : Forest H) (q : Position) → IsDemanded system (node h args) q → DemandedBelow (compiled system w) h args q
  demanded-below h args [] d = absurd (d.not_root refl)
  demanded-below h args (i ∷ q) d =
      let f = of_left d.rule.left (w.patterns d.rule d.listed) d.tested d.met in
      record { rule = compile system w d.rule; among = in-contains (in-map (compile system w) (contains-in d.listed)); root = f.0; demands = f.1 }
    where
      of_left : (l : Tree (PatternCell H)) → IsPattern l → IsTestedAt l (i ∷ q) → ((p : Position) → IsBefore p (i ∷ q) → IsTestedAt l p → MeetsAt system.in_class l (node h args) p) →
          IsTrue (test_of w.same system.in_class (head_of l) (arity_of l) (h, count args)) × Demands (args_tests w.same system.in_class l) args (i ∷ q)
      of_left (node (variable x) us) is t m = absurd (let z : subtree_in empty i q ≡ Some t.part = subst (λ z. subtree_in z i q ≡ Some t.part) is t.stands in cc)
      of_left (node (restricted x class) us) is t m = absurd (let z : subtree_in empty i q ≡ Some t.part = subst (λ z. subtree_in z i q ≡ Some t.part) is t.stands in cc)
      of_left (node (fixed g) us) is t m =
          let root = met_root w.same w.decides system.in_class (m [] tt (record { part = _; stands = refl; tested = tt })) in
          (meets-test w.same w.decides system.in_class (fixed g) us h args tt root, met-demands w.same w.decides system.in_class (fixed g) h us args is root.1 i q t (λ j r before t'. m (j ∷ r) before t'))
