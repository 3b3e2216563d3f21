-- The laws of single steps and developments, in the words of the definitions.
use Rattle.std.proofs.Common.{◌≡◌, ℕ, zero, suc, List, [], ◌∷◌, ◌++◌, true, false, ◌⊎◌, inl, inr, Some, refl, sym, ◌∙◌, ap, subst, arith}
use Rattle.std.specs.Prelude.{◌≢◌, Contains}
use Rattle.eq_base.specs.Tree.{Tree, Forest, node, empty, grow, head_of, arity_of, count, Position, subtree_at, subtree_in}
use Rattle.eq_base.specs.Pattern.{PatternCell, fixed, variable, restricted, IsTested, IsInstanceOf}
use Rattle.orthogonal_laws.specs.Orthogonal.{IsHead, IsWellFormedSystem, IsOrthogonal}
use Rattle.eq_base.specs.Testing.{IsTestedAt, IsPattern, ArePatterns}
use Rattle.eq_base.specs.Rewriting.{Rule, System, RootStep, IsRedexBy, IsRedex, StepAt, IsNormal}
use Rattle.orthogonal_laws.specs.Strategy.{HasNoDemandedRedex, IsNext, IsOutermost, FitsAt}
use Rattle.orthogonal_laws.specs.Development.{Development, marks, IsKept}
use Rattle.orthogonal_laws.proofs.Members.{contains-in, in-contains, in-map, get-in}
use Rattle.orthogonal_laws.proofs.LeftSides.{open_parts, Compiled, fill, NoRedex, IsPart, part_here, part_below, part_after, part_skip}
use Rattle.orthogonal_laws.proofs.ForestSteps.{Step, Outermost, outer_here, outer_below, outer_after}
use Rattle.orthogonal_laws.proofs.ForestDevelopments.{Develops, nil, keep, contract, total}
use Rattle.orthogonal_laws.proofs.Matchers.{Done, run, rule_tree, tree}
use Rattle.orthogonal_laws.proofs.Walks.{Quiet}
use Rattle.orthogonal_laws.proofs.Staying.{stays, no_redex, develops-count}
use Rattle.orthogonal_laws.proofs.TestedParts.{redex_quiet}
use Rattle.orthogonal_laws.proofs.Advancing.{same_right, next_kept, next_marked}
use Rattle.orthogonal_laws.proofs.Existence.{normal_or_next, next_outermost, next_step}
use Rattle.orthogonal_laws.proofs.DecisionTrees.{regular-compiles, regular-sequential}
use Rattle.orthogonal_laws.proofs.ReadPositions.{regular-reads}
use Rattle.orthogonal_laws.proofs.Strategies.{quiet-no_demand, no_demand-quiet, advances-next, next-advances, next_unique, next-normal}
use Rattle.orthogonal_laws.proofs.SameRule.{same_rule, fits-run, run-fits}
use Rattle.orthogonal_laws.proofs.Translation.{test_of, tests, args_tests, fit-meets}
use Rattle.orthogonal_laws.proofs.Redexes.{compile, compiled, step-redex, instance-fit, instance-fits, fits-instance, met}
use Rattle.orthogonal_laws.proofs.Regularity.{orthogonal-regular}
use Rattle.orthogonal_laws.proofs.Stepping.{at-stands, step-to, step_alone, normal-to, normal-from, no_redex-to}
use Rattle.orthogonal_laws.proofs.NextRedexes.{no_demand-to, no_demand-from, next-from, next-one}
use Rattle.orthogonal_laws.proofs.CleanParts.{part_no_demand}
use Rattle.orthogonal_laws.proofs.Developing.{develop-to}
use Rattle.orthogonal_laws.proofs.Returning.{develop_one}
use Rattle.orthogonal_laws.proofs.ForestStrategy.{Next}
use Rattle.orthogonal_laws.proofs.SingleTrees.{next_alone}

module _ {H : Type 0} (system : System H) (w : IsWellFormedSystem system) (o : IsOrthogonal system) where
  -- a root step has one result
  pub one_result : (t u v : Tree H) → RootStep system t u → RootStep system t v → u ≡ v
  one_result (node h us) u v s s' =
      let c = regular-compiles (orthogonal-regular system w o) in
      let x = step-redex system w o h us u s in
      let y = step-redex system w o h us v s' in
      let e : x.right ≡ y.right = same_right (c.finds h us x.right x.parts x.redex) (c.finds h us y.right y.parts y.redex) in
      let e' : x.parts ≡ y.parts = c.opens h us x.right x.parts x.redex ∙ sym (c.opens h us y.right y.parts y.redex) in
      x.value ∙ (ap (λ r. fill h r x.parts) e ∙ (ap (λ es. fill h y.right es) e' ∙ sym y.value))

  -- a term without a demanded redex keeps its head and stays without one
  pub no_demand_stays : (t u : Tree H) (n : ℕ) → HasNoDemandedRedex system t → Development system t u n → (head_of u ≡ head_of t) × HasNoDemandedRedex system u
  no_demand_stays (node h args) u n nothing d =
      let regular = orthogonal-regular system w o in
      let x = go (no_demand-quiet (compiled system w) (tree (compiled system w)) (regular-compiles regular) (regular-reads regular) (no_demand-from system w o nothing)) (develop-to system w o d nil).develops in
      let e : node h x.0 ≡ u = let z = x.1 in cc in
      (ap head_of (sym e), subst (λ z. HasNoDemandedRedex system z) e x.2)
    where
      go : {us : Forest H} {ns : List ℕ} → NoRedex (compiled system w) h args × Quiet (compiled system w) (tree (compiled system w)) (tree (compiled system w) (h, count args)) args → Develops (compiled system w) (grow (node h args) empty) us ns → (vs : Forest H) × (us ≡ grow (node h vs) empty) × HasNoDemandedRedex system (node h vs)
      go q (keep {us = vs} dk nil) =
          let regular = orthogonal-regular system w o in
          let rules = compiled system w in
          let c = regular-compiles regular in
          let s = stays rules (tree rules) c q.1 dk in
          let n = develops-count rules (tree rules) c dk in
          (vs, refl, no_demand-to system w o (quiet-no_demand rules (tree rules) c (regular-reads regular) h vs (no_redex rules (tree rules) c h args vs n s.same q.0) (subst (λ k. Quiet rules (tree rules) (tree rules (h, k)) vs) (sym n) s.quiet)))
      go q (contract x dk dr) = absurd (q.0 _ _ x)

  part_of : (ps : Forest (PatternCell H)) (i : ℕ) (q : Position) (part : Tree (PatternCell H)) → subtree_in ps i q ≡ Some part → IsTested (head_of part) → ArePatterns ps → IsPart (λ h. test_of w.same system.in_class (head_of part) (arity_of part) h) (args_tests w.same system.in_class part) (tests w.same system.in_class ps)
  part_of empty i q part e t a = absurd (cc)
  part_of (grow (node (fixed g) us) ps) zero [] part e t a =
      let same : node (fixed g) us ≡ part = cc in
      subst (λ p. IsPart (λ h. test_of w.same system.in_class (head_of p) (arity_of p) h) (args_tests w.same system.in_class p) (tests w.same system.in_class (grow (node (fixed g) us) ps))) same part_here
  part_of (grow (node (fixed g) us) ps) zero (j ∷ q) part e t a = part_below (part_of us j q part e t a.0)
  part_of (grow (node (fixed g) us) ps) (suc i) q part e t a = part_after (part_of ps i q part e t a.1)
  part_of (grow (node (variable x) us) ps) zero [] part e t a = absurd (let same : node (variable x) us ≡ part = cc in subst (λ p. IsTested (head_of p)) (sym same) t)
  part_of (grow (node (variable x) us) ps) zero (j ∷ q) part e t a = absurd (let z : subtree_in empty j q ≡ Some part = subst (λ z. subtree_in z j q ≡ Some part) a.0 e in cc)
  part_of (grow (node (variable x) us) ps) (suc i) q part e t a = part_skip (part_of ps i q part e t a.1)
  part_of (grow (node (restricted x class) us) ps) zero [] part e t a =
      let same : node (restricted x class) us ≡ part = cc in
      subst (λ p. IsPart (λ h. test_of w.same system.in_class (head_of p) (arity_of p) h) (args_tests w.same system.in_class p) (tests w.same system.in_class (grow (node (restricted x class) us) ps))) same part_here
  part_of (grow (node (restricted x class) us) ps) zero (j ∷ q) part e t a = absurd (let z : subtree_in empty j q ≡ Some part = subst (λ z. subtree_in z j q ≡ Some part) a.0 e in cc)
  part_of (grow (node (restricted x class) us) ps) (suc i) q part e t a = part_after (part_of ps i q part e t a.1)

  -- an instance of a tested part below the root of a left side has no demanded redex
  pub part_without_demand : (rule : Rule H) → Contains system.rules rule → (q : Position) → q ≢ [] → (tested : IsTestedAt rule.left q) → (t : Tree H) → IsInstanceOf system.in_class tested.part t → HasNoDemandedRedex system t
  part_without_demand rule listed [] below tested t i = absurd (below refl)
  part_without_demand rule listed (j ∷ q) below tested (node h us) i =
      let m = met system w o tested.part tested.tested h us (fit-meets w.same system.in_class w.decides (grow tested.part empty) (grow (node h us) empty) (instance-fit system w tested.part (node h us) i)) in
      no_demand-to system w o (part_no_demand (compiled system w) (orthogonal-regular system w o) (compile system w rule) (in-contains (in-map (compile system w) (contains-in listed))) _ _ (go rule.left (w.roots rule listed) (w.patterns rule listed) tested.stands) h us m.0 m.1)
    where
      go : (l : Tree (PatternCell H)) → IsHead (head_of l) → IsPattern l → subtree_at l (j ∷ q) ≡ Some tested.part → IsPart (λ h. test_of w.same system.in_class (head_of tested.part) (arity_of tested.part) h) (args_tests w.same system.in_class tested.part) (args_tests w.same system.in_class l)
      go (node (variable x) us) head is e = absurd head
      go (node (restricted x class) us) head is e = absurd head
      go (node (fixed g) us) head is e = part_of us j q tested.part e tested.tested is

  -- there is a next redex exactly where a term is not normal
  pub normal_or_next_redex : (t : Tree H) → IsNormal system t ⊎ ((q : Position) × IsNext system t q)
  normal_or_next_redex t =
      let regular = orthogonal-regular system w o in
      elim (normal_or_next (compiled system w) (tree (compiled system w)) (regular-compiles regular) (grow t empty)) [
        | inl n ↦ inl (normal-from system w o t n)
        | inr a ↦ inr (
            let n = advances-next (compiled system w) (tree (compiled system w)) (regular-compiles regular) (regular-reads regular) a.3 in
            let q = next_alone system w o n in
            (q.0, next-one system w o (subst (λ p. Next (compiled system w) (grow t empty) p) q.1 n))
            )
      ]

  pub next_not_normal : (t : Tree H) (q : Position) → IsNext system t q → IsNormal system t → ⊥
  next_not_normal t q n normal =
      let regular = orthogonal-regular system w o in
      next-normal (compiled system w) (tree (compiled system w)) (regular-compiles regular) (regular-reads regular) (next-from system w o n) (normal-to system w o t normal)

  pub next_one : (t : Tree H) (p q : Position) → IsNext system t p → IsNext system t q → p ≡ q
  next_one t p q n n' =
      let regular = orthogonal-regular system w o in
      let e = next_unique (compiled system w) (tree (compiled system w)) (regular-compiles regular) (regular-reads regular) (next-from system w o n) (next-from system w o n') in
      cc

  -- at the next redex there is a step
  pub next_has_step : (t : Tree H) (q : Position) → IsNext system t q → (u : Tree H) × StepAt system t q u
  next_has_step t q n =
      let regular = orthogonal-regular system w o in
      let rules = compiled system w in
      let c = regular-compiles regular in
      let k = regular-reads regular in
      elim (normal_or_next rules (tree rules) c (grow t empty)) [
        | inl normal ↦ absurd (next_not_normal t q n (normal-from system w o t normal))
        | inr a ↦
            let e = next_unique rules (tree rules) c k (advances-next rules (tree rules) c k a.3) (next-from system w o n) in
            let s = step_alone system w o (head_of t) (subst (λ p. Step rules (grow t empty) p a.2) e (next_step rules (tree rules) c a.3)) in
            (s.0, s.2)
      ]

  outermost_below : (c : H) {ts : Forest H} {p : Position} → Outermost (compiled system w) ts p → (p' r : Position) (s : Tree H) → p ≡ p' ++ r → r ≢ [] → p' ≢ [] → subtree_at (node c ts) p' ≡ Some s → IsRedex system s → ⊥
  outermost_below c out [] r s e below inside there redex = inside refl
  outermost_below c (outer_here x) (j ∷ []) r s e below inside there redex = below (let z = e in cc)
  outermost_below c (outer_here x) (j ∷ k ∷ p) r s e below inside there redex = absurd (cc)
  outermost_below c (outer_below {h = h} {args = args} {rest = rest} none out) (j ∷ []) r s e below inside there redex =
      let z : 0 ≡ j = cc in
      let same : node h args ≡ s = at_first rest j z there in
      no_redex-to system w o h args none (subst (λ z. IsRedex system z) (sym same) redex)
    where
      at_first : (rest : Forest H) (j : ℕ) → 0 ≡ j → subtree_in (grow (node h args) rest) j [] ≡ Some s → node h args ≡ s
      at_first rest j z there = let y = subst (λ j. subtree_in (grow (node h args) rest) j [] ≡ Some s) (sym z) there in cc
  outermost_below c (outer_below {h = h} {args = args} {rest = rest} none out) (j ∷ k ∷ p) r s e below inside there redex =
      let z : 0 ≡ j = cc in
      outermost_below h out (k ∷ p) r s (let y = e in cc) below (λ y. absurd (cc)) (subst (λ j. subtree_in (grow (node h args) rest) j (k ∷ p) ≡ Some s) (sym z) there) redex
  outermost_below c (outer_after {t = t} {rest = rest} {i = i} {p = q} out) (j ∷ p) r s e below inside there redex =
      let z : suc i ≡ j = cc in
      outermost_below c out (i ∷ p) r s (let y : q ≡ p ++ r = cc in ap (λ z. i ∷ z) y) below (λ y. absurd (cc)) (subst (λ j. subtree_in (grow t rest) j p ≡ Some s) (sym z) there) redex

  -- the next redex is outermost
  pub next_outer : (t : Tree H) (q : Position) → IsNext system t q → IsOutermost system t q
  next_outer t q n =
      let regular = orthogonal-regular system w o in
      let rules = compiled system w in
      let c = regular-compiles regular in
      let s = next_has_step t q n in
      let out = next_outermost rules (tree rules) c (next-advances rules (tree rules) c (regular-reads regular) (next-from system w o n) (step-to system w o s.1 empty)) in
      record {
        redex = s.1.redex;
        stands = s.1.stands;
        is_redex = (s.1.contractum, s.1.root_step);
        above = λ p r s' e below there redex. outermost_below (head_of t) out (0 ∷ p) r s' (ap (λ z. 0 ∷ z) e) below (λ y. absurd (cc)) there redex;
      }

  -- the rules that fit at a position fit where its arguments have moved on
  pub fits_moved : (t u : Tree H) (q : Position) (h : H) (args args' : Forest H) → subtree_at t q ≡ Some (node h args) → subtree_at u q ≡ Some (node h args') →
      ((rule : Compiled H) → Contains (compiled system w) rule → run (rule_tree rule (h, count args')) args' ≡ run (rule_tree rule (h, count args)) args) → (number : ℕ) → FitsAt system t q number → FitsAt system u q number
  fits_moved t u q h args args' there there' same number f =
      let regular = orthogonal-regular system w o in
      let e : f.subterm ≡ node h args = let z = f.stands in cc in
      let fit = subst (λ z. IsRedexBy system number z) e f.fits in
      let rule = fit.1.rule in
      let i = get-in system.rules number rule fit.1.listed in
      let x = instance-fits system w o rule (in-contains i) h args fit.0 fit.1.is_instance in
      let r = fits-run (compiled system w) regular (compile system w rule) h args x.parts x.right x.fits in
      let y = run-fits (compiled system w) regular (compile system w rule) h args' x.right (◌∙◌ {c = Done x.right} (same (compile system w rule) (in-contains (in-map (compile system w) i))) r) in
      let es = open_parts (args_tests w.same system.in_class rule.left) args' empty in
      record { subterm = node h args'; stands = there'; fits = (fill h x.right es, record { rule = rule; listed = fit.1.listed; is_instance = fits-instance system w o rule (in-contains i) h args' es x.right y }) }

  -- a development that does not mark the next redex leaves it in place
  pub next_is_kept : (t t' u : Tree H) (q : Position) (n : ℕ) → IsNext system t q → StepAt system t q t' → (d : Development system t u n) → marks d q ≡ false → IsKept system t t' u q
  next_is_kept t t' u q n nx s d off =
      let regular = orthogonal-regular system w o in
      let rules = compiled system w in
      let c = regular-compiles regular in
      let k = regular-reads regular in
      let sq = regular-sequential regular in
      let x = develop-to system w o d nil in
      let a = next-advances rules (tree rules) c k (next-from system w o nx) (step-to system w o s empty) in
      let y = next_kept rules (tree rules) c sq a x.develops (x.here q ∙ off) in
      let site = y.4 in
      let one = develop_one system w o t' y.0 y.1 y.3 in
      let s' = step_alone system w o (head_of u) (next_step rules (tree rules) c y.2) in
      let e : one.tree ≡ s'.0 = let z = one.is in let z' = s'.1 in cc in
      let there : subtree_at t q ≡ Some (node site.head site.args) = at-stands (head_of t) site.there in
      let there' : subtree_at u q ≡ Some (node site.head site.vs) = at-stands (head_of u) site.there' in
      let quiet = redex_quiet rules (tree rules) c sq site.head site.args site.parts site.right site.redex in
      let same = λ (rule : Compiled H) (among : Contains rules rule). same_rule rules regular site.head site.args site.vs site.weights quiet site.develops rule among in
      record {
        next = next-one system w o (advances-next rules (tree rules) c k y.2);
        u' = s'.0;
        step = s'.2;
        weight = one.weight;
        development = subst (λ z. Development system t' z one.weight) e one.develops;
        same_rules = λ number. (λ f. fits_moved t u q site.head site.args site.vs there there' same number f, λ f. fits_moved u t q site.head site.vs site.args there' there (λ rule among. sym (same rule among)) number f);
      }

  -- a development that marks the next redex begins with the step there
  pub next_is_marked : (t t' u : Tree H) (q : Position) (n : ℕ) → IsNext system t q → StepAt system t q t' → (d : Development system t u n) → marks d q ≡ true → (m : ℕ) × Development system t' u m × (n ≡ suc m)
  next_is_marked t t' u q n nx s d on =
      let regular = orthogonal-regular system w o in
      let rules = compiled system w in
      let c = regular-compiles regular in
      let x = develop-to system w o d nil in
      let a = next-advances rules (tree rules) c (regular-reads regular) (next-from system w o nx) (step-to system w o s empty) in
      let y = next_marked rules (tree rules) c a x.develops (x.here q ∙ on) in
      let one = develop_one system w o t' (grow u empty) y.0 y.1 in
      let e : one.tree ≡ u = let z = one.is in cc in
      (one.weight, subst (λ z. Development system t' z one.weight) e one.develops, let z = y.2 in let z' = ap total one.weighs in omega (arith, z, z'))
