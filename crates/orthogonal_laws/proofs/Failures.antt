-- Where the left sides of equations fail at a node, the decision tree fails with the last of them.
use Rattle.std.proofs.Common.{◌≡◌, ℕ, ◌+◌, ◌<◌, ◌≤◌, ◌⊎◌, inl, inr, List, length, Some, refl, sym, ◌∙◌, ap, subst, arith, ⊎_elim, max}
use Rattle.std.proofs.lemmas.Bool.{cases_lt}
use Rattle.std.proofs.lemmas.Option.{slice_get_within}
use Rattle.std.specs.Prelude.{slice_get, Contains}
use Rattle.eq_base.specs.Tree.{Tree, node, head_of, args_of, arity_of}
use Rattle.eq_base.specs.Pattern.{PatternCell, IsInstanceOf}
use Rattle.eq_base.specs.Rewriting.{System}
use Rattle.eq_base.specs.Meeting.{in_class_of}
use Rattle.eq_base.specs.RuleList.{RuleList}
use Rattle.eq_base.specs.Rules.{rule_of, system_of}
use Rattle.eq_base.specs.declared.head.Head.{Head}
use Rattle.eq_base.specs.declared.rules.Equation.{Equation}
use Rattle.eq_base.proofs.Instances.{fits_from_instance}
use Rattle.orthogonal_laws.specs.Matching.{FailsAt, IsLastFailure}
use Rattle.orthogonal_laws.specs.Operations.{Values}
use Rattle.orthogonal_laws.specs.Orthogonal.{IsWellFormedSystem, IsOrthogonal}
use Rattle.orthogonal_laws.proofs.Members.{In, contains-in, in-contains, in-get, get-in, in-map, map-in}
use Rattle.orthogonal_laws.proofs.LeftSides.{Compiled}
use Rattle.orthogonal_laws.proofs.Matchers.{rule_tree}
use Rattle.orthogonal_laws.proofs.DecisionTrees.{Member, member_of, contains_of, regular-fit}
use Rattle.orthogonal_laws.proofs.Redexes.{compile, compiled, root_tested}
use Rattle.orthogonal_laws.proofs.Regularity.{orthogonal-regular}
use Rattle.orthogonal_laws.proofs.Failing.{mismatch-fits}
use Rattle.orthogonal_laws.proofs.Mismatches.{failure-reaches}
use Rattle.orthogonal_laws.proofs.Reaching.{Reaches, reaches-one, furthest}
use Rattle.orthogonal_laws.proofs.Followed.{own}

-- the same of the equations before one
pub record FailsSoFar (rules : RuleList) (bound : ℕ) (t : Tree Head) (n : ℕ) : Type 0 where
  pub each : (number : ℕ) (e : Equation) → number < bound → slice_get rules.equations number ≡ Some e → (k : ℕ) × FailsAt rules.classes e.left t k × (k ≤ n)
  pub some : (n ≡ 0) ⊎ ((number : ℕ) × (e : Equation) × (slice_get rules.equations number ≡ Some e) × FailsAt rules.classes e.left t n)

-- where a left side fails, it is not met
pub failing_not_met : (classes : List (List Head)) (left : Tree (PatternCell Head)) (t : Tree Head) (k : ℕ) → FailsAt classes left t k → IsInstanceOf (in_class_of classes) left t → ⊥
failing_not_met classes left t k fails i = mismatch-fits (in_class_of classes) fails (fits_from_instance (in_class_of classes) left t i, tt)

pub fails_none : (rules : RuleList) (t : Tree Head) → FailsSoFar rules 0 t 0
fails_none rules t = record { each = λ number e lt there. absurd (omega arith); some = inl refl }

pub fails_more : (rules : RuleList) (number : ℕ) (e : Equation) → slice_get rules.equations number ≡ Some e → (t : Tree Head) (n k m : ℕ) → FailsSoFar rules number t n → FailsAt rules.classes e.left t k → m ≡ max n k → FailsSoFar rules (number + 1) t m
fails_more rules number e there t n k m so_far fails is =
    record {
      each = λ i d lt there'. ⊎_elim
          (λ below. let x = so_far.each i d below there' in (x.0, x.1, omega (arith, x.2, is)))
          (λ past.
          let same : i ≡ number = omega arith in
          let e' : e ≡ d = let z = subst (λ z. slice_get rules.equations z ≡ Some d) same there' in cc in
          (k, subst (λ (d : Equation). FailsAt rules.classes d.left t k) e' fails, omega (arith, is)))
          (cases_lt i number);
      some = ⊎_elim
          (λ below.
          let same : k ≡ m = omega (arith, is) in
          inr (number, e, there, subst (λ z. FailsAt rules.classes e.left t z) same fails))
          (λ past.
          let same : n ≡ m = omega (arith, is) in
          elim so_far.some [ inl z ↦ inl (omega (arith, z, same)) | inr s ↦ inr (s.0, s.1, s.2, subst (λ z. FailsAt rules.classes s.1.left t z) same s.3) ])
          (cases_lt n k);
    }

pub fails_all : (rules : RuleList) (bound : ℕ) (t : Tree Head) (n : ℕ) → FailsSoFar rules bound t n → length rules.equations ≤ bound → IsLastFailure rules t n
fails_all rules bound t n so_far past = record { each = λ number e there. let z = slice_get_within rules.equations number e there in so_far.each number e (omega (arith, z)) there; some = so_far.some }

module _ (values : Values) (rules : RuleList) (w : IsWellFormedSystem (system_of values rules)) (o : IsOrthogonal (system_of values rules)) where
  abbrev system : System Head
  system = system_of values rules

  -- a translated rule is that of an equation
  record OfEquation (rule : Compiled Head) : Type 0 where
    number : ℕ
    equation : Equation
    there : slice_get rules.equations number ≡ Some equation
    listed : Contains system.rules (rule_of equation)
    is : compile system w (rule_of equation) ≡ rule

  of_equation : (rule : Compiled Head) → Member (compiled system w) rule → OfEquation rule
  of_equation rule m =
      let x = map-in (compile system w) system.rules rule (contains-in (contains_of m)) in
      let y = map-in rule_of rules.equations x.0 x.1 in
      let z = in-get y.1 in
      record {
        number = z.0;
        equation = y.0;
        there = z.1;
        listed = in-contains (subst (λ r. In system.rules r) (sym y.2) x.1);
        is = ap (compile system w) y.2 ∙ x.2;
      }

  rule_reaches : (e : Equation) → Contains system.rules (rule_of e) → (t : Tree Head) (k : ℕ) → FailsAt rules.classes e.left t k → Reaches (rule_tree (compile system w (rule_of e)) (head_of t, arity_of t)) (args_of t) k
  rule_reaches e listed (node h args) k fails = failure-reaches w.same w.decides (in_class_of rules.classes) e.left h args k fails (root_tested system w (rule_of e) listed) _

  pub last_reaches : (t : Tree Head) (n : ℕ) → IsLastFailure rules t n → Reaches (own system w o t) (args_of t) n
  last_reaches t n last =
      let f = furthest (compiled system w) (regular-fit (orthogonal-regular system w o)) (head_of t) (args_of t) (λ rule m. let x = each rule m in (x.0, x.1)) in
      let low : f.n ≤ n = elim f.some [ inl e ↦ omega (arith, e) | inr s ↦ (let x = each s.0 s.1 in let z = reaches-one s.2 x.1 in omega (arith, z, x.2)) ] in
      let high : n ≤ f.n = elim last.some [
        | inl e ↦ omega (arith, e)
        | inr s ↦ (
            let i = in-map rule_of (get-in rules.equations s.0 s.1 s.2) in
            f.within (compile system w (rule_of s.1)) (member_of (in-contains (in-map (compile system w) i))) n (rule_reaches s.1 (in-contains i) t n s.3))
      ] in
      let e : f.n ≡ n = omega (arith, low, high) in
      subst (λ n. Reaches (own system w o t) (args_of t) n) e f.reaches
    where
      each : (rule : Compiled Head) → Member (compiled system w) rule → (k : ℕ) × Reaches (rule_tree rule (head_of t, arity_of t)) (args_of t) k × (k ≤ n)
      each rule m =
          let x = of_equation rule m in
          let y = last.each x.number x.equation x.there in
          (y.0, subst (λ r. Reaches (rule_tree r (head_of t, arity_of t)) (args_of t) y.0) x.is (rule_reaches x.equation x.listed t y.0 y.1), y.2)
