-- The system of regular equations is well formed and orthogonal.
use Rattle.std.proofs.Common.{◌≡◌, ℕ, ◌<◌, [], ◌∷◌, Option, Some, None, ◌⊎◌, inl, inr, refl, sym, ◌∙◌, ap, subst, arith}
use Rattle.std.specs.Prelude.{◌↔◌, ◌≢◌, Contains, slice_get, option_map}
use Rattle.std.proofs.lemmas.Option.{slice_get_within, slice_get-map, get_or_from_slice_get}
use Rattle.eq_base.specs.Tree.{Tree, node, empty, head_of, nth_subtree, number, Position, subtree_at}
use Rattle.eq_base.specs.Pattern.{PatternCell, fixed, variable, restricted, IsTested, variables, IsLinear, Substitution, apply, Respects, IsInstanceOf}
use Rattle.eq_base.specs.Testing.{IsTestedAt, IsPattern}
use Rattle.eq_base.specs.Meeting.{in_class_of}
use Rattle.eq_base.specs.RuleList.{RuleList}
use Rattle.eq_base.specs.Rewriting.{operation, Rule, System, Gives}
use Rattle.eq_base.specs.Rules.{right_side, rule_of, system_of}
use Rattle.eq_base.specs.declared.head.Head.{Head}
use Rattle.eq_base.specs.declared.rules.Op.{Op}
use Rattle.eq_base.specs.declared.rules.Right.{Right}
use Rattle.eq_base.specs.declared.rules.Right.TheVariants as rights
use Rattle.eq_base.specs.declared.rules.Equation.{Equation}
use Rattle.regularity.specs.Arities.{HasArities}
use Rattle.regularity.specs.Common.{HaveCommon}
use Rattle.regularity.specs.Occurrences.{IsTestedPlace}
use Rattle.regularity.specs.Restrictions.{HasUnbound, IsSameRight}
use Rattle.regularity.specs.Single.{IsSingle}
use Rattle.regularity.specs.WellFormed.{IsWellFormed, IsApplicationOf}
use Rattle.regularity.specs.Listing.{break_at}
use Rattle.regularity.proofs.Listed.{nth_subtree-zero}
use Rattle.sequentiality.specs.Comparing.{HasFirstMismatch}
use Rattle.sequentiality.specs.Regular.{AreRegular}
use Rattle.orthogonal_laws.specs.Orthogonal as orthogonal
use Rattle.orthogonal_laws.specs.Orthogonal.{IsHead, TestSame, ClashFirst, SameRight, IsBound, AgreeOnRestricted, IsOrthogonal}
use Rattle.orthogonal_laws.proofs.Members.{contains-in, in-contains, map-in, in-get}
use Rattle.orthogonal_laws.specs.Operations.{ReadConstants}
use Rattle.orthogonal_laws.proofs.Applications.{same_value}
use Rattle.eq_base.specs.Meeting.{same_head}
use Rattle.eq_base.proofs.ClassMembers.{same_head_decides}
use Rattle.orthogonal_laws.proofs.SameTerms.{not_different}
use Rattle.eq_base.proofs.Numbers.{has_node, number_below, number_above, nth_subtree-number}
use Rattle.orthogonal_laws.proofs.Compared.{clash_first, same_tests, mismatch_first, compared, part_is, pattern_of_arities}
use Rattle.orthogonal_laws.proofs.Singles.{linear_of, bound_of}
use Rattle.orthogonal_laws.proofs.MergedRights.{same_values}

-- the left side of an operation's equation is its application
pub applied_of : (rules : RuleList) → AreRegular rules → (k : ℕ) (e : Equation) → slice_get rules.equations k ≡ Some e → IsApplicationOf e
applied_of rules r k e listed = subst IsApplicationOf (get_or_from_slice_get rules.equations k e e listed) (r.well_formed.each k e (slice_get_within rules.equations k e listed)).applied

module _ (value_of : Op → Tree Head → Option (Tree Head)) (rules : RuleList) (r : AreRegular rules) where
  abbrev system : System Head
  system = system_of value_of rules

  -- an equation of the list, by its number
  record Listed (k : ℕ) (e : Equation) : Type 0 where
    listed : slice_get rules.equations k ≡ Some e

  some_same : {A : Type 0} {x y : A} → Some x ≡ Some y → x ≡ y
  some_same e = cc

  -- the equation behind a rule
  record Behind (k : ℕ) (rule : Rule Head) : Type 0 where
    equation : Equation
    listed : slice_get rules.equations k ≡ Some equation
    is : rule_of equation ≡ rule

  behind : (k : ℕ) (rule : Rule Head) → slice_get system.rules k ≡ Some rule → Behind k rule
  behind k rule e = of_option (slice_get rules.equations k) refl (sym (slice_get-map rule_of rules.equations k) ∙ e)
    where
      of_option : (x : Option Equation) → slice_get rules.equations k ≡ x → option_map rule_of x ≡ Some rule → Behind k rule
      of_option None y z = absurd (cc)
      of_option (Some d) y z = record { equation = d; listed = y; is = some_same z }

  behind_some : (rule : Rule Head) → Contains system.rules rule → (k : ℕ) × Behind k rule
  behind_some rule c = let w = in-get (contains-in c) in (w.0, behind w.0 rule w.1)

  arities : (k : ℕ) (e : Equation) → slice_get rules.equations k ≡ Some e → HasArities r.well_formed.arity e.left
  arities k e listed = subst (λ (d : Equation). HasArities r.well_formed.arity d.left) (get_or_from_slice_get rules.equations k e e listed) (r.well_formed.arities k e (slice_get_within rules.equations k e listed))

  well_formed : (k : ℕ) (e : Equation) → slice_get rules.equations k ≡ Some e → IsWellFormed e
  well_formed k e listed = subst IsWellFormed (get_or_from_slice_get rules.equations k e e listed) (r.well_formed.each k e (slice_get_within rules.equations k e listed))

  left_pattern : (k : ℕ) (e : Equation) → slice_get rules.equations k ≡ Some e → IsPattern e.left
  left_pattern k e listed = pattern_of_arities rules.classes r.well_formed.arity r.well_formed.constants e.left (arities k e listed)

  left_head : (k : ℕ) (e : Equation) → slice_get rules.equations k ≡ Some e → IsHead (head_of e.left)
  left_head k e listed = let w = (well_formed k e listed).root in rw w.1 tt

  left_tested : (k : ℕ) (e : Equation) → slice_get rules.equations k ≡ Some e → IsTested (head_of e.left)
  left_tested k e listed = let w = (well_formed k e listed).root in rw w.1 tt

  single : (k : ℕ) (e : Equation) → slice_get rules.equations k ≡ Some e → IsSingle e
  single k e listed = record {
    linear = λ at repeats. r.no_violation (break_at 1 k at k) (inl (inl (inl (record { restriction = refl; equation = e; listed = listed; repeats = repeats; second = refl }))));
    bound = λ at unbound. r.no_violation (break_at 2 k at k) (inl (inl (inr (record { restriction = refl; equation = e; listed = listed; unbound = unbound; second = refl }))));
  }

  pub left_linear : (k : ℕ) (e : Equation) → slice_get rules.equations k ≡ Some e → IsLinear e.left
  left_linear k e listed = linear_of e.left (single k e listed).linear

  pub right_bound : (k : ℕ) (e : Equation) → slice_get rules.equations k ≡ Some e → IsBound (variables e.left) (right_side e.right)
  right_bound k e listed = go e.right (single k e listed).bound
    where
      go : (right : Right) → ((at : ℕ) → HasUnbound e.left (right_side right) at → ⊥) → IsBound (variables e.left) (right_side right)
      go (rights.Tree p) none = bound_of e.left p (left_pattern k e listed) none
      go (rights.Schema op) none = tt

  -- ---- two left sides

  no_mismatch : (i : ℕ) (e : Equation) (j : ℕ) (d : Equation) → slice_get rules.equations i ≡ Some e → slice_get rules.equations j ≡ Some d → (place : ℕ) → (place ≡ 0 → i < j) → IsTestedPlace e.left place → HasFirstMismatch (in_class_of rules.classes) (nth_subtree e.left place) d.left → ⊥
  no_mismatch i e j d listed listed' place order tested m =
      r.no_violation (break_at 5 i place j)
      (inr (record {
        restriction = refl;
        one = e;
        other = d;
        one_listed = record { listed = listed; single = single i e listed };
        other_listed = record { listed = listed'; single = single j d listed' };
        order = order;
        tested = tested;
        mismatch = m;
        not_told = λ told. r.no_violation told.told (inl (inr told.of_two));
      }))

  -- right sides that are not different under the merge give the same
  same_results : (i : ℕ) (e : Equation) (j : ℕ) (d : Equation) → slice_get rules.equations i ≡ Some e → slice_get rules.equations j ≡ Some d → ((IsSameRight e.left d.left (right_side e.right) (right_side d.right) → ⊥) → ⊥) →
      (t : Tree Head) (one : IsInstanceOf (in_class_of rules.classes) e.left t) (other : IsInstanceOf (in_class_of rules.classes) d.left t) (u : Tree Head) → Gives system one.substitution (right_side e.right) t u ↔ Gives system other.substitution (right_side d.right) t u
  same_results i e j d listed listed' n t one other u = go e.right d.right (right_bound i e listed) (right_bound j d listed') n
    where
      go : (s s' : Right) → IsBound (variables e.left) (right_side s) → IsBound (variables d.left) (right_side s') → ((IsSameRight e.left d.left (right_side s) (right_side s') → ⊥) → ⊥) → Gives system one.substitution (right_side s) t u ↔ Gives system other.substitution (right_side s') t u
      go (rights.Schema op) s' b b' n = absurd (n (λ x. x))
      go (rights.Tree p) (rights.Schema op) b b' n = absurd (n (λ x. x))
      go (rights.Tree p) (rights.Tree p') b b' n =
          let same : apply one.substitution p ≡ apply other.substitution p' =
          not_different (apply one.substitution p) (apply other.substitution p') (λ differ. n (λ x. differ (same_values (in_class_of rules.classes) e.left d.left p p' (left_pattern i e listed) (left_pattern j d listed') b b' x t one other))) in
          (λ x. sym same ∙ x, λ x. same ∙ x)

  same_right : (i : ℕ) (e : Equation) (j : ℕ) (d : Equation) → slice_get rules.equations i ≡ Some e → slice_get rules.equations j ≡ Some d → ((IsSameRight e.left d.left (right_side e.right) (right_side d.right) → ⊥) → ⊥) → SameRight system (rule_of e) (rule_of d)
  same_right i e j d listed listed' n t one other u = (
    λ x. record { left = other; right = (same_results i e j d listed listed' n t x.left other u).0 x.right },
    λ x. record { left = one; right = (same_results i e j d listed listed' n t one x.left u).1 x.right },
  )

  roots : (i : ℕ) (e : Equation) (j : ℕ) (d : Equation) → i < j → slice_get rules.equations i ≡ Some e → slice_get rules.equations j ≡ Some d → ClashFirst (in_class_of rules.classes) e.left d.left ⊎ (TestSame e.left d.left × SameRight system (rule_of e) (rule_of d))
  roots i e j d less listed listed' =
      elim (compared rules.classes r.well_formed.arity r.well_formed.constants e.left d.left (left_pattern i e listed) (left_pattern j d listed') (arities i e listed) (arities j d listed')) [
        | clash_first c ↦ inl c
        | same_tests s common ↦ inr (
          s,
          same_right i e j d listed listed' (λ differ. r.no_violation (break_at 3 i 0 j) (inl (inr (inl (record {
            restriction = refl;
            one = e;
            other = d;
            one_listed = record { listed = listed; single = single i e listed };
            other_listed = record { listed = listed'; single = single j d listed' };
            order = less;
            root = refl;
            ambiguous = record { common = common; differ = differ };
          }))))),
        )
        | mismatch_first m ↦ absurd (no_mismatch i e j d listed listed' 0 (λ z. less)
            (record { there = has_node e.left; tested = subst (λ p. IsTested (head_of p)) (sym (nth_subtree-zero e.left)) (left_tested i e listed) })
            (subst (λ p. HasFirstMismatch (in_class_of rules.classes) p d.left) (sym (nth_subtree-zero e.left)) m))
      ]

  parts : (i : ℕ) (e : Equation) (j : ℕ) (d : Equation) → slice_get rules.equations i ≡ Some e → slice_get rules.equations j ≡ Some d → (q : Position) → q ≢ [] → (tested : IsTestedAt e.left q) → ClashFirst (in_class_of rules.classes) tested.part d.left
  parts i e j d listed listed' q below tested =
      let place = number e.left q in
      let is : nth_subtree e.left place ≡ tested.part = nth_subtree-number e.left q tested.part tested.stands in
      let above : 0 < place = number_above e.left q below in
      let at : IsTestedPlace e.left place = record { there = number_below e.left q tested.part tested.stands; tested = subst (λ p. IsTested (head_of p)) (sym is) tested.tested } in
      let part = part_of e.left q (left_pattern i e listed) (arities i e listed) below tested.part tested.stands in
      elim (compared rules.classes r.well_formed.arity r.well_formed.constants tested.part d.left part.0 (left_pattern j d listed') part.1 (arities j d listed')) [
        | clash_first c ↦ c
        | same_tests s common ↦ absurd (r.no_violation (break_at 4 i place j) (inl (inr (inr (record {
          restriction = refl;
          one = e;
          other = d;
          one_listed = record { listed = listed; single = single i e listed };
          other_listed = record { listed = listed'; single = single j d listed' };
          below = above;
          tested = at;
          common = subst (λ p. HaveCommon (in_class_of rules.classes) p d.left) (sym is) common;
        })))))
        | mismatch_first m ↦ absurd (no_mismatch i e j d listed listed' place (λ z. absurd (omega (arith, z, above))) at (subst (λ p. HasFirstMismatch (in_class_of rules.classes) p d.left) (sym is) m))
      ]
    where
      part_of : (p : Tree (PatternCell Head)) (q : Position) → IsPattern p → HasArities r.well_formed.arity p → q ≢ [] → (part : Tree (PatternCell Head)) → subtree_at p q ≡ Some part → IsPattern part × HasArities r.well_formed.arity part
      part_of p [] is ar n part z = absurd (n refl)
      part_of (node (fixed h) ps) (k ∷ q) is ar n part z = part_is rules.classes r.well_formed.arity r.well_formed.constants ps k q part is ar.1 z
      part_of (node (variable x) ps) (k ∷ q) is ar n part z = absurd (let y : subtree_at (node (variable x) empty) (k ∷ q) ≡ Some part = subst (λ z. subtree_at (node (variable x) z) (k ∷ q) ≡ Some part) is z in cc)
      part_of (node (restricted x class) ps) (k ∷ q) is ar n part z = absurd (let y : subtree_at (node (restricted x class) empty) (k ∷ q) ≡ Some part = subst (λ z. subtree_at (node (restricted x class) z) (k ∷ q) ≡ Some part) is z in cc)

  -- ---- the system

  pub regular_orthogonal : IsOrthogonal system
  regular_orthogonal = record {
    linear = λ rule c. let b = behind_some rule c in subst (λ (z : Rule Head). IsLinear z.left) b.1.is (left_linear b.0 b.1.equation b.1.listed);
    bound = λ rule c. let b = behind_some rule c in subst (λ (z : Rule Head). IsBound (variables z.left) z.right) b.1.is (right_bound b.0 b.1.equation b.1.listed);
    roots = λ i j a b less e e'.
        let x = behind i a e in
        let y = behind j b e' in
        subst (λ (z : Rule Head). ClashFirst (in_class_of rules.classes) a.left z.left ⊎ (TestSame a.left z.left × SameRight system a z)) y.is
        (subst (λ (z : Rule Head). ClashFirst (in_class_of rules.classes) z.left y.equation.left ⊎ (TestSame z.left y.equation.left × SameRight system z (rule_of y.equation))) x.is
        (roots i x.equation j y.equation less x.listed y.listed));
    parts = λ a b c c' q below.
        let x = behind_some a c in
        let y = behind_some b c' in
        subst (λ (z : Rule Head). (tested : IsTestedAt a.left q) → ClashFirst (in_class_of rules.classes) tested.part z.left) y.1.is
        (subst (λ (z : Rule Head). (tested : IsTestedAt z.left q) → ClashFirst (in_class_of rules.classes) tested.part y.1.equation.left) x.1.is
        (λ tested. parts x.0 x.1.equation y.0 y.1.equation x.1.listed y.1.listed q below tested));
  }

  -- whatever values operations have, they read constants alone
  pub reads_constants : ReadConstants value_of rules
  reads_constants e c op is σ τ respects agree =
      let k = in-get (contains-in c) in
      same_value value_of op e.left (applied_of rules r k.0 e k.1 op is) σ τ agree

  pub regular_well_formed : orthogonal.IsWellFormedSystem system
  regular_well_formed = record {
    same = same_head;
    decides = same_head_decides;
    patterns = λ rule c. let b = behind_some rule c in subst (λ (z : Rule Head). IsPattern z.left) b.1.is (left_pattern b.0 b.1.equation b.1.listed);
    roots = λ rule c. let b = behind_some rule c in subst (λ (z : Rule Head). IsHead (head_of z.left)) b.1.is (left_head b.0 b.1.equation b.1.listed);
    values = λ rule c.
        let b = map-in rule_of rules.equations rule (contains-in c) in
        subst (λ (z : Rule Head). (op : Op) → z.right ≡ operation op → (σ τ : Substitution Head) → Respects (in_class_of rules.classes) σ z.left → AgreeOnRestricted z.left σ τ → value_of op (apply σ z.left) ≡ value_of op (apply τ z.left)) b.2
        (λ op e. reads_constants b.0 (in-contains b.1) op (schema_of b.0.right op e));
  }
    where
      schema_of : (right : Right) (op : Op) → right_side right ≡ operation op → right ≡ rights.Schema op
      schema_of (rights.Tree p) op e = absurd (cc)
      schema_of (rights.Schema other) op e = let same : other ≡ op = cc in ap (λ z. rights.Schema z) same
