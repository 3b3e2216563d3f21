-- Where a left side is met: the equation fits, or it is an operation without a value, and nothing is demanded there.
use Rattle.std.proofs.Common.{◌≡◌, ◌≢◌, ◌<◌, inl, inr, ℕ, zero, suc, List, [], ◌∷◌, Some, None, refl, sym, ◌∙◌, ap, subst, arith, ⊎_elim}
use Rattle.std.specs.Prelude.{slice_get, Contains, IsSome}
use Rattle.std.specs.declared.option.Option.{Option}
use Rattle.std.proofs.lemmas.Bool.{cases_lt}
use Rattle.std.proofs.lemmas.Option.{none-some}
use Rattle.eq_base.specs.Tree.{Tree, Forest, node, empty, grow, head_of, args_of, Position, subtree_at, subtree_in}
use Rattle.eq_base.specs.Pattern.{PatternCell, fixed, variable, restricted, IsTested, Classes, Meets, IsConstantOf, Substitution, apply, IsInstanceOf, Respects}
use Rattle.eq_base.specs.Testing.{IsPattern, ArePatterns}
use Rattle.eq_base.specs.Rewriting.{System, IsInstance, RootStepBy, IsRedex, IsFirst}
use Rattle.eq_base.specs.Rules.{rule_of, system_of}
use Rattle.eq_base.specs.Meeting.{in_class_of, class_number}
use Rattle.eq_base.specs.RuleList.{RuleList}
use Rattle.eq_base.specs.Operations.{operand, operand_class}
use Rattle.eq_base.specs.declared.head.Head.{Head}
use Rattle.eq_base.specs.declared.rules.Op.{Op}
use Rattle.eq_base.specs.declared.rules.Right.{Right}
use Rattle.eq_base.specs.declared.rules.Right.TheVariants as rights
use Rattle.eq_base.specs.declared.rules.Equation.{Equation}
use Rattle.eq_base.proofs.Heads.{some_same}
use Rattle.eq_base.proofs.Instances.{Fits, FitAll, fits_from_instance}
use Rattle.orthogonal_laws.specs.Looking.{IsFirstMet}
use Rattle.orthogonal_laws.specs.Next.{IsFirstFit}
use Rattle.orthogonal_laws.specs.Operations.{Values, HasResult}
use Rattle.orthogonal_laws.specs.Results.{AreValuesBy}
use Rattle.symbol_table.specs.Table.{Table}
use Rattle.symbol_table.specs.Reading.{IsLiveTerm}
use Rattle.orthogonal_laws.specs.Orthogonal.{ClashFirst, IsWellFormedSystem, IsOrthogonal}
use Rattle.orthogonal_laws.specs.Strategy.{HasNoDemandedRedex}
use Rattle.orthogonal_laws.proofs.Members.{get-in, in-contains, in-map}
use Rattle.orthogonal_laws.proofs.RegularLists.{applied_of}
use Rattle.sequentiality.specs.Regular.{AreRegular}
use Rattle.orthogonal_laws.proofs.Nexts.{equation_of, listed, RightGives, redex_from_met, match_from_redex}
use Rattle.orthogonal_laws.proofs.LeftSides.{Label, Compiled, NoRedex}
use Rattle.orthogonal_laws.proofs.Matchers.{Matcher, Read, Skip, End, Done, Stop, run, join, tree}
use Rattle.orthogonal_laws.proofs.Walks.{Quiet, quiet_read, quiet_skip, quiet_nil, quiet_end, quiet_done, quiet_stop}
use Rattle.orthogonal_laws.proofs.Redexes.{compiled}
use Rattle.orthogonal_laws.proofs.Stepping.{no_redex-from}
use Rattle.orthogonal_laws.proofs.FirstDemands.{no_redex_there}
use Rattle.orthogonal_laws.proofs.NextLaws.{part_without_demand}
use Rattle.orthogonal_laws.proofs.Followed.{IsFollowed, own}
use Rattle.orthogonal_laws.proofs.Applications.{over_one, over_two, application_shape}

-- ---- left sides that are both met do not clash

module _ {H : Type 0} (in_class : Classes H) where
  -- the head of the tree at a tested position meets the cell there
  pub record IsMetAt (c : PatternCell H) (t : Tree H) (q : Position) : Type 0 where
    pub subterm : Tree H
    pub stands : subtree_at t q ≡ Some subterm
    pub meets : Meets in_class c (head_of subterm)

  -- the same in a list of trees
  pub record IsMetIn (c : PatternCell H) (ts : Forest H) (i : ℕ) (q : Position) : Type 0 where
    pub subterm : Tree H
    pub stands : subtree_in ts i q ≡ Some subterm
    pub meets : Meets in_class c (head_of subterm)

  here : (c : PatternCell H) (ps : Forest (PatternCell H)) (t : Tree H) → Fits in_class (node c ps) t → IsTested c → IsMetAt c t []
  here (fixed g) ps (node h ts) f tested = record { subterm = node h ts; stands = refl; meets = f.0 }
  here (variable x) ps t f tested = absurd tested
  here (restricted x class) ps (node h empty) f tested = record { subterm = node h empty; stands = refl; meets = f }
  here (restricted x class) ps (node h (grow t ts)) f tested = absurd f

  mutual
    met_at : (p : Tree (PatternCell H)) (t : Tree H) (q : Position) (part : Tree (PatternCell H)) → IsPattern p → Fits in_class p t → subtree_at p q ≡ Some part → IsTested (head_of part) → IsMetAt (head_of part) t q
    met_at (node c ps) t [] part is f e tested =
        let same = some_same (node c ps) part e in
        subst (λ p. IsMetAt (head_of p) t []) same (here c ps t f (subst (λ p. IsTested (head_of p)) (sym same) tested))
    met_at (node (fixed g) ps) (node h ts) (i ∷ q) part is f e tested = let m = met_in ps ts i q part is f.1 e tested in record { subterm = m.subterm; stands = m.stands; meets = m.meets }
    met_at (node (variable x) ps) t (i ∷ q) part is f e tested = absurd (none-some part (subst (λ ps. subtree_in ps i q ≡ Some part) is e))
    met_at (node (restricted x class) ps) t (i ∷ q) part is f e tested = absurd (none-some part (subst (λ ps. subtree_in ps i q ≡ Some part) is e))

    met_in : (ps : Forest (PatternCell H)) (ts : Forest H) (i : ℕ) (q : Position) (part : Tree (PatternCell H)) → ArePatterns ps → FitAll in_class ps ts → subtree_in ps i q ≡ Some part → IsTested (head_of part) → IsMetIn (head_of part) ts i q
    met_in empty ts i q part is f e tested = absurd (none-some part e)
    met_in (grow p ps) empty i q part is f e tested = absurd f
    met_in (grow p ps) (grow t ts) zero q part is f e tested = let m = met_at p t q part is.0 f.0 e tested in record { subterm = m.subterm; stands = m.stands; meets = m.meets }
    met_in (grow p ps) (grow t ts) (suc i) q part is f e tested = let m = met_in ps ts i q part is.1 f.1 e tested in record { subterm = m.subterm; stands = m.stands; meets = m.meets }

  pub not_both : (p r : Tree (PatternCell H)) (t : Tree H) → IsPattern p → IsPattern r → IsInstanceOf in_class p t → IsInstanceOf in_class r t → ClashFirst in_class p r → ⊥
  not_both p r t is is' i j c =
      let one = met_at p t c.at c.clashes.one.part is (fits_from_instance in_class p t i) c.clashes.one.stands c.clashes.one.tested in
      let other = met_at r t c.at c.clashes.other.part is' (fits_from_instance in_class r t j) c.clashes.other.stands c.clashes.other.tested in
      let same : other.subterm ≡ one.subterm = some_same other.subterm one.subterm (sym other.stands ∙ one.stands) in
      c.clashes.clash (head_of one.subterm) one.meets (subst (λ s. Meets in_class (head_of c.clashes.other.part) (head_of s)) same other.meets)

-- ---- constants of which none is a redex

module _ {H : Type 0} (rules : List (Compiled H)) (start : Label H → Matcher H) where
  abbrev IsInert : Tree H → Type 0
  IsInert (node h empty) = NoRedex rules h empty
  IsInert (node h (grow t ts)) = ⊥

  abbrev AreInert : Forest H → Type 0
  AreInert empty = Unit {0}
  AreInert (grow t ts) = IsInert t × AreInert ts

  -- whatever reads them finds nothing
  quiet_inert : (m : Matcher H) (ts : Forest H) → AreInert ts → Quiet rules start m ts
  quiet_inert m empty a = quiet_nil
  quiet_inert (Read f) (grow (node h empty) rest) a = quiet_read a.0 quiet_nil quiet_nil refl (quiet_inert (run (f (h, 0)) empty) rest a.1)
  quiet_inert (Read f) (grow (node h (grow t ts)) rest) a = absurd a.0
  quiet_inert (Skip m) (grow t rest) a = quiet_skip (quiet_inert m rest a.1)
  quiet_inert (End m) (grow t rest) a = quiet_end
  quiet_inert (Done r) (grow t rest) a = quiet_done
  quiet_inert Stop (grow t rest) a = quiet_stop

-- ---- the first left side that is met

module _ (values : Values) (rules : RuleList) (number : ℕ) (t : Tree Head) (m : IsFirstMet rules number t) where
  -- no equation before it fits
  none_before : IsFirst (system_of values rules) number t
  none_before k lt r =
      let e = equation_of rules.equations k r.1.rule r.1.listed in
      m.first k e.0 lt e.1 (match_from_redex rules k e.0 e.1 values t r)

  -- where its right side gives something, it is the first equation that fits
  pub met_fits : (u : Tree Head) → RightGives rules number m.equation m.listed values m.equation.right m.met.substitution t u → IsFirstFit (system_of values rules) number t
  met_fits u g = record { redex = redex_from_met rules number m.equation m.listed values t u m.met g; first = none_before }

  module _ (w : IsWellFormedSystem (system_of values rules)) (o : IsOrthogonal (system_of values rules)) (regular : AreRegular rules) (op : Op) (is : m.equation.right ≡ rights.Schema op) (none : values op t ≡ None) where
    abbrev system : System Head
    system = system_of values rules

    here_listed : slice_get system.rules number ≡ Some (rule_of m.equation)
    here_listed = listed rules number m.equation m.listed

    here_contained : Contains system.rules (rule_of m.equation)
    here_contained = in-contains (in-map rule_of (get-in rules.equations number m.equation m.listed))

    no_result : (u : Tree Head) → IsInstance system (rule_of m.equation) t u → ⊥
    no_result u i =
        let g : RightGives rules number m.equation m.listed values (rights.Schema op) i.left.substitution t u = subst (λ r. RightGives rules number m.equation m.listed values r i.left.substitution t u) is i.right in
        none-some u (sym none ∙ g)

    not_beside : (u : Tree Head) (k : ℕ) (by : RootStepBy system k t u) → number < k → ⊥
    not_beside u k by above =
        ⊎_elim
        (λ clash. not_both (in_class_of rules.classes) m.equation.left by.rule.left t (w.patterns (rule_of m.equation) here_contained) (w.patterns by.rule (in-contains (get-in system.rules k by.rule by.listed))) m.met by.is_instance.left clash)
        (λ same. no_result u ((same.1 t m.met by.is_instance.left u).1 by.is_instance))
        (o.roots number k (rule_of m.equation) by.rule above here_listed by.listed)

    not_here : (u : Tree Head) (k : ℕ) (by : RootStepBy system k t u) → k ≡ number → ⊥
    not_here u k by e =
        let same = some_same by.rule (rule_of m.equation) (sym by.listed ∙ ap (slice_get system.rules) e ∙ here_listed) in
        no_result u (subst (λ rule. IsInstance system rule t u) same by.is_instance)

    -- without a value there is no redex
    pub stuck : IsRedex system t → ⊥
    stuck r =
        ⊎_elim (λ below. none_before r.1.0 below (r.0, r.1.1))
        (λ past. ⊎_elim (λ above. not_beside r.0 r.1.0 r.1.1 above) (λ past'. not_here r.0 r.1.0 r.1.1 (omega (arith, past, past'))) (cases_lt number r.1.0))
        (cases_lt r.1.0 number)

    -- ---- its operands

    abbrev σ : Substitution Head
    σ = m.met.substitution

    inert_constant : (class : ℕ) (s : Tree Head) → IsConstantOf (in_class_of rules.classes) class s → HasNoDemandedRedex system s → IsInert (compiled system w) (tree (compiled system w)) s
    inert_constant class (node h empty) c none = no_redex-from system w o h empty (no_redex_there (node h empty) none)
    inert_constant class (node h (grow u us)) c none = absurd c

    inert_operand : (x : ℕ) (q : Position) → q ≢ [] → subtree_at m.equation.left q ≡ Some (operand op x) → IsConstantOf (in_class_of rules.classes) (class_number (operand_class op)) (σ x) → IsInert (compiled system w) (tree (compiled system w)) (σ x)
    inert_operand x q below stands c =
        inert_constant (class_number (operand_class op)) (σ x) c
        (part_without_demand system w o (rule_of m.equation) here_contained q below (record { part = operand op x; stands = stands; tested = tt }) (σ x) (record { substitution = σ; respects = (c, tt); applied = refl }))

    inert_one : (f : Head) → m.equation.left ≡ over_one op f → AreInert (compiled system w) (tree (compiled system w)) (args_of t)
    inert_one f e =
        let r = subst (λ p. Respects (in_class_of rules.classes) σ p) e m.met.respects in
        subst (λ t. AreInert (compiled system w) (tree (compiled system w)) (args_of t)) (ap (apply σ) (sym e) ∙ m.met.applied)
        (inert_operand 0 (0 ∷ []) (λ z. cc) (ap (λ p. subtree_at p (0 ∷ [])) e) r.0, tt)

    inert_two : (f : Head) → m.equation.left ≡ over_two op f → AreInert (compiled system w) (tree (compiled system w)) (args_of t)
    inert_two f e =
        let r = subst (λ p. Respects (in_class_of rules.classes) σ p) e m.met.respects in
        subst (λ t. AreInert (compiled system w) (tree (compiled system w)) (args_of t)) (ap (apply σ) (sym e) ∙ m.met.applied)
        (inert_operand 0 (0 ∷ []) (λ z. cc) (ap (λ p. subtree_at p (0 ∷ [])) e) r.0, (inert_operand 1 (1 ∷ []) (λ z. cc) (ap (λ p. subtree_at p (1 ∷ [])) e) r.1.0, tt))

    inert_args : AreInert (compiled system w) (tree (compiled system w)) (args_of t)
    inert_args =
        let a = applied_of rules regular number m.equation m.listed op is in
        elim (application_shape op a.0) [ inl e ↦ inert_one a.0 (a.1 ∙ e.0) | inr e ↦ inert_two a.0 (a.1 ∙ e.0) ]

    -- and where the way down comes to it, there is no demanded redex
    pub stuck_end : (whole : Tree Head) (n place : ℕ) → IsFollowed system w o whole t n place → HasNoDemandedRedex system whole
    stuck_end whole n place f = f.quiet stuck (quiet_inert (compiled system w) (tree (compiled system w)) (join f.matcher (own system w o t)) (args_of t) inert_args)

-- ---- by a table

some_of : {X : Type 0} (o : Option X) → IsSome o → (x : X) × (o ≡ Some x)
some_of None is = absurd (cc)
some_of (Some x) is = (x, refl)

none_of : {X : Type 0} (o : Option X) → (IsSome o → ⊥) → o ≡ None
none_of None fails = refl
none_of (Some x) fails = absurd (fails refl)

module _ (table : Table) (values : Values) (by : AreValuesBy table values) (rules : RuleList) (number : ℕ) (t : Tree Head) (m : IsFirstMet rules number t) (live : IsLiveTerm table t) (e : Equation) (there : slice_get rules.equations number ≡ Some e) where
  same : e ≡ m.equation
  same = some_same e m.equation (sym there ∙ m.listed)

  result_of : (right : Right) → HasResult table right t → (u : Tree Head) × RightGives rules number m.equation m.listed values right m.met.substitution t u
  result_of (rights.Tree p) has = (apply m.met.substitution p, refl)
  result_of (rights.Schema op) has = some_of (values op t) ((by op t live).1 has)

  -- an equation that has a result is the first that fits
  pub fits_with : HasResult table e.right t → IsFirstFit (system_of values rules) number t
  fits_with has =
      let u = result_of m.equation.right (subst (λ e. HasResult table e.right t) same has) in
      met_fits values rules number t m u.0 u.1

  module _ (w : IsWellFormedSystem (system_of values rules)) (o : IsOrthogonal (system_of values rules)) (regular : AreRegular rules) (whole : Tree Head) (n place : ℕ) (f : IsFollowed (system_of values rules) w o whole t n place) where
    by_right : (right : Right) → m.equation.right ≡ right → (HasResult table right t → ⊥) → HasNoDemandedRedex (system_of values rules) whole
    by_right (rights.Tree p) is fails = absurd (fails tt)
    by_right (rights.Schema op) is fails = stuck_end values rules number t m w o regular op is (none_of (values op t) (λ some. fails ((by op t live).0 some))) whole n place f

    -- where it has none, there is no demanded redex
    pub stuck_with : (HasResult table e.right t → ⊥) → HasNoDemandedRedex (system_of values rules) whole
    stuck_with fails = by_right m.equation.right refl (λ has. fails (subst (λ e. HasResult table e.right t) (sym same) has))
