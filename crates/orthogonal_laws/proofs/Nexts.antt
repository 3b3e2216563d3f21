-- Redexes of equations.
use Rattle.std.proofs.Common.{◌≡◌, ℕ, ◌<◌, ◌≤◌, List, length, map, Some, None, refl, sym, ◌∙◌, ap, subst}
use Rattle.std.specs.Prelude.{slice_get, option_map}
use Rattle.std.proofs.lemmas.Option.{slice_get-map, slice_get_past}
use Rattle.eq_base.specs.Tree.{Tree, size, nth_subtree}
use Rattle.eq_base.specs.Pattern.{Substitution, IsInstanceOf}
use Rattle.eq_base.specs.Rewriting.{System, Rule, Gives, RootStepBy, IsRedexBy, IsRedex, IsNormal}
use Rattle.eq_base.specs.Meeting.{in_class_of}
use Rattle.eq_base.specs.RuleList.{RuleList}
use Rattle.eq_base.specs.Rules.{right_side, rule_of, system_of}
use Rattle.eq_base.specs.declared.rules.Right.{Right}
use Rattle.eq_base.specs.declared.head.Head.{Head}
use Rattle.eq_base.specs.declared.rules.Equation.{Equation}
use Rattle.eq_base.proofs.Heads.{some_same}
use Rattle.eq_base.proofs.Positions.{number_of}
use Rattle.std.specs.declared.option.Option.{Option}
use Rattle.orthogonal_laws.specs.Operations.{Values}

some_of : {X Y : Type 0} (f : X → Y) (o : Option X) (y : Y) → option_map f o ≡ Some y → (x : X) × (o ≡ Some x) × (f x ≡ y)
some_of f None y is = cc
some_of f (Some x) y is = (x, refl, some_same (f x) y is)

-- the equation of a rule
pub equation_of : (es : List Equation) (number : ℕ) (rule : Rule Head) → slice_get (map rule_of es) number ≡ Some rule → (e : Equation) × (slice_get es number ≡ Some e) × (rule_of e ≡ rule)
equation_of es number rule is = some_of rule_of (slice_get es number) rule (sym (slice_get-map rule_of es number) ∙ is)

module _ (rules : RuleList) (number : ℕ) (e : Equation) (there : slice_get rules.equations number ≡ Some e) where
  pub listed : slice_get (map rule_of rules.equations) number ≡ Some (rule_of e)
  listed = slice_get-map rule_of rules.equations number ∙ ap (option_map rule_of) there

  -- what the right side of an equation gives
  abbrev pub RightGives : Values → Right → Substitution Head → Tree Head → Tree Head → Type 0
  RightGives values right σ t u = Gives (system_of values rules) σ (right_side right) t u

  pub redex_from_met : (values : Values) (t u : Tree Head) (i : IsInstanceOf (in_class_of rules.classes) e.left t) → RightGives values e.right i.substitution t u → IsRedexBy (system_of values rules) number t
  redex_from_met values t u i g = (u, record { rule = rule_of e; listed = listed; is_instance = record { left = i; right = g } })

  pub match_from_redex : (values : Values) (t : Tree Head) → IsRedexBy (system_of values rules) number t → IsInstanceOf (in_class_of rules.classes) e.left t
  match_from_redex values t r =
      let by = r.1 in
      let same : by.rule ≡ rule_of e = let a = by.listed in let b = listed in cc in
      subst (λ (rule : Rule Head). IsInstanceOf (in_class_of rules.classes) rule.left t) same by.is_instance.left

pub no_redex_past : (values : Values) (rules : RuleList) (number : ℕ) (t : Tree Head) → length rules.equations ≤ number → IsRedexBy (system_of values rules) number t → ⊥
no_redex_past values rules number t past r =
    let by = r.1 in
    let a = by.listed in
    let b = slice_get-map rule_of rules.equations number ∙ ap (option_map rule_of) (slice_get_past rules.equations number past) in
    cc

-- ---- steps

module _ {H : Type 0} (system : System H) (t : Tree H) where
  pub IsNormal-from_none : ((k : ℕ) → k < size t → IsRedex system (nth_subtree t k) → ⊥) → IsNormal system t
  IsNormal-from_none none u step =
      let s = step.1 in
      let n = number_of t step.0 s.redex s.stands in
      none n.0 n.1 (s.contractum, (s.root_step.0, subst (λ r. RootStepBy system s.root_step.0 r s.contractum) (sym n.2) s.root_step.1))
