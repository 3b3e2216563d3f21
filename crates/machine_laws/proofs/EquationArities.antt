-- Equations whose right sides have fixed numbers of arguments.
use Rattle.std.proofs.Common.{◌≡◌, Option, ◌∙◌, ap, subst}
use Rattle.std.specs.Prelude.{Contains}
use Rattle.eq_base.specs.Tree.{Tree}
use Rattle.eq_base.specs.Pattern.{PatternCell}
use Rattle.eq_base.specs.Rewriting.{pattern, Rule}
use Rattle.eq_base.specs.Rules.{right_side, rule_of, system_of}
use Rattle.eq_base.specs.declared.head.Head.{Head}
use Rattle.eq_base.specs.declared.rules.Op.{Op}
use Rattle.eq_base.specs.declared.rules.Right.{Right}
use Rattle.eq_base.specs.declared.rules.Right.TheVariants as rights
use Rattle.eq_base.specs.declared.rules.Equation.{Equation}
use Rattle.eq_base.specs.RuleList.{RuleList}
use Rattle.regularity.specs.Arities.{HasArities}
use Rattle.sequentiality.specs.Regular.{AreRegular}
use Rattle.orthogonal_laws.proofs.Members.{contains-in, in-contains, map-in}
use Rattle.machine_laws.specs.Arities.{RightHasArities, HaveRightArities, GiveClassHeads}
use Rattle.machine_laws.specs.MachineRuns.{RightsKeep}

module _ (value_of : Op → Tree Head → Option (Tree Head)) (rules : RuleList) (regular : AreRegular rules) where
  of_right : (r : Right) (p : Tree (PatternCell Head)) → right_side r ≡ pattern p → RightHasArities regular.well_formed.arity r → HasArities regular.well_formed.arity p
  of_right (rights.Tree q) p e a = let same : q ≡ p = cc in subst (HasArities regular.well_formed.arity) same a
  of_right (rights.Schema op) p e a = absurd (cc)

  pub equations_keep : HaveRightArities regular.well_formed.arity rules → GiveClassHeads value_of rules.classes → RightsKeep (system_of value_of rules) regular.well_formed.arity
  equations_keep arities classes = record {
    patterns = λ rule listed p e.
        let m = map-in rule_of rules.equations rule (contains-in listed) in
        of_right m.0.right p (ap (λ (r : Rule Head). r.right) m.2 ∙ e) (of_equation m.0 (in-contains m.1));
    values = λ rule listed op e t h value. let c = classes op t h value in regular.well_formed.constants c.0 h c.1;
  }
    where
      of_equation : (e : Equation) → Contains rules.equations e → RightHasArities regular.well_formed.arity e.right
      of_equation e c = subst (λ (d : Equation). RightHasArities regular.well_formed.arity d.right) c.2 (arities c.0 e c.1)
