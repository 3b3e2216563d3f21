-- Regular equations of a table keep fixed numbers of arguments as they are read.
use Rattle.std.proofs.Common.{◌≡◌, ℕ, sym, ◌∙◌, ap, subst}
use Rattle.std.specs.Prelude.{Contains, IsTrue}
use Rattle.eq_base.specs.Tree.{Tree, Forest, node, empty, grow, AllHeadsIn, map_all_heads}
use Rattle.eq_base.specs.Pattern.{PatternCell, fixed, variable, restricted}
use Rattle.eq_base.specs.Rewriting.{pattern, Rule}
use Rattle.eq_base.specs.Rules.{right_side}
use Rattle.eq_base.specs.RuleList.{RuleList}
use Rattle.eq_base.specs.ReadHead.{ReadHead}
use Rattle.eq_base.specs.Mapping.{map_cell, map_right}
use Rattle.eq_base.specs.declared.head.Head.{Head}
use Rattle.eq_base.specs.declared.rules.Right.{Right}
use Rattle.eq_base.specs.declared.rules.Right.TheVariants as rights
use Rattle.eq_base.specs.declared.rules.Equation.{Equation}
use Rattle.eq_base.proofs.Trees.{count-map_all_heads}
use Rattle.symbol_table.specs.Table.{Table}
use Rattle.symbol_table.specs.Reading.{read_head, read_pattern, read_rule, read_classes, read_system, IsLiveHead, IsLiveCell, IsLivePattern, IsLiveRight, IsLiveEquation}
use Rattle.symbol_table.proofs.Numberings.{head_for, live-head_for, class-head_for}
use Rattle.regularity.specs.Arities.{HasArities, HaveArities}
use Rattle.orthogonal_laws.specs.Readings.{AreRegularIn}
use Rattle.orthogonal_laws.proofs.Members.{contains-in, in-contains, map-in}
use Rattle.match_laws.specs.Demand.{HasFixedArities}
use Rattle.machine_laws.specs.Arities.{RightHasArities, HaveRightArities}
use Rattle.machine_laws.specs.MachineRuns.{RightsKeep}
use Rattle.machine_laws.proofs.ValueClasses.{value_class}

module _ (table : Table) (rules : RuleList) (r : AreRegularIn table rules) where
  abbrev arity : Head → ℕ
  arity = r.regular.well_formed.arity

  -- the number of arguments of a head that is read
  abbrev pub read_arity : ReadHead → ℕ
  read_arity h = arity (head_for table h)

  pub live_arity : (h : Head) → IsLiveHead table h → read_arity (read_head table h) ≡ arity h
  live_arity h live = ap arity (live-head_for table r.distinct h live)

  mutual
    read_arities : (p : Tree (PatternCell Head)) → IsLivePattern table p → HasArities arity p → HasArities read_arity (read_pattern table p)
    read_arities (node (fixed h) ps) live a = (count-map_all_heads (map_cell (read_head table)) ps ∙ (a.0 ∙ sym (live_arity h live.0)), all_read_arities ps live.1 a.1)
    read_arities (node (variable x) ps) live a = ap (map_all_heads (map_cell (read_head table))) a
    read_arities (node (restricted x class) ps) live a = ap (map_all_heads (map_cell (read_head table))) a

    all_read_arities : (ps : Forest (PatternCell Head)) → AllHeadsIn (IsLiveCell table) ps → HaveArities arity ps → HaveArities read_arity (map_all_heads (map_cell (read_head table)) ps)
    all_read_arities empty live a = tt
    all_read_arities (grow p ps) live a = (read_arities p live.0 a.0, all_read_arities ps live.1 a.1)

  -- the equation of a rule that is read
  record Equates (rule : Rule ReadHead) : Type 0 where
    equation : Equation
    listed : Contains rules.equations equation
    is : read_rule table equation ≡ rule

  equates : (rule : Rule ReadHead) → Contains (read_system table rules).rules rule → Equates rule
  equates rule c = let x = map-in (read_rule table) rules.equations rule (contains-in c) in record { equation = x.0; listed = in-contains x.1; is = x.2 }

  live_equation : (e : Equation) → Contains rules.equations e → IsLiveEquation table e
  live_equation e c = subst (λ (d : Equation). IsLiveEquation table d) c.2 (r.live.equations c.0 e c.1)

  read_constants : (class : ℕ) (h : ReadHead) → IsTrue ((read_system table rules).in_class class h) → read_arity h ≡ 0
  read_constants class h is = r.regular.well_formed.constants class (head_for table h) (class-head_for table r.distinct rules.classes r.live.classes class h ∙ is)

  pub fixed_arities : HasFixedArities (read_system table rules) read_arity
  fixed_arities = record {
    lefts = λ rule c.
        let x = equates rule c in
        let a = subst (λ (d : Equation). HasArities arity d.left) x.listed.2 (r.regular.well_formed.arities x.listed.0 x.equation x.listed.1) in
        subst (λ (z : Rule ReadHead). HasArities read_arity z.left) x.is (read_arities x.equation.left (live_equation x.equation x.listed).left a);
    constants = read_constants;
  }

  of_right : (right : Right) (p : Tree (PatternCell ReadHead)) → IsLiveRight table right → RightHasArities arity right → map_right (read_head table) (right_side right) ≡ pattern p → HasArities read_arity p
  of_right (rights.Tree q) p live a e = let same : read_pattern table q ≡ p = cc in subst (HasArities read_arity) same (read_arities q live a)
  of_right (rights.Schema op) p live a e = absurd (cc)

  pub rights_keep : HaveRightArities arity rules → RightsKeep (read_system table rules) read_arity
  rights_keep all = record {
    patterns = λ rule c p e.
        let x = equates rule c in
        let a = subst (λ (d : Equation). RightHasArities arity d.right) x.listed.2 (all x.listed.0 x.equation x.listed.1) in
        of_right x.equation.right p (live_equation x.equation x.listed).right a (ap (λ (z : Rule ReadHead). z.right) x.is ∙ e);
    values = λ rule c op e t h value. let class = value_class (read_classes table rules.classes) op t h value in read_constants class.0 h class.1;
  }
