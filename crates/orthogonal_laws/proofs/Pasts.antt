-- Which nodes are past the limits: those where the first left side that is met is that of an operation whose value is.
use Rattle.std.proofs.Common.{◌≡◌, ℕ, [], ◌∷◌, cond, eq-eqb, Some, None, Bool, true, false, refl, sym, ◌∙◌, ap, subst, arith, ⊎_elim}
use Rattle.std.specs.Prelude.{slice_get, Contains, IsTrue, IsFalse, slice_index_or, nat_eq}
use Rattle.std.specs.declared.option.Option.{Option}
use Rattle.std.proofs.lemmas.Bool.{cases_lt, eqb-true}
use Rattle.std.proofs.lemmas.Option.{none-some}
use Rattle.eq_base.specs.Tree.{Tree}
use Rattle.eq_base.specs.Pattern.{apply, IsInstanceOf}
use Rattle.eq_base.specs.Rewriting.{operation, Rule, System, IsInstance, Gives}
use Rattle.eq_base.specs.Rules.{right_side, rule_of, system_of}
use Rattle.eq_base.specs.Mapping.{map_pattern, map_right}
use Rattle.eq_base.specs.Meeting.{in_class_of}
use Rattle.eq_base.specs.RuleList.{RuleList}
use Rattle.eq_base.specs.ReadHead.{ReadHead, numeral, text, in_read_class}
use Rattle.eq_base.specs.Operations.{truth, application_value, fits, IsPast}
use Rattle.eq_base.specs.declared.head.Head.{Head}
use Rattle.eq_base.specs.declared.rules.Op.{Op}
use Rattle.eq_base.specs.declared.rules.Op.TheVariants.{AddInt, SubInt, MultInt, DivInt, ModInt, EquInt, LessInt, EquAtom, EquStr, ConcatStr, LengthStr}
use Rattle.eq_base.specs.declared.rules.Right.{Right}
use Rattle.eq_base.specs.declared.rules.Right.TheVariants as rights
use Rattle.eq_base.specs.declared.rules.Equation.{Equation}
use Rattle.eq_base.proofs.Heads.{some_same}
use Rattle.eq_base.proofs.Mapped.{instance-map}
use Rattle.builtin.specs.Values.{IsValue}
use Rattle.builtin.specs.declared.value.Value.{Value}
use Rattle.builtin.specs.declared.value.Value.TheVariants as value
use Rattle.symbol_table.specs.Table.{Table, HasOneNumberEach}
use Rattle.symbol_table.specs.Reading.{read, read_head, read_pattern, read_rule, read_classes, read_system, AreLive, IsLiveEquation, IsLiveTerm}
use Rattle.symbol_table.proofs.Numberings.{read_all, head_for, class-head_for, class-read_all, live-term, live-term_for, live-pattern, live-pattern_for}
use Rattle.sequentiality.specs.Regular.{AreRegular}
use Rattle.orthogonal_laws.specs.Looking.{IsFirstMet}
use Rattle.orthogonal_laws.specs.Operations.{Values}
use Rattle.orthogonal_laws.specs.Orthogonal.{ClashFirst}
use Rattle.orthogonal_laws.proofs.Members.{In, contains-in, in-contains, in-map, map-in, in-get, get-in}
use Rattle.orthogonal_laws.proofs.Nexts.{listed}
use Rattle.orthogonal_laws.proofs.RegularLists.{regular_well_formed, regular_orthogonal}
use Rattle.orthogonal_laws.proofs.Stuck.{not_both}

-- ---- operations by number

abbrev op_number : Op → ℕ
op_number AddInt = 0
op_number SubInt = 1
op_number MultInt = 2
op_number DivInt = 3
op_number ModInt = 4
op_number EquInt = 5
op_number LessInt = 6
op_number EquAtom = 7
op_number EquStr = 8
op_number ConcatStr = 9
op_number LengthStr = 10

abbrev op_at : ℕ → Op
op_at n = slice_index_or (AddInt ∷ SubInt ∷ MultInt ∷ DivInt ∷ ModInt ∷ EquInt ∷ LessInt ∷ EquAtom ∷ EquStr ∷ ConcatStr ∷ LengthStr ∷ []) n AddInt

op_at-number : (op : Op) → op_at (op_number op) ≡ op
op_at-number AddInt = refl
op_at-number SubInt = refl
op_at-number MultInt = refl
op_at-number DivInt = refl
op_at-number ModInt = refl
op_at-number EquInt = refl
op_at-number LessInt = refl
op_at-number EquAtom = refl
op_at-number EquStr = refl
op_at-number ConcatStr = refl
op_at-number LengthStr = refl

-- one operation has this value, and no other has one
abbrev one_value : Op → Tree Head → Values
one_value op u o t = cond (nat_eq (op_number o) (op_number op)) (Some u) None

same_number : (o op : Op) (u v : Tree Head) → cond (nat_eq (op_number o) (op_number op)) (Some u) None ≡ Some v → o ≡ op
same_number o op u v e = by_test (nat_eq (op_number o) (op_number op)) (eqb-true (op_number o) (op_number op)) e
  where
    by_test : (b : Bool) → (b ≡ true → op_number o ≡ op_number op) → cond b (Some u) None ≡ Some v → o ≡ op
    by_test true same e = sym (op_at-number o) ∙ ap op_at (same refl) ∙ op_at-number op
    by_test false same e = absurd (none-some v e)

-- ---- two equations that a term meets have the same right side, whatever the values of operations

module _ (rules : RuleList) (regular : AreRegular rules) (t : Tree Head) (values : Values) where
  abbrev system : System Head
  system = system_of values rules

  clash : (d e : Equation) → Contains system.rules (rule_of d) → Contains system.rules (rule_of e) → IsInstanceOf (in_class_of rules.classes) d.left t → IsInstanceOf (in_class_of rules.classes) e.left t → ClashFirst (in_class_of rules.classes) d.left e.left → ⊥
  clash d e is is' m m' c =
      let w = regular_well_formed values rules regular in
      not_both (in_class_of rules.classes) d.left e.left t (w.patterns (rule_of d) is) (w.patterns (rule_of e) is') m m' c

  there : (i : ℕ) (d : Equation) → slice_get rules.equations i ≡ Some d → Contains system.rules (rule_of d)
  there i d is = in-contains (in-map rule_of (get-in rules.equations i d is))

  same_instance : (i j : ℕ) (d e : Equation) → slice_get rules.equations i ≡ Some d → slice_get rules.equations j ≡ Some e → IsInstanceOf (in_class_of rules.classes) d.left t → IsInstanceOf (in_class_of rules.classes) e.left t → (u : Tree Head) → IsInstance system (rule_of d) t u → IsInstance system (rule_of e) t u
  same_instance i j d e is is' m m' u x =
      let o = regular_orthogonal values rules regular in
      ⊎_elim
      (λ below. ⊎_elim (λ c. absurd (clash d e (there i d is) (there j e is') m m' c)) (λ same. (same.1 t m m' u).0 x) (o.roots i j (rule_of d) (rule_of e) below (listed rules i d is) (listed rules j e is')))
      (λ past.
      ⊎_elim
      (λ below. ⊎_elim (λ c. absurd (clash e d (there j e is') (there i d is) m' m c)) (λ same. (same.1 t m' m u).1 x) (o.roots j i (rule_of e) (rule_of d) below (listed rules j e is') (listed rules i d is)))
      (λ past'.
      let k : i ≡ j = omega (arith, past, past') in
      subst (λ e. IsInstance system (rule_of e) t u) (some_same d e (sym is ∙ ap (slice_get rules.equations) k ∙ is')) x)
      (cases_lt j i))
      (cases_lt i j)

module _ (rules : RuleList) (regular : AreRegular rules) (t : Tree Head) where
  -- beside an operation that is met, what is met is the same operation
  same_operation : (i j : ℕ) (d e : Equation) → slice_get rules.equations i ≡ Some d → slice_get rules.equations j ≡ Some e → IsInstanceOf (in_class_of rules.classes) d.left t → IsInstanceOf (in_class_of rules.classes) e.left t → (op : Op) → e.right ≡ rights.Schema op → (right : Right) → d.right ≡ right → right ≡ rights.Schema op
  same_operation i j d e is is' m m' op e_is (rights.Tree p) d_is =
      let values : Values = λ o t. None in
      let x : IsInstance (system_of values rules) (rule_of d) t (apply m.substitution p) = record { left = m; right = subst (λ r. Gives (system_of values rules) m.substitution (right_side r) t (apply m.substitution p)) (sym d_is) refl } in
      let y = same_instance rules regular t values i j d e is is' m m' (apply m.substitution p) x in
      absurd (none-some (apply m.substitution p) (subst (λ r. Gives (system_of values rules) y.left.substitution (right_side r) t (apply m.substitution p)) e_is y.right))
  same_operation i j d e is is' m m' op e_is (rights.Schema o) d_is =
      let values = one_value op t in
      let has : one_value op t op t ≡ Some t = ap (λ b. cond b (Some t) None) (eq-eqb (op_number op) (op_number op) refl) in
      let x : IsInstance (system_of values rules) (rule_of e) t t = record { left = m'; right = subst (λ r. Gives (system_of values rules) m'.substitution (right_side r) t t) (sym e_is) has } in
      let y = same_instance rules regular t values j i e d is' is m' m t x in
      ap rights.Schema (same_number o op t t (subst (λ r. Gives (system_of values rules) y.left.substitution (right_side r) t t) d_is y.right))

-- ---- as it is read

module _ (table : Table) (one : HasOneNumberEach table) (rules : RuleList) (live : AreLive table rules) (t : Tree Head) (live_term : IsLiveTerm table t) where
  live_equation : (e : Equation) → In rules.equations e → IsLiveEquation table e
  live_equation e i = let c = in-contains i in subst (λ e. IsLiveEquation table e) c.2 (live.equations c.0 e c.1)

  read_instance : (e : Equation) → In rules.equations e → IsInstanceOf (in_class_of rules.classes) e.left t → IsInstanceOf (in_read_class (read_classes table rules.classes)) (read_pattern table e.left) (read table t)
  read_instance e i m =
      subst (λ p. IsInstanceOf (in_read_class (read_classes table rules.classes)) p (read table t)) (live-pattern table one e.left (live_equation e i).left)
      (subst (λ s. IsInstanceOf (in_read_class (read_classes table rules.classes)) (map_pattern (read_all table) e.left) s) (live-term table one t live_term) (instance-map (read_all table) (in_class_of rules.classes) (in_read_class (read_classes table rules.classes)) (class-read_all table one rules.classes live.classes) e.left t m))

  number_instance : (e : Equation) → In rules.equations e → IsInstanceOf (in_read_class (read_classes table rules.classes)) (read_pattern table e.left) (read table t) → IsInstanceOf (in_class_of rules.classes) e.left t
  number_instance e i m =
      subst (λ p. IsInstanceOf (in_class_of rules.classes) p t) (live-pattern_for table one e.left (live_equation e i).left)
      (subst (λ s. IsInstanceOf (in_class_of rules.classes) (map_pattern (head_for table) (read_pattern table e.left)) s) (live-term_for table one t live_term) (instance-map (head_for table) (in_read_class (read_classes table rules.classes)) (in_class_of rules.classes) (class-head_for table one rules.classes live.classes) (read_pattern table e.left) (read table t) m))

  -- an operation that is met and whose value is past the limits
  pub past_read : (n : ℕ) (e : Equation) → slice_get rules.equations n ≡ Some e → IsInstanceOf (in_class_of rules.classes) e.left t → (op : Op) → e.right ≡ rights.Schema op → (h : ReadHead) → application_value op (read table t) ≡ Some h → IsFalse (fits h) → IsPast (read_system table rules) (read table t)
  past_read n e is m op right h value past = record {
    rule = read_rule table e;
    listed = in-contains (in-map (read_rule table) (get-in rules.equations n e is));
    op = op;
    is_operation = ap (λ r. map_right (read_head table) (right_side r)) right;
    applied = read_instance e (get-in rules.equations n e is) m;
    value = h;
    has_value = value;
    past = past;
  }

  operation_of : (right : Right) (op : Op) → map_right (read_head table) (right_side right) ≡ operation op → right ≡ rights.Schema op
  operation_of (rights.Tree p) op e = absurd (cc)
  operation_of (rights.Schema o) op e = let same : o ≡ op = cc in ap rights.Schema same

  -- what a part that is past the limits is: an equation of an operation that is met
  pub record IsMetPast : Type 0 where
    pub number : ℕ
    pub equation : Equation
    pub listed : slice_get rules.equations number ≡ Some equation
    pub met : IsInstanceOf (in_class_of rules.classes) equation.left t
    pub op : Op
    pub right : equation.right ≡ rights.Schema op
    pub value : ReadHead
    pub has_value : application_value op (read table t) ≡ Some value
    pub past : IsFalse (fits value)

  pub met_past : IsPast (read_system table rules) (read table t) → IsMetPast
  met_past p =
      let x = map-in (read_rule table) rules.equations p.rule (contains-in p.listed) in
      let y = in-get x.1 in
      record {
        number = y.0;
        equation = x.0;
        listed = y.1;
        met = number_instance x.0 x.1 (subst (λ (r : Rule ReadHead). IsInstanceOf (in_read_class (read_classes table rules.classes)) r.left (read table t)) (sym x.2) p.applied);
        op = p.op;
        right = operation_of x.0.right p.op (subst (λ (r : Rule ReadHead). r.right ≡ operation p.op) (sym x.2) p.is_operation);
        value = p.value;
        has_value = p.has_value;
        past = p.past;
      }

  module _ (regular : AreRegular rules) (number : ℕ) (m : IsFirstMet rules number t) where
    -- then the first left side that is met is that of the same operation
    pub first_past_met : (p : IsMetPast) → m.equation.right ≡ rights.Schema p.op
    first_past_met p = same_operation rules regular t number p.number m.equation p.equation m.listed p.listed m.met p.met p.op p.right m.equation.right refl

-- ---- what is answered

both_fits : (g h : ReadHead) → IsTrue (fits g) → IsFalse (fits h) → g ≡ h → ⊥
both_fits g h is isnt e = absurd (let same = ap fits e in cc)

-- a value past the limits is answered by that alone
pub past_value : (v : Value) (o : Option ReadHead) (h : ReadHead) → IsValue o v → o ≡ Some h → IsFalse (fits h) → v ≡ value.Past
past_value (value.Numeral i) o h is e past = absurd (both_fits (numeral i) h is.1 past (some_same (numeral i) h (sym is.0 ∙ e)))
past_value (value.Truth t) o h is e past = absurd (both_fits (truth t) h is.1 past (some_same (truth t) h (sym is.0 ∙ e)))
past_value value.Join o h is e past = absurd (both_fits (text is.0) h is.1.1 past (some_same (text is.0) h (sym is.1.0 ∙ e)))
past_value value.NoEquation o h is e past = absurd (none-some h (sym is ∙ e))
past_value value.Past o h is e past = refl
