-- What equations break is what they break as they are read, whatever numbers their atoms and strings have,
-- and however they are kept.
use Rattle.std.proofs.Common.{◌≡◌, ℕ, zero, suc, List, [], ◌∷◌, map, Some, refl, sym, ◌∙◌, ap, subst}
use Rattle.std.specs.Prelude.{◌↔◌, slice_get, option_map}
use Rattle.std.proofs.lemmas.Option.{slice_get-map, slice_get_within, get_or_from_slice_get}
use Rattle.eq_base.specs.Pattern.{Classes}
use Rattle.eq_base.specs.Rewriting.{Rule}
use Rattle.eq_base.specs.Rules.{rule_of}
use Rattle.eq_base.specs.Meeting.{in_class_of}
use Rattle.eq_base.specs.RuleList.{RuleList}
use Rattle.eq_base.specs.ReadHead.{ReadHead, in_read_class}
use Rattle.eq_base.specs.declared.head.Head.{Head}
use Rattle.eq_base.specs.declared.rules.Equation.{Equation}
use Rattle.eq_base.proofs.Heads.{some_same}
use Rattle.eq_base.proofs.Mapped.{rule-own}
use Rattle.symbol_table.specs.Table.{Table, HasOneNumberEach}
use Rattle.symbol_table.specs.Reading.{read_rule, read_classes, IsLiveEquation, AreLive}
use Rattle.symbol_table.proofs.Numberings.{read_all, head_for, class-read_all, class-head_for, live-rule, live-rule_for}
use Rattle.regularity.specs.declared.breaks.Break.{Break}
use Rattle.regularity.specs.Listing.{Lists}
use Rattle.regularity.proofs.Alike.{AreSameBut, AreAlike}
use Rattle.sequentiality.specs.Restrictions.{IsViolation}
use Rattle.sequentiality.proofs.Alike.{violations_alike, lists_alike}

-- ---- equations by number, and as they are read

module _ (table : Table) (one : HasOneNumberEach table) (rules : RuleList)
    (live : AreLive table rules) where
  live_at : (k : ℕ) (e : Equation) → slice_get rules.equations k ≡ Some e → IsLiveEquation table e
  live_at k e listed =
      subst (IsLiveEquation table) (get_or_from_slice_get rules.equations k e e listed)
      (live.equations k e (slice_get_within rules.equations k e listed))

  same_read : (e : Equation) → IsLiveEquation table e →
      AreSameBut (read_all table) (head_for table) (rule_of e) (read_rule table e)
  same_read e l = record { to = live-rule table one e l; back = live-rule_for table one e l }

  same_number : (e : Equation) → IsLiveEquation table e →
      AreSameBut (head_for table) (read_all table) (read_rule table e) (rule_of e)
  same_number e l = record { to = live-rule_for table one e l; back = live-rule table one e l }

  abbrev in_numbers : Classes Head
  in_numbers = in_class_of rules.classes

  abbrev in_read : Classes ReadHead
  in_read = in_read_class (read_classes table rules.classes)

  read_alike : AreAlike (read_all table) (head_for table) in_numbers in_read rule_of
      (read_rule table) rules.equations rules.equations
  read_alike = record {
    classes = class-read_all table one rules.classes live.classes;
    classes_back = class-head_for table one rules.classes live.classes;
    to = λ k e listed. (e, listed, same_read e (live_at k e listed));
    back = λ k e listed. (e, listed, same_number e (live_at k e listed));
  }

  -- equations break the same by number and as they are read
  pub violations_read : (b : Break) →
      IsViolation (in_class_of rules.classes) rule_of rules.equations b
      ↔ IsViolation (in_read_class (read_classes table rules.classes)) (read_rule table) rules.equations b
  violations_read =
      violations_alike (read_all table) (head_for table) in_numbers in_read rule_of
      (read_rule table) rules.equations rules.equations read_alike

  -- and the lists of what they break are the same
  pub lists_violations_read : (breaks : List Break) →
      Lists (IsViolation (in_class_of rules.classes) rule_of rules.equations) breaks
      ↔ Lists (IsViolation (in_read_class (read_classes table rules.classes)) (read_rule table)
      rules.equations) breaks
  lists_violations_read =
      lists_alike (read_all table) (head_for table) in_numbers in_read rule_of
      (read_rule table) rules.equations rules.equations read_alike

-- ---- equations kept otherwise, with the same rules

-- what is listed after a map was listed before it
listed_unmap : {E D : Type 0} (f : E → D) (es : List E) (k : ℕ) (d : D) → slice_get (map f es) k ≡ Some d →
    (e : E) × (slice_get es k ≡ Some e) × (f e ≡ d)
listed_unmap f [] k d listed = absurd (cc)
listed_unmap f (e ∷ es) zero d listed = (e, refl, some_same (f e) d listed)
listed_unmap f (e ∷ es) (suc k) d listed = listed_unmap f es k d listed

-- for each equation of one list there is one of the other with the same rule
with_same_rule : {H E D : Type 0} (rule : E → Rule H) (other_rule : D → Rule H) (es : List E) (ds : List D) →
    map rule es ≡ map other_rule ds → (k : ℕ) (e : E) → slice_get es k ≡ Some e →
    (d : D) × (slice_get ds k ≡ Some d) × AreSameBut (λ (h : H). h) (λ (h : H). h) (rule e) (other_rule d)
with_same_rule rule other_rule es ds same k e listed =
    let there : slice_get (map other_rule ds) k ≡ Some (rule e) =
    ap (λ rs. slice_get rs k) (sym same) ∙ slice_get-map rule es k ∙ ap (option_map rule) listed in
    let w = listed_unmap other_rule ds k (rule e) there in
    (w.0, w.1, record { to = rule-own (rule e) ∙ sym w.2; back = rule-own (other_rule w.0) ∙ w.2 })

module _ {H E D : Type 0} (in_class : Classes H) (rule : E → Rule H) (other_rule : D → Rule H) (es : List E)
    (ds : List D) (same : map rule es ≡ map other_rule ds) where
  rules_alike : AreAlike (λ (h : H). h) (λ (h : H). h) in_class in_class rule other_rule es ds
  rules_alike = record {
    classes = λ class h. refl;
    classes_back = λ class h. refl;
    to = with_same_rule rule other_rule es ds same;
    back = with_same_rule other_rule rule ds es (sym same);
  }

  -- equations with the same rules break the same, however they are kept
  pub violations_of_rules : (b : Break) →
      IsViolation in_class rule es b ↔ IsViolation in_class other_rule ds b
  violations_of_rules =
      violations_alike (λ (h : H). h) (λ (h : H). h) in_class in_class rule other_rule es ds rules_alike

  -- and the lists of what they break are the same
  pub lists_violations_of_rules : (breaks : List Break) →
      Lists (IsViolation in_class rule es) breaks ↔ Lists (IsViolation in_class other_rule ds) breaks
  lists_violations_of_rules =
      lists_alike (λ (h : H). h) (λ (h : H). h) in_class in_class rule other_rule es ds rules_alike

module _ {H E D : Type 0} (in_class : Classes H) (rule : E → Rule H) (other_rule : D → Rule H) (f : E → D)
    (same : (e : E) → other_rule (f e) ≡ rule e) where
  mapped_rules : (es : List E) → map rule es ≡ map other_rule (map f es)
  mapped_rules [] = refl
  mapped_rules (e ∷ es) = rw (same e, sym (mapped_rules es)) refl

  module _ (equations : List E) where
    -- equations break the same as what is made of them one by one, with the same rules
    pub violations_mapped : (b : Break) →
        IsViolation in_class rule equations b ↔ IsViolation in_class other_rule (map f equations) b
    violations_mapped =
        violations_of_rules in_class rule other_rule equations (map f equations) (mapped_rules equations)

    -- and the lists of what they break are the same
    pub lists_violations_mapped : (breaks : List Break) →
        Lists (IsViolation in_class rule equations) breaks
        ↔ Lists (IsViolation in_class other_rule (map f equations)) breaks
    lists_violations_mapped =
        lists_violations_of_rules in_class rule other_rule equations (map f equations)
        (mapped_rules equations)
