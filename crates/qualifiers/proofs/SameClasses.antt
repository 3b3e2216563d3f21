-- In the equations of an expansion each variable stands with one class on both sides; so instances are root steps.
use Rattle.std.proofs.Common.{ℕ, List, [], ◌∷◌, ◌++◌, map, length, Option, refl, sym, ap, ◌∙◌, subst, ◌↔◌}
use Rattle.std.specs.Prelude.{Contains, Some}
use Rattle.std.specs.List.{AllByRecursion}
use Rattle.std.proofs.lemmas.List.Elements.{Contains-append_left, Contains-append_right}
use Rattle.std.proofs.lemmas.Option.{slice_get-get_or, slice_get_within, get_or_from_slice_get}
use Rattle.eq_base.specs.Tree.{Tree, Forest, node, empty, grow}
use Rattle.eq_base.specs.Pattern.{PatternCell, fixed, variable, restricted, variables, all_variables, Classes}
use Rattle.eq_base.specs.Testing.{IsPattern, ArePatterns}
use Rattle.eq_base.specs.Rewriting.{RightSide, pattern, operation, Rule, System, IsInstance, RootStep}
use Rattle.eq_base.specs.declared.rules.Op.{Op}
use Rattle.eq_base.proofs.Lists.{all_both, all_contained}
use Rattle.symbol_table.specs.Table.{Table}
use Rattle.def_file.specs.AsRead.{EquationOf, ItemOf, Equation, Class, NumberedOf, DefinitionsOf}
use Rattle.qualifiers.specs.Replacing.{Replacement, Choice, replace, replace_all}
use Rattle.qualifiers.specs.Choices.{HaveNoCircle, choices_of}
use Rattle.qualifiers.specs.Instances.{parts_of}
use Rattle.qualifiers.specs.Classes.{HasClasses, IsProper, IsProperItem, AreProper}
use Rattle.qualifiers.specs.Equations.{Unnumbered, IsOfChoice, IsInstanceOfSides, HaveInstance}
use Rattle.qualifiers.specs.Expansion.{PlainEquation, unnumbered, HasNoCircle, Gives, Expands, IsExpansion}
use Rattle.qualifiers.proofs.Members.{contains_first, map_contains, contains_map, all_of, got_map, map_got}
use Rattle.qualifiers.proofs.Respecting.{respects_over}
use Rattle.qualifiers.proofs.Replacements.{by_choice, made_chosen, made_free}
use Rattle.qualifiers.proofs.Chosen.{is_choice, no_circle, chosen_part}
use Rattle.qualifiers.proofs.Instances.{left_classes, right_classes, side_classes}
use Rattle.qualifiers.proofs.Theorem.{related_from}

module _ {H : Type 0} where
  -- ---- replaced patterns

  -- a pattern whose variables are replaced by patterns is one
  mutual
    pattern-replace : (θ : Replacement H) (p : Tree (PatternCell H)) → IsPattern p → ((x : ℕ) → Contains (variables p) x → IsPattern (θ x)) → IsPattern (replace θ p)
    pattern-replace θ (node (fixed h) ps) is each = patterns-replace θ ps is each
    pattern-replace θ (node (variable x) ps) is each = each x (contains_first x [])
    pattern-replace θ (node (restricted x class) ps) is each = is

    patterns-replace : (θ : Replacement H) (ps : Forest (PatternCell H)) → ArePatterns ps → ((x : ℕ) → Contains (all_variables ps) x → IsPattern (θ x)) → ArePatterns (replace_all θ ps)
    patterns-replace θ empty is each = tt
    patterns-replace θ (grow p ps) is each = (
      pattern-replace θ p is.0 (λ x c. each x (Contains-append_left (variables p) (all_variables ps) x c)),
      patterns-replace θ ps is.1 (λ x c. each x (Contains-append_right (variables p) (all_variables ps) x c)),
    )

  -- ---- the sides of equations

  -- variables have no arguments on the left side, and each stands with its class on both, if it has one
  pub record AreProperSides (left right : Tree (PatternCell H)) : Type 0 where
    pub is_pattern : IsPattern left
    pub class_of : ℕ → Option ℕ
    pub left_classes : HasClasses class_of left
    pub right_classes : HasClasses class_of right

  -- the rule has such sides; an operation has no variables
  abbrev pub IsProperRule : Tree (PatternCell H) → RightSide H → Type 0
  IsProperRule left (pattern right) = AreProperSides left right
  IsProperRule left (operation op) = Unit {0}

  -- the variables of a right side stand on the left side
  abbrev pub StandOnLeft : Tree (PatternCell H) → RightSide H → Type 0
  StandOnLeft left (pattern right) = (x : ℕ) → Contains (variables right) x → Contains (variables left) x
  StandOnLeft left (operation op) = Unit {0}

  -- the equation has proper sides
  abbrev IsProperOne : Unnumbered H → Type 0
  IsProperOne e = IsProperRule e.rule.left e.rule.right

  -- ---- the equations of an expansion have proper sides

  module _ (in_class : Classes H) (w : EquationOf H) {count : ℕ} (proper : IsProper count w) (none : HaveNoCircle w.qualifiers) where
    -- the equation of a choice
    choice_proper : (number : ℕ) (choice : Choice H) → Contains (choices_of w.qualifiers) choice → (e : Unnumbered H) → IsOfChoice w number choice e → IsProperOne e
    choice_proper number choice listed e of =
        let is = is_choice w.qualifiers choice listed in
        let grounded = no_circle w.qualifiers choice is none in
        let θ = of.replacement in
        let each : (x : ℕ) → IsPattern (θ x) = by_choice choice grounded (λ x. IsPattern (θ x))
        (λ x free. subst IsPattern (sym (made_free choice grounded θ of.makes x free)) refl)
        (λ x a chosen_is below. subst IsPattern (sym (made_chosen choice grounded θ of.makes x a chosen_is)) (pattern-replace θ a (all_contained IsPattern (parts_of w) a proper.patterns (chosen_part w choice is x a chosen_is)) below)) in
        let classes = side_classes in_class w proper none choice is θ of.makes in
        let sides : AreProperSides (replace θ w.left) (replace θ w.right) = record {
          is_pattern = pattern-replace θ w.left proper.patterns.0 (λ x c. each x);
          class_of = proper.class_of;
          left_classes = classes w.left (left_classes in_class w proper none);
          right_classes = classes w.right (right_classes in_class w proper none);
        } in
        subst IsProperOne (sym of.is) sides

  module _ (symbol_head : ℕ → H) (in_class : Classes H) (count : ℕ) (table : Table) where
    -- the equations of an item
    given_proper : (number : ℕ) (i : ItemOf H) (es : List (Unnumbered H)) → IsProperItem count table i → HasNoCircle i → Gives symbol_head table number i es → AllByRecursion IsProperOne es
    given_proper number (Equation w) es proper none gives =
        all_of IsProperOne es (λ e listed.
        let (choice, from, of) = related_from (IsOfChoice w number) (choices_of w.qualifiers) es gives e listed in
        choice_proper in_class w proper none number choice from e of)
    given_proper number (Class op byte) es proper none (e, of, is) =
        subst (AllByRecursion IsProperOne) (sym is) (subst IsProperOne (sym of.is) tt, tt)

    -- those of one item after another
    expanded_proper : (before : List (Unnumbered H)) (ns : List (NumberedOf H)) (es : List (Unnumbered H)) → AllByRecursion (λ (n : NumberedOf H). IsProperItem count table n.item) ns → Expands symbol_head table before ns es → AllByRecursion IsProperOne es
    expanded_proper before [] es proper is = subst (AllByRecursion IsProperOne) (sym is) tt
    expanded_proper before (n ∷ ns) es proper (front, back, split, adds, rest) =
        subst (AllByRecursion IsProperOne) (sym split)
        (all_both IsProperOne front back (given_proper n.number n.item front proper.0 adds.no_circle adds.gives) (expanded_proper (before ++ front) ns back proper.1 rest))

  -- each equation of an expansion has proper sides
  pub expansion_proper : (symbol_head : ℕ → H) (in_class : Classes H) (d : DefinitionsOf H) (equations : List (PlainEquation H)) → AreProper d → IsExpansion symbol_head d equations → (e : PlainEquation H) → Contains equations e → IsProperRule e.rule.left e.rule.right
  expansion_proper symbol_head in_class d equations proper is e listed =
      all_contained IsProperOne (map unnumbered equations) (unnumbered e)
      (expanded_proper symbol_head in_class (length d.classes) d.names [] d.items (map unnumbered equations) proper.items is.expands)
      (contains_map unnumbered equations e listed)

  -- ---- instances and root steps

  module _ (value_of : Op → Tree H → Option (Tree H)) (in_class : Classes H) where
    -- the rules of equations, with these classes and values
    abbrev pub system_of : List (PlainEquation H) → System H
    system_of equations =
        record { rules = map (λ (e : PlainEquation H). e.rule) equations; in_class = in_class; value_of = value_of }

    module _ (equations : List (PlainEquation H)) (t u : Tree H) where
      -- an instance of both sides is one of the rule
      sides_instance : (left : Tree (PatternCell H)) (right : RightSide H) → IsInstanceOfSides value_of in_class left right t u → IsInstance (system_of equations) (record { left = left; right = right }) t u
      sides_instance left (pattern right) i = record {
        left = record { substitution = i.substitution; respects = i.left_classes; applied = i.left_value };
        right = i.right_value;
      }
      sides_instance left (operation op) (fits, value) = record { left = fits; right = value }

      -- an instance of the rule is one of both sides, since the left classes are all that there are
      instance_sides : (left : Tree (PatternCell H)) (right : RightSide H) → IsProperRule left right → StandOnLeft left right → IsInstance (system_of equations) (record { left = left; right = right }) t u → IsInstanceOfSides value_of in_class left right t u
      instance_sides left (pattern right) proper over i = record {
        substitution = i.left.substitution;
        left_classes = i.left.respects;
        right_classes = respects_over in_class proper.class_of i.left.substitution left right proper.left_classes proper.right_classes over i.left.respects;
        left_value = i.left.applied;
        right_value = i.right;
      }
      instance_sides left (operation op) proper over i = (i.left, i.right)

      -- the instances of equations are the root steps by their rules, where each has proper sides, with no variable
      -- on the right alone
      pub instances_are_steps : ((e : PlainEquation H) → Contains equations e → IsProperRule e.rule.left e.rule.right) → ((e : PlainEquation H) → Contains equations e → StandOnLeft e.rule.left e.rule.right) → HaveInstance value_of in_class (map unnumbered equations) t u ↔ RootStep (system_of equations) t u
      instances_are_steps proper over = (
        λ (d, listed, instance).
            let (e, place, is) = map_contains unnumbered equations d listed in
            let k = place.0 in
            let at = slice_get-get_or equations k e place.1 ∙ ap (λ z. Some z) place.2 in
            let same = subst (λ (c : Unnumbered H). IsInstanceOfSides value_of in_class c.rule.left c.rule.right t u) (sym is) instance in
            (k, record { rule = e.rule; listed = got_map (λ (c : PlainEquation H). c.rule) equations k e at; is_instance = sides_instance e.rule.left e.rule.right same }),
        λ (k, by).
            let (e, at, is) = map_got (λ (c : PlainEquation H). c.rule) equations k by.rule by.listed in
            let listed : Contains equations e = (k, slice_get_within equations k e at, get_or_from_slice_get equations k e e at) in
            let same = subst (λ (r : Rule H). IsInstance (system_of equations) r t u) (sym is) by.is_instance in
            (unnumbered e, contains_map unnumbered equations e listed, instance_sides e.rule.left e.rule.right (proper e listed) (over e listed) same),
      )
