-- What holds of each equation of an expansion.
use Rattle.std.proofs.Common.{ℕ, List, [], ◌∷◌, ◌++◌, sym, ap, ◌∙◌, subst, arith, append-nil, append_assoc}
use Rattle.std.specs.Prelude.{Contains}
use Rattle.std.specs.List.{AllByRecursion}
use Rattle.eq_base.specs.Tree.{Tree, node, empty}
use Rattle.eq_base.specs.Pattern.{PatternCell, variable, variables}
use Rattle.eq_base.specs.Rewriting.{RightSide, pattern, operation}
use Rattle.eq_base.proofs.Lists.{all_both, all_contained}
use Rattle.symbol_table.specs.Table.{Table}
use Rattle.def_file.specs.AsRead.{EquationOf, ItemOf, NumberedOf}
use Rattle.qualifiers.specs.Replacing.{Replacement, Choice, replace, Makes}
use Rattle.qualifiers.specs.Choices.{HaveNoCircle, choices_of}
use Rattle.qualifiers.specs.Instances.{parts_of}
use Rattle.qualifiers.specs.Equations.{Unnumbered, IsOfChoice, AreOfChoices}
use Rattle.qualifiers.specs.Expansion.{HasNoCircle, AreWithin, Gives, Expands}
use Rattle.qualifiers.proofs.Members.{all_of}
use Rattle.qualifiers.proofs.Replacements.{by_choice, made_chosen, made_free}
use Rattle.qualifiers.proofs.Chosen.{IsChoiceOf, is_choice, no_circle, chosen_part}
use Rattle.qualifiers.proofs.Theorem.{related_from}

module _ {H : Type 0} where
  -- ---- the equations of a written one

  -- each is that of some choice
  pub each_choice : (P : Unnumbered H → Type 0) (w : EquationOf H) (number : ℕ) (es : List (Unnumbered H)) → ((choice : Choice H) (e : Unnumbered H) → IsChoiceOf w.qualifiers choice → IsOfChoice w number choice e → P e) → AreOfChoices w number es → AllByRecursion P es
  each_choice P w number es each are =
      all_of P es
      (λ e listed.
      let (choice, from, of) = related_from (IsOfChoice w number) (choices_of w.qualifiers) es are e listed in
      each choice e (is_choice w.qualifiers choice from) of)

  -- variables have the property, and so has a pattern that has it, its variables replaced by such
  pub record IsKept (P : Tree (PatternCell H) → Type 0) : Type 0 where
    pub of_variable : (x : ℕ) → P (node (variable x) empty)
    pub of_replaced : (θ : Replacement H) (p : Tree (PatternCell H)) → P p → ((x : ℕ) → Contains (variables p) x → P (θ x)) → P (replace θ p)

  -- the right side is an operation, or has the property
  abbrev pub OnRight : (Tree (PatternCell H) → Type 0) → RightSide H → Type 0
  OnRight P (pattern p) = P p
  OnRight P (operation op) = Unit {0}

  -- both sides have the property
  abbrev pub OnSides : (Tree (PatternCell H) → Type 0) → Unnumbered H → Type 0
  OnSides P e = P e.rule.left × OnRight P e.rule.right

  module _ (P : Tree (PatternCell H) → Type 0) (kept : IsKept P) (w : EquationOf H) (none : HaveNoCircle w.qualifiers) (parts : AllByRecursion P (parts_of w)) where
    -- what each part has, each pattern has that replaces a variable
    replacement_keeps : (choice : Choice H) → IsChoiceOf w.qualifiers choice → (θ : Replacement H) → Makes choice θ → (x : ℕ) → P (θ x)
    replacement_keeps choice is θ makes =
        let grounded = no_circle w.qualifiers choice is none in
        by_choice choice grounded (λ x. P (θ x))
        (λ x free. subst P (sym (made_free choice grounded θ makes x free)) (kept.of_variable x))
        (λ x a e below. subst P (sym (made_chosen choice grounded θ makes x a e)) (kept.of_replaced θ a (all_contained P (parts_of w) a parts (chosen_part w choice is x a e)) below))

    -- and so have the sides of each equation
    pub choice_keeps : (number : ℕ) (choice : Choice H) (e : Unnumbered H) → IsChoiceOf w.qualifiers choice → IsOfChoice w number choice e → OnSides P e
    choice_keeps number choice e is of =
        let θ = of.replacement in
        let each = replacement_keeps choice is θ of.makes in
        subst (OnSides P) (sym of.is) (kept.of_replaced θ w.left parts.0 (λ x c. each x), kept.of_replaced θ w.right parts.1.0 (λ x c. each x))

    pub choices_keep : (number : ℕ) (es : List (Unnumbered H)) → AreOfChoices w number es → AllByRecursion (OnSides P) es
    choices_keep number es are = each_choice (OnSides P) w number es (choice_keeps number) are

  -- ---- one item after another

  module _ (symbol_head : ℕ → H) (table : Table) where
    -- what the equations of each item have
    pub each_expanded : (P : Unnumbered H → Type 0) (Q : ItemOf H → Type 0) → ((number : ℕ) (i : ItemOf H) (es : List (Unnumbered H)) → Q i → HasNoCircle i → Gives symbol_head table number i es → AllByRecursion P es)
        → (before : List (Unnumbered H)) (ns : List (NumberedOf H)) (es : List (Unnumbered H)) → AllByRecursion (λ (n : NumberedOf H). Q n.item) ns → Expands symbol_head table before ns es → AllByRecursion P es
    each_expanded P Q each before [] es have is = subst (AllByRecursion P) (sym is) tt
    each_expanded P Q each before (n ∷ ns) es have (front, back, split, adds, rest) =
        subst (AllByRecursion P) (sym split)
        (all_both P front back (each n.number n.item front have.0 adds.no_circle adds.gives) (each_expanded P Q each (before ++ front) ns back have.1 rest))

    -- the equations are within the limits
    pub expanded_within : (before : List (Unnumbered H)) (ns : List (NumberedOf H)) (es : List (Unnumbered H)) → AreWithin before → Expands symbol_head table before ns es → AreWithin (before ++ es)
    expanded_within before [] es within is = subst AreWithin (sym (ap (λ l. before ++ l) is ∙ append-nil before)) within
    expanded_within before (n ∷ ns) es within (front, back, split, adds, rest) =
        subst AreWithin (append_assoc before front back ∙ ap (λ l. before ++ l) (sym split))
        (expanded_within (before ++ front) ns back adds.limits.within rest)

    pub all_within : (ns : List (NumberedOf H)) (es : List (Unnumbered H)) → Expands symbol_head table [] ns es → AreWithin es
    all_within ns es is = expanded_within [] ns es (record { few = omega arith; each = tt; left = omega arith; right = omega arith }) is
