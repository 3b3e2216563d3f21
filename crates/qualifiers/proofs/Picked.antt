-- The alternatives that are chosen in the choice with a number.
use Rattle.std.proofs.Common.{◌≡◌, ℕ, zero, suc, ◌+◌, ◌*◌, ◌/◌, ◌%◌, ◌<◌, ◌≤◌, ◌⊎◌, false, List, [], ◌∷◌, ◌++◌, length, map, drop, get_or, Some, None, refl, sym, ap, ◌∙◌, subst, arith, eq-eqb, add-one, below_more, length-append, ⊎_elim}
use Rattle.std.specs.Prelude.{Contains, nat_eq, slice_get, slice_index}
use Rattle.std.specs.List.{AllByRecursion, IsDistinct}
use Rattle.std.proofs.Math.Nat.{mod-eq_of_lt, mod-lt, mul-add-div_right, mul-add-mod_self_right, div-add-mod'}
use Rattle.std.proofs.lemmas.Bool.{cases_lt}
use Rattle.std.proofs.lemmas.List.{get_or_append_left, get_or_push, get_or_default}
use Rattle.std.proofs.lemmas.Option.{slice_get_within, slice_get-get_or, get_or_from_slice_get}
use Rattle.eq_base.specs.Tree.{Tree}
use Rattle.eq_base.specs.Pattern.{PatternCell}
use Rattle.eq_base.specs.declared.head.Head.{Head}
use Rattle.eq_base.proofs.Lists.{all_contained}
use Rattle.def_file.specs.declared.definitions.Qualifier.{Qualifier}
use Rattle.def_file.specs.AsRead.{QualifierOf}
use Rattle.qualifiers.specs.Replacing.{Choice, chosen}
use Rattle.qualifiers.specs.Choices.{choices_of}
use Rattle.qualifiers.specs.Held.{qualifier_held, qualifiers_held}
use Rattle.qualifiers.specs.Leading.{variable_of}
use Rattle.qualifiers.specs.Standing.{choice_with, Stands, StandsFor, AreBlocks}
use Rattle.qualifiers.proofs.Members.{contains_map, map_contains, got_map}
use Rattle.qualifiers.proofs.Replacements.{option_cases}
use Rattle.qualifiers.proofs.Chosen.{IsChoiceOf, is_choice, chosen_offered}
use Rattle.qualifiers.proofs.Numbers.{ways, ways_of, length-choices, some_ways, several_ways, next_block, index_within, rest_within, get_more, skip_none}
use Rattle.qualifiers.proofs.Targets.{some_at, listed_at, names_held}

-- one number more at the end of a list, which has these numbers at its places
pub numbers_more : (f : ℕ → ℕ) (xs : List ℕ) (y i : ℕ) (ys : List ℕ) → ys ≡ xs ++ y ∷ [] → length xs ≡ i → ((k : ℕ) → k < i → slice_index xs k ≡ f k) → y ≡ f i → (length ys ≡ i + 1) × ((k : ℕ) → k < i + 1 → slice_index ys k ≡ f k)
numbers_more f xs y i ys is len each here = (
  omega (arith, ap length is, len, length-append xs (y ∷ [])),
  below_more _ i
      (λ k lt. let below : k < length xs = omega (arith, len, lt) in ap (λ l. get_or l k 0) is ∙ get_or_append_left xs (y ∷ []) 0 k below ∙ each k lt)
      (ap (λ l. get_or l i 0) is ∙ get_or_push xs y 0 i len ∙ here),
)

-- a digit of a number in mixed bases is one of the rest that is left of higher ones
digit-rest : (n m o b : ℕ) → 0 < b → n % (m * (o * b)) / b % o ≡ n / b % o
digit-rest n m o b pb =
    let w = m * (o * b) in
    let r = n % w in
    let k = n / w in
    let split : n ≡ k * m * o * b + r = omega (arith, div-add-mod' n w) in
    sym (ap (λ x. x / b % o) split ∙ ap (λ x. x % o) (mul-add-div_right pb (k * m * o) r) ∙ mul-add-mod_self_right (k * m) o (r / b))

module _ {H : Type 0} where
  -- the ways of one of the variables are a part of all
  ways_divide : (qs : List (QualifierOf H)) (i : ℕ) (q : QualifierOf H) → slice_get qs i ≡ Some q → 0 < length q.choices → (m : ℕ) × (ways qs ≡ m * (length q.choices * ways (drop (suc i) qs)))
  ways_divide [] i q is some = cc
  ways_divide (p ∷ ps) zero q is some =
      let same : p ≡ q = cc in
      let e : ways_of p.choices ≡ length q.choices = ap (λ (r : QualifierOf H). ways_of r.choices) same ∙ several_ways q.choices some in
      (1, ap (λ n. n * ways ps) e ∙ omega arith)
  ways_divide (p ∷ ps) (suc i) q is some =
      let (m, e) = ways_divide ps i q is some in
      (ways_of p.choices * m, ap (λ n. ways_of p.choices * n) e ∙ omega arith)

  record FirstOf (p : QualifierOf H) (ps : List (QualifierOf H)) (n : ℕ) (choice : Choice H) : Type 0 where
    pub chosen_first : Tree (PatternCell H)
    pub later : Choice H
    pub got : slice_get p.choices (n / ways ps) ≡ Some chosen_first
    pub rest : slice_get (choices_of ps) (n % ways ps) ≡ Some later
    pub split : choice ≡ (p.variable, chosen_first) ∷ later
    pub below : n / ways ps < length p.choices

  first_of_number : (p : QualifierOf H) (ps : List (QualifierOf H)) (n : ℕ) (choice : Choice H) → slice_get (choices_of (p ∷ ps)) n ≡ Some choice → 0 < length p.choices → FirstOf p ps n choice
  first_of_number p ps n choice is some =
      let block = ways (p ∷ ps) in
      let lt : n < block = omega (arith, slice_get_within (choices_of (p ∷ ps)) n choice is, length-choices (p ∷ ps)) in
      let next : block / length p.choices ≡ ways ps = next_block p ps block n refl lt some in
      let inside : n / ways ps < length p.choices = subst (λ b. n / b < length p.choices) next (index_within p ps block n refl lt some) in
      let left : n % ways ps < ways ps = mod-lt n (some_ways ps) in
      let (a, got) = some_at p.choices (n / ways ps) inside in
      let (later, rest) = some_at (choices_of ps) (n % ways ps) (omega (arith, left, length-choices ps)) in
      let whole = get_more p ps block n refl lt some a later (subst (λ b. slice_get p.choices (n / b) ≡ Some a) (sym next) got) (subst (λ b. slice_get (choices_of ps) (n % b) ≡ Some later) (sym next) rest) in
      let both : Some choice ≡ Some ((p.variable, a) ∷ later) = sym is ∙ whole in
      record { chosen_first = a; later = later; got = got; rest = rest; split = cc; below = inside }

  -- what is chosen for the variable of a place
  pub chosen_at : (qs : List (QualifierOf H)) (n : ℕ) (choice : Choice H) → IsDistinct nat_eq (map (λ (q : QualifierOf H). q.variable) qs) → slice_get (choices_of qs) n ≡ Some choice → (i : ℕ) (q : QualifierOf H) → slice_get qs i ≡ Some q → 0 < length q.choices → (a : Tree (PatternCell H)) → slice_get q.choices (n / ways (drop (suc i) qs) % length q.choices) ≡ Some a → chosen choice q.variable ≡ Some a
  unfolding IsDistinct
  chosen_at [] n choice distinct is i q at some a got = cc
  chosen_at (p ∷ ps) n choice distinct is zero q at some a got =
      let same : q ≡ p = cc in
      let offered = subst (λ (r : QualifierOf H). 0 < length r.choices) same some in
      let f = first_of_number p ps n choice is offered in
      let got' = subst (λ (r : QualifierOf H). slice_get r.choices (n / ways ps % length r.choices) ≡ Some a) same got in
      let both : Some f.chosen_first ≡ Some a = sym f.got ∙ ap (slice_get p.choices) (sym (mod-eq_of_lt f.below)) ∙ got' in
      let it : f.chosen_first ≡ a = cc in
      let here : chosen ((p.variable, f.chosen_first) ∷ f.later) p.variable ≡ Some f.chosen_first = rw (eq-eqb p.variable p.variable refl) refl in
      ap (λ (r : QualifierOf H). chosen choice r.variable) same ∙ ap (λ (l : Choice H). chosen l p.variable) f.split ∙ here ∙ ap Some it
  chosen_at (p ∷ ps) n choice distinct is (suc i) q at some a got =
      let apart : nat_eq p.variable q.variable ≡ false = all_contained (λ y. nat_eq p.variable y ≡ false) (map (λ (r : QualifierOf H). r.variable) ps) q.variable distinct.0 (contains_map (λ (r : QualifierOf H). r.variable) ps q (listed_at ps i q at)) in
      ⊎_elim
      (λ offered.
      let f = first_of_number p ps n choice is offered in
      let (m, e) = ways_divide ps i q at some in
      let digit : n % ways ps / ways (drop (suc i) ps) % length q.choices ≡ n / ways (drop (suc i) ps) % length q.choices =
      ap (λ w. n % w / ways (drop (suc i) ps) % length q.choices) e ∙ digit-rest n m (length q.choices) (ways (drop (suc i) ps)) (some_ways (drop (suc i) ps)) in
      let behind = chosen_at ps (n % ways ps) f.later distinct.1 f.rest i q at some a (ap (slice_get q.choices) digit ∙ got) in
      let skip : chosen ((p.variable, f.chosen_first) ∷ f.later) q.variable ≡ chosen f.later q.variable = rw apart refl in
      ap (λ (l : Choice H). chosen l q.variable) f.split ∙ skip ∙ behind)
      (λ none. chosen_at ps n choice distinct.1 (sym (skip_none p ps n none) ∙ is) i q at some a got)
      (cases_lt 0 (length p.choices))

  -- nothing is chosen for a variable without alternatives
  pub none_at : (qs : List (QualifierOf H)) (choice : Choice H) → IsChoiceOf qs choice → (x : ℕ) → ((q : QualifierOf H) → Contains qs q → q.variable ≡ x → length q.choices ≡ 0) → chosen choice x ≡ None
  none_at qs choice is x none =
      ⊎_elim
      (λ no. no)
      (λ (a, e). let o = chosen_offered qs choice is x a e in absurd (omega (arith, o.offered.1, none o.qualifier o.listed o.named)))
      (option_cases (chosen choice x))

module _ (qs : List Qualifier) (number : ℕ) (lt : number < length (choices_of (qualifiers_held qs))) where
  pub choice_with_is : slice_get (choices_of (qualifiers_held qs)) number ≡ Some (choice_with qs number)
  choice_with_is = slice_get-get_or (choices_of (qualifiers_held qs)) number [] lt

  pub choice_with_listed : Contains (choices_of (qualifiers_held qs)) (choice_with qs number)
  choice_with_listed = (number, lt, get_or_default (choices_of (qualifiers_held qs)) number (choice_with qs number) [] lt)

  pub none_by_place : (x : ℕ) → ((i : ℕ) (q : Qualifier) → slice_get qs i ≡ Some q → q.variable ≡ x → length q.choices ≡ 0) → chosen (choice_with qs number) x ≡ None
  none_by_place x none =
      none_at (qualifiers_held qs) (choice_with qs number) (is_choice (qualifiers_held qs) (choice_with qs number) choice_with_listed) x
      (λ held listed named.
      let (q, (i, below, is), same) = map_contains qualifier_held qs held listed in
      ap (λ (r : QualifierOf Head). length r.choices) (sym same) ∙ none i q (slice_get-get_or qs i q below ∙ ap Some is) (ap (λ (r : QualifierOf Head). r.variable) same ∙ named))

  -- there is a choice of the qualifiers behind a place
  pub block_some : (blocks : List ℕ) → AreBlocks qs blocks → (j : ℕ) → j < length qs → 0 < slice_index blocks j
  block_some blocks are j below = omega (arith, are.each j below, length-choices (drop (j + 1) (qualifiers_held qs)), some_ways (drop (j + 1) (qualifiers_held qs)))

  -- the alternative of the place for which another stands
  pub some_by_place : IsDistinct nat_eq (map variable_of qs) → (blocks : List ℕ) → AreBlocks qs blocks → (i j : ℕ) (s : StandsFor qs i j) → 0 < length s.first.choices → (a : Tree (PatternCell Head)) → slice_get s.second.choices (number / slice_index blocks j % length s.second.choices) ≡ Some a → (z : ℕ) × Stands (choice_with qs number) s.first.variable z × (chosen (choice_with qs number) z ≡ Some a)
  some_by_place distinct blocks are i j s some a got =
      let below = slice_get_within qs j s.second s.at_other in
      let block : slice_index blocks j ≡ ways (drop (suc j) (qualifiers_held qs)) = are.each j below ∙ ap (λ k. length (choices_of (drop k (qualifiers_held qs)))) (add-one j) ∙ length-choices (drop (suc j) (qualifiers_held qs)) in (
        s.second.variable,
        s.always (choice_with qs number) choice_with_listed,
        chosen_at (qualifiers_held qs) number (choice_with qs number) (subst (IsDistinct nat_eq) (sym (names_held qs)) distinct) choice_with_is j (qualifier_held s.second) (got_map qualifier_held qs j s.second s.at_other) (s.offers some) a
            (subst (λ b. slice_get s.second.choices (number / b % length s.second.choices) ≡ Some a) block got),
      )
