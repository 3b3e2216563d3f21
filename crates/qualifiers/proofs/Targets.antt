-- Variables that stand for others, in each choice.
use Rattle.std.proofs.Common.{◌≡◌, ℕ, zero, suc, ◌+◌, ◌<◌, List, [], ◌∷◌, length, map, set, get_or, Option, Some, None, refl, sym, ap, ◌∙◌, subst, arith, ⊎_elim}
use Rattle.std.specs.Prelude.{Contains, nat_eq, slice_get, slice_index, All}
use Rattle.std.specs.List.{AllByRecursion, IsDistinct}
use Rattle.std.proofs.lemmas.Bool.{cases_eq}
use Rattle.std.proofs.lemmas.List.{get_or-set_same, get_or-set_other, length-set}
use Rattle.std.proofs.lemmas.List.Elements.{All-from_recursion}
use Rattle.std.proofs.lemmas.Option.{slice_get_within, get_or_from_slice_get, slice_get-get_or}
use Rattle.eq_base.specs.Tree.{Tree, node, empty, nth_subtree}
use Rattle.eq_base.specs.Pattern.{PatternCell, fixed, variable, restricted}
use Rattle.eq_base.specs.Testing.{IsPattern}
use Rattle.eq_base.specs.Cells.{root_cell}
use Rattle.eq_base.specs.declared.head.Head.{Head}
use Rattle.eq_base.specs.declared.head.Cell.TheVariants as cell
use Rattle.eq_base.proofs.Lists.{all_contained, all_map}
use Rattle.def_file.specs.declared.definitions.Qualifier.{Qualifier}
use Rattle.def_file.specs.AsRead.{QualifierOf}
use Rattle.qualifiers.specs.Replacing.{Replacement, Choice, Makes, chosen, replaced_or}
use Rattle.qualifiers.specs.Choices.{choices_of}
use Rattle.qualifiers.specs.Held.{qualifier_held, qualifiers_held}
use Rattle.qualifiers.specs.Leading.{ArePatterns, variable_of}
use Rattle.qualifiers.specs.Standing.{Stands, itself, on, StandsFor, AreTargets}
use Rattle.qualifiers.proofs.Members.{contains_here, contains_map}
use Rattle.qualifiers.proofs.Chosen.{HasChosen, IsChoiceOf, all_chosen, is_choice}

module _ {H : Type 0} {choice : Choice H} where
  pub stands_then : {x y z : ℕ} → Stands choice x y → Stands choice y z → Stands choice x z
  stands_then itself t = t
  stands_then (on e s) t = on e (stands_then s t)

  -- what the choice makes of both is the same
  pub stands_made : (θ : Replacement H) → Makes choice θ → {x z : ℕ} → Stands choice x z → θ x ≡ θ z
  stands_made θ makes {x} {z} itself = refl
  stands_made θ makes {x} {z} (on e s) = makes x ∙ ap (replaced_or θ x) e ∙ stands_made θ makes s

pub some_at : {X : Type 0} (xs : List X) (i : ℕ) → i < length xs → (x : X) × (slice_get xs i ≡ Some x)
some_at [] i lt = absurd (omega arith)
some_at (x ∷ xs) zero lt = (x, refl)
some_at (x ∷ xs) (suc i) lt = some_at xs i (omega arith)

pub listed_at : {X : Type 0} (xs : List X) (i : ℕ) (x : X) → slice_get xs i ≡ Some x → Contains xs x
listed_at xs i x is = (i, slice_get_within xs i x is, get_or_from_slice_get xs i x x is)

-- a pattern that begins with a plain variable is that variable alone
pub lone_variable : (a : Tree (PatternCell Head)) (y : ℕ) → IsPattern a → cell.Var y ≡ root_cell (nth_subtree a 0) → a ≡ node (variable y) empty
lone_variable (node (fixed h) ps) y is e = cc
lone_variable (node (variable x) ps) y is e = let same : x ≡ y = cc in rw (is, same) refl
lone_variable (node (restricted x class) ps) y is e = cc

-- the variables of qualifiers
pub names_held : (qs : List Qualifier) → map (λ (q : QualifierOf Head). q.variable) (qualifiers_held qs) ≡ map variable_of qs
names_held [] = refl
names_held (q ∷ qs) = ap (λ l. q.variable ∷ l) (names_held qs)

-- the alternatives of qualifiers are patterns
pub patterns_held : (qs : List Qualifier) → AllByRecursion (λ (q : QualifierOf Head). AllByRecursion IsPattern q.choices) (qualifiers_held qs) → ArePatterns qs
patterns_held [] all = tt
patterns_held (q ∷ qs) all = (all.0, patterns_held qs all.1)

module _ {H : Type 0} where
  -- the only alternative is chosen
  only_one : (choice : Choice H) (x : ℕ) (alternatives : List (Tree (PatternCell H))) (a : Tree (PatternCell H)) → length alternatives ≡ 1 → slice_get alternatives 0 ≡ Some a → HasChosen choice x alternatives → chosen choice x ≡ Some a
  only_one choice x [] a one is has = absurd (omega arith)
  only_one choice x (b ∷ []) a one is (c, from, here) = let same : b ≡ c = contains_here c b from in let first : b ≡ a = cc in here ∙ ap Some (sym same ∙ first)
  only_one choice x (b ∷ d ∷ more) a one is has = absurd (omega arith)

  only_chosen : (qs : List (QualifierOf H)) (choice : Choice H) → IsDistinct nat_eq (map (λ (q : QualifierOf H). q.variable) qs) → IsChoiceOf qs choice → (q : QualifierOf H) → Contains qs q → (a : Tree (PatternCell H)) → length q.choices ≡ 1 → slice_get q.choices 0 ≡ Some a → chosen choice q.variable ≡ Some a
  only_chosen qs choice distinct is q listed a one first =
      only_one choice q.variable q.choices a one first (all_contained (λ (r : QualifierOf H). HasChosen choice r.variable r.choices) qs q (all_chosen qs choice distinct is) listed)

module _ (qs : List Qualifier) where
  pub stands_for_itself : (i : ℕ) → i < length qs → StandsFor qs i i
  stands_for_itself i lt =
      let (q, at) = some_at qs i lt in
      record { first = q; second = q; at_place = at; at_other = at; offers = λ some. some; always = λ choice listed. itself }

  pub stands_for_then : (i j k : ℕ) → StandsFor qs i j → StandsFor qs j k → StandsFor qs i k
  stands_for_then i j k s t =
      let both : Some s.second ≡ Some t.first = sym s.at_other ∙ t.at_place in
      let same : s.second ≡ t.first = cc in
      record {
        first = s.first;
        second = t.second;
        at_place = s.at_place;
        at_other = t.at_other;
        offers = λ some. t.offers (subst (λ (q : Qualifier). 0 < length q.choices) same (s.offers some));
        always = λ choice listed. stands_then (subst (λ (q : Qualifier). Stands choice s.first.variable q.variable) same (s.always choice listed)) (t.always choice listed);
      }

  -- a variable that is the only alternative of another
  pub next_stands : IsDistinct nat_eq (map variable_of qs) → (i j : ℕ) (q r : Qualifier) → slice_get qs i ≡ Some q → slice_get qs j ≡ Some r → length q.choices ≡ 1 → (a : Tree (PatternCell Head)) → slice_get q.choices 0 ≡ Some a → a ≡ node (variable r.variable) empty → 0 < length r.choices → StandsFor qs i j
  next_stands distinct i j q r at there one a first lone some = record {
    first = q;
    second = r;
    at_place = at;
    at_other = there;
    offers = λ _. some;
    always = λ choice listed.
        let is = is_choice (qualifiers_held qs) choice listed in
        on (only_chosen (qualifiers_held qs) choice (subst (IsDistinct nat_eq) (sym (names_held qs)) distinct) is (qualifier_held q) (contains_map qualifier_held qs q (listed_at qs i q at)) (node (variable r.variable) empty) one (first ∙ ap Some lone)) itself;
  }

  -- each place is within the list
  pub within_all : (targets : List ℕ) → AreTargets qs targets → (way : List ℕ) (end : ℕ) → AllByRecursion (λ i. StandsFor qs i end) way → All (λ i. i < length targets) way
  within_all targets are way end all =
      All-from_recursion (λ i. i < length targets) way (all_map (λ i. StandsFor qs i end) (λ i. i < length targets) way (λ i s. omega (arith, are.len, slice_get_within qs i s.first s.at_place)) all)

  pub targets-itself : (targets : List ℕ) → length targets ≡ length qs → ((i : ℕ) → i < length qs → slice_index targets i ≡ i) → AreTargets qs targets
  targets-itself targets len each = record { len = len; each = λ i lt. subst (StandsFor qs i) (sym (each i lt)) (stands_for_itself i lt) }

  pub targets-set : (targets : List ℕ) (i end : ℕ) → AreTargets qs targets → StandsFor qs i end → AreTargets qs (set targets i end)
  targets-set targets i end are s = record {
    len = length-set targets i end ∙ are.len;
    each = λ k lt.
        ⊎_elim
        (λ same. subst (λ j. StandsFor qs k j) (sym (ap (λ j. get_or (set targets i end) j 0) same ∙ get_or-set_same targets i end 0 (omega (arith, are.len, slice_get_within qs i s.first s.at_place)))) (subst (λ j. StandsFor qs j end) (sym same) s))
        (λ other. subst (StandsFor qs k) (sym (get_or-set_other targets i k end 0 other)) (are.each k lt))
        (cases_eq k i);
  }
