-- The places of qualifiers by their variables, each of which has one.
use Rattle.std.proofs.Common.{◌≡◌, ℕ, ◌<◌, ◌+◌, List, map, get_or, Some, Option, refl, sym, ap, ◌∙◌, subst, arith, ⊎_elim}
use Rattle.std.specs.Prelude.{nat_eq, slice_get, ◌↔◌}
use Rattle.std.specs.List.{IsDistinct}
use Rattle.std.proofs.lemmas.Bool.{cases_eq, cases_lt, eqb-false}
use Rattle.std.proofs.lemmas.Option.{slice_get_within, get_or_from_slice_get}
use Rattle.std.proofs.lemmas.Map.Keys.{apart_from_distinct}
use Rattle.def_file.specs.declared.definitions.Qualifier.{Qualifier}
use Rattle.qualifiers.specs.Leading.{variable_of, IsPlaceOf}
use Rattle.qualifiers.proofs.Members.{got_map}

module _ (qs : List Qualifier) where
  -- a place has one variable
  pub one_variable : (x y i : ℕ) → IsPlaceOf qs x i → IsPlaceOf qs y i → x ≡ y
  one_variable x y i a b =
      let e : Some a.0 ≡ Some b.0 = sym a.1 ∙ b.1 in
      let same : a.0 ≡ b.0 = cc in
      sym a.2 ∙ ap variable_of same ∙ b.2

  module _ (distinct : IsDistinct nat_eq (map variable_of qs)) where
    apart : (x i j : ℕ) → IsPlaceOf qs x i → IsPlaceOf qs x j → i < j → ⊥
    apart x i j a b lt =
        let vs = map variable_of qs in
        let here : slice_get vs i ≡ Some a.0.variable = got_map variable_of qs i a.0 a.1 in
        let there : slice_get vs j ≡ Some b.0.variable = got_map variable_of qs j b.0 b.1 in
        eqb-false (get_or vs i 0) (get_or vs j 0) (apart_from_distinct nat_eq vs i j 0 distinct lt (slice_get_within vs j b.0.variable there))
        (get_or_from_slice_get vs i a.0.variable 0 here ∙ a.2 ∙ sym b.2 ∙ sym (get_or_from_slice_get vs j b.0.variable 0 there))

    -- a variable has one place
    pub one_place : (x i j : ℕ) → IsPlaceOf qs x i → IsPlaceOf qs x j → i ≡ j
    one_place x i j a b =
        ⊎_elim
        (λ same. same)
        (λ other. ⊎_elim (λ lt. absurd (apart x i j a b lt)) (λ le. absurd (apart x j i b a (omega (arith, le, other)))) (cases_lt i j))
        (cases_eq i j)

    -- the place of one variable more
    pub place_more : (old new : ℕ → Option ℕ) (i : ℕ) (q : Qualifier) → slice_get qs i ≡ Some q → new q.variable ≡ Some i → ((x : ℕ) → (q.variable ≡ x → ⊥) → new x ≡ old x) → ((x p : ℕ) → (old x ≡ Some p) ↔ (IsPlaceOf qs x p × (p < i))) → (x p : ℕ) → (new x ≡ Some p) ↔ (IsPlaceOf qs x p × (p < i + 1))
    place_more old new i q at set others before x p =
        let here : q.variable ≡ x → IsPlaceOf qs x i = λ named. (q, at, named) in
        ⊎_elim
        (λ same. (
          λ e.
              let e' : Some i ≡ Some p = sym set ∙ ap new same ∙ e in
              let is : i ≡ p = cc in
              (subst (IsPlaceOf qs x) is (here same), omega arith),
          λ (is, lt). ap new (sym same) ∙ set ∙ ap Some (one_place x i p (here same) is),
        ))
        (λ other. (
          λ e. let (is, lt) = (before x p).0 (sym (others x other) ∙ e) in (is, omega (arith, lt)),
          λ (is, lt). ⊎_elim
              (λ last. absurd (other (one_variable q.variable x i (q, at, refl) (subst (IsPlaceOf qs x) last is))))
              (λ earlier. others x other ∙ (before x p).1 (is, omega (arith, lt, earlier)))
              (cases_eq p i),
        ))
        (cases_eq q.variable x)
