-- Which qualifiers lead to which, and what that says of their variables.
use Rattle.std.proofs.Common.{◌≡◌, ℕ, zero, suc, ◌<◌, ◌⊎◌, inl, inr, List, [], ◌∷◌, ◌++◌, map, length, Some, None, Option, refl, sym, ap, ◌∙◌, subst, arith, ⊎_elim}
use Rattle.std.specs.Prelude.{Contains, slice_get, nat_eq, ◌↔◌}
use Rattle.std.specs.List.{AllByRecursion, flat_map, IsDistinct}
use Rattle.std.specs.Option.{option_to_list}
use Rattle.std.specs.Global.{Vec}
use Rattle.std.proofs.lemmas.List.Elements.{Contains-append_left, Contains-append_right, Contains-append_cases, Contains-push, Contains-push_cases}
use Rattle.std.proofs.lemmas.Option.{slice_get_within, slice_get-get_or, get_or_from_slice_get}
use Rattle.eq_base.proofs.Lists.{all_contained}
use Rattle.eq_base.specs.Pattern.{variables}
use Rattle.eq_base.specs.declared.head.Head.{Head}
use Rattle.def_file.specs.Pairs.{AreRelated}
use Rattle.def_file.specs.declared.definitions.Qualifier.{Qualifier}
use Rattle.def_file.specs.AsRead.{QualifierOf}
use Rattle.qualifiers.specs.Replacing.{Chain, one, more}
use Rattle.qualifiers.specs.Choices.{HasIn, DependsOn, HaveNoCircle}
use Rattle.qualifiers.specs.Held.{qualifier_held, qualifiers_held}
use Rattle.qualifiers.specs.Graphs.{Follows, LeadsOn}
use Rattle.qualifiers.specs.Leading.{variable_of, IsPlaceOf, ArePlacesOf, IsPlaceAmong, LeadsTo, IsGraphOf}
use Rattle.qualifiers.proofs.Members.{contains_none, contains_first, contains_here, contains_map, map_contains, contains_flat_map, flat_map_contains}
use Rattle.qualifiers.proofs.PlacesOf.{one_place, one_variable}

-- ---- places among variables

module _ (place : ℕ → Option ℕ) where
  among_left : (xs ys : List ℕ) (j : ℕ) → IsPlaceAmong place xs j → IsPlaceAmong place (xs ++ ys) j
  among_left xs ys j (x, c, is) = (x, Contains-append_left xs ys x c, is)

  among_right : (xs ys : List ℕ) (j : ℕ) → IsPlaceAmong place ys j → IsPlaceAmong place (xs ++ ys) j
  among_right xs ys j (x, c, is) = (x, Contains-append_right xs ys x c, is)

  among_cases : (xs ys : List ℕ) (j : ℕ) → IsPlaceAmong place (xs ++ ys) j → IsPlaceAmong place xs j ⊎ IsPlaceAmong place ys j
  among_cases xs ys j (x, c, is) = ⊎_elim (λ a. inl (x, a, is)) (λ b. inr (x, b, is)) (Contains-append_cases xs ys x c)

  -- the places of the variables, beside earlier ones
  abbrev pub Collected : (old now xs : List ℕ) → Type 0
  Collected old now xs = (j : ℕ) → Contains now j ↔ (Contains old j ⊎ IsPlaceAmong place xs j)

  pub collected_none : (old : List ℕ) → Collected old old []
  collected_none old j = (λ c. inl c, λ h. ⊎_elim (λ c. c) (λ (x, c, is). absurd (contains_none x c)) h)

  pub collected_skip : (old now xs : List ℕ) (o : Option ℕ) → ((x : ℕ) → o ≡ Some x → place x ≡ None) → Collected old now xs → Collected old now (xs ++ option_to_list o)
  collected_skip old now xs o none h j = (
    λ c. ⊎_elim (λ before. inl before) (λ among. inr (among_left xs (option_to_list o) j among)) ((h j).0 c),
    λ d. ⊎_elim (λ before. (h j).1 (inl before)) (λ among. ⊎_elim (λ a. (h j).1 (inr a)) (λ b. absurd (no o none b)) (among_cases xs (option_to_list o) j among)) d,
  )
    where
      no : (o : Option ℕ) → ((x : ℕ) → o ≡ Some x → place x ≡ None) → IsPlaceAmong place (option_to_list o) j → ⊥
      no None none (x, c, is) = contains_none x c
      no (Some y) none (x, c, is) = let e : Some j ≡ None = sym is ∙ none x (ap Some (contains_here x y c)) in cc

  pub collected_more : (old now xs : List ℕ) (y p : ℕ) → place y ≡ Some p → Collected old now xs → Collected old (now ++ p ∷ []) (xs ++ y ∷ [])
  collected_more old now xs y p is h j = (
    λ c. ⊎_elim
        (λ before. ⊎_elim (λ a. inl a) (λ b. inr (among_left xs (y ∷ []) j b)) ((h j).0 before))
        (λ same. inr (among_right xs (y ∷ []) j (y, contains_first y [], is ∙ ap Some same)))
        (Contains-push_cases now p j c),
    λ d. ⊎_elim
        (λ before. Contains-append_left now (p ∷ []) j ((h j).1 (inl before)))
        (λ among. ⊎_elim
        (λ a. Contains-append_left now (p ∷ []) j ((h j).1 (inr a)))
        (λ (x, c, is').
        let e : Some p ≡ Some j = sym is ∙ ap place (contains_here x y c) ∙ is' in
        let same : p ≡ j = cc in
        subst (Contains (now ++ p ∷ [])) same (Contains-push now p))
        (among_cases xs (y ∷ []) j among))
        d,
  )

  -- the places of one alternative's variables more
  pub collected_all : (now new xs ys : List ℕ) → ((j : ℕ) → Contains now j ↔ IsPlaceAmong place xs j) → Collected now new ys → (j : ℕ) → Contains new j ↔ IsPlaceAmong place (xs ++ ys) j
  collected_all now new xs ys h next j = (
    λ c. ⊎_elim (λ before. among_left xs ys j ((h j).0 before)) (λ a. among_right xs ys j a) ((next j).0 c),
    λ d. ⊎_elim (λ a. (next j).1 (inl ((h j).1 a))) (λ b. (next j).1 (inr b)) (among_cases xs ys j d),
  )

  -- the followers of a qualifier
  abbrev pub HasFollowers : Qualifier → Vec ℕ → Type 0
  HasFollowers q f = (j : ℕ) → Contains f.items j ↔ IsPlaceAmong place (flat_map variables q.choices) j

-- ---- the graph

module _ {A B : Type 0} (R : A → B → Type 0) where
  related_first : (xs : List A) (ys : List B) (i : ℕ) (x : A) → AreRelated R xs ys → slice_get xs i ≡ Some x → (y : B) × (slice_get ys i ≡ Some y) × R x y
  related_first [] ys i x h at = cc
  related_first (x' ∷ xs) [] i x h at = absurd h
  related_first (x' ∷ xs) (y ∷ ys) zero x (h, hs) at = (y, refl, let same : x' ≡ x = cc in subst (λ z. R z y) same h)
  related_first (x' ∷ xs) (y ∷ ys) (suc i) x (h, hs) at = related_first xs ys i x hs at

  related_second : (xs : List A) (ys : List B) (i : ℕ) (y : B) → AreRelated R xs ys → slice_get ys i ≡ Some y → (x : A) × (slice_get xs i ≡ Some x) × R x y
  related_second xs [] i y h at = cc
  related_second [] (y' ∷ ys) i y h at = absurd h
  related_second (x ∷ xs) (y' ∷ ys) zero y (h, hs) at = (x, refl, let same : y' ≡ y = cc in subst (λ z. R x z) same h)
  related_second (x ∷ xs) (y' ∷ ys) (suc i) y (h, hs) at = related_second xs ys i y hs at

pub graph_edges : (qs : List Qualifier) (place : ℕ → Option ℕ) (graph : List (Vec ℕ)) → ArePlacesOf qs place → AreRelated (HasFollowers place) qs graph → IsGraphOf qs graph
graph_edges qs place graph places related i j = (
  λ h.
      let (q, at, has) = related_second (HasFollowers place) qs graph i h.followers related h.listed in
      let (x, stands, is) = (has j).0 h.among in
      record { qualifier = q; listed = at; held = x; stands = stands; place = (places x j).0 is },
  λ l.
      let (f, at, has) = related_first (HasFollowers place) qs graph i l.qualifier related l.listed in
      record { followers = f; listed = at; among = (has j).1 (l.held, l.stands, (places l.held j).1 l.place) },
)

-- ---- circles

pub listed_at : {X : Type 0} (xs : List X) (i : ℕ) (x : X) → slice_get xs i ≡ Some x → Contains xs x
listed_at xs i x is = (i, slice_get_within xs i x is, get_or_from_slice_get xs i x x is)

pub got_at : {X : Type 0} (xs : List X) (i : ℕ) → i < length xs → (x : X) × (slice_get xs i ≡ Some x)
got_at [] i lt = absurd (omega arith)
got_at (x ∷ xs) zero lt = (x, refl)
got_at (x ∷ xs) (suc i) lt = got_at xs i (omega arith)

module _ (qs : List Qualifier) where
  -- an alternative's variable, and the qualifier in an alternative of which it stands
  leads_has : (i j : ℕ) (l : LeadsTo qs i j) → HasIn (qualifiers_held qs) l.qualifier.variable l.held
  leads_has i j l =
      let (a, offered, stands) = flat_map_contains variables l.qualifier.choices l.held l.stands in
      record { qualifier = qualifier_held l.qualifier; listed = contains_map qualifier_held qs l.qualifier (listed_at qs i l.qualifier l.listed); named = refl; alternative = a; offered = offered; stands = stands }

  has_leads : (x y j : ℕ) → HasIn (qualifiers_held qs) x y → IsPlaceOf qs y j → (i : ℕ) × IsPlaceOf qs x i × LeadsTo qs i j
  has_leads x y j h there =
      let (q, (i, lt, is), same) = map_contains qualifier_held qs h.qualifier h.listed in
      let at : slice_get qs i ≡ Some q = slice_get-get_or qs i q lt ∙ ap Some is in
      let offered = subst (λ l. Contains l h.alternative) (sym (ap (λ (r : QualifierOf Head). r.choices) same)) h.offered in (
        i,
        (q, at, ap (λ (r : QualifierOf Head). r.variable) same ∙ h.named),
        record { qualifier = q; listed = at; held = y; stands = contains_flat_map variables q.choices h.alternative y offered h.stands; place = there },
      )

  module _ (graph : List (Vec ℕ)) (edges : IsGraphOf qs graph) where
    step_depends : {i j : ℕ} → Follows graph i j → (x y : ℕ) → IsPlaceOf qs x i → IsPlaceOf qs y j → HasIn (qualifiers_held qs) x y
    step_depends {i} {j} h x y a b =
        let l = (edges i j).0 h in
        let from : l.qualifier.variable ≡ x = one_variable qs l.qualifier.variable x i (l.qualifier, l.listed, refl) a in
        let to : l.held ≡ y = one_variable qs l.held y j l.place b in
        subst (λ z. HasIn (qualifiers_held qs) z y) from (subst (HasIn (qualifiers_held qs) l.qualifier.variable) to (leads_has i j l))

    pub leads_depends : {i j : ℕ} → LeadsOn graph i j → (x y : ℕ) → IsPlaceOf qs x i → IsPlaceOf qs y j → DependsOn (qualifiers_held qs) x y
    leads_depends (one h) x y a b = one (step_depends h x y a b)
    leads_depends (more {x = i} {y = k} h c) x y a b =
        let l = (edges i k).0 h in
        more (step_depends h x l.held a l.place) (leads_depends c l.held y l.place b)

    depends_leads : {x y : ℕ} → Chain (HasIn (qualifiers_held qs)) x y → (j : ℕ) → IsPlaceOf qs y j → (i : ℕ) × IsPlaceOf qs x i × LeadsOn graph i j
    depends_leads {x} {y} (one h) j there = let (i, here, l) = has_leads x y j h there in (i, here, one ((edges i j).1 l))
    depends_leads (more {x} {y} h c) j there =
        let (k, between, on) = depends_leads c j there in
        let (i, here, l) = has_leads x y k h between in
        (i, here, more ((edges i k).1 l) on)

    -- a place leads back to itself exactly where its variable depends on itself
    pub circle_at : IsDistinct nat_eq (map variable_of qs) → (i : ℕ) (q : Qualifier) → slice_get qs i ≡ Some q → LeadsOn graph i i ↔ DependsOn (qualifiers_held qs) q.variable q.variable
    circle_at distinct i q at =
        let here : IsPlaceOf qs q.variable i = (q, at, refl) in (
          λ c. leads_depends c q.variable q.variable here here,
          λ d.
              let (k, there, on) = depends_leads d i here in
              subst (λ m. LeadsOn graph m i) (one_place qs distinct q.variable k i there here) on,
        )

    -- what follows a place is a place
    pub graph_within : length graph ≡ length qs → (i j : ℕ) → Follows graph i j → j < length graph
    graph_within long i j h =
        let l = (edges i j).0 h in
        omega (arith, long, slice_get_within qs j l.place.0 l.place.1)

-- no variable depends on itself where none of a qualifier does
module _ {H : Type 0} (qs : List (QualifierOf H)) where
  first_of : {y z : ℕ} → Chain (HasIn qs) y z → (q : QualifierOf H) × Contains qs q × (q.variable ≡ y)
  first_of (one h) = (h.qualifier, h.listed, h.named)
  first_of (more h d) = (h.qualifier, h.listed, h.named)

  pub none_circular : AllByRecursion (λ (q : QualifierOf H). ¬ DependsOn qs q.variable q.variable) qs → HaveNoCircle qs
  none_circular none x c =
      let (q, listed, named) = first_of c in
      all_contained (λ (r : QualifierOf H). ¬ DependsOn qs r.variable r.variable) qs q none listed (subst (λ y. DependsOn qs y y) (sym named) c)
