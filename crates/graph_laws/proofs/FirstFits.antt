-- Whether a rule fits is decided; where one fits a numbered tree, a first one does, and its variables meet numbered parts.
use Rattle.std.proofs.Common.{◌≡◌, ℕ, zero, suc, ◌<◌, List, [], ◌∷◌, ◌++◌, map, false, Bool, true, Option, Some, None, ◌⊎◌, inl, inr, refl, sym, ◌∙◌, ap, subst, arith}
use Rattle.std.specs.Prelude.{Contains, IsTrue, nat_eq, slice_get}
use Rattle.std.specs.List.{IsDistinct}
use Rattle.std.proofs.lemmas.Bool.{cases_lt}
use Rattle.std.proofs.lemmas.List.{map-append}
use Rattle.eq_base.specs.Tree.{Tree, Forest, node, empty, grow, head_of, arity_of, count, map_all_heads}
use Rattle.eq_base.specs.Pattern.{PatternCell, fixed, variable, restricted, Classes, variables, all_variables, IsLinear, Substitution, apply, IsInstanceOf}
use Rattle.eq_base.specs.Rewriting.{RightSide, pattern, operation, Rule, System, Gives, IsRedexBy, IsFirst}
use Rattle.eq_base.proofs.Instances.{Fits, FitAll, fits_from_instance, Agrees, agrees_front, agrees_back, lookup, agrees-lookup}
use Rattle.orthogonal_laws.specs.Orthogonal.{IsWellFormedSystem, IsOrthogonal}
use Rattle.orthogonal_laws.proofs.Members.{get-in, in-contains}
use Rattle.orthogonal_laws.proofs.LeftSides.{Patterns, Last, Open, Test, Meets}
use Rattle.orthogonal_laws.proofs.Translation.{test_of, args_tests}
use Rattle.orthogonal_laws.proofs.Redexes.{tests-instance, instance-tests}
use Rattle.graph_laws.specs.Numbered.{Numbered, plain}
use Rattle.graph_laws.specs.Replacing.{MeetsWith, AllMeetWith}

module _ {H : Type 0} where
  -- ---- numbered parts for the variables

  abbrev mutual
    numbered_bindings : Tree (PatternCell H) → Numbered H → List (ℕ × Numbered H)
    numbered_bindings (node (fixed g) ps) (node l ts) = all_numbered_bindings ps ts
    numbered_bindings (node (variable x) ps) t = (x, t) ∷ []
    numbered_bindings (node (restricted x class) ps) t = (x, t) ∷ []

    all_numbered_bindings : Forest (PatternCell H) → Forest (H × ℕ) → List (ℕ × Numbered H)
    all_numbered_bindings empty ts = []
    all_numbered_bindings (grow p ps) empty = []
    all_numbered_bindings (grow p ps) (grow t ts) = numbered_bindings p t ++ all_numbered_bindings ps ts

  abbrev no_class : Classes (H × ℕ)
  no_class class l = false

  module _ (in_class : Classes H) where
    mutual
      keys : (p : Tree (PatternCell H)) (t : Numbered H) → Fits in_class p (plain t) → map (λ b. b.0) (numbered_bindings p t) ≡ variables p
      keys (node (fixed g) ps) (node l ts) f = all_keys ps ts f.1
      keys (node (variable x) ps) t f = refl
      keys (node (restricted x class) ps) t f = refl

      all_keys : (ps : Forest (PatternCell H)) (ts : Forest (H × ℕ)) → FitAll in_class ps (map_all_heads (λ l. l.0) ts) → map (λ b. b.0) (all_numbered_bindings ps ts) ≡ all_variables ps
      all_keys empty ts f = refl
      all_keys (grow p ps) empty f = absurd f
      all_keys (grow p ps) (grow t ts) f = map-append (λ b. b.0) (numbered_bindings p t) (all_numbered_bindings ps ts) ∙ rw (keys p t f.0, all_keys ps ts f.1) refl

    mutual
      meets : (σ : Substitution (H × ℕ)) (p : Tree (PatternCell H)) (t : Numbered H) → Fits in_class p (plain t) → Agrees no_class σ (numbered_bindings p t) → MeetsWith σ p t
      meets σ (node (fixed g) ps) (node l ts) f a = (f.0, all_meet σ ps ts f.1 a)
      meets σ (node (variable x) ps) t f a = a.0
      meets σ (node (restricted x class) ps) t f a = a.0

      all_meet : (σ : Substitution (H × ℕ)) (ps : Forest (PatternCell H)) (ts : Forest (H × ℕ)) → FitAll in_class ps (map_all_heads (λ l. l.0) ts) → Agrees no_class σ (all_numbered_bindings ps ts) → AllMeetWith σ ps ts
      all_meet σ empty empty f a = tt
      all_meet σ empty (grow t ts) f a = absurd f
      all_meet σ (grow p ps) empty f a = absurd f
      all_meet σ (grow p ps) (grow t ts) f a = (
        meets σ p t f.0 (agrees_front no_class σ (numbered_bindings p t) (all_numbered_bindings ps ts) a),
        all_meet σ ps ts f.1 (agrees_back no_class σ (numbered_bindings p t) (all_numbered_bindings ps ts) a),
      )

    -- the variables of a linear pattern stand for numbered parts of its instance
    pub some_meets : (p : Tree (PatternCell H)) (t : Numbered H) → IsLinear p → IsInstanceOf in_class p (plain t) → (σ : Substitution (H × ℕ)) × MeetsWith σ p t
    some_meets p t linear i =
        let f = fits_from_instance in_class p (plain t) i in
        let bs = numbered_bindings p t in
        let σ : Substitution (H × ℕ) = lookup no_class bs t in
        (σ, meets σ p t f (agrees-lookup no_class bs t (subst (IsDistinct nat_eq) (sym (keys p t f)) linear)))

  -- ---- which rule fits

  meets_or_not : (ps : Patterns H) (us : Forest H) → Meets ps us ⊎ (Meets ps us → ⊥)
  meets_or_not Last empty = inl tt
  meets_or_not Last (grow t ts) = inr (λ m. m)
  meets_or_not (Open ps) empty = inr (λ m. m)
  meets_or_not (Open ps) (grow t ts) = meets_or_not ps ts
  meets_or_not (Test test ps qs) empty = inr (λ m. m)
  meets_or_not (Test test ps qs) (grow (node h us) ts) =
      elim (true_or_not (test (h, count us))) [
        | inr no_test ↦ inr (λ m. no_test m.0)
        | inl passes ↦ elim (meets_or_not ps us) [
          | inr no_args ↦ inr (λ m. no_args m.1)
          | inl args ↦ elim (meets_or_not qs ts) [ inr no_rest ↦ inr (λ m. no_rest m.2) | inl rest ↦ inl (passes, args, rest) ]
        ]
      ]
    where
      true_or_not : (b : Bool) → IsTrue b ⊎ (IsTrue b → ⊥)
      true_or_not true = inl refl
      true_or_not false = inr (λ e. cc)

  module _ (system : System H) (w : IsWellFormedSystem system) (o : IsOrthogonal system) where
    instance_or_not : (rule : Rule H) → Contains system.rules rule → (t : Tree H) → IsInstanceOf system.in_class rule.left t ⊎ (IsInstanceOf system.in_class rule.left t → ⊥)
    instance_or_not rule listed (node h us) =
        elim (meets_or_not (Test (λ l. test_of w.same system.in_class (head_of rule.left) (arity_of rule.left) l) (args_tests w.same system.in_class rule.left) Last) (grow (node h us) empty)) [
          | inl m ↦ inl (tests-instance system w o rule listed h us m.0 m.1)
          | inr none ↦ inr (λ i. let m = instance-tests system w o rule listed h us i in none (m.0, m.1, tt))
        ]

    by_rule : (number : ℕ) (rule : Rule H) → slice_get system.rules number ≡ Some rule → (t : Tree H) → IsRedexBy system number t ⊎ (IsRedexBy system number t → ⊥)
    by_rule number rule listed t =
        elim (instance_or_not rule (in-contains (get-in system.rules number rule listed)) t) [
          | inr none ↦ inr (λ r. let e : r.1.rule ≡ rule = let x = r.1.listed in cc in none (subst (λ z. IsInstanceOf system.in_class z.left t) e r.1.is_instance.left))
          | inl i ↦ by_right i rule.right refl
        ]
      where
        by_value : IsInstanceOf system.in_class rule.left t → (op : _) → rule.right ≡ operation op → (v : Option (Tree H)) → system.value_of op t ≡ v → IsRedexBy system number t ⊎ (IsRedexBy system number t → ⊥)
        by_value i op e None none =
            inr (λ r.
            let same : r.1.rule ≡ rule = let x = r.1.listed in cc in
            let value : system.value_of op t ≡ Some r.0 = subst (λ z. Gives system r.1.is_instance.left.substitution z t r.0) (ap (λ z. z.right) same ∙ e) r.1.is_instance.right in
            let x : None ≡ Some r.0 = sym none ∙ value in
            cc)
        by_value i op e (Some u) value = inl (u, record { rule = rule; listed = listed; is_instance = record { left = i; right = subst (λ z. Gives system i.substitution z t u) (sym e) value } })

        by_right : IsInstanceOf system.in_class rule.left t → (right : RightSide H) → rule.right ≡ right → IsRedexBy system number t ⊎ (IsRedexBy system number t → ⊥)
        by_right i (pattern p) e = inl (apply i.substitution p, record { rule = rule; listed = listed; is_instance = record { left = i; right = subst (λ z. Gives system i.substitution z t (apply i.substitution p)) (sym e) refl } })
        by_right i (operation op) e = by_value i op e (system.value_of op t) refl

    pub fits_or_not : (number : ℕ) (t : Tree H) → IsRedexBy system number t ⊎ (IsRedexBy system number t → ⊥)
    fits_or_not number t = listed_or_not (slice_get system.rules number) refl
      where
        listed_or_not : (x : Option (Rule H)) → slice_get system.rules number ≡ x → IsRedexBy system number t ⊎ (IsRedexBy system number t → ⊥)
        listed_or_not None e = inr (λ r. let x = r.1.listed in absurd (let z : None ≡ Some r.1.rule = sym e ∙ x in cc))
        listed_or_not (Some rule) e = by_rule number rule e t

    -- a rule below the number fits, the first one, or none does
    first_below : (n : ℕ) (t : Tree H) → ((number : ℕ) × IsRedexBy system number t × IsFirst system number t) ⊎ IsFirst system n t
    first_below zero t = inr (λ k less. absurd (omega arith))
    first_below (suc n) t =
        elim (first_below n t) [
          | inl found ↦ inl found
          | inr before ↦ elim (fits_or_not n t) [
            | inl here ↦ inl (n, here, before)
            | inr not_here ↦ inr (λ k less fits. up_to n before not_here k less fits)
          ]
        ]
      where
        up_to : (n : ℕ) → IsFirst system n t → (IsRedexBy system n t → ⊥) → (k : ℕ) → k < suc n → IsRedexBy system k t → ⊥
        up_to n before not_here k less fits =
            elim (cases_lt k n) [ inl lower ↦ before k lower fits | inr le ↦ let same : k ≡ n = omega arith in not_here (subst (λ j. IsRedexBy system j t) same fits) ]

    pub first_fit : (number : ℕ) (t : Tree H) → IsRedexBy system number t → (first : ℕ) × IsRedexBy system first t × IsFirst system first t
    first_fit number t fits =
        elim (first_below number t) [ inl found ↦ found | inr before ↦ (number, fits, before) ]
