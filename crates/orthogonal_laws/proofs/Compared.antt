-- Two patterns clash first, or test the same positions and have a common instance, or differ first by a plain variable and a tested cell.
use Rattle.std.proofs.Common.{◌≡◌, ℕ, zero, suc, ◌<◌, ◌≤◌, pos, Bool, true, false, List, [], ◌∷◌, ◌⊎◌, inl, inr, Some, refl, sym, ◌∙◌, ap, subst, arith, true≢false}
use Rattle.std.specs.Prelude.{IsTrue, nat_eq}
use Rattle.std.proofs.lemmas.Bool.{cases_lt, eqb-true}
use Rattle.eq_base.specs.Tree.{Tree, Forest, node, empty, grow, Position, subtree_in}
use Rattle.eq_base.specs.Pattern.{PatternCell, fixed, variable, restricted, Meets, Clash}
use Rattle.eq_base.specs.ClassLists.{members_of}
use Rattle.eq_base.specs.Meeting.{in_symbol_class, same_head, in_class_of}
use Rattle.eq_base.proofs.ClassMembers.{same_head_decides, symbol_class, listed_class}
use Rattle.eq_base.proofs.Clashing.{one_class, some_head}
use Rattle.eq_base.specs.Testing.{IsTestedAt, IsPattern, ArePatterns}
use Rattle.eq_base.specs.declared.head.Head.{Head}
use Rattle.eq_base.specs.declared.head.Head.TheVariants.{Symbol, Numeral, Atom, Text}
use Rattle.regularity.specs.Arities.{HasArities, HaveArities}
use Rattle.regularity.specs.Common.{HaveCommon}
use Rattle.sequentiality.specs.Comparing.{HasFirstMismatch}
use Rattle.orthogonal_laws.specs.Orthogonal.{TestSame, ClashFirst}
use Rattle.orthogonal_laws.proofs.Comparing.{TestedIn, nothing_in}
use Rattle.orthogonal_laws.proofs.Translation.{first_true}
use Rattle.orthogonal_laws.proofs.Members.{In, in_first, in_next, contains-in, in-contains}
use Rattle.orthogonal_laws.proofs.Outcomes.{Outcome, clashes, common, mismatches, outcome}

-- a head of the list passes the test, or none does
some_passes : (f : Head → Bool) (hs : List Head) → ((h : Head) × In hs h × IsTrue (f h)) ⊎ ((h : Head) → In hs h → IsTrue (f h) → ⊥)
some_passes f [] = inr (λ h i. elim i [ ])
some_passes f (g ∷ hs) = by_test (f g) refl (some_passes f hs)
  where
    none_passes : f g ≡ false → ((h : Head) → In hs h → IsTrue (f h) → ⊥) → (h : Head) → In (g ∷ hs) h → IsTrue (f h) → ⊥
    none_passes e none h in_first p = true≢false (sym p ∙ e)
    none_passes e none h (in_next i) p = none h i p

    by_test : (b : Bool) → f g ≡ b → ((h : Head) × In hs h × IsTrue (f h)) ⊎ ((h : Head) → In hs h → IsTrue (f h) → ⊥) → ((h : Head) × In (g ∷ hs) h × IsTrue (f h)) ⊎ ((h : Head) → In (g ∷ hs) h → IsTrue (f h) → ⊥)
    by_test true e rest = inl (g, in_first, e)
    by_test false e (inl s) = inl (s.0, in_next s.1, s.2)
    by_test false e (inr none) = inr (none_passes e none)

same_number : (m n : ℕ) → (m ≡ n) ⊎ (m ≡ n → ⊥)
same_number m n = grind arith

in_one : {p : Tree (PatternCell Head)} {q : Position} → IsTestedAt p q → TestedIn (grow p empty) 0 q
in_one t = record { part = t.part; stands = t.stands; tested = t.tested }

one_in : {p : Tree (PatternCell Head)} {q : Position} → TestedIn (grow p empty) 0 q → IsTestedAt p q
one_in t = record { part = t.part; stands = t.stands; tested = t.tested }

module _ (classes : List (List Head)) where
  abbrev Share : ℕ → ℕ → Type 0
  Share one other = Clash (in_class_of classes) (restricted 0 one) (restricted 0 other) ⊎ ((h : Head) × Meets (in_class_of classes) (restricted 0 one) h × Meets (in_class_of classes) (restricted 0 other) h)

  share_turned : (one other : ℕ) → Share one other → Share other one
  share_turned one other (inl none) = inl (λ h e e'. none h e' e)
  share_turned one other (inr s) = inr (s.0, s.2, s.1)

  -- of the heads that a class lists one belongs to the other class, or none does
  listed_share : (one other : ℕ) → 4 ≤ one → Share one other
  listed_share one other le =
      elim (some_passes (in_class_of classes other) (members_of classes one)) [
        | inl s ↦ inr (s.0, (listed_class same_head same_head_decides in_symbol_class classes one s.0 le).1 (in-contains s.1), s.2)
        | inr none ↦ inl (λ h e e'. none h (contains-in ((listed_class same_head same_head_decides in_symbol_class classes one h le).0 e)) e')
      ]

  as_symbols : (class : ℕ) (h : Head) → class < 4 → in_class_of classes class h ≡ in_symbol_class class h
  as_symbols class h lt = symbol_class same_head same_head_decides in_symbol_class classes class h lt

  symbols_share : (one other : ℕ) → one < 4 → other < 4 → Share one other
  symbols_share one other lt lt' =
      elim (same_number one other) [
        | inl e ↦ (let s = some_head one lt in inr (s.0, as_symbols one s.0 lt ∙ s.1, as_symbols other s.0 lt' ∙ ap (λ k. in_symbol_class k s.0) (sym e) ∙ s.1))
        | inr n ↦ inl (λ h e e'. n (one_class one other h (sym (as_symbols one h lt) ∙ e) (sym (as_symbols other h lt') ∙ e')))
      ]

  -- two classes have a head in common, or none
  classes_share : (one other : ℕ) → Share one other
  classes_share one other =
      elim (cases_lt one 4) [
        | inr le ↦ listed_share one other le
        | inl lt ↦ elim (cases_lt other 4) [ inr le ↦ share_turned other one (listed_share other one le) | inl lt' ↦ symbols_share one other lt lt' ]
      ]

  pub data Compared (p r : Tree (PatternCell Head)) : Type 0 where
    clash_first : ClashFirst (in_class_of classes) p r → Compared p r
    same_tests : TestSame p r → HaveCommon (in_class_of classes) p r → Compared p r
    mismatch_first : HasFirstMismatch (in_class_of classes) p r → Compared p r

  module _ (arity : Head → ℕ) (constants : (class : ℕ) (h : Head) → IsTrue (in_class_of classes class h) → arity h ≡ 0) where
    pub compared : (p r : Tree (PatternCell Head)) → IsPattern p → IsPattern r → HasArities arity p → HasArities arity r → Compared p r
    compared p r is is' ar ar' = of_trees (outcome same_head same_head_decides (in_class_of classes) arity constants classes_share (grow p empty) (grow r empty) refl (is, tt) (is', tt) (ar, tt) (ar', tt))
      where
        of_trees : Outcome same_head same_head_decides (in_class_of classes) (grow p empty) (grow r empty) → Compared p r
        of_trees (clashes (suc i) q z e) = absurd (nothing_in {i = i} {q = q} (record { part = z.one.part; stands = z.one.stands; tested = z.one.tested }))
        of_trees (clashes zero q z e) = clash_first (record {
          at = q;
          clashes = record { one = record { part = z.one.part; stands = z.one.stands; tested = z.one.tested }; other = record { part = z.other.part; stands = z.other.stands; tested = z.other.tested }; clash = z.clash };
          before = λ s before. (λ t. one_in ((e 0 s (inr (refl, before))).0 (in_one t)), λ t. one_in ((e 0 s (inr (refl, before))).1 (in_one t)));
        })
        of_trees (common e f) = same_tests (λ q. (λ t. one_in ((e 0 q).0 (in_one t)), λ t. one_in ((e 0 q).1 (in_one t))))
            (λ q z. f 0 q (record { one = record { part = z.one.part; stands = z.one.stands; tested = z.one.tested }; other = record { part = z.other.part; stands = z.other.stands; tested = z.other.tested }; clash = z.clash }))
        of_trees (mismatches (suc i) q z e) = absurd (let y = z.one_stands in cc)
        of_trees (mismatches zero q z e) = mismatch_first (
          q,
          record {
            mismatch = record { one = z.one; other = z.other; one_stands = z.one_stands; other_stands = z.other_stands; differ = z.differ };
            before = λ s before. record {
              no_clash = λ m. (e 0 s (inr (refl, before))).0 (record { one = record { part = m.one.part; stands = m.one.stands; tested = m.one.tested }; other = record { part = m.other.part; stands = m.other.stands; tested = m.other.tested }; clash = m.clash });
              no_mismatch = λ m. (e 0 s (inr (refl, before))).1 (record { one = m.one; other = m.other; one_stands = m.one_stands; other_stands = m.other_stands; differ = m.differ });
            };
          },
        )

    -- a part of a pattern is a pattern, with the same numbers of arguments
    pub part_is : (ps : Forest (PatternCell Head)) (i : ℕ) (q : Position) (part : Tree (PatternCell Head)) → ArePatterns ps → HaveArities arity ps → subtree_in ps i q ≡ Some part → IsPattern part × HasArities arity part
    part_is empty i q part is ar e = absurd (cc)
    part_is (grow (node c us) ps) zero [] part is ar e =
        let same : node c us ≡ part = cc in subst (λ p. IsPattern p × HasArities arity p) same (is.0, ar.0)
    part_is (grow (node (fixed g) us) ps) zero (j ∷ q) part is ar e = part_is us j q part is.0 ar.0.1 e
    part_is (grow (node (variable x) us) ps) zero (j ∷ q) part is ar e = absurd (let z : subtree_in empty j q ≡ Some part = subst (λ z. subtree_in z j q ≡ Some part) is.0 e in cc)
    part_is (grow (node (restricted x class) us) ps) zero (j ∷ q) part is ar e = absurd (let z : subtree_in empty j q ≡ Some part = subst (λ z. subtree_in z j q ≡ Some part) is.0 e in cc)
    part_is (grow p ps) (suc i) q part is ar e = part_is ps i q part is.1 ar.1 e

    mutual
      pub pattern_of_arities : (p : Tree (PatternCell Head)) → HasArities arity p → IsPattern p
      pattern_of_arities (node (fixed h) ps) a = patterns_of_arities ps a.1
      pattern_of_arities (node (variable x) ps) a = a
      pattern_of_arities (node (restricted x class) ps) a = a

      patterns_of_arities : (ps : Forest (PatternCell Head)) → HaveArities arity ps → ArePatterns ps
      patterns_of_arities empty a = tt
      patterns_of_arities (grow p ps) a = (pattern_of_arities p a.0, patterns_of_arities ps a.1)
