-- An orthogonal system's rules are regular as tests.
use Rattle.std.proofs.Common.{◌≡◌, ℕ, zero, suc, ◌∷◌, Bool, ◌⊎◌, inl, inr, refl, sym, ap, subst, arith}
use Rattle.std.specs.Prelude.{◌↔◌, Contains, slice_get}
use Rattle.std.proofs.lemmas.Bool.{cases_lt}
use Rattle.eq_base.specs.Tree.{Tree, node, empty, grow, Position, IsBefore}
use Rattle.eq_base.specs.Pattern.{PatternCell, fixed, variable, restricted}
use Rattle.eq_base.specs.Testing.{IsTestedAt, IsPattern}
use Rattle.orthogonal_laws.specs.Orthogonal.{TestSame, ClashFirst, IsWellFormedSystem, IsOrthogonal}
use Rattle.eq_base.specs.Rewriting.{Rule, System}
use Rattle.orthogonal_laws.specs.Orthogonal as orthogonal
use Rattle.orthogonal_laws.proofs.Members.{contains-in, in-contains, map-in, in-get}
use Rattle.orthogonal_laws.proofs.LeftSides.{Label, Patterns, Last, Test, Compiled, IsPart, left, Counted, Alike, Clash, SameRight, Regular}
use Rattle.orthogonal_laws.proofs.Translation.{args_tests, tests-counted}
use Rattle.orthogonal_laws.proofs.Redexes.{root_tested, compile, compiled, left_tests, whole, tests-instance}
use Rattle.orthogonal_laws.proofs.SameReading.{same_reading}
use Rattle.orthogonal_laws.proofs.Comparing.{alike_itself, alike_turned, clash_turned, TestedIn, nothing_in, compare, clash_first, part_at}

-- the one tree of a list
abbrev in_one : {H : Type 0} {p : Tree (PatternCell H)} {q : Position} → IsTestedAt p q → TestedIn (grow p empty) 0 q
in_one t = record { part = t.part; stands = t.stands; tested = t.tested }

abbrev one_in : {H : Type 0} {p : Tree (PatternCell H)} {q : Position} → TestedIn (grow p empty) 0 q → IsTestedAt p q
one_in t = record { part = t.part; stands = t.stands; tested = t.tested }

module _ {H : Type 0} (system : System H) (w : IsWellFormedSystem system) (o : IsOrthogonal system) where
  -- trees that clash first
  pub trees_clash : (p r : Tree (PatternCell H)) → IsPattern p → IsPattern r → ClashFirst system.in_class p r → Clash (left_tests system w p) (left_tests system w r)
  trees_clash p r a b c =
      clash_first w.same w.decides system.in_class (grow p empty) (grow r empty) (a, tt) (b, tt) 0 c.at
      (record { one = in_one c.clashes.one; other = in_one c.clashes.other; clash = c.clashes.clash })
      (λ j q before. before_same j q before)
    where
      before_same : (j : ℕ) (q : Position) → IsBefore (j ∷ q) (0 ∷ c.at) → TestedIn (grow p empty) j q ↔ TestedIn (grow r empty) j q
      before_same zero q (inl less) = absurd (omega arith)
      before_same zero q (inr same) = (λ t. in_one ((c.before q same.1).0 (one_in t)), λ t. in_one ((c.before q same.1).1 (one_in t)))
      before_same (suc j) q (inl less) = absurd (omega arith)
      before_same (suc j) q (inr same) = absurd (let z = same.0 in omega (arith, z))

  pub trees_same : (p r : Tree (PatternCell H)) → IsPattern p → IsPattern r → TestSame p r → Alike (left_tests system w p) (left_tests system w r) ⊎ Clash (left_tests system w p) (left_tests system w r)
  trees_same p r a b s = compare w.same w.decides system.in_class (grow p empty) (grow r empty) refl (a, tt) (b, tt) (λ i q. same_in i q)
    where
      same_in : (i : ℕ) (q : Position) → TestedIn (grow p empty) i q ↔ TestedIn (grow r empty) i q
      same_in zero q = (λ t. in_one ((s q).0 (one_in t)), λ t. in_one ((s q).1 (one_in t)))
      same_in (suc i) q = (λ t. absurd (nothing_in {i = i} {q = q} (record { part = t.part; stands = t.stands; tested = t.tested })), λ t. absurd (nothing_in {i = i} {q = q} (record { part = t.part; stands = t.stands; tested = t.tested })))

  whole_left : (a : Rule H) → Contains system.rules a → left_tests system w a.left ≡ left (compile system w a)
  whole_left a i = whole system w a.left (root_tested system w a i)

  -- two rules of the list
  related : (a b : Rule H) → Contains system.rules a → Contains system.rules b → ClashFirst system.in_class a.left b.left ⊎ (TestSame a.left b.left × orthogonal.SameRight system a b) → Clash (left (compile system w a)) (left (compile system w b)) ⊎ SameRight (compile system w a) (compile system w b)
  related a b i j (inl c) = inl (rw (← whole_left a i, ← whole_left b j) (trees_clash a.left b.left (w.patterns a i) (w.patterns b j) c))
  related a b i j (inr s) =
      elim (trees_same a.left b.left (w.patterns a i) (w.patterns b j) s.0) [
        | inr c ↦ inl (rw (← whole_left a i, ← whole_left b j) c)
        | inl x ↦ inr (rw (← whole_left a i, ← whole_left b j) x, λ h us e e' m m'. same_reading system w o a b i j x s.1 h (node h us) (tests-instance system w o a i h us e m) (tests-instance system w o b j h us e' m'))
      ]

  turned : (a b : Compiled H) → Clash (left a) (left b) ⊎ SameRight a b → Clash (left b) (left a) ⊎ SameRight b a
  turned a b (inl c) = inl (clash_turned c)
  turned a b (inr s) = inr (alike_turned s.0, λ h us e e' m m'. sym (s.1 h us e' e m' m))

  itself : (a : Compiled H) → SameRight a a
  itself a = (alike_itself (left a), λ h us e e' m m'. refl)

  roots_related : (a b : Rule H) → Contains system.rules a → Contains system.rules b → Clash (left (compile system w a)) (left (compile system w b)) ⊎ SameRight (compile system w a) (compile system w b)
  roots_related a b i j =
      let m = in-get (contains-in i) in
      let n = in-get (contains-in j) in
      elim (cases_lt m.0 n.0) [
        | inl less ↦ related a b i j (o.roots m.0 n.0 a b less m.1 n.1)
        | inr le ↦ elim (cases_lt n.0 m.0) [
          | inl less ↦ turned (compile system w b) (compile system w a) (related b a j i (o.roots n.0 m.0 b a less n.1 m.1))
          | inr ge ↦
              let e : m.0 ≡ n.0 = omega arith in
              let s : a ≡ b = let z = ap (slice_get system.rules) e in cc (z, m.1, n.1) in
              inr (subst (λ x. SameRight (compile system w a) (compile system w x)) s (itself (compile system w a)))
        ]
      ]

  part_clash : (a b : Rule H) → Contains system.rules a → Contains system.rules b → (test : Label H → Bool) (ps : Patterns H) → IsPart test ps (args_tests w.same system.in_class a.left) → Clash (Test test ps Last) (left (compile system w b))
  part_clash a b i j test ps p = go a.left refl (w.patterns a i) p
    where
      go : (l : Tree (PatternCell H)) → a.left ≡ l → IsPattern l → IsPart test ps (args_tests w.same system.in_class l) → Clash (Test test ps Last) (left (compile system w b))
      go (node (variable x) us) e ar p = elim p [ ]
      go (node (restricted x class) us) e ar p = elim p [ ]
      go (node (fixed g) us) e ar p =
          let x = part_at w.same w.decides system.in_class us ar p in
          let there : IsTestedAt (node (fixed g) us) (x.i ∷ x.at) = record { part = x.tested.part; stands = x.tested.stands; tested = x.tested.tested } in
          let moved = subst (λ l. (t : IsTestedAt l (x.i ∷ x.at)) → ClashFirst system.in_class t.part b.left) e (λ t. o.parts a b i j (x.i ∷ x.at) (λ n. absurd (cc)) t) in
          rw (← x.is, ← whole_left b j) (trees_clash x.tested.part b.left x.is_pattern (w.patterns b j) (moved there))

  pub orthogonal-regular : Regular (compiled system w)
  orthogonal-regular = record {
    counted = λ a i.
        let x = map-in (compile system w) system.rules a (contains-in i) in
        subst (λ z. Counted (left z)) x.2 (subst (λ z. Counted z) (whole_left x.0 (in-contains x.1)) (tests-counted w.same system.in_class (grow x.0.left empty)));
    roots = λ a b i j.
        let x = map-in (compile system w) system.rules a (contains-in i) in
        let y = map-in (compile system w) system.rules b (contains-in j) in
        subst (λ z. Clash (left a) (left z) ⊎ SameRight a z) y.2 (subst (λ z. Clash (left z) (left (compile system w y.0)) ⊎ SameRight z (compile system w y.0)) x.2 (roots_related x.0 y.0 (in-contains x.1) (in-contains y.1)));
    parts = λ a b i j test ps p.
        let x = map-in (compile system w) system.rules a (contains-in i) in
        let y = map-in (compile system w) system.rules b (contains-in j) in
        subst (λ z. Clash (Test test ps Last) (left z)) y.2 (part_clash x.0 y.0 (in-contains x.1) (in-contains y.1) test ps (subst (λ z. IsPart test ps z.args) (sym x.2) p));
  }
