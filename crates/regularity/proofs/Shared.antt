-- Two patterns have a common instance exactly where some term is an instance of both.
use Rattle.std.proofs.Common.{◌≡◌, ◌⊎◌, ℕ, zero, suc, ◌<◌, ◌≤◌, Bool, true, false, Some, inl, inr, pos, List, [], ◌∷◌, length, get_or, refl, sym, ◌∙◌, ap, subst, arith, ⊎_elim}
use Rattle.std.specs.Prelude.{◌↔◌, IsTrue, Contains}
use Rattle.std.specs.List.{AllByRecursion}
use Rattle.std.specs.Ordering.{int_eq}
use Rattle.std.proofs.lemmas.Bool.{cases_eq, cases_lt}
use Rattle.std.proofs.lemmas.Bool.Decides.{nat_tests, Decides-int_eq}
use Rattle.eq_base.specs.Tree.{Tree, Forest, node, empty, grow, head_of, count, Position, subtree_at, subtree_in}
use Rattle.eq_base.specs.Pattern.{PatternCell, fixed, variable, restricted, restrictions, all_restrictions, Classes, Meets, IsConstantOf}
use Rattle.eq_base.specs.Testing.{ClashAt}
use Rattle.eq_base.specs.ClassLists.{members_of}
use Rattle.eq_base.specs.Meeting.{in_symbol_class, same_head, in_class_of}
use Rattle.eq_base.specs.Sharing.{ShareHead}
use Rattle.eq_base.specs.declared.head.Head.{Head}
use Rattle.eq_base.specs.declared.head.Head.TheVariants.{Symbol, Numeral, Atom, Text}
use Rattle.eq_base.proofs.ClassMembers.{same_head_decides, symbol_class, listed_class}
use Rattle.eq_base.proofs.Clashing.{one_class, some_head}
use Rattle.eq_base.proofs.Heads.{some_same}
use Rattle.eq_base.proofs.Instances.{Fits, FitAll, fits_from_instance, instance_from_fits}
use Rattle.eq_base.proofs.Lists.{all_front, all_back}
use Rattle.regularity.specs.Arities.{HasArities, HaveArities}
use Rattle.regularity.specs.Common.{HaveCommon}
use Rattle.regularity.specs.Facing.{DoClash}
use Rattle.regularity.specs.Shared.{HaveHeads, AreCompatible, HaveSharedInstance}
use Rattle.regularity.proofs.Clashes.{clash_at}
use Rattle.regularity.proofs.Faces.{contains_first}
use Rattle.regularity.proofs.Filled.{linear_of_single, counts_same}

-- ---- a shared instance leaves no clash

module _ {H : Type 0} (in_class : Classes H) (arity : H → ℕ) where
  mutual
    -- where a pattern fits a tree, each part fits the subtree at its position
    fits_at : (p : Tree (PatternCell H)) (t : Tree H) (q : Position) (s : Tree (PatternCell H)) → HasArities arity p → subtree_at p q ≡ Some s → Fits in_class p t → (u : Tree H) × Fits in_class s u × (subtree_at t q ≡ Some u)
    fits_at p t [] s a e f = (t, subst (λ r. Fits in_class r t) (some_same p s e) f, refl)
    fits_at (node (fixed g) ps) (node h ts) (i ∷ q) s a e f = fit_at ps ts i q s a.1 e f.1
    fits_at (node (variable x) ps) t (i ∷ q) s a e f = absurd (let none = ap (λ rs. subtree_in rs i q) a in cc)
    fits_at (node (restricted x class) ps) t (i ∷ q) s a e f = absurd (let none = ap (λ rs. subtree_in rs i q) a in cc)

    fit_at : (ps : Forest (PatternCell H)) (ts : Forest H) (i : ℕ) (q : Position) (s : Tree (PatternCell H)) → HaveArities arity ps → subtree_in ps i q ≡ Some s → FitAll in_class ps ts → (u : Tree H) × Fits in_class s u × (subtree_in ts i q ≡ Some u)
    fit_at empty ts i q s a e f = absurd (cc)
    fit_at (grow p ps) empty i q s a e f = absurd f
    fit_at (grow p ps) (grow t ts) zero q s a e f = fits_at p t q s a.0 e f.0
    fit_at (grow p ps) (grow t ts) (suc i) q s a e f = fit_at ps ts i q s a.1 e f.1

  meets_root : (s : Tree (PatternCell H)) (u : Tree H) → Fits in_class s u → Meets in_class (head_of s) (head_of u)
  meets_root (node (fixed g) ps) (node h ts) f = f.0
  meets_root (node (variable x) ps) u f = tt
  meets_root (node (restricted x class) ps) (node h empty) f = f
  meets_root (node (restricted x class) ps) (node h (grow t ts)) f = absurd f

  no_clash : (p r : Tree (PatternCell H)) (t : Tree H) → HasArities arity p → HasArities arity r → Fits in_class p t → Fits in_class r t → (q : Position) → ClashAt in_class p r q → ⊥
  no_clash p r t a b f g q c =
      let one = fits_at p t q c.one.part a c.one.stands f in
      let other = fits_at r t q c.other.part b c.other.stands g in
      let same : other.0 ≡ one.0 = some_same other.0 one.0 (sym other.2 ∙ one.2) in
      c.clash (head_of one.0) (meets_root c.one.part one.0 one.1) (subst (λ u. Meets in_class (head_of c.other.part) (head_of u)) same (meets_root c.other.part other.0 other.1))

-- ---- heads and classes that do not clash

decided : {P : Type 0} (b : Bool) → IsTrue b ↔ P → P ⊎ (P → ⊥)
decided true d = inl (d.0 refl)
decided false d = inr (λ p. let h = d.1 p in cc)

same_or_not : (g h : Head) → (g ≡ h) ⊎ (g ≡ h → ⊥)
same_or_not (Symbol a) (Symbol b) = ⊎_elim (λ e. inl (ap Symbol e)) (λ differ. inr (λ e. differ (cc))) (cases_eq a b)
same_or_not (Numeral a) (Numeral b) = ⊎_elim (λ e. inl (ap Numeral e)) (λ differ. inr (λ e. differ (cc))) (decided (int_eq a b) (Decides-int_eq a b))
same_or_not (Atom a) (Atom b) = ⊎_elim (λ e. inl (ap Atom e)) (λ differ. inr (λ e. differ (cc))) (cases_eq a b)
same_or_not (Text a) (Text b) = ⊎_elim (λ e. inl (ap Text e)) (λ differ. inr (λ e. differ (cc))) (cases_eq a b)
same_or_not g h = inr (λ e. cc)

-- some head of the list passes the test, or none does
passes_or_not : (test : Head → Bool) (hs : List Head) → ((h : Head) × Contains hs h × IsTrue (test h)) ⊎ ((h : Head) → Contains hs h → IsTrue (test h) → ⊥)
passes_or_not test [] = inr (λ h c. absurd (omega (arith, c.1)))
passes_or_not test (g ∷ hs) =
    ⊎_elim (λ passes. inl (g, contains_first g hs, passes))
    (λ fails. ⊎_elim (λ found. inl (found.0, later g hs found.0 found.1, found.2)) (λ none. inr (λ h c passes. by_place h c.0 c.1 c.2 passes fails none)) (passes_or_not test hs))
    (decided (test g) (λ e. e, λ e. e))
  where
    later : (g : Head) (hs : List Head) (h : Head) → Contains hs h → Contains (g ∷ hs) h
    later g hs h c = (suc c.0, omega (arith, c.1), c.2)

    by_place : (h : Head) (n : ℕ) → n < suc (length hs) → get_or (g ∷ hs) n h ≡ h → IsTrue (test h) → (IsTrue (test g) → ⊥) → ((h : Head) → Contains hs h → IsTrue (test h) → ⊥) → ⊥
    by_place h zero lt e passes fails none = fails (subst (λ k. IsTrue (test k)) (sym e) passes)
    by_place h (suc n) lt e passes fails none = none h (n, omega arith, e) passes

module _ (classes : List (List Head)) where
  abbrev in_class : Classes Head
  in_class = in_class_of classes

  -- the cells do not clash
  abbrev Agree : PatternCell Head → PatternCell Head → Type 0
  Agree c d = DoClash in_class c d → ⊥

  same_heads : (g h : Head) → Agree (fixed g) (fixed h) → g ≡ h
  same_heads g h none = ⊎_elim (λ e. e) (λ differ. absurd (none (tt, tt, λ k e f. differ (e ∙ sym f)))) (same_or_not g h)

  of_class : (class : ℕ) (h : Head) → (((k : Head) → IsTrue (in_class class k) → h ≡ k → ⊥) → ⊥) → IsTrue (in_class class h)
  of_class class h none = by_answer (in_class class h) refl
    where
      by_answer : (b : Bool) → in_class class h ≡ b → IsTrue (in_class class h)
      by_answer true e = e
      by_answer false e = absurd (none (λ k inside same. let again = ap (in_class class) same in cc))

  as_symbols : (class : ℕ) (h : Head) → class < 4 → in_class class h ≡ in_symbol_class class h
  as_symbols class h lt = symbol_class same_head same_head_decides in_symbol_class classes class h lt

  -- some member of the class of the file belongs to the other class, or none does
  member_or_not : (listed class : ℕ) → 4 ≤ listed → ShareHead classes listed class ⊎ (ShareHead classes listed class → ⊥)
  member_or_not listed class le =
      ⊎_elim
      (λ m. inl (m.0, (listed_class same_head same_head_decides in_symbol_class classes listed m.0 le).1 m.1, m.2))
      (λ none. inr (λ s. none s.0 ((listed_class same_head same_head_decides in_symbol_class classes listed s.0 le).0 s.1) s.2))
      (passes_or_not (in_class class) (members_of classes listed))

  symbols_or_not : (one other : ℕ) → one < 4 → other < 4 → ShareHead classes one other ⊎ (ShareHead classes one other → ⊥)
  symbols_or_not one other lt lt' =
      ⊎_elim
      (λ e. let s = some_head one lt in let here = as_symbols one s.0 lt ∙ s.1 in inl (s.0, here, subst (λ k. IsTrue (in_class k s.0)) e here))
      (λ differ. inr (λ s. differ (one_class one other s.0 (sym (as_symbols one s.0 lt) ∙ s.1) (sym (as_symbols other s.0 lt') ∙ s.2))))
      (cases_eq one other)

  -- some head belongs to both classes, or none does
  shared_or_not : (one other : ℕ) → ShareHead classes one other ⊎ (ShareHead classes one other → ⊥)
  shared_or_not one other =
      ⊎_elim
      (λ lt. ⊎_elim
      (λ lt'. symbols_or_not one other lt lt')
      (λ past. ⊎_elim (λ s. inl (s.0, s.2, s.1)) (λ none. inr (λ s. none (s.0, s.2, s.1))) (member_or_not other one past))
      (cases_lt other 4))
      (λ past. member_or_not one other past)
      (cases_lt one 4)

  share_of_agree : (x y one other : ℕ) → Agree (restricted x one) (restricted y other) → ShareHead classes one other
  share_of_agree x y one other none = ⊎_elim (λ s. s) (λ apart. absurd (none (tt, tt, λ h a b. apart (h, a, b)))) (shared_or_not one other)

  -- a head of both classes, if there is one
  abbrev common_head : ℕ → ℕ → Head
  common_head one other = ⊎_elim (λ s. s.0) (λ none. Symbol 0) (shared_or_not one other)

  common_in : (one other : ℕ) → ShareHead classes one other → IsTrue (in_class one (common_head one other)) × IsTrue (in_class other (common_head one other))
  common_in one other share = by_answer (shared_or_not one other)
    where
      by_answer : (a : ShareHead classes one other ⊎ (ShareHead classes one other → ⊥)) →
          IsTrue (in_class one (⊎_elim (λ (s : ShareHead classes one other). s.0) (λ none. Symbol 0) a)) × IsTrue (in_class other (⊎_elim (λ (s : ShareHead classes one other). s.0) (λ none. Symbol 0) a))
      by_answer (inl s) = (s.1, s.2)
      by_answer (inr none) = absurd (none share)

  constant_in : (class : ℕ) (h : Head) → IsTrue (in_class class h) → IsTrue (in_class class (common_head class class))
  constant_in class h inside = (common_in class class (h, inside, inside)).0

-- ---- a term that is an instance of both

abbrev Pattern : Type 0
Pattern = Tree (PatternCell Head)

abbrev Patterns : Type 0
Patterns = Forest (PatternCell Head)

module _ (classes : List (List Head)) where
  -- the pattern with a constant in the place of each variable
  abbrev mutual
    filled : Pattern → Tree Head
    filled (node (fixed h) ps) = node h (all_filled ps)
    filled (node (variable x) ps) = node (Symbol 0) empty
    filled (node (restricted x class) ps) = node (common_head classes class class) empty

    all_filled : Patterns → Forest Head
    all_filled empty = empty
    all_filled (grow p ps) = grow (filled p) (all_filled ps)

  -- two patterns in one, with constants of both where neither has a head
  abbrev mutual
    both_filled : Pattern → Pattern → Tree Head
    both_filled (node (fixed g) ps) (node (fixed h) rs) = node g (all_both_filled ps rs)
    both_filled (node (fixed g) ps) (node (variable y) rs) = node g (all_filled ps)
    both_filled (node (fixed g) ps) (node (restricted y other) rs) = node g (all_filled ps)
    both_filled (node (variable x) ps) r = filled r
    both_filled (node (restricted x class) ps) (node (fixed h) rs) = node h (all_filled rs)
    both_filled (node (restricted x class) ps) (node (variable y) rs) = node (common_head classes class class) empty
    both_filled (node (restricted x class) ps) (node (restricted y other) rs) = node (common_head classes class other) empty

    all_both_filled : Patterns → Patterns → Forest Head
    all_both_filled (grow p ps) (grow r rs) = grow (both_filled p r) (all_both_filled ps rs)
    all_both_filled (grow p ps) empty = empty
    all_both_filled empty rs = empty

  abbrev pub HasHead : ℕ × ℕ → Type 0
  HasHead r = (h : Head) × IsTrue (in_class_of classes r.1 h)

  abbrev pub AllHaveHeads : Patterns → Type 0
  AllHaveHeads ps = AllByRecursion HasHead (all_restrictions ps)

  first_heads : (p : Pattern) (ps : Patterns) → AllHaveHeads (grow p ps) → HaveHeads classes p
  first_heads p ps k = all_front HasHead (restrictions p) (all_restrictions ps) k

  later_heads : (p : Pattern) (ps : Patterns) → AllHaveHeads (grow p ps) → AllHaveHeads ps
  later_heads p ps k = all_back HasHead (restrictions p) (all_restrictions ps) k

  mutual
    fits_filled : (p : Pattern) → HaveHeads classes p → Fits (in_class_of classes) p (filled p)
    fits_filled (node (fixed h) ps) k = (refl, fit_filled ps k)
    fits_filled (node (variable x) ps) k = tt
    fits_filled (node (restricted x class) ps) k = constant_in classes class k.0.0 k.0.1

    fit_filled : (ps : Patterns) → AllHaveHeads ps → FitAll (in_class_of classes) ps (all_filled ps)
    fit_filled empty k = tt
    fit_filled (grow p ps) k = (fits_filled p (first_heads p ps k), fit_filled ps (later_heads p ps k))

  constant_fits : (class : ℕ) (h : Head) (ps : Patterns) → IsTrue (in_class_of classes class h) → count ps ≡ 0 → IsConstantOf (in_class_of classes) class (node h (all_filled ps))
  constant_fits class h empty inside none = inside
  constant_fits class h (grow p ps) inside none = absurd (omega arith)

  -- no two cells at one position clash
  abbrev AgreeAll : Pattern → Pattern → Type 0
  AgreeAll p r = (q : Position) (t u : Pattern) → subtree_at p q ≡ Some t → subtree_at r q ≡ Some u → Agree classes (head_of t) (head_of u)

  abbrev AgreeIn : Patterns → Patterns → Type 0
  AgreeIn ps rs = (i : ℕ) (q : Position) (t u : Pattern) → subtree_in ps i q ≡ Some t → subtree_in rs i q ≡ Some u → Agree classes (head_of t) (head_of u)

  module _ (arity : Head → ℕ) (constants : (class : ℕ) (h : Head) → IsTrue (in_class_of classes class h) → arity h ≡ 0) where
    mutual
      fits_one : (p r : Pattern) → HasArities arity p → HasArities arity r → HaveHeads classes p → AgreeAll p r → Fits (in_class_of classes) p (both_filled p r)
      fits_one (node (fixed g) us) (node (fixed h) vs) a b k none =
          (refl, fit_one us vs a.1 b.1 k (λ i q t u e f. none (i ∷ q) t u e f) (counts_same (in_class_of classes) arity g h us vs a.0 b.0 (none [] (node (fixed g) us) (node (fixed h) vs) refl refl)))
      fits_one (node (fixed g) us) (node (variable y) vs) a b k none = (refl, fit_filled us k)
      fits_one (node (fixed g) us) (node (restricted y class) vs) a b k none = (refl, fit_filled us k)
      fits_one (node (variable x) us) r a b k none = tt
      fits_one (node (restricted x class) us) (node (fixed h) vs) a b k none =
          let inside = of_class classes class h (λ clash. none [] (node (restricted x class) us) (node (fixed h) vs) refl refl (tt, tt, clash)) in
          constant_fits class h vs inside (b.0 ∙ constants class h inside)
      fits_one (node (restricted x class) us) (node (variable y) vs) a b k none = constant_in classes class k.0.0 k.0.1
      fits_one (node (restricted x class) us) (node (restricted y other) vs) a b k none =
          (common_in classes class other (share_of_agree classes x y class other (none [] (node (restricted x class) us) (node (restricted y other) vs) refl refl))).0

      fit_one : (ps rs : Patterns) → HaveArities arity ps → HaveArities arity rs → AllHaveHeads ps → AgreeIn ps rs → count ps ≡ count rs → FitAll (in_class_of classes) ps (all_both_filled ps rs)
      fit_one empty empty a b k none e = tt
      fit_one empty (grow r rs) a b k none e = absurd (omega arith)
      fit_one (grow p ps) empty a b k none e = absurd (omega arith)
      fit_one (grow p ps) (grow r rs) a b k none e =
          (fits_one p r a.0 b.0 (first_heads p ps k) (λ q t u f g. none 0 q t u f g), fit_one ps rs a.1 b.1 (later_heads p ps k) (λ i q t u f g. none (suc i) q t u f g) (omega arith))

    mutual
      fits_other : (p r : Pattern) → HasArities arity p → HasArities arity r → HaveHeads classes r → AgreeAll p r → Fits (in_class_of classes) r (both_filled p r)
      fits_other (node (fixed g) us) (node (fixed h) vs) a b l none =
          let root = none [] (node (fixed g) us) (node (fixed h) vs) refl refl in
          (sym (same_heads classes g h root), fit_other us vs a.1 b.1 l (λ i q t u e f. none (i ∷ q) t u e f) (counts_same (in_class_of classes) arity g h us vs a.0 b.0 root))
      fits_other (node (fixed g) us) (node (variable y) vs) a b l none = tt
      fits_other (node (fixed g) us) (node (restricted y class) vs) a b l none =
          let inside = of_class classes class g (λ clash. none [] (node (fixed g) us) (node (restricted y class) vs) refl refl (tt, tt, λ h same within. clash h within same)) in
          constant_fits class g us inside (a.0 ∙ constants class g inside)
      fits_other (node (variable x) us) r a b l none = fits_filled r l
      fits_other (node (restricted x other) us) (node (fixed h) vs) a b l none = (refl, fit_filled vs l)
      fits_other (node (restricted x other) us) (node (variable y) vs) a b l none = tt
      fits_other (node (restricted x other) us) (node (restricted y class) vs) a b l none =
          (common_in classes other class (share_of_agree classes x y other class (none [] (node (restricted x other) us) (node (restricted y class) vs) refl refl))).1

      fit_other : (ps rs : Patterns) → HaveArities arity ps → HaveArities arity rs → AllHaveHeads rs → AgreeIn ps rs → count ps ≡ count rs → FitAll (in_class_of classes) rs (all_both_filled ps rs)
      fit_other empty empty a b l none e = tt
      fit_other empty (grow r rs) a b l none e = absurd (omega arith)
      fit_other (grow p ps) empty a b l none e = absurd (omega arith)
      fit_other (grow p ps) (grow r rs) a b l none e =
          (fits_other p r a.0 b.0 (first_heads r rs l) (λ q t u f g. none 0 q t u f g), fit_other ps rs a.1 b.1 (later_heads r rs l) (λ i q t u f g. none (suc i) q t u f g) (omega arith))

-- ---- the law

pub common_is_shared : (classes : List (List Head)) (p r : Pattern) → AreCompatible classes p r → HaveCommon (in_class_of classes) p r ↔ HaveSharedInstance classes p r
common_is_shared classes p r both = (
  λ common.
      let none : AgreeAll classes p r = λ q t u e f clash. common q (clash_at (in_class_of classes) p r q t u e f clash) in
      let t = both_filled classes p r in (
        t,
        instance_from_fits (in_class_of classes) p t (linear_of_single both.arity p both.one both.one_linear) (fits_one classes both.arity both.constants p r both.one both.other both.one_classes none),
        instance_from_fits (in_class_of classes) r t (linear_of_single both.arity r both.other both.other_linear) (fits_other classes both.arity both.constants p r both.one both.other both.other_classes none),
      ),
  λ shared.
      no_clash (in_class_of classes) both.arity p r shared.0 both.one both.other (fits_from_instance (in_class_of classes) p shared.0 shared.1) (fits_from_instance (in_class_of classes) r shared.0 shared.2),
)
