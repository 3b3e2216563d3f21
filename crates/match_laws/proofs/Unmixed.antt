-- No reachable item set of an orthogonal system is mixed.
use Rattle.std.proofs.Common.{◌≡◌, ℕ, suc, ◌+◌, ◌<◌, ◌≤◌, List, [], refl, sym, ◌∙◌, ap, subst, arith, ⊎_elim, ◌⊎◌, inl, inr}
use Rattle.std.specs.Prelude.{IsTrue, ◌≢◌, Contains, Some, slice_get}
use Rattle.std.proofs.lemmas.Bool.{cases_lt}
use Rattle.eq_base.specs.Tree.{Tree, Forest, node, empty, grow, head_of, args_of, size, nth_subtree, nth_position, number}
use Rattle.eq_base.specs.Pattern.{PatternCell, fixed, variable, restricted, IsTested, Meets}
use Rattle.eq_base.specs.Testing.{IsTestedAt}
use Rattle.eq_base.specs.Rewriting.{Rule, System}
use Rattle.eq_base.proofs.Scans.{forest_from, forest_from-start}
use Rattle.eq_base.proofs.Positions.{subtree_at-nth_position}
use Rattle.eq_base.proofs.Replacing.{number-nth_position}
use Rattle.regularity.specs.Arities.{HasArities}
use Rattle.regularity.proofs.Listed.{nth_subtree-zero}
use Rattle.orthogonal_laws.specs.Orthogonal.{IsHead, ClashFirst, IsWellFormedSystem, IsOrthogonal}
use Rattle.orthogonal_laws.proofs.Members.{in-contains, get-in}
use Rattle.orthogonal_laws.proofs.LeftSides as tests_of_left_sides
use Rattle.orthogonal_laws.proofs.LeftSides.{Alike}
use Rattle.orthogonal_laws.proofs.Translation.{tests}
use Rattle.orthogonal_laws.proofs.Comparing.{alike_itself}
use Rattle.orthogonal_laws.proofs.Regularity.{trees_clash, trees_same}
use Rattle.match_laws.specs.Items.{ItemSet, IsMet}
use Rattle.match_laws.specs.Reachable.{IsReachable, start, by_read, by_skip}
use Rattle.match_laws.specs.Demand.{left_sides}
use Rattle.match_laws.proofs.Passing.{AllUnmixed, Suits, cell-there, cell-is, part-arities, from-node, from-suc, not-root}
use Rattle.match_laws.proofs.Demanding.{behind}
use Rattle.match_laws.proofs.Beside.{Beside, end, is_pattern, alike-beside, clash-beside, turned, beside-met, beside-open, beside-mixed}

head_tested : {H : Type 0} (c : PatternCell H) → IsHead c → IsTested c
head_tested (fixed g) i = tt
head_tested (variable x) i = i
head_tested (restricted x class) i = absurd i

plain_args : {H : Type 0} (arity : H → ℕ) (u : Tree (PatternCell H)) → HasArities arity u → (IsTested (head_of u) → ⊥) → args_of u ≡ empty
plain_args arity (node (fixed g) us) a n = absurd (n tt)
plain_args arity (node (variable x) us) a n = a
plain_args arity (node (restricted x class) us) a n = absurd (n tt)

module _ {H : Type 0} (system : System H) (w : IsWellFormedSystem system) (arity : H → ℕ) (arities : (rule : Rule H) → Contains system.rules rule → HasArities arity rule.left) (constants : (class : ℕ) (h : H) → IsTrue (system.in_class class h) → arity h ≡ 0) where
  abbrev lefts : List (Tree (PatternCell H))
  lefts = left_sides system

  among : (e : ℕ) (rule : Rule H) → slice_get system.rules e ≡ Some rule → Contains system.rules rule
  among e rule l = in-contains (get-in system.rules e rule l)

  pub suits : Suits system.in_class lefts arity
  suits = record {
    arities = λ e left l. let b = behind system e left l in subst (HasArities arity) b.is (arities b.rule (among e b.rule b.listed));
    constants = constants;
    roots = λ e left l. let b = behind system e left l in subst (λ p. IsTested (head_of p)) b.is (head_tested (head_of b.rule.left) (w.roots b.rule (among e b.rule b.listed)));
  }

module _ {H : Type 0} (system : System H) (w : IsWellFormedSystem system) (o : IsOrthogonal system) (arity : H → ℕ) (arities : (rule : Rule H) → Contains system.rules rule → HasArities arity rule.left) (constants : (class : ℕ) (h : H) → IsTrue (system.in_class class h) → arity h ≡ 0) where
  abbrev own : Suits system.in_class (left_sides system) arity
  own = suits system w arity arities constants

  abbrev lefts_here : List (Tree (PatternCell H))
  lefts_here = left_sides system

  abbrev tests_in : Forest (PatternCell H) → tests_of_left_sides.Patterns H
  tests_in ps = tests w.same system.in_class ps

  -- ---- two trees

  beside-clash : (p r : Tree (PatternCell H)) → HasArities arity p → HasArities arity r → ClashFirst system.in_class p r → (ps : Forest (PatternCell H)) → Beside system.in_class (grow p ps) (grow r empty)
  beside-clash p r a b c ps =
      clash-beside w.same w.decides system.in_class arity constants (grow p empty) (grow r empty) (a, tt) (b, tt)
      (trees_clash system w o p r (is_pattern w.same w.decides system.in_class arity constants p a) (is_pattern w.same w.decides system.in_class arity constants r b) c) ps empty

  beside-alike : (p r : Tree (PatternCell H)) → HasArities arity p → HasArities arity r → Alike (tests_in (grow p empty)) (tests_in (grow r empty)) ⊎ tests_of_left_sides.Clash (tests_in (grow p empty)) (tests_in (grow r empty)) → Beside system.in_class (grow p empty) (grow r empty)
  beside-alike p r a b (inl x) = alike-beside w.same w.decides system.in_class arity constants (grow p empty) (grow r empty) (a, tt) (b, tt) x empty empty end
  beside-alike p r a b (inr x) = clash-beside w.same w.decides system.in_class arity constants (grow p empty) (grow r empty) (a, tt) (b, tt) x empty empty

  -- two left sides, the first rule before the second
  in-order : (i j : ℕ) (a b : Rule H) → i < j → slice_get system.rules i ≡ Some a → slice_get system.rules j ≡ Some b → Beside system.in_class (grow a.left empty) (grow b.left empty)
  in-order i j a b less l l' =
      let m = arities a (among system w arity arities constants i a l) in
      let n = arities b (among system w arity arities constants j b l') in
      elim (o.roots i j a b less l l') [
        | inl c ↦ beside-clash a.left b.left m n c empty
        | inr s ↦ beside-alike a.left b.left m n (trees_same system w o a.left b.left (is_pattern w.same w.decides system.in_class arity constants a.left m) (is_pattern w.same w.decides system.in_class arity constants b.left n) s.0)
      ]

  roots-beside : (i j : ℕ) (a b : Rule H) → slice_get system.rules i ≡ Some a → slice_get system.rules j ≡ Some b → Beside system.in_class (grow a.left empty) (grow b.left empty)
  roots-beside i j a b l l' =
      ⊎_elim
      (λ less. in-order i j a b less l l')
      (λ le. ⊎_elim
      (λ more. turned system.in_class (in-order j i b a more l' l))
      (λ ge.
      let e : i ≡ j = omega arith in
      let same : a ≡ b = let z = ap (slice_get system.rules) e in cc in
      let m = arities a (among system w arity arities constants i a l) in
      subst (λ (r : Rule H). Beside system.in_class (grow a.left empty) (grow r.left empty)) same (beside-alike a.left a.left m m (inl (alike_itself (tests_in (grow a.left empty))))))
      (cases_lt j i))
      (cases_lt i j)

  -- a tested cell of a left side, beside the root of another
  begins : (e k : ℕ) (left other : Tree (PatternCell H)) (l : slice_get lefts_here e ≡ Some left) (l' : slice_get lefts_here k ≡ Some other) (b : ℕ) → b < size left → IsTested (head_of (nth_subtree left b)) → Beside system.in_class (forest_from left b) (forest_from other 0)
  begins e k left other l l' b lt tested =
      let x = behind system e left l in
      let y = behind system k other l' in
      ⊎_elim
      (λ more.
      let q = nth_position left b in
      let at = subtree_at-nth_position left b lt in
      let n = number-nth_position left b lt in
      let below : q ≢ [] = λ z. let m : number left q ≡ 0 = ap (number left) z ∙ at_root left in omega (arith, n, m) in
      let test : IsTestedAt left q = record { part = nth_subtree left b; stands = at; tested = tested } in
      let clash = subst (λ p. (t : IsTestedAt p q) → ClashFirst system.in_class t.part y.rule.left) x.is (λ t. o.parts x.rule y.rule (among system w arity arities constants e x.rule x.listed) (among system w arity arities constants k y.rule y.listed) q below t) in
      let clash' : ClashFirst system.in_class (nth_subtree left b) other = subst (ClashFirst system.in_class (nth_subtree left b)) y.is (clash test) in
      rw (forest_from-start other) (subst (λ ps. Beside system.in_class ps (grow other empty)) (sym (from-node system.in_class lefts_here arity own e left l b lt))
      (beside-clash (nth_subtree left b) other (part-arities system.in_class lefts_here arity own e left l b lt) (own.arities k other l') clash' (forest_from left (b + size (nth_subtree left b))))))
      (λ none.
      let z : b ≡ 0 = omega arith in
      let both = roots-beside e k x.rule y.rule x.listed y.listed in
      rw (z, forest_from-start left, forest_from-start other)
      (subst (λ p. Beside system.in_class (grow left empty) (grow p empty)) y.is (subst (λ p. Beside system.in_class (grow p empty) (grow y.rule.left empty)) x.is both)))
      (cases_lt 0 b)
    where
      at_root : (t : Tree (PatternCell H)) → number t [] ≡ 0
      at_root (node c us) = refl

  -- ---- all reachable item sets

  -- items that one head meets, one cell further, where those below the roots are beside each other
  met-pair : (items : ItemSet) → ((e k : ℕ) (left other : Tree (PatternCell H)) → slice_get lefts_here e ≡ Some left → slice_get lefts_here k ≡ Some other → (c d : ℕ) → Contains items (e, c) → Contains items (k, d) → d ≤ c → Beside system.in_class (forest_from left c) (forest_from other d)) →
      (h : H) (e k : ℕ) (left other : Tree (PatternCell H)) → slice_get lefts_here e ≡ Some left → slice_get lefts_here k ≡ Some other → (c d : ℕ) → IsMet system.in_class lefts_here items h e c → IsMet system.in_class lefts_here items h k d → d ≤ c → Beside system.in_class (forest_from left (suc c)) (forest_from other (suc d))
  met-pair items pairs h e k left other l l' c d f g le =
      let lt = cell-there system.in_class lefts_here arity own e left l c f.cell f.is_cell in
      let lt' = cell-there system.in_class lefts_here arity own k other l' d g.cell g.is_cell in
      let is = cell-is system.in_class lefts_here arity own e left l c f.cell f.is_cell in
      let is' = cell-is system.in_class lefts_here arity own k other l' d g.cell g.is_cell in
      let u = nth_subtree left c in
      let v = nth_subtree other d in
      let tested : IsTested (head_of u) = subst IsTested (sym is) f.tested in
      let meets : Meets system.in_class (head_of u) h = subst (λ z. Meets system.in_class z h) (sym is) f.meets in
      let meets' : Meets system.in_class (head_of v) h = subst (λ z. Meets system.in_class z h) (sym is') g.meets in
      let here : Beside system.in_class (forest_from left c) (forest_from other d) =
      ⊎_elim
      (λ more. pairs e k left other l l' c d
      (not-root system.in_class lefts_here arity own e left l items c (omega (arith, le)) f.held)
      (not-root system.in_class lefts_here arity own k other l' items d more g.held)
      le)
      (λ none. let z : 0 ≡ d = omega arith in subst (λ b. Beside system.in_class (forest_from left c) (forest_from other b)) z (begins e k left other l l' c lt tested))
      (cases_lt 0 d) in
      let opened = subst (λ ps. Beside system.in_class ps (grow v (forest_from other (d + size v)))) (from-node system.in_class lefts_here arity own e left l c lt) (subst (λ qs. Beside system.in_class (forest_from left c) qs) (from-node system.in_class lefts_here arity own k other l' d lt') here) in
      let further = beside-met system.in_class u v (forest_from left (c + size u)) (forest_from other (d + size v)) h opened tested meets meets' in
      rw (from-suc system.in_class lefts_here arity own e left l c lt, from-suc system.in_class lefts_here arity own k other l' d lt') further

  pub paired : {items : ItemSet} → IsReachable system.in_class lefts_here items → (e k : ℕ) (left other : Tree (PatternCell H)) → slice_get lefts_here e ≡ Some left → slice_get lefts_here k ≡ Some other → (c d : ℕ) → Contains items (e, c) → Contains items (k, d) → d ≤ c → Beside system.in_class (forest_from left c) (forest_from other d)
  paired start e k left other l l' c d x y le = absurd (omega (arith, x.1))
  paired (by_read {items = items} h r n) e k left other l l' c d x y le =
      let f = (n.exactly e c).0 x in
      let g = (n.exactly k d).0 y in
      rw (f.further, g.further) (met-pair items (paired r) h e k left other l l' f.before g.before f.this g.this (omega (arith, f.further, g.further, le)))
  paired (by_skip {items = items} r n) e k left other l l' c d x y le =
      let f = (n.exactly e c).0 x in
      let g = (n.exactly k d).0 y in
      let lt = cell-there system.in_class lefts_here arity own e left l f.before (variable f.this.x) f.this.is_cell in
      let lt' = cell-there system.in_class lefts_here arity own k other l' g.before (variable g.this.x) g.this.is_cell in
      let is = cell-is system.in_class lefts_here arity own e left l f.before (variable f.this.x) f.this.is_cell in
      let is' = cell-is system.in_class lefts_here arity own k other l' g.before (variable g.this.x) g.this.is_cell in
      let u = nth_subtree left f.before in
      let v = nth_subtree other g.before in
      let plain : IsTested (head_of u) → ⊥ = λ z. subst IsTested is z in
      let plain' : IsTested (head_of v) → ⊥ = λ z. subst IsTested is' z in
      let more : 0 < g.before =
      ⊎_elim (λ more. more)
      (λ none. let z : g.before ≡ 0 = omega arith in
      let same : v ≡ other = ap (nth_subtree other) z ∙ nth_subtree-zero other in
      absurd (plain' (subst (λ t. IsTested (head_of t)) (sym same) (own.roots k other l'))))
      (cases_lt 0 g.before) in
      let here : Beside system.in_class (forest_from left f.before) (forest_from other g.before) =
      paired r e k left other l l' f.before g.before
      (not-root system.in_class lefts_here arity own e left l items f.before (omega (arith, f.further, g.further)) f.this.held)
      (not-root system.in_class lefts_here arity own k other l' items g.before more g.this.held)
      (omega (arith, f.further, g.further)) in
      let opened = subst (λ ps. Beside system.in_class ps (grow v (forest_from other (g.before + size v)))) (from-node system.in_class lefts_here arity own e left l f.before lt) (subst (λ qs. Beside system.in_class (forest_from left f.before) qs) (from-node system.in_class lefts_here arity own k other l' g.before lt') here) in
      let further = beside-open system.in_class u v (forest_from left (f.before + size u)) (forest_from other (g.before + size v)) opened plain in
      let none = plain_args arity u (part-arities system.in_class lefts_here arity own e left l f.before lt) plain in
      let none' = plain_args arity v (part-arities system.in_class lefts_here arity own k other l' g.before lt') plain' in
      rw (f.further, g.further, from-suc system.in_class lefts_here arity own e left l f.before lt, from-suc system.in_class lefts_here arity own k other l' g.before lt', none, none') further

  -- two items of a reachable set that one head meets, in either order
  pub met_beside : {items : ItemSet} → IsReachable system.in_class lefts_here items → (h : H) (e k : ℕ) (left other : Tree (PatternCell H)) → slice_get lefts_here e ≡ Some left → slice_get lefts_here k ≡ Some other → (c d : ℕ) → IsMet system.in_class lefts_here items h e c → IsMet system.in_class lefts_here items h k d → Beside system.in_class (forest_from left (suc c)) (forest_from other (suc d))
  met_beside {items} r h e k left other l l' c d x y =
      ⊎_elim
      (λ less. turned system.in_class (met-pair items (paired r) h k e other left l' l d c y x (omega arith)))
      (λ le. met-pair items (paired r) h e k left other l l' c d x y (omega arith))
      (cases_lt c d)

  pub all-unmixed : AllUnmixed system.in_class lefts_here
  all-unmixed items r e c k b more more' plain waiting =
      let left = plain.is_cell.left in
      let l = plain.is_cell.listed in
      let other = waiting.is_cell.left in
      let l' = waiting.is_cell.listed in
      let u = nth_subtree left c in
      let v = nth_subtree other b in
      let x = not-root system.in_class lefts_here arity own e left l items c more plain.held in
      let y = not-root system.in_class lefts_here arity own k other l' items b more' waiting.held in
      let open_here : IsTested (head_of u) → ⊥ = λ z. subst IsTested plain.is_cell.stands z in
      let tested_here : IsTested (head_of v) = subst IsTested (sym waiting.is_cell.stands) waiting.tested in
      let here : Beside system.in_class (forest_from other b) (forest_from left c) =
      ⊎_elim
      (λ less. paired r k e other left l' l b c y x (omega arith))
      (λ le. turned system.in_class (paired r e k left other l l' c b x y (omega arith)))
      (cases_lt c b) in
      let opened = subst (λ ps. Beside system.in_class ps (grow u (forest_from left (c + size u)))) (from-node system.in_class lefts_here arity own k other l' b waiting.is_cell.there) (subst (λ qs. Beside system.in_class (forest_from other b) qs) (from-node system.in_class lefts_here arity own e left l c plain.is_cell.there) here) in
      beside-mixed system.in_class v u (forest_from other (b + size v)) (forest_from left (c + size u)) opened tested_here open_here
