-- A development is determined by what it marks.
use Rattle.std.proofs.Common.{◌≡◌, ℕ, zero, suc, ◌+◌, ◌≤◌, List, [], ◌∷◌, false, ◌⊎◌, inl, inr, refl, sym, ◌∙◌, ap, subst, arith}
use Rattle.std.specs.Prelude.{Bool}
use Rattle.eq_base.specs.Tree.{Tree, Forest, node, empty, grow, count, Position}
use Rattle.eq_base.specs.Pattern.{PatternCell}
use Rattle.eq_base.specs.Rewriting.{System}
use Rattle.orthogonal_laws.specs.Orthogonal.{IsWellFormedSystem, IsOrthogonal}
use Rattle.orthogonal_laws.specs.Development.{Development, marks}
use Rattle.orthogonal_laws.proofs.LeftSides.{Patterns, Last, Open, Test, Compiled, Meets, open_parts, opens, Redex, left, Alike, alike_last, alike_open, alike_test, Clash, clash_here, clash_below, clash_after, clash_skip, Regular}
use Rattle.orthogonal_laws.proofs.ForestDevelopments.{Develops, nil, keep, contract, marks_at, bump, past, part_position}
use Rattle.orthogonal_laws.proofs.DecisionTrees.{regular-compiles}
use Rattle.orthogonal_laws.proofs.Advancing.{same_right}
use Rattle.orthogonal_laws.proofs.Redexes.{compiled}
use Rattle.orthogonal_laws.proofs.Regularity.{orthogonal-regular}
use Rattle.orthogonal_laws.proofs.Developing.{To, marks-root, develop-to}

module _ {H : Type 0} where
  -- ---- positions in open parts

  past_is : (ps : Patterns H) (k : ℕ) (p : List ℕ) → past ps (k ∷ p) ≡ (opens ps + k) ∷ p
  past_is Last k p = ap (λ n. n ∷ p) (omega arith)
  past_is (Open ps) k p = ap bump (past_is ps k p) ∙ ap (λ n. n ∷ p) (omega arith)
  past_is (Test t ps qs) k p = ap (past ps) (past_is qs k p) ∙ (past_is ps (opens qs + k) p ∙ ap (λ n. n ∷ p) (omega arith))

  count-open : (ps : Patterns H) (us more : Forest H) → Meets ps us → count (open_parts ps us more) ≡ opens ps + count more
  count-open Last empty more m = omega arith
  count-open Last (grow u us) more m = absurd m
  count-open (Open ps) empty more m = absurd m
  count-open (Open ps) (grow u us) more m = omega (arith, count-open ps us more m)
  count-open (Test t ps qs) empty more m = absurd m
  count-open (Test t ps qs) (grow (node h us) rest) more m = omega (arith, count-open ps us (open_parts qs rest more) m.1, count-open qs rest more m.2)

  alike_past : {ps qs : Patterns H} → Alike ps qs → (p : List ℕ) → past ps p ≡ past qs p
  alike_past alike_last p = refl
  alike_past (alike_open a) p = ap bump (alike_past a p)
  alike_past (alike_test {ps = ps} {qs' = qs'} a b) p = ap (past ps) (alike_past b p) ∙ alike_past a (past qs' p)

  alike_position : {ps qs : Patterns H} → Alike ps qs → (p : List ℕ) → part_position ps p ≡ part_position qs p
  alike_position alike_last [] = refl
  alike_position alike_last (i ∷ p) = refl
  alike_position (alike_open a) [] = refl
  alike_position (alike_open a) (zero ∷ p) = refl
  alike_position (alike_open a) (suc i ∷ p) = ap bump (alike_position a (i ∷ p))
  alike_position (alike_test a b) [] = refl
  alike_position (alike_test a b) (zero ∷ p) = alike_position a p
  alike_position (alike_test {ps = ps} {qs' = qs'} a b) (suc i ∷ p) = ap (past ps) (alike_position b (i ∷ p)) ∙ alike_past a (part_position qs' (i ∷ p))

  -- a position among the open parts, and others behind them, is that of a position of the trees, or one of the others
  placed : (ps : Patterns H) (j : ℕ) (p : List ℕ) → ((i : ℕ) × (q : List ℕ) × (part_position ps (i ∷ q) ≡ j ∷ p)) ⊎ ((k : ℕ) × (past ps (k ∷ p) ≡ j ∷ p))
  placed Last j p = inr (j, refl)
  placed (Open ps) zero p = inl (0, p, refl)
  placed (Open ps) (suc j) p = elim (placed ps j p) [ inl x ↦ inl (suc x.0, x.1, ap bump x.2) | inr x ↦ inr (x.0, ap bump x.1) ]
  placed (Test t ps qs) j p =
      elim (placed ps j p) [
        | inl x ↦ inl (0, x.0 ∷ x.1, x.2)
        | inr x ↦ elim (placed qs x.0 p) [ inl y ↦ inl (suc y.0, y.1, ap (past ps) y.2 ∙ x.1) | inr y ↦ inr (y.0, ap (past ps) y.1 ∙ x.1) ]
      ]

  clash_met : {ps qs : Patterns H} → Clash ps qs → (ts : Forest H) → Meets ps ts → Meets qs ts → ⊥
  clash_met (clash_here d) empty m m' = m
  clash_met (clash_here d) (grow (node h us) ts) m m' = d (h, count us) m.0 m'.0
  clash_met (clash_below c) empty m m' = m
  clash_met (clash_below c) (grow (node h us) ts) m m' = clash_met c us m.1 m'.1
  clash_met (clash_after a c) empty m m' = m
  clash_met (clash_after a c) (grow (node h us) ts) m m' = clash_met c ts m.2 m'.2
  clash_met (clash_skip c) empty m m' = m
  clash_met (clash_skip c) (grow t ts) m m' = clash_met c ts m m'

module _ {H : Type 0} (rules : List (Compiled H)) (regular : Regular rules) where
  -- behind the trees nothing is marked
  unmarked_behind : {ts us : Forest H} {ns : List ℕ} (d : Develops rules ts us ns) (i : ℕ) (p : List ℕ) → count ts ≤ i → marks_at d (i ∷ p) ≡ false
  unmarked_behind nil i p le = refl
  unmarked_behind (keep dk dr) zero p le = absurd (omega arith)
  unmarked_behind (keep dk dr) (suc i) p le = unmarked_behind dr i p (omega arith)
  unmarked_behind (contract x dk dr) zero p le = absurd (omega arith)
  unmarked_behind (contract x dk dr) (suc i) p le = unmarked_behind dr i p (omega arith)

  -- a development with marks as a test tells
  record Marked (ts us : Forest H) (ns : List ℕ) (test : List ℕ → Bool) : Type 0 where
    develops : Develops rules ts us ns
    same : (p : List ℕ) → marks_at develops p ≡ test p

  -- the same left sides have the same parts in the same places
  rules_alike : (h : H) (args es es' : Forest H) (r r' : Tree (PatternCell H)) (x : Redex rules h args r es) (x' : Redex rules h args r' es') → Alike x.rule.args x'.rule.args
  rules_alike h args es es' r r' x x' =
      elim (regular.roots x.rule x'.rule x.among x'.among) [
        | inl c ↦ absurd (clash_met c (grow (node h args) empty) (x.fits.root, x.fits.args, tt) (x'.fits.root, x'.fits.args, tt))
        | inr s ↦ below s.0
      ]
    where
      below : Alike (left x.rule) (left x'.rule) → Alike x.rule.args x'.rule.args
      below (alike_test a b) = a

  pub determined : {ts us us' : Forest H} {ns ns' : List ℕ} → (d : Develops rules ts us ns) (d' : Develops rules ts us' ns') → ((p : List ℕ) → marks_at d p ≡ marks_at d' p) → (us ≡ us') × (ns ≡ ns')
  determined nil nil e = (refl, refl)
  determined (keep dk dr) (keep dk' dr') e =
      let below = determined dk dk' (λ p. e (0 ∷ p)) in
      let after = determined dr dr' (λ p. behind dr dr' (λ i q. e (suc i ∷ q)) p) in
      (rw (below.0, after.0) refl, rw (below.1, after.1) refl)
    where
      behind : {ts us us' : Forest H} {ns ns' : List ℕ} (d : Develops rules ts us ns) (d' : Develops rules ts us' ns') → ((i : ℕ) (q : List ℕ) → marks_at d (i ∷ q) ≡ marks_at d' (i ∷ q)) → (p : List ℕ) → marks_at d p ≡ marks_at d' p
      behind d d' e [] = marks-root rules d ∙ sym (marks-root rules d')
      behind d d' e (i ∷ q) = e i q
  determined (keep dk dr) (contract x' dk' dr') e = let z = sym (marks-root rules dk) ∙ e (0 ∷ []) in absurd (cc)
  determined (contract x dk dr) (keep dk' dr') e = let z = e (0 ∷ []) ∙ marks-root rules dk' in absurd (cc)
  determined (contract {h = h} {args = args} {es = es} {r = r} x dk dr) (contract {es = es'} {us = us'} {r = r'} {ns = ns'} x' dk' dr') e =
      let c = regular-compiles regular in
      let rights : r ≡ r' = same_right (c.finds h args r es x) (c.finds h args r' es' x') in
      let parts : es' ≡ es = c.opens h args r' es' x' ∙ sym (c.opens h args r es x) in
      let m = subst (λ z. Marked z us' ns' (λ p. marks_at dk' p)) parts (record { develops = dk'; same = λ p. refl }) in
      let inside = determined dk m.develops (λ p. within x x' (rules_alike h args es es' r r' x x') dk dk' (λ i q. e (0 ∷ i ∷ q)) p ∙ sym (m.same p)) in
      let after = determined dr dr' (λ p. behind dr dr' (λ i q. e (suc i ∷ q)) p) in
      (rw (rights, inside.0, after.0) refl, rw (rights, inside.1, after.1) refl)
    where
      behind : {ts us us' : Forest H} {ns ns' : List ℕ} (d : Develops rules ts us ns) (d' : Develops rules ts us' ns') → ((i : ℕ) (q : List ℕ) → marks_at d (i ∷ q) ≡ marks_at d' (i ∷ q)) → (p : List ℕ) → marks_at d p ≡ marks_at d' p
      behind d d' e [] = marks-root rules d ∙ sym (marks-root rules d')
      behind d d' e (i ∷ q) = e i q

      parts_behind : {rs : Tree (PatternCell H)} {fs vs : Forest H} {ms : List ℕ} (y : Redex rules h args rs fs) (d : Develops rules fs vs ms) (k : ℕ) (p : List ℕ) → marks_at d (past y.rule.args (k ∷ p)) ≡ false
      parts_behind {fs = fs} y d k p =
          let n : count fs ≡ opens y.rule.args + 0 = ap count y.fits.parts ∙ count-open y.rule.args args empty y.fits.args in
          ap (marks_at d) (past_is y.rule.args k p) ∙ unmarked_behind d (opens y.rule.args + k) p (omega (arith, n))

      within : {s s' : Tree (PatternCell H)} {fs fs' vs vs' : Forest H} {ms ms' : List ℕ} (y : Redex rules h args s fs) (y' : Redex rules h args s' fs') → Alike y.rule.args y'.rule.args → (d : Develops rules fs vs ms) (d' : Develops rules fs' vs' ms') →
          ((i : ℕ) (q : List ℕ) → marks_at d (part_position y.rule.args (i ∷ q)) ≡ marks_at d' (part_position y'.rule.args (i ∷ q))) → (p : List ℕ) → marks_at d p ≡ marks_at d' p
      within y y' a d d' e [] = marks-root rules d ∙ sym (marks-root rules d')
      within y y' a d d' e (j ∷ p) =
          elim (placed y.rule.args j p) [
            | inl x ↦ ap (marks_at d) (sym x.2) ∙ (e x.0 x.1 ∙ ap (marks_at d') (sym (alike_position a (x.0 ∷ x.1)) ∙ x.2))
            | inr x ↦ ap (marks_at d) (sym x.1) ∙ (parts_behind y d x.0 p ∙ (sym (parts_behind y' d' x.0 p) ∙ ap (marks_at d') (sym (alike_past a (x.0 ∷ p)) ∙ x.1)))
          ]

module _ {H : Type 0} (system : System H) (w : IsWellFormedSystem system) (o : IsOrthogonal system) where
  pub development_determined : (t u u' : Tree H) (n n' : ℕ) (d : Development system t u n) (d' : Development system t u' n') → ((q : Position) → marks d q ≡ marks d' q) → (u ≡ u') × (n ≡ n')
  development_determined t u u' n n' d d' e =
      let x = develop-to system w o d nil in
      let y = develop-to system w o d' nil in
      let z = determined (compiled system w) (orthogonal-regular system w o) x.develops y.develops (λ p. same x y p) in
      (let a = z.0 in cc, let b = z.1 in cc)
    where
      same : (x : To (compiled system w) t u n nil (λ q. marks d q)) (y : To (compiled system w) t u' n' nil (λ q. marks d' q)) (p : List ℕ) → marks_at x.develops p ≡ marks_at y.develops p
      same x y [] = marks-root (compiled system w) x.develops ∙ sym (marks-root (compiled system w) y.develops)
      same x y (zero ∷ q) = x.here q ∙ (e q ∙ sym (y.here q))
      same x y (suc i ∷ q) = x.after i q ∙ sym (y.after i q)
