-- A reading by item sets, as the matchers read.
use Rattle.std.proofs.Common.{◌≡◌, ℕ, suc, ◌+◌, ◌-◌, ◌<◌, ◌≤◌, List, [], ◌∷◌, inl, inr, Some, map, length, refl, sym, ◌∙◌, ap, subst, arith, ⊎_elim}
use Rattle.std.specs.Prelude.{◌↔◌, Contains, slice_get}
use Rattle.std.proofs.lemmas.Bool.{cases_lt}
use Rattle.eq_base.specs.Tree.{Tree, Forest, node, empty, grow, head_of, count, size, nth_subtree}
use Rattle.eq_base.specs.Storing.{join-empty}
use Rattle.eq_base.specs.Pattern.{PatternCell, variable, IsTested}
use Rattle.eq_base.specs.Rewriting.{Rule, System}
use Rattle.orthogonal_laws.specs.Orthogonal.{IsHead, IsWellFormedSystem, IsOrthogonal}
use Rattle.orthogonal_laws.proofs.Members.{In, in_first, in_next, in-contains, get-in, map-in}
use Rattle.orthogonal_laws.proofs.LeftSides.{Label, NoRedex, Regular}
use Rattle.orthogonal_laws.proofs.Matchers.{Matcher, Read, Skip, End, Done, Stop, run, join, rule_tree, tree}
use Rattle.orthogonal_laws.proofs.Sequential.{Apart, Guarded, guarded_read, guarded_skip}
use Rattle.orthogonal_laws.proofs.Walks.{Quiet, quiet_read, quiet_skip, quiet_nil}
use Rattle.orthogonal_laws.proofs.TestedParts.{guarded-run}
use Rattle.orthogonal_laws.proofs.Joins.{join-guarded}
use Rattle.orthogonal_laws.proofs.DecisionTrees.{member_next, Fit, first_fits, regular-fit, regular-compiles, regular-sequential}
use Rattle.orthogonal_laws.proofs.Redexes.{compile, compiled}
use Rattle.orthogonal_laws.proofs.Regularity.{orthogonal-regular}
use Rattle.orthogonal_laws.proofs.Stepping.{no_redex-from, no_redex-to}
use Rattle.orthogonal_laws.proofs.ForestDevelopments.{Develops, nil, keep, contract}
use Rattle.orthogonal_laws.proofs.Staying.{stays, no_redex, develops-count}
use Rattle.match_laws.specs.Items.{ItemSet, IsCell, HasCell, IsSkip, WantsRead, WantsSkip, IsRead, IsCompleted}
use Rattle.match_laws.specs.Reading.{KeepArities}
use Rattle.match_laws.specs.Demand.{left_sides, HasFixedArities}
use Rattle.machine_laws.specs.Scanning.{Passes, passes_none, passes_over, passes_in}
use Rattle.machine_laws.proofs.Passing.{past, run-past}
use Rattle.machine_laws.proofs.Spans.{Spans, spans_skip, spans_read, spans-run, spans-past, spans-join, spans-more, start-spans}
use Rattle.machine_laws.proofs.Settling.{passed_by}
use Rattle.machine_laws.proofs.Represents.{Met, Skipped, Represents, same_items, Both, both_items, ItemAt, met_both, met_same, root_items, CompletedBy, completed_same, completed_both}
use Rattle.machine_laws.proofs.Completing.{Completes, stop_completes}

pub some_item : (items : ItemSet) → 0 < length items → (e : ℕ) × (c : ℕ) × Contains items (e, c)
some_item [] some = absurd (omega arith)
some_item (a ∷ items) some = (a.0, a.1, (0, omega arith, refl))

nth_subtree-root : {A : Type 0} (t : Tree A) → nth_subtree t 0 ≡ t
nth_subtree-root (node a args) = refl

-- each item is below the root of its left side
abbrev pub AreBelow : ItemSet → Type 0
AreBelow items = (e c : ℕ) → Contains items (e, c) → 0 < c

module _ {H : Type 0} (system : System H) (w : IsWellFormedSystem system) (o : IsOrthogonal system) (arity : H → ℕ) (k : HasFixedArities system arity) where
  abbrev pub proper : Label H → Type 0
  proper l = l.1 ≡ arity l.0

  abbrev pub Shows : Matcher H → (ℕ → ℕ → Type 0) → Type 0
  Shows m these = Represents system.in_class (left_sides system) proper m these

  abbrev pub below : ItemSet → ℕ → ℕ → Type 0
  below items e c = Contains items (e, c)

  -- ---- the left sides with a head

  abbrev RootsFrom : ℕ → ℕ → ℕ → Type 0
  RootsFrom n e c = (n ≤ e) × (c ≡ 0) × HasCell (left_sides system) e 0

  tree_items : (rules : List (Rule H)) (n : ℕ) (l : Label H) → proper l → ((j : ℕ) → slice_get (left_sides system) (n + j) ≡ slice_get (map (λ (rule : Rule H). rule.left) rules) j) → ((rule : Rule H) → In rules rule → Contains system.rules rule) →
      Fit (map (compile system w) rules) → Shows (tree (map (compile system w) rules) l) (Met system.in_class (left_sides system) proper (RootsFrom n) l.0) × (Completes (tree (map (compile system w) rules) l) → CompletedBy system.in_class (left_sides system) proper (RootsFrom n) l.0)
  tree_items [] n l p listed within fit = (
    λ e c m. absurd (
        let z = listed (e - n) in
        let same : n + (e - n) ≡ e = let y = m.2.0 in omega (arith, y) in
        let there = m.2.2.1.listed in
        let none = subst (λ i. slice_get (left_sides system) i ≡ slice_get [] (e - n)) same z in
        cc),
    λ x. absurd (stop_completes x),
  )
  tree_items (rule ∷ rules) n l p listed within fit =
      let here : slice_get (left_sides system) n ≡ Some rule.left = subst (λ i. slice_get (left_sides system) i ≡ Some rule.left) (omega arith) (listed 0) in
      let one = root_items system.in_class (left_sides system) proper w.same w.decides arity k.constants (λ l p. p) n rule.left here l (λ us. (compile system w rule).right (node l.0 us)) p (k.lefts rule (within rule in_first)) (w.roots rule (within rule in_first)) in
      let rest = tree_items rules (suc n) l p (λ j. subst (λ i. slice_get (left_sides system) i ≡ slice_get (map (λ (rule : Rule H). rule.left) rules) j) (omega arith) (listed (suc j))) (λ other i. within other (in_next i)) (λ a b i j. fit a b (member_next i) (member_next j)) in (
        same_items system.in_class (left_sides system) proper (join (rule_tree (compile system w rule) l) (tree (map (compile system w) rules) l)) (λ e c. joined e c)
            (both_items system.in_class (left_sides system) proper (λ r s. r ≡ s) (Met system.in_class (left_sides system) proper (ItemAt system.in_class (left_sides system) proper rule.left n 0) l.0) (Met system.in_class (left_sides system) proper (RootsFrom (suc n)) l.0) (first_fits (compile system w rule) (map (compile system w) rules) fit l) one.0 rest.0),
        λ x. completed_same system.in_class (left_sides system) proper here_or_later l.0 (completed_both system.in_class (left_sides system) proper (ItemAt system.in_class (left_sides system) proper rule.left n 0) (RootsFrom (suc n)) l.0 (rule_tree (compile system w rule) l) (tree (map (compile system w) rules) l) one.1 rest.1 x),
      )
    where
      here_or_later : (e c : ℕ) → Both system.in_class (left_sides system) proper (ItemAt system.in_class (left_sides system) proper rule.left n 0) (RootsFrom (suc n)) e c ↔ RootsFrom n e c
      here_or_later e c = (
        λ s. elim s [
          | inl x ↦ (let z = x.0 in omega (arith, z), x.1, (head_of (nth_subtree rule.left 0), record { left = rule.left; listed = subst (λ i. slice_get (left_sides system) i ≡ Some rule.left) (sym x.0) (subst (λ i. slice_get (left_sides system) i ≡ Some rule.left) (omega arith) (listed 0)); there = x.2; stands = refl }))
          | inr x ↦ (let z = x.0 in omega (arith, z), x.1, x.2)
        ],
        λ x. ⊎_elim
            (λ later. inr (later, x.1, x.2))
            (λ first.
            let same : e ≡ n = let z = x.0 in omega (arith, z) in
            let cell = x.2.1 in
            let left : cell.left ≡ rule.left = let a = cell.listed in let b = subst (λ i. slice_get (left_sides system) i ≡ Some rule.left) (sym same) (subst (λ i. slice_get (left_sides system) i ≡ Some rule.left) (omega arith) (listed 0)) in cc in
            inl (same, x.1, subst (λ t. 0 < size t) left cell.there))
            (cases_lt n e),
      )

      joined : (e c : ℕ) → Both system.in_class (left_sides system) proper (Met system.in_class (left_sides system) proper (ItemAt system.in_class (left_sides system) proper rule.left n 0) l.0) (Met system.in_class (left_sides system) proper (RootsFrom (suc n)) l.0) e c ↔ Met system.in_class (left_sides system) proper (RootsFrom n) l.0 e c
      joined e c =
          let a = met_both system.in_class (left_sides system) proper (ItemAt system.in_class (left_sides system) proper rule.left n 0) (RootsFrom (suc n)) l.0 e c in
          let b = met_same system.in_class (left_sides system) proper here_or_later l.0 e c in
          (λ x. b.0 (a.0 x), λ x. a.1 (b.1 x))

  -- ---- reads and skips

  abbrev pub regular : Regular (compiled system w)
  regular = orthogonal-regular system w o

  abbrev pub start : Label H → Matcher H
  start l = tree (compiled system w) l

  abbrev pub Roots : ℕ → ℕ → Type 0
  Roots e c = (c ≡ 0) × HasCell (left_sides system) e 0

  pub root_reads : (l : Label H) → proper l → Shows (start l) (Met system.in_class (left_sides system) proper Roots l.0) × (Completes (start l) → CompletedBy system.in_class (left_sides system) proper Roots l.0)
  root_reads l p =
      let r = tree_items system.rules 0 l p (λ j. ap (λ i. slice_get (left_sides system) i) (omega arith)) (λ rule i. in-contains i) (regular-fit regular) in (
        same_items system.in_class (left_sides system) proper (start l) (λ e c. met_same system.in_class (left_sides system) proper from_first l.0 e c) r.0,
        λ x. completed_same system.in_class (left_sides system) proper from_first l.0 (r.1 x),
      )
    where
      from_first : (e c : ℕ) → RootsFrom 0 e c ↔ Roots e c
      from_first e c = (λ x. (x.1, x.2), λ x. (omega arith, x.0, x.1))

  pub read_same : {items inner : ItemSet} {h : H} → IsRead system.in_class (left_sides system) items h inner → (e c : ℕ) →
      Both system.in_class (left_sides system) proper (Met system.in_class (left_sides system) proper (below items) h) (Met system.in_class (left_sides system) proper Roots h) e c ↔ below inner e c
  read_same r e c = (
    λ s. elim s [
      | inl m ↦ (r.exactly e c).1 (record { before = m.0; further = m.1; this = record { held = ((m.3.0, m.3.1), inr m.2); cell = m.3.0; is_cell = m.3.1; tested = m.3.2; meets = m.3.3 }; there = m.4 })
      | inr m ↦ (r.exactly e c).1 (record { before = m.0; further = m.1; this = record { held = ((m.3.0, m.3.1), inl m.2.0); cell = m.3.0; is_cell = m.3.1; tested = m.3.2; meets = m.3.3 }; there = m.4 })
    ],
    λ x.
        let f = (r.exactly e c).0 x in
        elim f.this.held.1 [
          | inl z ↦ inr (f.before, f.further, (z, subst (λ i. HasCell (left_sides system) e i) z f.this.held.0), (f.this.cell, f.this.is_cell, f.this.tested, f.this.meets), f.there)
          | inr i ↦ inl (f.before, f.further, i, (f.this.cell, f.this.is_cell, f.this.tested, f.this.meets), f.there)
        ],
  )

  pub read_below : {items inner : ItemSet} {h : H} → IsRead system.in_class (left_sides system) items h inner → AreBelow inner
  read_below r e c i = let f = (r.exactly e c).0 i in let z = f.further in omega (arith, z)

  -- no left side has a variable at its root
  root_head : (e x : ℕ) → IsCell (left_sides system) e 0 (variable x) → ⊥
  root_head e x cell =
      let i = map-in (λ (rule : Rule H). rule.left) system.rules cell.left (get-in (left_sides system) e cell.left cell.listed) in
      let head = subst (λ t. IsHead (head_of t)) i.2 (w.roots i.0 (in-contains i.1)) in
      let is : head_of cell.left ≡ variable x = ap head_of (sym (nth_subtree-root cell.left)) ∙ cell.stands in
      subst (λ c. IsHead c) is head

  pub skip_same : {items next : ItemSet} → IsSkip (left_sides system) items next → (e c : ℕ) → Skipped system.in_class (left_sides system) proper (below items) e c ↔ below next e c
  skip_same s e c = (
    λ m. (s.exactly e c).1 (record { before = m.0; further = m.1; this = record { held = ((variable m.3.0, m.3.1), inr m.2); x = m.3.0; is_cell = m.3.1 }; there = m.4 }),
    λ x.
        let f = (s.exactly e c).0 x in
        elim f.this.held.1 [
          | inl z ↦ absurd (root_head e f.this.x (subst (λ i. IsCell (left_sides system) e i (variable f.this.x)) z f.this.is_cell))
          | inr i ↦ (f.before, f.further, i, (f.this.x, f.this.is_cell), f.there)
        ],
  )

  pub skip_below : {items next : ItemSet} → IsSkip (left_sides system) items next → AreBelow next
  skip_below s e c i = let f = (s.exactly e c).0 i in let z = f.further in omega (arith, z)

  -- what stands in a cell is one
  one_cell : (e c : ℕ) (a b : PatternCell H) → IsCell (left_sides system) e c a → IsCell (left_sides system) e c b → a ≡ b
  one_cell e c a b x y =
      let z : x.left ≡ y.left = let p = x.listed in let q = y.listed in cc in
      sym x.stands ∙ (ap (λ t. head_of (nth_subtree t c)) z ∙ y.stands)

  -- ---- what a matcher does next

  pub shows_read : (m : Matcher H) (these : ℕ → ℕ → Type 0) {n : ℕ} {ns : List ℕ} → Spans (suc n ∷ ns) m → Shows m these → (e c : ℕ) → these e c → (cell : PatternCell H) → IsCell (left_sides system) e c cell → IsTested cell → (f : Label H → Matcher H) × (m ≡ Read f)
  shows_read (Read f) these s r e c i cell there tested = (f, refl)
  shows_read (Skip m) these s r e c i cell there tested = let x = r.0 e c i in absurd (subst (λ z. IsTested z) (one_cell e c cell (variable x.0) there x.1) tested)
  shows_read (End m) these s r e c i cell there tested = elim s [ ]
  shows_read (Done d) these s r e c i cell there tested = absurd (r e c i)
  shows_read Stop these s r e c i cell there tested = absurd (r e c i)

  pub shows_skip : (m : Matcher H) (these : ℕ → ℕ → Type 0) {n : ℕ} {ns : List ℕ} → Spans (suc n ∷ ns) m → Shows m these → (e c : ℕ) → these e c → ((e c : ℕ) (cell : PatternCell H) → these e c → IsCell (left_sides system) e c cell → IsTested cell → ⊥) → (next : Matcher H) × (m ≡ Skip next)
  shows_skip (Read f) these s r e c i none = let x = r.1 e c i in absurd (none e c x.0 i x.1 x.2)
  shows_skip (Skip m) these s r e c i none = (m, refl)
  shows_skip (End m) these s r e c i none = elim s [ ]
  shows_skip (Done d) these s r e c i none = absurd (r e c i)
  shows_skip Stop these s r e c i none = absurd (r e c i)

  pub shows_end : (m : Matcher H) (these : ℕ → ℕ → Type 0) {ns : List ℕ} → Spans (0 ∷ ns) m → Shows m these → Shows (run m empty) these
  shows_end (Read f) these s r = elim s [ ]
  shows_end (Skip m) these s r = elim s [ ]
  shows_end (End m) these s r = r
  shows_end (Done d) these s r = r
  shows_end Stop these s r = r

  -- ---- trees that are passed

  -- what is known where trees have been passed
  pub record HasPassed (items : ItemSet) (m : Matcher H) (ts : Forest H) (next : ItemSet) : Type 0 where
    pub quiet : Quiet (compiled system w) start m ts
    pub shows : Shows (past m ts) (below next)
    pub is_below : AreBelow next
    pub still : (us : Forest H) (weights : List ℕ) → Develops (compiled system w) ts us weights → Passes system items us next

  pub next_apart : {f : Label H → Matcher H} → Guarded start (Read f) → (l : Label H) → Apart (f l) (start l)
  next_apart (guarded_read x gs) l = x l

  pub next_guarded : {f : Label H → Matcher H} → Guarded start (Read f) → (l : Label H) → Guarded start (f l)
  next_guarded (guarded_read x gs) l = gs l

  pub skip_guarded : {m : Matcher H} → Guarded start (Skip m) → Guarded start m
  skip_guarded (guarded_skip g) = g

  pub skip_spans : {m : Matcher H} {n : ℕ} {ns : List ℕ} → Spans (suc n ∷ ns) (Skip m) → Spans (n ∷ ns) m
  skip_spans (spans_skip s) = s

  pub read_spans : {f : Label H → Matcher H} {n : ℕ} {ns : List ℕ} → Spans (suc n ∷ ns) (Read f) → (l : Label H) → Spans (l.1 ∷ n ∷ ns) (f l)
  read_spans (spans_read s) l = s l

  -- the items of a matcher that goes into a node, where it reads the head
  pub goes_in : {f : Label H → Matcher H} {items inner : ItemSet} (l : Label H) → proper l → Guarded start (Read f) → Shows (Read f) (below items) → IsRead system.in_class (left_sides system) items l.0 inner → Shows (join (f l) (start l)) (below inner)
  goes_in {f} {items} l p g r is =
      same_items system.in_class (left_sides system) proper (join (f l) (start l)) (read_same is)
      (both_items system.in_class (left_sides system) proper (λ r s. ⊥) (Met system.in_class (left_sides system) proper (below items) l.0) (Met system.in_class (left_sides system) proper Roots l.0) (next_apart g l) (r.2 l p).0 (root_reads l p).0)

  -- and it comes to a right side only where an item is completed
  pub completes_in : {f : Label H → Matcher H} {items : ItemSet} (l : Label H) → proper l → Shows (Read f) (below items) → Completes (join (f l) (start l)) → (e : ℕ) × (c : ℕ) × IsCompleted system.in_class (left_sides system) items l.0 e c
  completes_in {f} {items} l p r x =
      let z = completed_both system.in_class (left_sides system) proper (below items) Roots l.0 (f l) (start l) (r.2 l p).1 (root_reads l p).1 x in
      (z.0, z.1, record { met = record { held = ((z.3.0, z.3.1), elim z.2 [ inl i ↦ inr i | inr i ↦ inl i.0 ]); cell = z.3.0; is_cell = z.3.1; tested = z.3.2; meets = z.3.3 }; last = z.4 })

  -- the same where the reading begins
  pub completes_first : (l : Label H) → proper l → Completes (start l) → (e : ℕ) × (c : ℕ) × IsCompleted system.in_class (left_sides system) [] l.0 e c
  completes_first l p x =
      let z = (root_reads l p).1 x in
      (z.0, z.1, record { met = record { held = ((z.3.0, z.3.1), inl z.2.0); cell = z.3.0; is_cell = z.3.1; tested = z.3.2; meets = z.3.3 }; last = z.4 })

  -- ---- after a development

  passes_nothing : {items : ItemSet} {us : Forest H} {weights : List ℕ} → Develops (compiled system w) empty us weights → Passes system items us items
  passes_nothing nil = passes_none

  over_still : {items between next : ItemSet} {t : Tree H} {ts us : Forest H} {weights : List ℕ} → WantsSkip (left_sides system) items → IsSkip (left_sides system) items between → ((us : Forest H) (weights : List ℕ) → Develops (compiled system w) ts us weights → Passes system between us next) →
      Develops (compiled system w) (grow t ts) us weights → Passes system items us next
  over_still wants is after (keep dk dr) = passes_over wants is (after _ _ dr)
  over_still wants is after (contract x dk dr) = passes_over wants is (after _ _ dr)

  in_still : {items inner between next : ItemSet} {h : H} {args ts us : Forest H} {weights : List ℕ} → WantsRead (left_sides system) items → IsRead system.in_class (left_sides system) items h inner → NoRedex (compiled system w) h args → Quiet (compiled system w) start (start (h, count args)) args →
      ((us : Forest H) (weights : List ℕ) → Develops (compiled system w) args us weights → Passes system inner us between) → ((us : Forest H) (weights : List ℕ) → Develops (compiled system w) ts us weights → Passes system between us next) →
      Develops (compiled system w) (grow (node h args) ts) us weights → Passes system items us next
  in_still {h = h} {args = args} wants is none own within after (keep {us = us} dk dr) =
      let c = regular-compiles regular in
      let n = develops-count (compiled system w) start c dk in
      let x = stays (compiled system w) start c own dk in
      passes_in wants is (within us _ dk) (no_redex-to system w o h us (no_redex (compiled system w) start c h args us n x.same none)) (after _ _ dr)
  in_still wants is none own within after (contract x dk dr) = absurd (none _ _ x)

  pub passes : {items next : ItemSet} {ts : Forest H} → Passes system items ts next → KeepArities arity ts → (m : Matcher H) (room : ℕ) (ns : List ℕ) → Guarded start m → Spans ((count ts + room) ∷ ns) m → AreBelow items → Shows m (below items) → HasPassed items m ts next
  passes passes_none a m room ns g s b r = record { quiet = quiet_nil; shows = r; is_below = b; still = λ us weights d. passes_nothing d }
  passes {items} {next} {ts} (passes_over {between = between} {t = node h us} {ts = rest} wants is passed) a m room ns g s b r =
      let s' : Spans (suc (count rest + room) ∷ ns) m = subst (λ z. Spans (z ∷ ns) m) (omega arith) s in
      let i = some_item items wants.some in
      let x = shows_skip m (below items) s' r i.0 i.1 i.2 (λ e c cell i there tested. wants.no_read (record { e = e; c = c; below = b e c i; waiting = record { held = ((cell, there), inr i); cell = cell; is_cell = there; tested = tested } })) in
      let r' = subst (λ z. Shows z (below items)) x.1 r in
      let go = passes passed a.2 x.0 room ns (skip_guarded (subst (λ z. Guarded start z) x.1 g)) (skip_spans (subst (λ z. Spans (suc (count rest + room) ∷ ns) z) x.1 s')) (skip_below is) (same_items system.in_class (left_sides system) proper x.0 (skip_same is) r'.1) in
      record {
        quiet = subst (λ z. Quiet (compiled system w) start z (grow (node h us) rest)) (sym x.1) (quiet_skip go.quiet);
        shows = subst (λ z. Shows (past z (grow (node h us) rest)) (below next)) (sym x.1) go.shows;
        is_below = go.is_below;
        still = λ us weights d. over_still wants is go.still d;
      }
  passes {items} {next} {ts} (passes_in {between = between} {h = h} {args = args} {ts = rest} wants is within none passed) a m room ns g s b r =
      let l : Label H = (h, count args) in
      let s' : Spans (suc (count rest + room) ∷ ns) m = subst (λ z. Spans (z ∷ ns) m) (omega arith) s in
      let held : Contains items (wants.e, wants.c) = elim wants.waiting.held.1 [ inl z ↦ absurd (let y = wants.below in omega (arith, y, z)) | inr i ↦ i ] in
      let x = shows_read m (below items) s' r wants.e wants.c held wants.waiting.cell wants.waiting.is_cell wants.waiting.tested in
      let f = x.0 in
      let g' = subst (λ z. Guarded start z) x.1 g in
      let sf = read_spans (subst (λ z. Spans (suc (count rest + room) ∷ ns) z) x.1 s') l in
      let whole = join (f l) (start l) in
      let spans_in : Spans (count args ∷ (count rest + room) ∷ ns) whole = spans-join sf (spans-more ((count rest + room) ∷ ns) (start-spans regular l)) in
      let inside = passes within a.1 whole 0 ((count rest + room) ∷ ns) (join-guarded start (next_guarded g' l) (regular-sequential regular l)) (subst (λ z. Spans (z ∷ (count rest + room) ∷ ns) whole) (omega arith) spans_in) (read_below is) (goes_in l a.0 g' (subst (λ z. Shows z (below items)) x.1 r) is) in
      let p = passed_by (compiled system w) start (regular-compiles regular) (regular-sequential regular) (start-spans regular) f h args (next_apart g' l) inside.quiet (no_redex-from system w o h args none) in
      let runs : run whole args ≡ run (past whole args) empty = ap (λ z. run whole z) (sym (join-empty args)) ∙ run-past args empty whole in
      let after : Shows (run (f l) args) (below between) = subst (λ z. Shows z (below between)) (sym (p.goes_on ∙ runs)) (shows_end (past whole args) (below between) (spans-past args (omega arith) spans_in) inside.shows) in
      let go = passes passed a.2 (run (f l) args) room ns (guarded-run start args (next_guarded g' l)) (spans-run args refl sf) inside.is_below after in
      record {
        quiet = subst (λ z. Quiet (compiled system w) start z (grow (node h args) rest)) (sym x.1) (quiet_read p.none p.own p.quiet refl go.quiet);
        shows = subst (λ z. Shows (past z (grow (node h args) rest)) (below next)) (sym x.1) go.shows;
        is_below = go.is_below;
        still = λ us weights d. in_still wants is p.none p.own inside.still go.still d;
      }
