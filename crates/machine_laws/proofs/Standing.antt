-- Where the machine stands in a reading, and how it goes on: the steps of its loop, each as a lemma.
use Rattle.std.proofs.Common.{◌≡◌, ℕ, suc, ◌+◌, List, [], ◌∷◌, inl, inr, refl, sym, ◌∙◌, ap, subst, arith}
use Rattle.std.specs.Prelude.{Contains}
use Rattle.eq_base.specs.Tree.{Tree, Forest, node, empty, grow, count}
use Rattle.eq_base.specs.Storing.{join as append, join-empty}
use Rattle.eq_base.specs.Rewriting.{System, IsRedex}
use Rattle.orthogonal_laws.specs.Orthogonal.{IsWellFormedSystem, IsOrthogonal}
use Rattle.orthogonal_laws.specs.Strategy.{IsDemandedRedex, HasNoDemandedRedex}
use Rattle.orthogonal_laws.proofs.LeftSides.{Label}
use Rattle.orthogonal_laws.proofs.Matchers.{Matcher, Read, Skip, End, Done, Stop, run, join}
use Rattle.orthogonal_laws.proofs.Sequential.{Guarded}
use Rattle.orthogonal_laws.proofs.Walks.{Quiet, quiet_read, quiet_skip, quiet_nil}
use Rattle.orthogonal_laws.proofs.DecisionTrees.{regular-compiles, regular-sequential}
use Rattle.orthogonal_laws.proofs.Redexes.{compiled, step-redex}
use Rattle.match_laws.specs.Items.{ItemSet, IsRead, IsSkip, IsCompleted, WantsRead, WantsSkip, WantsNothing}
use Rattle.match_laws.specs.Demand.{left_sides, HasFixedArities}
use Rattle.machine_laws.specs.Frames.{Frame, around, width, plug, way, AllAround}
use Rattle.machine_laws.specs.Normalising.{DevelopBeside, no_more, one_more}
use Rattle.machine_laws.proofs.Passing.{past, past-past, run-past, guarded-past, quiet_append, count-append}
use Rattle.machine_laws.proofs.Spans.{Spans, spans-run, spans-join, spans-more, start-spans}
use Rattle.machine_laws.proofs.Completing.{Closed, closed_stop, closed_done, closed_skip, closed_end, Completes, completes_done, completes_skip, completes_end, stop_completes}
use Rattle.machine_laws.proofs.Ways.{Comes, comes_root, comes_below, comes-guarded, comes-apart, due_redex, DevelopAbove, no_more as none_above, one_more as one_above, comes_still}
use Rattle.machine_laws.proofs.Settling.{IsOpen, Ceases, ceases_stop, ceases_skip, ceases_end, ceases-run, quiet_ceases, AreSettled, passed, all_settled, settled_open}
use Rattle.orthogonal_laws.proofs.Staying.{develops-count}
use Rattle.machine_laws.proofs.Represents.{no_items, same_items}
use Rattle.machine_laws.proofs.Simulating.{AreBelow, some_item, start, regular, Shows, proper, below, root_reads, read_below, skip_same, skip_below, shows_read, shows_skip, goes_in, completes_in, completes_first, read_spans, skip_spans}
use Rattle.machine_laws.proofs.Coming.{levels, only_roots, no_items_left, due-demanded, settled-no_demand, develop_all}

module _ {H : Type 0} (system : System H) (w : IsWellFormedSystem system) (o : IsOrthogonal system) (arity : H → ℕ) (k : HasFixedArities system arity) where
  -- the reading has come with these items to a node below those above
  pub record StandsAt (frames : List (Frame H)) (items : ItemSet) : Type 0 where
    pub reads : Label H → Matcher H
    pub comes : Comes (compiled system w) (start system w o arity k) frames reads
    pub shows : (l : Label H) → proper system w o arity k l → (inner : ItemSet) → IsRead system.in_class (left_sides system) items l.0 inner → Shows system w o arity k (reads l) (below system w o arity k inner)
    pub spans : (l : Label H) → Spans (l.1 ∷ levels frames) (reads l)
    pub completes : (l : Label H) → proper system w o arity k l → Completes (reads l) → (e : ℕ) × (c : ℕ) × IsCompleted system.in_class (left_sides system) items l.0 e c

  -- the reading is among the arguments of a node: it has passed the first, with these items, and no left side begun on the way is completed
  pub record StandsAmong (frames : List (Frame H)) (h : H) (before behind : Forest H) (items : ItemSet) : Type 0 where
    pub reads : Label H → Matcher H
    pub comes : Comes (compiled system w) (start system w o arity k) frames reads
    pub n : ℕ
    pub number : n ≡ count before + count behind
    pub matcher : Matcher H
    pub quiet : Quiet (compiled system w) (start system w o arity k) (reads (h, n)) before
    pub at : past (reads (h, n)) before ≡ matcher
    pub shows : Shows system w o arity k matcher (below system w o arity k items)
    pub spans : Spans (count behind ∷ levels frames) matcher
    pub is_below : AreBelow items
    pub unfinished : Completes matcher → ⊥

  -- ---- the beginning

  pub stands_first : StandsAt [] []
  stands_first =
      record {
        reads = start system w o arity k;
        comes = comes_root;
        shows = λ l p inner is. same_items system.in_class (left_sides system) (proper system w o arity k) (start system w o arity k l) (λ e c. only_roots system w o arity k is e c) (root_reads system w o arity k l p).0;
        spans = λ l. start-spans (regular system w o arity k) l;
        completes = λ l p x. completes_first system w o arity k l p x;
      }

  -- ---- a head is read

  -- a redex is the demanded redex of the whole
  pub stands_found : {frames : List (Frame H)} {items : ItemSet} → StandsAt frames items → (t : Tree H) → IsRedex system t → IsDemandedRedex system (plug frames t) (way frames [])
  stands_found {frames} s (node h args) r =
      let x = step-redex system w o h args r.0 r.1 in
      due-demanded system w o arity k (plug frames (node h args)) (way frames []) (due_redex (compiled system w) (start system w o arity k) (regular-compiles (regular system w o arity k)) (regular-sequential (regular system w o arity k)) s.comes h args x.parts x.right x.redex)

  -- where the head completes no left side, the reading goes on among the arguments
  pub stands_inside : {frames : List (Frame H)} {items inner : ItemSet} → StandsAt frames items → (h : H) (args : Forest H) → count args ≡ arity h → IsRead system.in_class (left_sides system) items h inner → ((e c : ℕ) → IsCompleted system.in_class (left_sides system) items h e c → ⊥) → StandsAmong frames h empty args inner
  stands_inside {inner = inner} s h args p is none =
      record {
        reads = s.reads;
        comes = s.comes;
        n = count args;
        number = omega arith;
        matcher = s.reads (h, count args);
        quiet = quiet_nil;
        at = refl;
        shows = s.shows (h, count args) p inner is;
        spans = s.spans (h, count args);
        is_below = read_below system w o arity k is;
        unfinished = λ x. let z = s.completes (h, count args) p x in none z.0 z.1 z.2;
      }

  -- ---- among the arguments

  -- an argument is skipped where a skip is wanted
  pub stands_past : {frames : List (Frame H)} {h : H} {before behind : Forest H} {items next : ItemSet} → (t : Tree H) → StandsAmong frames h before (grow t behind) items → WantsSkip (left_sides system) items → IsSkip (left_sides system) items next → StandsAmong frames h (append before (grow t empty)) behind next
  stands_past {frames} {h} {before} {behind} {items} {next} t s wants is =
      let i = some_item items wants.some in
      let x = shows_skip system w o arity k s.matcher (below system w o arity k items) s.spans s.shows i.0 i.1 i.2
      (λ e c cell i there tested. wants.no_read (record { e = e; c = c; below = s.is_below e c i; waiting = record { held = ((cell, there), inr i); cell = cell; is_cell = there; tested = tested } })) in
      let one = grow t empty in
      let shown = subst (λ z. Shows system w o arity k z (below system w o arity k items)) x.1 s.shows in
      record {
        reads = s.reads;
        comes = s.comes;
        n = s.n;
        number = (let a = s.number in let b = count-append before one in omega (arith, a, b));
        matcher = x.0;
        quiet = quiet_append (compiled system w) (start system w o arity k) before one s.quiet (subst (λ z. Quiet (compiled system w) (start system w o arity k) z one) (sym (s.at ∙ x.1)) (quiet_skip quiet_nil));
        at = past-past before one (s.reads (h, s.n)) ∙ ap (λ z. past z one) (s.at ∙ x.1);
        shows = same_items system.in_class (left_sides system) (proper system w o arity k) x.0 (skip_same system w o arity k is) shown.1;
        spans = skip_spans system w o arity k (subst (λ z. Spans (suc (count behind) ∷ levels frames) z) x.1 s.spans);
        is_below = skip_below system w o arity k is;
        unfinished = λ y. s.unfinished (subst (λ z. Completes z) (sym x.1) (completes_skip y));
      }

  -- an argument is gone into where a read is wanted
  pub stands_below : {frames : List (Frame H)} {h : H} {before behind : Forest H} {items : ItemSet} → (t : Tree H) → StandsAmong frames h before (grow t behind) items → WantsRead (left_sides system) items → StandsAt (record { head = h; before = before; behind = behind } ∷ frames) items
  stands_below {frames} {h} {before} {behind} {items} t s wants =
      let held : Contains items (wants.e, wants.c) = elim wants.waiting.held.1 [ inl z ↦ absurd (let y = wants.below in omega (arith, y, z)) | inr i ↦ i ] in
      let x = shows_read system w o arity k s.matcher (below system w o arity k items) s.spans s.shows wants.e wants.c held wants.waiting.cell wants.waiting.is_cell wants.waiting.tested in
      let f : Frame H = record { head = h; before = before; behind = behind } in
      let n : s.n ≡ width f = (let a = s.number in omega (arith, a)) in
      let e : past (s.reads (h, width f)) before ≡ Read x.0 = ap (λ i. past (s.reads (h, i)) before) (sym n) ∙ (s.at ∙ x.1) in
      let guard = subst (λ z. Guarded (start system w o arity k) z) e (guarded-past (start system w o arity k) before (comes-guarded (compiled system w) (start system w o arity k) (regular-compiles (regular system w o arity k)) (regular-sequential (regular system w o arity k)) s.comes (h, width f))) in
      let spanned = subst (λ z. Spans (suc (count behind) ∷ levels frames) z) x.1 s.spans in
      let shown = subst (λ z. Shows system w o arity k z (below system w o arity k items)) x.1 s.shows in
      record {
        reads = λ l. join (x.0 l) (start system w o arity k l);
        comes = comes_below s.comes (subst (λ i. Quiet (compiled system w) (start system w o arity k) (s.reads (h, i)) before) n s.quiet) e;
        shows = λ l p inner is. goes_in system w o arity k l p guard shown is;
        spans = λ l. spans-join (read_spans system w o arity k spanned l) (spans-more (count behind ∷ levels frames) (start-spans (regular system w o arity k) l));
        completes = λ l p y. completes_in system w o arity k l p shown y;
      }

  -- ---- the end of the arguments

  -- what is left of a matcher at the end of a list
  pub record Ended (m : Matcher H) (ns : List ℕ) (items : ItemSet) : Type 0 where
    pub no_right : IsOpen (run m empty)
    pub shows : Shows system w o arity k (run m empty) (below system w o arity k items)
    pub spans : Spans ns (run m empty)
    pub unfinished : Completes (run m empty) → ⊥

  ended : (m : Matcher H) (ns : List ℕ) (items : ItemSet) → Spans (0 ∷ ns) m → Shows system w o arity k m (below system w o arity k items) → (Completes m → ⊥) → Ended m ns items
  ended (Read f) ns items s r u = elim s [ ]
  ended (Skip m) ns items s r u = elim s [ ]
  ended (Done d) ns items s r u = absurd (u completes_done)
  ended Stop ns items s r u = record { no_right = λ d e. cc; shows = r; spans = spans-run empty refl s; unfinished = λ x. stop_completes x }
  ended (End m) ns items s r u =
      record {
        no_right = λ d e. u (completes_end (subst (λ z. Completes z) (sym e) completes_done));
        shows = r;
        spans = spans-run empty refl s;
        unfinished = λ x. u (completes_end x);
      }

  whole_runs : {frames : List (Frame H)} {h : H} {before : Forest H} {items : ItemSet} (s : StandsAmong frames h before empty items) → run (s.reads (h, count before)) before ≡ run s.matcher empty
  whole_runs {h = h} {before = before} s =
      let n : count before ≡ s.n = (let a = s.number in omega (arith, a)) in
      ap (λ z. run (s.reads (h, count before)) z) (sym (join-empty before)) ∙ (run-past before empty (s.reads (h, count before)) ∙ (ap (λ i. run (past (s.reads (h, i)) before) empty) n ∙ ap (λ z. run z empty) s.at))

  -- the node has no demanded redex
  pub stands_settled : {frames : List (Frame H)} {h : H} {before : Forest H} {items : ItemSet} → StandsAmong frames h before empty items → HasNoDemandedRedex system (node h before)
  stands_settled {frames} {h} {before} {items} s =
      let e = ended s.matcher (levels frames) items s.spans s.shows s.unfinished in
      let n : s.n ≡ count before = (let a = s.number in omega (arith, a)) in
      let quiet = subst (λ i. Quiet (compiled system w) (start system w o arity k) (s.reads (h, i)) before) n s.quiet in
      settled-no_demand system w o arity k (node h before) (settled_open (compiled system w) (start system w o arity k) (regular-compiles (regular system w o arity k)) (regular-sequential (regular system w o arity k)) (start-spans (regular system w o arity k)) s.comes h before quiet (subst (λ z. IsOpen z) (sym (whole_runs s)) e.no_right))

  -- and the reading goes on behind it
  pub stands_above : {f : Frame H} {frames : List (Frame H)} {h : H} {before : Forest H} {items : ItemSet} → StandsAmong (f ∷ frames) h before empty items → StandsAmong frames f.head (append f.before (grow (node h before) empty)) f.behind items
  stands_above {f} {frames} {h} {before} {items} s = go s.comes (subst (λ i. Quiet (compiled system w) (start system w o arity k) (s.reads (h, i)) before) n s.quiet) (whole_runs s)
    where
      n : s.n ≡ count before
      n = let a = s.number in omega (arith, a)

      one : Forest H
      one = grow (node h before) empty

      e : Ended s.matcher (levels (f ∷ frames)) items
      e = ended s.matcher (levels (f ∷ frames)) items s.spans s.shows s.unfinished

      go : {reads : Label H → Matcher H} → Comes (compiled system w) (start system w o arity k) (f ∷ frames) reads → Quiet (compiled system w) (start system w o arity k) (reads (h, count before)) before → run (reads (h, count before)) before ≡ run s.matcher empty → StandsAmong frames f.head (append f.before one) f.behind items
      go (comes_below {above = above} {next = next} comes quiet is) inner runs =
          let c = regular-compiles (regular system w o arity k) in
          let q = regular-sequential (regular system w o arity k) in
          let p = passed (compiled system w) (start system w o arity k) c q (start-spans (regular system w o arity k)) next h before (comes-apart (compiled system w) (start system w o arity k) c q f comes is (h, count before)) inner (subst (λ z. IsOpen z) (sym runs) e.no_right) in
          record {
            reads = above;
            comes = comes;
            n = width f;
            number = (let a = count-append f.before one in omega (arith, a));
            matcher = run s.matcher empty;
            quiet = quiet_append (compiled system w) (start system w o arity k) f.before one quiet (subst (λ z. Quiet (compiled system w) (start system w o arity k) z one) (sym is) (quiet_read p.none p.own p.quiet refl quiet_nil));
            at = past-past f.before one (above (f.head, width f)) ∙ (ap (λ z. past z one) is ∙ (p.goes_on ∙ runs));
            shows = e.shows;
            spans = e.spans;
            is_below = s.is_below;
            unfinished = e.unfinished;
          }

  -- ---- nothing more is wanted

  ceases_of : {m : Matcher H} → Closed m → (Completes m → ⊥) → Ceases m
  ceases_of closed_stop u = ceases_stop
  ceases_of closed_done u = absurd (u completes_done)
  ceases_of (closed_skip x) u = ceases_skip (ceases_of x (λ y. u (completes_skip y)))
  ceases_of (closed_end x) u = ceases_end (ceases_of x (λ y. u (completes_end y)))

  all_around : (frames : List (Frame H)) (t : Tree H) → AreSettled (compiled system w) (start system w o arity k) frames t → AllAround (HasNoDemandedRedex system) frames t
  all_around [] t s = settled-no_demand system w o arity k t s
  all_around (f ∷ frames) t s = (settled-no_demand system w o arity k t s.0, all_around frames (around f t) s.1)

  -- none of the nodes on the way has a demanded redex
  pub stands_over : {frames : List (Frame H)} {h : H} {before behind : Forest H} {items : ItemSet} → StandsAmong frames h before behind items → WantsNothing (left_sides system) items → AllAround (HasNoDemandedRedex system) frames (node h (append before behind))
  stands_over {frames} {h} {before} {behind} {items} s nothing =
      let args = append before behind in
      let ceases = ceases_of (no_items system.in_class (left_sides system) (proper system w o arity k) s.matcher (no_items_left items nothing) s.shows) s.unfinished in
      let n : s.n ≡ count args = (let a = s.number in let b = count-append before behind in omega (arith, a, b)) in
      let quiet = quiet_append (compiled system w) (start system w o arity k) before behind s.quiet (subst (λ z. Quiet (compiled system w) (start system w o arity k) z behind) (sym s.at) (quiet_ceases (compiled system w) (start system w o arity k) behind ceases)) in
      let runs : run (s.reads (h, s.n)) args ≡ run s.matcher behind = run-past before behind (s.reads (h, s.n)) ∙ ap (λ z. run z behind) s.at in
      let left = subst (λ z. Ceases z) (sym runs) (ceases-run behind ceases) in
      all_around frames (node h args)
      (all_settled (compiled system w) (start system w o arity k) (regular-compiles (regular system w o arity k)) (regular-sequential (regular system w o arity k)) (start-spans (regular system w o arity k)) s.comes h args
      (subst (λ i. Quiet (compiled system w) (start system w o arity k) (s.reads (h, i)) args) n quiet) (subst (λ i. Ceases (run (s.reads (h, i)) args)) n left))

  -- ---- after a replacement

  beside-above : {fs gs : List (Frame H)} → DevelopBeside system fs gs → DevelopAbove (compiled system w) (start system w o arity k) fs gs
  beside-above no_more = none_above
  beside-above (one_more d ds) =
      let a = develop_all system w o arity k d.before in
      let b = develop_all system w o arity k d.behind in
      one_above (record { head = d.head; before_weights = a.0; before = a.1; behind_weights = b.0; behind = b.1 }) (beside-above ds)

  levels_same : {fs gs : List (Frame H)} → DevelopBeside system fs gs → levels fs ≡ levels gs
  levels_same no_more = refl
  levels_same (one_more {f = f} {g = g} {fs = fs} d ds) =
      let b = develop_all system w o arity k d.behind in
      let n : count f.behind ≡ count g.behind = sym (develops-count (compiled system w) (start system w o arity k) (regular-compiles (regular system w o arity k)) b.1) in
      ap (λ i. i ∷ levels fs) n ∙ ap (λ l. count g.behind ∷ l) (levels_same ds)

  -- where what is before and behind the way has developed, the reading stands at the same node, whatever that is now
  pub stands_still : {fs gs : List (Frame H)} {items : ItemSet} → StandsAt fs items → DevelopBeside system fs gs → StandsAt gs items
  stands_still s d =
      record {
        reads = s.reads;
        comes = comes_still (compiled system w) (start system w o arity k) (regular-compiles (regular system w o arity k)) s.comes (beside-above d);
        shows = s.shows;
        spans = λ l. subst (λ z. Spans (l.1 ∷ z) (s.reads l)) (levels_same d) (s.spans l);
        completes = s.completes;
      }
