-- What a reading by item sets finds: the demanded redex of the tree, or that there is none.
use Rattle.std.proofs.Common.{◌≡◌, ℕ, suc, ◌+◌, List, [], ◌∷◌, inl, inr, refl, sym, ◌∙◌, ap, subst, arith}
use Rattle.std.specs.Prelude.{◌↔◌, Contains}
use Rattle.eq_base.specs.Tree.{Tree, Forest, node, empty, grow, count, Position}
use Rattle.eq_base.specs.Storing.{join as append}
use Rattle.eq_base.specs.Rewriting.{System, IsRedex}
use Rattle.orthogonal_laws.specs.Orthogonal.{IsWellFormedSystem, IsOrthogonal}
use Rattle.orthogonal_laws.specs.Strategy.{IsDemandedRedex, HasNoDemandedRedex}
use Rattle.orthogonal_laws.specs.Development.{Developments}
use Rattle.orthogonal_laws.proofs.LeftSides.{Label}
use Rattle.orthogonal_laws.proofs.ForestDevelopments.{Develops}
use Rattle.orthogonal_laws.proofs.ForestStrategy.{demand_root}
use Rattle.orthogonal_laws.proofs.Matchers.{Matcher, run, join}
use Rattle.orthogonal_laws.proofs.Sequential.{Guarded}
use Rattle.orthogonal_laws.proofs.Walks.{Quiet, quiet_read, quiet_skip, quiet_nil, quiet_end, quiet_done, quiet_stop}
use Rattle.orthogonal_laws.proofs.DecisionTrees.{regular-compiles, regular-sequential}
use Rattle.orthogonal_laws.proofs.ReadPositions.{regular-reads}
use Rattle.orthogonal_laws.proofs.Strategies.{leads-demand, quiet-no_demand}
use Rattle.orthogonal_laws.proofs.Redexes.{compiled, step-redex}
use Rattle.orthogonal_laws.proofs.Stepping.{no_redex-from}
use Rattle.orthogonal_laws.proofs.NextRedexes.{no_demand-to, demand-to}
use Rattle.orthogonal_laws.proofs.Developing.{develop_all-to}
use Rattle.match_laws.specs.Items.{ItemSet, IsRead, IsCompleted, WantsRead, WantsNothing}
use Rattle.match_laws.specs.Reading.{KeepArities}
use Rattle.machine_laws.specs.Frames.{Frame, around, width, plug, way, AllAround}
use Rattle.machine_laws.specs.Normalising.{DevelopBeside, no_more, one_more}
use Rattle.match_laws.specs.Demand.{left_sides, HasFixedArities}
use Rattle.machine_laws.specs.Scanning.{Passes, ComesTo, at_root, at_argument}
use Rattle.machine_laws.proofs.Passing.{past, run-past, guarded-past, quiet_append, count-append}
use Rattle.machine_laws.proofs.Spans.{Spans, spans-past, spans-join, spans-more, start-spans}
use Rattle.machine_laws.proofs.Ways.{width-count, Comes, comes_root, comes_below, comes-guarded, comes-apart, Due, due_here, due_below, due_redex}
use Rattle.machine_laws.proofs.Settling.{Settled, settled, settled_by, passed_by}
use Rattle.machine_laws.proofs.Represents.{Met, same_items, no_items}
use Rattle.machine_laws.proofs.Completing.{Completes, Closed, closed_stop, closed_done, closed_skip, closed_end}
use Rattle.machine_laws.proofs.Simulating.{passes, start, regular, Shows, proper, below, Roots, root_reads, read_same, read_below, shows_read, goes_in, completes_in, completes_first, read_spans}

pub no_items_left : (items : ItemSet) → items ≡ [] → (e c : ℕ) → Contains items (e, c) → ⊥
no_items_left [] z e c i = let y = i.1 in omega (arith, y)
no_items_left (a ∷ items) z e c i = cc

module _ {H : Type 0} where
  -- how many arguments are behind those gone into
  abbrev pub levels : List (Frame H) → List ℕ
  levels [] = []
  levels (f ∷ frames) = count f.behind ∷ levels frames

  keep_behind : (arity : H → ℕ) (ts us : Forest H) → KeepArities arity (append ts us) → KeepArities arity us
  keep_behind arity empty us a = a
  keep_behind arity (grow (node h args) ts) us a = keep_behind arity ts us a.2

  keep_before : (arity : H → ℕ) (ts us : Forest H) → KeepArities arity (append ts us) → KeepArities arity ts
  keep_before arity empty us a = tt
  keep_before arity (grow (node h args) ts) us a = (a.0, a.1, keep_before arity ts us a.2)

  keep_one : (arity : H → ℕ) (t : Tree H) (ts : Forest H) → KeepArities arity (grow t ts) → KeepArities arity (grow t empty)
  keep_one arity (node h args) ts a = (a.0, a.1, tt)

  -- a tree below has the numbers of arguments of the whole
  pub keep_inside : (arity : H → ℕ) (frames : List (Frame H)) (t : Tree H) → KeepArities arity (grow (plug frames t) empty) → KeepArities arity (grow t empty)
  keep_inside arity [] t a = a
  keep_inside arity (f ∷ frames) t a = keep_one arity t f.behind (keep_behind arity f.before (grow t f.behind) (keep_inside arity frames (around f t) a).1)

  pub closed-run : (ts : Forest H) {m : Matcher H} → Closed m → Closed (run m ts)
  closed-run empty closed_stop = closed_stop
  closed-run empty closed_done = closed_stop
  closed-run empty (closed_skip x) = closed_stop
  closed-run empty (closed_end x) = x
  closed-run (grow (node h args) rest) closed_stop = closed_stop
  closed-run (grow (node h args) rest) closed_done = closed_stop
  closed-run (grow (node h args) rest) (closed_skip x) = closed-run rest x
  closed-run (grow (node h args) rest) (closed_end x) = closed_stop

module _ {H : Type 0} (system : System H) (w : IsWellFormedSystem system) (o : IsOrthogonal system) (arity : H → ℕ) (k : HasFixedArities system arity) where
  pub quiet_closed : (ts : Forest H) {m : Matcher H} → Closed m → Quiet (compiled system w) (start system w o arity k) m ts
  quiet_closed empty x = quiet_nil
  quiet_closed (grow t rest) closed_stop = quiet_stop
  quiet_closed (grow t rest) closed_done = quiet_done
  quiet_closed (grow t rest) (closed_skip x) = quiet_skip (quiet_closed rest x)
  quiet_closed (grow t rest) (closed_end x) = quiet_end

  pub only_roots : {inner : ItemSet} {h : H} → IsRead system.in_class (left_sides system) [] h inner → (e c : ℕ) → Met system.in_class (left_sides system) (proper system w o arity k) (Roots system w o arity k) h e c ↔ below system w o arity k inner e c
  only_roots is e c = (
    λ x. (read_same system w o arity k is e c).0 (inr x),
    λ i. elim ((read_same system w o arity k is e c).1 i) [ inl m ↦ absurd (no_items_left [] refl e m.0 m.2) | inr m ↦ m ],
  )

  -- where the reading comes to a node, the joint reading by matchers does
  pub record Arrives (frames : List (Frame H)) (items : ItemSet) : Type 0 where
    pub reads : Label H → Matcher H
    pub comes : Comes (compiled system w) (start system w o arity k) frames reads
    pub shows : (l : Label H) → proper system w o arity k l → (inner : ItemSet) → IsRead system.in_class (left_sides system) items l.0 inner → Shows system w o arity k (reads l) (below system w o arity k inner)
    pub spans : (l : Label H) → Spans (l.1 ∷ levels frames) (reads l)
    pub completes : (l : Label H) → proper system w o arity k l → Completes (reads l) → (e : ℕ) × (c : ℕ) × IsCompleted system.in_class (left_sides system) items l.0 e c
    pub still : (gs : List (Frame H)) → DevelopBeside system frames gs → ComesTo system gs items

  pub develop_all : {ts us : Forest H} {n : ℕ} → Developments system ts us n → (weights : List ℕ) × Develops (compiled system w) ts us weights
  develop_all ds = let a = develop_all-to system w o ds in (a.weights, a.develops)

  argument_still : {f : Frame H} {frames gs : List (Frame H)} {items inner next : ItemSet} → ((hs : List (Frame H)) → DevelopBeside system frames hs → ComesTo system hs items) → IsRead system.in_class (left_sides system) items f.head inner →
      ((us : Forest H) (weights : List ℕ) → Develops (compiled system w) f.before us weights → Passes system inner us next) → WantsRead (left_sides system) next → DevelopBeside system (f ∷ frames) gs → ComesTo system gs next
  argument_still {items = items} {inner = inner} above is before wants (one_more d ds) =
      at_argument (above _ ds) (subst (λ z. IsRead system.in_class (left_sides system) items z inner) d.head is) (before _ _ (develop_all d.before).1) wants

  pub arrives : {frames : List (Frame H)} {items : ItemSet} → ComesTo system frames items → (t : Tree H) → KeepArities arity (grow (plug frames t) empty) → Arrives frames items
  arrives at_root t a =
      record {
        reads = start system w o arity k;
        comes = comes_root;
        shows = λ l p inner is. same_items system.in_class (left_sides system) (proper system w o arity k) (start system w o arity k l) (λ e c. only_roots is e c) (root_reads system w o arity k l p).0;
        spans = λ l. start-spans (regular system w o arity k) l;
        completes = λ l p x. completes_first system w o arity k l p x;
        still = λ gs d. root_still d;
      }
    where
      root_still : {gs : List (Frame H)} → DevelopBeside system [] gs → ComesTo system gs []
      root_still no_more = at_root
  arrives (at_argument {f = f} {frames = frames} {items = items} {inner = inner} {next = next} comes is passed wants) t a =
      let above = arrives comes (around f t) a in
      let here = keep_inside arity frames (around f t) a in
      let l : Label H = (f.head, width f) in
      let p : proper system w o arity k l = width-count f t ∙ here.0 in
      let m = above.reads l in
      let s : Spans ((count f.before + suc (count f.behind)) ∷ levels frames) m = above.spans l in
      let guard = comes-guarded (compiled system w) (start system w o arity k) (regular-compiles (regular system w o arity k)) (regular-sequential (regular system w o arity k)) above.comes l in
      let h = passes system w o arity k passed (keep_before arity f.before (grow t f.behind) here.1) m (suc (count f.behind)) (levels frames) guard s (read_below system w o arity k is) (above.shows l p inner is) in
      let s' = spans-past f.before refl s in
      let held : Contains next (wants.e, wants.c) = elim wants.waiting.held.1 [ inl z ↦ absurd (let y = wants.below in omega (arith, y, z)) | inr i ↦ i ] in
      let x = shows_read system w o arity k (past m f.before) (below system w o arity k next) s' h.shows wants.e wants.c held wants.waiting.cell wants.waiting.is_cell wants.waiting.tested in
      let guard' = subst (λ z. Guarded (start system w o arity k) z) x.1 (guarded-past (start system w o arity k) f.before guard) in
      let s'' = subst (λ z. Spans (suc (count f.behind) ∷ levels frames) z) x.1 s' in
      let shown = subst (λ z. Shows system w o arity k z (below system w o arity k next)) x.1 h.shows in
      record {
        reads = λ l. join (x.0 l) (start system w o arity k l);
        comes = comes_below above.comes h.quiet x.1;
        shows = λ l p inner is. goes_in system w o arity k l p guard' shown is;
        spans = λ l. spans-join (read_spans system w o arity k s'' l) (spans-more (count f.behind ∷ levels frames) (start-spans (regular system w o arity k) l));
        completes = λ l p y. completes_in system w o arity k l p shown y;
        still = λ gs d. argument_still above.still is h.still wants d;
      }

  pub due-demanded : (t : Tree H) (q : Position) → Due (compiled system w) (start system w o arity k) t q → IsDemandedRedex system t q
  due-demanded t q (due_here x) = demand-to system w o (demand_root x)
  due-demanded t q (due_below nothing d) =
      demand-to system w o (leads-demand (compiled system w) (start system w o arity k) (regular-compiles (regular system w o arity k)) (regular-reads (regular system w o arity k)) nothing d)

  -- a redex to which the reading comes is the demanded redex of the whole tree
  pub found : (frames : List (Frame H)) (items : ItemSet) (t : Tree H) → ComesTo system frames items → KeepArities arity (grow (plug frames t) empty) → IsRedex system t → IsDemandedRedex system (plug frames t) (way frames [])
  found frames items (node h args) comes a r =
      let x = step-redex system w o h args r.0 r.1 in
      let at = arrives comes (node h args) a in
      due-demanded (plug frames (node h args)) (way frames []) (due_redex (compiled system w) (start system w o arity k) (regular-compiles (regular system w o arity k)) (regular-sequential (regular system w o arity k)) at.comes h args x.parts x.right x.redex)

  pub settled-no_demand : (t : Tree H) → Settled (compiled system w) (start system w o arity k) t → HasNoDemandedRedex system t
  settled-no_demand t (settled {h = h} {args = args} nothing quiet) =
      no_demand-to system w o (quiet-no_demand (compiled system w) (start system w o arity k) (regular-compiles (regular system w o arity k)) (regular-reads (regular system w o arity k)) h args nothing quiet)

  -- a node that is no redex, and whose arguments the reading has passed, has no demanded redex
  pub left_behind : (frames : List (Frame H)) (items inner next : ItemSet) (h : H) (args : Forest H) → ComesTo system frames items → KeepArities arity (grow (plug frames (node h args)) empty) →
      IsRead system.in_class (left_sides system) items h inner → Passes system inner args next → (IsRedex system (node h args) → ⊥) → HasNoDemandedRedex system (node h args)
  left_behind frames items inner next h args comes a is passed no_redex =
      let at = arrives comes (node h args) a in
      let here = keep_inside arity frames (node h args) a in
      let l : Label H = (h, count args) in
      let guard = comes-guarded (compiled system w) (start system w o arity k) (regular-compiles (regular system w o arity k)) (regular-sequential (regular system w o arity k)) at.comes l in
      let q = passes system w o arity k passed here.1 (at.reads l) 0 (levels frames) guard (subst (λ z. Spans (z ∷ levels frames) (at.reads l)) (omega arith) (at.spans l)) (read_below system w o arity k is) (at.shows l here.0 inner is) in
      settled-no_demand (node h args) (settled_by (compiled system w) (start system w o arity k) (regular-compiles (regular system w o arity k)) (regular-sequential (regular system w o arity k)) (start-spans (regular system w o arity k)) at.comes h args q.quiet (no_redex-from system w o h args no_redex))

  -- ---- where the reading is over

  abbrev NoRedexAt : Tree H → Type 0
  NoRedexAt t = IsRedex system t → ⊥

  pub over_all : {frames : List (Frame H)} {reads : Label H → Matcher H} → Comes (compiled system w) (start system w o arity k) frames reads → (h : H) (args : Forest H) → Quiet (compiled system w) (start system w o arity k) (reads (h, count args)) args → Closed (run (reads (h, count args)) args) →
      AllAround NoRedexAt frames (node h args) → AllAround (HasNoDemandedRedex system) frames (node h args)
  over_all comes_root h args quiet closed no_redex = settled-no_demand (node h args) (settled (no_redex-from system w o h args no_redex) quiet)
  over_all (comes_below {f = f} {above = above} {next = next} comes before e) h args inner closed no_redex =
      let c = regular-compiles (regular system w o arity k) in
      let q = regular-sequential (regular system w o arity k) in
      let l : Label H = (h, count args) in
      let p = passed_by (compiled system w) (start system w o arity k) c q (start-spans (regular system w o arity k)) next h args (comes-apart (compiled system w) (start system w o arity k) c q f comes e l) inner (no_redex-from system w o h args no_redex.0) in
      let behind = grow (node h args) f.behind in
      let all = append f.before behind in
      let left = subst (λ z. Closed z) (sym p.goes_on) closed in
      let read = quiet_read p.none p.own p.quiet refl (quiet_closed f.behind left) in
      let quiet = quiet_append (compiled system w) (start system w o arity k) f.before behind before (subst (λ z. Quiet (compiled system w) (start system w o arity k) z behind) (sym e) read) in
      let r : run (above (f.head, width f)) all ≡ run (run (next l) args) f.behind = run-past f.before behind (above (f.head, width f)) ∙ ap (λ z. run z behind) e in
      let n = width-count f (node h args) in (
        settled-no_demand (node h args) (settled p.none p.own),
        over_all comes f.head all (subst (λ i. Quiet (compiled system w) (start system w o arity k) (above (f.head, i)) all) n quiet) (subst (λ i. Closed (run (above (f.head, i)) all)) n (subst (λ z. Closed z) (sym r) (closed-run f.behind left))) no_redex.1,
      )

  -- where nothing more is wanted in a node, and it and no node above is a redex, they all have no demanded redex
  pub over : (frames : List (Frame H)) (items inner next : ItemSet) (h : H) (before behind : Forest H) → ComesTo system frames items → KeepArities arity (grow (plug frames (node h (append before behind))) empty) →
      IsRead system.in_class (left_sides system) items h inner → Passes system inner before next → WantsNothing (left_sides system) next → AllAround NoRedexAt frames (node h (append before behind)) → AllAround (HasNoDemandedRedex system) frames (node h (append before behind))
  over frames items inner next h before behind comes a is passed nothing no_redex =
      let args = append before behind in
      let at = arrives comes (node h args) a in
      let here = keep_inside arity frames (node h args) a in
      let l : Label H = (h, count args) in
      let m = at.reads l in
      let guard = comes-guarded (compiled system w) (start system w o arity k) (regular-compiles (regular system w o arity k)) (regular-sequential (regular system w o arity k)) at.comes l in
      let q = passes system w o arity k passed (keep_before arity before behind here.1) m (count behind) (levels frames) guard (subst (λ z. Spans (z ∷ levels frames) m) (count-append before behind) (at.spans l)) (read_below system w o arity k is) (at.shows l here.0 inner is) in
      let closed = no_items system.in_class (left_sides system) (proper system w o arity k) (past m before) (no_items_left next nothing) q.shows in
      over_all at.comes h args (quiet_append (compiled system w) (start system w o arity k) before behind q.quiet (quiet_closed behind closed)) (subst (λ z. Closed z) (sym (run-past before behind m)) (closed-run behind closed)) no_redex

  -- ---- after a replacement

  -- where what is before and behind the way develops, the reading comes with the same items to the same node
  pub comes_still : (frames gs : List (Frame H)) (items : ItemSet) (t : Tree H) → ComesTo system frames items → KeepArities arity (grow (plug frames t) empty) → DevelopBeside system frames gs → ComesTo system gs items
  comes_still frames gs items t comes a d = (arrives comes t a).still gs d
