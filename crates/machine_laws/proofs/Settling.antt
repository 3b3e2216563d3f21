-- What the joint reading shows of the nodes that it leaves: they are no redexes, and nothing is demanded in them.
use Rattle.std.proofs.Common.{◌≡◌, List, [], ◌∷◌, inl, inr, refl, sym, ◌∙◌, ap, subst}
use Rattle.eq_base.specs.Tree.{Tree, Forest, node, empty, grow, count}
use Rattle.eq_base.specs.Storing.{join as append, join-empty}
use Rattle.eq_base.specs.Pattern.{PatternCell}
use Rattle.orthogonal_laws.proofs.LeftSides.{Label, Compiled, NoRedex}
use Rattle.orthogonal_laws.proofs.Matchers.{Matcher, Read, Skip, End, Done, Stop, run, join, Alive, Compiles}
use Rattle.orthogonal_laws.proofs.Sequential.{Apart, Sequential}
use Rattle.orthogonal_laws.proofs.Walks.{Quiet, quiet_read, quiet_skip, quiet_nil, quiet_end, quiet_stop}
use Rattle.orthogonal_laws.proofs.TestedParts.{apart-done}
use Rattle.orthogonal_laws.proofs.Joins.{join-stop, joined}
use Rattle.orthogonal_laws.proofs.JoinedWalks.{apart-beside, quiet_join}
use Rattle.machine_laws.proofs.Passing.{past, run-past, past-past, quiet_append}
use Rattle.machine_laws.proofs.Spans.{Spans, spans-run, spans-none}
use Rattle.orthogonal_laws.proofs.JoinedWalks.{apart-run}
use Rattle.machine_laws.specs.Frames.{Frame, around, width}
use Rattle.machine_laws.proofs.Ways.{width-count, Comes, comes_root, comes_below, comes-apart}

module _ {H : Type 0} where
  -- the matcher leads to no right side here
  abbrev pub IsOpen : Matcher H → Type 0
  IsOpen m = (r : Tree (PatternCell H)) → m ≡ Done r → ⊥

  -- the matcher reads nothing more, and leads to no right side
  pub data Ceases : Matcher H → Type 0 where
    ceases_stop : Ceases Stop
    ceases_skip : {m : Matcher H} → Ceases m → Ceases (Skip m)
    ceases_end : {m : Matcher H} → Ceases m → Ceases (End m)

  pub ceases-run : (ts : Forest H) {m : Matcher H} → Ceases m → Ceases (run m ts)
  ceases-run empty ceases_stop = ceases_stop
  ceases-run empty (ceases_skip x) = ceases_stop
  ceases-run empty (ceases_end x) = x
  ceases-run (grow (node h args) rest) ceases_stop = ceases_stop
  ceases-run (grow (node h args) rest) (ceases_skip x) = ceases-run rest x
  ceases-run (grow (node h args) rest) (ceases_end x) = ceases_stop

  pub ceases-no_right : {m : Matcher H} → Ceases m → IsOpen m
  ceases-no_right ceases_stop r e = cc
  ceases-no_right (ceases_skip x) r e = cc
  ceases-no_right (ceases_end x) r e = cc

module _ {H : Type 0} (rules : List (Compiled H)) (start : Label H → Matcher H) where
  pub quiet_ceases : (ts : Forest H) {m : Matcher H} → Ceases m → Quiet rules start m ts
  quiet_ceases empty x = quiet_nil
  quiet_ceases (grow t rest) ceases_stop = quiet_stop
  quiet_ceases (grow t rest) (ceases_skip x) = quiet_skip (quiet_ceases rest x)
  quiet_ceases (grow t rest) (ceases_end x) = quiet_end

  -- the tree has no demanded redex, by the left sides as they are read
  pub data Settled : Tree H → Type 0 where
    settled : {h : H} {args : Forest H} → NoRedex rules h args → Quiet rules start (start (h, count args)) args → Settled (node h args)

  -- nor has any of the trees around it
  abbrev pub AreSettled : List (Frame H) → Tree H → Type 0
  AreSettled [] t = Settled t
  AreSettled (f ∷ frames) t = Settled t × AreSettled frames (around f t)

  -- what is known of a node whose arguments have been passed
  pub record Passed (next : Label H → Matcher H) (h : H) (args : Forest H) : Type 0 where
    pub none : NoRedex rules h args
    pub own : Quiet rules start (start (h, count args)) args
    pub quiet : Quiet rules start (next (h, count args)) args
    pub goes_on : run (next (h, count args)) args ≡ run (join (next (h, count args)) (start (h, count args))) args

  module _ (c : Compiles rules start) (s : Sequential start) (n : (l : Label H) → Spans (l.1 ∷ []) (start l)) where
    -- where nothing is left of the left sides, it is no redex
    none_at_root : (h : H) (args : Forest H) → IsOpen (run (start (h, count args)) args) → NoRedex rules h args
    none_at_root h args no_right r es x = no_right r (c.finds h args r es x)

    open_of_join : {a b : Matcher H} → Apart a b → IsOpen (join a b) → IsOpen b
    open_of_join {a} {b} apart no_right r e = no_right r (joins_to a b r apart e)
      where
        stops : (a : Matcher H) → (Alive a → ⊥) → a ≡ Stop
        stops (Read f) dead = absurd (dead tt)
        stops (Skip m) dead = absurd (dead tt)
        stops (End m) dead = absurd (dead tt)
        stops (Done q) dead = absurd (dead tt)
        stops Stop dead = refl

        joins_to : (a b : Matcher H) (r : Tree (PatternCell H)) → Apart a b → b ≡ Done r → join a b ≡ Done r
        joins_to a b r apart e =
            let x = subst (λ z. Apart a z) e apart in
            ap (λ z. join z b) (stops a (λ alive. apart-done x alive)) ∙ e

    -- what is known of a node that is no redex and whose arguments have been passed
    pub passed_by : (next : Label H → Matcher H) (h : H) (args : Forest H) → Apart (next (h, count args)) (start (h, count args)) → Quiet rules start (join (next (h, count args)) (start (h, count args))) args → NoRedex rules h args → Passed next h args
    passed_by next h args apart quiet none =
        let both = quiet_join rules start args apart quiet in
        let j = joined args (apart-beside apart) in
        let stops : run (start (h, count args)) args ≡ Stop = elim (spans-none (spans-run args refl (n (h, count args)))) [
          | inl d ↦ absurd (none d.0 _ (c.redex h args d.0 d.1))
          | inr e ↦ e
        ] in
        record {
          none = none;
          own = both.1;
          quiet = both.0;
          goes_on = sym (j.runs ∙ (ap (λ z. join (run (next (h, count args)) args) z) stops ∙ join-stop (run (next (h, count args)) args)));
        }

    pub passed : (next : Label H → Matcher H) (h : H) (args : Forest H) → Apart (next (h, count args)) (start (h, count args)) → Quiet rules start (join (next (h, count args)) (start (h, count args))) args →
        IsOpen (run (join (next (h, count args)) (start (h, count args))) args) → Passed next h args
    passed next h args apart quiet no_right =
        let j = joined args (apart-beside apart) in
        passed_by next h args apart quiet (none_at_root h args (open_of_join (apart-run args apart) (subst (λ m. IsOpen m) j.runs no_right)))

    -- the way back to the node above: it has passed one more argument
    pub back : (f : Frame H) {frames : List (Frame H)} (above : Label H → Matcher H) (next : Label H → Matcher H) → Comes rules start frames above → Quiet rules start (above (f.head, width f)) f.before → past (above (f.head, width f)) f.before ≡ Read next →
        (h : H) (args : Forest H) (m : Matcher H) → Quiet rules start (join (next (h, count args)) (start (h, count args))) args → past (join (next (h, count args)) (start (h, count args))) args ≡ End m → IsOpen m →
        Settled (node h args) × Quiet rules start (above (f.head, width f)) (append f.before (grow (node h args) empty)) × (past (above (f.head, width f)) (append f.before (grow (node h args) empty)) ≡ m)
    back f above next comes quiet e h args m inner at no_right =
        let l : Label H = (h, count args) in
        let whole = join (next l) (start l) in
        let runs : run whole args ≡ m = ap (λ z. run whole z) (sym (join-empty args)) ∙ (run-past args empty whole ∙ ap (λ z. run z empty) at) in
        let p = passed next h args (comes-apart rules start c s f comes e l) inner (subst (λ z. IsOpen z) (sym runs) no_right) in
        let one = grow (node h args) empty in (
          settled p.none p.own,
          quiet_append rules start f.before one quiet (subst (λ z. Quiet rules start z one) (sym e) (quiet_read p.none p.own p.quiet refl quiet_nil)),
          past-past f.before one (above (f.head, width f)) ∙ (ap (λ z. past z one) e ∙ (p.goes_on ∙ runs)),
        )

    -- where the joint reading reads nothing more, none of the nodes on its way has a demanded redex
    pub all_settled : {frames : List (Frame H)} {reads : Label H → Matcher H} → Comes rules start frames reads → (h : H) (args : Forest H) → Quiet rules start (reads (h, count args)) args → Ceases (run (reads (h, count args)) args) → AreSettled frames (node h args)
    all_settled comes_root h args quiet ceases = settled (none_at_root h args (ceases-no_right ceases)) quiet
    all_settled (comes_below {f = f} {above = above} {next = next} comes quiet e) h args inner ceases =
        let l : Label H = (h, count args) in
        let p = passed next h args (comes-apart rules start c s f comes e l) inner (ceases-no_right ceases) in
        let behind = grow (node h args) f.behind in
        let all = append f.before behind in
        let left = subst (λ z. Ceases z) (sym p.goes_on) ceases in
        let read = quiet_read p.none p.own p.quiet refl (quiet_ceases f.behind left) in
        let q = quiet_append rules start f.before behind quiet (subst (λ z. Quiet rules start z behind) (sym e) read) in
        let r : run (above (f.head, width f)) all ≡ run (run (next l) args) f.behind = run-past f.before behind (above (f.head, width f)) ∙ ap (λ z. run z behind) e in
        let w = width-count f (node h args) in (
          settled p.none p.own,
          all_settled comes f.head all (subst (λ k. Quiet rules start (above (f.head, k)) all) w q) (subst (λ k. Ceases (run (above (f.head, k)) all)) w (subst (λ z. Ceases z) (sym r) (ceases-run f.behind left))),
        )

    -- a node that is no redex, with arguments that the reading has passed, has no demanded redex
    pub settled_by : {frames : List (Frame H)} {reads : Label H → Matcher H} → Comes rules start frames reads → (h : H) (args : Forest H) → Quiet rules start (reads (h, count args)) args → NoRedex rules h args → Settled (node h args)
    settled_by comes_root h args quiet none = settled none quiet
    settled_by (comes_below {f = f} {next = next} comes before e) h args quiet none =
        let p = passed_by next h args (comes-apart rules start c s f comes e (h, count args)) quiet none in
        settled p.none p.own

    -- the same where nothing is left of the left sides that are read
    pub settled_open : {frames : List (Frame H)} {reads : Label H → Matcher H} → Comes rules start frames reads → (h : H) (args : Forest H) → Quiet rules start (reads (h, count args)) args → IsOpen (run (reads (h, count args)) args) → Settled (node h args)
    settled_open comes_root h args quiet no_right = settled (none_at_root h args no_right) quiet
    settled_open (comes_below {f = f} {next = next} comes before e) h args quiet no_right =
        let p = passed next h args (comes-apart rules start c s f comes e (h, count args)) quiet no_right in
        settled p.none p.own
