-- The way down from a tree to a node, as the joint reading goes it: what every node above still reads, and what the left sides read at each node, are read at once.
use Rattle.std.proofs.Common.{◌≡◌, ℕ, List, [], ◌∷◌, sym, ◌∙◌, ap, subst, arith}
use Rattle.eq_base.specs.Tree.{Tree, Forest, node, grow, count, Position}
use Rattle.eq_base.specs.Storing.{join as append}
use Rattle.eq_base.specs.Pattern.{PatternCell}
use Rattle.orthogonal_laws.proofs.LeftSides.{Label, Compiled, Redex, NoRedex}
use Rattle.orthogonal_laws.proofs.Matchers.{Matcher, Read, Stop, run, join, Compiles}
use Rattle.orthogonal_laws.proofs.Sequential.{Apart, Guarded, guarded_read, Sequential}
use Rattle.orthogonal_laws.proofs.Walks.{Quiet, Leads, leads_here, leads_below, leads_within}
use Rattle.orthogonal_laws.proofs.TestedParts.{not_both, redex_quiet}
use Rattle.orthogonal_laws.proofs.Joins.{join-guarded}
use Rattle.orthogonal_laws.proofs.JoinedWalks.{by_second, by_first, leads_join}
use Rattle.orthogonal_laws.proofs.ForestDevelopments.{Develops}
use Rattle.orthogonal_laws.proofs.Staying.{develops-count}
use Rattle.machine_laws.specs.Frames.{Frame, width, plug, way}
use Rattle.machine_laws.proofs.Passing.{past, count-append, guarded-past, leads_append, past_stays}

module _ {H : Type 0} where
  pub width-count : (f : Frame H) (t : Tree H) → width f ≡ count (append f.before (grow t f.behind))
  width-count f t = let z = count-append f.before (grow t f.behind) in omega (arith, z)

module _ {H : Type 0} (rules : List (Compiled H)) (start : Label H → Matcher H) where
  -- the joint reading comes to the node below these, and reads it by this: nothing is demanded in what it has read
  pub data Comes : List (Frame H) → (Label H → Matcher H) → Type 0 where
    comes_root : Comes [] start
    comes_below : {f : Frame H} {frames : List (Frame H)} {above : Label H → Matcher H} {next : Label H → Matcher H} →
        Comes frames above → Quiet rules start (above (f.head, width f)) f.before → past (above (f.head, width f)) f.before ≡ Read next → Comes (f ∷ frames) (λ l. join (next l) (start l))

  -- the demanded redex of a tree, by the left sides as they are read
  pub data Due : Tree H → Position → Type 0 where
    due_here : {h : H} {args es : Forest H} {r : Tree (PatternCell H)} → Redex rules h args r es → Due (node h args) []
    due_below : {h : H} {args us : Forest H} {p : Position} → NoRedex rules h args → Leads rules start (start (h, count args)) args p us → Due (node h args) p

  module _ (c : Compiles rules start) (s : Sequential start) where
    pub comes-guarded : {frames : List (Frame H)} {reads : Label H → Matcher H} → Comes frames reads → (l : Label H) → Guarded start (reads l)
    comes-guarded comes_root l = s l
    comes-guarded (comes_below {f = f} {next = next} comes quiet e) l =
        let g = guarded-past start f.before (comes-guarded comes (f.head, width f)) in
        join-guarded start (next_guarded (subst (λ m. Guarded start m) e g) l) (s l)
      where
        next_guarded : Guarded start (Read next) → (l : Label H) → Guarded start (next l)
        next_guarded (guarded_read x gs) l = gs l

    -- what goes on from the nodes above is apart from the left sides at the node
    pub comes-apart : (f : Frame H) {frames : List (Frame H)} {above next : Label H → Matcher H} → Comes frames above → past (above (f.head, width f)) f.before ≡ Read next → (l : Label H) → Apart (next l) (start l)
    comes-apart f {frames} {above} {next} comes e l = next_apart (subst (λ m. Guarded start m) e (guarded-past start f.before (comes-guarded comes (f.head, width f)))) l
      where
        next_apart : Guarded start (Read next) → (l : Label H) → Apart (next l) (start l)
        next_apart (guarded_read x gs) l = x l

    -- where the left sides lead to a redex below a node, it is none itself
    none_above : (h : H) (args us : Forest H) (p : Position) → Leads rules start (start (h, count args)) args p us → NoRedex rules h args
    none_above h args us p d r es x = not_both rules start c (redex_quiet rules start c s h args es r x) d

    -- where they have failed, neither
    none_failed : (h : H) (args : Forest H) → run (start (h, count args)) args ≡ Stop → NoRedex rules h args
    none_failed h args e r es x = let z = sym e ∙ c.finds h args r es x in absurd (cc)

    -- what is led to in an argument and those behind it, where nothing is in those before
    abbrev in_all : (f : Frame H) (above : Label H → Matcher H) {next : Label H → Matcher H} → Quiet rules start (above (f.head, width f)) f.before → past (above (f.head, width f)) f.before ≡ Read next → (t : Tree H) (p : Position) {us : Forest H} →
        Leads rules start (Read next) (grow t f.behind) (0 ∷ p) us → Leads rules start (above (f.head, count (append f.before (grow t f.behind)))) (append f.before (grow t f.behind)) (count f.before ∷ p) (append f.before us)
    in_all f above quiet e t p {us} d =
        let all = append f.before (grow t f.behind) in
        let d' = leads_append rules start f.before (grow t f.behind) (count f.before) 0 p (omega arith) quiet (subst (λ m. Leads rules start m (grow t f.behind) (0 ∷ p) us) (sym e) d) in
        subst (λ k. Leads rules start (above (f.head, k)) all (count f.before ∷ p) (append f.before us)) (width-count f t) d'

    -- what the joint reading leads to below a node is the demanded redex of the whole
    pub due_by_reading : {frames : List (Frame H)} {reads : Label H → Matcher H} → Comes frames reads → (h : H) (args us : Forest H) (p : Position) → Leads rules start (reads (h, count args)) args p us → Due (plug frames (node h args)) (way frames p)
    due_by_reading comes_root h args us p d = due_below (none_above h args us p d) d
    due_by_reading (comes_below {f = f} {above = above} comes quiet e) h args us p d =
        elim (leads_join rules start args (comes-apart f comes e (h, count args)) d) [
          | by_second d' ↦ due_by_reading comes f.head (append f.before (grow (node h args) f.behind)) _ (count f.before ∷ p) (in_all f above quiet e (node h args) p (leads_below (none_above h args us p d') d'))
          | by_first q d' stops ↦ due_by_reading comes f.head (append f.before (grow (node h args) f.behind)) _ (count f.before ∷ p) (in_all f above quiet e (node h args) p (leads_within (none_failed h args stops) q d'))
        ]

    -- a redex to which the joint reading comes is the demanded redex of the whole
    pub due_redex : {frames : List (Frame H)} {reads : Label H → Matcher H} → Comes frames reads → (h : H) (args es : Forest H) (r : Tree (PatternCell H)) → Redex rules h args r es → Due (plug frames (node h args)) (way frames [])
    due_redex comes_root h args es r x = due_here x
    due_redex (comes_below {f = f} {above = above} comes quiet e) h args es r x =
        due_by_reading comes f.head (append f.before (grow (node h args) f.behind)) _ (count f.before ∷ []) (in_all f above quiet e (node h args) [] (leads_here x))

  -- ---- after a replacement

  -- the arguments before and behind have developed
  pub record DevelopsAround (f g : Frame H) : Type 0 where
    pub head : f.head ≡ g.head
    pub before_weights : List ℕ
    pub before : Develops rules f.before g.before before_weights
    pub behind_weights : List ℕ
    pub behind : Develops rules f.behind g.behind behind_weights

  -- those of all nodes above have
  pub data DevelopAbove : List (Frame H) → List (Frame H) → Type 0 where
    no_more : DevelopAbove [] []
    one_more : {f g : Frame H} {fs gs : List (Frame H)} → DevelopsAround f g → DevelopAbove fs gs → DevelopAbove (f ∷ fs) (g ∷ gs)

  -- the joint reading comes to the same node by the same
  pub comes_still : (c : Compiles rules start) {fs gs : List (Frame H)} {reads : Label H → Matcher H} → Comes fs reads → DevelopAbove fs gs → Comes gs reads
  comes_still c comes_root no_more = comes_root
  comes_still c (comes_below {f = f} {above = above} {next = next} comes quiet e) (one_more {g = g} d ds) =
      let n : width g ≡ width f = let a = develops-count rules start c d.before in let b = develops-count rules start c d.behind in omega (arith, a, b) in
      let m : above (g.head, width g) ≡ above (f.head, width f) = ap (λ k. above (g.head, k)) n ∙ ap (λ h. above (h, width f)) (sym d.head) in
      let x = past_stays rules start c quiet d.before in
      comes_below (comes_still c comes ds) (subst (λ m. Quiet rules start m g.before) (sym m) x.1) (ap (λ m. past m g.before) m ∙ (x.0 ∙ e))
