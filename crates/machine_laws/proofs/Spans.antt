-- How many arguments a matcher goes through before it comes to its right side.
use Rattle.std.proofs.Common.{◌≡◌, ℕ, suc, ◌+◌, List, [], ◌∷◌, ◌++◌, Bool, true, false, cond, ◌⊎◌, inl, inr, Option, Some, None, refl, sym, subst, arith}
use Rattle.eq_base.specs.Tree.{Tree, Forest, node, empty, grow, count}
use Rattle.eq_base.specs.Pattern.{PatternCell}
use Rattle.orthogonal_laws.proofs.LeftSides.{Label, Patterns, Last, Open, Test, Compiled, left, length_of, Counted, Regular}
use Rattle.orthogonal_laws.proofs.Matchers.{Matcher, Read, Skip, End, Done, Stop, run, path, done, join, rule_tree, tree}
use Rattle.orthogonal_laws.proofs.DecisionTrees.{Member, member_first, member_next, contains_of}
use Rattle.machine_laws.proofs.Passing.{past}

-- the matcher goes through lists of trees of these lengths, one after another, and through no more of them
pub data Spans {H : Type 0} : List ℕ → Matcher H → Type 0 where
  spans_stop : {ns : List ℕ} → Spans ns Stop
  spans_done : {ns : List ℕ} {r : Tree (PatternCell H)} → Spans ns (Done r)
  spans_end : {ns : List ℕ} {m : Matcher H} → Spans ns m → Spans (0 ∷ ns) (End m)
  spans_skip : {n : ℕ} {ns : List ℕ} {m : Matcher H} → Spans (n ∷ ns) m → Spans (suc n ∷ ns) (Skip m)
  spans_read : {n : ℕ} {ns : List ℕ} {f : Label H → Matcher H} → ((l : Label H) → Spans (l.1 ∷ n ∷ ns) (f l)) → Spans (suc n ∷ ns) (Read f)

module _ {H : Type 0} where
  pub spans-run : (ts : Forest H) {n : ℕ} {ns : List ℕ} {m : Matcher H} → n ≡ count ts → Spans (n ∷ ns) m → Spans ns (run m ts)
  spans-run empty e spans_stop = spans_stop
  spans-run empty e spans_done = spans_stop
  spans-run empty e (spans_end s) = s
  spans-run empty e (spans_skip s) = spans_stop
  spans-run empty e (spans_read s) = spans_stop
  spans-run (grow (node h args) rest) e spans_stop = spans_stop
  spans-run (grow (node h args) rest) e spans_done = spans_stop
  spans-run (grow (node h args) rest) e (spans_end s) = spans_stop
  spans-run (grow (node h args) rest) e (spans_skip s) = spans-run rest (omega (arith, e)) s
  spans-run (grow (node h args) rest) e (spans_read s) = spans-run rest (omega (arith, e)) (spans-run args refl (s (h, count args)))

  pub spans-past : (ts : Forest H) {n k : ℕ} {ns : List ℕ} {m : Matcher H} → n ≡ count ts + k → Spans (n ∷ ns) m → Spans (k ∷ ns) (past m ts)
  spans-past empty {n} {k} {ns} {m} e s = let same : n ≡ k = omega (arith, e) in subst (λ z. Spans (z ∷ ns) m) same s
  spans-past (grow (node h args) rest) e spans_stop = spans_stop
  spans-past (grow (node h args) rest) e spans_done = spans_stop
  spans-past (grow (node h args) rest) e (spans_end s) = spans_stop
  spans-past (grow (node h args) rest) e (spans_skip s) = spans-past rest (omega (arith, e)) s
  spans-past (grow (node h args) rest) e (spans_read s) = spans-past rest (omega (arith, e)) (spans-run args refl (s (h, count args)))

  pub spans-more : (ms : List ℕ) {ns : List ℕ} {m : Matcher H} → Spans ns m → Spans (ns ++ ms) m
  spans-more ms spans_stop = spans_stop
  spans-more ms spans_done = spans_done
  spans-more ms (spans_end s) = spans_end (spans-more ms s)
  spans-more ms (spans_skip s) = spans_skip (spans-more ms s)
  spans-more ms (spans_read s) = spans_read (λ l. spans-more ms (s l))

  pub spans-join : {ns : List ℕ} {a b : Matcher H} → Spans ns a → Spans ns b → Spans ns (join a b)
  spans-join spans_stop t = t
  spans-join spans_done t = spans_done
  spans-join (spans_end s) spans_stop = spans_end s
  spans-join (spans_end s) spans_done = spans_end s
  spans-join (spans_end s) (spans_end t) = spans_end (spans-join s t)
  spans-join (spans_skip s) spans_stop = spans_skip s
  spans-join (spans_skip s) spans_done = spans_skip s
  spans-join (spans_skip s) (spans_skip t) = spans_skip (spans-join s t)
  spans-join (spans_skip s) (spans_read t) = spans_skip s
  spans-join (spans_read s) spans_stop = spans_read s
  spans-join (spans_read s) spans_done = spans_read s
  spans-join (spans_read s) (spans_skip t) = spans_read s
  spans-join (spans_read s) (spans_read t) = spans_read (λ l. spans-join (s l) (t l))

  -- behind all lists there is a right side, or nothing
  pub spans-none : {m : Matcher H} → Spans [] m → ((r : Tree (PatternCell H)) × (m ≡ Done r)) ⊎ (m ≡ Stop)
  spans-none spans_stop = inr refl
  spans-none spans_done = inl (_, refl)

  -- ---- of left sides

  spans_cond : (b : Bool) {ns : List ℕ} {m : Matcher H} → (b ≡ true → Spans ns m) → Spans ns (cond b m Stop)
  spans_cond true s = s refl
  spans_cond false s = spans_stop

  path-spans : (f : H) (ps : Patterns H) (k : Forest H → Matcher H) {ns : List ℕ} → Counted ps → ((ts : Forest H) → Spans ns (k ts)) → Spans (length_of ps ∷ ns) (path f ps k)
  path-spans f Last k n each = spans_end (each empty)
  path-spans f (Open ps) k n each = spans_skip (path-spans f ps (λ ts. k (grow (node f empty) ts)) n (λ ts. each (grow (node f empty) ts)))
  path-spans f (Test test ps qs) k {ns} n each =
      spans_read (λ h. spans_cond (test h) (λ e.
      let below = path-spans f ps (λ us. path f qs (λ ts. k (grow (node h.0 us) ts))) n.1 (λ us. path-spans f qs (λ ts. k (grow (node h.0 us) ts)) n.2 (λ ts. each (grow (node h.0 us) ts))) in
      let same : length_of ps ≡ h.1 = sym (n.0 h e) in
      subst (λ z. Spans (z ∷ length_of qs ∷ ns) (path f ps (λ us. path f qs (λ ts. k (grow (node h.0 us) ts))))) same below))

  done-spans : (r : Option (Tree (PatternCell H))) → Spans [] (done r)
  done-spans None = spans_stop
  done-spans (Some r) = spans_done

  rule-spans : (rule : Compiled H) → Counted (left rule) → (l : Label H) → Spans (l.1 ∷ []) (rule_tree rule l)
  rule-spans rule n l =
      spans_cond (rule.root l) (λ e.
      let same : length_of rule.args ≡ l.1 = sym (n.0 l e) in
      subst (λ z. Spans (z ∷ []) (path l.0 rule.args (λ us. done (rule.right (node l.0 us))))) same (path-spans l.0 rule.args (λ us. done (rule.right (node l.0 us))) n.1 (λ us. done-spans (rule.right (node l.0 us)))))

  tree-spans : (rules : List (Compiled H)) → ((rule : Compiled H) → Member rules rule → Counted (left rule)) → (l : Label H) → Spans (l.1 ∷ []) (tree rules l)
  tree-spans [] n l = spans_stop
  tree-spans (rule ∷ rules) n l = spans-join (rule-spans rule (n rule member_first) l) (tree-spans rules (λ other i. n other (member_next i)) l)

  -- the left sides with a head read its arguments
  pub start-spans : {rules : List (Compiled H)} → Regular rules → (l : Label H) → Spans (l.1 ∷ []) (tree rules l)
  start-spans {rules} regular l = tree-spans rules (λ rule i. regular.counted rule (contains_of i)) l
