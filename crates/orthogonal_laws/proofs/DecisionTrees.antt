-- The decision tree of a list of rules does what the rules say.
use Rattle.std.proofs.Common.{◌≡◌, ℕ, zero, suc, List, [], ◌∷◌, Bool, true, false, cond, ◌⊎◌, inl, inr, refl, sym, ◌∙◌, ap, subst, arith, Option, Some, None}
use Rattle.std.specs.Prelude.{IsTrue, Contains, ◌<◌, length, slice_index_or}
use Rattle.eq_base.specs.Tree.{Tree, Forest, node, empty, grow, count}
use Rattle.eq_base.specs.Pattern.{PatternCell}
use Rattle.orthogonal_laws.proofs.LeftSides.{Label, Patterns, Last, Open, Test, Compiled, Meets, Redex, IsPart, part_here, part_below, part_after, part_skip, Alike, alike_last, alike_open, alike_test, Clash, clash_here, clash_below, clash_after, clash_skip, left, length_of, Counted, Regular}
use Rattle.orthogonal_laws.proofs.Matchers.{Matcher, Done, Stop, run, parts, path, done, join, rule_tree, tree, Alive, Compiles}
use Rattle.orthogonal_laws.proofs.Sequential.{Beside, beside_read, beside_skip, beside_end, beside_done, beside_stop_left, beside_stop_right, Apart, Guarded, guarded_read, guarded_skip, guarded_end, guarded_done, guarded_stop, Sequential}
use Rattle.orthogonal_laws.proofs.Joins.{join-stop, beside-join, join-guarded, joined}
use Rattle.orthogonal_laws.proofs.Paths.{rule_path, rule-run, rule-parts, run-rule}

beside_cond : {H : Type 0} (D : Tree (PatternCell H) → Tree (PatternCell H) → Type 0) (x y : Bool) (a b : Matcher H) → (x ≡ true → y ≡ true → Beside D a b) → Beside D (cond x a Stop) (cond y b Stop)
beside_cond D true true a b both = both refl refl
beside_cond D true false a b both = beside_stop_right
beside_cond D false y a b both = beside_stop_left

module _ {H : Type 0} where
  -- patterns that test the same positions are read side by side to their end
  alike_beside : (D : Tree (PatternCell H) → Tree (PatternCell H) → Type 0) {ps qs : Patterns H} → Alike ps qs → (f g : H) (k l : Forest H → Matcher H) → ((us vs : Forest H) → Beside D (k us) (l vs)) → Beside D (path f ps k) (path g qs l)
  alike_beside D alike_last f g k l b = beside_end (b empty empty)
  alike_beside D (alike_open a) f g k l b =
      beside_skip (alike_beside D a f g (λ ts. k (grow (node f empty) ts)) (λ ts. l (grow (node g empty) ts)) (λ us vs. b (grow (node f empty) us) (grow (node g empty) vs)))
  alike_beside D (alike_test {s = s} {t = t} {ps' = ps'} {qs' = qs'} a a') f g k l b =
      beside_read (λ h. beside_cond D (s h) (t h) _ _ (λ e e'.
      alike_beside D a f g (λ us. path f ps' (λ ts. k (grow (node h.0 us) ts))) (λ us. path g qs' (λ ts. l (grow (node h.0 us) ts)))
      (λ us vs. alike_beside D a' f g (λ ts. k (grow (node h.0 us) ts)) (λ ts. l (grow (node h.0 vs) ts)) (λ us' vs'. b (grow (node h.0 us) us') (grow (node h.0 vs) vs')))))

  -- patterns that clash are beside each other, whatever follows
  pub clash_beside : (D : Tree (PatternCell H) → Tree (PatternCell H) → Type 0) {ps qs : Patterns H} → Clash ps qs → (f g : H) (k l : Forest H → Matcher H) → Beside D (path f ps k) (path g qs l)
  clash_beside D (clash_here {s = s} {t = t} d) f g k l = beside_read (λ h. beside_cond D (s h) (t h) _ _ (λ e e'. absurd (d h e e')))
  clash_beside D (clash_below {s = s} {t = t} {ps' = ps'} {qs' = qs'} c) f g k l =
      beside_read (λ h. beside_cond D (s h) (t h) _ _ (λ e e'. clash_beside D c f g (λ us. path f ps' (λ ts. k (grow (node h.0 us) ts))) (λ us. path g qs' (λ ts. l (grow (node h.0 us) ts)))))
  clash_beside D (clash_after {s = s} {t = t} {ps' = ps'} {qs' = qs'} a c) f g k l =
      beside_read (λ h. beside_cond D (s h) (t h) _ _ (λ e e'.
      alike_beside D a f g (λ us. path f ps' (λ ts. k (grow (node h.0 us) ts))) (λ us. path g qs' (λ ts. l (grow (node h.0 us) ts)))
      (λ us vs. clash_beside D c f g (λ ts. k (grow (node h.0 us) ts)) (λ ts. l (grow (node h.0 vs) ts)))))
  clash_beside D (clash_skip c) f g k l = beside_skip (clash_beside D c f g (λ ts. k (grow (node f empty) ts)) (λ ts. l (grow (node g empty) ts)))

  pub meets-length : (ps : Patterns H) (ts : Forest H) → Meets ps ts → count ts ≡ length_of ps
  meets-length Last empty m = refl
  meets-length Last (grow t ts) m = absurd m
  meets-length (Open ps) empty m = absurd m
  meets-length (Open ps) (grow t ts) m = ap suc (meets-length ps ts m)
  meets-length (Test test ps qs) empty m = absurd m
  meets-length (Test test ps qs) (grow (node h us) ts) m = ap suc (meets-length qs ts m.2)

  -- the label is that of a tree whose arguments meet the patterns
  labelled : (test : Label H → Bool) (ps : Patterns H) (h : Label H) (us : Forest H) → ((k : Label H) → IsTrue (test k) → k.1 ≡ length_of ps) → Meets ps us → IsTrue (test h) → IsTrue (test (h.0, count us))
  labelled test ps h us n m e = subst (λ k. IsTrue (test (h.0, k))) (n h e ∙ sym (meets-length ps us m)) e

  -- where one list of trees is met by both, what follows is beside each other
  alike_met : (D : Tree (PatternCell H) → Tree (PatternCell H) → Type 0) {ps qs : Patterns H} → Alike ps qs → Counted ps → Counted qs → (f : H) (k l : Forest H → Matcher H) → ((ts : Forest H) → Meets ps ts → Meets qs ts → Beside D (k ts) (l ts)) → Beside D (path f ps k) (path f qs l)
  alike_met D alike_last n n' f k l b = beside_end (b empty tt tt)
  alike_met D (alike_open a) n n' f k l b =
      beside_skip (alike_met D a n n' f (λ ts. k (grow (node f empty) ts)) (λ ts. l (grow (node f empty) ts)) (λ ts m m'. b (grow (node f empty) ts) m m'))
  alike_met D (alike_test {s = s} {t = t} {ps = ps} {ps' = ps'} {qs = qs} {qs' = qs'} a a') n n' f k l b =
      beside_read (λ h. beside_cond D (s h) (t h) _ _ (λ e e'.
      alike_met D a n.1 n'.1 f (λ us. path f ps' (λ ts. k (grow (node h.0 us) ts))) (λ us. path f qs' (λ ts. l (grow (node h.0 us) ts)))
      (λ us m m'. alike_met D a' n.2 n'.2 f (λ ts. k (grow (node h.0 us) ts)) (λ ts. l (grow (node h.0 us) ts))
      (λ ts x x'. b (grow (node h.0 us) ts) (labelled s ps h us n.0 m e, m, x) (labelled t qs h us n'.0 m' e', m', x')))))

  pub data Member : List (Compiled H) → Compiled H → Type 0 where
    member_first : {rule : Compiled H} {rules : List (Compiled H)} → Member (rule ∷ rules) rule
    member_next : {rule other : Compiled H} {rules : List (Compiled H)} → Member rules rule → Member (other ∷ rules) rule

  member_at : (rules : List (Compiled H)) (k : ℕ) (rule : Compiled H) → k < length rules → slice_index_or rules k rule ≡ rule → Member rules rule
  member_at [] k rule below e = absurd (omega arith)
  member_at (other ∷ rules) zero rule below e = subst (λ x. Member (other ∷ rules) x) e member_first
  member_at (other ∷ rules) (suc k) rule below e = member_next (member_at rules k rule (omega arith) e)

  pub member_of : {rules : List (Compiled H)} {rule : Compiled H} → Contains rules rule → Member rules rule
  member_of {rules} {rule} c = member_at rules c.0 rule c.1 c.2

  pub contains_of : {rules : List (Compiled H)} {rule : Compiled H} → Member rules rule → Contains rules rule
  contains_of member_first = (0, omega arith, refl)
  contains_of (member_next m) = let c = contains_of m in (suc c.0, omega (arith, c.1), c.2)

  -- a rule's tree is beside that of rules beside each of whose trees it is
  beside-tree : (D : Tree (PatternCell H) → Tree (PatternCell H) → Type 0) (m : Matcher H) (rules : List (Compiled H)) (h : Label H) → ((b : Compiled H) → Member rules b → Beside D m (rule_tree b h)) → Beside D m (tree rules h)
  beside-tree D m [] h each = beside_stop_right
  beside-tree D m (rule ∷ rules) h each = beside-join D (each rule member_first) (beside-tree D m rules h (λ b i. each b (member_next i)))

  join-right : {m : Matcher H} {r : Tree (PatternCell H)} → Beside (λ r s. r ≡ s) m (Done r) → join m (Done r) ≡ Done r
  join-right (beside_done e) = ap (λ x. Done x) e
  join-right beside_stop_left = refl

  join-either : {a b : Matcher H} {r : Tree (PatternCell H)} → Beside (λ r s. r ≡ s) a b → join a b ≡ Done r → (a ≡ Done r) ⊎ (b ≡ Done r)
  join-either (beside_read x) e = absurd (cc)
  join-either (beside_skip x) e = absurd (cc)
  join-either (beside_end x) e = absurd (cc)
  join-either (beside_done x) e = inl e
  join-either beside_stop_left e = inr e
  join-either (beside_stop_right {a = a}) e = inl (sym (join-stop a) ∙ e)

  -- the trees of any two rules are beside each other
  abbrev pub Fit : List (Compiled H) → Type 0
  Fit rules = (a b : Compiled H) → Member rules a → Member rules b → (h : Label H) → Beside (λ r s. r ≡ s) (rule_tree a h) (rule_tree b h)

  pub first_fits : (rule : Compiled H) (rules : List (Compiled H)) → Fit (rule ∷ rules) → (h : Label H) → Beside (λ r s. r ≡ s) (rule_tree rule h) (tree rules h)
  first_fits rule rules fit h = beside-tree (λ r s. r ≡ s) (rule_tree rule h) rules h (λ b i. fit rule b member_first (member_next i) h)

  -- what one rule says, the tree says
  tree-run : {rules : List (Compiled H)} {rule : Compiled H} → Member rules rule → Fit rules → (h : H) (ts : Forest H) (r : Tree (PatternCell H)) → run (rule_tree rule (h, count ts)) ts ≡ Done r →
      (run (tree rules (h, count ts)) ts ≡ Done r) × ((more : Forest H) → parts (tree rules (h, count ts)) ts more ≡ parts (rule_tree rule (h, count ts)) ts more)
  tree-run (member_first {rule = rule} {rules = rules}) fit h ts r e =
      let j = joined ts (first_fits rule rules fit (h, count ts)) in
      (j.runs ∙ ap (λ m. join m (run (tree rules (h, count ts)) ts)) e, λ more. j.left (subst Alive (sym e) tt) more)
  tree-run (member_next {other = other} {rules = rules} i) fit h ts r e =
      let w = tree-run i (λ a b i i' h. fit a b (member_next i) (member_next i') h) h ts r e in
      let j = joined ts (first_fits other rules fit (h, count ts)) in
      let right = join-right (subst (λ m. Beside (λ r s. r ≡ s) (run (rule_tree other (h, count ts)) ts) m) w.0 j.fits) in
      (j.runs ∙ (ap (λ m. join (run (rule_tree other (h, count ts)) ts) m) w.0 ∙ right), λ more. j.right (subst Alive (sym w.0) tt) more ∙ w.1 more)

  -- what the tree says, some rule says
  run-tree : (rules : List (Compiled H)) → Fit rules → (h : H) (ts : Forest H) (r : Tree (PatternCell H)) → run (tree rules (h, count ts)) ts ≡ Done r →
      (rule : Compiled H) × Member rules rule × (run (rule_tree rule (h, count ts)) ts ≡ Done r) × ((more : Forest H) → parts (tree rules (h, count ts)) ts more ≡ parts (rule_tree rule (h, count ts)) ts more)
  run-tree [] fit h empty r e = absurd (cc)
  run-tree [] fit h (grow t more) r e = absurd (cc)
  run-tree (rule ∷ rules) fit h ts r e =
      let j = joined ts (first_fits rule rules fit (h, count ts)) in
      elim (join-either j.fits (sym j.runs ∙ e)) [
        | inl e' ↦ (rule, member_first, e', λ more. j.left (subst Alive (sym e') tt) more)
        | inr e' ↦
            let w = run-tree rules (λ a b i i' h. fit a b (member_next i) (member_next i') h) h ts r e' in
            (w.0, member_next w.1, w.2, λ more. j.right (subst Alive (sym e') tt) more ∙ w.3 more)
      ]

  done_beside : {D : Tree (PatternCell H) → Tree (PatternCell H) → Type 0} (o p : Option (Tree (PatternCell H))) → ((r s : Tree (PatternCell H)) → o ≡ Some r → p ≡ Some s → D r s) → Beside D (done o) (done p)
  done_beside None p d = beside_stop_left
  done_beside (Some r) None d = beside_stop_right
  done_beside (Some r) (Some s) d = beside_done (d r s refl refl)

  same_some : {o p : Option (Tree (PatternCell H))} {r s : Tree (PatternCell H)} → o ≡ p → o ≡ Some r → p ≡ Some s → r ≡ s
  same_some e e' e'' = cc

  roots_clash : (D : Tree (PatternCell H) → Tree (PatternCell H) → Type 0) (a b : Compiled H) (h : Label H) → IsTrue (a.root h) → IsTrue (b.root h) → Clash (left a) (left b) → Beside D (rule_path a h) (rule_path b h)
  roots_clash D a b h e e' (clash_here d) = absurd (d h e e')
  roots_clash D a b h e e' (clash_below c) = clash_beside D c h.0 h.0 (λ us. done (a.right (node h.0 us))) (λ us. done (b.right (node h.0 us)))
  roots_clash D a b h e e' (clash_after x c) = elim c [ ]

  roots_alike : (a b : Compiled H) (h : Label H) → IsTrue (a.root h) → IsTrue (b.root h) → Counted (left a) → Counted (left b) → Alike (left a) (left b) → ((us : Forest H) → IsTrue (a.root (h.0, count us)) → IsTrue (b.root (h.0, count us)) → Meets a.args us → Meets b.args us → a.right (node h.0 us) ≡ b.right (node h.0 us)) → Beside (λ r s. r ≡ s) (rule_path a h) (rule_path b h)
  roots_alike a b h e e' n n' (alike_test x y) same =
      alike_met (λ r s. r ≡ s) x n.1 n'.1 h.0 (λ us. done (a.right (node h.0 us))) (λ us. done (b.right (node h.0 us)))
      (λ us m m'. done_beside (a.right (node h.0 us)) (b.right (node h.0 us)) (λ r s e1 e2. same_some (same us (labelled a.root a.args h us n.0 m e) (labelled b.root b.args h us n'.0 m' e') m m') e1 e2))

  pub regular-fit : {rules : List (Compiled H)} → Regular rules → Fit rules
  regular-fit regular a b i j h =
      beside_cond (λ r s. r ≡ s) (a.root h) (b.root h) (rule_path a h) (rule_path b h) (λ e e'.
      elim (regular.roots a b (contains_of i) (contains_of j)) [
        | inl c ↦ roots_clash (λ r s. r ≡ s) a b h e e' c
        | inr s ↦ roots_alike a b h e e' (regular.counted a (contains_of i)) (regular.counted b (contains_of j)) s.0 (λ us x x' m m'. s.1 h.0 us x x' m m')
      ])

  apart_cond : (b : Bool) (a c : Matcher H) → (b ≡ true → Apart a c) → Apart (cond b a Stop) c
  apart_cond true a c x = x refl
  apart_cond false a c x = beside_stop_left

  apart_cond_right : (b : Bool) (a c : Matcher H) → (b ≡ true → Apart a c) → Apart a (cond b c Stop)
  apart_cond_right true a c x = x refl
  apart_cond_right false a c x = beside_stop_right

  guarded_cond : (start : Label H → Matcher H) (b : Bool) (m : Matcher H) → Guarded start m → Guarded start (cond b m Stop)
  guarded_cond start true m g = g
  guarded_cond start false m g = guarded_stop

  done-guarded : (start : Label H → Matcher H) (o : Option (Tree (PatternCell H))) → Guarded start (done o)
  done-guarded start None = guarded_stop
  done-guarded start (Some r) = guarded_done

  -- a path is guarded where each of its parts is apart from all that starts there
  path-guarded : (start : Label H → Matcher H) (f : H) (ps : Patterns H) (k : Forest H → Matcher H) →
      ((test : Label H → Bool) (qs : Patterns H) → IsPart test qs ps → (h : Label H) → IsTrue (test h) → (l : Forest H → Matcher H) → Apart (path f qs l) (start h)) →
      ((ts : Forest H) → Guarded start (k ts)) → Guarded start (path f ps k)
  path-guarded start f Last k each g = guarded_end (g empty)
  path-guarded start f (Open ps) k each g = guarded_skip (path-guarded start f ps (λ ts. k (grow (node f empty) ts)) (λ test qs i h e l. each test qs (part_skip i) h e l) (λ ts. g (grow (node f empty) ts)))
  path-guarded start f (Test t ps qs) k each g =
      guarded_read
      (λ h. apart_cond (t h) (path f ps (λ us. path f qs (λ ts. k (grow (node h.0 us) ts)))) (start h) (λ e. each t ps part_here h e (λ us. path f qs (λ ts. k (grow (node h.0 us) ts)))))
      (λ h. guarded_cond start (t h) (path f ps (λ us. path f qs (λ ts. k (grow (node h.0 us) ts))))
      (path-guarded start f ps (λ us. path f qs (λ ts. k (grow (node h.0 us) ts))) (λ test ps' i h e l. each test ps' (part_below i) h e l)
      (λ us. path-guarded start f qs (λ ts. k (grow (node h.0 us) ts)) (λ test ps' i h e l. each test ps' (part_after i) h e l) (λ ts. g (grow (node h.0 us) ts)))))

  tree-guarded : (start : Label H → Matcher H) (rules : List (Compiled H)) (h : Label H) → ((a : Compiled H) → Member rules a → Guarded start (rule_tree a h)) → Guarded start (tree rules h)
  tree-guarded start [] h each = guarded_stop
  tree-guarded start (rule ∷ rules) h each = join-guarded start (each rule member_first) (tree-guarded start rules h (λ a i. each a (member_next i)))

  -- a part below the root of a left side is apart from all left sides
  pub part_apart : {rules : List (Compiled H)} → Regular rules → (a : Compiled H) → Contains rules a → (test : Label H → Bool) (ps : Patterns H) → IsPart test ps a.args → (h : Label H) → IsTrue (test h) → (f : H) (k : Forest H → Matcher H) → Apart (path f ps k) (tree rules h)
  part_apart {rules} regular a i test ps part h e f k =
      beside-tree (λ r s. ⊥) (path f ps k) rules h (λ b j.
      apart_cond_right (b.root h) (path f ps k) (rule_path b h) (λ e'. below b h e f k e' (regular.parts a b i (contains_of j) test ps part)))
    where
      below : {test : Label H → Bool} {ps : Patterns H} (b : Compiled H) (h : Label H) → IsTrue (test h) → (f : H) (k : Forest H → Matcher H) → IsTrue (b.root h) → Clash (Test test ps Last) (left b) → Apart (path f ps k) (rule_path b h)
      below b h e f k e' (clash_here d) = absurd (d h e e')
      below b h e f k e' (clash_below c) = clash_beside (λ r s. ⊥) c f h.0 k (λ us. done (b.right (node h.0 us)))
      below b h e f k e' (clash_after a c) = elim c [ ]

  part_of_part : {s t : Label H → Bool} {ps qs rs : Patterns H} → IsPart s ps qs → IsPart t qs rs → IsPart s ps rs
  part_of_part i part_here = part_below i
  part_of_part i (part_below j) = part_below (part_of_part i j)
  part_of_part i (part_after j) = part_after (part_of_part i j)
  part_of_part i (part_skip j) = part_skip (part_of_part i j)

  pub part_guarded : {rules : List (Compiled H)} → Regular rules → (a : Compiled H) → Contains rules a → (test : Label H → Bool) (ps : Patterns H) → IsPart test ps a.args → (f : H) (k : Forest H → Matcher H) → ((ts : Forest H) → Guarded (tree rules) (k ts)) → Guarded (tree rules) (path f ps k)
  part_guarded {rules} regular a i test ps part f k g =
      path-guarded (tree rules) f ps k (λ t qs part' h e l. part_apart regular a i t qs (part_of_part part' part) h e f l) g

  pub regular-sequential : {rules : List (Compiled H)} → Regular rules → Sequential (tree rules)
  regular-sequential {rules} regular h =
      tree-guarded (tree rules) rules h (λ a i.
      guarded_cond (tree rules) (a.root h) (rule_path a h)
      (path-guarded (tree rules) h.0 a.args (λ us. done (a.right (node h.0 us)))
      (λ test qs part g e l. part_apart regular a (contains_of i) test qs part g e h.0 l)
      (λ us. done-guarded (tree rules) (a.right (node h.0 us)))))

  -- the decision tree finds what the rules say
  pub regular-compiles : {rules : List (Compiled H)} → Regular rules → Compiles rules (tree rules)
  regular-compiles {rules} regular =
      record {
        finds = λ h us r es x. (found h us r es x).0;
        opens = λ h us r es x. x.fits.parts ∙ sym ((found h us r es x).1 empty ∙ rule-parts x.rule h us empty x.fits.root x.fits.args);
        redex = λ h us r e.
            let w = run-tree rules (regular-fit regular) h us r e in
            let f = run-rule w.0 h us r w.2 in
            record {
              rule = w.0;
              among = contains_of w.1;
              fits = record { root = f.root; args = f.args; right = f.right; parts = w.3 empty ∙ rule-parts w.0 h us empty f.root f.args };
            };
      }
    where
      found : (h : H) (us : Forest H) (r : Tree (PatternCell H)) (es : Forest H) (x : Redex rules h us r es) → (run (tree rules (h, count us)) us ≡ Done r) × ((more : Forest H) → parts (tree rules (h, count us)) us more ≡ parts (rule_tree x.rule (h, count us)) us more)
      found h us r es x = tree-run (member_of x.among) (regular-fit regular) h us r (rule-run x.rule h us r x.fits.root x.fits.args x.fits.right)
