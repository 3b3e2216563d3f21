-- Right sides read under the merge, side by side with parts of it and with one another.
use Rattle.std.proofs.Common.{◌≡◌, ℕ, ◌+◌, ◌<◌, ◌≤◌, None, Some, List, refl, sym, ◌∙◌, ap, arith}
use Rattle.std.specs.Prelude.{◌↔◌}
use Rattle.eq_base.specs.Tree.{Tree, empty, head_of, arity_of, count, size, nth_subtree}
use Rattle.eq_base.specs.Pattern.{PatternCell, fixed, Substitution}
use Rattle.eq_base.specs.Cells.{root_cell, variable_in, arity_in}
use Rattle.eq_base.specs.declared.head.Head as heads
use Rattle.eq_base.specs.declared.head.Cell as cells
use Rattle.eq_base.specs.declared.head.Cell.TheVariants as cell
use Rattle.eq_base.proofs.Scans.{forest_from, forest_from-start, forest_from-end}
use Rattle.eq_base.proofs.Trees.{end_within, nth_subtree-nth_subtree}
use Rattle.regularity.specs.Occurrences.{variable_of}
use Rattle.regularity.specs.Merge.{merged, named, fill}
use Rattle.regularity.specs.MergedParts.{named_cell, CanMerge}
use Rattle.regularity.proofs.Merging.{OpensTo, fill_from, fill_passes, fill_opens, named_from, named_passes, named_opens, open_both, pass_both, heads_same, firsts_same, only_tree, pair_same, left_there, some_left, count_passed, count_opened, no_trees}
use Rattle.regularity.proofs.Finding.{fill-variable, head_of_root}

abbrev Pattern : Type 0
Pattern = Tree (PatternCell heads.Head)

abbrev Patterns : Type 0
Patterns = Substitution (PatternCell heads.Head)

-- a head is named alike by each name
head_named : (n m : ℕ) (d : cells.Cell) (h : heads.Head) (a : ℕ) → named_cell n d ≡ (fixed h, a) → named_cell m d ≡ (fixed h, a)
head_named n m (cell.Head g b) h a e = e
head_named n m (cell.Var x) h a e = let f = ap (λ l. l.0) e in cc
head_named n m (cell.Class x class) h a e = let f = ap (λ l. l.0) e in cc

arity_named : (d : cells.Cell) (h : heads.Head) (a : ℕ) → named_cell 0 d ≡ (fixed h, a) → arity_in d ≡ a
arity_named (cell.Head g b) h a e = ap (λ l. l.1) e
arity_named (cell.Var x) h a e = let f = ap (λ l. l.0) e in cc
arity_named (cell.Class x class) h a e = let f = ap (λ l. l.0) e in cc

-- ---- a right side and a part of the merge

module _ (left other s u : Pattern) (n : ℕ) where
  -- they are read up to these cells
  pub record ReadsBeside (i k : ℕ) : Type 0 where
    pub counts : count (forest_from s i) ≡ count (forest_from u k)
    pub same : (θ : Patterns) → fill θ left ≡ merged left other → (fill θ s ≡ named n u) ↔ (fill_from θ s i ≡ named_from n u k)
    pub within : i ≤ size s
    pub within' : k ≤ size u

  pub reads_start : ReadsBeside 0 0
  reads_start = record {
    counts = rw (forest_from-start s, forest_from-start u) refl;
    same = λ θ e. let same : n + 0 ≡ n = omega arith in rw (forest_from-start s, forest_from-start u, same) (only_tree (fill θ s) (named n u));
    within = omega arith;
    within' = omega arith;
  }

  module _ (i k : ℕ) (is : ReadsBeside i k) where
    pub reads_there : i < size s → k < size u
    reads_there lt = left_there u k (omega (arith, is.counts, some_left s i lt))

    pub reads_end : size s ≤ i → (θ : Patterns) → fill θ left ≡ merged left other → fill θ s ≡ named n u
    reads_end past θ e =
        let none : forest_from s i ≡ empty = forest_from-end s i past in
        let none' : forest_from u k ≡ empty = no_trees (forest_from u k) (sym is.counts ∙ ap count none) in
        (is.same θ e).1 (rw (none, none') refl)

    module _ (lt : i < size s) (lt' : k < size u) where
      -- at a head
      module _ (h : heads.Head) (a : ℕ) (d : cells.Cell) (c_is : root_cell (nth_subtree s i) ≡ cell.Head h a) (d_is : d ≡ root_cell (nth_subtree u k)) (c_arity : a ≡ arity_of (nth_subtree s i)) (d_arity : arity_in d ≡ arity_of (nth_subtree u k)) where
        opens : (θ : Patterns) → OpensTo (fill_from θ s i) (fixed h) a (fill_from θ s (i + 1))
        opens θ = rw c_arity (fill_opens θ s i lt h (head_of_root (nth_subtree s i) h a c_is))

        opens' : OpensTo (named_from n u k) (named_cell (n + k) d).0 (named_cell (n + k) d).1 (named_from n u (k + 1))
        opens' = named_opens n u k lt' d d_is d_arity

        pub reads_other_head : ((fixed h, a) ≡ named_cell 0 d → ⊥) → (θ : Patterns) → fill θ left ≡ merged left other → fill θ s ≡ named n u → ⊥
        reads_other_head differ θ e same =
            let both = heads_same _ _ _ _ _ _ _ _ (opens θ) opens' ((is.same θ e).0 same) in
            differ (sym (head_named (n + k) 0 d h a (pair_same (named_cell (n + k) d) (fixed h, a) (sym both.0) (sym both.1))))

        pub reads_head : (fixed h, a) ≡ named_cell 0 d → ReadsBeside (i + 1) (k + 1)
        reads_head e =
            let again = head_named 0 (n + k) d h a (sym e) in
            let many : arity_in d ≡ a = arity_named d h a (sym e) in
            record {
              counts = omega (arith, count_opened s i lt, count_opened u k lt', is.counts, c_arity, d_arity, many);
              same = λ θ f.
                  let both = open_both _ _ _ _ _ _ _ _ (opens θ) opens' (sym (ap (λ l. l.0) again)) (sym (ap (λ l. l.1) again)) in
                  (λ w. both.0 ((is.same θ f).0 w), λ w. (is.same θ f).1 (both.1 w));
              within = omega (arith, lt);
              within' = omega (arith, lt');
            }

      -- at a variable
      module _ (x : ℕ) (own : variable_of (head_of (nth_subtree s i)) ≡ Some x) (part : Pattern) (value : (θ : Patterns) → fill θ left ≡ merged left other → θ x ≡ part) where
        pub reads_other_part : (named (n + k) (nth_subtree u k) ≡ part → ⊥) → (θ : Patterns) → fill θ left ≡ merged left other → fill θ s ≡ named n u → ⊥
        reads_other_part differ θ e same =
            let first = firsts_same _ _ _ _ _ _ (fill_passes θ s i lt) (named_passes n u k lt') ((is.same θ e).0 same) in
            differ (sym first ∙ fill-variable θ (nth_subtree s i) x own ∙ value θ e)

        pub reads_part : named (n + k) (nth_subtree u k) ≡ part → ReadsBeside (i + size (nth_subtree s i)) (k + size (nth_subtree u k))
        reads_part e = record {
          counts = omega (arith, count_passed s i lt, count_passed u k lt', is.counts);
          same = λ θ f.
              let first = fill-variable θ (nth_subtree s i) x own ∙ value θ f ∙ sym e in
              let both = pass_both _ _ _ _ _ _ (fill_passes θ s i lt) (named_passes n u k lt') first in
              (λ w. both.0 ((is.same θ f).0 w), λ w. (is.same θ f).1 (both.1 w));
          within = end_within s i lt;
          within' = end_within u k lt';
        }

-- ---- two right sides

module _ (left right other other_right : Pattern) where
  pub record RightsBeside (at beside : ℕ) : Type 0 where
    pub counts : count (forest_from right at) ≡ count (forest_from other_right beside)
    pub same : (θ η : Patterns) → fill θ left ≡ merged left other → fill η other ≡ merged other left → (fill θ right ≡ fill η other_right) ↔ (fill_from θ right at ≡ fill_from η other_right beside)
    pub within : at ≤ size right
    pub within' : beside ≤ size other_right

  pub rights_start : RightsBeside 0 0
  rights_start = record {
    counts = rw (forest_from-start right, forest_from-start other_right) refl;
    same = λ θ η e f. rw (forest_from-start right, forest_from-start other_right) (only_tree (fill θ right) (fill η other_right));
    within = omega arith;
    within' = omega arith;
  }

  module _ (at beside : ℕ) (is : RightsBeside at beside) where
    pub rights_there : at < size right → beside < size other_right
    rights_there lt = left_there other_right beside (omega (arith, is.counts, some_left right at lt))

    pub rights_end : size right ≤ at → (θ η : Patterns) → fill θ left ≡ merged left other → fill η other ≡ merged other left → fill θ right ≡ fill η other_right
    rights_end past θ η e f =
        let none : forest_from right at ≡ empty = forest_from-end right at past in
        let none' : forest_from other_right beside ≡ empty = no_trees (forest_from other_right beside) (sym is.counts ∙ ap count none) in
        (is.same θ η e f).1 (rw (none, none') refl)

    module _ (lt : at < size right) (lt' : beside < size other_right) where
      abbrev s : Pattern
      s = nth_subtree right at

      abbrev u : Pattern
      u = nth_subtree other_right beside

      -- at two heads
      module _ (h : heads.Head) (a : ℕ) (g : heads.Head) (b : ℕ) (c_is : root_cell (nth_subtree right at) ≡ cell.Head h a) (d_is : root_cell (nth_subtree other_right beside) ≡ cell.Head g b) (c_arity : a ≡ arity_of (nth_subtree right at)) (d_arity : b ≡ arity_of (nth_subtree other_right beside)) where
        right_opens : (θ : Patterns) → OpensTo (fill_from θ right at) (fixed h) a (fill_from θ right (at + 1))
        right_opens θ = rw c_arity (fill_opens θ right at lt h (head_of_root s h a c_is))

        other_opens : (η : Patterns) → OpensTo (fill_from η other_right beside) (fixed g) b (fill_from η other_right (beside + 1))
        other_opens η = rw d_arity (fill_opens η other_right beside lt' g (head_of_root u g b d_is))

        pub rights_other_head : ((h ≡ g) × (a ≡ b) → ⊥) → (θ η : Patterns) → fill θ left ≡ merged left other → fill η other ≡ merged other left → fill θ right ≡ fill η other_right → ⊥
        rights_other_head differ θ η e f same =
            let both = heads_same _ _ _ _ _ _ _ _ (right_opens θ) (other_opens η) ((is.same θ η e f).0 same) in
            differ (let z = both.0 in cc, both.1)

        pub rights_head : h ≡ g → a ≡ b → RightsBeside (at + 1) (beside + 1)
        rights_head root many = record {
          counts = omega (arith, count_opened right at lt, count_opened other_right beside lt', is.counts, c_arity, d_arity, many);
          same = λ θ η e f.
              let both = open_both _ _ _ _ _ _ _ _ (right_opens θ) (other_opens η) (ap (λ k. fixed k) root) many in
              (λ w. both.0 ((is.same θ η e f).0 w), λ w. (is.same θ η e f).1 (both.1 w));
          within = omega (arith, lt);
          within' = omega (arith, lt');
        }

      -- where what stands here is decided
      pub rights_differ : ((θ η : Patterns) → fill θ left ≡ merged left other → fill η other ≡ merged other left → fill θ s ≡ fill η u → ⊥) → (θ η : Patterns) → fill θ left ≡ merged left other → fill η other ≡ merged other left → fill θ right ≡ fill η other_right → ⊥
      rights_differ differ θ η e f same = differ θ η e f (firsts_same _ _ _ _ _ _ (fill_passes θ right at lt) (fill_passes η other_right beside lt') ((is.same θ η e f).0 same))

      pub rights_pass : ((θ η : Patterns) → fill θ left ≡ merged left other → fill η other ≡ merged other left → fill θ s ≡ fill η u) → RightsBeside (at + size (nth_subtree right at)) (beside + size (nth_subtree other_right beside))
      rights_pass first = record {
        counts = omega (arith, count_passed right at lt, count_passed other_right beside lt', is.counts);
        same = λ θ η e f.
            let both = pass_both _ _ _ _ _ _ (fill_passes θ right at lt) (fill_passes η other_right beside lt') (first θ η e f) in
            (λ w. both.0 ((is.same θ η e f).0 w), λ w. (is.same θ η e f).1 (both.1 w));
        within = end_within right at lt;
        within' = end_within other_right beside lt';
      }

-- ---- by the cells of the wholes

pub is_head : (c : cells.Cell) → variable_in c ≡ None → (h : heads.Head) × (a : ℕ) × (c ≡ cell.Head h a)
is_head (cell.Head h a) e = (h, a, refl)
is_head (cell.Var x) e = cc
is_head (cell.Class x class) e = cc

module _ (left other right : Pattern) (at : ℕ) (there : at < size right) (part_at : ℕ) (there' : part_at < size left) (n i k : ℕ) (is : ReadsBeside left other (nth_subtree right at) (nth_subtree left part_at) n i k) where
  abbrev part : Pattern
  part = nth_subtree right at

  abbrev merge_part : Pattern
  merge_part = nth_subtree left part_at

  module _ (lt : i < size (nth_subtree right at)) where
    pub inside : k < size (nth_subtree left part_at)
    inside = reads_there left other part merge_part n i k is lt

    pub part_there : part_at + k < size left
    part_there = omega (arith, inside, end_within left part_at there')

    right_part : nth_subtree right (at + i) ≡ nth_subtree part i
    right_part = nth_subtree-nth_subtree right at i there lt

    left_part : nth_subtree left (part_at + k) ≡ nth_subtree merge_part k
    left_part = nth_subtree-nth_subtree left part_at k there' inside

    module _ (c d : cells.Cell) (c_is : c ≡ root_cell (nth_subtree right (at + i))) (d_is : d ≡ root_cell (nth_subtree left (part_at + k))) (c_arity : arity_in c ≡ arity_of (nth_subtree right (at + i))) (d_arity : arity_in d ≡ arity_of (nth_subtree left (part_at + k))) (none : variable_in c ≡ None) where
      abbrev h : heads.Head
      h = (is_head c none).0

      abbrev a : ℕ
      a = (is_head c none).1

      root : root_cell (nth_subtree part i) ≡ cell.Head h a
      root = ap root_cell (sym right_part) ∙ sym c_is ∙ (is_head c none).2

      many : a ≡ arity_of (nth_subtree part i)
      many = ap arity_in (sym (is_head c none).2) ∙ c_arity ∙ ap arity_of right_part

      pub cell_differs : (named_cell 0 c ≡ named_cell 0 d → ⊥) → (θ : Patterns) → fill θ left ≡ merged left other → fill θ part ≡ named n merge_part → ⊥
      cell_differs differ =
          reads_other_head left other part merge_part n i k is lt inside h a d root (d_is ∙ ap root_cell left_part) many (d_arity ∙ ap arity_of left_part)
          (λ e. differ (ap (named_cell 0) (is_head c none).2 ∙ e))

      pub cell_on : named_cell 0 c ≡ named_cell 0 d → ReadsBeside left other part merge_part n (i + 1) (k + 1)
      cell_on e =
          reads_head left other part merge_part n i k is lt inside h a d root (d_is ∙ ap root_cell left_part) many (d_arity ∙ ap arity_of left_part)
          (ap (named_cell 0) (sym (is_head c none).2) ∙ e)

    module _ (x : ℕ) (own : variable_of (head_of (nth_subtree right (at + i))) ≡ Some x) (value : Pattern) (found : (θ : Patterns) → fill θ left ≡ merged left other → θ x ≡ value) where
      own_part : variable_of (head_of (nth_subtree part i)) ≡ Some x
      own_part = ap (λ t. variable_of (head_of t)) (sym right_part) ∙ own

      pub part_differs : (named (n + k) (nth_subtree left (part_at + k)) ≡ value → ⊥) → (θ : Patterns) → fill θ left ≡ merged left other → fill θ part ≡ named n merge_part → ⊥
      part_differs differ = reads_other_part left other part merge_part n i k is lt inside x own_part value found (λ e. differ (ap (named (n + k)) left_part ∙ e))

      pub part_on : named (n + k) (nth_subtree left (part_at + k)) ≡ value → ReadsBeside left other part merge_part n (i + size (nth_subtree right (at + i))) (k + size (nth_subtree left (part_at + k)))
      part_on e = rw (right_part, left_part) (reads_part left other part merge_part n i k is lt inside x own_part value found (ap (named (n + k)) (sym left_part) ∙ e))

-- ---- two right sides, by their cells

module _ (left right other other_right : Pattern) (at beside : ℕ) (is : RightsBeside left right other other_right at beside) (lt : at < size right) where
  abbrev next : beside < size other_right
  next = rights_there left right other other_right at beside is lt

  module _ (c d : cells.Cell) (c_is : c ≡ root_cell (nth_subtree right at)) (d_is : d ≡ root_cell (nth_subtree other_right beside)) (c_arity : arity_in c ≡ arity_of (nth_subtree right at)) (d_arity : arity_in d ≡ arity_of (nth_subtree other_right beside)) (none : variable_in c ≡ None) (none' : variable_in d ≡ None) where
    heads_there : (h : heads.Head) × (a : ℕ) × (c ≡ cell.Head h a)
    heads_there = is_head c none

    heads_beside : (g : heads.Head) × (b : ℕ) × (d ≡ cell.Head g b)
    heads_beside = is_head d none'

    rights_heads : named_cell 0 c ≡ named_cell 0 d → (heads_there.0 ≡ heads_beside.0) × (heads_there.1 ≡ heads_beside.1)
    rights_heads e =
        let same : (fixed heads_there.0, heads_there.1) ≡ named_cell 0 d = ap (named_cell 0) (sym heads_there.2) ∙ e in
        let both = same ∙ ap (named_cell 0) heads_beside.2 in
        (let z = ap (λ l. l.0) both in cc, ap (λ l. l.1) both)

    right_root : root_cell (nth_subtree right at) ≡ cell.Head heads_there.0 heads_there.1
    right_root = sym c_is ∙ heads_there.2

    other_root : root_cell (nth_subtree other_right beside) ≡ cell.Head heads_beside.0 heads_beside.1
    other_root = sym d_is ∙ heads_beside.2

    right_many : heads_there.1 ≡ arity_of (nth_subtree right at)
    right_many = ap arity_in (sym heads_there.2) ∙ c_arity

    other_many : heads_beside.1 ≡ arity_of (nth_subtree other_right beside)
    other_many = ap arity_in (sym heads_beside.2) ∙ d_arity

    pub rights_cell_differs : (named_cell 0 c ≡ named_cell 0 d → ⊥) → (θ η : Patterns) → fill θ left ≡ merged left other → fill η other ≡ merged other left → fill θ right ≡ fill η other_right → ⊥
    rights_cell_differs differ =
        rights_other_head left right other other_right at beside is lt next heads_there.0 heads_there.1 heads_beside.0 heads_beside.1 right_root other_root right_many other_many
        (λ e. differ (ap (named_cell 0) (heads_there.2 ∙ ap (λ h. cell.Head h heads_there.1) e.0 ∙ ap (cell.Head heads_beside.0) e.1 ∙ sym heads_beside.2)))

    pub rights_cell_on : named_cell 0 c ≡ named_cell 0 d → RightsBeside left right other other_right (at + 1) (beside + 1)
    rights_cell_on e =
        rights_head left right other other_right at beside is lt next heads_there.0 heads_there.1 heads_beside.0 heads_beside.1 right_root other_root right_many other_many (rights_heads e).0 (rights_heads e).1

-- patterns can be merged the other way round too
pub can_merge_back : {classes : List (List heads.Head)} (left other : Pattern) → CanMerge classes left other → CanMerge classes other left
can_merge_back left other m = record {
  left_size = m.other_size;
  other_size = m.left_size;
  arities = record { arity = m.arities.arity; one = m.arities.other; other = m.arities.one };
  common = λ q c. m.common q (record { one = c.other; other = c.one; clash = λ h met met'. c.clash h met' met });
}
