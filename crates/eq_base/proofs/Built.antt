-- A tree that was built from its cells.
use Rattle.std.proofs.Common.{◌≡◌, ℕ, ◌+◌, ◌-◌, ◌<◌, List, [], ◌∷◌, ◌++◌, refl, sym, ◌∙◌, ap, subst, arith, append_assoc, length-append}
use Rattle.std.proofs.lemmas.List.{append-nil}
use Rattle.eq_base.specs.Tree.{Forest, empty, grow, count, cells, all_cells}
use Rattle.eq_base.specs.Storing.{first_trees, later_trees, forest_of, first_or}
use Rattle.eq_base.specs.Preorder.{labels, IsWhole, tree_of, EndsFrom, IsPreorder, Completes, IsBegun}
use Rattle.eq_base.specs.Building.{missing_from, missing_of}
use Rattle.eq_base.specs.declared.preorder.Node.{Node}
use Rattle.eq_base.proofs.Trees.{all_cells-split, count-first_trees, count-later_trees}

module _ {T : Type 0} where
  missing_from-push : (n : ℕ) (cs : List (T × ℕ)) (c : T × ℕ) → missing_from n (cs ++ c ∷ []) ≡ missing_from n cs - 1 + c.1
  missing_from-push n [] c = refl
  missing_from-push n (d ∷ cs) c = missing_from-push (n - 1 + d.1) cs c

  pub IsBegun-push : (cs : List (T × ℕ)) (n : ℕ) (c : T × ℕ) → IsBegun cs n → 0 < missing_of cs → c.1 < 256 → IsBegun (cs ++ c ∷ []) (n - 1 + c.1)
  IsBegun-push cs n c b some small = record {
    missing_is = omega (arith, b.missing_is, missing_from-push 1 cs c);
    rest = λ more h. rw (append_assoc cs (c ∷ []) more) (b.rest (c ∷ more) (omega (arith, b.missing_is), h));
    few = omega (arith, b.few, length-append cs (c ∷ []));
  }

  -- cells that complete n trees are the cells of n trees
  whole : (n : ℕ) (cs : List (T × ℕ)) → Completes n cs → IsWhole cs × (count (forest_of cs) ≡ n)
  whole n [] h = (refl, sym h)
  whole n (c ∷ cs) h =
      let ts = forest_of cs in
      let ih = whole (n - 1 + c.1) cs h.1 in
      let taken : count (first_trees c.1 ts) ≡ c.1 = omega (arith, count-first_trees c.1 ts, ih.1) in
      let rest = sym (all_cells-split c.1 ts) ∙ ih.0 in (
        ap (λ a. (c.0, a) ∷ (all_cells (first_trees c.1 ts) ++ all_cells (later_trees c.1 ts))) taken ∙ ap (λ l. c ∷ l) rest,
        omega (arith, count-later_trees c.1 ts, ih.1, h.0),
      )

  cells-first_or : (d : T) (ts : Forest T) → count ts ≡ 1 → cells (first_or d ts) ≡ all_cells ts
  cells-first_or d empty h = absurd (omega arith)
  cells-first_or d (grow t empty) h = sym (append-nil (cells t))
  cells-first_or d (grow t (grow u ts)) h = absurd (omega arith)

  finished : (cs : List (T × ℕ)) (n : ℕ) → IsBegun cs n → missing_of cs ≡ 0 → IsWhole cs × (count (forest_of cs) ≡ 1)
  finished cs n b none = whole 1 cs (subst (Completes 1) (append-nil cs) (b.rest [] (b.missing_is ∙ none)))

  pub IsWhole-finished : (cs : List (T × ℕ)) (n : ℕ) → IsBegun cs n → missing_of cs ≡ 0 → IsWhole cs
  IsWhole-finished cs n b none = (finished cs n b none).0

  pub cells-finished : (d : T) (cs : List (T × ℕ)) (n : ℕ) → IsBegun cs n → missing_of cs ≡ 0 → cells (first_or d (forest_of cs)) ≡ cs
  cells-finished d cs n b none =
      let f = finished cs n b none in
      cells-first_or d (forest_of cs) f.1 ∙ f.0

  module _ (default : T) (old new : List (Node T)) (n : ℕ) (b : IsBegun (labels old) n) (none : missing_of (labels old) ≡ 0) (same : labels new ≡ labels old) where
    pub cells-tree_of : cells (tree_of default new) ≡ labels old
    cells-tree_of = ap (λ ls. cells (first_or default (forest_of ls))) same ∙ cells-finished default (labels old) n b none

    pub IsPreorder-finished : EndsFrom 0 new → IsPreorder (tree_of default new) new
    IsPreorder-finished ends = record { cells = cells-tree_of ∙ sym same; ends = ends }
