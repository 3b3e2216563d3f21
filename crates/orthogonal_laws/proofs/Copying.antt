-- Cells that are copied.
use Rattle.std.proofs.Common.{◌≡◌, ℕ, suc, ◌+◌, ◌-◌, ◌<◌, ◌≤◌, List, [], ◌∷◌, ◌++◌, length, drop, get_or, refl, sym, ◌∙◌, ap, arith, append_assoc}
use Rattle.std.specs.Prelude.{slice_range}
use Rattle.std.proofs.lemmas.List.{drop_more, get_or-map, take_at}
use Rattle.eq_base.specs.Tree.{Tree, head_of, arity_of, size, nth_subtree, subtrees, cells}
use Rattle.eq_base.specs.Building.{missing_of}
use Rattle.eq_base.specs.declared.head.Head.{Head}
use Rattle.eq_base.proofs.Trees.{length-cells, label_of, cells-subtrees, length-subtrees}
use Rattle.eq_base.proofs.Scans.{cells-from}
use Rattle.eq_base.proofs.Replacing.{missing_before}
use Rattle.orthogonal_laws.specs.Replacing.{HasRoom}

slice-cons : {X : Type 0} (xs : List X) (a b : ℕ) (d : X) → a < b → b ≤ length xs → slice_range xs a b ≡ get_or xs a d ∷ slice_range xs (a + 1) b
slice-cons xs a b d lt within =
    let e : b - a ≡ suc (b - (a + 1)) = omega arith in
    let below : a < length xs = omega arith in
    rw (e, drop_more xs a d below) refl

slice-none : {X : Type 0} (xs : List X) (a b : ℕ) → b ≤ a → slice_range xs a b ≡ []
slice-none xs a b le = let e : b - a ≡ 0 = omega arith in rw e refl

cell_at : (t : Tree Head) (k : ℕ) → k < size t → get_or (cells t) k (label_of t) ≡ (head_of (nth_subtree t k), arity_of (nth_subtree t k))
cell_at t k lt =
    let within : k < length (subtrees t) = omega (arith, length-subtrees t) in
    ap (λ l. get_or l k (label_of t)) (cells-subtrees t) ∙ get_or-map label_of (subtrees t) k t (label_of t) within

-- the next cell and the rest
pub slice_next : (t : Tree Head) (k to : ℕ) → k < to → to ≤ size t → slice_range (cells t) k to ≡ (head_of (nth_subtree t k), arity_of (nth_subtree t k)) ∷ slice_range (cells t) (k + 1) to
slice_next t k to lt within =
    let long : to ≤ length (cells t) = omega (arith, length-cells t) in
    slice-cons (cells t) k to (label_of t) lt long ∙ ap (λ c. c ∷ slice_range (cells t) (k + 1) to) (cell_at t k (omega arith))

pub slice_end : (t : Tree Head) (k to : ℕ) → to ≤ k → slice_range (cells t) k to ≡ []
slice_end t k to le = slice-none (cells t) k to le

-- the cells of a subtree
pub slice_subtree : (t : Tree Head) (k : ℕ) → k < size t → slice_range (cells t) k (k + size (nth_subtree t k)) ≡ cells (nth_subtree t k)
slice_subtree t k lt =
    let s = nth_subtree t k in
    let e : k + size s - k ≡ size s = omega arith in
    rw (e, cells-from t k lt) (take_at (cells s) (drop (k + size s) (cells t)) (size s) (length-cells s))

-- there is room for the next cell
pub room_next : (before next : List (Head × ℕ)) (c : Head × ℕ) (more : List (Head × ℕ)) → HasRoom before next → next ≡ c ∷ more → 0 < missing_of before
room_next before next c more room e =
    missing_before room.whole before c (more ++ room.after) (room.is ∙ ap (λ l. before ++ (l ++ room.after)) e)

-- and after it for the rest
pub room_after : (before next : List (Head × ℕ)) (done more : List (Head × ℕ)) → HasRoom before next → next ≡ done ++ more → HasRoom (before ++ done) more
room_after before next done more room e = record {
  whole = room.whole;
  after = room.after;
  is = room.is ∙ ap (λ l. before ++ (l ++ room.after)) e ∙ ap (λ l. before ++ l) (append_assoc done more room.after) ∙ sym (append_assoc before done (more ++ room.after));
}

-- the same room, split elsewhere
pub room_moved : (before next before' next' : List (Head × ℕ)) → before ++ next ≡ before' ++ next' → HasRoom before next → HasRoom before' next'
room_moved before next before' next' e room = record {
  whole = room.whole;
  after = room.after;
  is = room.is ∙ sym (append_assoc before next room.after) ∙ ap (λ l. l ++ room.after) e ∙ append_assoc before' next' room.after;
}
