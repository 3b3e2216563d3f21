-- The cells of a term after a root step at a node.
use Rattle.std.proofs.Common.{◌≡◌, ℕ, ◌+◌, ◌-◌, ◌<◌, ◌≤◌, List, [], ◌++◌, length, take, drop, refl, sym, ◌∙◌, ap, arith, append_assoc}
use Rattle.std.specs.Prelude.{slice_range}
use Rattle.std.proofs.lemmas.List.{append-nil, take-append-drop, take_all, length-drop}
use Rattle.eq_base.specs.Tree.{Tree, size, nth_subtree, nth_position, replace_at, cells}
use Rattle.eq_base.specs.Cells.{TakesArguments}
use Rattle.eq_base.specs.declared.head.Head.{Head}
use Rattle.eq_base.specs.declared.head.Head.TheVariants.{Symbol, Numeral, Atom, Text}
use Rattle.eq_base.proofs.Trees.{length-cells}
use Rattle.eq_base.proofs.Replacing.{cells-replace_at}
use Rattle.orthogonal_laws.specs.Replacing.{HasRoom}

module _ (t : Tree Head) (k : ℕ) (lt : k < size t) where
  abbrev front : List (Head × ℕ)
  front = slice_range (cells t) 0 k

  abbrev back : List (Head × ℕ)
  back = slice_range (cells t) (k + size (nth_subtree t k)) (size t)

  front_is : front ≡ take k (cells t)
  front_is = let e : k - 0 ≡ k = omega arith in rw e refl

  back_is : back ≡ drop (k + size (nth_subtree t k)) (cells t)
  back_is =
      let e = k + size (nth_subtree t k) in
      let long : length (drop e (cells t)) ≤ size t - e = omega (arith, length-drop e (cells t), length-cells t) in
      take_all (size t - e) (drop e (cells t)) long

  pub room_first : HasRoom [] (slice_range (cells t) 0 k)
  room_first = record { whole = t; after = drop k (cells t); is = sym (take-append-drop k (cells t)) ∙ ap (λ l. l ++ drop k (cells t)) (sym front_is) }

  module _ (v : Tree Head) where
    abbrev replaced : Tree Head
    replaced = replace_at t (nth_position t k) v

    cells-replaced : cells replaced ≡ front ++ (cells v ++ back)
    cells-replaced = cells-replace_at t k v lt ∙ rw (front_is, back_is) refl

    pub room_middle : HasRoom (slice_range (cells t) 0 k) (cells v)
    room_middle = record { whole = replaced; after = back; is = cells-replaced }

    room_back : HasRoom (front ++ cells v) back
    room_back = record {
      whole = replaced;
      after = [];
      is = cells-replaced ∙ sym (append_assoc front (cells v) back) ∙ ap (λ l. (front ++ cells v) ++ l) (sym (append-nil back));
    }

    -- the cells so far, and from where to where the rest goes
    module _ (now : List (Head × ℕ)) (from to : ℕ) (so_far : now ≡ slice_range (cells t) 0 k ++ cells v) (begins : from ≡ k + size (nth_subtree t k)) (ends : to ≡ size t) where
      pub room_last : HasRoom now (slice_range (cells t) from to)
      room_last = rw (so_far, begins, ends) room_back

      pub done : (all : List (Head × ℕ)) → all ≡ now ++ slice_range (cells t) from to → all ≡ cells (replace_at t (nth_position t k) v)
      done all e = e ∙ rw (so_far, begins, ends) (append_assoc front (cells v) back) ∙ sym cells-replaced

-- every head takes no arguments
pub takes_none : (h : Head) → TakesArguments h 0
takes_none (Symbol s) = tt
takes_none (Numeral i) = refl
takes_none (Atom a) = refl
takes_none (Text t) = refl
