-- The arguments of a node, by their numbers.
use Rattle.std.proofs.Common.{◌≡◌, ℕ, zero, suc, ◌+◌, ◌<◌, ◌≤◌, Some, [], ◌∷◌, refl, arith, ⊎_elim}
use Rattle.std.proofs.lemmas.Bool.{cases_lt}
use Rattle.eq_base.specs.Tree.{Tree, Forest, node, empty, grow, args_of, arity_of, count, size, total_size, subtree_at, number}
use Rattle.eq_base.specs.Storing.{first_trees}
use Rattle.eq_base.proofs.Numbers.{number_first}

module _ {A : Type 0} where
  all_first : (ts : Forest A) (n : ℕ) → count ts ≤ n → total_size (first_trees n ts) ≡ total_size ts
  all_first empty zero le = refl
  all_first empty (suc n) le = refl
  all_first (grow t ts) zero le = absurd (omega arith)
  all_first (grow t ts) (suc n) le = omega (arith, all_first ts n (omega arith))

  -- where nodes come after the first arguments, there is one more argument
  pub has_more : (t : Tree A) (n : ℕ) → 1 + total_size (first_trees n (args_of t)) < size t → n < arity_of t
  has_more (node a args) n lt =
      ⊎_elim (λ below. below) (λ past. absurd (omega (arith, all_first args n past))) (cases_lt n (count args))

  -- the number of the position of an argument
  pub place_of : (t : Tree A) (i : ℕ) (s : Tree A) → subtree_at t (i ∷ []) ≡ Some s → number t (i ∷ []) ≡ 1 + total_size (first_trees i (args_of t))
  place_of (node a args) i s e = omega (arith, number_first args i s e)
