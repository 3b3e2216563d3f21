-- The parts of a term whose numbers are live.
use Rattle.std.proofs.Common.{◌≡◌, ℕ, zero, suc, [], ◌∷◌, Some, subst}
use Rattle.eq_base.specs.Tree.{Tree, Forest, node, empty, grow, head_of, subtree_at, subtree_in, AllHeadsIn}
use Rattle.eq_base.specs.declared.head.Head.{Head}
use Rattle.symbol_table.specs.Table.{Table}
use Rattle.symbol_table.specs.Reading.{IsLiveHead, IsLiveTerm}

module _ (table : Table) where
  pub live-head : (t : Tree Head) → IsLiveTerm table t → IsLiveHead table (head_of t)
  live-head (node head args) live = live.0

  live-among : (args : Forest Head) (i : ℕ) (t : Tree Head) → subtree_in args i [] ≡ Some t → AllHeadsIn (IsLiveHead table) args → IsLiveTerm table t
  live-among empty i t is live = cc
  live-among (grow u us) zero t is live = let same : u ≡ t = cc in subst (IsLiveTerm table) same live.0
  live-among (grow u us) (suc i) t is live = live-among us i t is live.1

  pub live-argument : (t : Tree Head) (i : ℕ) (u : Tree Head) → subtree_at t (i ∷ []) ≡ Some u → IsLiveTerm table t → IsLiveTerm table u
  live-argument (node head args) i u is live = live-among args i u is live.1
