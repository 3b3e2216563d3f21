-- Parts of a term that are past the limits.
use Rattle.std.specs.Prelude.{ℕ, ◌<◌}
use Rattle.eq_base.specs.Tree.{Tree, size, nth_subtree}
use Rattle.eq_base.specs.Rewriting.{System}
use Rattle.eq_base.specs.ReadHead.{ReadHead}
use Rattle.eq_base.specs.Operations.{IsPast}

-- no part of the term is past the limits
abbrev pub HasNoPast : System ReadHead → Tree ReadHead → Type 0
HasNoPast system t = (k : ℕ) → k < size t → IsPast system (nth_subtree t k) → ⊥

-- the first part, in preorder, that is past the limits is that of the node with this number
pub record IsFirstPast (system : System ReadHead) (t : Tree ReadHead) (at : ℕ) : Type 0 where
  pub there : at < size t
  pub past : IsPast system (nth_subtree t at)
  pub before : (k : ℕ) → k < at → IsPast system (nth_subtree t k) → ⊥
