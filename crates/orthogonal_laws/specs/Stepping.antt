-- Words of private functions alone: a step at a node, as it is read.
use Rattle.std.specs.Prelude.{◌≡◌, ℕ, ◌+◌, ◌≤◌, [], ◌++◌, length, slice_index_or}
use Rattle.eq_base.specs.Limits.{most_text_bytes}
use Rattle.eq_base.specs.Tree.{Tree, nth_subtree, nth_position, replace_at}
use Rattle.eq_base.specs.Rewriting.{RootStepBy}
use Rattle.eq_base.specs.RuleList.{RuleList}
use Rattle.eq_base.specs.ReadHead.{ReadHead, text}
use Rattle.eq_base.specs.declared.head.Head.{Head}
use Rattle.eq_base.specs.declared.head.Head.TheVariants.{Text}
use Rattle.symbol_table.specs.Table.{Table}
use Rattle.symbol_table.specs.Reading.{read, read_head, read_system, IsLiveHead, IsLiveTerm}

-- u, as the new table reads it, is t after the root step at a node by the equation with this number
pub record IsReadStep (old new : Table) (rules : RuleList) (t : Tree Head) (at number : ℕ)
    (u : Tree Head) : Type 0 where
  pub contractum : Tree ReadHead
  pub root_step : RootStepBy (read_system old rules) number (nth_subtree (read old t) at) contractum
  pub result : read new u ≡ replace_at (read old t) (nth_position (read old t) at) contractum
  pub live : IsLiveTerm new u

-- the heads are strings, short enough together
abbrev pub AreJoined : Table → Head → Head → Type 0
AreJoined table (Text m) (Text n) =
    length (slice_index_or table.texts m []) + length (slice_index_or table.texts n []) ≤ most_text_bytes
AreJoined table one other = ⊥

-- the head is live in the new table, and is read as the one string with the other behind it
abbrev pub IsJoined : Table → Table → Head → Head → Head → Type 0
IsJoined old new (Text m) (Text n) head = IsLiveHead new head
    × (read_head new head ≡ text (slice_index_or old.texts m [] ++ slice_index_or old.texts n []))
IsJoined old new one other head = ⊥
