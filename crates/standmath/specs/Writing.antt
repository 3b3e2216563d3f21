-- Printing application by application: what is left to write of those that are open.
use Rattle.std.specs.Prelude.{ℕ, zero, suc, ◌*◌, ◌+◌, ◌<◌, ◌≤◌, List, [], ◌∷◌, ◌++◌, length, codes}
use Rattle.eq_base.specs.Tree.{Tree, Forest, args_of, arity_of}
use Rattle.eq_base.specs.Storing.{later_trees}
use Rattle.eq_base.specs.View.{tree_at}
use Rattle.eq_base.specs.declared.head.Head.{Head}
use Rattle.symbol_table.specs.Table.{Table}
use Rattle.symbol_table.specs.Reading.{IsLiveTerm}
use Rattle.standmath.specs.Printing.{in_brackets, behind_commas}
use Rattle.standmath.specs.declared.write.Open.{Open}

-- what is written before the next argument, behind so many
abbrev pub text_before : ℕ → List ℕ
text_before zero = codes "("
text_before (suc written) = codes ", "

-- what is written behind the last of so many arguments
abbrev pub text_end : ℕ → List ℕ
text_end zero = []
text_end (suc arity) = codes ")"

-- what is left to write where so many arguments stand
abbrev pub text_behind : (Head → List ℕ) → Forest Head → ℕ → List ℕ
text_behind text_of args zero = in_brackets text_of args
text_behind text_of args (suc written) = behind_commas text_of (later_trees (suc written) args) ++ codes ")"

-- what is left to write of open applications, the innermost first
abbrev pub text_left : (Head → List ℕ) → List (Tree Head) → List Open → List ℕ
text_left text_of trees [] = []
text_left text_of trees (application ∷ others) =
    text_behind text_of (args_of (tree_at trees application.node)) application.written
    ++ text_left text_of trees others

-- more than the number of steps in which it is written
abbrev pub steps_left : (Head → List ℕ) → List (Tree Head) → List Open → ℕ
steps_left text_of trees opens = 2 * length (text_left text_of trees opens) + length opens

-- a node that can be printed, and so many of its arguments
pub record IsOpen (table : Table) (trees : List (Tree Head)) (application : Open) : Type 0 where
  pub there : application.node < length trees
  pub written : application.written ≤ arity_of (tree_at trees application.node)
  pub printable : IsLiveTerm table (tree_at trees application.node)

-- each of them is such
abbrev pub AreOpen : Table → List (Tree Head) → List Open → Type 0
AreOpen table trees [] = Unit {0}
AreOpen table trees (application ∷ others) = IsOpen table trees application × AreOpen table trees others
