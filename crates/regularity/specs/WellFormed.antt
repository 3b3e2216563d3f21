-- What the checks ask of a list of equations.
use Rattle.std.specs.Prelude.{◌≡◌, ℕ, ◌≤◌, List, length, IsTrue, All, slice_index_or}
use Rattle.eq_base.specs.Limits.{most_equations, most_left_cells, most_right_cells}
use Rattle.eq_base.specs.Tree.{Tree, head_of, size}
use Rattle.eq_base.specs.Pattern.{PatternCell, fixed}
use Rattle.eq_base.specs.Meeting.{in_class_of}
use Rattle.eq_base.specs.RuleList.{RuleList}
use Rattle.eq_base.specs.Operations.{application}
use Rattle.eq_base.specs.declared.head.Head as heads
use Rattle.eq_base.specs.declared.head.Head.TheVariants.{Symbol, Numeral, Atom, Text}
use Rattle.eq_base.specs.declared.rules.Op.{Op}
use Rattle.eq_base.specs.declared.rules.Right.{Right}
use Rattle.eq_base.specs.declared.rules.Right.TheVariants as rights
use Rattle.eq_base.specs.declared.rules.Equation.{Equation}
use Rattle.regularity.specs.Arities.{HasArities}

-- how many cells a right side has; an operation has none
abbrev pub right_size : Right → ℕ
right_size (rights.Tree p) = size p
right_size (rights.Schema op) = 0

-- the head of a pattern's root is a symbol
abbrev pub HasSymbolRoot : Tree (PatternCell heads.Head) → Type 0
HasSymbolRoot p = (s : ℕ) × (head_of p ≡ fixed (Symbol s))

-- where the right side is an operation, the left side is its symbol over its operands
abbrev pub IsApplicationOf : Equation → Type 0
IsApplicationOf e = (op : Op) → e.right ≡ rights.Schema op → (f : heads.Head) × (e.left ≡ application op f)

-- the equation has few enough cells and a symbol at the root of its left side, which is the application of
-- the operation on the right side, if there is one
pub record IsWellFormed (e : Equation) : Type 0 where
  pub left_size : size e.left ≤ most_left_cells
  pub right_size : right_size e.right ≤ most_right_cells
  pub root : HasSymbolRoot e.left
  pub applied : IsApplicationOf e

-- the equations are few enough, each is well formed, and their left sides agree on the number of arguments of
-- each head, which is none for the heads of classes
pub record AreWellFormed (rules : RuleList) : Type 0 where
  pub few : length rules.equations ≤ most_equations
  pub each : All IsWellFormed rules.equations
  pub arity : heads.Head → ℕ
  pub arities : All (λ e. HasArities arity e.left) rules.equations
  pub constants : (class : ℕ) (h : heads.Head) → IsTrue (in_class_of rules.classes class h) → arity h ≡ 0

-- ---- by a table of symbols

-- the number of arguments that a table gives a head: each symbol its entry, and none to symbols past the
-- table and to other heads
abbrev pub arity_by : List ℕ → heads.Head → ℕ
arity_by table (Symbol s) = slice_index_or table s 0
arity_by table (Numeral i) = 0
arity_by table (Atom a) = 0
arity_by table (Text t) = 0

-- the heads of classes have no arguments
abbrev pub GivesConstantsNone : List ℕ → List (List heads.Head) → Type 0
GivesConstantsNone table classes = (class : ℕ) (h : heads.Head) → IsTrue (in_class_of classes class h)
    → arity_by table h ≡ 0

-- the equation is well formed, and the heads of its left side have as many arguments as the table says
pub record IsWellFormedBy (table : List ℕ) (e : Equation) : Type 0 where
  pub well_formed : IsWellFormed e
  pub arities : HasArities (arity_by table) e.left

-- the most classes that a file lists
abbrev pub most_classes : ℕ
most_classes = 250

-- the equations are well formed, the table has the number of arguments of each head, and their classes are
-- few enough to have numbers
pub record AreWellFormedBy (table : List ℕ) (rules : RuleList) : Type 0 where
  pub few : length rules.equations ≤ most_equations
  pub few_classes : length rules.classes ≤ most_classes
  pub each : All (IsWellFormedBy table) rules.equations
  pub constants : GivesConstantsNone table rules.classes
