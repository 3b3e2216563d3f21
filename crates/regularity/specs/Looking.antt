-- Words of private functions alone: how far a search for breaks has come, and what it looks at.
use Rattle.std.specs.Prelude.{◌≡◌, ℕ, ◌<◌, List, Some, slice_get}
use Rattle.eq_base.specs.Tree.{size}
use Rattle.eq_base.specs.declared.head.Cell.{Cell}
use Rattle.eq_base.specs.declared.head.Cell.TheVariants.{Head, Var, Class}
use Rattle.eq_base.specs.declared.rules.Equation.{Equation}
use Rattle.regularity.specs.Listing.{Precedes, Lists, break_at}
use Rattle.regularity.specs.WellFormed.{arity_by}
use Rattle.regularity.specs.declared.breaks.Break.{Break}

-- the list of the breaks with the property that come before this one
abbrev pub ListsBefore : (Break → Type 0) → (restriction first place second : ℕ) → List Break → Type 0
ListsBefore P r f p s breaks = Lists (λ b. P b × Precedes b (break_at r f p s)) breaks

-- the equation with this number has a left side with this place
pub record IsPlaceOf (equations : List Equation) (number place : ℕ) : Type 0 where
  pub equation : Equation
  pub listed : slice_get equations number ≡ Some equation
  pub there : place < size equation.left

-- a head in the cell has as many arguments as the table says
abbrev pub HasArityBy : List ℕ → Cell → Type 0
HasArityBy table (Head h n) = n ≡ arity_by table h
HasArityBy table (Var x) = Unit {0}
HasArityBy table (Class x class) = Unit {0}
