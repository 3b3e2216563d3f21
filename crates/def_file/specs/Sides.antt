-- The equations of a file, once its names are known, and what is wrong with their sides.
use Rattle.std.specs.Prelude.{◌≡◌, ℕ, ◌+◌, ◌<◌, ◌≤◌, ◌⊎◌, List, [], ◌∷◌, ◌++◌, map, Option, Some, None}
use Rattle.std.specs.List.{flat_map}
use Rattle.eq_base.specs.Limits.{most_equations, most_left_cells, most_right_cells}
use Rattle.eq_base.specs.Tree.{Tree, node, size}
use Rattle.eq_base.specs.Pattern.{PatternCell, fixed}
use Rattle.eq_base.specs.ReadHead.{ReadHead, symbol}
use Rattle.term_lex.specs.declared.fault.Fault.{Fault}
use Rattle.term_lex.specs.declared.fault.FaultKind.TheVariants.{EquationsPast, LeftNotApplication, SideLong}
use Rattle.written_terms.specs.Notation.{Notation}
use Rattle.written_terms.specs.Reading.{ReadsPattern}
use Rattle.def_file.specs.Trees.{Restriction, InClass, OneOf, Condition, Sides, EquationItem, Equates, IncludesOperations}
use Rattle.def_file.specs.Names.{Known}

-- the equation of an item
abbrev pub equation_of : EquationItem → List Sides
equation_of (Equates sides) = sides ∷ []
equation_of (IncludesOperations include names) = []

-- the alternatives behind `is`
abbrev pub alternatives_in : Restriction → List ℕ
alternatives_in (InClass name) = []
alternatives_in (OneOf terms) = terms

-- the alternatives of a qualifier
abbrev pub alternatives_of : Condition → List ℕ
alternatives_of c = alternatives_in c.restriction

-- a limit that a file has to keep, at the byte of a side
pub data Limit : Type 0 where
  Equations : ℕ → ℕ → Limit  -- so many equations stand before the one whose left side this is
  Application : ℕ → Limit  -- the left side has a symbol at its root
  Cells : ℕ → ℕ → Limit  -- the side has at most so many cells

-- the limits of an equation in the order in which they are looked at, where so many stand before it
abbrev pub limits_of : ℕ → Sides → List Limit
limits_of before sides =
    Equations before sides.left ∷ Application sides.left
    ∷ Cells most_left_cells sides.left ∷ Cells most_right_cells sides.right
    ∷ map (Cells most_left_cells) (flat_map alternatives_of sides.conditions)

-- the limits of one equation after another
abbrev pub all_limits : ℕ → List Sides → List Limit
all_limits before [] = []
all_limits before (s ∷ ss) = limits_of before s ++ all_limits (before + 1) ss

-- a symbol stands at the root
abbrev pub IsSymbolApplied : Tree (PatternCell ReadHead) → Type 0
IsSymbolApplied (node (fixed (symbol n)) args) = Unit {0}
IsSymbolApplied pattern = ⊥

module _ (notation : Notation) (text : List ℕ) (known : Known) where
  -- the term from the byte on is this pattern
  abbrev pub IsPattern : ℕ → Tree (PatternCell ReadHead) → Type 0
  IsPattern byte pattern = (end : ℕ) × ReadsPattern notation known.table known.variables text byte pattern end

  -- the limit is kept
  abbrev pub KeepsLimit : Limit → Type 0
  KeepsLimit (Equations before byte) = before < most_equations
  KeepsLimit (Application byte) = (pattern : Tree (PatternCell ReadHead)) × IsPattern byte pattern
      × IsSymbolApplied pattern
  KeepsLimit (Cells most byte) = (pattern : Tree (PatternCell ReadHead)) × IsPattern byte pattern
      × (size pattern ≤ most)

  -- the limit is passed
  abbrev pub Passes : Limit → Fault → Type 0
  Passes (Equations before byte) fault = (most_equations ≤ before)
      × (fault ≡ record { kind = EquationsPast; byte = byte })
  Passes (Application byte) fault = (pattern : Tree (PatternCell ReadHead)) × IsPattern byte pattern
      × (¬ IsSymbolApplied pattern) × (fault ≡ record { kind = LeftNotApplication; byte = byte })
  Passes (Cells most byte) fault = (pattern : Tree (PatternCell ReadHead)) × IsPattern byte pattern
      × (most < size pattern) × (fault ≡ record { kind = SideLong; byte = byte })

  -- all limits are kept
  abbrev pub KeepsAll : List Limit → Type 0
  KeepsAll [] = Unit {0}
  KeepsAll (l ∷ ls) = KeepsLimit l × KeepsAll ls

  -- the first limit that is passed gives this fault
  abbrev pub PassesFirst : List Limit → Fault → Type 0
  PassesFirst [] fault = ⊥
  PassesFirst (l ∷ ls) fault = Passes l fault ⊎ (KeepsLimit l × PassesFirst ls fault)

  -- the fault of the first limit that is passed, or none where all are kept
  abbrev pub AnswersLimits : List Limit → Option Fault → Type 0
  AnswersLimits limits None = KeepsAll limits
  AnswersLimits limits (Some fault) = PassesFirst limits fault
