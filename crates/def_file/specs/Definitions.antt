-- What a definitions file says, and what reading one answers.
use Rattle.std.specs.Prelude.{◌≡◌, ℕ, ◌+◌, ◌≤◌, ◌<◌, ◌^◌, ◌⊎◌, ◌==◌, List, [], ◌∷◌, ◌++◌, length, Option, Some, None, Result, Ok, Err, slice_get, if◌then◌else◌}
use Rattle.std.specs.List.{flat_map}
use Rattle.eq_base.specs.Tree.{Tree, map_heads}
use Rattle.eq_base.specs.Pattern.{PatternCell, variable, restricted}
use Rattle.eq_base.specs.Meeting.{class_number}
use Rattle.eq_base.specs.ReadHead.{ReadHead}
use Rattle.eq_base.specs.declared.meeting.SymbolClass.{SymbolClass}
use Rattle.eq_base.specs.declared.rules.Op.{Op}
use Rattle.term_lex.specs.declared.token.Token.{Token}
use Rattle.term_lex.specs.declared.fault.Fault.{Fault}
use Rattle.term_lex.specs.declared.fault.FaultKind.TheVariants.{FileLong}
use Rattle.term_lex.specs.Lexemes.{IsFirstFault}
use Rattle.symbol_table.specs.Table.{class_name}
use Rattle.symbol_table.specs.Reading.{read_classes}
use Rattle.written_terms.specs.Notation.{Notation}
use Rattle.def_file.specs.AsRead.{ReadQualifier, ReadEquation, Equation, Class, ReadNumbered, ReadDefinitions}
use Rattle.def_file.specs.Trees.{Restriction, InClass, OneOf, Condition, Sides, EquationItem, Equates, IncludesOperations, File}
use Rattle.def_file.specs.Pairs.{AreRelated}
use Rattle.def_file.specs.Grammar.{IsSomeFile, IsFileText}
use Rattle.def_file.specs.Operations.{operation_name}
use Rattle.def_file.specs.Names.{Known, nothing_known, places_of, token_bytes, TakesAll, RefusesFirst}
use Rattle.def_file.specs.Sides.{equation_of, IsPattern, all_limits, KeepsAll, PassesFirst}

-- ---- variables in classes

-- the class of the variable, by the first pair that names it
abbrev pub class_of : List (ℕ × ℕ) → ℕ → Option ℕ
class_of [] x = None
class_of (c ∷ cs) x = if c.0 == x then Some c.1 else class_of cs x

-- a variable, restricted to its class if it has one
abbrev pub restricted_to : {H : Type 0} → ℕ → Option ℕ → PatternCell H
restricted_to x (Some class) = restricted x class
restricted_to x None = variable x

-- the cell with its variable in its class
abbrev pub classed : {H : Type 0} → List (ℕ × ℕ) → PatternCell H → PatternCell H
classed classes (variable x) = restricted_to x (class_of classes x)
classed classes c = c

-- the name is that of the class with the number: of a symbol class, or of one of the file, which have these names
abbrev pub NamesClass : List (List ℕ) → List ℕ → ℕ → Type 0
NamesClass class_names name number =
    ((class : SymbolClass) × (name ≡ class_name class) × (number ≡ class_number class))
    ⊎ ((place : ℕ) × (slice_get class_names place ≡ Some name) × (number ≡ 4 + place))

module _ (text : List ℕ) (known : Known) where
  -- the token is the name of the variable with the number
  abbrev pub NamesVariable : Token → ℕ → Type 0
  NamesVariable name x = slice_get known.variables x ≡ Some (token_bytes text name)

  -- the variable comes first where it is in a class, each with the number of the class; Rest says what comes then
  abbrev pub IsFirstIn : Token → Restriction → (List (ℕ × ℕ) → Type 0) → List (ℕ × ℕ) → Type 0
  IsFirstIn name (InClass class_token) Rest classes =
      (x : ℕ) × (class : ℕ) × (rest : List (ℕ × ℕ)) × NamesVariable name x
      × NamesClass known.class_names (token_bytes text class_token) class
      × (classes ≡ (x, class) ∷ rest) × Rest rest
  IsFirstIn name (OneOf terms) Rest classes = Rest classes

  -- the variables that are in a class, each with the number of its class
  abbrev pub AreIn : List Condition → List (ℕ × ℕ) → Type 0
  AreIn [] classes = classes ≡ []
  AreIn (c ∷ cs) classes = IsFirstIn c.variable c.restriction (λ rest. AreIn cs rest) classes

  -- the name is that of an equation class, which the item with the number includes
  abbrev pub MeansOperation : ℕ → Token → ReadNumbered → Type 0
  MeansOperation number name numbered = (op : Op) × (token_bytes text name ≡ operation_name op)
      × (numbered ≡ record { item = Class op name.from; number = number })

-- terms are written in the notation
module _ (notation : Notation) (text : List ℕ) (known : Known) where
  module _ (classes : List (ℕ × ℕ)) where
    -- the term from the byte on is this pattern, in which variables stand with their classes
    abbrev pub MeansSide : ℕ → Tree (PatternCell ReadHead) → Type 0
    MeansSide byte pattern = (plain : Tree (PatternCell ReadHead)) × IsPattern notation text known byte plain
        × (pattern ≡ map_heads (classed classes) plain)

    -- what a variable may stand for: the alternatives, of which a class has none
    abbrev pub MeanChoices : Restriction → List (Tree (PatternCell ReadHead)) → Type 0
    MeanChoices (InClass name) patterns = patterns ≡ []
    MeanChoices (OneOf terms) patterns = AreRelated MeansSide terms patterns

    -- a written qualifier means this one
    pub record MeansQualifier (c : Condition) (qualifier : ReadQualifier) : Type 0 where
      pub variable : NamesVariable text known c.variable qualifier.variable
      pub choices : MeanChoices c.restriction qualifier.choices
      pub place : qualifier.byte ≡ c.variable.from

  -- written sides mean this equation
  pub record MeansEquation (sides : Sides) (equation : ReadEquation) : Type 0 where
    pub classes : List (ℕ × ℕ)
    pub are_in : AreIn text known sides.conditions classes
    pub left : MeansSide classes sides.left equation.left
    pub right : MeansSide classes sides.right equation.right
    pub qualifiers : AreRelated (MeansQualifier classes) sides.conditions equation.qualifiers
    pub place : equation.byte ≡ sides.left

  -- the written item with the number means these items
  abbrev pub MeansItem : ℕ → EquationItem → List ReadNumbered → Type 0
  MeansItem number (Equates sides) numbered = (equation : ReadEquation) × MeansEquation sides equation
      × (numbered ≡ record { item = Equation equation; number = number } ∷ [])
  MeansItem number (IncludesOperations include names) numbered =
      AreRelated (MeansOperation text known number) names numbered

  -- the written items from the number on mean these items
  abbrev pub MeanItems : ℕ → List EquationItem → List ReadNumbered → Type 0
  MeanItems number [] numbered = numbered ≡ []
  MeanItems number (i ∷ is) numbered = (front : List ReadNumbered) × (back : List ReadNumbered)
      × (numbered ≡ front ++ back) × MeansItem number i front × MeanItems (number + 1) is back

-- ---- the phases

-- the most bytes of a file
abbrev pub most_bytes : ℕ
most_bytes = 2 ^ 24

-- the equations of a file
abbrev pub sides_of : File → List Sides
sides_of file = flat_map equation_of file.items

-- the file has no fault, and says these definitions
pub record Says (notation : Notation) (text : List ℕ) (definitions : ReadDefinitions) : Type 0 where
  pub short : length text ≤ most_bytes
  pub file : File
  pub reads : IsFileText notation text file
  pub known : Known
  pub names : TakesAll notation text nothing_known (places_of file) known
  pub limits : KeepsAll notation text known (all_limits 0 (sides_of file))
  pub declared : definitions.names ≡ known.table
  pub class_names : definitions.class_names ≡ known.class_names
  pub classes : definitions.classes ≡ read_classes known.table known.classes
  pub variables : definitions.variables ≡ known.variables
  pub items : MeanItems notation text known 1 file.items definitions.items

-- its names have a fault, and this is the first one
pub record HasNameFault (notation : Notation) (text : List ℕ) (fault : Fault) : Type 0 where
  pub file : File
  pub reads : IsFileText notation text file
  pub refused : RefusesFirst notation text nothing_known (places_of file) fault

-- its names have no fault, but its sides have one, and this is the first one
pub record HasSideFault (notation : Notation) (text : List ℕ) (fault : Fault) : Type 0 where
  pub file : File
  pub reads : IsFileText notation text file
  pub known : Known
  pub names : TakesAll notation text nothing_known (places_of file) known
  pub passed : PassesFirst notation text known (all_limits 0 (sides_of file)) fault

-- the first fault of the first phase that has one: the length, the reading, the names and the sides
abbrev pub IsFileFault : Notation → List ℕ → Fault → Type 0
IsFileFault notation text fault =
    ((most_bytes < length text) × (fault ≡ record { kind = FileLong; byte = most_bytes }))
    ⊎ ((length text ≤ most_bytes)
    × (IsFirstFault (notation.Misplaced (IsSomeFile notation)) (IsSomeFile notation) text 0 fault
    ⊎ (HasNameFault notation text fault ⊎ HasSideFault notation text fault)))

-- what reading a file answers
abbrev pub IsDefinitions : Notation → List ℕ → Result ReadDefinitions Fault → Type 0
IsDefinitions notation text (Ok definitions) = Says notation text definitions
IsDefinitions notation text (Err fault) = IsFileFault notation text fault
