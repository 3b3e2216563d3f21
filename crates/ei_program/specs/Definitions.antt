-- What a definitions file gives.
use Rattle.std.specs.Prelude.{◌≡◌, ◌⊎◌, ◌↔◌, ℕ, List, map, Err}
use Rattle.eq_base.specs.Tree.{Tree}
use Rattle.eq_base.specs.ReadHead.{ReadHead, symbol, in_read_class}
use Rattle.eq_base.specs.Rewriting.{Rule, System, RootStep}
use Rattle.eq_base.specs.Operations.{value_of}
use Rattle.term_lex.specs.declared.fault.Fault.{Fault}
use Rattle.term_lex.specs.declared.syntax.Syntax.{Syntax}
use Rattle.symbol_table.specs.Table.{Table, names_of}
use Rattle.symbol_table.specs.Reading.{read_classes}
use Rattle.def_file.specs.AsRead.{ReadDefinitions}
use Rattle.def_file.specs.Notations.{notation_of}
use Rattle.def_file.specs.Definitions.{Says, IsFileFault}
use Rattle.qualifiers.specs.Expansion.{PlainEquation, HaveItemInstance}
use Rattle.qualifiers.specs.AsRead.{IsExpansion, IsExpanding, plain_equations}
use Rattle.regularity.specs.declared.breaks.Break.{Break}
use Rattle.sequentiality.specs.Restrictions.{IsViolation}
use Rattle.ei_program.specs.declared.definitions.Equations.{Equations}
use Rattle.ei_program.specs.declared.ready.Ready.{Ready}

-- what is declared and included, the heads of each class of the file, and the equations, with the
-- alternatives of variables put in their places
pub record Definitions : Type 0 where
  pub names : Table
  pub classes : List (List ReadHead)
  pub equations : List (PlainEquation ReadHead)

-- the rule of an equation
abbrev pub rule_in : PlainEquation ReadHead → Rule ReadHead
rule_in e = e.rule

-- rewriting by the equations
abbrev pub system : Definitions → System ReadHead
system d =
    record { rules = map rule_in d.equations; in_class = in_read_class d.classes; value_of = value_of }

-- the equations break this restriction
abbrev pub Breaks : Definitions → Break → Type 0
Breaks d b = IsViolation (in_read_class d.classes) rule_in d.equations b

-- the equations break no restriction
abbrev pub BreaksNone : Definitions → Type 0
BreaksNone d = (b : Break) → Breaks d b → ⊥

-- ---- a file, by its bytes

-- the file has no fault, and gives these definitions
pub record Defines (syntax : Syntax) (text : List ℕ) (d : Definitions) : Type 0 where
  pub read : ReadDefinitions
  pub says : Says (notation_of syntax) text read
  pub expansion : IsExpansion read d.equations
  pub names : d.names ≡ read.names
  pub classes : d.classes ≡ read.classes

-- the file can be read, but not expanded, and this is its first fault
pub record HasExpansionFault (syntax : Syntax) (text : List ℕ) (fault : Fault) : Type 0 where
  pub read : ReadDefinitions
  pub says : Says (notation_of syntax) text read
  pub refused : IsExpanding read (Err fault)

-- the first fault of the file: of its reading, or else of its expansion
abbrev pub RefusesFile : Syntax → List ℕ → Fault → Type 0
RefusesFile syntax text fault =
    IsFileFault (notation_of syntax) text fault ⊎ HasExpansionFault syntax text fault

-- a file gives the definitions, and the equations break no restriction
pub record IsAccepted (d : Definitions) : Type 0 where
  pub syntax : Syntax
  pub file : List ℕ
  pub defines : Defines syntax file d
  pub regular : BreaksNone d

-- the root steps by the equations are exactly the instances of the file's own items: of its equations as they
-- are written, by substitutions that satisfy each qualifier, and of the operations that it includes
abbrev pub HasWrittenSteps : Syntax → List ℕ → Definitions → Type 0
HasWrittenSteps syntax text d = (read : ReadDefinitions) → Says (notation_of syntax) text read
    → (t u : Tree ReadHead)
    → HaveItemInstance symbol value_of (in_read_class read.classes) read.names read.items t u
    ↔ RootStep (system d) t u

-- ---- what a program holds

-- what the reader of a file holds
abbrev pub definitions_in : Equations → Definitions
definitions_in e = record {
  names = names_of e.symbols;
  classes = read_classes e.symbols e.rules.classes;
  equations = plain_equations e.symbols e.rules.equations;
}

-- what a program holds that loaded a file
abbrev pub definitions_of : Ready → Definitions
definitions_of ready = record {
  names = names_of ready.symbols;
  classes = read_classes ready.symbols ready.regular.classes;
  equations = plain_equations ready.symbols ready.regular.equations;
}
