-- The expansion of a file, atoms and strings by their bytes.
use Rattle.std.specs.Prelude.{List, map, Result, Ok, Err}
use Rattle.eq_base.specs.ReadHead.{ReadHead, symbol, in_read_class}
use Rattle.eq_base.specs.Operations.{value_of}
use Rattle.eq_base.specs.RuleList.{RuleList}
use Rattle.eq_base.specs.declared.rules.Equation.{Equation}
use Rattle.term_lex.specs.declared.fault.Fault.{Fault}
use Rattle.symbol_table.specs.Table.{Table}
use Rattle.symbol_table.specs.Reading.{read_rule}
use Rattle.def_file.specs.AsRead.{ReadDefinitions}
use Rattle.qualifiers.specs.Expansion as expansion
use Rattle.qualifiers.specs.Expansion.{PlainEquation}

-- the equations of a file's definitions
abbrev pub IsExpansion : ReadDefinitions → List (PlainEquation ReadHead) → Type 0
IsExpansion d equations = expansion.IsExpansion symbol d equations

-- what expanding a file's definitions answers
abbrev pub IsExpanding : ReadDefinitions → Result (List (PlainEquation ReadHead)) Fault → Type 0
IsExpanding d answer = expansion.IsExpanding symbol d answer

-- the equations have exactly the instances of the definitions
abbrev pub HaveSameInstances : ReadDefinitions → List (PlainEquation ReadHead) → Type 0
HaveSameInstances d equations =
    expansion.HaveSameInstances symbol value_of (in_read_class d.classes) d equations

-- ---- as a table reads them

abbrev pub plain_equation : Table → Equation → PlainEquation ReadHead
plain_equation table e = record { rule = read_rule table e; origin = e.origin }

abbrev pub plain_equations : Table → List Equation → List (PlainEquation ReadHead)
plain_equations table equations = map (plain_equation table) equations

-- the answer with its equations as they are read
abbrev pub expansion_read : {E : Type 0} → Table → Result RuleList E
    → Result (List (PlainEquation ReadHead)) E
expansion_read table (Ok rules) = Ok (plain_equations table rules.equations)
expansion_read table (Err e) = Err e
