-- Heads, terms, equations and classes as they are read by a table.
use Rattle.std.specs.Prelude.{◌<◌, List, [], map, length, slice_index_or, All}
use Rattle.eq_base.specs.Tree.{Tree, map_heads, AllHeads}
use Rattle.eq_base.specs.Pattern.{PatternCell, fixed, variable, restricted}
use Rattle.eq_base.specs.Rewriting.{Rule, System}
use Rattle.eq_base.specs.RuleList.{RuleList}
use Rattle.eq_base.specs.Rules.{rule_of}
use Rattle.eq_base.specs.ReadHead.{ReadHead, symbol, numeral, atom, text, in_read_class}
use Rattle.eq_base.specs.Mapping.{map_pattern, map_rule}
use Rattle.eq_base.specs.Operations.{value_of}
use Rattle.eq_base.specs.declared.head.Head.{Head}
use Rattle.eq_base.specs.declared.head.Head.TheVariants.{Symbol, Numeral, Atom, Text}
use Rattle.eq_base.specs.declared.rules.Right.{Right}
use Rattle.eq_base.specs.declared.rules.Right.TheVariants as rights
use Rattle.eq_base.specs.declared.rules.Equation.{Equation}
use Rattle.symbol_table.specs.Table.{Table, IsLive}

-- ---- what heads stand for

-- the head as it is read: atoms and strings by their bytes
abbrev pub read_head : Table → Head → ReadHead
read_head table (Symbol s) = symbol s
read_head table (Numeral i) = numeral i
read_head table (Atom a) = atom (slice_index_or table.atoms a [])
read_head table (Text t) = text (slice_index_or table.texts t [])

-- the term as it is read
abbrev pub read : Table → Tree Head → Tree ReadHead
read table t = map_heads (read_head table) t

-- the pattern as it is read
abbrev pub read_pattern : Table → Tree (PatternCell Head) → Tree (PatternCell ReadHead)
read_pattern table p = map_pattern (read_head table) p

-- the equation as it is read, used from left to right
abbrev pub read_rule : Table → Equation → Rule ReadHead
read_rule table e = map_rule (read_head table) (rule_of e)

-- the classes as they are read
abbrev pub read_classes : Table → List (List Head) → List (List ReadHead)
read_classes table classes = map (λ heads. map (read_head table) heads) classes

-- rewriting by the equations as they are read, with the symbol classes, their own classes and the values of
-- operations
abbrev pub read_system : Table → RuleList → System ReadHead
read_system table rules = record {
  rules = map (read_rule table) rules.equations;
  in_class = in_read_class (read_classes table rules.classes);
  value_of = value_of;
}

-- ---- live numbers

-- the number of the head, if it has one, is that of a declared symbol, an atom or a text
abbrev pub IsLiveHead : Table → Head → Type 0
IsLiveHead table (Symbol s) = IsLive table s
IsLiveHead table (Numeral i) = Unit {0}
IsLiveHead table (Atom a) = a < length table.atoms
IsLiveHead table (Text t) = t < length table.texts

-- each number in the term is live
abbrev pub IsLiveTerm : Table → Tree Head → Type 0
IsLiveTerm table t = AllHeads (IsLiveHead table) t

-- the head in the cell, if there is one, is live
abbrev pub IsLiveCell : Table → PatternCell Head → Type 0
IsLiveCell table (fixed h) = IsLiveHead table h
IsLiveCell table (variable x) = Unit {0}
IsLiveCell table (restricted x class) = Unit {0}

-- each number in the pattern is live
abbrev pub IsLivePattern : Table → Tree (PatternCell Head) → Type 0
IsLivePattern table p = AllHeads (IsLiveCell table) p

-- each number in the right side is live
abbrev pub IsLiveRight : Table → Right → Type 0
IsLiveRight table (rights.Tree p) = IsLivePattern table p
IsLiveRight table (rights.Schema op) = Unit {0}

-- each number in the equation is live
pub record IsLiveEquation (table : Table) (e : Equation) : Type 0 where
  pub left : IsLivePattern table e.left
  pub right : IsLiveRight table e.right

-- each number in the equations is live
abbrev pub AreLiveEquations : Table → List Equation → Type 0
AreLiveEquations table equations = All (IsLiveEquation table) equations

-- each number in the classes is live
abbrev pub AreLiveClasses : Table → List (List Head) → Type 0
AreLiveClasses table classes = All (λ heads. All (IsLiveHead table) heads) classes

-- each number in the equations and their classes is live
pub record AreLive (table : Table) (rules : RuleList) : Type 0 where
  pub classes : AreLiveClasses table rules.classes
  pub equations : AreLiveEquations table rules.equations
