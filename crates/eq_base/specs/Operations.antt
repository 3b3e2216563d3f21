-- The values of the operations, over unbounded integers, and which of them are within the limits.
use Rattle.std.specs.Prelude.{◌≡◌, ◌++◌, ◌^◌, ℕ, ℤ, pos, ◌+ℤ◌, ◌-ℤ◌, ◌*ℤ◌, neg_ℤ, int_lt, int_le, nat_le}
use Rattle.std.specs.Prelude.{◌&&◌}
use Rattle.std.specs.Prelude.{Bool, true, false, IsFalse, List, length, bytes_eq, if◌then◌else◌, Option, Some}
use Rattle.std.specs.Prelude.{None}
use Rattle.std.specs.Prelude.{Contains}
use Rattle.std.specs.Int.{int_div_euclid, int_rem_euclid}
use Rattle.std.specs.Ordering.{int_eq}
use Rattle.eq_base.specs.Limits.{most_text_bytes}
use Rattle.eq_base.specs.Tree.{Tree, node, empty, grow}
use Rattle.eq_base.specs.Pattern.{PatternCell, fixed, restricted, IsInstanceOf}
use Rattle.eq_base.specs.Rewriting.{operation, Rule, System}
use Rattle.eq_base.specs.Meeting.{class_number}
use Rattle.eq_base.specs.ReadHead.{ReadHead, symbol, numeral, atom, text}
use Rattle.eq_base.specs.declared.meeting.SymbolClass.{SymbolClass}
use Rattle.eq_base.specs.declared.meeting.SymbolClass.TheVariants.{Numerals, Atoms, Strings}
use Rattle.eq_base.specs.declared.rules.Op.{Op}
use Rattle.eq_base.specs.declared.rules.Op.TheVariants.{AddInt, SubInt, MultInt, DivInt, ModInt, EquInt}
use Rattle.eq_base.specs.declared.rules.Op.TheVariants.{LessInt}
use Rattle.eq_base.specs.declared.rules.Op.TheVariants.{EquAtom, EquStr, ConcatStr, LengthStr}

-- the symbol of a truth value
abbrev pub truth : Bool → ReadHead
truth true = symbol 0
truth false = symbol 1

-- the value of the operation is a truth value
abbrev pub compares : Op → Bool
compares EquInt = true
compares LessInt = true
compares EquAtom = true
compares EquStr = true
compares op = false

-- ---- values, whatever their size

-- the value of two numerals; division is Euclidean, with a remainder from 0 to below the divisor's absolute
-- value,
-- and there is none by 0
abbrev pub of_numerals : Op → ℤ → ℤ → Option ReadHead
of_numerals AddInt a b = Some (numeral (a +ℤ b))
of_numerals SubInt a b = Some (numeral (a -ℤ b))
of_numerals MultInt a b = Some (numeral (a *ℤ b))
of_numerals DivInt a b = if int_eq b (pos 0) then None else Some (numeral (int_div_euclid a b))
of_numerals ModInt a b = if int_eq b (pos 0) then None else Some (numeral (int_rem_euclid a b))
of_numerals EquInt a b = Some (truth (int_eq a b))
of_numerals LessInt a b = Some (truth (int_lt a b))
of_numerals op a b = None

-- the value of two atoms: whether they are the same
abbrev pub of_atoms : Op → List ℕ → List ℕ → Option ReadHead
of_atoms EquAtom a b = Some (truth (bytes_eq a b))
of_atoms op a b = None

-- the value of two strings: whether they are the same, or the one and the other behind it
abbrev pub of_texts : Op → List ℕ → List ℕ → Option ReadHead
of_texts EquStr a b = Some (truth (bytes_eq a b))
of_texts ConcatStr a b = Some (text (a ++ b))
of_texts op a b = None

-- the value of one string: its length
abbrev pub of_text : Op → List ℕ → Option ReadHead
of_text LengthStr a = Some (numeral (pos (length a)))
of_text op a = None

-- the value of two operands: both of the operation's kind, or there is none
abbrev pub of_two : Op → ReadHead → ReadHead → Option ReadHead
of_two op (numeral a) (numeral b) = of_numerals op a b
of_two op (atom a) (atom b) = of_atoms op a b
of_two op (text a) (text b) = of_texts op a b
of_two op one other = None

-- the value of one operand
abbrev pub of_one : Op → ReadHead → Option ReadHead
of_one op (text a) = of_text op a
of_one op one = None

-- the value of an application of an operation, if it has one
abbrev pub application_value : Op → Tree ReadHead → Option ReadHead
application_value op (node f (grow (node one empty) empty)) = of_one op one
application_value op (node f (grow (node one empty) (grow (node other empty) empty))) = of_two op one other
application_value op t = None

-- ---- the limits

-- a numeral has 128 bits, and a string at most 65,535 bytes
abbrev pub fits : ReadHead → Bool
fits (symbol s) = true
fits (numeral i) = int_le (neg_ℤ (pos (2 ^ 127))) i && int_lt i (pos (2 ^ 127))
fits (atom a) = true
fits (text t) = nat_le (length t) most_text_bytes

-- the head as a term, where it is within the limits
abbrev pub within : Option ReadHead → Option (Tree ReadHead)
within None = None
within (Some h) = if fits h then Some (node h empty) else None

-- what an application of an operation is rewritten to: its value within the limits
abbrev pub value_of : Op → Tree ReadHead → Option (Tree ReadHead)
value_of op t = within (application_value op t)

-- ---- left sides of operations

-- the class of an operation's operands
abbrev pub operand_class : Op → SymbolClass
operand_class EquAtom = Atoms
operand_class EquStr = Strings
operand_class ConcatStr = Strings
operand_class LengthStr = Strings
operand_class op = Numerals

module _ {H : Type 0} where
  -- an operand: a variable in the class
  abbrev pub operand : Op → ℕ → Tree (PatternCell H)
  operand op x = node (restricted x (class_number (operand_class op))) empty

  -- the left side of an operation's equation: its symbol over its operands
  abbrev pub application : Op → H → Tree (PatternCell H)
  application LengthStr f = node (fixed f) (grow (operand LengthStr 0) empty)
  application op f = node (fixed f) (grow (operand op 0) (grow (operand op 1) empty))

-- ---- past the limits

-- an application of an operation among the rules has a value, and that is past the limits
pub record IsPast (system : System ReadHead) (t : Tree ReadHead) : Type 0 where
  pub rule : Rule ReadHead
  pub listed : Contains system.rules rule
  pub op : Op
  pub is_operation : rule.right ≡ operation op
  pub applied : IsInstanceOf system.in_class rule.left t
  pub value : ReadHead
  pub has_value : application_value op t ≡ Some value
  pub past : IsFalse (fits value)
