-- The terms that are read again as they were printed.
use Rattle.std.specs.Prelude.{◌≡◌, ℕ, ◌+◌, ◌≤◌, ◌^◌, List, ◌++◌, length, drop, codes, pos, neg_ℤ, ◌<ℤ◌, ◌≤ℤ◌}
use Rattle.std.specs.List.{AllByRecursion}
use Rattle.eq_base.specs.Limits.{most_text_bytes}
use Rattle.eq_base.specs.Tree.{Tree, cells}
use Rattle.eq_base.specs.ReadHead.{ReadHead, symbol, numeral, atom, text}
use Rattle.eq_base.specs.declared.meeting.SymbolClass.TheVariants.{Numerals, Atoms, Strings}
use Rattle.term_lex.specs.Tokens.{IsName}
use Rattle.term_lex.specs.Strings.{AreTextBytes}
use Rattle.symbol_table.specs.Table.{Table, IsDeclared, HasName, Includes}
use Rattle.written_terms.specs.Notation.{Notation}
use Rattle.written_terms.specs.Reading.{ReadsTerm}

-- a symbol that is declared with that many arguments under a name, or a constant of an included class that has a
-- spelling: an atom whose name is a name and is not declared, a numeral of 128 bits, or a string of at most 65,535 bytes
-- that a string can hold
abbrev pub IsReadable : Table → ReadHead → ℕ → Type 0
IsReadable table (symbol n) args = (name : List ℕ) × IsDeclared table name n args × IsName name
IsReadable table (atom name) args =
    (args ≡ 0) × Includes table Atoms × IsName name × (¬ HasName table name)
IsReadable table (numeral value) args =
    (args ≡ 0) × Includes table Numerals × (neg_ℤ (pos (2 ^ 127)) ≤ℤ value) × (value <ℤ pos (2 ^ 127))
IsReadable table (text value) args =
    (args ≡ 0) × Includes table Strings × AreTextBytes value × (length value ≤ most_text_bytes)

-- each head of the term is such
abbrev pub IsReadableTerm : Table → Tree ReadHead → Type 0
IsReadableTerm table t = AllByRecursion (λ c. IsReadable table c.0 c.1) (cells t)

-- where a text goes on with this print of the term and a dot, the term is read, whatever comes after
abbrev pub IsReadAgain : Notation → List ℕ → Table → Tree ReadHead → Type 0
IsReadAgain notation print table t =
    (bytes rest : List ℕ) (at : ℕ) → drop at bytes ≡ print ++ codes "." ++ rest
    → ReadsTerm notation table bytes at t (at + length print + 1)
