-- The texts of heads.
use Rattle.std.specs.Prelude.{ℕ, List, [], ◌++◌, codes, slice_index_or}
use Rattle.std.specs.Fmt.{signed_decimal}
use Rattle.eq_base.specs.ReadHead.{ReadHead, symbol, numeral, atom, text}
use Rattle.eq_base.specs.declared.head.Head.{Head}
use Rattle.term_lex.specs.Strings.{spelled}
use Rattle.symbol_table.specs.Table.{Table, names_of, symbols_of}
use Rattle.symbol_table.specs.Reading.{read_head}

-- the name of the declared symbol with the number
abbrev pub symbol_name : Table → ℕ → List ℕ
symbol_name table number = (slice_index_or (symbols_of table) number (record { name = []; arity = 0 })).name

-- the string that holds the bytes: their spelling between quotes
abbrev pub quoted : List ℕ → List ℕ
quoted bytes = codes "\"" ++ spelled bytes ++ codes "\""

-- the text of a head: a name, a number in decimal digits, or a string between quotes
abbrev pub head_text : Table → ReadHead → List ℕ
head_text table (symbol number) = symbol_name table number
head_text table (numeral value) = signed_decimal value
head_text table (atom name) = name
head_text table (text bytes) = quoted bytes

-- the text of a head, as the table reads it
abbrev pub text_in : Table → Head → List ℕ
text_in table head = head_text (names_of table) (read_head table head)
