-- What stands in the fields of a `Symbols` and of an `Interned`.
use Rattle.std.specs.Prelude.{ℕ, ◌+◌, ◌^◌, ◌≤◌, List, length, map}
use Rattle.std.specs.Global.{Vec}
use Rattle.eq_base.specs.declared.meeting.SymbolClass.{SymbolClass}
use Rattle.symbol_table.specs.Table.{Declared, Table, HasOneNumberEach}

-- the symbol of an entry
abbrev pub declared_of : Vec ℕ × ℕ → Declared
declared_of entry = record { name = entry.0.items; arity = entry.1 }

-- the bytes of the keys
abbrev pub bytes_of : List (Vec ℕ) → List (List ℕ)
bytes_of keys = map (λ key. key.items) keys

-- the table of the entries
abbrev pub table_of : List (Vec ℕ × ℕ) → List SymbolClass → List (List ℕ) → List (List ℕ) → Table
table_of entries classes atoms texts =
    record { declared = map declared_of entries; included = classes; atoms = atoms; texts = texts }

-- names, atoms and texts are distinct, and numbers of symbols 32 bits wide
pub record IsTable (table : Table) : Type 0 where
  pub distinct : HasOneNumberEach table
  pub numbers_fit : 2 + length table.declared ≤ 2 ^ 32
