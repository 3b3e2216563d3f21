-- What contracts see of a `Variables`: the list of the names.
use Rattle.std.specs.Prelude.{◌≡◌, ℕ, List, [], ◌∷◌, ◌++◌, Contains}
use Rattle.symbol_table.specs.Table.{Table, HasName}

-- a new name, which is no declared symbol, went to the end of the variables
pub record AddsVariable (table : Table) (old new : List (List ℕ)) (name : List ℕ) : Type 0 where
  pub fresh : ¬ Contains old name
  pub no_symbol : ¬ HasName table name
  pub added : new ≡ old ++ name ∷ []
