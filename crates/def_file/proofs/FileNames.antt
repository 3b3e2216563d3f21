-- From what the sections of a file come to, to what its names come to.
use Rattle.std.proofs.Common.{◌≡◌, ℕ, List, [], ◌++◌, refl, sym, subst, map, append-nil, append_assoc, Result, Err, length, ◌≤◌, inl, inr}
use Rattle.std.specs.List.{flat_map}
use Rattle.symbol_table.specs.Table.{Table, names_of}
use Rattle.written_terms.specs.Notation.{Notation}
use Rattle.def_file.specs.declared.error.FileError.{FileError}
use Rattle.def_file.specs.declared.error.FileError.TheVariants.{Refused, NoMemory}
use Rattle.def_file.specs.declared.naming.listed.Listed.{Listed}
use Rattle.def_file.specs.declared.naming.Named.{Named}
use Rattle.def_file.specs.Errors.{IfRefused}
use Rattle.def_file.specs.Trees.{File}
use Rattle.def_file.specs.Grammar.{IsFileText}
use Rattle.def_file.specs.Definitions.{most_bytes, IsFileFault}
use Rattle.def_file.specs.Names.{Place, Variable, Known, nothing_known, symbol_places, classes_places, listed_places, item_places, places_of, TakesAll, RefusesFirst}
use Rattle.def_file.specs.Naming.{only_symbols, no_operations, IsNaming}
use Rattle.def_file.proofs.Namings.{IsUnderWay, none_taken, more_taken, one_refused}

-- where nothing is listed, the symbols alone are known
pub nothing_listed : (table : Table) (listed : Listed) → listed.class_names ≡ [] → listed.classes ≡ [] → listed.variables ≡ [] → no_operations table listed ≡ only_symbols table
nothing_listed table listed names classes variables =
    λ i. record { table = names_of table; class_names = names i; classes = classes i; variables = variables i; operations = [] }

module _ (notation : Notation) (text : List ℕ) (file : File) where
  abbrev symbols_in : List Place
  symbols_in = flat_map symbol_places file.symbols

  abbrev listed_in : List Place
  listed_in = listed_places file

  abbrev items_in : List Place
  items_in = flat_map item_places file.items

  -- ---- the sections of classes and of variables

  abbrev classes_in : List Place
  classes_in = classes_places 4 file.classes

  abbrev variables_in : List Place
  variables_in = map Variable file.variables

  module _ (old : Known) where
    pub classes_refused : (e : FileError) → IfRefused (RefusesFirst notation text old classes_in) e → IfRefused (RefusesFirst notation text old listed_in) e
    classes_refused e h = one_refused notation text old old listed_in listed_in classes_in variables_in refl (none_taken notation text old listed_in) e h

    module _ (mid : Known) (classes : TakesAll notation text old classes_in mid) where
      behind_classes : IsUnderWay notation text old listed_in mid variables_in
      behind_classes = more_taken notation text old old listed_in listed_in classes_in variables_in refl (none_taken notation text old listed_in) mid classes

      pub variables_refused : (e : FileError) → IfRefused (RefusesFirst notation text mid variables_in) e → IfRefused (RefusesFirst notation text old listed_in) e
      variables_refused e h = one_refused notation text old mid listed_in variables_in variables_in [] (sym (append-nil variables_in)) behind_classes e h

      pub all_listed : (new : Known) → TakesAll notation text mid variables_in new → TakesAll notation text old listed_in new
      all_listed new variables = behind_classes.takes new variables

  -- ---- the whole file

  pub naming_refused : (r : Result Named FileError) (e : FileError) → r ≡ Err e → IfRefused (RefusesFirst notation text nothing_known (places_of file)) e → IsNaming notation text file r
  naming_refused r e same h = subst (IsNaming notation text file) (sym same) h

  pub symbols_refused : (e : FileError) → IfRefused (RefusesFirst notation text nothing_known symbols_in) e → IfRefused (RefusesFirst notation text nothing_known (places_of file)) e
  symbols_refused e h = one_refused notation text nothing_known nothing_known (places_of file) (places_of file) symbols_in (listed_in ++ items_in) (append_assoc symbols_in listed_in items_in) (none_taken notation text nothing_known (places_of file)) e h

  module _ (table : Table) (symbols : TakesAll notation text nothing_known symbols_in (only_symbols table)) where
    behind_symbols : IsUnderWay notation text nothing_known (places_of file) (only_symbols table) (listed_in ++ items_in)
    behind_symbols = more_taken notation text nothing_known nothing_known (places_of file) (places_of file) symbols_in (listed_in ++ items_in) (append_assoc symbols_in listed_in items_in) (none_taken notation text nothing_known (places_of file)) (only_symbols table) symbols

    pub listed_refused : (e : FileError) → IfRefused (RefusesFirst notation text (only_symbols table) listed_in) e → IfRefused (RefusesFirst notation text nothing_known (places_of file)) e
    listed_refused e h = one_refused notation text nothing_known (only_symbols table) (places_of file) (listed_in ++ items_in) listed_in items_in refl behind_symbols e h

    module _ (listed : Listed) (taken : TakesAll notation text (only_symbols table) listed_in (no_operations table listed)) where
      behind_listed : IsUnderWay notation text nothing_known (places_of file) (no_operations table listed) items_in
      behind_listed = more_taken notation text nothing_known (only_symbols table) (places_of file) (listed_in ++ items_in) listed_in items_in refl behind_symbols (no_operations table listed) taken

      pub items_refused : (e : FileError) → IfRefused (RefusesFirst notation text (no_operations table listed) items_in) e → IfRefused (RefusesFirst notation text nothing_known (places_of file)) e
      items_refused e h = one_refused notation text nothing_known (no_operations table listed) (places_of file) items_in items_in [] (sym (append-nil items_in)) behind_listed e h

      pub all_named : (known : Known) → TakesAll notation text (no_operations table listed) items_in known → TakesAll notation text nothing_known (places_of file) known
      all_named known items = behind_listed.takes known items

-- a name that is refused is the fault of a file that is short and is read
pub names_fault : (notation : Notation) (text : List ℕ) (file : File) → length text ≤ most_bytes → IsFileText notation text file → (e : FileError) → IfRefused (RefusesFirst notation text nothing_known (places_of file)) e → IfRefused (IsFileFault notation text) e
names_fault notation text file short reads (Refused f) h = inr (short, inr (inl (record { file = file; reads = reads; refused = h })))
names_fault notation text file short reads NoMemory h = tt
