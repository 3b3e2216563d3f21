-- What a file says, from its names.
use Rattle.std.proofs.Common.{◌≡◌, ℕ, List, None, refl, subst}
use Rattle.symbol_table.specs.Table.{names_of}
use Rattle.symbol_table.proofs.Rereading.{classes_kept}
use Rattle.written_terms.specs.Notation.{Notation}
use Rattle.def_file.specs.declared.naming.Named.{Named}
use Rattle.def_file.specs.Trees.{File}
use Rattle.def_file.specs.Naming.{known_of, IsNamed}
use Rattle.def_file.specs.Sides.{all_limits, AnswersLimits}
use Rattle.def_file.specs.AsRead.{definitions_read}
use Rattle.def_file.specs.Definitions.{sides_of, Says}
use Rattle.def_file.proofs.Lasting.{names_keep}

-- a file whose names have no fault, and that passes no limit, says these definitions
pub named_says : (notation : Notation) (text : List ℕ) (file : File) (named : Named) → IsNamed notation text file named → named.taken.fault ≡ None
    → Says notation text (definitions_read (record { symbols = named.symbols; class_names = named.listed.class_names; classes = named.listed.classes; variables = named.listed.variables; items = named.taken.items.items }))
named_says notation text file named is none = record {
  short = is.short;
  file = file;
  reads = is.reads;
  known = known_of named;
  names = is.names;
  limits = subst (AnswersLimits notation text (known_of named) (all_limits 0 (sides_of file))) none is.limits;
  declared = refl;
  class_names = refl;
  classes = classes_kept (names_of named.symbols) named.symbols (names_keep named.symbols) named.listed.classes is.members;
  variables = refl;
  items = is.items;
}
