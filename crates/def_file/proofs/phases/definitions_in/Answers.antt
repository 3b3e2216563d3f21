use Rattle.std.proofs.Common.{List, sym, subst}
use Rattle.symbol_table.specs.Table.{names_of}
use Rattle.symbol_table.proofs.Rereading.{live_classes_kept}
use Rattle.def_file.specs.declared.definitions.Numbered.{Numbered}
use Rattle.def_file.specs.Views.{file}
use Rattle.def_file.specs.AsRead.{definitions_read}
use Rattle.def_file.specs.Definitions.{Says}
use Rattle.def_file.specs.Notations.{notation_of}
use Rattle.def_file.proofs.Lasting.{names_keep}
use Rattle.def_file.proofs.Saying.{named_says}
use Rattle.def_file.proofs.phases.definitions_in.Goals as goal

pub returns-clause-members : goal.returns-clause-members
returns-clause-members c =
    let named = c.in_ok-named.named in
    live_classes_kept (names_of named.symbols) named.symbols (names_keep named.symbols) named.listed.classes c.in_ok-named.ensures.ok.members

pub returns-clause-answer : goal.returns-clause-answer
returns-clause-answer c =
    let named = c.in_ok-named.named in
    subst (λ (items : List Numbered). Says (notation_of c.args.syntax) c.args.text.now (definitions_read (record { symbols = named.symbols; class_names = named.listed.class_names; classes = named.listed.classes; variables = named.listed.variables; items = items }))) (sym c.new.ensures)
    (named_says (notation_of c.args.syntax) c.args.text.now (file c.in_ok-named.field-0-0) named c.in_ok-named.ensures.ok c.in_default.is)
