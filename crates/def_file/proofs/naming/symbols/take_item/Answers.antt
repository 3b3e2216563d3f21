use Rattle.std.proofs.Common.{map, sym, subst}
use Rattle.def_file.specs.declared.tree.SymbolItem.{SymbolItem}
use Rattle.def_file.specs.Views.{symbol_item}
use Rattle.def_file.specs.Names.{Class, symbol_places}
use Rattle.def_file.specs.Naming.{only_symbols, IsTaking}
use Rattle.def_file.specs.Notations.{notation_of}
use Rattle.def_file.proofs.naming.symbols.take_item.Goals as goal

pub returns-in-Declares-clause-taking : goal.returns-in-Declares-clause-taking
returns-in-Declares-clause-taking c = λ syntax.
    subst (λ (i : SymbolItem). IsTaking (notation_of syntax) c.args.text.now (only_symbols c.args.symbols.now) (symbol_places (symbol_item i)) (only_symbols c.take_declaration.new.symbols) c.take_declaration.result) (sym c.in-Declares.is) (c.take_declaration.ensures.taking syntax)

pub returns-in-Includes-clause-taking : goal.returns-in-Includes-clause-taking
returns-in-Includes-clause-taking c = λ syntax.
    let listed = subst (λ names. IsTaking (notation_of syntax) c.args.text.now (only_symbols c.args.symbols.now) (map Class names) (only_symbols c.take_classes.new.symbols) c.take_classes.result) c.deref.ensures.value (c.take_classes.ensures.taking syntax) in
    subst (λ (i : SymbolItem). IsTaking (notation_of syntax) c.args.text.now (only_symbols c.args.symbols.now) (symbol_places (symbol_item i)) (only_symbols c.take_classes.new.symbols) c.take_classes.result) (sym c.in-Includes.is) listed
