use Rattle.std.proofs.Common.{◌≡◌, Err, sym, subst, map, length, ap, arith, ◌≤◌}
use Rattle.std.proofs.lemmas.List.{length-map}
use Rattle.std.proofs.lemmas.Result.{err_from_is_err_and}
use Rattle.std.specs.List.{flat_map}
use Rattle.symbol_table.specs.Table.{Table}
use Rattle.def_file.specs.Errors.{IfRefused}
use Rattle.def_file.specs.Views.{symbol_item, equation_item, file}
use Rattle.def_file.specs.Names.{nothing_known, symbol_places, item_places, TakesAll, RefusesFirst}
use Rattle.def_file.specs.Naming.{ArePlaced, knowing, only_symbols, no_operations}
use Rattle.symbol_table.proofs.Keeping.{keeps_refl}
use Rattle.def_file.specs.Sides.{equation_of, all_limits, AnswersLimits}
use Rattle.def_file.specs.AsRead.{numbered_read}
use Rattle.def_file.specs.Definitions.{MeanItems}
use Rattle.def_file.proofs.Placed.{file_placed}
use Rattle.def_file.proofs.Few.{file_few}
use Rattle.def_file.proofs.FileNames.{naming_refused, symbols_refused, listed_refused, items_refused, all_named}
use Rattle.def_file.specs.Notations.{notation_of}
use Rattle.def_file.proofs.Lawful.{lawful_of}
use Rattle.def_file.proofs.naming.take_names.Goals as goal

pub take_symbols-requires-clause-placed : goal.take_symbols-requires-clause-placed
take_symbols-requires-clause-placed c = subst (λ xs. ArePlaced c.args.text.now (flat_map symbol_places (map symbol_item xs))) (sym c.deref.ensures.value) (file_placed (notation_of c.args.syntax) c.args.text.now (file c.args.written.now) c.requires.reads.lexemes c.requires.reads.end c.requires.reads.scanned c.requires.reads.spelled).symbols

pub take_symbols-requires-clause-room : goal.take_symbols-requires-clause-room
take_symbols-requires-clause-room c =
    let few : length c.args.written.now.symbols.items ≤ length c.args.text.now = simp length-map at (file_few c.args.text.now (lawful_of c.args.syntax) (file c.args.written.now) c.requires.reads.lexemes c.requires.reads.end c.requires.reads.scanned c.requires.reads.spelled).symbols in
    let same = ap length c.deref.ensures.value in
    let none = ap (λ (t : Table). length t.declared) c.new-symbols.ensures in
    omega (arith, few, same, none, c.requires.short)

pub returns-in_err-take_symbols-clause-naming : goal.returns-in_err-take_symbols-clause-naming
returns-in_err-take_symbols-clause-naming c =
    let p = err_from_is_err_and c.from_residual.result c.from_residual.ensures.1 in
    let same : c.from_residual.result ≡ Err c.in_err-take_symbols.field-0.0 = cc (p.1, p.2) in
    let refused = subst (λ xs. IfRefused (RefusesFirst (notation_of c.args.syntax) c.args.text.now nothing_known (flat_map symbol_places (map symbol_item xs))) c.in_err-take_symbols.field-0.0) c.deref.ensures.value (subst (λ t. IfRefused (RefusesFirst (notation_of c.args.syntax) c.args.text.now (only_symbols t) (flat_map symbol_places (map symbol_item c.deref.result.now))) c.in_err-take_symbols.field-0.0) c.new-symbols.ensures (c.in_err-take_symbols.ensures c.args.syntax)) in
    naming_refused (notation_of c.args.syntax) c.args.text.now (file c.args.written.now) c.from_residual.result c.in_err-take_symbols.field-0.0 same (symbols_refused (notation_of c.args.syntax) c.args.text.now (file c.args.written.now) c.in_err-take_symbols.field-0.0 refused)

pub take_listed-requires-clause-placed : goal.take_listed-requires-clause-placed
take_listed-requires-clause-placed c = (file_placed (notation_of c.args.syntax) c.args.text.now (file c.args.written.now) c.requires.reads.lexemes c.requires.reads.end c.requires.reads.scanned c.requires.reads.spelled).listed

pub take_listed-requires-clause-few : goal.take_listed-requires-clause-few
take_listed-requires-clause-few c = (file_few c.args.text.now (lawful_of c.args.syntax) (file c.args.written.now) c.requires.reads.lexemes c.requires.reads.end c.requires.reads.scanned c.requires.reads.spelled).variables

pub returns-in_err-listed-clause-naming : goal.returns-in_err-listed-clause-naming
returns-in_err-listed-clause-naming c =
    let p = err_from_is_err_and c.from_residual-in_err-listed.result c.from_residual-in_err-listed.ensures.1 in
    let same : c.from_residual-in_err-listed.result ≡ Err c.in_err-listed.field-0.0 = cc (p.1, p.2) in
    naming_refused (notation_of c.args.syntax) c.args.text.now (file c.args.written.now) c.from_residual-in_err-listed.result c.in_err-listed.field-0.0 same (listed_refused (notation_of c.args.syntax) c.args.text.now (file c.args.written.now) c.take_symbols.new.symbols (subst (λ xs. TakesAll (notation_of c.args.syntax) c.args.text.now nothing_known (flat_map symbol_places (map symbol_item xs)) (only_symbols c.take_symbols.new.symbols)) c.deref.ensures.value (subst (λ t. TakesAll (notation_of c.args.syntax) c.args.text.now (only_symbols t) (flat_map symbol_places (map symbol_item c.deref.result.now)) (only_symbols c.take_symbols.new.symbols)) c.new-symbols.ensures (c.in_ok-take_symbols.ensures c.args.syntax))) c.in_err-listed.field-0.0 (c.in_err-listed.ensures.refused c.args.syntax))

pub take_items-requires-clause-placed : goal.take_items-requires-clause-placed
take_items-requires-clause-placed c = subst (λ xs. ArePlaced c.args.text.now (flat_map item_places (map equation_item xs))) (sym c.deref-2.ensures.value) (file_placed (notation_of c.args.syntax) c.args.text.now (file c.args.written.now) c.requires.reads.lexemes c.requires.reads.end c.requires.reads.scanned c.requires.reads.spelled).items

pub returns-in_err-taken-clause-naming : goal.returns-in_err-taken-clause-naming
returns-in_err-taken-clause-naming c =
    let p = err_from_is_err_and c.from_residual-in_err-taken.result c.from_residual-in_err-taken.ensures.1 in
    let same : c.from_residual-in_err-taken.result ≡ Err c.in_err-taken.field-0.0 = cc (p.1, p.2) in
    let refused = subst (λ xs. IfRefused (RefusesFirst (notation_of c.args.syntax) c.args.text.now (no_operations c.take_symbols.new.symbols c.in_ok-listed.listed) (flat_map item_places (map equation_item xs))) c.in_err-taken.field-0.0) c.deref-2.ensures.value (subst (λ ops. IfRefused (RefusesFirst (notation_of c.args.syntax) c.args.text.now (knowing c.take_symbols.new.symbols c.in_ok-listed.listed ops) (flat_map item_places (map equation_item c.deref-2.result.now))) c.in_err-taken.field-0.0) c.new-operations.ensures.items c.in_err-taken.ensures.taking) in
    naming_refused (notation_of c.args.syntax) c.args.text.now (file c.args.written.now) c.from_residual-in_err-taken.result c.in_err-taken.field-0.0 same (items_refused (notation_of c.args.syntax) c.args.text.now (file c.args.written.now) c.take_symbols.new.symbols (subst (λ xs. TakesAll (notation_of c.args.syntax) c.args.text.now nothing_known (flat_map symbol_places (map symbol_item xs)) (only_symbols c.take_symbols.new.symbols)) c.deref.ensures.value (subst (λ t. TakesAll (notation_of c.args.syntax) c.args.text.now (only_symbols t) (flat_map symbol_places (map symbol_item c.deref.result.now)) (only_symbols c.take_symbols.new.symbols)) c.new-symbols.ensures (c.in_ok-take_symbols.ensures c.args.syntax))) c.in_ok-listed.listed (c.in_ok-listed.ensures.taken c.args.syntax) c.in_err-taken.field-0.0 refused)

pub returns-clause-naming : goal.returns-clause-naming
returns-clause-naming c =
    let known = knowing c.take_items.new.symbols c.in_ok-listed.listed c.take_items.new.operations.items in
    let items = subst (λ xs. TakesAll (notation_of c.args.syntax) c.args.text.now (no_operations c.take_symbols.new.symbols c.in_ok-listed.listed) (flat_map item_places (map equation_item xs)) known) c.deref-2.ensures.value (subst (λ ops. TakesAll (notation_of c.args.syntax) c.args.text.now (knowing c.take_symbols.new.symbols c.in_ok-listed.listed ops) (flat_map item_places (map equation_item c.deref-2.result.now)) known) c.new-operations.ensures.items c.in_ok-taken.ensures.taking) in
    all_named (notation_of c.args.syntax) c.args.text.now (file c.args.written.now) c.take_symbols.new.symbols (subst (λ xs. TakesAll (notation_of c.args.syntax) c.args.text.now nothing_known (flat_map symbol_places (map symbol_item xs)) (only_symbols c.take_symbols.new.symbols)) c.deref.ensures.value (subst (λ t. TakesAll (notation_of c.args.syntax) c.args.text.now (only_symbols t) (flat_map symbol_places (map symbol_item c.deref.result.now)) (only_symbols c.take_symbols.new.symbols)) c.new-symbols.ensures (c.in_ok-take_symbols.ensures c.args.syntax))) c.in_ok-listed.listed (c.in_ok-listed.ensures.taken c.args.syntax) known items

pub take_items-requires-clause-room : goal.take_items-requires-clause-room
take_items-requires-clause-room c =
    let few : length c.args.written.now.items.items ≤ length c.args.text.now = simp length-map at (file_few c.args.text.now (lawful_of c.args.syntax) (file c.args.written.now) c.requires.reads.lexemes c.requires.reads.end c.requires.reads.scanned c.requires.reads.spelled).items in
    let same = ap length c.deref-2.ensures.value in
    omega (arith, few, same, c.requires.short)

pub returns-clause-items : goal.returns-clause-items
returns-clause-items c = subst (λ xs. MeanItems (notation_of c.args.syntax) c.args.text.now (knowing c.take_items.new.symbols c.in_ok-listed.listed c.take_items.new.operations.items) 1 (map equation_item xs) (map (numbered_read c.take_items.new.symbols) c.in_ok-taken.taken.items.items)) c.deref-2.ensures.value (c.in_ok-taken.ensures.items c.take_items.new.symbols c.take_items.new.operations.items (keeps_refl _))

pub returns-clause-limits : goal.returns-clause-limits
returns-clause-limits c = subst (λ xs. AnswersLimits (notation_of c.args.syntax) c.args.text.now (knowing c.take_items.new.symbols c.in_ok-listed.listed c.take_items.new.operations.items) (all_limits 0 (flat_map equation_of (map equation_item xs))) c.in_ok-taken.taken.fault) c.deref-2.ensures.value (c.in_ok-taken.ensures.limits c.take_items.new.symbols c.take_items.new.operations.items (keeps_refl _))

pub returns-clause-live : goal.returns-clause-live
returns-clause-live c = c.in_ok-taken.ensures.live c.take_items.new.symbols c.take_items.new.operations.items (keeps_refl _)
