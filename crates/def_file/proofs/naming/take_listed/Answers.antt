use Rattle.std.proofs.Common.{◌≡◌, ◌∙◌, Err, map, length, ap, sym, subst, arith}
use Rattle.std.proofs.lemmas.Result.{err_from_is_err_and}
use Rattle.std.specs.Prelude.{IfErr}
use Rattle.def_file.specs.Errors.{IfRefused}
use Rattle.def_file.specs.Views.{class_item, file}
use Rattle.def_file.specs.Names.{Variable, classes_places, listed_places, TakesAll, RefusesFirst}
use Rattle.def_file.specs.Naming.{IsPlaced, ArePlaced, only_symbols, no_operations}
use Rattle.def_file.specs.Notations.{notation_of}
use Rattle.def_file.proofs.Namings.{all_split}
use Rattle.def_file.proofs.FileNames.{nothing_listed, classes_refused, variables_refused, all_listed}
use Rattle.def_file.proofs.naming.take_listed.Goals as goal

pub take_class_items-requires-clause-placed : goal.take_class_items-requires-clause-placed
take_class_items-requires-clause-placed c = subst (λ xs. ArePlaced c.args.text.now (classes_places 4 (map class_item xs))) (sym c.deref.ensures.value) (all_split (IsPlaced c.args.text.now) (classes_places 4 (file c.args.written.now).classes) (map Variable (file c.args.written.now).variables) c.requires.placed).0

pub take_variables-requires-clause-placed : goal.take_variables-requires-clause-placed
take_variables-requires-clause-placed c = subst (λ xs. ArePlaced c.args.text.now (map Variable xs)) (sym c.deref-2.ensures.value) (all_split (IsPlaced c.args.text.now) (classes_places 4 (file c.args.written.now).classes) (map Variable (file c.args.written.now).variables) c.requires.placed).1

pub returns-in_err-take_class_items-clause-refused : goal.returns-in_err-take_class_items-clause-refused
returns-in_err-take_class_items-clause-refused c = λ syntax.
    let p = err_from_is_err_and c.from_residual.result c.from_residual.ensures.1 in
    let same : c.from_residual.result ≡ Err c.in_err-take_class_items.field-0.0 = cc (p.1, p.2) in
    let n = notation_of syntax in
    let text = c.args.text.now in
    let known = only_symbols c.args.symbols.now in
    let f = file c.args.written.now in
    let none = nothing_listed c.args.symbols.now (record { class_names = c.new-class_names.result; classes = c.new-classes.result; members = 0; variables = c.new-variables.result }) c.new-class_names.ensures c.new-classes.ensures c.new-variables.ensures in
    let refused = subst (λ xs. IfRefused (RefusesFirst n text known (classes_places 4 (map class_item xs))) c.in_err-take_class_items.field-0.0) c.deref.ensures.value
    (subst (λ k. IfRefused (RefusesFirst n text k (classes_places 4 (map class_item c.deref.result.now))) c.in_err-take_class_items.field-0.0) none (c.in_err-take_class_items.ensures.taking syntax)) in
    subst (λ r. IfErr r (IfRefused (RefusesFirst n text known (listed_places f)))) (sym same) (classes_refused n text f known c.in_err-take_class_items.field-0.0 refused)

pub take_variables-requires-clause-room : goal.take_variables-requires-clause-room
take_variables-requires-clause-room c =
    let same = ap length c.deref-2.ensures.value in
    let none = ap length (c.take_class_items.ensures.variables ∙ c.new-variables.ensures) in
    omega (arith, c.requires.few, same, none, c.requires.short)

pub returns-in_err-take_variables-clause-refused : goal.returns-in_err-take_variables-clause-refused
returns-in_err-take_variables-clause-refused c = λ syntax.
    let p = err_from_is_err_and c.from_residual-in_err-take_variables.result c.from_residual-in_err-take_variables.ensures.1 in
    let same : c.from_residual-in_err-take_variables.result ≡ Err c.in_err-take_variables.field-0.0 = cc (p.1, p.2) in
    let n = notation_of syntax in
    let text = c.args.text.now in
    let known = only_symbols c.args.symbols.now in
    let mid = no_operations c.args.symbols.now c.take_class_items.new.listed in
    let f = file c.args.written.now in
    let none = nothing_listed c.args.symbols.now (record { class_names = c.new-class_names.result; classes = c.new-classes.result; members = 0; variables = c.new-variables.result }) c.new-class_names.ensures c.new-classes.ensures c.new-variables.ensures in
    let classes = subst (λ xs. TakesAll n text known (classes_places 4 (map class_item xs)) mid) c.deref.ensures.value
    (subst (λ k. TakesAll n text k (classes_places 4 (map class_item c.deref.result.now)) mid) none (c.in_ok-take_class_items.ensures.taking syntax)) in
    let refused = subst (λ xs. IfRefused (RefusesFirst n text mid (map Variable xs)) c.in_err-take_variables.field-0.0) c.deref-2.ensures.value (c.in_err-take_variables.ensures.taking syntax) in
    subst (λ r. IfErr r (IfRefused (RefusesFirst n text known (listed_places f)))) (sym same) (variables_refused n text f known mid classes c.in_err-take_variables.field-0.0 refused)

pub returns-clause-taken : goal.returns-clause-taken
returns-clause-taken c = λ syntax.
    let n = notation_of syntax in
    let text = c.args.text.now in
    let known = only_symbols c.args.symbols.now in
    let mid = no_operations c.args.symbols.now c.take_class_items.new.listed in
    let new = no_operations c.args.symbols.now c.take_variables.new.listed in
    let f = file c.args.written.now in
    let none = nothing_listed c.args.symbols.now (record { class_names = c.new-class_names.result; classes = c.new-classes.result; members = 0; variables = c.new-variables.result }) c.new-class_names.ensures c.new-classes.ensures c.new-variables.ensures in
    let classes = subst (λ xs. TakesAll n text known (classes_places 4 (map class_item xs)) mid) c.deref.ensures.value
    (subst (λ k. TakesAll n text k (classes_places 4 (map class_item c.deref.result.now)) mid) none (c.in_ok-take_class_items.ensures.taking syntax)) in
    let variables = subst (λ xs. TakesAll n text mid (map Variable xs) new) c.deref-2.ensures.value (c.in_ok-take_variables.ensures.taking syntax) in
    all_listed n text f known mid classes new variables
