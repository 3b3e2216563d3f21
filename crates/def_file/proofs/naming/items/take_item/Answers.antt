use Rattle.std.proofs.Common.{◌≡◌, Err, rules, map, sym, subst}
use Rattle.def_file.specs.declared.tree.EquationItem.{EquationItem}
use Rattle.def_file.specs.Views.{sides, equation_item}
use Rattle.def_file.specs.Names.{Operation, equation_places, item_places, TakesAll}
use Rattle.def_file.specs.Naming.{IsTaking, knowing}
use Rattle.def_file.specs.declared.naming.items.TakenItem.TheVariants as taking
use Rattle.def_file.specs.AsRead.{equation_read, IsLiveWritten}
use Rattle.def_file.specs.Definitions.{MeansEquation}
use Rattle.def_file.specs.Taking.{TakesWritten, TakesItem}
use Rattle.def_file.proofs.Meant.{equation_means, equation_live}
use Rattle.std.proofs.lemmas.Result.{err_from_is_err_and}
use Rattle.def_file.specs.declared.error.FileError.TheVariants.{NoMemory}
use Rattle.def_file.proofs.Namings.{taking_refused}
use Rattle.def_file.specs.Notations.{notation_of}
use Rattle.def_file.proofs.naming.items.take_item.Goals as goal

pub returns-in_err-taken-in-Equates-clause-taking : goal.returns-in_err-taken-in-Equates-clause-taking
returns-in_err-taken-in-Equates-clause-taking c =
    let same : c.from_residual.result ≡ Err c.in_err-taken-in-Equates.field-0.0 = search rules in
    let taking = taking_refused (notation_of c.args.syntax) c.args.text.now (knowing c.args.symbols.now c.args.listed.now c.args.operations.now.items) (knowing c.take_equation.new.symbols c.args.listed.now c.args.operations.now.items) (equation_places (sides c.in-Equates.equation)) c.from_residual.result c.in_err-taken-in-Equates.field-0.0 same (c.in_err-taken-in-Equates.ensures.taking c.args.operations.now.items) in
    subst (λ (i : EquationItem). IsTaking (notation_of c.args.syntax) c.args.text.now (knowing c.args.symbols.now c.args.listed.now c.args.operations.now.items) (item_places (equation_item i)) (knowing c.take_equation.new.symbols c.args.listed.now c.args.operations.now.items) c.from_residual.result) (sym c.in-Equates.is) taking

pub returns-in_ok-written-in-Equates-clause-taking : goal.returns-in_ok-written-in-Equates-clause-taking
returns-in_ok-written-in-Equates-clause-taking c = subst (λ (i : EquationItem). TakesAll (notation_of c.args.syntax) c.args.text.now (knowing c.args.symbols.now c.args.listed.now c.args.operations.now.items) (item_places (equation_item i)) (knowing c.take_equation.new.symbols c.args.listed.now c.args.operations.now.items)) (sym c.in-Equates.is) (c.in_ok-taken-in-Equates.ensures.taking c.args.operations.now.items)

pub returns-in_err-taken-in-Includes-clause-taking : goal.returns-in_err-taken-in-Includes-clause-taking
returns-in_err-taken-in-Includes-clause-taking c =
    let same : c.from_residual-in_err-taken-in-Includes.result ≡ Err c.in_err-taken-in-Includes.field-0.0 = search rules in
    let taking = taking_refused (notation_of c.args.syntax) c.args.text.now (knowing c.args.symbols.now c.args.listed.now c.args.operations.now.items) (knowing c.args.symbols.now c.args.listed.now c.take_operations.new.operations.items) (map Operation c.deref.result.now) c.from_residual-in_err-taken-in-Includes.result c.in_err-taken-in-Includes.field-0.0 same (c.in_err-taken-in-Includes.ensures.taking c.args.syntax c.args.listed.now) in
    let listed = subst (λ names. IsTaking (notation_of c.args.syntax) c.args.text.now (knowing c.args.symbols.now c.args.listed.now c.args.operations.now.items) (map Operation names) (knowing c.args.symbols.now c.args.listed.now c.take_operations.new.operations.items) c.from_residual-in_err-taken-in-Includes.result) c.deref.ensures.value taking in
    subst (λ (i : EquationItem). IsTaking (notation_of c.args.syntax) c.args.text.now (knowing c.args.symbols.now c.args.listed.now c.args.operations.now.items) (item_places (equation_item i)) (knowing c.args.symbols.now c.args.listed.now c.take_operations.new.operations.items) c.from_residual-in_err-taken-in-Includes.result) (sym c.in-Includes.is) listed

pub returns-in_ok-taken-in-Includes-clause-taking : goal.returns-in_ok-taken-in-Includes-clause-taking
returns-in_ok-taken-in-Includes-clause-taking c =
    let listed = subst (λ names. TakesAll (notation_of c.args.syntax) c.args.text.now (knowing c.args.symbols.now c.args.listed.now c.args.operations.now.items) (map Operation names) (knowing c.args.symbols.now c.args.listed.now c.take_operations.new.operations.items)) c.deref.ensures.value (c.in_ok-taken-in-Includes.ensures.taking c.args.syntax c.args.listed.now) in
    subst (λ (i : EquationItem). TakesAll (notation_of c.args.syntax) c.args.text.now (knowing c.args.symbols.now c.args.listed.now c.args.operations.now.items) (item_places (equation_item i)) (knowing c.args.symbols.now c.args.listed.now c.take_operations.new.operations.items)) (sym c.in-Includes.is) listed

pub returns-in_err-written-in-Equates-clause-taking : goal.returns-in_err-written-in-Equates-clause-taking
returns-in_err-written-in-Equates-clause-taking c =
    let p = err_from_is_err_and c.from_residual-in_err-written-in-Equates.result c.from_residual-in_err-written-in-Equates.ensures.1 in
    let same : c.from_residual-in_err-written-in-Equates.result ≡ Err NoMemory = cc (p.1, p.2) in
    taking_refused (notation_of c.args.syntax) c.args.text.now (knowing c.args.symbols.now c.args.listed.now c.args.operations.now.items) (knowing c.take_equation.new.symbols c.args.listed.now c.args.operations.now.items) (item_places (equation_item c.args.item.now)) c.from_residual-in_err-written-in-Equates.result NoMemory same tt

-- the equation whose variables stand with their classes, and the first limit that it passes
pub returns-in_ok-written-in-Equates-clause-item : goal.returns-in_ok-written-in-Equates-clause-item
returns-in_ok-written-in-Equates-clause-item c = λ later operations k.
    let known = knowing later c.args.listed.now operations in
    let taken = c.in_ok-taken-in-Equates.ensures.equation later operations k in
    let answers = c.equation_fault-fault.ensures c.args.syntax c.args.text.now known later taken in
    let s = sides c.in-Equates.equation in
    let means = subst (λ e. MeansEquation (notation_of c.args.syntax) c.args.text.now known s (equation_read later e)) (sym c.in_ok-written-in-Equates.ensures) (equation_means (notation_of c.args.syntax) c.args.text.now known later s c.in_ok-taken-in-Equates.taken taken) in
    let live = subst (IsLiveWritten later) (sym c.in_ok-written-in-Equates.ensures) (equation_live (notation_of c.args.syntax) c.args.text.now known later s c.in_ok-taken-in-Equates.taken taken) in
    let written : TakesWritten (notation_of c.args.syntax) c.args.text.now known later c.args.before s c.in_ok-written-in-Equates.written c.equation_fault-fault.result = record { means = means; live = live; limits = answers } in
    subst (λ (i : EquationItem). TakesItem (notation_of c.args.syntax) c.args.text.now known later c.args.before (equation_item i) (taking.Equates c.in_ok-written-in-Equates.written c.equation_fault-fault.result)) (sym c.in-Equates.is) written
