use Rattle.std.proofs.Common.{◌≡◌, Err, rules, ◌∷◌, [], map, sym, subst}
use Rattle.def_file.specs.declared.tree.Restriction.{Restriction}
use Rattle.def_file.specs.Views.{restriction}
use Rattle.def_file.specs.Names.{ClassOf, Term, restriction_places}
use Rattle.def_file.specs.Naming.{IsTaking, knowing}
use Rattle.def_file.proofs.Namings.{taking_refused}
use Rattle.def_file.specs.Notations.{notation_of}
use Rattle.def_file.proofs.naming.conditions.take_restriction.Goals as goal

pub returns-in_err-class-in-InClass-clause-taking : goal.returns-in_err-class-in-InClass-clause-taking
returns-in_err-class-in-InClass-clause-taking c = λ operations.
    let same : c.from_residual.result ≡ Err c.in_err-class-in-InClass.field-0.0 = search rules in
    let taking = taking_refused (notation_of c.args.syntax) c.args.text.now (knowing c.args.symbols.now c.args.listed.now operations) (knowing c.args.symbols.now c.args.listed.now operations) (ClassOf c.in-InClass.name ∷ []) c.from_residual.result c.in_err-class-in-InClass.field-0.0 same (c.in_err-class-in-InClass.ensures.taking c.args.syntax operations) in
    subst (λ (r : Restriction). IsTaking (notation_of c.args.syntax) c.args.text.now (knowing c.args.symbols.now c.args.listed.now operations) (restriction_places (restriction r)) (knowing c.args.symbols.now c.args.listed.now operations) c.from_residual.result) (sym c.in-InClass.is) taking

pub returns-in_ok-class-in-InClass-clause-taking : goal.returns-in_ok-class-in-InClass-clause-taking
returns-in_ok-class-in-InClass-clause-taking c = λ operations. rw c.in-InClass.is (c.in_ok-class-in-InClass.ensures.taking c.args.syntax operations)

pub returns-in_err-patterns-in-OneOf-clause-taking : goal.returns-in_err-patterns-in-OneOf-clause-taking
returns-in_err-patterns-in-OneOf-clause-taking c = λ operations.
    let same : c.from_residual-in_err-patterns-in-OneOf.result ≡ Err c.in_err-patterns-in-OneOf.field-0.0 = search rules in
    let new = knowing c.take_terms.new.symbols c.args.listed.now operations in
    let taking = taking_refused (notation_of c.args.syntax) c.args.text.now (knowing c.args.symbols.now c.args.listed.now operations) new (map Term c.deref.result.now) c.from_residual-in_err-patterns-in-OneOf.result c.in_err-patterns-in-OneOf.field-0.0 same (c.in_err-patterns-in-OneOf.ensures.taking operations) in
    let listed = subst (λ terms. IsTaking (notation_of c.args.syntax) c.args.text.now (knowing c.args.symbols.now c.args.listed.now operations) (map Term terms) new c.from_residual-in_err-patterns-in-OneOf.result) c.deref.ensures.value taking in
    subst (λ (r : Restriction). IsTaking (notation_of c.args.syntax) c.args.text.now (knowing c.args.symbols.now c.args.listed.now operations) (restriction_places (restriction r)) new c.from_residual-in_err-patterns-in-OneOf.result) (sym c.in-OneOf.is) listed
