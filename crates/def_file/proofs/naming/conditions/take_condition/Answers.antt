use Rattle.std.proofs.Common.{◌≡◌, ◌∷◌, [], Err, rules, refl, sym, append-nil}
use Rattle.def_file.specs.Views.{restriction}
use Rattle.def_file.specs.Names.{Qualified, restriction_places}
use Rattle.def_file.specs.Naming.{knowing}
use Rattle.def_file.proofs.Namings.{none_taken, more_taken, one_refused, taking_refused}
use Rattle.def_file.specs.Notations.{notation_of}
use Rattle.def_file.proofs.naming.conditions.take_condition.Goals as goal

pub returns-in_err-variable-clause-taking : goal.returns-in_err-variable-clause-taking
returns-in_err-variable-clause-taking c = λ operations before is.
    let same : c.from_residual.result ≡ Err c.in_err-variable.field-0.0 = search rules in
    taking_refused (notation_of c.args.syntax) c.args.text.now (knowing c.args.symbols.now c.args.listed.now operations) (knowing c.args.symbols.now c.args.listed.now operations) (Qualified before c.args.condition.now.variable ∷ restriction_places (restriction c.args.condition.now.restriction)) c.from_residual.result c.in_err-variable.field-0.0 same (one_refused (notation_of c.args.syntax) c.args.text.now (knowing c.args.symbols.now c.args.listed.now operations) (knowing c.args.symbols.now c.args.listed.now operations) (Qualified before c.args.condition.now.variable ∷ restriction_places (restriction c.args.condition.now.restriction)) (Qualified before c.args.condition.now.variable ∷ restriction_places (restriction c.args.condition.now.restriction)) (Qualified before c.args.condition.now.variable ∷ []) (restriction_places (restriction c.args.condition.now.restriction)) refl (none_taken (notation_of c.args.syntax) c.args.text.now (knowing c.args.symbols.now c.args.listed.now operations) (Qualified before c.args.condition.now.variable ∷ restriction_places (restriction c.args.condition.now.restriction))) c.in_err-variable.field-0.0 (c.in_err-variable.ensures.taking c.args.syntax c.args.symbols.now operations before is))

pub returns-in_err-choice-clause-taking : goal.returns-in_err-choice-clause-taking
returns-in_err-choice-clause-taking c = λ operations before is.
    let same : c.from_residual-in_err-choice.result ≡ Err c.in_err-choice.field-0.0 = search rules in
    let under = more_taken (notation_of c.args.syntax) c.args.text.now (knowing c.args.symbols.now c.args.listed.now operations) (knowing c.args.symbols.now c.args.listed.now operations) (Qualified before c.args.condition.now.variable ∷ restriction_places (restriction c.args.condition.now.restriction)) (Qualified before c.args.condition.now.variable ∷ restriction_places (restriction c.args.condition.now.restriction)) (Qualified before c.args.condition.now.variable ∷ []) (restriction_places (restriction c.args.condition.now.restriction)) refl (none_taken (notation_of c.args.syntax) c.args.text.now (knowing c.args.symbols.now c.args.listed.now operations) (Qualified before c.args.condition.now.variable ∷ restriction_places (restriction c.args.condition.now.restriction))) (knowing c.args.symbols.now c.args.listed.now operations) (c.in_ok-variable.ensures.taking c.args.syntax c.args.symbols.now operations before is) in
    taking_refused (notation_of c.args.syntax) c.args.text.now (knowing c.args.symbols.now c.args.listed.now operations) (knowing c.take_restriction.new.symbols c.args.listed.now operations) (Qualified before c.args.condition.now.variable ∷ restriction_places (restriction c.args.condition.now.restriction)) c.from_residual-in_err-choice.result c.in_err-choice.field-0.0 same (one_refused (notation_of c.args.syntax) c.args.text.now (knowing c.args.symbols.now c.args.listed.now operations) (knowing c.args.symbols.now c.args.listed.now operations) (Qualified before c.args.condition.now.variable ∷ restriction_places (restriction c.args.condition.now.restriction)) (restriction_places (restriction c.args.condition.now.restriction)) (restriction_places (restriction c.args.condition.now.restriction)) [] (sym (append-nil (restriction_places (restriction c.args.condition.now.restriction)))) under c.in_err-choice.field-0.0 (c.in_err-choice.ensures.taking operations))

pub returns-clause-taking : goal.returns-clause-taking
returns-clause-taking c = λ operations before is.
    let under = more_taken (notation_of c.args.syntax) c.args.text.now (knowing c.args.symbols.now c.args.listed.now operations) (knowing c.args.symbols.now c.args.listed.now operations) (Qualified before c.args.condition.now.variable ∷ restriction_places (restriction c.args.condition.now.restriction)) (Qualified before c.args.condition.now.variable ∷ restriction_places (restriction c.args.condition.now.restriction)) (Qualified before c.args.condition.now.variable ∷ []) (restriction_places (restriction c.args.condition.now.restriction)) refl (none_taken (notation_of c.args.syntax) c.args.text.now (knowing c.args.symbols.now c.args.listed.now operations) (Qualified before c.args.condition.now.variable ∷ restriction_places (restriction c.args.condition.now.restriction))) (knowing c.args.symbols.now c.args.listed.now operations) (c.in_ok-variable.ensures.taking c.args.syntax c.args.symbols.now operations before is) in
    under.takes (knowing c.take_restriction.new.symbols c.args.listed.now operations) (c.in_ok-choice.ensures.taking operations)
