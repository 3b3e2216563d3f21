use Rattle.std.proofs.Common.{◌≡◌, ◌∷◌, [], Err, rules, refl, sym, map, append-nil, subst}
use Rattle.def_file.specs.Views.{condition, sides}
use Rattle.def_file.specs.Errors.{IfRefused}
use Rattle.def_file.specs.Names.{Term, condition_places, equation_places, TakesAll, RefusesFirst}
use Rattle.def_file.specs.Naming.{knowing}
use Rattle.def_file.specs.Pairs.{AreRelated}
use Rattle.def_file.specs.Taking.{TakesCondition}
use Rattle.def_file.specs.Trees.{Condition as Written}
use Rattle.def_file.specs.declared.naming.conditions.TakenCondition.{TakenCondition}
use Rattle.symbol_table.proofs.Keeping.{keeps_trans}
use Rattle.def_file.proofs.Namings.{none_taken, more_taken, one_refused, taking_refused}
use Rattle.def_file.specs.Notations.{notation_of}
use Rattle.def_file.proofs.naming.items.take_equation.Goals as goal

pub returns-in_err-left-clause-taking : goal.returns-in_err-left-clause-taking
returns-in_err-left-clause-taking c = λ operations.
    let same : c.from_residual.result ≡ Err c.in_err-left.field-0.0 = search rules in
    taking_refused (notation_of c.args.syntax) c.args.text.now (knowing c.args.symbols.now c.args.listed.now operations) (knowing c.take_term.new.symbols c.args.listed.now operations) (equation_places (sides c.args.equation.now)) c.from_residual.result c.in_err-left.field-0.0 same (one_refused (notation_of c.args.syntax) c.args.text.now (knowing c.args.symbols.now c.args.listed.now operations) (knowing c.args.symbols.now c.args.listed.now operations) (equation_places (sides c.args.equation.now)) (equation_places (sides c.args.equation.now)) (Term c.args.equation.now.left ∷ []) (Term c.args.equation.now.right ∷ condition_places [] (map condition c.args.equation.now.conditions.items)) refl (none_taken (notation_of c.args.syntax) c.args.text.now (knowing c.args.symbols.now c.args.listed.now operations) (equation_places (sides c.args.equation.now))) c.in_err-left.field-0.0 (c.in_err-left.ensures.taking operations))

pub returns-in_err-right-clause-taking : goal.returns-in_err-right-clause-taking
returns-in_err-right-clause-taking c = λ operations.
    let same : c.from_residual-in_err-right.result ≡ Err c.in_err-right.field-0.0 = search rules in
    let under = more_taken (notation_of c.args.syntax) c.args.text.now (knowing c.args.symbols.now c.args.listed.now operations) (knowing c.args.symbols.now c.args.listed.now operations) (equation_places (sides c.args.equation.now)) (equation_places (sides c.args.equation.now)) (Term c.args.equation.now.left ∷ []) (Term c.args.equation.now.right ∷ condition_places [] (map condition c.args.equation.now.conditions.items)) refl (none_taken (notation_of c.args.syntax) c.args.text.now (knowing c.args.symbols.now c.args.listed.now operations) (equation_places (sides c.args.equation.now))) (knowing c.take_term.new.symbols c.args.listed.now operations) (c.in_ok-left.ensures.taking operations) in
    taking_refused (notation_of c.args.syntax) c.args.text.now (knowing c.args.symbols.now c.args.listed.now operations) (knowing c.take_term-2.new.symbols c.args.listed.now operations) (equation_places (sides c.args.equation.now)) c.from_residual-in_err-right.result c.in_err-right.field-0.0 same (one_refused (notation_of c.args.syntax) c.args.text.now (knowing c.args.symbols.now c.args.listed.now operations) (knowing c.take_term.new.symbols c.args.listed.now operations) (equation_places (sides c.args.equation.now)) (Term c.args.equation.now.right ∷ condition_places [] (map condition c.args.equation.now.conditions.items)) (Term c.args.equation.now.right ∷ []) (condition_places [] (map condition c.args.equation.now.conditions.items)) refl under c.in_err-right.field-0.0 (c.in_err-right.ensures.taking operations))

pub returns-in_err-conditions-clause-taking : goal.returns-in_err-conditions-clause-taking
returns-in_err-conditions-clause-taking c = λ operations.
    let same : c.from_residual-in_err-conditions.result ≡ Err c.in_err-conditions.field-0.0 = search rules in
    let under = more_taken (notation_of c.args.syntax) c.args.text.now (knowing c.args.symbols.now c.args.listed.now operations) (knowing c.args.symbols.now c.args.listed.now operations) (equation_places (sides c.args.equation.now)) (equation_places (sides c.args.equation.now)) (Term c.args.equation.now.left ∷ []) (Term c.args.equation.now.right ∷ condition_places [] (map condition c.args.equation.now.conditions.items)) refl (none_taken (notation_of c.args.syntax) c.args.text.now (knowing c.args.symbols.now c.args.listed.now operations) (equation_places (sides c.args.equation.now))) (knowing c.take_term.new.symbols c.args.listed.now operations) (c.in_ok-left.ensures.taking operations) in
    let more = more_taken (notation_of c.args.syntax) c.args.text.now (knowing c.args.symbols.now c.args.listed.now operations) (knowing c.take_term.new.symbols c.args.listed.now operations) (equation_places (sides c.args.equation.now)) (Term c.args.equation.now.right ∷ condition_places [] (map condition c.args.equation.now.conditions.items)) (Term c.args.equation.now.right ∷ []) (condition_places [] (map condition c.args.equation.now.conditions.items)) refl under (knowing c.take_term-2.new.symbols c.args.listed.now operations) (c.in_ok-right.ensures.taking operations) in
    let taking = subst (λ cs. IfRefused (RefusesFirst (notation_of c.args.syntax) c.args.text.now (knowing c.take_term-2.new.symbols c.args.listed.now operations) (condition_places [] (map condition cs))) c.in_err-conditions.field-0.0) c.deref.ensures.value (c.in_err-conditions.ensures.taking operations) in
    taking_refused (notation_of c.args.syntax) c.args.text.now (knowing c.args.symbols.now c.args.listed.now operations) (knowing c.take_conditions.new.symbols c.args.listed.now operations) (equation_places (sides c.args.equation.now)) c.from_residual-in_err-conditions.result c.in_err-conditions.field-0.0 same (one_refused (notation_of c.args.syntax) c.args.text.now (knowing c.args.symbols.now c.args.listed.now operations) (knowing c.take_term-2.new.symbols c.args.listed.now operations) (equation_places (sides c.args.equation.now)) (condition_places [] (map condition c.args.equation.now.conditions.items)) (condition_places [] (map condition c.args.equation.now.conditions.items)) [] (sym (append-nil (condition_places [] (map condition c.args.equation.now.conditions.items)))) more c.in_err-conditions.field-0.0 taking)

pub returns-clause-taking : goal.returns-clause-taking
returns-clause-taking c = λ operations.
    let under = more_taken (notation_of c.args.syntax) c.args.text.now (knowing c.args.symbols.now c.args.listed.now operations) (knowing c.args.symbols.now c.args.listed.now operations) (equation_places (sides c.args.equation.now)) (equation_places (sides c.args.equation.now)) (Term c.args.equation.now.left ∷ []) (Term c.args.equation.now.right ∷ condition_places [] (map condition c.args.equation.now.conditions.items)) refl (none_taken (notation_of c.args.syntax) c.args.text.now (knowing c.args.symbols.now c.args.listed.now operations) (equation_places (sides c.args.equation.now))) (knowing c.take_term.new.symbols c.args.listed.now operations) (c.in_ok-left.ensures.taking operations) in
    let more = more_taken (notation_of c.args.syntax) c.args.text.now (knowing c.args.symbols.now c.args.listed.now operations) (knowing c.take_term.new.symbols c.args.listed.now operations) (equation_places (sides c.args.equation.now)) (Term c.args.equation.now.right ∷ condition_places [] (map condition c.args.equation.now.conditions.items)) (Term c.args.equation.now.right ∷ []) (condition_places [] (map condition c.args.equation.now.conditions.items)) refl under (knowing c.take_term-2.new.symbols c.args.listed.now operations) (c.in_ok-right.ensures.taking operations) in
    more.takes (knowing c.take_conditions.new.symbols c.args.listed.now operations) (subst (λ cs. TakesAll (notation_of c.args.syntax) c.args.text.now (knowing c.take_term-2.new.symbols c.args.listed.now operations) (condition_places [] (map condition cs)) (knowing c.take_conditions.new.symbols c.args.listed.now operations)) c.deref.ensures.value (c.in_ok-conditions.ensures.taking operations))

pub returns-in_err-right-clause-keeps : goal.returns-in_err-right-clause-keeps
returns-in_err-right-clause-keeps c = keeps_trans _ _ _ c.take_term.ensures.keeps c.take_term-2.ensures.keeps

pub returns-in_err-conditions-clause-keeps : goal.returns-in_err-conditions-clause-keeps
returns-in_err-conditions-clause-keeps c = keeps_trans _ _ _ c.take_term.ensures.keeps (keeps_trans _ _ _ c.take_term-2.ensures.keeps c.take_conditions.ensures.keeps)

pub returns-clause-keeps : goal.returns-clause-keeps
returns-clause-keeps c = keeps_trans _ _ _ c.take_term.ensures.keeps (keeps_trans _ _ _ c.take_term-2.ensures.keeps c.take_conditions.ensures.keeps)

pub returns-clause-equation : goal.returns-clause-equation
returns-clause-equation c = λ later operations k.
    let behind_right = keeps_trans _ _ _ c.take_conditions.ensures.keeps k in
    let behind_left = keeps_trans _ _ _ c.take_term-2.ensures.keeps behind_right in
    record {
      left = c.in_ok-left.ensures.pattern later operations behind_left;
      right = c.in_ok-right.ensures.pattern later operations behind_right;
      conditions = subst (λ cs. AreRelated (λ (w : Written) (t : TakenCondition). TakesCondition (notation_of c.args.syntax) c.args.text.now (knowing later c.args.listed.now operations) later w.variable w.restriction t) (map condition cs) c.in_ok-conditions.conditions.items) c.deref.ensures.value (c.in_ok-conditions.ensures.conditions later operations k);
    }
