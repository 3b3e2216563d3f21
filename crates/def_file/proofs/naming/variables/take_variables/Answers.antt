use Rattle.std.proofs.Common.{◌≡◌, ◌∙◌, ◌∷◌, [], Err, rules, map, ap, get_or, subst, arith}
use Rattle.std.proofs.lemmas.List.{drop_all}
use Rattle.def_file.specs.Names.{Variable}
use Rattle.def_file.specs.Naming.{ArePlaced, no_operations}
use Rattle.def_file.proofs.Namings.{no_token, drop-next, more_taken, one_refused, all_taken, taking_refused}
use Rattle.def_file.specs.Notations.{notation_of}
use Rattle.def_file.proofs.naming.variables.take_variables.Goals as goal

pub take_variable-requires-clause-placed : goal.take_variable-requires-clause-placed
take_variable-requires-clause-placed c =
    let next = ap (map Variable) (drop-next c.args.names.now c.loop-name.name-index no_token c.loop-name-test.true) in
    (subst (ArePlaced c.args.text.now) next c.loop-name.invariant.placed).0

pub take_variable-requires-clause-room : goal.take_variable-requires-clause-room
take_variable-requires-clause-room c = omega (arith, c.loop-name.invariant.few, c.loop-name-test.true, c.requires.room)

pub returns-in_err-take_variable-clause-taking : goal.returns-in_err-take_variable-clause-taking
returns-in_err-take_variable-clause-taking c = λ syntax.
    let same : c.from_residual.result ≡ Err c.in_err-take_variable.field-0.0 = search rules in
    let next = ap (map Variable) (drop-next c.args.names.now c.loop-name.name-index no_token c.loop-name-test.true) in
    taking_refused (notation_of syntax) c.args.text.now _ _ _ _ c.in_err-take_variable.field-0.0 same (one_refused (notation_of syntax) c.args.text.now _ (no_operations c.args.symbols.now c.loop-name.listed) _ _ (Variable (get_or c.args.names.now c.loop-name.name-index no_token) ∷ []) _ next (c.loop-name.invariant.under_way syntax) c.in_err-take_variable.field-0.0 (c.in_err-take_variable.ensures.taking syntax))

pub loop-name-preserved : goal.loop-name-preserved
loop-name-preserved c =
    let next = ap (map Variable) (drop-next c.args.names.now c.loop-name.name-index no_token c.loop-name-test.true) in
    record {
      under_way = λ syntax. more_taken (notation_of syntax) c.args.text.now _ (no_operations c.args.symbols.now c.loop-name.listed) _ _ (Variable (get_or c.args.names.now c.loop-name.name-index no_token) ∷ []) _ next (c.loop-name.invariant.under_way syntax) _ (c.in_ok-take_variable.ensures.taking syntax);
      placed = (subst (ArePlaced c.args.text.now) next c.loop-name.invariant.placed).1;
      few = omega (arith, c.take_variable.ensures.few, c.loop-name.invariant.few);
      class_names = c.take_variable.ensures.class_names ∙ c.loop-name.invariant.class_names;
      classes = c.take_variable.ensures.classes ∙ c.loop-name.invariant.classes;
    }

pub returns-clause-taking : goal.returns-clause-taking
returns-clause-taking c = λ syntax. all_taken (notation_of syntax) c.args.text.now _ _ _ _ (ap (map Variable) (drop_all c.loop-name.name-index c.args.names.now c.loop-name-test.false)) (c.loop-name.invariant.under_way syntax)
