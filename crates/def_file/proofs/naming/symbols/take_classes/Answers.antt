use Rattle.std.proofs.Common.{◌≡◌, ◌∷◌, [], ◌∙◌, Err, rules, map, ap, get_or, subst}
use Rattle.std.proofs.lemmas.List.{drop_all}
use Rattle.def_file.specs.Names.{Class}
use Rattle.def_file.specs.Naming.{ArePlaced, only_symbols}
use Rattle.def_file.proofs.Namings.{no_token, drop-next, more_taken, one_refused, all_taken, taking_refused}
use Rattle.def_file.specs.Notations.{notation_of}
use Rattle.def_file.proofs.naming.symbols.take_classes.Goals as goal

pub take_class-requires : goal.take_class-requires
take_class-requires c =
    let next = ap (map Class) (drop-next c.args.names.now c.loop-name.name-index no_token c.loop-name-test.true) in
    record { placed = (subst (ArePlaced c.args.text.now) next c.loop-name.invariant.placed).0 }

pub returns-in_err-take_class-clause-taking : goal.returns-in_err-take_class-clause-taking
returns-in_err-take_class-clause-taking c = λ syntax.
    let same : c.from_residual.result ≡ Err c.in_err-take_class.field-0.0 = search rules in
    let next = ap (map Class) (drop-next c.args.names.now c.loop-name.name-index no_token c.loop-name-test.true) in
    taking_refused (notation_of syntax) c.args.text.now _ _ _ _ c.in_err-take_class.field-0.0 same (one_refused (notation_of syntax) c.args.text.now _ (only_symbols c.loop-name.symbols) _ _ (Class (get_or c.args.names.now c.loop-name.name-index no_token) ∷ []) _ next (c.loop-name.invariant.under_way syntax) c.in_err-take_class.field-0.0 (c.in_err-take_class.ensures.taking syntax))

pub loop-name-preserved : goal.loop-name-preserved
loop-name-preserved c =
    let next = ap (map Class) (drop-next c.args.names.now c.loop-name.name-index no_token c.loop-name-test.true) in
    record {
      under_way = λ syntax. more_taken (notation_of syntax) c.args.text.now _ (only_symbols c.loop-name.symbols) _ _ (Class (get_or c.args.names.now c.loop-name.name-index no_token) ∷ []) _ next (c.loop-name.invariant.under_way syntax) _ (c.in_ok-take_class.ensures.taking syntax);
      placed = (subst (ArePlaced c.args.text.now) next c.loop-name.invariant.placed).1;
      few = c.take_class.ensures.few ∙ c.loop-name.invariant.few;
    }

pub returns-clause-taking : goal.returns-clause-taking
returns-clause-taking c = λ syntax. all_taken (notation_of syntax) c.args.text.now _ _ _ _ (ap (map Class) (drop_all c.loop-name.name-index c.args.names.now c.loop-name-test.false)) (c.loop-name.invariant.under_way syntax)
