use Rattle.std.proofs.Common.{◌≡◌, ◌∷◌, [], ◌∙◌, Err, rules, map, ap, get_or, subst}
use Rattle.std.proofs.lemmas.List.{drop_all}
use Rattle.def_file.specs.Names.{Member}
use Rattle.def_file.specs.Naming.{ArePlaced, no_operations}
use Rattle.def_file.proofs.Namings.{no_token, drop-next, more_taken, one_refused, all_taken, taking_refused}
use Rattle.def_file.specs.Notations.{notation_of}
use Rattle.def_file.proofs.naming.members.take_members.Goals as goal

pub take_member-requires-clause-placed : goal.take_member-requires-clause-placed
take_member-requires-clause-placed c =
    let next = ap (map (Member c.args.class)) (drop-next c.args.members.now c.loop-member.member-index no_token c.loop-member-test.true) in
    (subst (ArePlaced c.args.text.now) next c.loop-member.invariant.placed).0

pub returns-in_err-take_member-clause-taking : goal.returns-in_err-take_member-clause-taking
returns-in_err-take_member-clause-taking c = λ syntax.
    let same : c.from_residual.result ≡ Err c.in_err-take_member.field-0.0 = search rules in
    let next = ap (map (Member c.args.class)) (drop-next c.args.members.now c.loop-member.member-index no_token c.loop-member-test.true) in
    taking_refused (notation_of syntax) c.args.text.now _ _ _ _ c.in_err-take_member.field-0.0 same (one_refused (notation_of syntax) c.args.text.now _ (no_operations c.args.symbols.now c.loop-member.listed) _ _ (Member c.args.class (get_or c.args.members.now c.loop-member.member-index no_token) ∷ []) _ next (c.loop-member.invariant.under_way syntax) c.in_err-take_member.field-0.0 (c.in_err-take_member.ensures.taking syntax))

pub loop-member-preserved : goal.loop-member-preserved
loop-member-preserved c =
    let next = ap (map (Member c.args.class)) (drop-next c.args.members.now c.loop-member.member-index no_token c.loop-member-test.true) in
    record {
      under_way = λ syntax. more_taken (notation_of syntax) c.args.text.now _ (no_operations c.args.symbols.now c.loop-member.listed) _ _ (Member c.args.class (get_or c.args.members.now c.loop-member.member-index no_token) ∷ []) _ next (c.loop-member.invariant.under_way syntax) _ (c.in_ok-take_member.ensures.taking syntax);
      placed = (subst (ArePlaced c.args.text.now) next c.loop-member.invariant.placed).1;
      names = c.take_member.ensures.names ∙ c.loop-member.invariant.names;
      variables = c.take_member.ensures.variables ∙ c.loop-member.invariant.variables;
      len = c.take_member.ensures.len ∙ c.loop-member.invariant.len;
      counted = c.in_ok-take_member.ensures.counted;
      live = λ live. c.in_ok-take_member.ensures.live (c.loop-member.invariant.live live);
    }

pub returns-clause-taking : goal.returns-clause-taking
returns-clause-taking c = λ syntax. all_taken (notation_of syntax) c.args.text.now _ _ _ _ (ap (map (Member c.args.class)) (drop_all c.loop-member.member-index c.args.members.now c.loop-member-test.false)) (c.loop-member.invariant.under_way syntax)
