use Rattle.std.proofs.Common.{◌≡◌, true, false, not, Some, None, sym, subst}
use Rattle.std.specs.Prelude.{◌&&◌}
use Rattle.term_lex.specs.Lexemes.{IsFirstFault, Plainly}
use Rattle.standmath.specs.Terms.{IsSomeTerm}
use Rattle.standmath.specs.Steps.{step_of, ends_term}
use Rattle.standmath.specs.Mentions.{is_closed}
use Rattle.standmath.proofs.Reached.{reached_start, reached_step, ends_before, ends_at, mentioned, fault_at_token, fault_in_token}
use Rattle.standmath.proofs.scan.scan_term.Goals as goal

pub tokens-init : goal.tokens-init
tokens-init c = reached_start c.args.text.now c.args.at c.new-met.result c.requires c.new-met.ensures

pub tokens-preserved : goal.tokens-preserved
tokens-preserved c =
    let step : step_of c.tokens.place c.in-Ok.token.kind (not (is_closed c.tokens.met.open_heads)) ≡ Some c.in-Some.next = cc in
    (reached_step _ _ _ _ _ c.tokens.invariant c.in-Some.next c.take.new.self c.in-Ok.token c.in-Ok.ensures.first step c.in_ok-take-in-Some.ensures).0

pub returns-in-None-clause-ok : goal.returns-in-None-clause-ok
returns-in-None-clause-ok c =
    let stuck : step_of c.tokens.place c.in-Ok.token.kind (not (is_closed c.tokens.met.open_heads)) ≡ None = cc in
    let whole : (is_closed c.tokens.met.open_heads && ends_term c.tokens.place) ≡ true = cc in
    mentioned _ _ _ _ _ c.tokens.invariant c.finish.result.items c.finish.ensures whole (ends_before _ _ _ _ _ c.tokens.invariant c.in-Ok.token c.in-Ok.ensures.first stuck)

pub returns-in-None-2-clause-err : goal.returns-in-None-2-clause-err
returns-in-None-2-clause-err c =
    let stuck : step_of c.tokens.place c.in-Ok.token.kind (not (is_closed c.tokens.met.open_heads)) ≡ None = cc in
    let unfinished : (is_closed c.tokens.met.open_heads && ends_term c.tokens.place) ≡ false = cc in
    subst (IsFirstFault Plainly IsSomeTerm c.args.text.now c.args.at) (sym c.misplaced.ensures) (fault_at_token _ _ _ _ _ c.tokens.invariant c.in-Ok.token unfinished c.in-Ok.ensures.first stuck)

pub returns-in-Err-clause-ok : goal.returns-in-Err-clause-ok
returns-in-Err-clause-ok c =
    let whole : (is_closed c.tokens.met.open_heads && ends_term c.tokens.place) ≡ true = cc in
    mentioned _ _ _ _ _ c.tokens.invariant c.finish-in-Err.result.items c.finish-in-Err.ensures whole (ends_at _ _ _ _ _ c.tokens.invariant c.in-Err.field-0 c.in-Err.ensures.first)

pub returns-in-Err-2-clause-err : goal.returns-in-Err-2-clause-err
returns-in-Err-2-clause-err c =
    let unfinished : (is_closed c.tokens.met.open_heads && ends_term c.tokens.place) ≡ false = cc in
    fault_in_token _ _ _ _ _ c.tokens.invariant c.in-Err.field-0 unfinished c.in-Err.ensures.first
