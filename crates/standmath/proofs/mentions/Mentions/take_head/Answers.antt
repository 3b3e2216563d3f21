use Rattle.std.proofs.Common.{◌≡◌, ◌-◌, ◌++◌, ◌∷◌, [], Some, length, ap, is_ok, subst, set, ◌+◌}
use Rattle.std.specs.Prelude.{slice_get}
use Rattle.std.proofs.ResultArms.{chosen}
use Rattle.term_lex.specs.declared.token.Token.{Token}
use Rattle.standmath.specs.Mentions.{Met, met_of, met_head}
use Rattle.standmath.proofs.Counting.{head_taken}
use Rattle.standmath.proofs.mentions.Mentions.take_head.Goals as goal

pub returns-in-Some : goal.returns-in-Some
returns-in-Some c =
    let opened = c.self.inside.opened.items in
    let mentions = c.self.inside.mentions.items in
    let pushed = c.push.new.self.items in
    let n = c.in-Some.number in
    let t = c.args.token in
    let m = c.index_mut.result.now in
    let read : slice_get opened (length opened - 1) ≡ Some n = cc in
    let is : pushed ≡ mentions ++ record { token = t; args = 0 } ∷ [] = chosen _ _ _ _ c.push.ensures.items (ap is_ok c.in_ok-push.was) in
    let taken = head_taken mentions pushed opened n t m is read c.self.invariant.inside c.index_mut.ensures.value in
    subst (λ (old : Met Token). met_of (set pushed n (record { token = m.token; args = m.args + 1 })) opened ≡ met_head t old) c.self.view_is taken
