use Rattle.std.proofs.Common.{◌≡◌, ◌∙◌, ◌<◌, List, ℕ, ap, sym, subst, string_bytes, Some}
use Rattle.std.specs.Prelude.{IfOk, slice_get}
use Rattle.eq_base.specs.Tree.{size}
use Rattle.eq_base.specs.declared.rules.Equation.{Equation}
use Rattle.eq_base.proofs.Heads.{some_same}
use Rattle.eq_base.specs.Rules.{rule_of}
use Rattle.ei_program.specs.Restrictions.{origin_of, broken_side, line_by}
use Rattle.ei_program.proofs.restrictions.break_line.Goals as goal

pub line_by-requires : goal.line_by-requires
line_by-requires c =
    let r = c.requires in
    let same : r.one ≡ c.equation-one.result.now = some_same r.one c.equation-one.result.now (sym r.one_listed ∙ c.equation-one.ensures) in
    subst (λ (e : Equation). c.args.found.place < size (broken_side c.args.found.restriction (rule_of e))) same r.there

pub returns : goal.returns
returns c =
    let found = c.args.found in
    let same = ap (λ o. line_by rule_of origin_of found o (slice_get c.args.rules.now.equations found.second)) c.equation-one.ensures ∙ ap (λ o. line_by rule_of origin_of found (Some c.equation-one.result.now) o) c.equation-other.ensures in
    subst (λ (bytes : List ℕ). IfOk c.line_by.result (λ line. string_bytes line ≡ bytes)) (sym same) c.line_by.ensures
