use Rattle.std.proofs.Common.{◌∙◌, ap, sym, subst, List, ℕ, ◌∷◌, ◌++◌, map, string_bytes}
use Rattle.command_line.specs.Given.{LeadTo}
use Rattle.command_line.proofs.Leading.{lead_on, none_left, lead_end}
use Rattle.command_line.proofs.words.given_by.Goals as goal

pub loop-word-preserved : goal.loop-word-preserved
loop-word-preserved c =
    let before = c.loop-word.invariant in
    let step = c.in-Some-given_more.ensures.more before.0 before.1 in
    let others = map string_bytes c.in-Some.others.now in
    let rest = ap (map string_bytes) c.in-Some.ensures.cases.0 ∙ ap (λ (word : List ℕ). word ∷ others) (sym c.deref.ensures) in
    let lead = subst (λ (words : List (List ℕ)). LeadTo step.0 words (map string_bytes c.in-Some-given_more.behind.now)) (sym rest) step.2 in
    (before.0 ++ step.0, step.1, lead_on before.0 step.0 _ (map string_bytes c.loop-word.rest.now) (map string_bytes c.in-Some-given_more.behind.now) before.2 lead)

pub returns-clause-given : goal.returns-clause-given
returns-clause-given c =
    let before = c.loop-word.invariant in
    let empty = none_left string_bytes c.loop-word.rest.now c.in_default.ensures.cases in
    (before.0, lead_end before.0 _ (subst (λ (rest : List (List ℕ)). LeadTo before.0 (map string_bytes c.args.words.now) rest) empty before.2), before.1)
