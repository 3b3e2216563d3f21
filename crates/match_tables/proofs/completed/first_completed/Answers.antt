use Rattle.std.proofs.Common.{◌+◌, ℕ, Option, take, sym, subst, arith}
use Rattle.match_tables.specs.Completing.{IsAnswered}
use Rattle.match_tables.proofs.Moved.{place-of, get-contained}
use Rattle.match_tables.proofs.Firsts.{answer-take, answer-pass, answer-all}
use Rattle.match_tables.proofs.completed.first_completed.Goals as goal
use Rattle.match_tables.proofs.completed.first_completed.Goals.{Joined-is_less, then-is_less+then-completes, else-is_less, else-is_less-via-then-is_less+else-completes, else-is_less-via-else-is_less}

pub completes-requires-clause-place : goal.completes-requires-clause-place
completes-requires-clause-place c = place-of c.args.rules.now _ _ (c.requires.items.there _ _ (get-contained c.args.items.now c.loop-item.item-index (0, 0) c.loop-item-test.true))

-- what is found after one more item
abbrev Found : Joined-is_less → Option ℕ → Type 0
Found c first = IsAnswered c.args.rules.now (take (c.loop-item.item-index + 1) c.args.items.now) c.args.step first

found : (c : Joined-is_less) → Found c c.if-is_less.first
found c =
    elim c.if-is_less.branch [
      | then-is_less+then-completes w ↦
          subst (Found c) (sym w.first-is)
          (answer-take c.args.rules.now c.args.step c.args.items.now c.loop-item.item-index c.loop-item-test.true c.loop-item.first c.loop-item.invariant (c.is_less.ensures.0 w.if-is_less.true) (w.completes.ensures.0 w.if-completes.true))
      | else-is_less w ↦
          subst (Found c) (sym w.first-is)
          (answer-pass c.args.rules.now c.args.step c.args.items.now c.loop-item.item-index c.loop-item-test.true c.loop-item.first c.loop-item.invariant (λ less x.
          elim w.else-is_less.branch [
            | else-is_less-via-then-is_less+else-completes w' ↦ let t = w'.completes.ensures.1 x in let f = w'.if-completes.false in absurd (cc)
            | else-is_less-via-else-is_less w' ↦ let t = c.is_less.ensures.1 less in let f = w'.if-is_less.false in absurd (cc)
          ]))
    ]

pub loop-item-preserved : goal.loop-item-preserved
loop-item-preserved c = found c

pub returns : goal.returns
returns c = answer-all c.args.rules.now c.args.step c.args.items.now c.loop-item.item-index c.loop-item.first (omega (arith, c.loop-item-test.false)) c.loop-item.invariant
