use Rattle.std.proofs.Common.{rules, ◌∙◌, ap, string_bytes}
use Rattle.command_line.proofs.Leading.{third_operand}
use Rattle.command_line.proofs.given.Given.with_operands.Goals as goal

pub returns-in_err-given-clause-none : goal.returns-in_err-given-clause-none
returns-in_err-given-clause-none c =
    let never = third_operand string_bytes c.args.self c.loop-word.given c.args.words.now c.loop-word.word-index c.word-item.result c.deref.result.now c.loop-word-test.true (c.deref.ensures ∙ ap string_bytes c.word-item.is) c.loop-word.invariant c.in_err-given.ensures.none in
    search rules
