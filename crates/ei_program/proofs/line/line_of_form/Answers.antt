use Rattle.std.proofs.Common.{◌<◌, subst}
use Rattle.eq_base.proofs.Trees.{size-map_heads}
use Rattle.symbol_table.specs.Reading.{read_head}
use Rattle.ei_program.proofs.Made.{made}
use Rattle.ei_program.proofs.Answers.{tells_past}
use Rattle.ei_program.proofs.line.line_of_form.Goals as goal

pub printed-requires-clause-node : goal.printed-requires-clause-node
printed-requires-clause-node c =
    subst (λ n. c.in-Some.node < n) (size-map_heads (read_head c.args.ready.now.symbols) c.args.form.now) c.in-Some.ensures.there

pub returns-in-Some : goal.returns-in-Some
returns-in-Some c = made c.printed.result (λ text is. tells_past c.args.ready.now c.args.settings.now c.args.form.now text c.in-Some.node c.in-Some.ensures is) c.printed.ensures
