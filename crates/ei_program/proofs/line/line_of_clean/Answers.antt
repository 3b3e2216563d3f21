use Rattle.std.proofs.Common.{rules, ◌<◌, ◌≤◌, arith}
use Rattle.eq_base.specs.Tree.{size}
use Rattle.eq_base.proofs.Numbers.{has_node}
use Rattle.eq_base.proofs.Trees.{size-map_heads}
use Rattle.symbol_table.specs.Reading.{read, read_head}
use Rattle.ei_program.proofs.Made.{made}
use Rattle.ei_program.proofs.Answers.{tells_large, prints_form}
use Rattle.ei_program.proofs.line.line_of_clean.Goals as goal

pub printed-requires-clause-node : goal.printed-requires-clause-node
printed-requires-clause-node c = has_node c.args.form.now

pub returns-then-len-settings : goal.returns-then-len-settings
returns-then-len-settings c =
    let size_read = size-map_heads (read_head c.args.ready.now.symbols) c.args.form.now in
    let large : c.args.settings.now.most < size (read c.args.ready.now.symbols c.args.form.now) = omega (arith, c.if-len-settings.true, c.len.ensures, size_read) in
    tells_large c.args.ready.now c.args.settings.now c.args.form.now c.in_ok-text.text.items c.requires.clean large (search rules)

pub returns : goal.returns
returns c =
    let size_read = size-map_heads (read_head c.args.ready.now.symbols) c.args.form.now in
    let small : size (read c.args.ready.now.symbols c.args.form.now) ≤ c.args.settings.now.most = omega (arith, c.if-len-settings.false, c.len.ensures, size_read) in
    made c.printed.result (λ text is. prints_form c.args.ready.now c.args.settings.now c.args.form.now text c.requires.clean small is) c.printed.ensures
