use Rattle.std.proofs.Common.{Some, sym, ap, ◌∙◌}
use Rattle.std.proofs.lemmas.Option.{slice_get-get_or}
use Rattle.match_tables.proofs.tables.Tables.wants.Goals as goal

pub returns : goal.returns
returns c = λ rules t items s. (t.rows.each c.args.state c.index.result.now items (slice_get-get_or c.args.self.now.states.items c.args.state c.index.result.now c.requires ∙ ap Some (sym c.index.ensures)) s).want
