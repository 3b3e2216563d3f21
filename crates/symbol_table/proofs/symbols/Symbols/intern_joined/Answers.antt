use Rattle.std.proofs.Common.{rules, ◌≡◌, [], get_or, ap}
use Rattle.std.proofs.lemmas.Option.{get_or_from_slice_get}
use Rattle.symbol_table.specs.Table.{Table}
use Rattle.symbol_table.proofs.symbols.Symbols.intern_joined.Goals as goal

pub returns-clause-ok : goal.returns-clause-ok
returns-clause-ok c =
    let texts : c.self.inside.texts ≡ c.args.self.now.texts = ap (λ (t : Table). t.texts) c.self.view_is in
    let one : get_or c.args.self.now.texts c.args.one [] ≡ c.get.result.now =
    get_or_from_slice_get c.args.self.now.texts c.args.one c.get.result.now [] (rw texts at c.get.ensures.bytes) in
    let other : get_or c.args.self.now.texts c.args.other [] ≡ c.get-2.result.now =
    get_or_from_slice_get c.args.self.now.texts c.args.other c.get-2.result.now [] (rw texts at c.get-2.ensures.bytes) in
    rw (one, other, ← c.in_ok-bytes.ensures) (search rules)
