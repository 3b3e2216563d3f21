use Rattle.std.proofs.Common.{◌≡◌, take, sym, ap, subst, ◌∙◌}
use Rattle.std.proofs.lemmas.List.{take-map}
use Rattle.symbol_table.specs.Table.{AreDistinct}
use Rattle.symbol_table.specs.Entries.{bytes_of}
use Rattle.symbol_table.proofs.Keys.{AreDistinct-take}
use Rattle.symbol_table.proofs.interned.Interned.truncate.Goals as goal
use Rattle.symbol_table.proofs.interned.Interned.truncate.Goals.{After-truncate}

-- the front of the keys has the front of their bytes
cut : (c : After-truncate) → bytes_of c.truncate.new.self.keys ≡ take c.args.len (bytes_of c.self.inside.keys.keys)
cut c = ap bytes_of c.truncate.ensures.keys ∙ sym (take-map (λ k. k.items) c.args.len c.self.inside.keys.keys)

pub invariant_of-self : goal.invariant_of-self
invariant_of-self c = subst AreDistinct (sym (cut c)) (AreDistinct-take c.args.len _ c.self.invariant)

pub returns-clause-cut : goal.returns-clause-cut
returns-clause-cut c = cut c ∙ ap (take c.args.len) c.self.view_is

pub returns-clause-distinct : goal.returns-clause-distinct
returns-clause-distinct c = subst AreDistinct (sym (cut c)) (AreDistinct-take c.args.len _ c.self.invariant)
