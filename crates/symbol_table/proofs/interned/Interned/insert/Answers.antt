use Rattle.std.proofs.Common.{subst}
use Rattle.symbol_table.specs.Table.{Interns}
use Rattle.symbol_table.specs.Entries.{bytes_of}
use Rattle.symbol_table.proofs.Keys.{Interns-insert_key, AreDistinct-Interns}
use Rattle.symbol_table.proofs.interned.Interned.insert.Goals as goal
use Rattle.symbol_table.proofs.interned.Interned.insert.Goals.{In_ok-number}

interns : (c : In_ok-number) → Interns (bytes_of c.self.inside.keys.keys) (bytes_of c.insert_full.new.self.keys) c.args.bytes.items c.in_ok-number.number
interns c =
    let stored = c.in_ok-number.ensures.stored in
    rw (← c.in_ok-number.ensures.keys) at
    (Interns-insert_key c.self.inside.keys.keys c.args.bytes c.in_ok-number.number stored.0 (rw c.in_ok-number.ensures.keys at stored.1) stored.2)

pub invariant_of-self-2 : goal.invariant_of-self-2
invariant_of-self-2 c = AreDistinct-Interns _ _ _ _ (interns c) c.self.invariant

pub returns-clause-ok : goal.returns-clause-ok
returns-clause-ok c = subst (λ old. Interns old (bytes_of c.insert_full.new.self.keys) c.args.bytes.items c.in_ok-number.number) c.self.view_is (interns c)

pub returns-clause-distinct : goal.returns-clause-distinct
returns-clause-distinct c = AreDistinct-Interns _ _ _ _ (interns c) c.self.invariant
