use Rattle.written_terms.proofs.Keeping.{IsResolved, resolved}
use Rattle.written_terms.proofs.cells.named.Goals as goal
use Rattle.written_terms.proofs.cells.named.Goals.{In-Ok}

is_resolved : (c : In-Ok) → IsResolved c.args.symbols.now c.resolve.new.self c.args.name.now c.args.mention.args c.in-Ok.head
is_resolved c = resolved c.args.symbols.now c.resolve.new.self c.args.name.now c.args.mention.args c.in-Ok.head c.in-Ok.ensures.ok

pub returns-in-Ok-clause-keeps : goal.returns-in-Ok-clause-keeps
returns-in-Ok-clause-keeps c = (resolved c.args.symbols.now c.resolve.new.self c.args.name.now c.args.mention.args c.in-Ok.head c.in-Ok.ensures.ok).keeps
