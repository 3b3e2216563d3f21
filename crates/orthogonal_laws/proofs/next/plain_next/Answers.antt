use Rattle.std.proofs.Common.{subst}
use Rattle.orthogonal_laws.specs.Demanded.{IsNextBy}
use Rattle.orthogonal_laws.proofs.ReadSystems.{number_values, number_system, number_values_by, exactly_redex, exactly_normal}
use Rattle.orthogonal_laws.proofs.next.plain_next.Goals as goal

-- the answer is that by number
by_number : (c : goal.After-next_by_number) → IsNextBy (number_system c.args.symbols.now c.args.regular.now) c.args.term.now c.next_by_number.result
by_number c =
    let table = c.args.symbols.now in
    subst (λ rules. IsNextBy (number_system table rules) c.args.term.now c.next_by_number.result) c.rules.ensures.value
    (c.next_by_number.ensures (number_values table) (number_values_by table c.has_one_number_each.ensures.distinct))

pub returns : goal.returns
returns c = record {
  redex = λ at n. exactly_redex c.args.symbols.now c.has_one_number_each.ensures.distinct c.args.regular.now c.requires.live c.rules.ensures.regular c.args.term.now c.requires.live_term c.next_by_number.result (by_number c) at n;
  normal = exactly_normal c.args.symbols.now c.has_one_number_each.ensures.distinct c.args.regular.now c.requires.live c.rules.ensures.regular c.args.term.now c.requires.live_term c.next_by_number.result (by_number c);
}
