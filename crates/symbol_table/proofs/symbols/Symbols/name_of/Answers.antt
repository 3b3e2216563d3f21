use Rattle.std.proofs.Common.{◌≡◌, ◌+◌, ◌-◌, sym, ap, subst, ◌∙◌, arith}
use Rattle.std.specs.Option.{option_map}
use Rattle.std.specs.Map.Iter.{deref_pair}
use Rattle.symbol_table.specs.Table.{Table, IsDeclared}
use Rattle.symbol_table.proofs.LookUps.{declared_at}
use Rattle.symbol_table.proofs.symbols.Symbols.name_of.Goals as goal

pub returns-in_default : goal.returns-in_default
returns-in_default c =
    let entry = sym c.get_index.ensures.entry ∙ ap (option_map deref_pair) c.unwrap.ensures in
    let here =
    declared_at c.self.inside.arities.entries c.args.self.now (ap (λ (t : Table). t.declared) c.self.view_is) c.as_slice.result.now (c.args.number - 2) c.unwrap.result.0.now c.unwrap.result.1.now entry c.as_slice.ensures.value in
    let number : 2 + (c.args.number - 2) ≡ c.args.number = omega arith in
    (c.unwrap.result.1.now, subst (λ n. IsDeclared c.args.self.now c.as_slice.result.now n c.unwrap.result.1.now) number here)
