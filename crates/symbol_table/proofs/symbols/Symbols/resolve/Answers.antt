use Rattle.std.proofs.Common.{refl, sym, subst, ◌∙◌}
use Rattle.symbol_table.specs.Table.{IsDeclared}
use Rattle.symbol_table.proofs.Declarations.{one_entry}
use Rattle.symbol_table.proofs.symbols.Symbols.resolve.Goals as goal
use Rattle.symbol_table.proofs.symbols.Symbols.resolve.Goals.{In-Some}

-- what was found is declared
found : (c : In-Some) → IsDeclared c.args.self.now c.args.name.now c.in-Some.number c.in-Some.declared
found c = (c.in-Some.ensures.declared c.in-Some.number c.in-Some.declared).0 refl

pub returns-in-Some-clause-ok : goal.returns-in-Some-clause-ok
returns-in-Some-clause-ok c = (
  subst (λ arity. IsDeclared c.args.self.now c.args.name.now c.in-Some.number arity) (sym c.from.ensures ∙ c.if-from-args.true)
      (found (goal.at.returns-in-Some-clause-ok c).In-Some),
  refl,
)

pub returns-in-Some-2-clause-refused : goal.returns-in-Some-2-clause-refused
returns-in-Some-2-clause-refused c =
    let table = c.args.self.now in
    let name = c.args.name.now in
    let number = c.in-Some.number in
    let declared = c.in-Some.declared in
    let here = found (goal.at.returns-in-Some-2-clause-refused c).In-Some in (
      (number, here),
      λ other there. c.if-from-args.false (c.from.ensures ∙ (one_entry table c.in-Some.ensures.distinct.names name number other declared c.args.args here there).1),
      refl,
    )
