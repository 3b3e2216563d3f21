use Rattle.std.proofs.Common.{◌+◌, is_some, refl, sym, ap, subst, ◌∙◌}
use Rattle.std.proofs.lemmas.Option.{none-some}
use Rattle.symbol_table.specs.Table.{Table, IsDeclared, HasName, HasOneNumberEach}
use Rattle.symbol_table.proofs.LookUps.{named_so, declared_at, not_declared}
use Rattle.symbol_table.proofs.Declarations.{found_exactly}
use Rattle.symbol_table.proofs.symbols.Symbols.find.Goals as goal
use Rattle.symbol_table.proofs.symbols.Symbols.find.Goals.{In-Some, After-from_residual}

-- the entry that was found is a declaration
entry : (c : In-Some) → IsDeclared c.args.self.now c.args.name.now (2 + c.in-Some.index) c.in-Some.arity.now
entry c =
    let named = named_so c.args.name.now c.in-Some.field-0-1.now c.self.inside.arities.entries (sym c.in-Some.ensures.key) in
    declared_at c.self.inside.arities.entries c.args.self.now (ap (λ (t : Table). t.declared) c.self.view_is) c.args.name.now c.in-Some.index c.in-Some.field-0-1.now c.in-Some.arity.now c.in-Some.ensures.entry named

pub returns-in-Some-clause-declared : goal.returns-in-Some-clause-declared
returns-in-Some-clause-declared c =
    found_exactly c.args.self.now (subst HasOneNumberEach c.self.view_is c.self.invariant.distinct).names c.args.name.now (2 + c.in-Some.index) c.in-Some.arity.now (entry (goal.at.returns-in-Some-clause-declared c).In-Some)

pub returns-in-Some-clause-none : goal.returns-in-Some-clause-none
returns-in-Some-clause-none c = (λ never. absurd (cc), λ new. absurd (new (2 + c.in-Some.index, c.in-Some.arity.now, entry (goal.at.returns-in-Some-clause-none c).In-Some)))

new : (c : After-from_residual) → ¬ HasName c.args.self.now c.args.name.now
new c has =
    not_declared c.self.inside.arities.entries c.args.self.now (ap (λ (t : Table). t.declared) c.self.view_is) c.args.name.now (sym c.in_default.ensures.key) has.0 has.1 has.2
    (c.in_err-number.ensures.none refl has.0 has.1 has.2)

pub returns-in_err-number-clause-declared : goal.returns-in_err-number-clause-declared
returns-in_err-number-clause-declared c number arity =
    (λ same. absurd (none-some (number, arity) (sym c.from_residual.ensures ∙ same)), λ there. absurd (new c (number, arity, there)))

pub returns-in_err-number-clause-none : goal.returns-in_err-number-clause-none
returns-in_err-number-clause-none c = (λ _. new c, λ _. ap is_some c.from_residual.ensures)
