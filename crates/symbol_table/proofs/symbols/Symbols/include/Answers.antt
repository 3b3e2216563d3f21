use Rattle.std.proofs.Common.{◌≡◌, sym, subst, ◌∙◌, inr, true≢false}
use Rattle.eq_base.specs.declared.meeting.SymbolClass.TheVariants.{TruthValues}
use Rattle.symbol_table.specs.Table.{Table, HasTruthName}
use Rattle.symbol_table.specs.Entries.{table_of, IsTable}
use Rattle.symbol_table.proofs.Growing.{IsTable-with_class}
use Rattle.symbol_table.proofs.symbols.Symbols.include.Goals as goal
use Rattle.symbol_table.proofs.symbols.Symbols.include.Goals.{In_ok-push}

undeclared : (c : In_ok-push) → c.in-Some.class ≡ TruthValues → ¬ HasTruthName c.args.self.now
undeclared c truth has = true≢false (sym (c.is_taken.ensures.1 (inr (truth, has))) ∙ c.if-is_taken.false)

pub invariant_of-self-2 : goal.invariant_of-self-2
invariant_of-self-2 c =
    let old : Table = table_of c.self.inside.arities.entries c.self.inside.classes.items c.self.inside.atoms c.self.inside.texts in
    subst (λ classes. IsTable (table_of c.self.inside.arities.entries classes c.self.inside.atoms c.self.inside.texts)) (sym c.in_ok-push.ensures.items)
    (IsTable-with_class old c.in-Some.class c.self.invariant (λ truth. subst (λ (t : Table). ¬ HasTruthName t) (sym c.self.view_is) (undeclared c truth)))
