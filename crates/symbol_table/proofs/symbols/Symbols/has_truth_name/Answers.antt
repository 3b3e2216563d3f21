use Rattle.std.proofs.Common.{codes, is_some, sym, ap, ◌∙◌, inl, inr}
use Rattle.symbol_table.proofs.Declarations.{has_found}
use Rattle.symbol_table.proofs.symbols.Symbols.has_truth_name.Goals as goal

pub returns-then-is_some : goal.returns-then-is_some
returns-then-is_some c = (
  λ _. inl (has_found c.args.self.now (codes "true") c.find.result c.find.ensures.declared (sym c.is_some.ensures ∙ c.if-is_some.true)),
  λ _. c.if-is_some.true,
)

pub returns-else-is_some : goal.returns-else-is_some
returns-else-is_some c = (
  λ some. inr (has_found c.args.self.now (codes "false") c.find-else-is_some.result c.find-else-is_some.ensures.declared (sym c.is_some-else-is_some.ensures ∙ some)),
  λ has. elim has [
    | inl one ↦ absurd (c.find.ensures.none.0 (sym c.is_some.ensures ∙ c.if-is_some.false) one)
    | inr other ↦ c.is_some-else-is_some.ensures ∙ ap is_some ((c.find-else-is_some.ensures.declared other.0 other.1).1 other.2)
  ],
)
