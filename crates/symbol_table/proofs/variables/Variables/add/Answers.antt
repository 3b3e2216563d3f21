use Rattle.std.proofs.Common.{◌≡◌, ◌↔◌, ℕ, true, Option, Some, None, slice_get, is_some, List, Contains, refl, sym, ◌∙◌, inl, inr, true≢false}
use Rattle.symbol_table.proofs.Places.{contains_from_place}
use Rattle.symbol_table.proofs.Declarations.{has_found}
use Rattle.symbol_table.proofs.variables.Variables.add.Goals as goal
use Rattle.symbol_table.proofs.variables.Variables.add.Goals.{then-is_some-via-then-is_some, then-is_some-via-else-is_some+then-is_some-2}

listed : (variables : List (List ℕ)) (name : List ℕ) (found : Option ℕ) → ((index : ℕ) → (found ≡ Some index) ↔ (slice_get variables index ≡ Some name))
    → is_some found ≡ true → Contains variables name
listed variables name None exact some = absurd (true≢false (sym some))
listed variables name (Some index) exact some = contains_from_place variables index name ((exact index).0 refl)

pub returns-then-is_some-clause-refused : goal.returns-then-is_some-clause-refused
returns-then-is_some-clause-refused c =
    elim c.then-is_some.branch [
      | then-is_some-via-then-is_some w ↦
          inl (listed c.args.self.now c.args.name.now c.find.result c.find.ensures.listed (sym c.is_some.ensures ∙ w.if-is_some.true))
      | then-is_some-via-else-is_some+then-is_some-2 w ↦
          inr (has_found c.args.symbols.now c.args.name.now w.find-else-is_some.result w.find-else-is_some.ensures.declared (sym w.is_some-else-is_some.ensures ∙ w.if-is_some-2.true))
    ]
