-- What a table declares, before and after one more name, and how far one call lets it grow.
use Rattle.std.proofs.Common.{◌≡◌, ◌↔◌, ℕ, ◌+◌, ◌≤◌, ℤ, true, Option, Some, None, is_some, slice_get, sym, subst, true≢false, Result, Ok, Err, IfOk, OnOk, OnErr, List, [], ◌∷◌, length, length-append, refl, ap, ◌∙◌, arith}
use Rattle.symbol_table.specs.declared.error.SymbolError.{SymbolError}
use Rattle.std.proofs.lemmas.Option.{some_pair_parts, same_Some}
use Rattle.symbol_table.specs.Table.{Table, IsDeclared, HasName, HasDistinctNames, Declares, symbols_of}
use Rattle.symbol_table.specs.Variables.{AddsVariable}
use Rattle.symbol_table.proofs.Numbers.{symbol, arity_in}

-- the table after a new name
pub length-declares : (old new : Table) (name : List ℕ) (arity : ℤ) (number : ℕ) → Declares old new name arity number → length new.declared ≡ length old.declared + 1
length-declares old new name arity number d =
    ap (λ (t : Table). length t.declared) d.added ∙ length-append old.declared (symbol name d.arguments ∷ [])

-- a call of `declare` adds one symbol at most
pub length-declare : (old new : Table) (name : List ℕ) (arity : ℤ) (result : Result ℕ SymbolError) → IfOk result (Declares old new name arity) → OnErr result (new ≡ old)
    → length new.declared ≤ length old.declared + 1
length-declare old new name arity (Ok number) ok err = omega (arith, length-declares old new name arity number ok)
length-declare old new name arity (Err error) ok err = omega (arith, ap (λ (t : Table). length t.declared) err)

-- a call of `add` adds one variable at most
pub length-add : (table : Table) (old new : List (List ℕ)) (name : List ℕ) (result : Result (Unit {0}) SymbolError) → OnOk result (AddsVariable table old new name) → OnErr result (new ≡ old)
    → length new ≤ length old + 1
length-add table old new name (Ok _) ok err = omega (arith, ap length ok.added, length-append old (name ∷ []))
length-add table old new name (Err error) ok err = omega (arith, ap length err)

module _ (table : Table) (distinct : HasDistinctNames table) (name : List ℕ) where
  -- a name has one number and one arity
  pub one_entry : (one other arity another : ℕ) → IsDeclared table name one arity → IsDeclared table name other another
      → (one ≡ other) × (arity ≡ another)
  one_entry one other arity another first second =
      let same : one ≡ other = distinct name one other arity another first second in
      let both : Some (symbol name arity) ≡ Some (symbol name another) = sym first.listed ∙ ap (slice_get (symbols_of table)) same ∙ second.listed in
      (same, ap arity_in (same_Some _ _ both))

  -- so a look-up that finds one answers exactly what is declared
  pub found_exactly : (number arity : ℕ) → IsDeclared table name number arity → (other another : ℕ)
      → (◌≡◌ {A = Option (ℕ × ℕ)} (Some (number, arity)) (Some (other, another))) ↔ IsDeclared table name other another
  found_exactly number arity here other another = (
    λ same.
        let parts = some_pair_parts number other arity another same in
        subst (λ n. IsDeclared table name n another) parts.0 (subst (λ a. IsDeclared table name number a) parts.1 here),
    λ there.
        let parts = one_entry number other arity another here there in
        let pairs : ◌≡◌ {A = ℕ × ℕ} (number, arity) (other, another) = λ i. (parts.0 i, parts.1 i) in ap Some pairs,
  )

-- what a look-up answers is a declaration
pub has_found : (table : Table) (name : List ℕ) (found : Option (ℕ × ℕ)) → ((number arity : ℕ) → (found ≡ Some (number, arity)) ↔ IsDeclared table name number arity)
    → is_some found ≡ true → HasName table name
has_found table name None exact some = absurd (true≢false (sym some))
has_found table name (Some found) exact some = (found.0, found.1, (exact found.0 found.1).0 refl)
