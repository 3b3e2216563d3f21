-- The table with one more symbol, and with one more class.
use Rattle.std.proofs.Common.{◌≡◌, ◌⊎◌, ℕ, ◌+◌, ◌<◌, ◌^◌, List, [], ◌∷◌, ◌++◌, length, sym, ap, subst, ◌∙◌, inl, inr, arith, length-append}
use Rattle.std.proofs.lemmas.Bool.{cases_lt}
use Rattle.eq_base.specs.declared.meeting.SymbolClass.{SymbolClass}
use Rattle.eq_base.specs.declared.meeting.SymbolClass.TheVariants.{TruthValues}
use Rattle.symbol_table.specs.Table.{Table, Includes, IsDeclared, HasName, HasTruthName, HasDistinctNames, symbols_of}
use Rattle.symbol_table.specs.Entries.{IsTable}
use Rattle.symbol_table.proofs.Places.{old_or_last, contains_from_place, place_from_contains}
use Rattle.symbol_table.proofs.Numbers.{symbol, name_in, IsTruthValue, IsTruthValue-below, HasTruthName-IsDeclared, same_truth_value}

-- the table with one more symbol
abbrev pub with_symbol : Table → List ℕ → ℕ → Table
with_symbol table name arity = record table { declared = table.declared ++ symbol name arity ∷ [] }

-- the table with one more class
abbrev pub with_class : Table → SymbolClass → Table
with_class table class = record table { included = table.included ++ class ∷ [] }

module _ (table : Table) (name : List ℕ) (arity : ℕ) where
  -- a declaration stood there before, or is the new one
  old_or_new : (other : List ℕ) (number another : ℕ) → IsDeclared (with_symbol table name arity) other number another
      → IsDeclared table other number another ⊎ ((name ≡ other) × (number ≡ length (symbols_of table)))
  old_or_new other number another is' =
      elim (old_or_last (symbols_of table) (symbol name arity) number (symbol other another) is'.listed) [
        | inl before ↦ inl (record { listed = before; known = is'.known })
        | inr here ↦ inr (ap name_in here.1, here.0)
      ]

  pub distinct-with_symbol : HasDistinctNames table → ¬ HasName table name → HasDistinctNames (with_symbol table name arity)
  distinct-with_symbol distinct fresh other one two a b first second =
      elim (old_or_new other one a first) [
        | inl before ↦ elim (old_or_new other two b second) [
          | inl too ↦ distinct other one two a b before too
          | inr here ↦ absurd (fresh (one, a, subst (λ n. IsDeclared table n one a) (sym here.0) before))
        ]
        | inr here ↦ elim (old_or_new other two b second) [
          | inl too ↦ absurd (fresh (two, b, subst (λ n. IsDeclared table n two b) (sym here.0) too))
          | inr same ↦ here.1 ∙ sym same.1
        ]
      ]

  pub IsTable-with_symbol : IsTable table → ¬ HasName table name → 2 + length table.declared < 2 ^ 32 → IsTable (with_symbol table name arity)
  IsTable-with_symbol was fresh room = record {
    distinct = record { names = distinct-with_symbol was.distinct.names fresh; atoms = was.distinct.atoms; texts = was.distinct.texts };
    numbers_fit = omega (arith, length-append table.declared (symbol name arity ∷ []));
  }

module _ (table : Table) (class : SymbolClass) where
  -- a class was included before, or is the new one
  old_or_new_class : (other : SymbolClass) → Includes (with_class table class) other → Includes table other ⊎ (class ≡ other)
  old_or_new_class other includes =
      let place = place_from_contains (table.included ++ class ∷ []) other includes in
      elim (old_or_last table.included class place.0 other place.1) [
        | inl before ↦ inl (contains_from_place table.included place.0 other before)
        | inr here ↦ inr here.1
      ]

  -- a declaration stood there before, or is that of a truth value, whose class is the new one
  old_or_truth_value : (name : List ℕ) (number arity : ℕ) → IsDeclared (with_class table class) name number arity
      → IsDeclared table name number arity ⊎ ((class ≡ TruthValues) × IsTruthValue name number)
  old_or_truth_value name number arity is' =
      elim (cases_lt number 2) [
        | inl below ↦ elim (old_or_new_class TruthValues (is'.known below)) [
          | inl before ↦ inl (record { listed = is'.listed; known = λ _. before })
          | inr new ↦ inr (new, IsTruthValue-below table name number arity below is'.listed)
        ]
        | inr past ↦ inl (record { listed = is'.listed; known = λ below. absurd (omega arith) })
      ]

  pub distinct-with_class : HasDistinctNames table → (class ≡ TruthValues → ¬ HasTruthName table) → HasDistinctNames (with_class table class)
  distinct-with_class distinct undeclared name one two a b first second =
      elim (old_or_truth_value name one a first) [
        | inl before ↦ elim (old_or_truth_value name two b second) [
          | inl too ↦ distinct name one two a b before too
          | inr truth ↦ absurd (undeclared truth.0 (HasTruthName-IsDeclared table name two one a truth.1 before))
        ]
        | inr truth ↦ elim (old_or_truth_value name two b second) [
          | inl before ↦ absurd (undeclared truth.0 (HasTruthName-IsDeclared table name one two b truth.1 before))
          | inr too ↦ same_truth_value name one two truth.1 too.1
        ]
      ]

  pub IsTable-with_class : IsTable table → (class ≡ TruthValues → ¬ HasTruthName table) → IsTable (with_class table class)
  IsTable-with_class was undeclared = record {
    distinct = record { names = distinct-with_class was.distinct.names undeclared; atoms = was.distinct.atoms; texts = was.distinct.texts };
    numbers_fit = was.numbers_fit;
  }
