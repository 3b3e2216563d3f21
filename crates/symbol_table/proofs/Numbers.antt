-- The symbols by their numbers: the truth values, then the table's list.
use Rattle.std.proofs.Common.{◌≡◌, ◌⊎◌, ℕ, ◌+◌, ◌-◌, ◌<◌, ◌≤◌, suc, zero, List, slice_get, Some, codes, get_or, sym, ap, subst, ◌∙◌, inl, inr, arith}
use Rattle.std.proofs.lemmas.Option.{same_Some}
use Rattle.symbol_table.specs.Table.{Declared, Table, IsDeclared, HasTruthName, symbols_of}

-- a declared name with its arity
abbrev pub symbol : List ℕ → ℕ → Declared
symbol name arity = record { name = name; arity = arity }

abbrev pub name_in : Declared → List ℕ
name_in symbol = symbol.name

abbrev pub arity_in : Declared → ℕ
arity_in symbol = symbol.arity

true_is_not_false : codes "true" ≡ codes "false" → ⊥
true_is_not_false same = let heads : ◌≡◌ {A = ℕ} 116 102 = ap (λ (bytes : List ℕ). get_or bytes 0 0) same in omega arith

-- the name and the number of a truth value
abbrev pub IsTruthValue : List ℕ → ℕ → Type 0
IsTruthValue name number = ((number ≡ 0) × (codes "true" ≡ name)) ⊎ ((number ≡ 1) × (codes "false" ≡ name))

pub same_truth_value : (name : List ℕ) (one other : ℕ) → IsTruthValue name one → IsTruthValue name other → one ≡ other
same_truth_value name one other (inl first) (inl second) = first.0 ∙ sym second.0
same_truth_value name one other (inr first) (inr second) = first.0 ∙ sym second.0
same_truth_value name one other (inl first) (inr second) = absurd (true_is_not_false (first.1 ∙ sym second.1))
same_truth_value name one other (inr first) (inl second) = absurd (true_is_not_false (second.1 ∙ sym first.1))

module _ (table : Table) where
  at_place : (place : ℕ) → slice_get (symbols_of table) (2 + place) ≡ slice_get table.declared place
  at_place place = let same : 2 + place ≡ suc (suc place) = omega arith in ap (slice_get (symbols_of table)) same

  -- a symbol of the list has the number two more than its place
  pub IsDeclared-place : (name : List ℕ) (place arity : ℕ) → slice_get table.declared place ≡ Some (symbol name arity)
      → IsDeclared table name (2 + place) arity
  IsDeclared-place name place arity at = record { listed = at_place place ∙ at; known = λ below. absurd (omega arith) }

  -- and from 2 on, a number is that of a symbol of the list
  pub listed_past : (name : List ℕ) (number arity : ℕ) → IsDeclared table name number arity → 2 ≤ number
      → slice_get table.declared (number - 2) ≡ Some (symbol name arity)
  listed_past name number arity is' past =
      let same : 2 + (number - 2) ≡ number = omega arith in sym (at_place (number - 2)) ∙ ap (slice_get (symbols_of table)) same ∙ is'.listed

  -- a number below 2 is that of a truth value
  pub IsTruthValue-below : (name : List ℕ) (number arity : ℕ) → number < 2 → slice_get (symbols_of table) number ≡ Some (symbol name arity) → IsTruthValue name number
  IsTruthValue-below name zero arity below at = inl (omega arith, ap name_in (same_Some _ _ at))
  IsTruthValue-below name (suc zero) arity below at = inr (omega arith, ap name_in (same_Some _ _ at))
  IsTruthValue-below name (suc (suc place)) arity below at = absurd (omega arith)

  -- where a truth value's name is declared with any number, `true` or `false` is declared
  pub HasTruthName-IsDeclared : (name : List ℕ) (truth number arity : ℕ) → IsTruthValue name truth → IsDeclared table name number arity → HasTruthName table
  HasTruthName-IsDeclared name truth number arity (inl same) is' = inl (number, arity, subst (λ n. IsDeclared table n number arity) (sym same.1) is')
  HasTruthName-IsDeclared name truth number arity (inr same) is' = inr (number, arity, subst (λ n. IsDeclared table n number arity) (sym same.1) is')
