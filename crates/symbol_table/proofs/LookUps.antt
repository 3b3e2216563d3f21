-- What a look-up by the bytes of a name finds among the entries.
use Rattle.std.proofs.Common.{◌≡◌, ℕ, ◌+◌, ◌-◌, ◌≤◌, suc, zero, Bool, true, false, cond, List, [], ◌∷◌, ◌++◌, map, slice_get, Some, None, if◌then◌else◌, refl, sym, ap, ◌∙◌, true≢false}
use Rattle.std.specs.Global.{Vec}
use Rattle.std.specs.Map.{lookup_key}
use Rattle.std.specs.Option.{option_map}
use Rattle.std.proofs.lemmas.Map.Made.{lookup_key_passes}
use Rattle.std.proofs.lemmas.Option.{none-some, slice_get-map}
use Rattle.std.proofs.lemmas.Slice.Eq.{bytes_eq-Decides}
use Rattle.indexmap.specs.IndexMap.{insert_entry}
use Rattle.symbol_table.specs.Table.{Table, IsDeclared, HasName}
use Rattle.symbol_table.specs.Entries.{declared_of}
use Rattle.symbol_table.proofs.Keys.{has_bytes, same_bytes}
use Rattle.symbol_table.proofs.Numbers.{symbol, name_in, IsDeclared-place, listed_past}

module _ (name : List ℕ) where
  -- the key that a look-up finds has the name
  pub named_so : (key : Vec ℕ) (entries : List (Vec ℕ × ℕ)) → lookup_key (has_bytes name) entries ≡ Some key → name ≡ key.items
  named_so key entries found = (bytes_eq-Decides name key.items).0 (lookup_key_passes (has_bytes name) entries key found)

  -- no entry has the name
  abbrev pub Missing : List (Vec ℕ × ℕ) → Type 0
  Missing entries = (place arity : ℕ) → slice_get (map declared_of entries) place ≡ Some (symbol name arity) → ⊥

  -- where the look-up finds no key, none has the name
  pub nowhere : (entries : List (Vec ℕ × ℕ)) → lookup_key (has_bytes name) entries ≡ None → Missing entries
  nowhere [] none place arity at = none-some (symbol name arity) at
  nowhere (e ∷ entries) none place arity at = by (has_bytes name e.0) refl none place at (nowhere entries)
    where
      by : (b : Bool) → has_bytes name e.0 ≡ b → cond b (Some e.0) (lookup_key (has_bytes name) entries) ≡ None → (i : ℕ)
          → slice_get (declared_of e ∷ map declared_of entries) i ≡ Some (symbol name arity)
          → (lookup_key (has_bytes name) entries ≡ None → Missing entries) → ⊥
      by true passes found i at' rest = none-some e.0 (sym found)
      by false fails found zero at' rest =
          let here : declared_of e ≡ symbol name arity = cc in
          true≢false (sym ((bytes_eq-Decides name e.0.items).1 (sym (ap name_in here))) ∙ fails)
      by false fails found (suc i) at' rest = rest found i arity at'

  -- a new name goes last
  pub declared_of-insert_entry : (key : Vec ℕ) (arity : ℕ) → key.items ≡ name → (entries : List (Vec ℕ × ℕ)) → Missing entries
      → map declared_of (insert_entry same_bytes entries key arity) ≡ map declared_of entries ++ symbol name arity ∷ []
  declared_of-insert_entry key arity named [] missing = ap (λ n. symbol n arity ∷ []) named
  declared_of-insert_entry key arity named (e ∷ entries) missing =
      by (same_bytes key e.0) refl (declared_of-insert_entry key arity named entries (λ i a at. missing (suc i) a at))
    where
      by : (b : Bool) → same_bytes key e.0 ≡ b
          → map declared_of (insert_entry same_bytes entries key arity) ≡ map declared_of entries ++ symbol name arity ∷ []
          → map declared_of (if b then (e.0, arity) ∷ entries else e ∷ insert_entry same_bytes entries key arity)
          ≡ declared_of e ∷ (map declared_of entries ++ symbol name arity ∷ [])
      by true same rest =
          let bytes : key.items ≡ e.0.items = (bytes_eq-Decides key.items e.0.items).0 same in
          absurd (missing 0 e.1 (ap (λ n. Some (symbol n e.1)) (sym bytes ∙ named)))
      by false other rest = ap (λ more. declared_of e ∷ more) rest

module _ (entries : List (Vec ℕ × ℕ)) (table : Table) (lists : map declared_of entries ≡ table.declared) (name : List ℕ) where
  -- what stands at a place is declared with the number two more
  pub declared_at : (place : ℕ) (key : Vec ℕ) (arity : ℕ) → slice_get entries place ≡ Some (key, arity) → name ≡ key.items
      → IsDeclared table name (2 + place) arity
  declared_at place key arity at named =
      IsDeclared-place table name place arity
      (sym (ap (λ ds. slice_get ds place) lists) ∙ slice_get-map declared_of entries place ∙ ap (option_map declared_of) at ∙ ap (λ n. Some (symbol n arity)) (sym named))

  -- where nothing is found, a declaration is that of a truth value
  pub not_declared : lookup_key (has_bytes name) entries ≡ None → (number arity : ℕ) → IsDeclared table name number arity → 2 ≤ number → ⊥
  not_declared none number arity is' past =
      nowhere name entries none (number - 2) arity (ap (λ ds. slice_get ds (number - 2)) lists ∙ listed_past table name number arity is' past)

  pub missing_from : ¬ HasName table name → Missing name entries
  missing_from new place arity at = new (2 + place, arity, IsDeclared-place table name place arity (sym (ap (λ ds. slice_get ds place) lists) ∙ at))
