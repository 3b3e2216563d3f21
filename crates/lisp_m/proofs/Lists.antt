-- Which heads are parts of lists.
use Rattle.std.proofs.Common.{◌≡◌, ℕ, zero, suc, true, ◌&&◌, List, Some, None, slice_get, codes, get_or, refl, sym, ap, ◌∙◌, subst, inl, inr, arith}
use Rattle.std.specs.Prelude.{Decides, ◌==◌}
use Rattle.std.specs.Str.{bytes_eq}
use Rattle.std.proofs.lemmas.Bool.{and_parts, cases_Bool, cond-true, cond-false}
use Rattle.std.proofs.lemmas.Bool.Decides.{same_from_decides, Decides-eqb}
use Rattle.std.proofs.lemmas.Slice.Eq.{bytes_eq-Decides}
use Rattle.std.proofs.lemmas.List.Folds.{Any-from_list_any, list_any_at}
use Rattle.std.proofs.lemmas.Option.{get_or_from_slice_get, slice_get_within, slice_get-get_or, same_Some}
use Rattle.eq_base.specs.declared.head.Head.TheVariants.{Symbol}
use Rattle.symbol_table.specs.Table.{Declared, Table, IsDeclared, IsLive, HasDistinctNames, symbols_of}
use Rattle.written_terms.specs.Meaning.{HasLists}
use Rattle.written_terms.specs.Printing.{symbol_name}
use Rattle.lisp_m.specs.declared.write.Part.TheVariants.{Other}
use Rattle.lisp_m.specs.Printing.{declares, has_lists, symbol_part}
use Rattle.lisp_m.specs.Writing.{AreLists, part_in}

-- a declared name with its arity
abbrev entry : List ℕ → ℕ → Declared
entry name arity = record { name = name; arity = arity }

abbrev name_in : Declared → List ℕ
name_in d = d.name

-- the first bytes of two entries
same_first : (one other : Declared) → Some one ≡ Some other → get_or one.name 0 0 ≡ get_or other.name 0 0
same_first one other e = ap (λ (d : Declared). get_or d.name 0 0) (same_Some one other e)

module _ (table : Table) where
  -- a name that begins as no truth value does stands in the list of names
  listed_at : (name : List ℕ) (arity n : ℕ) → (get_or name 0 0 ≡ 116 → ⊥) → (get_or name 0 0 ≡ 102 → ⊥) → slice_get (symbols_of table) n ≡ Some (entry name arity) → (k : ℕ) × (slice_get table.declared k ≡ Some (entry name arity))
  listed_at name arity zero no_t no_f at = absurd (no_t (sym (same_first _ _ at)))
  listed_at name arity (suc zero) no_t no_f at = absurd (no_f (sym (same_first _ _ at)))
  listed_at name arity (suc (suc k)) no_t no_f at = (k, at)

  declares_true : (name : List ℕ) (arity n : ℕ) → (get_or name 0 0 ≡ 116 → ⊥) → (get_or name 0 0 ≡ 102 → ⊥) → (bytes_eq name name && (arity == arity)) ≡ true → IsDeclared table name n arity → declares table name arity ≡ true
  declares_true name arity n no_t no_f same is =
      let test = λ (d : Declared). bytes_eq d.name name && (d.arity == arity) in
      let at = listed_at name arity n no_t no_f is.listed in
      list_any_at test table.declared at.0 (entry name arity) (slice_get_within table.declared at.0 (entry name arity) at.1)
      (ap test (get_or_from_slice_get table.declared at.0 (entry name arity) (entry name arity) at.1) ∙ same)

  declared_so : (name : List ℕ) (arity : ℕ) → declares table name arity ≡ true → (n : ℕ) × IsDeclared table name n arity
  declared_so name arity is =
      let found = Any-from_list_any (λ (d : Declared). bytes_eq d.name name && (d.arity == arity)) table.declared is in
      let parts = and_parts _ _ found.4 in
      let named : found.1.name ≡ name = (bytes_eq-Decides found.1.name name).0 parts.0 in
      let counted : found.1.arity ≡ arity = (Decides-eqb found.1.arity arity).0 parts.1 in
      let same : found.1 ≡ entry name arity = λ i. entry (named i) (counted i) in
      let at : slice_get table.declared found.0 ≡ Some (entry name arity) = slice_get-get_or table.declared found.0 found.1 found.2 ∙ ap (λ d. Some d) (found.3 ∙ same) in
      (suc (suc found.0), record { listed = at; known = λ below. absurd (omega (arith, below)) })

  -- the test whether lists can be written
  pub has_lists-Decides : Decides (has_lists table) (HasLists table)
  has_lists-Decides = (
    λ is.
        let parts = and_parts _ _ is in
        let cons = declared_so (codes "cons") 2 parts.0 in
        let nil = declared_so (codes "nil") 0 parts.1 in
        record { cons = cons.0; nil = nil.0; cons_is = cons.1; nil_is = nil.1 },
    λ lists.
        let cons = declares_true (codes "cons") 2 lists.cons (λ e. omega (arith, e)) (λ e. omega (arith, e)) refl lists.cons_is in
        let nil = declares_true (codes "nil") 0 lists.nil (λ e. omega (arith, e)) (λ e. omega (arith, e)) refl lists.nil_is in
        ap (λ b. b && declares table (codes "nil") 0) cons ∙ nil,
  )

  -- the name of a declared symbol
  pub name_is : (name : List ℕ) (n arity : ℕ) → IsDeclared table name n arity → symbol_name table n ≡ name
  name_is name n arity is = ap name_in (get_or_from_slice_get (symbols_of table) n _ _ is.listed)

  -- a live symbol has the name exactly where it has the number of the name
  same_test : (distinct : HasDistinctNames table) (name : List ℕ) (n number arity : ℕ) → IsLive table n → IsDeclared table name number arity → (n == number) ≡ bytes_eq (symbol_name table n) name
  same_test distinct name n number arity live is = same_from_decides (n == number) (bytes_eq (symbol_name table n) name) (Decides-eqb n number) (
    λ e. let named = (bytes_eq-Decides (symbol_name table n) name).0 e in distinct name n number live.1 arity (subst (λ bytes. IsDeclared table bytes n live.1) (sym (name_is live.0 n live.1 live.2) ∙ named) live.2) is,
    λ e. (bytes_eq-Decides (symbol_name table n) name).1 (ap (symbol_name table) e ∙ name_is name number arity is),
  )

  -- what a symbol is in a list, by the numbers of `cons` and `nil`
  pub part_by_numbers : HasDistinctNames table → (cons nil : ℕ) → AreLists table (Some (cons, nil)) → (n args : ℕ) → IsLive table n → symbol_part (n == cons) (n == nil) args ≡ part_in table (Symbol n) args
  part_by_numbers distinct cons nil lists n args live =
      let some = lists.some in
      let has = (has_lists-Decides).1 (record { cons = cons; nil = nil; cons_is = some.0; nil_is = some.1 }) in
      ap (λ b. symbol_part b (n == nil) args) (same_test distinct (codes "cons") n cons 2 live some.0)
      ∙ ap (λ b. symbol_part (bytes_eq (symbol_name table n) (codes "cons")) b args) (same_test distinct (codes "nil") n nil 0 live some.1)
      ∙ sym (cond-true _ _ _ has)

  -- without them no symbol is a part
  pub part_by_none : AreLists table None → (n args : ℕ) → Other ≡ part_in table (Symbol n) args
  part_by_none lists n args = elim (cases_Bool (has_lists table)) [
    | inl has ↦ absurd (lists.none refl (let h = has_lists-Decides.0 has in record { cons = h.cons; nil = h.nil; cons_is = h.cons_is; nil_is = h.nil_is }))
    | inr never ↦ sym (cond-false _ _ _ never)
  ]
