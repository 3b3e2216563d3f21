-- Limits that are kept or passed, in lists.
use Rattle.std.proofs.Common.{ℕ, List, [], ◌∷◌, ◌++◌, inl, inr, Option, Some, None}
use Rattle.term_lex.specs.declared.fault.Fault.{Fault}
use Rattle.written_terms.specs.Notation.{Notation}
use Rattle.def_file.specs.Names.{Known}
use Rattle.def_file.specs.Sides.{Limit, KeepsAll, PassesFirst, AnswersLimits}
use Rattle.def_file.specs.Taking.{first_fault}

module _ (notation : Notation) (text : List ℕ) (known : Known) where
  pub keeps_append : (xs ys : List Limit) → KeepsAll notation text known xs → KeepsAll notation text known ys → KeepsAll notation text known (xs ++ ys)
  keeps_append [] ys k l = l
  keeps_append (x ∷ xs) ys (k, ks) l = (k, keeps_append xs ys ks l)

  pub passes_before : (xs ys : List Limit) (f : Fault) → PassesFirst notation text known xs f → PassesFirst notation text known (xs ++ ys) f
  passes_before [] ys f p = absurd p
  passes_before (x ∷ xs) ys f (inl p) = inl p
  passes_before (x ∷ xs) ys f (inr (k, p)) = inr (k, passes_before xs ys f p)

  pub passes_behind : (xs ys : List Limit) (f : Fault) → KeepsAll notation text known xs → PassesFirst notation text known ys f → PassesFirst notation text known (xs ++ ys) f
  passes_behind [] ys f k p = p
  passes_behind (x ∷ xs) ys f (k, ks) p = inr (k, passes_behind xs ys f ks p)

  -- behind limits that are kept, what the others answer
  pub answers_behind : (xs ys : List Limit) (r : Option Fault) → KeepsAll notation text known xs → AnswersLimits notation text known ys r → AnswersLimits notation text known (xs ++ ys) r
  answers_behind xs ys None k a = keeps_append xs ys k a
  answers_behind xs ys (Some f) k a = passes_behind xs ys f k a

  pub answers_append : (xs ys : List Limit) (r s : Option Fault) → AnswersLimits notation text known xs r → AnswersLimits notation text known ys s → AnswersLimits notation text known (xs ++ ys) (first_fault r s)
  answers_append xs ys None s a b = answers_behind xs ys s a b
  answers_append xs ys (Some f) s a b = passes_before xs ys f a
