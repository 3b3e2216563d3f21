-- What tables answer of states that they have answered.
use Rattle.std.proofs.Common.{ℕ, arith}
use Rattle.std.proofs.lemmas.Option.{slice_get_within}
use Rattle.eq_base.specs.declared.head.Head.{Head}
use Rattle.match_tables.specs.Answering.{ReadLeads, SkipLeads}
use Rattle.match_tables.specs.Tabled.{IsState}
use Rattle.match_tables.specs.declared.tables.Tables.{Tables}
use Rattle.graph_tests.specs.KnownStates.{IsKnown}

module _ (tables : Tables) (state : ℕ) (known : IsKnown tables state) where
  pub state-of : IsState tables state
  state-of = let lt = slice_get_within tables.sets state known.items known.stands in let many = known.some.are.as_many in omega (arith, lt, many)

  pub read-known : (head : Head) (next : ℕ) → ReadLeads known.some.rules tables.sets known.items head next → IsKnown tables next
  read-known head next r = record { some = known.some; items = r.set; stands = r.stands }

  pub skip-known : (next : ℕ) → SkipLeads known.some.rules tables.sets known.items next → IsKnown tables next
  skip-known next s = record { some = known.some; items = s.set; stands = s.stands }
