-- What a name that the table resolves, or bytes that get a number, mean.
use Rattle.std.proofs.Common.{ℕ, List, [], sym, subst}
use Rattle.std.specs.Prelude.{slice_index_or}
use Rattle.std.proofs.lemmas.Option.{slice_get_within, get_or_from_slice_get}
use Rattle.eq_base.specs.declared.head.Head.{Head}
use Rattle.eq_base.specs.declared.head.Head.TheVariants.{Symbol, Numeral, Atom, Text}
use Rattle.term_lex.specs.Strings.{IsString}
use Rattle.symbol_table.specs.Table.{Table, Keeps, Interns, Resolves, names_of}
use Rattle.symbol_table.specs.Reading.{read_head, IsLiveHead}
use Rattle.symbol_table.proofs.Keeping.{keeps_same, keeps_atom}
use Rattle.written_terms.specs.Meaning.{NamesHead}

-- what a resolved name means, that its number is live, and that nothing else has changed
pub record IsResolved (old new : Table) (name : List ℕ) (args : ℕ) (head : Head) : Type 0 where
  pub means : NamesHead (names_of old) name args (read_head new head)
  pub live : IsLiveHead new head
  pub keeps : Keeps old new

pub resolved : (old new : Table) (name : List ℕ) (args : ℕ) (head : Head) → Resolves old new name args head
    → IsResolved old new name args head
resolved old new name args (Symbol n) (is, same) = record {
  means = is;
  live = subst (λ (t : Table). IsLiveHead t (Symbol n)) (sym same) (name, args, is);
  keeps = keeps_same old new same;
}
resolved old new name args (Atom n) (fresh, none, has, (interns, is)) = record {
  means = (fresh, none, has, get_or_from_slice_get new.atoms n name [] interns.here);
  live = slice_get_within new.atoms n name interns.here;
  keeps = keeps_atom old new name n (interns, is);
}
resolved old new name args (Numeral i) is = absurd is
resolved old new name args (Text n) is = absurd is

-- the number of a string stands for what the string holds
pub interned-string : (old new : List (List ℕ)) (bytes value : List ℕ) (n : ℕ) → IsString bytes value → Interns old new value n
    → IsString bytes (slice_index_or new n [])
interned-string old new bytes value n holds interns =
    subst (IsString bytes) (sym (get_or_from_slice_get new n value [] interns.here)) holds
