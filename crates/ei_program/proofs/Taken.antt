-- What was taken of an input and is held: its window, its end, and what the end says of the whole input.
use Rattle.std.proofs.Common.{◌≡◌, ◌≢◌, ◌⊎◌, ℕ, zero, suc, ◌+◌, ◌-◌, ◌<◌, ◌≤◌, List, [], ◌∷◌, ◌++◌, length, drop, take, arith, Option, Some, Result, inl, inr, refl, sym, ◌∙◌, ap, subst, length-drop, append-nil, append_assoc}
use Rattle.std.specs.Io.KnownBytes.{IsAtEnd}
use Rattle.std.proofs.lemmas.Bool.{cases_order}
use Rattle.eq_base.specs.Tree.{Tree}
use Rattle.eq_base.specs.ReadHead.{ReadHead}
use Rattle.eq_ports.specs.Causes.{Rose}
use Rattle.term_lex.specs.declared.fault.Fault.{Fault}
use Rattle.term_lex.specs.declared.syntax.Syntax.{Syntax}
use Rattle.symbol_table.specs.Table.{Table, HasDistinctNames}
use Rattle.term_input.specs.declared.source_state.SourceState.{SourceState}
use Rattle.term_input.specs.declared.source_state.SourceState.TheVariants.{Open, AtEnd, Failed}
use Rattle.term_input.specs.Places.{StandsNext}
use Rattle.term_input.specs.Ending.{BytesEnded}
use Rattle.term_input.specs.Inputs as inputs
use Rattle.term_input.specs.TermReading.{ReadsOne}
use Rattle.term_input.specs.Streams.{Held, taken_count, MayTake, IsTaken}
use Rattle.term_input.proofs.TermReaders.{term_reader}
use Rattle.term_input.proofs.Windows.{next_past_limit, next_of_window}
use Rattle.ei_program.specs.declared.reading.End.{End}
use Rattle.ei_program.specs.Reading.{end_of, readable, window_of, MayChange, EndsSo, Goes, IsCounted, TermNext, window}
use Rattle.ei_program.proofs.Lengths.{further, further_held}

none_taken : {A : Type 0} (k : ℕ) → [] ≡ take {A = A} k []
none_taken zero = refl
none_taken (suc k) = refl

-- the front of a text, and what is behind a place of it
pub drop_take : {A : Type 0} (n m : ℕ) (xs : List A) → drop n (take m xs) ≡ take (m - n) (drop n xs)
drop_take zero m xs = let same : m ≡ m - 0 = omega arith in ap (λ k. take k xs) same
drop_take (suc n) zero xs = let same : 0 ≡ 0 - suc n = omega arith in ap (λ k. take k (drop (suc n) xs)) same
drop_take (suc n) (suc m) [] = none_taken (suc m - suc n)
drop_take (suc n) (suc m) (x ∷ xs) = let same : m - n ≡ suc m - suc n = omega arith in drop_take n m xs ∙ ap (λ k. take k (drop n xs)) same

module _ (syntax : Syntax) (names : Table) (before left : Option (List ℕ)) (taken : List ℕ) (held : Held) (is : IsTaken before left taken held) where
  -- how many bytes were taken
  pub count : length taken ≡ taken_count held
  count =
      let behind : length held.bytes ≡ length taken - held.place = ap length is.bytes ∙ length-drop held.place taken in
      omega (arith, behind, is.place)

  -- the bytes that can be read are those behind the place
  pub readable_taken : readable held ≡ drop held.place (take held.limit taken)
  readable_taken = ap (take (held.limit - held.place)) is.bytes ∙ sym (drop_take held.place held.limit taken)

  -- and the window is that of the place
  pub window_taken : window_of held ≡ window syntax names held.limit taken held.place
  window_taken = ap (take inputs.window_bytes) readable_taken

  -- the bytes go on behind the window that is held where what was taken does
  goes_on : length (window_of held) < length held.bytes → held.place + length (window syntax names held.limit taken held.place) < length taken
  goes_on lt = further (length (window syntax names held.limit taken held.place)) (length held.bytes) held.place (length taken) (sym count) (subst (λ n. n < length held.bytes) (ap length window_taken) lt)

  goes_on_held : held.place + length (window syntax names held.limit taken held.place) < length taken → length (window_of held) < length held.bytes
  goes_on_held lt = subst (λ n. n < length held.bytes) (sym (ap length window_taken)) (further_held (length (window syntax names held.limit taken held.place)) (length held.bytes) held.place (length taken) (sym count) lt)

  -- the end at the first byte that is held is the end there in what was taken
  pub ends_taken : (fault : Fault) (end : End) → EndsSo held fault end → inputs.EndsAt (ReadsOne syntax names) BytesEnded held.limit taken held.place fault (end_of end)
  ends_taken fault end (inl (whole, e)) =
      inl ((λ cut. whole (subst (λ w. BytesEnded w fault) (sym window_taken) cut.0, goes_on_held cut.1)), ap end_of e)
  ends_taken fault end (inr (inl ((ended, more), full, e))) =
      inr (inl ((subst (λ w. BytesEnded w fault) window_taken ended, goes_on more), sym (ap length window_taken) ∙ full, ap end_of e))
  ends_taken fault end (inr (inr ((ended, more), short, e))) =
      inr (inr ((subst (λ w. BytesEnded w fault) window_taken ended, goes_on more), subst (λ n. n < inputs.window_bytes) (ap length window_taken) short, ap end_of e))

  -- ---- the whole input

  -- nothing is left where the source is at its end
  whole_rest : (rest : List ℕ) → left ≡ Some rest → IsAtEnd left → taken ++ rest ≡ taken
  whole_rest rest leaves ended = let none : rest ≡ [] = subst IsAtEnd leaves ended in ap (λ bs. taken ++ bs) none ∙ append-nil taken

  module _ (at : ℕ) (r : Result (Tree ReadHead × ℕ) inputs.End) (next : TermNext syntax names held.limit taken at r) (rest : List ℕ) (leaves : left ≡ Some rest) where
    -- what comes next in the whole input, where one byte more than the limit was taken
    past_limit : held.limit < taken_count held → TermNext syntax names held.limit (taken ++ rest) at r
    past_limit more = next_past_limit (ReadsOne syntax names) BytesEnded held.limit taken rest at r (omega (arith, more, count, is.within)) next

    -- or where the source is at its end
    at_end : held.state ≡ AtEnd → TermNext syntax names held.limit (taken ++ rest) at r
    at_end ended = subst (λ bs. TermNext syntax names held.limit bs at r) (sym (whole_rest rest leaves (is.at_end ended))) next

    pub settled_behind : ¬ MayTake held → held.state ≢ Failed → TermNext syntax names held.limit (taken ++ rest) at r
    settled_behind no_more no_failure = by_state held.state refl
      where
        past : held.state ≡ Open → held.limit < taken_count held
        past is_open = elim (cases_order (taken_count held) held.limit) [
          | inl same ↦ absurd (no_more (is_open, omega (arith, same)))
          | inr (inl less) ↦ absurd (no_more (is_open, omega (arith, less)))
          | inr (inr more) ↦ more
        ]

        by_state : (state : SourceState) → held.state ≡ state → TermNext syntax names held.limit (taken ++ rest) at r
        by_state Open is_open = past_limit (past is_open)
        by_state AtEnd ended = at_end ended
        by_state Failed failed = absurd (no_failure failed)

    -- or where a whole window was taken, and one byte more
    pub settled_at : HasDistinctNames names → at ≤ length (take held.limit taken) → StandsNext (take held.limit taken) at held.place → ¬ MayChange held → held.state ≢ Failed → TermNext syntax names held.limit (taken ++ rest) at r
    settled_at distinct le stands no_change no_failure = by_state held.state refl
      where
        -- the bytes are too many for a window, or too many for the limit
        long : inputs.window_bytes < length held.bytes → TermNext syntax names held.limit (taken ++ rest) at r
        long more = next_of_window (ReadsOne syntax names) BytesEnded held.limit taken rest (term_reader syntax names distinct) at held.place r le stands (omega (arith, more, count)) next

        open_end : held.state ≡ Open → TermNext syntax names held.limit (taken ++ rest) at r
        open_end is_open = elim (cases_order (length held.bytes) inputs.window_bytes) [
          | inr (inr more) ↦ long more
          | inl same ↦ short (omega (arith, same))
          | inr (inl less) ↦ short (omega (arith, less))
        ]
          where
            short : length held.bytes ≤ inputs.window_bytes → TermNext syntax names held.limit (taken ++ rest) at r
            short fits = elim (cases_order (taken_count held) held.limit) [
              | inl same ↦ absurd (no_change ((is_open, omega (arith, same)), fits))
              | inr (inl less) ↦ absurd (no_change ((is_open, omega (arith, less)), fits))
              | inr (inr more) ↦ past_limit more
            ]

        by_state : (state : SourceState) → held.state ≡ state → TermNext syntax names held.limit (taken ++ rest) at r
        by_state Open is_open = open_end is_open
        by_state AtEnd ended = at_end ended
        by_state Failed failed = absurd (no_failure failed)

-- ---- one taking after another

pub goes_then : (a b c : Option (List ℕ)) (s t u : Held) (P Q : List ℕ → Type 0) → Goes a b s t P → Goes b c t u Q → Goes a c s u Q
goes_then a b c s t u P Q first second before taken is =
    let (more, mid, p) = first before taken is in
    let (others, last, q) = second before (taken ++ more) mid in
    let parts = append_assoc taken more others in
    (more ++ others, subst (λ bs. IsTaken before c bs u) parts last, subst Q parts q)

-- what holds of all bytes that were taken holds of what more was taken too
pub goes_weaker : (a b : Option (List ℕ)) (s t : Held) (P Q : List ℕ → Type 0) → ((before : Option (List ℕ)) (taken : List ℕ) → IsTaken before b taken t → P taken → Q taken) → Goes a b s t P → Goes a b s t Q
goes_weaker a b s t P Q each first before taken is =
    let (more, mid, p) = first before taken is in
    (more, mid, each before (taken ++ more) mid p)

-- whether a read failed is decided
pub failed_or_not : (state : SourceState) → (state ≡ Failed) ⊎ (state ≢ Failed)
failed_or_not Open = inr (λ no. cc (no))
failed_or_not AtEnd = inr (λ no. cc (no))
failed_or_not Failed = inl refl

-- the counts of two takings
pub counted_then : (a b c : ℕ) (s t u : Held) → IsCounted a b s t → IsCounted b c t u → IsCounted a c s u
counted_then a b c s t u p q = record {
  limit = q.limit ∙ p.limit;
  later = omega (arith, p.later, q.later);
  failed = λ sound fails. rises (failed_or_not t.state) sound fails;
  steady = λ sound. q.steady sound ∙ p.steady (λ fails. sound (q.stays fails).0);
  stays = λ fails. ((q.stays (p.stays fails).0).0, (q.stays (p.stays fails).0).1 ∙ (p.stays fails).1);
}
  where
    rises : (t.state ≡ Failed) ⊎ (t.state ≢ Failed) → s.state ≢ Failed → u.state ≡ Failed → Rose a c
    rises (inl fails) sound last = let rose = p.failed sound fails in omega (arith, rose, q.later)
    rises (inr fine) sound last = let rose = q.failed fine last in omega (arith, rose, p.later)
