-- What comes next in what was taken: behind a gap, a term or the end.
use Rattle.std.proofs.Common.{◌≡◌, ◌≢◌, ℕ, ◌≤◌, List, [], ◌∷◌, ◌++◌, length, take, arith, Option, Ok, Err, inl, inr, refl, sym, ◌∙◌, ap, subst}
use Rattle.std.specs.Io.KnownBytes.{IsAtEnd}
use Rattle.std.proofs.lemmas.List.{length-take}
use Rattle.term_lex.specs.declared.fault.Fault.{Fault}
use Rattle.term_lex.specs.declared.syntax.Syntax.{Syntax}
use Rattle.symbol_table.specs.Table.{Table, HasDistinctNames}
use Rattle.symbol_table.specs.Reading.{read}
use Rattle.term_input.specs.declared.source_state.SourceState.{SourceState}
use Rattle.term_input.specs.declared.source_state.SourceState.TheVariants.{Open, AtEnd, Failed}
use Rattle.term_input.specs.Places.{NothingLeft, StandsNext}
use Rattle.term_input.specs.Ending.{BytesEnded}
use Rattle.term_input.specs.Inputs as inputs
use Rattle.term_input.specs.TermReading.{ReadsOne}
use Rattle.term_input.specs.Streams.{Held, MayTake, IsTaken}
use Rattle.term_input.proofs.Gaps.{next_front}
use Rattle.term_input.proofs.Inputs.{front_take}
use Rattle.ei_program.specs.declared.reading.End.{End}
use Rattle.ei_program.specs.declared.reading.End.TheVariants as ends
use Rattle.ei_program.specs.declared.reading.Next.{Next}
use Rattle.ei_program.specs.declared.reading.Next.TheVariants as nexts
use Rattle.ei_program.specs.Reading.{end_of, TermNext, IsThing, ComesNext}
use Rattle.ei_program.proofs.Taken.{count, settled_behind, settled_at}

-- what stands behind a gap of a front of the taken bytes stands there where more is taken
pub stands_more : (limit at from : ℕ) (taken more : List ℕ) → at ≤ length (take limit taken) → StandsNext (take limit taken) at from → StandsNext (take limit (taken ++ more)) at from
stands_more limit at from taken more le stands =
    let (others, longer) = front_take limit taken more in
    subst (λ bs. StandsNext bs at from) (sym longer) (next_front (take limit taken) others at from le stands)

module _ (syntax : Syntax) (names : Table) (distinct : HasDistinctNames names) (table : Table) (before left : Option (List ℕ)) (taken : List ℕ) (old new : Held) (is : IsTaken before left taken new) (limit : new.limit ≡ old.limit) (within : old.place ≤ length (take old.limit taken)) where
  -- ---- nothing is left

  -- nothing is left of an input that is read to its end
  nothing_more : new.place ≡ length (take old.limit taken) → ¬ MayTake new → (end : End) → ((new.bytes ≡ []) → end ≡ ends.Whole) → (new.bytes ≢ [] → end ≡ ends.Long) → new.state ≢ Failed → end ≡ ends.Whole → IsAtEnd left
  nothing_more place no_more end whole long sound e = by_state new.state refl
    where
      no_bytes : (bytes : List ℕ) → new.bytes ≡ bytes → length new.bytes ≡ 0
      no_bytes [] same = ap length same
      no_bytes (b ∷ bytes) same = absurd (apart (sym e ∙ long (λ empty. some (sym same ∙ empty))))
        where
          some : (b ∷ bytes) ≡ [] → ⊥
          some none = cc (none)

          apart : ends.Whole ≡ ends.Long → ⊥
          apart both = cc (both)

      may : new.state ≡ Open → MayTake new
      may is_open = (is_open, omega (arith, no_bytes new.bytes refl, place, limit, length-take old.limit taken))

      by_state : (state : SourceState) → new.state ≡ state → IsAtEnd left
      by_state Open is_open = absurd (no_more (may is_open))
      by_state AtEnd ended = is.at_end ended
      by_state Failed failed = absurd (sound failed)

  -- how reading ends there
  ends_behind : new.place ≡ length (take old.limit taken) → (end : End) → (new.bytes ≡ [] → end ≡ ends.Whole) → (new.bytes ≢ [] → end ≡ ends.Long) → inputs.EndsBehind (ReadsOne syntax names) BytesEnded old.limit taken (end_of end)
  ends_behind place end whole long = by_bytes new.bytes refl
    where
      by_bytes : (bytes : List ℕ) → new.bytes ≡ bytes → inputs.EndsBehind (ReadsOne syntax names) BytesEnded old.limit taken (end_of end)
      by_bytes [] same = inl (omega (arith, ap length same, place, count syntax names before left taken new is, length-take old.limit taken), ap end_of (whole same))
      by_bytes (b ∷ bytes) same = inr (omega (arith, ap length same, place, count syntax names before left taken new is, length-take old.limit taken), ap end_of (long (λ empty. some (sym same ∙ empty))))
        where
          some : (b ∷ bytes) ≡ [] → ⊥
          some none = cc (none)

  pub end_comes : NothingLeft (take old.limit taken) old.place → new.place ≡ length (take old.limit taken) → ¬ MayTake new → (end : End) → (new.bytes ≡ [] → end ≡ ends.Whole) → (new.bytes ≢ [] → end ≡ ends.Long) → ComesNext syntax names table old new left (nexts.End end) taken
  end_comes nothing place no_more end whole long =
      let next : TermNext syntax names old.limit taken old.place (Err (end_of end)) = inl (nothing, ends_behind place end whole long) in
      let there = subst (λ n. TermNext syntax names n taken old.place (Err (end_of end))) (sym limit) next in (
        next,
        record {
          stays = λ sound rest leaves. subst (λ n. TermNext syntax names n (taken ++ rest) old.place (Err (end_of end))) limit (settled_behind syntax names before left taken new is old.place (Err (end_of end)) there rest leaves no_more sound);
          at_end = nothing_more place no_more end whole long;
        },
      )

  -- ---- something stands there

  module _ (mid : Held) (mid_limit : mid.limit ≡ old.limit) (stands : StandsNext (take old.limit taken) old.place mid.place) where
    not_whole : (fault : Fault) (end : End) → inputs.EndsAt (ReadsOne syntax names) BytesEnded mid.limit taken mid.place fault (end_of end) → end ≡ ends.Whole → ⊥
    not_whole fault end (inl p) e = let no = sym p.1 ∙ ap end_of e in cc (no)
    not_whole fault end (inr (inl p)) e = let no = sym p.2 ∙ ap end_of e in cc (no)
    not_whole fault end (inr (inr p)) e = let no = sym p.2 ∙ ap end_of e in cc (no)

    pub thing_comes : (next : Next) → IsThing syntax names table mid new next taken → ComesNext syntax names table old new left next taken
    thing_comes (nexts.Term t) (len, reads, place) =
        (mid.place, len, stands, subst (λ n. ReadsOne syntax names (inputs.window (ReadsOne syntax names) BytesEnded n taken mid.place) (Ok (read table t, len))) mid_limit reads, place)
    thing_comes (nexts.End end) (fault, reads, at_end, place, no_change) =
        let reads_there = subst (λ n. ReadsOne syntax names (inputs.window (ReadsOne syntax names) BytesEnded n taken mid.place) (Err fault)) mid_limit reads in
        let ends_there = subst (λ n. inputs.EndsAt (ReadsOne syntax names) BytesEnded n taken mid.place fault (end_of end)) mid_limit at_end in
        let next : TermNext syntax names old.limit taken old.place (Err (end_of end)) = inr (mid.place, fault, stands, reads_there, ends_there) in
        let there = subst (λ n. TermNext syntax names n taken old.place (Err (end_of end))) (sym limit) next in
        let stands_new : StandsNext (take new.limit taken) old.place new.place = subst (λ n. StandsNext (take n taken) old.place new.place) (sym limit) (subst (StandsNext (take old.limit taken) old.place) (sym place) stands) in
        let within_new : old.place ≤ length (take new.limit taken) = subst (λ n. old.place ≤ length (take n taken)) (sym limit) within in (
          next,
          record {
            stays = λ sound rest leaves. subst (λ n. TermNext syntax names n (taken ++ rest) old.place (Err (end_of end))) limit (settled_at syntax names before left taken new is old.place (Err (end_of end)) there rest leaves distinct within_new stands_new no_change sound);
            at_end = λ sound e. absurd (not_whole fault end at_end e);
          },
        )
