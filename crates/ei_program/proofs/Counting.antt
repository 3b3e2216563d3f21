-- The fault counts of takings, and how much can be taken still.
use Rattle.std.proofs.Common.{◌≡◌, ◌≢◌, ◌⊎◌, ℕ, ◌+◌, ◌-◌, ◌<◌, ◌≤◌, List, length, arith, Option, inl, inr, refl, sym, ◌∙◌, ap, length-append}
use Rattle.eq_ports.specs.Causes.{Rose}
use Rattle.term_input.specs.declared.source_state.SourceState.{SourceState}
use Rattle.term_input.specs.declared.source_state.SourceState.TheVariants.{Open, AtEnd, Failed}
use Rattle.term_input.specs.Streams.{Held, taken_count, MayTake, Takes, IsTakingCount}
use Rattle.term_input.proofs.Streams.{more_taken}
use Rattle.ei_program.specs.Reading.{Goes, IsCounted, IsFarther}

abbrev state_of : Held → SourceState
state_of held = held.state

-- a source that did not say that it is open is not read
not_read : (old : Held) → old.state ≢ Open → MayTake old → ⊥
not_read old other may = other may.0

module _ (before now : ℕ) (mid left : Option (List ℕ)) (old new : Held) (c : IsTakingCount before now old new) (t : Takes mid left old new) where
  kept : old.state ≢ Open → new.state ≡ old.state
  kept other = ap state_of (t.unchanged (not_read old other)).0

  fails_open : (state : SourceState) → old.state ≡ state → old.state ≢ Failed → new.state ≡ Failed → Rose before now
  fails_open Open is sound fails = c.failed (is, fails)
  fails_open AtEnd is sound fails = absurd (sound (sym (kept (λ is_open. apart (sym is ∙ is_open))) ∙ fails))
    where
      apart : AtEnd ≡ Open → ⊥
      apart e = cc (e)
  fails_open Failed is sound fails = absurd (sound is)

  not_open : old.state ≡ Failed → old.state ≢ Open
  not_open is is_open = let e : Failed ≡ Open = sym is ∙ is_open in cc (e)

  -- the count of one taking
  pub counted_take : IsCounted before now old new
  counted_take = record {
    limit = t.limit;
    later = c.later;
    failed = fails_open old.state refl;
    steady = λ sound. c.steady (λ fails. sound fails.1);
    stays = λ is. (kept (not_open is) ∙ is, c.steady (λ fails. not_open is fails.0));
  }

-- a taking for which there is no memory leaves the stream as it was
pub counted_lost : (before now : ℕ) (old new : Held) → IsTakingCount before now old new → new ≡ old → IsCounted before now old new
counted_lost before now old new c same =
    let state : new.state ≡ old.state = ap state_of same in
    let steady : now ≡ before = c.steady (λ fails. let e : Open ≡ Failed = sym fails.0 ∙ sym state ∙ fails.1 in cc (e)) in
    record {
      limit = ap (λ (held : Held). held.limit) same;
      later = c.later;
      failed = λ sound fails. absurd (sound (sym state ∙ fails));
      steady = λ _. steady;
      stays = λ is. (state ∙ is, steady);
    }

-- nothing is read where bytes are given up
pub counted_same : (count : ℕ) (old new : Held) → new.limit ≡ old.limit → new.state ≡ old.state → IsCounted count count old new
counted_same count old new limit state = record {
  limit = limit;
  later = omega arith;
  failed = λ sound fails. absurd (sound (sym state ∙ fails));
  steady = λ _. refl;
  stays = λ is. (state ∙ is, refl);
}

-- ---- how much can be taken still

abbrev pub open_count : SourceState → ℕ
open_count Open = 1
open_count AtEnd = 0
open_count Failed = 0

-- the bytes that may be taken still, and one more for the end of an open source
abbrev pub to_take : Held → ℕ
to_take held = (held.limit + 1 - taken_count held) + open_count held.state

module _ (mid left : Option (List ℕ)) (old new : Held) (t : Takes mid left old new) (may : MayTake old) where
  taken_more : taken_count new ≡ taken_count old + length t.taken
  taken_more = omega (arith, t.place, ap length t.bytes, length-append old.bytes t.taken)

  -- a taking leaves less to be taken
  pub takes_less : to_take new < to_take old
  takes_less = by_state new.state refl
    where
      open_before : open_count old.state ≡ 1
      open_before = ap open_count may.0

      by_state : (state : SourceState) → new.state ≡ state → to_take new < to_take old
      by_state Open is = let some = t.some may is in let one : open_count new.state ≡ 1 = ap open_count is in omega (arith, some, one, open_before, taken_more, t.limit, t.within, may.1)
      by_state AtEnd is = let none : open_count new.state ≡ 0 = ap open_count is in omega (arith, none, open_before, taken_more, t.limit)
      by_state Failed is = let none : open_count new.state ≡ 0 = ap open_count is in omega (arith, none, open_before, taken_more, t.limit)

-- more bytes, or no open source, leave less to be taken too
module _ (old new : Held) (f : IsFarther old new) (limit : new.limit ≡ old.limit) (may : MayTake old) where
  most_open : (state : SourceState) → open_count state ≤ 1
  most_open Open = omega arith
  most_open AtEnd = omega arith
  most_open Failed = omega arith

  none_open : (state : SourceState) → state ≢ Open → open_count state ≡ 0
  none_open Open other = absurd (other refl)
  none_open AtEnd other = refl
  none_open Failed other = refl

  pub farther_less : to_take new < to_take old
  farther_less = by_more f.some
    where
      open_before : open_count old.state ≡ 1
      open_before = ap open_count may.0

      by_more : (length old.bytes < length new.bytes) ⊎ (new.state ≢ Open) → to_take new < to_take old
      by_more (inl more) = omega (arith, more, open_before, most_open new.state, f.place, limit, may.1)
      by_more (inr other) = omega (arith, open_before, none_open new.state other, f.place, f.more, limit)

-- ---- what was taken

pub goes_take : (mid left : Option (List ℕ)) (old new : Held) → (t : Takes mid left old new) → Goes mid left old new (λ taken. Unit {0})
goes_take mid left old new t before taken is = (t.taken, more_taken before mid left taken old new is t, tt)
