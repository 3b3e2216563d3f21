-- What is taken for the next term, until it is read or its fault stands.
use Rattle.std.proofs.Common.{◌≡◌, ◌≢◌, ◌⊎◌, ℕ, ◌+◌, ◌<◌, ◌≤◌, true, false, List, [], ◌++◌, length, take, arith, Option, Result, Ok, Err, inl, inr, refl, sym, ◌∙◌, ap, subst, append_assoc, length-append}
use Rattle.eq_base.specs.declared.head.Head.{Head}
use Rattle.eq_base.specs.Tree.{Tree}
use Rattle.eq_base.specs.ReadHead.{ReadHead}
use Rattle.term_lex.specs.declared.fault.Fault.{Fault}
use Rattle.term_lex.specs.declared.syntax.Syntax.{Syntax}
use Rattle.symbol_table.specs.Table.{Table, HasDistinctNames, Keeps, names_of}
use Rattle.symbol_table.proofs.Keeping.{names_kept}
use Rattle.symbol_table.specs.Reading.{read}
use Rattle.def_file.specs.Notations.{notation_of}
use Rattle.term_input.specs.declared.source_state.SourceState.{SourceState}
use Rattle.term_input.specs.declared.source_state.SourceState.TheVariants.{Open, AtEnd, Failed}
use Rattle.term_input.specs.Ending.{BytesEnded}
use Rattle.term_input.specs.Inputs as inputs
use Rattle.term_input.specs.TermReading.{ReadsOne}
use Rattle.term_input.specs.Streams.{Held, MayTake, Takes, IsTaken}
use Rattle.term_input.proofs.Streams.{given_up}
use Rattle.term_input.proofs.TermReaders.{term_within}
use Rattle.ei_program.specs.declared.reading.End.{End}
use Rattle.ei_program.specs.declared.reading.End.TheVariants as ends
use Rattle.ei_program.specs.declared.reading.Next.{Next}
use Rattle.ei_program.specs.declared.reading.Next.TheVariants as nexts
use Rattle.ei_program.specs.Reading.{end_of, window_of, MayChange, EndsSo, Goes, IsFarther, SkipsTo, window, IsThing, ComesNext}
use Rattle.ei_program.proofs.Taken.{window_taken, ends_taken, goes_then, goes_weaker}
use Rattle.ei_program.proofs.Lengths.{le_zero, le_then, behind_front, behind_le}
use Rattle.ei_program.proofs.HeldWindows.{window_held, window_most}
use Rattle.ei_program.proofs.Counting.{goes_take}
use Rattle.ei_program.proofs.Skipping.{given}
use Rattle.ei_program.proofs.NextTerms.{stands_more, end_comes, thing_comes}

-- one more taking brings more bytes, or the end or a failure of the source
pub farther : (b c : Option (List ℕ)) (old mid new : Held) → mid.place ≡ old.place → length old.bytes ≤ length mid.bytes → MayTake mid → Takes b c mid new → IsFarther old new
farther b c old mid new place more may t = record { place = t.place ∙ place; more = omega (arith, more, longer); some = by_state new.state refl }
  where
    longer : length new.bytes ≡ length mid.bytes + length t.taken
    longer = ap length t.bytes ∙ length-append mid.bytes t.taken

    by_state : (state : SourceState) → new.state ≡ state → (length old.bytes < length new.bytes) ⊎ (new.state ≢ Open)
    by_state Open is = let some = t.some may is in inl (omega (arith, some, more, longer))
    by_state AtEnd is = inr (λ is_open. let no : Open ≡ AtEnd = sym is_open ∙ is in cc (no))
    by_state Failed is = inr (λ is_open. let no : Open ≡ Failed = sym is_open ∙ is in cc (no))

-- bytes were taken, and more
pub gone_on : (a b c : Option (List ℕ)) (old mid new : Held) → Goes a b old mid (λ taken. Unit {0}) → Takes b c mid new → Goes a c old new (λ taken. Unit {0})
gone_on a b c old mid new gone t = goes_then a b c old mid new (λ taken. Unit {0}) (λ taken. Unit {0}) gone (goes_take b c mid new t)

-- a term is read in the window of what is held, by names that have not changed
pub reads_there : (syntax : Syntax) (old now : Table) → Keeps old now → (window : List ℕ) (held : Held) → window ≡ window_of held → (r : Result (Tree ReadHead × ℕ) Fault) → ReadsOne syntax (names_of now) window r → ReadsOne syntax (names_of old) (window_of held) r
reads_there syntax old now k window held is r reads = subst (λ n. ReadsOne syntax n (window_of held) r) (names_kept old now k) (subst (λ w. ReadsOne syntax (names_of now) w r) is reads)

-- and has a length that can be counted
pub len_fits : (syntax : Syntax) (names : Table) (held : Held) (t : Tree ReadHead) (len : ℕ) → ReadsOne syntax names (window_of held) (Ok (t, len)) → len ≤ inputs.window_bytes
len_fits syntax names held t len reads = le_then len (length (window_of held)) inputs.window_bytes (term_within (notation_of syntax) names (window_of held) 0 t len (le_zero (length (window_of held))) reads).1 (window_most held)

module _ (syntax : Syntax) (names : Table) (table : Table) (a b : Option (List ℕ)) (old mid : Held) (place_is : mid.place ≡ old.place) (limit : mid.limit ≡ old.limit) (gone : Goes a b old mid (λ taken. Unit {0})) where
  -- the window of what is held is that of the first place in all that was taken
  window_there : (before : Option (List ℕ)) (taken : List ℕ) → IsTaken before b taken mid → window_of mid ≡ window syntax names old.limit taken old.place
  window_there before taken is =
      window_taken syntax names before b taken mid is
      ∙ ap (λ n. window syntax names n taken mid.place) limit
      ∙ ap (window syntax names old.limit taken) place_is

  -- ---- a term

  module _ (t : Tree Head) (len place : ℕ) (reads : ReadsOne syntax names (window_of mid) (Ok (read table t, len))) (behind : place ≡ mid.place + len) where
    len_within : len ≤ length (window_of mid)
    len_within = (term_within (notation_of syntax) names (window_of mid) 0 (read table t) len (le_zero (length (window_of mid))) reads).1

    -- its bytes were taken
    pub term_taken : place ≤ mid.place + length mid.bytes
    term_taken = behind_front place mid.place len (length (window_of mid)) (length mid.bytes) behind len_within (window_held mid)

    pub term_read : Goes a b old (given mid place) (IsThing syntax names table old (given mid place) (nexts.Term t))
    term_read before taken is =
        let (more, there, none) = gone before taken is in
        let moved = subst (λ w. ReadsOne syntax names w (Ok (read table t, len))) (window_there before (taken ++ more) there) reads in
        (more, given_up before b (taken ++ more) mid place there (behind_le place mid.place len behind) term_taken, (len, moved, behind ∙ ap (λ n. n + len) place_is))

  -- ---- the end

  pub end_read : (fault : Fault) (end : End) → ReadsOne syntax names (window_of mid) (Err fault) → EndsSo mid fault end → ¬ MayChange mid → Goes a b old mid (IsThing syntax names table old mid (nexts.End end))
  end_read fault end reads so no_change before taken is =
      let (more, there, none) = gone before taken is in
      let all = taken ++ more in
      let moved = subst (λ w. ReadsOne syntax names w (Err fault)) (window_there before all there) reads in
      let ends_mid = ends_taken syntax names before b all mid there fault end so in
      let by_limit = subst (λ n. inputs.EndsAt (ReadsOne syntax names) BytesEnded n all mid.place fault (end_of end)) limit ends_mid in
      let by_place = subst (λ n. inputs.EndsAt (ReadsOne syntax names) BytesEnded old.limit all n fault (end_of end)) place_is by_limit in
      (more, there, (fault, moved, by_place, place_is, no_change))

-- ---- behind a gap

module _ (syntax : Syntax) (names : Table) (distinct : HasDistinctNames names) (table : Table) (a b : Option (List ℕ)) (old : Held) where
  -- nothing stands there
  pub end_behind_gap : (new : Held) → new.limit ≡ old.limit → Goes a b old new (SkipsTo false old new) → (end : End) → (new.bytes ≡ [] → end ≡ ends.Whole) → (new.bytes ≢ [] → end ≡ ends.Long) → Goes a b old new (ComesNext syntax names table old new b (nexts.End end))
  end_behind_gap new limit gone end whole long =
      goes_weaker a b old new (SkipsTo false old new) (ComesNext syntax names table old new b (nexts.End end))
      (λ before taken is p. end_comes syntax names distinct table before b taken old new is limit (let nothing = p.0 in omega (arith, nothing.behind)) p.0 p.1 p.2 end whole long)
      gone

  -- a term or its fault stands there
  pub thing_behind_gap : (c : Option (List ℕ)) (mid new : Held) → mid.limit ≡ old.limit → new.limit ≡ mid.limit → Goes a b old mid (SkipsTo true old mid) → (next : Next) → Goes b c mid new (IsThing syntax names table mid new next) → Goes a c old new (ComesNext syntax names table old new c next)
  thing_behind_gap c mid new mid_limit limit gone next thing before taken is =
      let (more, there, stands) = gone before taken is in
      let (others, last, comes) = thing before (taken ++ more) there in
      let all = (taken ++ more) ++ others in
      let within : old.place ≤ length (take old.limit (taken ++ more)) = omega (arith, stands.0.behind, stands.1) in
      let stands_there = stands_more old.limit old.place mid.place (taken ++ more) others within stands in
      let within_all : old.place ≤ length (take old.limit all) = omega (arith, stands_there.0.behind, stands_there.1) in
      let holds = thing_comes syntax names distinct table before c all old new last (limit ∙ mid_limit) within_all mid mid_limit stands_there next comes in
      let parts = append_assoc taken more others in
      (more ++ others, subst (λ bs. IsTaken before c bs new) parts last, subst (ComesNext syntax names table old new c next) parts holds)
