use Rattle.std.specs.Prelude.{nat_lt}
use Rattle.std.proofs.Common.{◌≡◌, ◌<◌, ◌≤◌, ℕ, ◌+◌, false, refl, sym, ◌∙◌, ap, subst, arith, length}
use Rattle.term_input.specs.Streams.{Held, MayTake}
use Rattle.ei_program.specs.Reading.{Goes, SkipsTo}
use Rattle.ei_program.proofs.Taken.{counted_then}
use Rattle.ei_program.proofs.Counting.{to_take, counted_take, counted_same, takes_less}
use Rattle.ei_program.proofs.Lengths.{le_then, not_below}
use Rattle.ei_program.proofs.Skipping.{GapTo, given_in, given_to_take, gap_goes_on, gap_left, gap_more}
use Rattle.ei_program.proofs.reading.skip_gap.Goals.{then-stands-via-then-stands, then-stands-via-else-stands+then-not-may_take}
use Rattle.ei_program.proofs.reading.skip_gap.Goals as goal

pub returns-then-stands-clause-goes : goal.returns-then-stands-clause-goes
returns-then-stands-clause-goes g c =
    let i = c.gap.invariant in
    let a = g.I.Source.left c.args.input.now in
    let b = g.I.Source.left c.gap.input in
    let old = c.args.stream.now in
    let n = c.skipped-len.result.0 in
    let bytes = c.readable-readable.result.now in
    let stands = nat_lt n (length bytes) in
    let no_more : stands ≡ false → ¬ MayTake c.drop_to.new.self = elim c.then-stands.branch [
      | then-stands-via-then-stands w ↦ λ is. absurd (not_below n (length bytes) w.if-stands.true is)
      | then-stands-via-else-stands+then-not-may_take w ↦ λ is may. let yes = w.may_take.ensures.1 may in let no = w.if-not-may_take.true in cc (yes, no)
    ] in
    let left = gap_left a b old c.gap.stream c.gap.in_comment i.count.limit i.from i.gone bytes c.readable-readable.ensures n (c.place.result + n) (ap (λ k. k + n) c.place.ensures.place) c.skipped-len.ensures.within
    stands c.skipped-len.result.1 refl c.skipped-len.ensures.passed c.skipped-len.ensures.ends (subst (λ (h : Held). stands ≡ false → ¬ MayTake h) c.drop_to.ensures no_more) in
    subst (λ (h : Held). Goes a b old h (SkipsTo stands old h)) (sym c.drop_to.ensures) left

pub gap-smaller : goal.gap-smaller
gap-smaller g c =
    let b = g.I.Source.left c.gap.input in
    let left = g.I.Source.left c.take_more.new.source in
    let n = c.skipped-len.result.0 in
    let place = c.place.result + n in
    let inside = given_in c.gap.stream c.readable-readable.result.now c.readable-readable.ensures n place (ap (λ k. k + n) c.place.ensures.place) c.skipped-len.ensures.within c.gap.invariant.within in
    let same : to_take c.drop_to.new.self ≡ to_take c.gap.stream = ap to_take c.drop_to.ensures ∙ given_to_take c.gap.stream place inside.0 inside.1 in
    let less = takes_less b left c.drop_to.new.self c.take_more.new.self c.in_ok-take_more.ensures.takes (c.may_take.ensures.0 c.if-not-may_take.false) in
    subst (λ k. to_take c.take_more.new.self < k) same less

pub gap-preserved : goal.gap-preserved
gap-preserved g c =
    let i = c.gap.invariant in
    let e = c.in_ok-take_more.ensures in
    let a = g.I.Source.left c.args.input.now in
    let b = g.I.Source.left c.gap.input in
    let left = g.I.Source.left c.take_more.new.source in
    let before = g.I.Source.faults c.args.input.now in
    let between = g.I.Source.faults c.gap.input in
    let now = g.I.Source.faults c.take_more.new.source in
    let old = c.args.stream.now in
    let mid = c.gap.stream in
    let dropped = c.drop_to.new.self in
    let new = c.take_more.new.self in
    let n = c.skipped-len.result.0 in
    let inside = c.skipped-len.result.1 in
    let place = c.place.result + n in
    let place_is : place ≡ mid.place + n = ap (λ k. k + n) c.place.ensures.place in
    let within = given_in mid c.readable-readable.result.now c.readable-readable.ensures n place place_is c.skipped-len.ensures.within i.within in
    let given_goes = gap_goes_on a b old mid c.gap.in_comment i.count.limit i.from i.gone c.readable-readable.result.now c.readable-readable.ensures n place place_is c.skipped-len.ensures.within inside c.skipped-len.ensures.passed in
    let goes = subst (λ (h : Held). Goes a b old h (GapTo inside old h)) (sym c.drop_to.ensures) given_goes in
    let dropped_place : dropped.place ≡ place = ap (λ (h : Held). h.place) c.drop_to.ensures in
    let dropped_limit : dropped.limit ≡ mid.limit = ap (λ (h : Held). h.limit) c.drop_to.ensures in
    let from : old.place ≤ dropped.place = subst (λ k. old.place ≤ k) (sym dropped_place) (le_then old.place mid.place place i.from within.0) in
    record {
      count = counted_then before between now old mid new i.count
          (counted_then between between now mid dropped new (counted_same between mid dropped dropped_limit (ap (λ (h : Held). h.state) c.drop_to.ensures)) (counted_take between now b left dropped new e.count e.takes));
      through = e.through ∙ i.through;
      from = subst (λ k. old.place ≤ k) (sym e.takes.place) from;
      within = moved_within new.place new.limit place mid.limit (e.takes.place ∙ dropped_place) (e.takes.limit ∙ dropped_limit) within.2;
      gone = gap_more a b left old dropped new inside from goes e.takes;
    }
  where
    moved_within : (p l place limit : ℕ) → p ≡ place → l ≡ limit → place ≤ limit → p ≤ l
    moved_within p l place limit e f le = omega (arith, e, f, le)
