use Rattle.std.proofs.Common.{ℕ, ◌+◌, ◌≤◌, ◌^◌, arith, Ok, Err, sym, ◌∙◌, ap, subst, Fits, w64}
use Rattle.symbol_table.specs.Table.{names_of}
use Rattle.symbol_table.specs.Reading.{read}
use Rattle.symbol_table.proofs.Keeping.{keeps_trans}
use Rattle.written_terms.specs.Answering.{IfRefused}
use Rattle.term_input.specs.Streams.{Held}
use Rattle.term_input.specs.TermReading.{ReadsOne}
use Rattle.term_input.proofs.FaultBytes.{fault_within}
use Rattle.ei_program.specs.declared.reading.Next.TheVariants as nexts
use Rattle.ei_program.specs.Reading.{Goes, IsThing, window_of}
use Rattle.ei_program.proofs.Taken.{counted_then, goes_then}
use Rattle.ei_program.proofs.Counting.{farther_less}
use Rattle.ei_program.proofs.Things.{reads_there, len_fits, term_taken, term_read, end_read}
use Rattle.ei_program.proofs.reading.next_thing.Goals as goal

-- ---- a term

pub overflow_add-place : goal.overflow_add-place
overflow_add-place g c =
    let reads = reads_there c.args.syntax c.args.symbols.now c.tries.symbols c.tries.invariant.keeps c.window.result.now c.tries.stream c.window.ensures (Ok (read c.read_term.new.symbols c.in-Ok.term, c.in-Ok.len)) c.in-Ok.ensures.answer in
    sum_fits c.place.result c.in-Ok.len c.place.ensures.within (len_fits c.args.syntax (names_of c.args.symbols.now) c.tries.stream (read c.read_term.new.symbols c.in-Ok.term) c.in-Ok.len reads)
  where
    sum_fits : (place len : ℕ) → place ≤ 2 ^ 40 + 1 → len ≤ 2 ^ 24 → Fits w64 (place + len)
    sum_fits place len p q = omega (arith, p, q)

pub drop_to-requires-clause-to : goal.drop_to-requires-clause-to
drop_to-requires-clause-to g c =
    let i = c.tries.invariant in
    let reads = reads_there c.args.syntax c.args.symbols.now c.tries.symbols i.keeps c.window.result.now c.tries.stream c.window.ensures (Ok (read c.read_term.new.symbols c.in-Ok.term, c.in-Ok.len)) c.in-Ok.ensures.answer in
    term_taken c.args.syntax (names_of c.args.symbols.now) c.read_term.new.symbols (g.I.Source.left c.args.input.now) (g.I.Source.left c.tries.input) c.args.stream.now c.tries.stream i.place i.count.limit i.gone c.in-Ok.term c.in-Ok.len (c.place.result + c.in-Ok.len) reads (ap (λ n. n + c.in-Ok.len) c.place.ensures.place)

pub returns-in-Ok-clause-goes : goal.returns-in-Ok-clause-goes
returns-in-Ok-clause-goes g c =
    let i = c.tries.invariant in
    let names = names_of c.args.symbols.now in
    let table = c.read_term.new.symbols in
    let a = g.I.Source.left c.args.input.now in
    let b = g.I.Source.left c.tries.input in
    let old = c.args.stream.now in
    let reads = reads_there c.args.syntax c.args.symbols.now c.tries.symbols i.keeps c.window.result.now c.tries.stream c.window.ensures (Ok (read table c.in-Ok.term, c.in-Ok.len)) c.in-Ok.ensures.answer in
    let goes = term_read c.args.syntax names table a b old c.tries.stream i.place i.count.limit i.gone c.in-Ok.term c.in-Ok.len (c.place.result + c.in-Ok.len) reads (ap (λ n. n + c.in-Ok.len) c.place.ensures.place) in
    subst (λ (h : Held). Goes a b old h (IsThing c.args.syntax names table old h (nexts.Term c.in-Ok.term))) (sym c.drop_to.ensures) goes

-- ---- a fault

pub end_at-requires : goal.end_at-requires
end_at-requires g c =
    let i = c.tries.invariant in
    let fault = c.in-Err-Refused.fault in
    let answer = subst (IfRefused (λ f. ReadsOne c.args.syntax (names_of c.tries.symbols) c.window.result.now (Err f))) c.in-Err-Refused.field-0-is c.in-Err-Refused.ensures.answer in
    fault_within c.args.syntax (names_of c.args.symbols.now) (window_of c.tries.stream) fault
    (reads_there c.args.syntax c.args.symbols.now c.tries.symbols i.keeps c.window.result.now c.tries.stream c.window.ensures (Err fault) answer)

pub returns-then-not-may_change-clause-goes : goal.returns-then-not-may_change-clause-goes
returns-then-not-may_change-clause-goes g c =
    let i = c.tries.invariant in
    let fault = c.in-Err-Refused.fault in
    let answer = subst (IfRefused (λ f. ReadsOne c.args.syntax (names_of c.tries.symbols) c.window.result.now (Err f))) c.in-Err-Refused.field-0-is c.in-Err-Refused.ensures.answer in
    let reads = reads_there c.args.syntax c.args.symbols.now c.tries.symbols i.keeps c.window.result.now c.tries.stream c.window.ensures (Err fault) answer in
    end_read c.args.syntax (names_of c.args.symbols.now) c.read_term.new.symbols (g.I.Source.left c.args.input.now) (g.I.Source.left c.tries.input) c.args.stream.now c.tries.stream i.place i.count.limit i.gone fault c.end_at.result reads c.end_at.ensures
    (λ may. let yes = c.may_change.ensures.1 may in let no = c.if-not-may_change.true in cc (yes, no))

pub returns-then-not-may_change-clause-keeps : goal.returns-then-not-may_change-clause-keeps
returns-then-not-may_change-clause-keeps g c = keeps_trans c.args.symbols.now c.tries.symbols c.read_term.new.symbols c.tries.invariant.keeps c.read_term.ensures.keeps

-- ---- more is taken

pub tries-smaller : goal.tries-smaller
tries-smaller g c =
    let may = c.may_change.ensures.0 c.if-not-may_change.false in
    farther_less c.tries.stream c.take_on.new.stream c.in_ok-take_on.ensures.farther c.in_ok-take_on.ensures.count.limit may.0

pub tries-preserved : goal.tries-preserved
tries-preserved g c =
    let i = c.tries.invariant in
    let e = c.in_ok-take_on.ensures in
    let old = c.args.stream.now in
    let mid = c.tries.stream in
    let new = c.take_on.new.stream in
    record {
      keeps = keeps_trans c.args.symbols.now c.tries.symbols c.read_term.new.symbols i.keeps c.read_term.ensures.keeps;
      count = counted_then (g.I.Source.faults c.args.input.now) (g.I.Source.faults c.tries.input) (g.I.Source.faults c.take_on.new.input) old mid new i.count e.count;
      through = e.through ∙ i.through;
      place = e.farther.place ∙ i.place;
      gone = goes_then (g.I.Source.left c.args.input.now) (g.I.Source.left c.tries.input) (g.I.Source.left c.take_on.new.input) old mid new (λ taken. Unit {0}) (λ taken. Unit {0}) i.gone e.goes;
    }

pub returns-in_err-take_on-clause-keeps : goal.returns-in_err-take_on-clause-keeps
returns-in_err-take_on-clause-keeps g c = keeps_trans c.args.symbols.now c.tries.symbols c.read_term.new.symbols c.tries.invariant.keeps c.read_term.ensures.keeps
