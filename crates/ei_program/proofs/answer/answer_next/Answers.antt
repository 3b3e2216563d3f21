use Rattle.std.proofs.Common.{List, ℕ, refl, subst}
use Rattle.symbol_table.specs.Reading.{read}
use Rattle.symbol_table.proofs.Keeping.{keeps_same, keeps_trans}
use Rattle.ei_program.specs.declared.reading.Next.{Next}
use Rattle.ei_program.specs.declared.stop.Stop.TheVariants.{NoMemory}
use Rattle.ei_program.specs.Definitions.{Definitions, definitions_of}
use Rattle.ei_program.specs.Reading.{Goes, ComesNext, IsLiveNext}
use Rattle.ei_program.specs.Stepping.{IsLineText, WritesText}
use Rattle.ei_program.proofs.Holding.{definitions-kept, ready_kept, cut_again}
use Rattle.ei_program.proofs.OneStep.{written_step, ended_step}
use Rattle.ei_program.proofs.answer.answer_next.Goals as goal

pub line_of-requires-clause-ready : goal.line_of-requires-clause-ready
line_of-requires-clause-ready g c = ready_kept c.args.ready.now c.next_term.new.symbols c.next_term.ensures.keeps c.requires.ready

pub line_of-requires-clause-live : goal.line_of-requires-clause-live
line_of-requires-clause-live g c = subst (IsLiveNext c.next_term.new.symbols) c.in-Term.is c.in-Ok.ensures.live

pub returns-in_default-clause-given_up : goal.returns-in_default-clause-given_up
returns-in_default-clause-given_up g c = λ other. absurd (other NoMemory refl)

pub returns-in_default-line_of-clause-keeps : goal.returns-in_default-line_of-clause-keeps
returns-in_default-line_of-clause-keeps g c = keeps_trans c.args.ready.now.symbols c.next_term.new.symbols c.line_of.new.ready.symbols c.next_term.ensures.keeps c.line_of.ensures.keeps

pub returns-in_default-line_of-clause-given_up : goal.returns-in_default-line_of-clause-given_up
returns-in_default-line_of-clause-given_up g c = λ other. absurd (other NoMemory refl)

pub returns-in-Ok-line_of-clause-keeps : goal.returns-in-Ok-line_of-clause-keeps
returns-in-Ok-line_of-clause-keeps g c =
    let keeps = keeps_trans c.args.ready.now.symbols c.next_term.new.symbols c.line_of.new.ready.symbols c.next_term.ensures.keeps c.line_of.ensures.keeps in
    keeps_same c.args.ready.now.symbols c.cut_to.new.self (cut_again c.args.ready.now.symbols c.line_of.new.ready.symbols c.cut_to.new.self c.mark-mark.result keeps c.mark-mark.ensures c.cut_to.ensures)

pub returns-in-Ok-line_of-clause-left : goal.returns-in-Ok-line_of-clause-left
returns-in-Ok-line_of-clause-left g c =
    let settings = c.args.settings.now in
    let d = definitions_of c.args.ready.now in
    let old = c.args.stream.now in
    let new = c.next_term.new.stream in
    let mid = g.I.Source.left c.args.input.now in
    let left = g.I.Source.left c.next_term.new.input in
    let out_old = g.O.Sink.taken c.args.output.now in
    let out_new = g.O.Sink.taken c.write_line.new.output in
    let table = c.next_term.new.symbols in
    let term = read table c.in-Term.term in
    let text = c.in-Ok-line_of.line.items in
    let same = definitions-kept c.args.ready.now table c.next_term.ensures.keeps c.requires.ready in
    let line = subst (λ (e : Definitions). IsLineText settings e term text) same c.in-Ok-line_of.ensures.line in
    let N = λ (next : Next). Goes mid left old new (ComesNext settings.syntax d.names table old new left next) in
    let written = subst (λ (bytes : List ℕ). WritesText bytes out_old out_new c.write_line.result) c.deref.ensures.value c.write_line.ensures.written in
    written_step settings d old new mid left out_old out_new term text line (subst N c.in-Term.is c.in-Ok.ensures.goes) c.write_line.result written

pub returns-in-End-clause-keeps : goal.returns-in-End-clause-keeps
returns-in-End-clause-keeps g c =
    keeps_same c.args.ready.now.symbols c.cut_to-in-End.new.self (cut_again c.args.ready.now.symbols c.next_term.new.symbols c.cut_to-in-End.new.self c.mark-mark.result c.next_term.ensures.keeps c.mark-mark.ensures c.cut_to-in-End.ensures)

pub returns-in-End-clause-left : goal.returns-in-End-clause-left
returns-in-End-clause-left g c =
    let settings = c.args.settings.now in
    let d = definitions_of c.args.ready.now in
    let old = c.args.stream.now in
    let new = c.next_term.new.stream in
    let mid = g.I.Source.left c.args.input.now in
    let left = g.I.Source.left c.next_term.new.input in
    let N = λ (next : Next). Goes mid left old new (ComesNext settings.syntax d.names c.next_term.new.symbols old new left next) in
    ended_step settings d old new mid left (g.O.Sink.taken c.args.output.now) c.in-End.end (subst N c.in-End.is c.in-Ok.ensures.goes)
