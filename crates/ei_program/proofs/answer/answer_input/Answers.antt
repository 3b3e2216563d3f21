use Rattle.std.proofs.Common.{◌≡◌, false, refl, sym, ◌∙◌, ap, subst}
use Rattle.term_input.specs.declared.source_state.SourceState.{SourceState}
use Rattle.term_input.specs.Streams.{Held, nothing_held}
use Rattle.ei_program.specs.declared.stop.Stop.TheVariants.{WriteFailed}
use Rattle.ei_program.specs.declared.outcome.Outcome.TheVariants.{Stopped}
use Rattle.ei_program.specs.declared.answer.Step.TheVariants.{Answer, Question, End, Stopped as StoppedBy}
use Rattle.ei_program.specs.Loading.{IsReady}
use Rattle.ei_program.specs.Definitions.{Definitions, definitions_of}
use Rattle.ei_program.specs.Stepping.{StepLeft, IsOutcomeAt}
use Rattle.ei_program.proofs.Holding.{ready_distinct, same_held}
use Rattle.ei_program.proofs.Taken.{counted_then}
use Rattle.ei_program.proofs.Counting.{counted_same}
use Rattle.ei_program.proofs.Answered.{Answered, none_answered}
use Rattle.ei_program.proofs.OneStep.{step_answers, step_asks, answer_smaller, question_smaller, step_ends, step_stops}
use Rattle.ei_program.proofs.answer.answer_input.Goals as goal

pub terms-init : goal.terms-init
terms-init g c =
    let settings = c.args.settings.now in
    let d = definitions_of c.args.ready.now in
    let left = g.I.Source.left c.args.input.now in
    let out = g.O.Sink.taken c.args.output.now in
    let faults = g.I.Source.faults c.args.input.now in
    let held = nothing_held settings.input_bytes in
    record {
      same = refl;
      symbols = refl;
      count = counted_same faults held c.in-Ok.stream (ap (λ (h : Held). h.limit) c.in-Ok.ensures) (ap (λ (h : Held). h.state) c.in-Ok.ensures);
      through = refl;
      output = refl;
      so_far = subst (λ (h : Held). Answered settings d left left h out out false) (sym c.in-Ok.ensures) (none_answered settings d left out);
    }

pub answer_next-requires-clause-ready : goal.answer_next-requires-clause-ready
answer_next-requires-clause-ready g c =
    let i = c.terms.invariant in
    subst IsReady (sym (same_held c.terms.ready c.args.ready.now i.same i.symbols)) c.requires.ready

pub terms-smaller-in-Answer : goal.terms-smaller-in-Answer
terms-smaller-in-Answer g c =
    let i = c.terms.invariant in
    let settings = c.args.settings.now in
    let mid = g.I.Source.left c.terms.input in
    let left = g.I.Source.left c.answer_next.new.input in
    let old = c.terms.stream in
    let new = c.answer_next.new.stream in
    let out_mid = g.O.Sink.taken c.terms.output in
    let out_new = g.O.Sink.taken c.answer_next.new.output in
    let same = ap definitions_of (same_held c.terms.ready c.args.ready.now i.same i.symbols) in
    let step = subst (λ (e : Definitions). StepLeft settings e old new mid left out_mid out_new Answer) same c.in-Answer.ensures.left in
    answer_smaller settings (definitions_of c.args.ready.now) (ready_distinct c.args.ready.now c.requires.ready) (g.I.Source.left c.args.input.now) mid left old new c.answer_next.ensures.count.limit (g.O.Sink.taken c.args.output.now) out_mid out_new c.terms.any_question i.so_far step

pub terms-preserved-in-Answer : goal.terms-preserved-in-Answer
terms-preserved-in-Answer g c =
    let i = c.terms.invariant in
    let a = c.in-Answer.ensures in
    let settings = c.args.settings.now in
    let mid = g.I.Source.left c.terms.input in
    let left = g.I.Source.left c.answer_next.new.input in
    let old = c.terms.stream in
    let new = c.answer_next.new.stream in
    let out_mid = g.O.Sink.taken c.terms.output in
    let out_new = g.O.Sink.taken c.answer_next.new.output in
    let same = ap definitions_of (same_held c.terms.ready c.args.ready.now i.same i.symbols) in
    let step = subst (λ (e : Definitions). StepLeft settings e old new mid left out_mid out_new Answer) same a.left in
    record {
      same = a.same ∙ i.same;
      symbols = a.given_up (λ stop e. cc (e)) ∙ i.symbols;
      count = counted_then (g.I.Source.faults c.args.input.now) (g.I.Source.faults c.terms.input) (g.I.Source.faults c.answer_next.new.input) (nothing_held settings.input_bytes) old new i.count a.count;
      through = a.through ∙ i.through;
      output = a.output_steady (λ e. cc (e)) ∙ i.output;
      so_far = step_answers settings (definitions_of c.args.ready.now) (ready_distinct c.args.ready.now c.requires.ready) (g.I.Source.left c.args.input.now) mid left old new a.count.limit (g.O.Sink.taken c.args.output.now) out_mid out_new c.terms.any_question i.so_far step;
    }

pub terms-smaller : goal.terms-smaller
terms-smaller g c =
    let i = c.terms.invariant in
    let settings = c.args.settings.now in
    let mid = g.I.Source.left c.terms.input in
    let left = g.I.Source.left c.answer_next.new.input in
    let old = c.terms.stream in
    let new = c.answer_next.new.stream in
    let out_mid = g.O.Sink.taken c.terms.output in
    let out_new = g.O.Sink.taken c.answer_next.new.output in
    let same = ap definitions_of (same_held c.terms.ready c.args.ready.now i.same i.symbols) in
    let step = subst (λ (e : Definitions). StepLeft settings e old new mid left out_mid out_new Question) same c.in-Question.ensures.left in
    question_smaller settings (definitions_of c.args.ready.now) (ready_distinct c.args.ready.now c.requires.ready) (g.I.Source.left c.args.input.now) mid left old new c.answer_next.ensures.count.limit (g.O.Sink.taken c.args.output.now) out_mid out_new c.terms.any_question i.so_far step

pub terms-preserved : goal.terms-preserved
terms-preserved g c =
    let i = c.terms.invariant in
    let a = c.in-Question.ensures in
    let settings = c.args.settings.now in
    let mid = g.I.Source.left c.terms.input in
    let left = g.I.Source.left c.answer_next.new.input in
    let old = c.terms.stream in
    let new = c.answer_next.new.stream in
    let out_mid = g.O.Sink.taken c.terms.output in
    let out_new = g.O.Sink.taken c.answer_next.new.output in
    let same = ap definitions_of (same_held c.terms.ready c.args.ready.now i.same i.symbols) in
    let step = subst (λ (e : Definitions). StepLeft settings e old new mid left out_mid out_new Question) same a.left in
    record {
      same = a.same ∙ i.same;
      symbols = a.given_up (λ stop e. cc (e)) ∙ i.symbols;
      count = counted_then (g.I.Source.faults c.args.input.now) (g.I.Source.faults c.terms.input) (g.I.Source.faults c.answer_next.new.input) (nothing_held settings.input_bytes) old new i.count a.count;
      through = a.through ∙ i.through;
      output = a.output_steady (λ e. cc (e)) ∙ i.output;
      so_far = step_asks settings (definitions_of c.args.ready.now) (ready_distinct c.args.ready.now c.requires.ready) (g.I.Source.left c.args.input.now) mid left old new a.count.limit (g.O.Sink.taken c.args.output.now) out_mid out_new c.terms.any_question i.so_far step;
    }

pub returns-in-End-clause-left : goal.returns-in-End-clause-left
returns-in-End-clause-left g c = λ bytes known.
    let i = c.terms.invariant in
    let settings = c.args.settings.now in
    let mid = g.I.Source.left c.terms.input in
    let left = g.I.Source.left c.answer_next.new.input in
    let old = c.terms.stream in
    let new = c.answer_next.new.stream in
    let out_mid = g.O.Sink.taken c.terms.output in
    let out_new = g.O.Sink.taken c.answer_next.new.output in
    let same = ap definitions_of (same_held c.terms.ready c.args.ready.now i.same i.symbols) in
    let step = subst (λ (e : Definitions). StepLeft settings e old new mid left out_mid out_new (End c.in-End.end)) same c.in-End.ensures.left in
    let outcome = subst (λ (s : SourceState). IsOutcomeAt s c.in-End.end c.terms.any_question c.outcome_at.result) c.state.ensures c.outcome_at.ensures in
    step_ends settings (definitions_of c.args.ready.now) (ready_distinct c.args.ready.now c.requires.ready) (g.I.Source.left c.args.input.now) mid left old new c.answer_next.ensures.count.limit (g.O.Sink.taken c.args.output.now) out_mid out_new c.terms.any_question i.so_far
    bytes known c.in-End.end step c.outcome_at.result outcome

pub returns-in-End-clause-input_steady : goal.returns-in-End-clause-input_steady
returns-in-End-clause-input_steady g c = λ no_read no_write no_want.
    let i = c.terms.invariant in
    let count = counted_then (g.I.Source.faults c.args.input.now) (g.I.Source.faults c.terms.input) (g.I.Source.faults c.answer_next.new.input) (nothing_held c.args.settings.now.input_bytes) c.terms.stream c.answer_next.new.stream i.count c.answer_next.ensures.count in
    let At = λ (s : SourceState). IsOutcomeAt s c.in-End.end c.terms.any_question c.outcome_at.result in
    count.steady (λ failed. no_read (subst At (c.state.ensures ∙ failed) c.outcome_at.ensures))

pub returns-in-Stopped-clause-left : goal.returns-in-Stopped-clause-left
returns-in-Stopped-clause-left g c = λ bytes known.
    let i = c.terms.invariant in
    let settings = c.args.settings.now in
    let mid = g.I.Source.left c.terms.input in
    let left = g.I.Source.left c.answer_next.new.input in
    let old = c.terms.stream in
    let new = c.answer_next.new.stream in
    let out_mid = g.O.Sink.taken c.terms.output in
    let out_new = g.O.Sink.taken c.answer_next.new.output in
    let same = ap definitions_of (same_held c.terms.ready c.args.ready.now i.same i.symbols) in
    let step = subst (λ (e : Definitions). StepLeft settings e old new mid left out_mid out_new (StoppedBy c.in-Stopped.stop)) same c.in-Stopped.ensures.left in
    step_stops settings (definitions_of c.args.ready.now) (ready_distinct c.args.ready.now c.requires.ready) (g.I.Source.left c.args.input.now) mid left old new c.answer_next.ensures.count.limit (g.O.Sink.taken c.args.output.now) out_mid out_new c.terms.any_question i.so_far
    bytes known c.in-Stopped.stop step

pub returns-in-Stopped-clause-output_steady : goal.returns-in-Stopped-clause-output_steady
returns-in-Stopped-clause-output_steady g c = λ other.
    c.in-Stopped.ensures.output_steady (λ e. let stop : c.in-Stopped.stop ≡ WriteFailed = cc (e) in other (ap (λ s. Stopped s) stop)) ∙ c.terms.invariant.output
