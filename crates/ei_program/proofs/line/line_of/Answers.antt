use Rattle.std.specs.Prelude.{IfOk, codes, decimal, Vec}
use Rattle.std.specs.declared.alloc.Global.{Global}
use Rattle.std.proofs.Common.{rules, ◌++◌, ℕ, Result, Ok, Err, inr, subst}
use Rattle.symbol_table.specs.Reading.{read}
use Rattle.orthogonal_laws.specs.Run.{IsLiveEnd}
use Rattle.ei_program.specs.Definitions.{Definitions, definitions_of}
use Rattle.ei_program.specs.Stepping.{IsFormText}
use Rattle.ei_program.proofs.Holding.{definitions-kept, ready_kept}
use Rattle.ei_program.proofs.Answers.{reduced, spent_line, form_text}
use Rattle.ei_program.proofs.line.line_of.Goals as goal

pub line_of_form-requires-clause-ready : goal.line_of_form-requires-clause-ready
line_of_form-requires-clause-ready c = ready_kept c.args.ready.now c.plain_run.new.symbols c.in_ok-form.ensures.keeps c.requires.ready

pub line_of_form-requires-clause-live : goal.line_of_form-requires-clause-live
line_of_form-requires-clause-live c = subst (IsLiveEnd c.plain_run.new.symbols) c.in-Normal.is c.in_ok-form.ensures.live

pub returns-in-Normal-clause-line : goal.returns-in-Normal-clause-line
returns-in-Normal-clause-line c =
    let l = c.args.ready.now in
    let settings = c.args.settings.now in
    let new = c.plain_run.new.symbols in
    let t = read l.symbols c.args.term in
    let form = read new c.in-Normal.form in
    let reduces = reduced l c.requires.ready c.has_one_number_each.ensures.distinct settings.budget c.args.term new _ c.in_ok-form.ensures.ok c.in-Normal.form c.in-Normal.field-1 c.in-Normal.is in
    let same = definitions-kept l new c.in_ok-form.ensures.keeps c.requires.ready in
    answers c.line_of_form.result (λ text is. form_text settings (definitions_of l) t form text.items reduces (subst (λ (d : Definitions). IsFormText settings d form text.items) same is)) c.line_of_form.ensures
  where
    answers : {E : Type 0} {P Q : Vec ℕ Global → Type 0} (r : Result (Vec ℕ Global) E) → ((text : Vec ℕ Global) → P text → Q text) → IfOk r P → IfOk r Q
    answers (Ok text) each is = each text is
    answers (Err e) each is = tt

pub returns-clause-line : goal.returns-clause-line
returns-clause-line c =
    let l = c.args.ready.now in
    let budget = c.args.settings.now.budget in
    (codes "? spent " ++ decimal budget, inr (spent_line l c.requires.ready c.has_one_number_each.ensures.distinct budget c.args.term c.plain_run.new.symbols _ c.in_ok-form.ensures.ok c.in-Spent.field-0 c.in-Spent.is), search rules)
