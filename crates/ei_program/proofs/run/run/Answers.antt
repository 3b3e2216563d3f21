use Rattle.std.proofs.Common.{ℕ, List, [], None, Some, map, string_bytes, option_map, ◌∙◌, subst}
use Rattle.eq_ports.proofs.Known.{appends_none}
use Rattle.command_line.specs.Asked.{Asks}
use Rattle.ei_program.specs.declared.settings.Settings.{Settings}
use Rattle.ei_program.specs.Definitions.{definitions_of}
use Rattle.ei_program.specs.Answering.{TextLeft, FileLeft}
use Rattle.ei_program.specs.Run.{Given}
use Rattle.ei_program.proofs.Leaving.{refused_words, not_accepted, told_of_file, input_answered, file_answered}
use Rattle.ei_program.proofs.ReadToEnd.{file_to_end, asks_for_input, asks_for_check}
use Rattle.ei_program.proofs.run.run.Goals as goal

pub returns-in_default-clause-left : goal.returns-in_default-clause-left
returns-in_default-clause-left g c = λ named bytes known is.
    let given : Given = record { words = map string_bytes c.args.words.now; named = named; input = bytes } in
    ([], refused_words given (g.F.Files.rest c.args.files.now) (g.I.Source.left c.args.input.now) c.in_default.ensures.none is, appends_none (g.O.Sink.taken c.args.output.now))

pub returns-in-Some-terms-clause-left : goal.returns-in-Some-terms-clause-left
returns-in-Some-terms-clause-left g c = λ named bytes known is.
    let given : Given = record { words = map string_bytes c.args.words.now; named = named; input = bytes } in
    let task = c.in-Some.asked.task in
    let file = c.in-Some.asked.file.now in
    let terms = c.in-Some-terms.name.now in
    let asks : Asks given.words task file (Some terms) = subst (λ o. Asks given.words task file (option_map (λ word. word.now) o)) c.in-Some-terms.is c.in-Some.ensures.asked in
    let d = definitions_of c.in-Ok.ready in
    let rest = g.F.Files.rest c.answer_file.new.files in
    let l = c.answer_file.ensures.left named (c.load.ensures.kept ∙ known) in
    let leaves = subst (λ (s : Settings). FileLeft s d (named terms) rest c.answer_file.result l.0) c.settings_of-settings.ensures l.1 in
    (l.0, file_answered given task file terms asks d (c.in-Ok.ensures.loaded named known) c.in-Answer.is rest (g.I.Source.left c.args.input.now) is c.answer_file.result l.0 leaves, l.2)

pub returns-in-Some-terms-clause-whole : goal.returns-in-Some-terms-clause-whole
returns-in-Some-terms-clause-whole g c = λ named task file terms known asks all.
    let l = c.answer_file.ensures.left named (c.load.ensures.kept ∙ known) in
    file_to_end c.settings_of-settings.result (definitions_of c.in-Ok.ready) (named c.in-Some-terms.name.now) (g.F.Files.rest c.answer_file.new.files) c.answer_file.result l.0 all l.1

pub returns-in-Some-terms-clause-files_steady : goal.returns-in-Some-terms-clause-files_steady
returns-in-Some-terms-clause-files_steady g c = λ no_read no_write no_want.
    c.answer_file.ensures.files_steady no_read no_write no_want ∙ c.in-Ok.ensures.count.steady (λ e. cc (e))

pub returns-in-Answer-clause-left : goal.returns-in-Answer-clause-left
returns-in-Answer-clause-left g c = λ named bytes known is.
    let given : Given = record { words = map string_bytes c.args.words.now; named = named; input = bytes } in
    let task = c.in-Some.asked.task in
    let file = c.in-Some.asked.file.now in
    let asks : Asks given.words task file None = subst (λ o. Asks given.words task file (option_map (λ word. word.now) o)) c.in-None.is c.in-Some.ensures.asked in
    let d = definitions_of c.in-Ok.ready in
    let left = g.I.Source.left c.answer_input.new.input in
    let l = c.answer_input.ensures.left bytes is in
    let leaves = subst (λ (s : Settings). TextLeft s d bytes left c.answer_input.result l.0) c.settings_of-settings.ensures l.1 in
    (l.0, input_answered given task file asks d (c.in-Ok.ensures.loaded named known) c.in-Answer.is (g.F.Files.rest c.load.new.files) left c.answer_input.result l.0 leaves, l.2)

pub returns-in-Answer-clause-whole : goal.returns-in-Answer-clause-whole
returns-in-Answer-clause-whole g c = λ named task file terms known asks all.
    let words : List (List ℕ) = map string_bytes c.args.words.now in
    let asked = c.in-Some.asked.task in
    let from = c.in-Some.asked.file.now in
    let input : Asks words asked from None = subst (λ o. Asks words asked from (option_map (λ word. word.now) o)) c.in-None.is c.in-Some.ensures.asked in
    absurd (asks_for_input words asked task from file terms input asks)

pub returns-in-Ok-clause-left : goal.returns-in-Ok-clause-left
returns-in-Ok-clause-left g c = λ named bytes known is.
    let given : Given = record { words = map string_bytes c.args.words.now; named = named; input = bytes } in
    let l = c.tell_accepted.ensures.left in
    (l.0, told_of_file given c.in-Some.asked.task c.in-Some.asked.file.now _ c.in-Some.ensures.asked (definitions_of c.in-Ok.ready) (c.in-Ok.ensures.loaded named known) c.in-Check.is (g.F.Files.rest c.load.new.files) (g.I.Source.left c.args.input.now) is c.tell_accepted.result l.0 l.1, l.2)

pub returns-in-Ok-clause-whole : goal.returns-in-Ok-clause-whole
returns-in-Ok-clause-whole g c = λ named task file terms known asks all.
    absurd (asks_for_check (map string_bytes c.args.words.now) c.in-Some.asked.task task c.in-Some.asked.file.now file terms _ c.in-Check.is c.in-Some.ensures.asked asks)

pub returns-clause-left : goal.returns-clause-left
returns-clause-left g c = λ named bytes known is.
    let given : Given = record { words = map string_bytes c.args.words.now; named = named; input = bytes } in (
      [],
      not_accepted given c.in-Some.asked.task c.in-Some.asked.file.now _ c.in-Some.ensures.asked (g.F.Files.rest c.load.new.files) (g.I.Source.left c.args.input.now) c.in-Err.outcome is (c.in-Err.ensures.loaded named known),
      appends_none (g.O.Sink.taken c.args.output.now),
    )
