use Rattle.term_lex.specs.Parts.{IsWord}
use Rattle.def_file.proofs.Tokens.{next_passes, next_bad, next_found}
use Rattle.def_file.proofs.reading.tokens.next_is_word.Goals as goal

pub returns-in-Ok-clause-yes : goal.returns-in-Ok-clause-yes
returns-in-Ok-clause-yes c = λ yes. next_found c.args.text.now c.args.at (IsWord c.args.word.now) c.in-Ok.token c.in-Ok.ensures.first (c.is_word.ensures.yes yes)

pub returns-in-Ok-clause-not : goal.returns-in-Ok-clause-not
returns-in-Ok-clause-not c = λ no next. c.is_word.ensures.not no (next_passes c.args.text.now c.args.at (IsWord c.args.word.now) c.in-Ok.token c.in-Ok.ensures.first next)

pub returns-in-Err-clause-not : goal.returns-in-Err-clause-not
returns-in-Err-clause-not c = λ no next. next_bad c.args.text.now c.args.at (IsWord c.args.word.now) _ c.in-Err.ensures.first next
