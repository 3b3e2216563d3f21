use Rattle.std.proofs.Common.{None}
use Rattle.symbol_table.specs.Table.{HasDistinctNames}
use Rattle.ei_program.specs.Definitions.{Definitions, IsAccepted}
use Rattle.ei_program.proofs.OneGiving.{given_distinct}
use Rattle.ei_program.proofs.OneDue.{answers_one}
use Rattle.ei_program.proofs.Begun.{first_answered}
use Rattle.ei_program.proofs.laws.one_answer_is_due.Goals as goal

distinct : (d : Definitions) → IsAccepted d → HasDistinctNames d.names
distinct d accepted = given_distinct accepted.syntax accepted.file d accepted.defines

pub returns-clause-one : goal.returns-clause-one
returns-clause-one c = λ settings d accepted text. answers_one settings d (distinct d accepted) None text

pub returns-clause-begun : goal.returns-clause-begun
returns-clause-begun c = λ settings d accepted text lines done first all. first_answered settings d (distinct d accepted) None text lines done first all
