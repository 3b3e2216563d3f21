-- The status of an outcome, and what is written of it to the errors.
use Rattle.std.specs.Prelude.{ℕ, List, [], ◌++◌, codes, decimal}
use Rattle.term_lex.specs.declared.fault.Fault.{Fault}
use Rattle.term_lex.specs.Faults.{fault_word}
use Rattle.ei_program.specs.declared.outcome.Outcome.{Outcome}
use Rattle.ei_program.specs.declared.outcome.Outcome.TheVariants.{Answered, Questions, BadWords, FileRefused}
use Rattle.ei_program.specs.declared.outcome.Outcome.TheVariants.{Broken, TermRefused, InputLong, Stopped}
use Rattle.ei_program.specs.declared.stop.Stop.TheVariants.{NoMemory, ReadFailed, WriteFailed}
use Rattle.ei_program.specs.declared.status.Status.{Status}
use Rattle.regularity.specs.Listing.{Lists}
use Rattle.sequentiality.specs.Violations.{IsViolation}
use Rattle.ei_program.specs.Restrictions.{origin_of, broken_text}
use Rattle.eq_base.specs.Rules.{rule_of}

abbrev pub status_of : Outcome → Status
status_of Answered = Status.Answered
status_of Questions = Status.Questions
status_of BadWords = Status.Words
status_of (FileRefused fault) = Status.File
status_of (Broken breaks rules) = Status.Broken
status_of (TermRefused fault) = Status.Term
status_of InputLong = Status.InputLong
status_of (Stopped NoMemory) = Status.NoMemory
status_of (Stopped ReadFailed) = Status.ReadFailed
status_of (Stopped WriteFailed) = Status.WriteFailed

-- the line of a fault: what is refused, the fault's word, and its byte
abbrev pub refused_text : List ℕ → Fault → List ℕ
refused_text what fault =
    codes "ei: " ++ what ++ codes " refused: " ++ fault_word fault.kind ++ codes " at byte "
    ++ decimal fault.byte ++ codes "\n"

-- what is told of an outcome; of answers, and of an output that failed, nothing is told
abbrev pub message_of : Outcome → List ℕ
message_of Answered = []
message_of Questions = []
message_of BadWords = codes "ei: bad command line\n"
message_of (FileRefused fault) = refused_text (codes "equations") fault
message_of (Broken breaks rules) = broken_text rule_of origin_of rules.equations breaks
message_of (TermRefused fault) = refused_text (codes "term") fault
message_of InputLong = codes "ei: input too long\n"
message_of (Stopped NoMemory) = codes "ei: no memory\n"
message_of (Stopped ReadFailed) = codes "ei: read failed\n"
message_of (Stopped WriteFailed) = []

-- what is told of a run: its status, and what is written to the errors
pub record Told : Type 0 where
  pub status : Status
  pub message : List ℕ

-- what is told of an outcome
abbrev pub told_of : Outcome → Told
told_of outcome = record { status = status_of outcome; message = message_of outcome }

-- where the outcome tells of breaks, they are those of the equations
abbrev pub CanBeTold : Outcome → Type 0
CanBeTold (Broken breaks rules) = Lists (IsViolation rules) breaks
CanBeTold outcome = Unit {0}
