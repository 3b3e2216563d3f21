-- The numbers of statuses.
use Rattle.std.specs.Prelude.{ℕ}
use Rattle.ei_program.specs.declared.status.Status.{Status}
use Rattle.ei_program.specs.declared.status.Status.TheVariants.{Answered, NoMemory, Words, Questions, File}
use Rattle.ei_program.specs.declared.status.Status.TheVariants.{Broken, Term, ReadFailed, WriteFailed}
use Rattle.ei_program.specs.declared.status.Status.TheVariants.{InputLong}

-- the exit status of the process
abbrev pub number_of : Status → ℕ
number_of Answered = 0
number_of NoMemory = 1
number_of Words = 2
number_of Questions = 3
number_of File = 4
number_of Broken = 5
number_of Term = 6
number_of ReadFailed = 7
number_of WriteFailed = 8
number_of InputLong = 9
