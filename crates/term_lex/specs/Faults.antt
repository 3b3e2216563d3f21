-- The faults by their numbers and their names.
use Rattle.std.specs.Prelude.{ℕ, List, codes}
use Rattle.term_lex.specs.declared.fault.FaultKind.{FaultKind}
use Rattle.term_lex.specs.declared.fault.FaultKind.TheVariants.{BadByte, OpenString, BadEscape, NumeralPast}
use Rattle.term_lex.specs.declared.fault.FaultKind.TheVariants.{NameLong, StringLong, Expected, Unended}
use Rattle.term_lex.specs.declared.fault.FaultKind.TheVariants.{DotPlace, ListNeedsCons, TermLong, Twice}
use Rattle.term_lex.specs.declared.fault.FaultKind.TheVariants.{ArityPast, UnknownClass, Unknown, WrongArity}
use Rattle.term_lex.specs.declared.fault.FaultKind.TheVariants.{NotIncluded, FileLong, EquationsPast}
use Rattle.term_lex.specs.declared.fault.FaultKind.TheVariants.{UnknownEquationClass, LeftNotApplication}
use Rattle.term_lex.specs.declared.fault.FaultKind.TheVariants.{VariableTwice, QualifiedUnknown, SideLong}
use Rattle.term_lex.specs.declared.fault.FaultKind.TheVariants.{SchemaNeeds, QualifiedTwice, ExpansionPast}
use Rattle.term_lex.specs.declared.fault.FaultKind.TheVariants.{QualifierCircle, ClassesPast, MembersPast}

-- the number of a fault
abbrev pub fault_number : FaultKind → ℕ
fault_number BadByte = 1
fault_number OpenString = 2
fault_number BadEscape = 3
fault_number NumeralPast = 4
fault_number NameLong = 5
fault_number StringLong = 6
fault_number (Expected found) = 10
fault_number Unended = 11
fault_number DotPlace = 12
fault_number ListNeedsCons = 13
fault_number TermLong = 14
fault_number Twice = 20
fault_number ArityPast = 21
fault_number UnknownClass = 22
fault_number Unknown = 23
fault_number (WrongArity declared found) = 24
fault_number NotIncluded = 25
fault_number FileLong = 30
fault_number EquationsPast = 31
fault_number UnknownEquationClass = 32
fault_number LeftNotApplication = 33
fault_number VariableTwice = 34
fault_number QualifiedUnknown = 35
fault_number SideLong = 36
fault_number SchemaNeeds = 37
fault_number QualifiedTwice = 38
fault_number ExpansionPast = 40
fault_number QualifierCircle = 41
fault_number ClassesPast = 42
fault_number MembersPast = 43

-- the name of a fault
abbrev pub fault_word : FaultKind → List ℕ
fault_word BadByte = codes "BadByte"
fault_word OpenString = codes "OpenString"
fault_word BadEscape = codes "BadEscape"
fault_word NumeralPast = codes "NumeralPast"
fault_word NameLong = codes "NameLong"
fault_word StringLong = codes "StringLong"
fault_word (Expected found) = codes "Expected"
fault_word Unended = codes "Unended"
fault_word DotPlace = codes "DotPlace"
fault_word ListNeedsCons = codes "ListNeedsCons"
fault_word TermLong = codes "TermLong"
fault_word Twice = codes "Twice"
fault_word ArityPast = codes "ArityPast"
fault_word UnknownClass = codes "UnknownClass"
fault_word Unknown = codes "Unknown"
fault_word (WrongArity declared found) = codes "WrongArity"
fault_word NotIncluded = codes "NotIncluded"
fault_word FileLong = codes "FileLong"
fault_word EquationsPast = codes "EquationsPast"
fault_word UnknownEquationClass = codes "UnknownEquationClass"
fault_word LeftNotApplication = codes "LeftNotApplication"
fault_word VariableTwice = codes "VariableTwice"
fault_word QualifiedUnknown = codes "QualifiedUnknown"
fault_word SideLong = codes "SideLong"
fault_word SchemaNeeds = codes "SchemaNeeds"
fault_word QualifiedTwice = codes "QualifiedTwice"
fault_word ExpansionPast = codes "ExpansionPast"
fault_word QualifierCircle = codes "QualifierCircle"
fault_word ClassesPast = codes "ClassesPast"
fault_word MembersPast = codes "MembersPast"
