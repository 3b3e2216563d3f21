-- What breaks a restriction, RE1 to RE5, where atoms and strings are numbers.
use Rattle.std.specs.Prelude.{◌⊎◌, ℕ, List, Contains}
use Rattle.eq_base.specs.Meeting.{in_class_of}
use Rattle.eq_base.specs.RuleList.{RuleList}
use Rattle.eq_base.specs.Rules.{rule_of}
use Rattle.regularity.specs.declared.breaks.Break.{Break}
use Rattle.regularity.specs.Listing.{break_at}
use Rattle.sequentiality.specs.Restrictions as restrictions

module _ (rules : RuleList) where
  -- RE3 or RE4 is broken by the same equations at the same place
  abbrev pub IsToldBefore : Break → Type 0
  IsToldBefore b = restrictions.IsToldBefore (in_class_of rules.classes) rule_of rules.equations b

  -- RE5: a tested part of a left side and a left side first differ by a plain variable and a tested cell
  abbrev pub IsNotSequential : Break → Type 0
  IsNotSequential b = restrictions.IsNotSequential (in_class_of rules.classes) rule_of rules.equations b

  -- the equations break RE1, RE2, RE3 or RE4
  abbrev pub IsEarlier : Break → Type 0
  IsEarlier b = restrictions.IsEarlier (in_class_of rules.classes) rule_of rules.equations b

  -- the equations break a restriction
  abbrev pub IsViolation : Break → Type 0
  IsViolation b = restrictions.IsViolation (in_class_of rules.classes) rule_of rules.equations b

-- the list has the break of RE3 or of RE4 by these equations at this place
abbrev pub IsTold : List Break → (first place second : ℕ) → Type 0
IsTold breaks first place second =
    Contains breaks (break_at 3 first place second) ⊎ Contains breaks (break_at 4 first place second)
