-- What breaks a restriction, RE1 to RE4, where atoms and strings are numbers.
use Rattle.std.specs.Prelude.{ℕ, List}
use Rattle.eq_base.specs.Meeting.{in_class_of}
use Rattle.eq_base.specs.RuleList.{RuleList}
use Rattle.eq_base.specs.Rules.{rule_of}
use Rattle.eq_base.specs.declared.head.Head.{Head}
use Rattle.eq_base.specs.declared.rules.Equation.{Equation}
use Rattle.regularity.specs.Restrictions as restrictions
use Rattle.regularity.specs.declared.breaks.Break.{Break}

-- the left sides have a common instance, and the right sides are not the same under the merge
abbrev pub AreAmbiguous : List (List Head) → Equation → Equation → Type 0
AreAmbiguous classes one other = restrictions.AreAmbiguous (in_class_of classes) rule_of one other

module _ (rules : RuleList) where
  -- the equation with this number, which breaks neither RE1 nor RE2
  abbrev pub IsListedSingle : ℕ → Equation → Type 0
  IsListedSingle number e =
      restrictions.IsListedSingle (in_class_of rules.classes) rule_of rules.equations number e

  -- RE1: a second or later occurrence of a variable on a left side
  abbrev pub IsRepeated : Break → Type 0
  IsRepeated b = restrictions.IsRepeated (in_class_of rules.classes) rule_of rules.equations b

  -- RE2: an occurrence on a right side of a variable that is not on the left side
  abbrev pub IsUnboundBreak : Break → Type 0
  IsUnboundBreak b = restrictions.IsUnboundBreak (in_class_of rules.classes) rule_of rules.equations b

  -- RE3: two left sides with a common instance, whose right sides are not the same under the merge
  abbrev pub IsAmbiguous : Break → Type 0
  IsAmbiguous b = restrictions.IsAmbiguous (in_class_of rules.classes) rule_of rules.equations b

  -- RE4: a tested part of a left side below its root, and a left side, with a common instance
  abbrev pub IsOverlap : Break → Type 0
  IsOverlap b = restrictions.IsOverlap (in_class_of rules.classes) rule_of rules.equations b

  -- one equation breaks RE1 or RE2
  abbrev pub IsOfOne : Break → Type 0
  IsOfOne b = restrictions.IsOfOne (in_class_of rules.classes) rule_of rules.equations b

  -- two equations break RE3 or RE4
  abbrev pub IsOfTwo : Break → Type 0
  IsOfTwo b = restrictions.IsOfTwo (in_class_of rules.classes) rule_of rules.equations b
