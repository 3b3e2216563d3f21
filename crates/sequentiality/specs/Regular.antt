-- Equations that keep the restrictions.
use Rattle.std.specs.Prelude.{◌≡◌, ◌<◌, length}
use Rattle.eq_base.specs.RuleList.{RuleList}
use Rattle.regularity.specs.declared.breaks.Break.{Break}
use Rattle.regularity.specs.Listing.{Lists}
use Rattle.regularity.specs.WellFormed.{AreWellFormed}
use Rattle.sequentiality.specs.Violations.{IsViolation}
use Rattle.sequentiality.specs.declared.regular.AdmitError.{AdmitError}
use Rattle.sequentiality.specs.declared.regular.AdmitError.TheVariants.{Broken, NoMemory}

-- the equations are well formed, and break no restriction
pub record AreRegular (rules : RuleList) : Type 0 where
  pub well_formed : AreWellFormed rules
  pub no_violation : (b : Break) → IsViolation rules b → ⊥

-- the equations are refused: they come back, with their classes, and the list of all violations, which is not empty; or there was no memory
abbrev pub IsRefused : RuleList → AdmitError → Type 0
IsRefused rules (Broken breaks back) = (back ≡ rules) × Lists (IsViolation rules) breaks × (0 < length breaks)
IsRefused rules NoMemory = Unit {0}
