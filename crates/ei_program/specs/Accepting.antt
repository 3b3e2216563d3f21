-- What a definitions file comes to: what it defines, or why it is refused.
use Rattle.std.specs.Prelude.{◌≡◌, ◌⊎◌, ℕ, ◌<◌, List, length, Result, Ok, Err}
use Rattle.term_lex.specs.declared.fault.Fault.{Fault}
use Rattle.term_lex.specs.declared.syntax.Syntax.{Syntax}
use Rattle.regularity.specs.declared.breaks.Break.{Break}
use Rattle.regularity.specs.Listing.{Lists}
use Rattle.qualifiers.specs.Expansion.{origin_in}
use Rattle.ei_program.specs.declared.status.Status.TheVariants as statuses
use Rattle.ei_program.specs.declared.outcome.Outcome.TheVariants.{FileRefused}
use Rattle.ei_program.specs.Definitions.{Definitions, rule_in, Breaks, BreaksNone, Defines, RefusesFile}
use Rattle.ei_program.specs.Restrictions.{broken_text}
use Rattle.ei_program.specs.Outcomes.{Told, told_of}

-- the file has a fault, which is told
abbrev pub IsRefused : Syntax → List ℕ → Told → Type 0
IsRefused syntax file told =
    (fault : Fault) × RefusesFile syntax file fault × (told ≡ told_of (FileRefused fault))

-- the equations break restrictions, which is told
pub record IsBroken (syntax : Syntax) (file : List ℕ) (told : Told) : Type 0 where
  pub definitions : Definitions
  pub defines : Defines syntax file definitions
  pub breaks : List Break
  pub listed : Lists (Breaks definitions) breaks
  pub some : 0 < length breaks
  pub status : told.status ≡ statuses.Broken
  pub message : told.message ≡ broken_text rule_in origin_in definitions.equations breaks

-- the file defines equations that break no restriction; or it is refused, and that is told
abbrev pub Accepts : Syntax → List ℕ → Result Definitions Told → Type 0
Accepts syntax file (Ok d) = Defines syntax file d × BreaksNone d
Accepts syntax file (Err told) = IsRefused syntax file told ⊎ IsBroken syntax file told
