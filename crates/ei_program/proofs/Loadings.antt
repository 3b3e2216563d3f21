-- What is known of a file when its equations were checked.
use Rattle.std.proofs.Common.{◌≡◌, ℕ, List, sym, ap, ◌∙◌, subst, Ok, Err}
use Rattle.std.specs.Prelude.{IfOk, Result}
use Rattle.std.specs.declared.option.Option.{Option}
use Rattle.std.specs.declared.option.Option.TheVariants.{Some}
use Rattle.eq_base.specs.Rules.{rule_of}
use Rattle.eq_base.specs.RuleList.{RuleList}
use Rattle.term_lex.specs.declared.syntax.Syntax.{Syntax}
use Rattle.symbol_table.specs.Table.{HasOneNumberEach}
use Rattle.symbol_table.specs.Reading.{AreLive}
use Rattle.regularity.specs.declared.breaks.Break.{Break}
use Rattle.regularity.specs.Listing.{Lists}
use Rattle.sequentiality.specs.Violations.{IsViolation}
use Rattle.sequentiality.specs.Regular.{AreRegular, IsRefused}
use Rattle.sequentiality.specs.declared.regular.AdmitError.TheVariants.{Broken as BrokenRules}
use Rattle.orthogonal_laws.specs.Operations.{AreTruthsKnown}
use Rattle.ei_program.specs.declared.stop.Stop.TheVariants.{NoMemory, ReadFailed, WriteFailed}
use Rattle.ei_program.specs.declared.outcome.Outcome.{Outcome}
use Rattle.ei_program.specs.declared.outcome.Outcome.TheVariants.{Answered, Questions, BadWords, FileRefused, Broken, TermRefused, InputLong, Stopped}
use Rattle.ei_program.specs.declared.definitions.Equations.{Equations}
use Rattle.ei_program.specs.declared.ready.Ready.{Ready}
use Rattle.ei_program.specs.Definitions.{BreaksNone, Defines, definitions_in, definitions_of}
use Rattle.ei_program.specs.Restrictions.{origin_of, broken_text, AreBroken}
use Rattle.ei_program.specs.Loading.{IsReady, IsLoaded}
use Rattle.ei_program.specs.Admitting.{AreUsable, IsAdmitted}
use Rattle.ei_program.proofs.Broken.{told_read, lists_read, none_read}

module _ (syntax : Syntax) (file : List ℕ) (equations : Equations) where
  -- a file whose equations were admitted, or refused
  pub admit_loaded : (found : Option (List ℕ)) (r : Result Ready Outcome) → found ≡ Some file → Defines syntax file (definitions_in equations) → IsAdmitted equations r → IsLoaded syntax found r
  admit_loaded found (Ok loaded) is defines (same, ready) =
      (file, is, subst (Defines syntax file) (sym same) defines, ready.accepted.regular)
  admit_loaded found (Err (Broken breaks rules)) is defines broken = (file, definitions_in equations, is, defines, broken)
  admit_loaded found (Err (Stopped NoMemory)) is defines a = tt
  admit_loaded found (Err (Stopped ReadFailed)) is defines a = absurd a
  admit_loaded found (Err (Stopped WriteFailed)) is defines a = absurd a
  admit_loaded found (Err Answered) is defines a = absurd a
  admit_loaded found (Err Questions) is defines a = absurd a
  admit_loaded found (Err BadWords) is defines a = absurd a
  admit_loaded found (Err (FileRefused fault)) is defines a = absurd a
  admit_loaded found (Err (TermRefused fault)) is defines a = absurd a
  admit_loaded found (Err InputLong) is defines a = absurd a

  -- the equations that were admitted can be used
  pub admit_ready : (r : Result Ready Outcome) → IsAdmitted equations r → IfOk r IsReady
  admit_ready (Ok loaded) (same, ready) = ready
  admit_ready (Err outcome) a = tt

-- equations that keep the restrictions can be used
pub admitted : (e : Equations) (rules : RuleList) (syntax : Syntax) (file : List ℕ) → Defines syntax file (definitions_in e) → AreUsable e
    → HasOneNumberEach e.symbols → rules ≡ e.rules → AreRegular rules
    → IsAdmitted e (Ok (record { symbols = e.symbols; regular = rules }))
admitted e rules syntax file defines usable one same regular =
    let held : Ready = record { symbols = e.symbols; regular = rules } in
    let is : definitions_of held ≡ definitions_in e = ap (λ (r : RuleList). definitions_in (record { symbols = e.symbols; rules = r })) same in (
      is,
      record {
        accepted = record { syntax = syntax; file = file; defines = subst (Defines syntax file) (sym is) defines; regular = subst BreaksNone (sym is) (none_read e.symbols one e.rules usable.live (subst AreRegular same regular).no_violation) };
        regular = regular;
        live = subst (AreLive e.symbols) (sym same) usable.live;
        truths = subst (AreTruthsKnown e.symbols) (sym same) usable.truths;
      },
    )

-- the breaks of equations are those of the equations as they are read
pub broken_read : (e : Equations) (rules : RuleList) (breaks : List Break) → AreUsable e → HasOneNumberEach e.symbols
    → IsRefused e.rules (BrokenRules breaks rules) → AreBroken (definitions_in e) breaks rules
broken_read e rules breaks usable one (same, lists, some) = record {
  listed = lists_read e.symbols one e.rules usable.live breaks lists;
  some = some;
  told = ap (λ (r : RuleList). broken_text rule_of origin_of r.equations breaks) same ∙ told_read e.symbols e.rules.equations breaks;
}

-- the breaks of equations that come back are theirs
pub breaks_of : (equations rules : RuleList) (breaks : List Break) → (rules ≡ equations) → Lists (IsViolation equations) breaks → Lists (IsViolation rules) breaks
breaks_of equations rules breaks same lists = subst (λ es. Lists (IsViolation es) breaks) (sym same) lists
