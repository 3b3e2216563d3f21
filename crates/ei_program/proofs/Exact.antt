-- A run that neither fails nor lacks memory does what is due.
use Rattle.std.proofs.Common.{◌≡◌, ◌≢◌, ◌⊎◌, ℕ, List, None, inl, inr, refl, sym, subst}
use Rattle.std.specs.declared.option.Option.{Option}
use Rattle.std.specs.Io.KnownBytes.{Appends}
use Rattle.ei_program.specs.declared.settings.Settings.{Settings}
use Rattle.ei_program.specs.Definitions.{Definitions}
use Rattle.ei_program.specs.Answering.{AnswersText, TextLeft}
use Rattle.ei_program.specs.declared.stop.Stop.TheVariants.{NoMemory, ReadFailed, WriteFailed}
use Rattle.ei_program.specs.declared.outcome.Outcome.{Outcome}
use Rattle.ei_program.specs.declared.outcome.Outcome.TheVariants.{Answered, Questions, BadWords, FileRefused, Broken, TermRefused, InputLong, Stopped}
use Rattle.ei_program.specs.declared.status.Status.{Status}
use Rattle.ei_program.specs.declared.status.Status.TheVariants as statuses
use Rattle.ei_program.specs.Lines.{bytes_of}
use Rattle.ei_program.specs.Outcomes.{Told, told_of}
use Rattle.ei_program.specs.Done.{Done, IsLeft}
use Rattle.ei_program.specs.Run.{Given, IsDue, Leaves, LeavesOn}
use Rattle.ei_program.specs.Telling.{IsWritten, IsToldOn, DoesDue}

-- what is told whole
abbrev IsTold : Told → Option (List ℕ) → Option (List ℕ) → Status → Type 0
IsTold told old new status = (status ≡ told.status) × Appends old new told.message

-- a message that could be written was written whole
written_whole : (told : Told) (old new : Option (List ℕ)) (status : Status) → status ≢ statuses.WriteFailed → IsWritten told old new status → IsTold told old new status
written_whole told old new status whole (inl is) = is
written_whole told old new status whole (inr written) = absurd (whole written.0)

-- and is what is told, or memory ran out
told_whole : (told : Told) (old new : Option (List ℕ)) (status : Status) → status ≢ statuses.WriteFailed → IsToldOn told old new status → (status ≡ statuses.NoMemory) ⊎ IsTold told old new status
told_whole told old new status whole (inl written) = inr (written_whole told old new status whole written)
told_whole told old new status whole (inr none) = inl (written_whole (told_of (Stopped NoMemory)) old new status whole none).0

-- something is due, is told by the outcome, and was done but for the telling
abbrev pub IsDueBy : (Done → Type 0) → List ℕ → Option (List ℕ) → Outcome → List ℕ → Type 0
IsDueBy Due input left outcome written =
    (done : Done) × Due done × (done.told ≡ told_of outcome) × IsLeft input done.rest left × (written ≡ bytes_of done.lines)

module _ (Due : Done → Type 0) (input : List ℕ) (left out_old out_new err_old err_new : Option (List ℕ)) (status : Status) where
  abbrev Does : Type 0
  Does = DoesDue Due input left out_old out_new err_old err_new status

  pub does_due : (outcome : Outcome) → LeavesOn (IsDueBy Due input left outcome) out_old out_new → status ≢ statuses.WriteFailed → IsToldOn (told_of outcome) err_old err_new status → Does
  does_due outcome (written, (done, due, told, rest, bytes), appends) whole told_on = elim (told_whole (told_of outcome) err_old err_new status whole told_on) [
    | inl none ↦ inl none
    | inr p ↦
        let there = subst (λ (t : Told). IsTold t err_old err_new status) (sym told) p in
        inr (done, due, record { rest = rest; lines = subst (Appends out_old out_new) bytes appends; status = there.0; message = there.1 })
  ]

  pub no_memory : status ≢ statuses.WriteFailed → IsToldOn (told_of (Stopped NoMemory)) err_old err_new status → Does
  no_memory whole told = elim (told_whole (told_of (Stopped NoMemory)) err_old err_new status whole told) [ inl none ↦ inl none | inr p ↦ inl p.0 ]

-- where no port failed, a run does what is due
pub comes_to : (given : Given) (of_file left out_old out_new err_old err_new : Option (List ℕ)) (status : Status) (outcome : Outcome) → LeavesOn (Leaves given of_file left outcome) out_old out_new
    → outcome ≢ Stopped ReadFailed → outcome ≢ Stopped WriteFailed → IsToldOn (told_of outcome) err_old err_new status
    → (outcome ≢ Stopped WriteFailed → status ≢ statuses.WriteFailed) → DoesDue (IsDue given) given.input left out_old out_new err_old err_new status
comes_to given of_file left out_old out_new err_old err_new status outcome l read write told whole = by outcome l read write told (whole write)
  where
    does : (o : Outcome) → LeavesOn (IsDueBy (IsDue given) given.input left o) out_old out_new → status ≢ statuses.WriteFailed → IsToldOn (told_of o) err_old err_new status → DoesDue (IsDue given) given.input left out_old out_new err_old err_new status
    does o l whole told = does_due (IsDue given) given.input left out_old out_new err_old err_new status o l whole told

    by : (o : Outcome) → LeavesOn (Leaves given of_file left o) out_old out_new → o ≢ Stopped ReadFailed → o ≢ Stopped WriteFailed → IsToldOn (told_of o) err_old err_new status → status ≢ statuses.WriteFailed
        → DoesDue (IsDue given) given.input left out_old out_new err_old err_new status
    by (Stopped NoMemory) l read write told whole = no_memory (IsDue given) given.input left out_old out_new err_old err_new status whole told
    by (Stopped ReadFailed) l read write told whole = absurd (read refl)
    by (Stopped WriteFailed) l read write told whole = absurd (write refl)
    by Answered l read write told whole = does Answered l whole told
    by Questions l read write told whole = does Questions l whole told
    by BadWords l read write told whole = does BadWords l whole told
    by (FileRefused fault) l read write told whole = does (FileRefused fault) l whole told
    by (Broken breaks rules) l read write told whole = does (Broken breaks rules) l whole told
    by (TermRefused fault) l read write told whole = does (TermRefused fault) l whole told
    by InputLong l read write told whole = does InputLong l whole told

-- the same of the answering of terms alone
pub terms_come_to : (settings : Settings) (d : Definitions) (text : List ℕ) (left out_old out_new err_old err_new : Option (List ℕ)) (status : Status) (outcome : Outcome) → LeavesOn (TextLeft settings d text left outcome) out_old out_new
    → outcome ≢ Stopped ReadFailed → outcome ≢ Stopped WriteFailed → IsToldOn (told_of outcome) err_old err_new status
    → (outcome ≢ Stopped WriteFailed → status ≢ statuses.WriteFailed) → DoesDue (AnswersText settings d None text) text left out_old out_new err_old err_new status
terms_come_to settings d text left out_old out_new err_old err_new status outcome l read write told whole = by outcome l read write told (whole write)
  where
    does : (o : Outcome) → LeavesOn (IsDueBy (AnswersText settings d None text) text left o) out_old out_new → status ≢ statuses.WriteFailed → IsToldOn (told_of o) err_old err_new status → DoesDue (AnswersText settings d None text) text left out_old out_new err_old err_new status
    does o l whole told = does_due (AnswersText settings d None text) text left out_old out_new err_old err_new status o l whole told

    by : (o : Outcome) → LeavesOn (TextLeft settings d text left o) out_old out_new → o ≢ Stopped ReadFailed → o ≢ Stopped WriteFailed → IsToldOn (told_of o) err_old err_new status → status ≢ statuses.WriteFailed
        → DoesDue (AnswersText settings d None text) text left out_old out_new err_old err_new status
    by (Stopped NoMemory) l read write told whole = no_memory (AnswersText settings d None text) text left out_old out_new err_old err_new status whole told
    by (Stopped ReadFailed) l read write told whole = absurd (read refl)
    by (Stopped WriteFailed) l read write told whole = absurd (write refl)
    by Answered l read write told whole = does Answered l whole told
    by Questions l read write told whole = does Questions l whole told
    by BadWords l read write told whole = does BadWords l whole told
    by (FileRefused fault) l read write told whole = does (FileRefused fault) l whole told
    by (Broken breaks rules) l read write told whole = does (Broken breaks rules) l whole told
    by (TermRefused fault) l read write told whole = does (TermRefused fault) l whole told
    by InputLong l read write told whole = does InputLong l whole told
