-- The lines that answer terms.
use Rattle.std.specs.Prelude.{◌≡◌, ◌⊎◌, ℕ, ◌<◌, ◌≤◌, List, [], ◌∷◌, ◌++◌, flat_map, codes, decimal}
use Rattle.std.specs.Prelude.{Some, slice_get}
use Rattle.eq_base.specs.Tree.{Tree, size, nth_subtree}
use Rattle.eq_base.specs.Rewriting.{IsDerivable, IsNormal}
use Rattle.eq_base.specs.ReadHead.{ReadHead}
use Rattle.term_input.specs.Printing.{print}
use Rattle.orthogonal_laws.specs.Strategy.{PlainRun, HasLength}
use Rattle.orthogonal_laws.specs.Past.{HasNoPast, IsFirstPast}
use Rattle.ei_program.specs.declared.settings.Settings.{Settings}
use Rattle.ei_program.specs.Definitions.{Definitions, system}

-- the form is normal and derivable from the term, and the only such one; the term's plain run reaches it
-- within the budget
pub record ReducesTo (budget : ℕ) (d : Definitions) (t form : Tree ReadHead) : Type 0 where
  pub derivable : IsDerivable (system d) t form
  pub normal : IsNormal (system d) form
  pub only : (other : Tree ReadHead) → IsDerivable (system d) t other → IsNormal (system d) other
      → other ≡ form
  pub steps : ℕ
  pub length : HasLength (system d) t steps form
  pub within : steps ≤ budget

-- the line is the print of a normal form, no part of which has a value past the limits, and which is small
-- enough
pub record PrintsForm (settings : Settings) (d : Definitions) (form : Tree ReadHead)
    (line : List ℕ) : Type 0 where
  pub clean : HasNoPast (system d) form
  pub small : size form ≤ settings.most
  pub printed : line ≡ print settings.syntax d.names form

-- the line tells of the first part of a normal form, in preorder, that has a value past the limits
pub record TellsPast (settings : Settings) (d : Definitions) (form : Tree ReadHead)
    (line : List ℕ) : Type 0 where
  pub at : ℕ
  pub first : IsFirstPast (system d) form at
  pub printed : line ≡ codes "? past " ++ print settings.syntax d.names (nth_subtree form at)

-- the line tells that a normal form, no part of which has a value past the limits, has too many nodes
pub record TellsLarge (settings : Settings) (d : Definitions) (form : Tree ReadHead)
    (line : List ℕ) : Type 0 where
  pub clean : HasNoPast (system d) form
  pub large : settings.most < size form
  pub written : line ≡ codes "? large"

-- the line of a normal form
abbrev pub IsFormLine : Settings → Definitions → Tree ReadHead → List ℕ → Type 0
IsFormLine settings d form line =
    PrintsForm settings d form line ⊎ (TellsPast settings d form line ⊎ TellsLarge settings d form line)

-- the line is that of the only normal form, which the term's plain run reaches within the budget
abbrev pub IsAnswered : Settings → Definitions → Tree ReadHead → List ℕ → Type 0
IsAnswered settings d t line = (form : Tree ReadHead) × ReducesTo settings.budget d t form
    × IsFormLine settings d form line

-- the line says that the whole budget was used, and a redex is left; where some derivation ends in a normal
-- form, the plain run ends in it, and is longer than the budget
pub record IsSpent (budget : ℕ) (d : Definitions) (t : Tree ReadHead) (line : List ℕ) : Type 0 where
  pub last : Tree ReadHead
  pub run : PlainRun (system d) t budget last
  pub unfinished : IsNormal (system d) last → ⊥
  pub ends : (form : Tree ReadHead) → IsDerivable (system d) t form → IsNormal (system d) form → (steps : ℕ)
      × HasLength (system d) t steps form
  pub longer : (form : Tree ReadHead) (steps : ℕ) → HasLength (system d) t steps form → budget < steps
  pub written : line ≡ codes "? spent " ++ decimal budget

-- the line answers the term
abbrev pub IsLine : Settings → Definitions → Tree ReadHead → List ℕ → Type 0
IsLine settings d t line = IsAnswered settings d t line ⊎ IsSpent settings.budget d t line

-- the line begins with `?`
abbrev pub IsQuestion : List ℕ → Type 0
IsQuestion line = slice_get line 0 ≡ Some 63

-- some line begins with `?`
abbrev pub SomeQuestion : List (List ℕ) → Type 0
SomeQuestion [] = ⊥
SomeQuestion (line ∷ lines) = IsQuestion line ⊎ SomeQuestion lines

-- one line for each thing, in order
abbrev pub AreLines : {A : Type 0} → (A → List ℕ → Type 0) → List A → List (List ℕ) → Type 0
AreLines Fits [] [] = Unit {0}
AreLines Fits [] (line ∷ lines) = ⊥
AreLines Fits (x ∷ xs) [] = ⊥
AreLines Fits (x ∷ xs) (line ∷ lines) = Fits x line × AreLines Fits xs lines

-- a line and its end
abbrev pub ended : List ℕ → List ℕ
ended line = line ++ 10 ∷ []

-- the bytes of lines
abbrev pub bytes_of : List (List ℕ) → List ℕ
bytes_of lines = flat_map ended lines
