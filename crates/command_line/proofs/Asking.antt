-- What parts ask for, from what they give.
use Rattle.std.proofs.Common.{◌≡◌, ℕ, Bool, true, false, List, [], ◌∷◌, codes, Option, Some, None, inl, inr, sym, ◌∙◌, subst}
use Rattle.std.specs.Prelude.{Contains, ◌^◌, IfNone}
use Rattle.term_lex.specs.declared.syntax.Syntax.{Syntax}
use Rattle.term_lex.specs.declared.syntax.Syntax.TheVariants.{Standmath}
use Rattle.command_line.specs.declared.part.Setting.TheVariants.{Syntax as SyntaxSetting, Replacements, Most}
use Rattle.command_line.specs.declared.given.Given.{Given}
use Rattle.command_line.specs.declared.task.Mode.{Mode}
use Rattle.command_line.specs.declared.task.Mode.TheVariants.{Answer, Check}
use Rattle.command_line.specs.declared.task.Task.{Task}
use Rattle.command_line.specs.Parts.{Part, names_in, StandOnce, operands_in, AreParts}
use Rattle.command_line.specs.Asked.{IsSyntax, IsNumber, IsSetTo, IsMode, AreOperandsOf, IsTask, IsCommandLine}
use Rattle.command_line.specs.Given.{value_of, words_of, IsFlagIn, IsValueIn, IsValueOr, AreGiven}
use Rattle.command_line.proofs.OptionNames.{first_or_behind, no_member}
use Rattle.command_line.proofs.OneTask.{setting_named, one_value, one_mode}
use Rattle.command_line.proofs.Leading.{asks_nothing}

-- what an answer that is none says
pub at_none : {X : Type 0} (answer : Option X) (P : Type 0) → answer ≡ None → P → IfNone answer P
at_none (Some x) P none holds = tt
at_none None P none holds = holds

-- ---- the value of an option

-- the value that is given is set
pub set_to : {V : Type 0} (parts : List Part) (name : List ℕ) (w : Option (List ℕ)) (IsValue : List ℕ → V → Type 0) (default v : V) → IsValueIn parts name w → IsValueOr w IsValue default v → IsSetTo parts name IsValue default v
set_to parts name (Some word) IsValue default v is value = inl (word, is, value)
set_to parts name None IsValue default v is value = inr (is, value)

-- what is set is the value that is given
pub value_or : {V : Type 0} (parts : List Part) (name : List ℕ) (w : Option (List ℕ)) (IsValue : List ℕ → V → Type 0) (default v : V) → StandOnce (names_in parts) → IsValueIn parts name w → IsSetTo parts name IsValue default v → IsValueOr w IsValue default v
value_or parts name (Some word) IsValue default v once is (inl (other, there, value)) = subst (λ (u : List ℕ). IsValue u v) (one_value parts name other word once there is) value
value_or parts name (Some word) IsValue default v once is (inr (none, e)) = absurd (none (setting_named parts name word is))
value_or parts name None IsValue default v once is (inl (other, there, value)) = absurd (is (setting_named parts name other there))
value_or parts name None IsValue default v once is (inr (none, e)) = e

-- ---- the mode

-- the mode with `--check`, or without it
abbrev pub mode_for : Bool → Mode
mode_for true = Check
mode_for false = Answer

pub is_mode : (parts : List Part) (b : Bool) → IsFlagIn parts (codes "check") b → IsMode parts (mode_for b)
is_mode parts true is = is
is_mode parts false is = λ name named. elim (first_or_behind (codes "check") name [] named) [
  | inl same ↦ subst (λ (n : List ℕ). Contains (names_in parts) n → ⊥) same is
  | inr none ↦ absurd (no_member name none)
]

-- ---- the task

-- a task is what is given
pub task_of : (parts : List Part) (given : Given) (mode : Mode) (syntax : Syntax) (budget most : ℕ) → mode ≡ mode_for given.check → IsValueOr (value_of given SyntaxSetting) IsSyntax Standmath syntax → IsValueOr (value_of given Replacements) (IsNumber 0 (10 ^ 12)) 1000000 budget → IsValueOr (value_of given Most) (IsNumber 1 (2 ^ 32)) 1000000 most → AreGiven parts given → IsTask parts (record { mode = mode; syntax = syntax; budget = budget; most = most })
task_of parts given mode syntax budget most is syntax_is budget_is most_is are = record {
  once = are.once;
  mode = subst (λ (m : Mode). IsMode parts m) (sym is) (is_mode parts given.check are.check);
  syntax = set_to parts (codes "syntax") (value_of given SyntaxSetting) IsSyntax Standmath syntax (are.values SyntaxSetting) syntax_is;
  budget = set_to parts (codes "replacements") (value_of given Replacements) (IsNumber 0 (10 ^ 12)) 1000000 budget (are.values Replacements) budget_is;
  most = set_to parts (codes "most") (value_of given Most) (IsNumber 1 (2 ^ 32)) 1000000 most (are.values Most) most_is;
}

-- there is no task without a value for each option
pub no_syntax : (given : Given) → ((syntax : Syntax) → IsValueOr (value_of given SyntaxSetting) IsSyntax Standmath syntax → ⊥) → (parts : List Part) (task : Task) → AreGiven parts given → IsTask parts task → ⊥
no_syntax given none parts task are is = none task.syntax (value_or parts (codes "syntax") (value_of given SyntaxSetting) IsSyntax Standmath task.syntax are.once (are.values SyntaxSetting) is.syntax)

pub no_budget : (given : Given) → ((number : ℕ) → IsValueOr (value_of given Replacements) (IsNumber 0 (10 ^ 12)) 1000000 number → ⊥) → (parts : List Part) (task : Task) → AreGiven parts given → IsTask parts task → ⊥
no_budget given none parts task are is = none task.budget (value_or parts (codes "replacements") (value_of given Replacements) (IsNumber 0 (10 ^ 12)) 1000000 task.budget are.once (are.values Replacements) is.budget)

pub no_most : (given : Given) → ((number : ℕ) → IsValueOr (value_of given Most) (IsNumber 1 (2 ^ 32)) 1000000 number → ⊥) → (parts : List Part) (task : Task) → AreGiven parts given → IsTask parts task → ⊥
no_most given none parts task are is = none task.most (value_or parts (codes "most") (value_of given Most) (IsNumber 1 (2 ^ 32)) 1000000 task.most are.once (are.values Most) is.most)

-- ---- the operands

-- no mode has no operand
no_operand_of : (mode : Mode) (operands : List (List ℕ)) (file : List ℕ) (terms : Option (List ℕ)) → operands ≡ [] → AreOperandsOf mode operands file terms → ⊥
no_operand_of Answer operands file (Some t) none is = let bad : [] ≡ file ∷ t ∷ [] = sym none ∙ is in cc (bad)
no_operand_of Answer operands file None none is = let bad : [] ≡ file ∷ [] = sym none ∙ is in cc (bad)
no_operand_of Check operands file (Some t) none is = is
no_operand_of Check operands file None none is = let bad : [] ≡ file ∷ [] = sym none ∙ is in cc (bad)

pub asks_without_operand : (given : Given) → words_of given.operands ≡ [] → (parts : List Part) (task : Task) (file : List ℕ) (terms : Option (List ℕ)) → AreGiven parts given → IsTask parts task → AreOperandsOf task.mode (operands_in parts) file terms → ⊥
asks_without_operand given none parts task file terms are is operands = no_operand_of task.mode (operands_in parts) file terms (are.operands ∙ none) operands

-- a check has one
one_operand_of : (mode : Mode) (operands : List (List ℕ)) (one two file : List ℕ) (terms : Option (List ℕ)) → mode ≡ Check → operands ≡ one ∷ two ∷ [] → AreOperandsOf mode operands file terms → ⊥
one_operand_of Answer operands one two file terms checks both is = cc (checks)
one_operand_of Check operands one two file (Some t) checks both is = is
one_operand_of Check operands one two file None checks both is = let bad : one ∷ two ∷ [] ≡ file ∷ [] = sym both ∙ is in cc (bad)

pub checks_two : (given : Given) (mine : Task) (one two : List ℕ) → words_of given.operands ≡ one ∷ two ∷ [] → mine.mode ≡ Check → ((parts : List Part) → AreGiven parts given → IsTask parts mine) → (parts : List Part) (task : Task) (file : List ℕ) (terms : Option (List ℕ)) → AreGiven parts given → IsTask parts task → AreOperandsOf task.mode (operands_in parts) file terms → ⊥
checks_two given mine one two both checks my_task parts task file terms are is operands =
    let same : mine.mode ≡ task.mode = one_mode parts mine.mode task.mode (my_task parts are).mode is.mode in
    one_operand_of task.mode (operands_in parts) one two file terms (sym same ∙ checks) (are.operands ∙ both) operands

-- ---- the words

-- where parts that words are ask for nothing, the words are no command line
pub no_command_line : {X : Type 0} (answer : Option X) (words : List (List ℕ)) (ps : List Part) (given : Given) → AreParts ps words → AreGiven ps given → IfNone answer ((parts : List Part) (task : Task) (file : List ℕ) (terms : Option (List ℕ)) → AreGiven parts given → IsTask parts task → AreOperandsOf task.mode (operands_in parts) file terms → ⊥) → IfNone answer (IsCommandLine words → ⊥)
no_command_line (Some x) words ps given are gives none = tt
no_command_line None words ps given are gives none = λ is. asks_nothing words ps are (λ task file terms. none ps task file terms gives) is.0 is.1 is.2 is.3
