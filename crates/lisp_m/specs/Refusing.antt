-- What reading comes to, in this notation.
use Rattle.std.specs.Prelude.{ℕ, List, Result}
use Rattle.eq_base.specs.Tree.{Tree}
use Rattle.eq_base.specs.Pattern.{PatternCell}
use Rattle.eq_base.specs.ReadHead.{ReadHead}
use Rattle.term_lex.specs.declared.fault.Fault.{Fault}
use Rattle.symbol_table.specs.Table.{Table}
use Rattle.written_terms.specs.Refusing as written
use Rattle.lisp_m.specs.Notation.{lisp_m}

-- why there is no ground term and its dot at the place: the first fault of their reading, or else of their names
abbrev pub RefusesTerm : Table → List ℕ → ℕ → Fault → Type 0
RefusesTerm table text at fault = written.RefusesTerm lisp_m table text at fault

-- why there is no pattern at the place: the first fault of its reading, or else of its names
abbrev pub RefusesPattern : Table → List (List ℕ) → List ℕ → ℕ → Fault → Type 0
RefusesPattern table variables text at fault = written.RefusesPattern lisp_m table variables text at fault

-- what reading a ground term and its dot comes to: the term and the place after the dot, or the fault
abbrev pub IsTermAt : Table → List ℕ → ℕ → Result (Tree ReadHead × ℕ) Fault → Type 0
IsTermAt table text at answer = written.IsTermAt lisp_m table text at answer

-- what reading a pattern comes to: the pattern and the place after it, or the fault
abbrev pub IsPatternAt : Table → List (List ℕ) → List ℕ → ℕ → Result (Tree (PatternCell ReadHead) × ℕ) Fault
    → Type 0
IsPatternAt table variables text at answer = written.IsPatternAt lisp_m table variables text at answer
