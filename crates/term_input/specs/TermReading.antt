-- What reading one term comes to, and what the terms of an input are.
use Rattle.std.specs.Prelude.{ℕ, List, Result}
use Rattle.eq_base.specs.Tree.{Tree}
use Rattle.eq_base.specs.ReadHead.{ReadHead}
use Rattle.term_lex.specs.declared.fault.Fault.{Fault}
use Rattle.term_lex.specs.declared.syntax.Syntax.{Syntax}
use Rattle.symbol_table.specs.Table.{Table}
use Rattle.written_terms.specs.Refusing.{IsTermAt}
use Rattle.def_file.specs.Notations.{notation_of}
use Rattle.term_input.specs.Ending.{BytesEnded}
use Rattle.term_input.specs.Inputs.{End, IsRead, IsReadTo}

-- reading one term at the beginning of the bytes comes to the term and the place behind its dot, or to its
-- first fault
abbrev pub ReadsOne : Syntax → Table → List ℕ → Result (Tree ReadHead × ℕ) Fault → Type 0
ReadsOne syntax names window r = IsTermAt (notation_of syntax) names window 0 r

-- the input is read as these terms, each with its dot, and this end
abbrev pub IsReadAs : Syntax → Table → (limit : ℕ) → List ℕ → List (Tree ReadHead) → End → Type 0
IsReadAs syntax names limit input terms end = IsRead (ReadsOne syntax names) BytesEnded limit input terms end

-- these are the first terms of the input, and the dot of the last one ends at `last`
abbrev pub AreFirst : Syntax → Table → (limit : ℕ) → List ℕ → List (Tree ReadHead) → ℕ → Type 0
AreFirst syntax names limit input terms last =
    IsReadTo (ReadsOne syntax names) BytesEnded limit input 0 terms last
