-- What is known of the notation; a text has one reading as a term or a pattern, or one first fault.
use Rattle.std.proofs.Common.{◌≡◌, ℕ, List, Result, inl, inr, sym, ap, ◌∙◌}
use Rattle.eq_base.specs.Tree.{Tree, cells}
use Rattle.eq_base.specs.Pattern.{PatternCell}
use Rattle.eq_base.specs.ReadHead.{ReadHead}
use Rattle.term_lex.specs.declared.fault.Fault.{Fault}
use Rattle.term_lex.specs.Lexemes.{Lexeme}
use Rattle.term_lex.proofs.Parts.{wider}
use Rattle.term_lex.proofs.Telling.{IsTelling}
use Rattle.symbol_table.specs.Table.{Table, HasDistinctNames, AreDistinct}
use Rattle.written_terms.proofs.Notations.{IsLawful}
use Rattle.written_terms.proofs.OneReading as written
use Rattle.lisp_m.specs.Terms.{Written, spelling}
use Rattle.lisp_m.specs.Notation.{outline, lisp_m, Misplaced}
use Rattle.lisp_m.specs.Refusing.{IsTermAt, IsPatternAt}
use Rattle.lisp_m.proofs.Follows.{term_part}
use Rattle.lisp_m.proofs.Outlines.{met_all, nothing, met_term}

-- one spelling has one list of names, literals and parts of lists
pub same_cells : (w v : Written) → spelling w ≡ spelling v → cells (outline w) ≡ cells (outline v)
same_cells w v e = sym (met_term w) ∙ ap (λ xs. (met_all xs nothing).heads) e ∙ met_term v

-- a misplaced lexeme is one fault
pub one_misplaced : (IsSentence : List Lexeme → Type 0) (before : List Lexeme) (x : Lexeme) (f g : Fault) → Misplaced IsSentence before x f → Misplaced IsSentence before x g → f ≡ g
one_misplaced IsSentence before x f g (inl (dot, is)) (inl (dot', is')) = is ∙ sym is'
one_misplaced IsSentence before x f g (inl (dot, is)) (inr (none, is')) = absurd (none dot)
one_misplaced IsSentence before x f g (inr (none, is)) (inl (dot, is')) = absurd (none dot)
one_misplaced IsSentence before x f g (inr (none, is)) (inr (none', is')) = is ∙ sym is'

-- a dot is misplaced by where a closing bracket can stand
pub telling : IsTelling Misplaced
telling = record {
  moved = λ G H before behind x f to from is. elim is [ inl m ↦ inl ((m.0.0, to m.0.1), m.1) | inr m ↦ inr ((λ d. m.0 (d.0, from d.1)), m.1) ];
  plainly = λ G before x f never is. inr ((λ d. never d.1), is);
}

pub lawful : IsLawful lisp_m
lawful = record {
  one_outline = λ w v lexemes e f. same_cells w v (e ∙ sym f);
  one_fault = one_misplaced;
  part = wider (λ x m. m) (λ x m. inr m) term_part;
  telling = telling;
}

-- a term and its dot are read in one way
pub one_term_at : (table : Table) → HasDistinctNames table → (text : List ℕ) (at : ℕ) (r s : Result (Tree ReadHead × ℕ) Fault) → IsTermAt table text at r → IsTermAt table text at s → r ≡ s
one_term_at table one text at = written.one_term_at lisp_m lawful table one text at

-- a pattern is read in one way
pub one_pattern_at : (table : Table) → HasDistinctNames table → (text : List ℕ) (at : ℕ) (variables : List (List ℕ)) → AreDistinct variables → (r s : Result (Tree (PatternCell ReadHead) × ℕ) Fault) → IsPatternAt table variables text at r → IsPatternAt table variables text at s → r ≡ s
one_pattern_at table one text at = written.one_pattern_at lisp_m lawful table one text at
