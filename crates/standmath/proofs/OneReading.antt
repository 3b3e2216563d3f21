-- A text has one reading as a term or a pattern, or one first fault.
use Rattle.std.proofs.Common.{◌≡◌, ℕ, [], ◌∷◌, List, Result, sym, ap, ◌∙◌}
use Rattle.eq_base.specs.Tree.{Tree, cells}
use Rattle.eq_base.specs.Pattern.{PatternCell}
use Rattle.eq_base.specs.ReadHead.{ReadHead}
use Rattle.term_lex.specs.declared.token.TokenKind.TheVariants.{OpenRound, OpenSquare}
use Rattle.term_lex.specs.declared.fault.Fault.{Fault}
use Rattle.term_lex.proofs.Marks.{Kind, has_left}
use Rattle.term_lex.proofs.Parts.{wider}
use Rattle.term_lex.proofs.Telling.{plain}
use Rattle.symbol_table.specs.Table.{Table, HasDistinctNames, AreDistinct}
use Rattle.written_terms.proofs.Notations.{IsLawful}
use Rattle.written_terms.proofs.OneReading as written
use Rattle.standmath.specs.Terms.{Written, spelling}
use Rattle.standmath.specs.Notation.{outline, standmath}
use Rattle.standmath.specs.Refusing.{IsTermAt, IsPatternAt}
use Rattle.standmath.proofs.Terms.{term_marks, term_part}
use Rattle.standmath.proofs.Outlines.{met_all, nothing, met_term}

-- one spelling has one list of names and literals
pub same_cells : (w v : Written) → spelling w ≡ spelling v → cells (outline w) ≡ cells (outline v)
same_cells w v e = sym (met_term w) ∙ ap (λ xs. (met_all xs nothing).heads) e ∙ met_term v

pub lawful : IsLawful standmath
lawful = record {
  one_outline = λ w v lexemes e f. same_cells w v (e ∙ sym f);
  one_fault = λ IsSentence before x f g e e'. e ∙ sym e';
  part = wider (λ x m. has_left term_marks (Kind OpenRound ∷ []) x m) (λ x m. has_left (Kind OpenRound ∷ []) (Kind OpenSquare ∷ []) x m) term_part;
  telling = plain;
}

-- a term and its dot are read in one way
pub one_term_at : (table : Table) → HasDistinctNames table → (text : List ℕ) (at : ℕ) (r s : Result (Tree ReadHead × ℕ) Fault) → IsTermAt table text at r → IsTermAt table text at s → r ≡ s
one_term_at table one text at = written.one_term_at standmath lawful table one text at

-- a pattern is read in one way
pub one_pattern_at : (table : Table) → HasDistinctNames table → (text : List ℕ) (at : ℕ) (variables : List (List ℕ)) → AreDistinct variables → (r s : Result (Tree (PatternCell ReadHead) × ℕ) Fault) → IsPatternAt table variables text at r → IsPatternAt table variables text at s → r ≡ s
one_pattern_at table one text at = written.one_pattern_at standmath lawful table one text at
