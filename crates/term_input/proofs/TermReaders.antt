-- Reading a term is reading one thing: in one way, with bytes of its own, and with no look behind the dot.
use Rattle.std.proofs.Common.{◌≡◌, ℕ, ◌<◌, ◌≤◌, List, [], ◌∷◌, ◌++◌, length, arith, Ok, sym, ◌∙◌, ap, subst}
use Rattle.eq_base.specs.Tree.{Tree}
use Rattle.eq_base.specs.ReadHead.{ReadHead}
use Rattle.term_lex.specs.declared.token.TokenKind.TheVariants.{Dot, End}
use Rattle.term_lex.specs.declared.syntax.Syntax.{Syntax}
use Rattle.term_lex.specs.Lexemes.{Lexeme, Scans}
use Rattle.term_lex.specs.Parts.{IsKind}
use Rattle.term_lex.proofs.Tokens.{token_within}
use Rattle.term_lex.proofs.Readings.{scans_within}
use Rattle.symbol_table.specs.Table.{Table, HasDistinctNames}
use Rattle.written_terms.specs.Notation.{Notation, IsDotted}
use Rattle.written_terms.specs.Reading.{ReadsTerm}
use Rattle.written_terms.proofs.OneReading.{one_term_at}
use Rattle.def_file.specs.Notations.{notation_of}
use Rattle.def_file.proofs.Lawful.{lawful_of}
use Rattle.term_input.specs.Readers.{IsReader}
use Rattle.term_input.specs.TermReading.{ReadsOne}
use Rattle.term_input.proofs.Fronts.{scans_front}

-- lexemes of which the last is a dot take bytes
scans_some : (text : List ℕ) (at : ℕ) (xs : List Lexeme) (d : Lexeme) (end : ℕ) → at ≤ length text → IsKind Dot d → Scans text at (xs ++ d ∷ []) end → at < end
scans_some text at [] d end le dot (first, e) =
    let within = token_within text at (Ok d.token) le first.0 in
    let some = within.advances (λ no. not_end (sym dot ∙ no)) in
    omega (arith, some, within.starts, e)
  where
    not_end : Dot ≡ End → ⊥
    not_end e = cc (e)
scans_some text at (x ∷ xs) d end le dot (first, rest) =
    let within = token_within text at (Ok x.token) le first.0 in
    let behind = scans_some text x.token.to xs d end within.ends dot rest in
    omega (arith, behind, within.starts, within.ordered)

module _ (notation : Notation) (table : Table) where
  -- a term and its dot take bytes, and end within the text
  pub term_within : (text : List ℕ) (at : ℕ) (t : Tree ReadHead) (end : ℕ) → at ≤ length text → ReadsTerm notation table text at t end → (at < end) × (end ≤ length text)
  term_within text at t end le r = (some r.spelled, (scans_within text at r.lexemes end le r.scanned).1)
    where
      some : IsDotted notation r.written r.lexemes → at < end
      some (front, back, parts, term, (d, is, dot)) =
          let all : r.lexemes ≡ front ++ d ∷ [] = parts ∙ ap (λ ys. front ++ ys) is in
          scans_some text at front d end le dot (subst (λ xs. Scans text at xs end) all r.scanned)

  -- a term and its dot are read alike where the text goes on behind the dot
  pub reads_front : (text more : List ℕ) (at : ℕ) (t : Tree ReadHead) (end : ℕ) → at ≤ length text → ReadsTerm notation table text at t end → ReadsTerm notation table (text ++ more) at t end
  reads_front text more at t end le r = record { written = r.written; lexemes = r.lexemes; scanned = scanned r.spelled; spelled = r.spelled; means = r.means }
    where
      scanned : IsDotted notation r.written r.lexemes → Scans (text ++ more) at r.lexemes end
      scanned (front, back, parts, term, (d, is, dot)) =
          let all : r.lexemes ≡ front ++ d ∷ [] = parts ∙ ap (λ ys. front ++ ys) is in
          subst (λ xs. Scans (text ++ more) at xs end) (sym all) (scans_front text more at front d end le dot (subst (λ xs. Scans text at xs end) all r.scanned)).1

-- terms in each notation, by names that are declared once
pub term_reader : (syntax : Syntax) (names : Table) → HasDistinctNames names → IsReader (ReadsOne syntax names)
term_reader syntax names distinct = record {
  one = λ window r s p q. one_term_at (notation_of syntax) (lawful_of syntax) names distinct window 0 r s p q;
  within = λ window x len r. term_within (notation_of syntax) names window 0 x len (omega arith) r;
  front = λ window more x len r. reads_front (notation_of syntax) names window more 0 x len (omega arith) r;
}
