-- A text of few bytes has few items and few names.
use Rattle.std.proofs.Common.{◌≡◌, ℕ, ◌≤◌, ◌<◌, ◌+◌, true, false, List, [], ◌∷◌, ◌++◌, length, refl, subst, ap, inl, inr, Ok, arith}
use Rattle.term_lex.specs.declared.token.Token.{Token}
use Rattle.term_lex.specs.declared.token.TokenKind.TheVariants.{Name, Comma, Semicolon, Dot, End}
use Rattle.term_lex.specs.Lexemes.{Lexeme, Scans}
use Rattle.term_lex.specs.Parts.{IsKind, Some, Each, Led, Separated, Closed}
use Rattle.term_lex.proofs.Marks.{Mark, Kind, disjoint, disjoint_marks}
use Rattle.term_lex.proofs.Parts.{IsPart}
use Rattle.term_lex.proofs.Tokens.{token_within}
use Rattle.term_lex.proofs.Readings.{scans_within}
use Rattle.written_terms.specs.Notation.{Notation}
use Rattle.written_terms.proofs.Notations.{IsLawful}
use Rattle.def_file.specs.Trees.{File}
use Rattle.def_file.specs.Grammar.{IsToken, IsSymbolItem, IsItem, IsVariables, IsFile}
use Rattle.def_file.proofs.Rules.{token_part, symbol_item_part, item_part}

module _ (text : List ℕ) where
  -- lexemes one after another are scanned in two parts
  pub record IsScannedInTwo (at : ℕ) (front back : List Lexeme) (end : ℕ) : Type 0 where
    pub mid : ℕ
    pub first : Scans text at front mid
    pub second : Scans text mid back end

  pub scans_split : (front back : List Lexeme) (at end : ℕ) → Scans text at (front ++ back) end → IsScannedInTwo at front back end
  scans_split [] back at end s = record { mid = at; first = refl; second = s }
  scans_split (x ∷ xs) back at end (found, s) = let r = scans_split xs back x.token.to end s in record { mid = r.mid; first = (found, r.first); second = r.second }

  module _ {V : Type 0} (G : V → List Lexeme → Type 0) {first more : List Mark} (p : IsPart (Some G) false first more) (e : disjoint (Kind End ∷ []) first ≡ true) where
    -- a sentence that does not begin with the end has a byte
    further : (v : V) (xs : List Lexeme) (at end : ℕ) → at ≤ length text → Scans text at xs end → G v xs → at < end
    further v [] at end le s g = let no = p.empty (v, g) in cc
    further v (x ∷ xs) at end le (found, s) g =
        let w = token_within text at (Ok x.token) le found.0 in
        let far : x.token.from < x.token.to = w.advances (λ is_end. disjoint_marks (Kind End ∷ []) first x e (inl is_end) (p.begins x (xs, (v, g)))) in
        let later = scans_within text x.token.to xs end w.ends s in
        omega (arith, later.0, w.starts, far)

    led_few : (S : Lexeme → Type 0) (vs : List V) (xs : List Lexeme) (at end : ℕ) → at ≤ length text → Scans text at xs end → Each (Led S G) vs xs → at + length vs ≤ end
    led_few S [] xs at end le s g = let w = scans_within text at xs end le s in omega (arith, w.0)
    led_few S (v ∷ vs) xs at end le s (front, back, same, (f, b, same', sep, g), r) =
        let cut = scans_split front back at end (subst (λ ys. Scans text at ys end) same s) in
        let within = scans_within text at front cut.mid le cut.first in
        let inner = scans_split f b at cut.mid (subst (λ ys. Scans text at ys cut.mid) same' cut.first) in
        let near = scans_within text at f inner.mid le inner.first in
        let far = further v b inner.mid cut.mid near.1 inner.second g in
        let rest = led_few S vs back cut.mid end within.1 cut.second r in
        omega (arith, near.0, far, rest)

    pub separated_few : (S : Lexeme → Type 0) (vs : List V) (xs : List Lexeme) (at end : ℕ) → at ≤ length text → Scans text at xs end → Separated S G vs xs → at + length vs ≤ end
    separated_few S [] xs at end le s g = absurd g
    separated_few S (v ∷ vs) xs at end le s (front, back, same, g, r) =
        let cut = scans_split front back at end (subst (λ ys. Scans text at ys end) same s) in
        let within = scans_within text at front cut.mid le cut.first in
        let far = further v front at cut.mid le cut.first g in
        let rest = led_few S vs back cut.mid end within.1 cut.second r in
        omega (arith, far, rest)

    pub closed_few : (S C : Lexeme → Type 0) (vs : List V) (xs : List Lexeme) (at end : ℕ) → at ≤ length text → Scans text at xs end → Closed S C G vs xs → at + length vs ≤ end
    closed_few S C [] xs at end le s c = let w = scans_within text at xs end le s in omega (arith, w.0)
    closed_few S C (v ∷ vs) xs at end le s (front, back, same, g, inl (f, b, same', sep, r)) =
        let cut = scans_split front back at end (subst (λ ys. Scans text at ys end) same s) in
        let within = scans_within text at front cut.mid le cut.first in
        let far = further v front at cut.mid le cut.first g in
        let inner = scans_split f b cut.mid end (subst (λ ys. Scans text cut.mid ys end) same' cut.second) in
        let near = scans_within text cut.mid f inner.mid within.1 inner.first in
        let rest = closed_few S C vs b inner.mid end near.1 inner.second r in
        omega (arith, far, near.0, rest)
    closed_few S C (v ∷ vs) xs at end le s (front, back, same, g, inr (none, c)) =
        let cut = scans_split front back at end (subst (λ ys. Scans text at ys end) same s) in
        let within = scans_within text at front cut.mid le cut.first in
        let far = further v front at cut.mid le cut.first g in
        let last = scans_within text cut.mid back end within.1 cut.second in
        let empty : length vs ≡ 0 = ap length none in
        omega (arith, far, last.0, empty)

  -- a file has no more symbol items, variables and items than bytes
  pub record IsFew (file : File) : Type 0 where
    pub symbols : length file.symbols ≤ length text
    pub variables : length file.variables ≤ length text
    pub items : length file.items ≤ length text

  variables_few : (vs : List Token) (xs : List Lexeme) (at end : ℕ) → at ≤ length text → Scans text at xs end → IsVariables vs xs → length vs ≤ end
  variables_few [] xs at end le s v = omega arith
  variables_few (v ∷ vs) xs at end le s (front, back, same, n, c) =
      let cut = scans_split front back at end (subst (λ ys. Scans text at ys end) same s) in
      let within = scans_within text at front cut.mid le cut.first in
      let last = scans_within text cut.mid back end within.1 cut.second in
      let few = separated_few (IsToken Name) (token_part Name) refl (IsKind Comma) (v ∷ vs) front at cut.mid le cut.first n in
      omega (arith, few, last.0)

  pub file_few : {notation : Notation} → IsLawful notation → (file : File) (xs : List Lexeme) (end : ℕ) → Scans text 0 xs end → IsFile notation file xs → IsFew file
  file_few {notation = notation} laws file xs end s (f1, b1, e1, w1, (f2, b2, e2, ss, (f, b, e, cs, (f3, b3, e3, w3, (f4, b4, e4, w4, (f5, b5, e5, vs, (f6, b6, e6, is, r))))))) =
      let c1 = scans_split f1 b1 0 end (subst (λ ys. Scans text 0 ys end) e1 s) in
      let i1 = scans_within text 0 f1 c1.mid (omega arith) c1.first in
      let c2 = scans_split f2 b2 c1.mid end (subst (λ ys. Scans text c1.mid ys end) e2 c1.second) in
      let i2 = scans_within text c1.mid f2 c2.mid i1.1 c2.first in
      let c = scans_split f b c2.mid end (subst (λ ys. Scans text c2.mid ys end) e c2.second) in
      let i = scans_within text c2.mid f c.mid i2.1 c.first in
      let c3 = scans_split f3 b3 c.mid end (subst (λ ys. Scans text c.mid ys end) e3 c.second) in
      let i3 = scans_within text c.mid f3 c3.mid i.1 c3.first in
      let c4 = scans_split f4 b4 c3.mid end (subst (λ ys. Scans text c3.mid ys end) e4 c3.second) in
      let i4 = scans_within text c3.mid f4 c4.mid i3.1 c4.first in
      let c5 = scans_split f5 b5 c4.mid end (subst (λ ys. Scans text c4.mid ys end) e5 c4.second) in
      let i5 = scans_within text c4.mid f5 c5.mid i4.1 c5.first in
      let c6 = scans_split f6 b6 c5.mid end (subst (λ ys. Scans text c5.mid ys end) e6 c5.second) in
      let i6 = scans_within text c5.mid f6 c6.mid i5.1 c6.first in
      let items = closed_few (IsItem notation) (item_part laws) refl (IsKind Semicolon) (IsKind Dot) file.items f6 c5.mid c6.mid i5.1 c6.first is in
      let symbols = closed_few IsSymbolItem symbol_item_part refl (IsKind Semicolon) (IsKind Dot) file.symbols f2 c1.mid c2.mid i1.1 c2.first ss in
      let variables = variables_few file.variables f5 c4.mid c5.mid i4.1 c5.first vs in
      record { symbols = omega (arith, symbols, i2.1); variables = omega (arith, variables, i5.1); items = omega (arith, items, i6.1) }
