-- Reading by two grammars, one after the other: the answers of the parts are the answer of the whole.
use Rattle.std.proofs.Common.{◌≡◌, ℕ, List, [], ◌∷◌, ◌++◌, ◌⊎◌, inl, inr, refl, sym, ◌∙◌, append_assoc, append-nil, subst, Ok}
use Rattle.term_lex.specs.declared.fault.Fault.{Fault}
use Rattle.term_lex.specs.Lexemes.{Lexeme, FirstLexeme, Scans, IsViable, Reads, IsFirstFault}
use Rattle.term_lex.specs.Parts.{Then}
use Rattle.term_lex.proofs.Readings.{scans_append, sentence_viable, viable_front}

-- two cuts of one list are at the same place, or one is further on
pub cut : (xs ys us vs : List Lexeme) → xs ++ ys ≡ us ++ vs →
    ((xs ≡ us) × (ys ≡ vs))
    ⊎ (((y : Lexeme) × (zs : List Lexeme) × (us ≡ xs ++ y ∷ zs) × (ys ≡ y ∷ (zs ++ vs)))
    ⊎ ((y : Lexeme) × (zs : List Lexeme) × (xs ≡ us ++ y ∷ zs) × (vs ≡ y ∷ (zs ++ ys))))
cut [] ys [] vs e = inl (refl, e)
cut [] ys (u ∷ us) vs e = inr (inl (u, us, refl, e))
cut (x ∷ xs) ys [] vs e = inr (inr (x, xs, refl, sym e))
cut (x ∷ xs) ys (u ∷ us) vs e =
    let first : x ≡ u = cc in
    let rest : xs ++ ys ≡ us ++ vs = cc in
    elim (cut xs ys us vs rest) [
      | inl c ↦ inl (cc (c.0), c.1)
      | inr (inl c) ↦ inr (inl (c.0, c.1, cc (c.2), c.3))
      | inr (inr c) ↦ inr (inr (c.0, c.1, cc (c.2), c.3))
    ]

-- The grammars are apart: no token that begins a sentence of the second goes on with one of the first.
module _ (H K : List Lexeme → Type 0) (apart : (ts : List Lexeme) (x : Lexeme) → H ts → IsViable H (ts ++ x ∷ []) → IsViable K (x ∷ []) → ⊥) where
  -- what stands behind a whole front is of the second grammar, unless the front goes on
  pub cut_here : (ts rest : List Lexeme) → H ts → Then H K (ts ++ rest) → ((y : Lexeme) (zs : List Lexeme) → rest ≡ y ∷ zs → IsViable H (ts ++ y ∷ []) → ⊥) → K rest
  cut_here ts rest h (front, back, e, h', k) stop = elim (cut ts rest front back e) [
    | inl c ↦ subst K (sym c.1) k
    | inr (inl c) ↦ absurd (stop c.0 (c.1 ++ back) c.3 (viable_front H ts c.0 c.1 front c.2 (sentence_viable H front h')))
    | inr (inr c) ↦ absurd (apart front c.0 h' (viable_front H front c.0 c.1 ts c.2 (sentence_viable H ts h)) (viable_front K [] c.0 (c.1 ++ rest) back c.3 (sentence_viable K back k)))
  ]

  stop_at : (text : List ℕ) (at mid end : ℕ) (ts us tail : List Lexeme) → Reads H text at ts mid → Scans text mid us end → IsViable K us → ((x : Lexeme) (zs : List Lexeme) → tail ≡ x ∷ zs → FirstLexeme text end (Ok x)) → (y : Lexeme) (zs : List Lexeme) → us ++ tail ≡ y ∷ zs → IsViable H (ts ++ y ∷ []) → ⊥
  stop_at text at mid end ts [] tail r e v found y zs same v' = r.longest y (subst (λ n. FirstLexeme text n (Ok y)) e (found y zs same)) v'
  stop_at text at mid end ts (u ∷ us) tail r s v found y zs same v' =
      let first : u ≡ y = cc in
      apart ts u r.sentence (subst (λ (z : Lexeme). IsViable H (ts ++ z ∷ [])) (sym first) v') (viable_front K [] u us (u ∷ us) refl v)

  pub then_reads : (text : List ℕ) (at mid end : ℕ) (ts us : List Lexeme) → Reads H text at ts mid → Reads K text mid us end → Reads (Then H K) text at (ts ++ us) end
  then_reads text at mid end ts us r s = record {
    scanned = scans_append text at ts us mid end r.scanned s.scanned;
    sentence = (ts, us, refl, r.sentence, s.sentence);
    longest = λ next found v.
        let regroup : (ts ++ us) ++ next ∷ [] ++ v.0 ≡ ts ++ (us ++ next ∷ v.0) = append_assoc (ts ++ us) (next ∷ []) v.0 ∙ append_assoc ts us (next ∷ v.0) in
        let k = cut_here ts (us ++ next ∷ v.0) r.sentence (subst (Then H K) regroup v.1) (stop_at text at mid end ts us (next ∷ v.0) r s.scanned (sentence_viable K us s.sentence) (λ x zs e. let same : next ≡ x = cc in subst (λ (z : Lexeme). FirstLexeme text end (Ok z)) same found)) in
        s.longest next found (v.0, subst K (sym (append_assoc us (next ∷ []) v.0)) k);
  }

  -- M tells the misplaced lexemes of the whole, N those of the second grammar
  pub then_second_fault : (M N : List Lexeme → Lexeme → Fault → Type 0) → ((xs ys : List Lexeme) (y : Lexeme) (f : Fault) → H xs → IsViable K ys → N ys y f → M (xs ++ ys) y f) → (text : List ℕ) (at mid : ℕ) (ts : List Lexeme) (f : Fault) → Reads H text at ts mid → IsFirstFault N K text mid f → IsFirstFault M (Then H K) text at f
  then_second_fault M N kinds text at mid ts f r s = record {
    lexemes = ts ++ s.lexemes;
    end = s.end;
    scanned = scans_append text at ts s.lexemes mid s.end r.scanned s.scanned;
    viable = (s.viable.0, (ts, s.lexemes ++ s.viable.0, append_assoc ts s.lexemes s.viable.0, r.sentence, s.viable.1));
    unfinished = λ g. s.unfinished (cut_here ts s.lexemes r.sentence g (λ y zs e. stop_at text at mid s.end ts s.lexemes [] r s.scanned s.viable (λ x ws no_tail. cc) y zs (append-nil s.lexemes ∙ e)));
    here = elim s.here [
      | inl bad ↦ inl bad
      | inr (x, found, refused, is) ↦ inr (
        x,
        found,
        (λ v.
            let regroup : (ts ++ s.lexemes) ++ x ∷ [] ++ v.0 ≡ ts ++ (s.lexemes ++ x ∷ v.0) = append_assoc (ts ++ s.lexemes) (x ∷ []) v.0 ∙ append_assoc ts s.lexemes (x ∷ v.0) in
            let k = cut_here ts (s.lexemes ++ x ∷ v.0) r.sentence (subst (Then H K) regroup v.1) (stop_at text at mid s.end ts s.lexemes (x ∷ v.0) r s.scanned s.viable (λ y zs e. let same : x ≡ y = cc in subst (λ (z : Lexeme). FirstLexeme text s.end (Ok z)) same found)) in
            refused (v.0, subst K (sym (append_assoc s.lexemes (x ∷ []) v.0)) k)),
        kinds ts s.lexemes x f r.sentence s.viable is,
      )
    ];
  }

  -- the second grammar has a sentence
  pub then_first_fault : (M N : List Lexeme → Lexeme → Fault → Type 0) → ((xs : List Lexeme) (x : Lexeme) (f : Fault) → IsViable H xs → N xs x f → M xs x f) → (us : List Lexeme) → K us → (text : List ℕ) (at : ℕ) (f : Fault) → IsFirstFault N H text at f → IsFirstFault M (Then H K) text at f
  then_first_fault M N kinds us some text at f r = record {
    lexemes = r.lexemes;
    end = r.end;
    scanned = r.scanned;
    viable = (r.viable.0 ++ us, (r.lexemes ++ r.viable.0, us, sym (append_assoc r.lexemes r.viable.0 us), r.viable.1, some));
    unfinished = λ g. unfinished g.0 g.1 g.2 g.3 g.4;
    here = elim r.here [
      | inl bad ↦ inl bad
      | inr (x, found, refused, is) ↦ inr (
        x,
        found,
        (λ v.
            let e : r.lexemes ++ x ∷ v.0 ≡ v.1.0 ++ v.1.1 = sym (append_assoc r.lexemes (x ∷ []) v.0) ∙ v.1.2 in
            elim (cut r.lexemes (x ∷ v.0) v.1.0 v.1.1 e) [
              | inl c ↦ r.unfinished (subst H (sym c.0) v.1.3)
              | inr (inl c) ↦ let same : c.0 ≡ x = cc (c.3) in refused (subst (λ (z : Lexeme). IsViable H (r.lexemes ++ z ∷ [])) same (viable_front H r.lexemes c.0 c.1 v.1.0 c.2 (sentence_viable H v.1.0 v.1.3)))
              | inr (inr c) ↦ apart v.1.0 c.0 v.1.3 (viable_front H v.1.0 c.0 c.1 r.lexemes c.2 r.viable) (viable_front K [] c.0 (c.1 ++ x ∷ v.0) v.1.1 c.3 (sentence_viable K v.1.1 v.1.4))
            ]),
        kinds r.lexemes x f r.viable is,
      )
    ];
  } where
    unfinished : (front back : List Lexeme) → r.lexemes ≡ front ++ back → H front → K back → ⊥
    unfinished front [] e h k = r.unfinished (subst H (sym (e ∙ append-nil front)) h)
    unfinished front (y ∷ zs) e h k = apart front y h (viable_front H front y zs r.lexemes e r.viable) (viable_front K [] y zs (y ∷ zs) refl (sentence_viable K (y ∷ zs) k))
