-- From the answers of the parts to the answer of the whole.
use Rattle.std.proofs.Common.{◌≡◌, ℕ, Bool, true, List, [], ◌∷◌, ◌++◌, inl, inr, refl, sym, append-nil, append_assoc, subst, Result, Ok, Err}
use Rattle.term_lex.specs.declared.token.Token.{Token}
use Rattle.term_lex.specs.declared.fault.Fault.{Fault}
use Rattle.term_lex.specs.Tokens.{FirstToken}
use Rattle.term_lex.specs.Lexemes.{Lexeme, lexeme, FirstLexeme, Scans, IsViable, IsAnswerBy}
use Rattle.term_lex.specs.Parts.{Nothing, One, Then, BeginsWith, Either, NextIs}
use Rattle.term_lex.proofs.Readings.{lexeme_found, one_lexeme, no_lexeme}
use Rattle.term_lex.proofs.Sequences.{then_reads, then_first_fault, then_second_fault}
use Rattle.term_lex.proofs.Marks.{Mark, disjoint}
use Rattle.term_lex.proofs.Parts.{IsPart, apart}

-- Grammars with the same sentences have the same answers. M tells the misplaced lexemes of the one, N those of the other.
module _ (M N : List Lexeme → Lexeme → Fault → Type 0) (kinds : (xs : List Lexeme) (x : Lexeme) (f : Fault) → M xs x f → N xs x f) (text : List ℕ) (at : ℕ) where
  pub same_by : {G H : List Lexeme → Type 0} → ((xs : List Lexeme) → G xs → H xs) → ((xs : List Lexeme) → H xs → G xs) → (r : Result ℕ Fault) → IsAnswerBy M G text at r → IsAnswerBy N H text at r
  same_by to from (Ok end) (xs, r) = (xs, record { scanned = r.scanned; sentence = to xs r.sentence; longest = λ next found v. r.longest next found (v.0, from _ v.1) })
  same_by to from (Err f) r = record {
    lexemes = r.lexemes;
    end = r.end;
    scanned = r.scanned;
    viable = (r.viable.0, to _ r.viable.1);
    unfinished = λ h. r.unfinished (from r.lexemes h);
    here = elim r.here [
      | inl bad ↦ inl bad
      | inr (x, found, refused, is) ↦ inr (x, found, (λ v. refused (v.0, from _ v.1)), kinds r.lexemes x f is)
    ];
  }

-- Misplaced lexemes are told by M.
module _ (M : List Lexeme → Lexeme → Fault → Type 0) (text : List ℕ) (at : ℕ) where
  pub nothing_by : IsAnswerBy M Nothing text at (Ok at)
  nothing_by = ([], record { scanned = refl; sentence = refl; longest = λ next found v. let none : next ∷ v.0 ≡ [] = v.1 in cc })

  -- one lexeme
  module _ {Test : Lexeme → Type 0} (x0 : Lexeme) (passes : Test x0) where
    pub one_ok : (t : Token) → FirstToken text at (Ok t) → Test (lexeme text t) → IsAnswerBy M (One Test) text at (Ok t.to)
    one_ok t found is = (
      lexeme text t ∷ [],
      record {
        scanned = (lexeme_found text at t found, refl);
        sentence = (lexeme text t, refl, is);
        longest = λ next is_next (more, (u, e, k)). cc;
      },
    )

    no_test : One Test [] → ⊥
    no_test (t, e, k) = cc

    pub one_bad : (f : Fault) → FirstToken text at (Err f) → IsAnswerBy M (One Test) text at (Err f)
    one_bad f bad = record { lexemes = []; end = at; scanned = refl; viable = (x0 ∷ [], (x0, refl, passes)); unfinished = no_test; here = inl bad }

    pub one_misplaced : (t : Token) (f : Fault) → FirstToken text at (Ok t) → (Test (lexeme text t) → ⊥) → M [] (lexeme text t) f → IsAnswerBy M (One Test) text at (Err f)
    one_misplaced t f found other is = record {
      lexemes = [];
      end = at;
      scanned = refl;
      viable = (x0 ∷ [], (x0, refl, passes));
      unfinished = no_test;
      here = inr (lexeme text t, lexeme_found text at t found, (λ (more, (u, e, k)). let same : u ≡ lexeme text t = cc in other (subst Test same k)), is);
    }

module _ (M N : List Lexeme → Lexeme → Fault → Type 0) (text : List ℕ) (at : ℕ) where
  -- the first lexeme that stands here
  first_of_scanned : (xs : List Lexeme) (end : ℕ) → Scans text at xs end → (y : Lexeme) → FirstLexeme text end (Ok y) → (Test : Lexeme → Type 0) → (rest : List Lexeme) → BeginsWith Test ((xs ++ y ∷ []) ++ rest) → NextIs Test text at
  first_of_scanned [] end e y found Test rest b = (y, subst (λ n. FirstLexeme text n (Ok y)) e found, b)
  first_of_scanned (x ∷ xs) end (first, s) y found Test rest b = (x, first, b)

  first_scanned : (xs : List Lexeme) (end : ℕ) → Scans text at xs end → (Test : Lexeme → Type 0) → BeginsWith Test xs → NextIs Test text at
  first_scanned [] end e Test b = absurd b
  first_scanned (x ∷ xs) end (first, s) Test b = (x, first, b)

  -- M tells the misplaced lexemes of the whole, N those of the grammar that is chosen.
  module _ (Test : Lexeme → Type 0) (H K : List Lexeme → Type 0) (begun : (xs : List Lexeme) → H xs → BeginsWith Test xs) where
    -- where the next lexeme passes, a list of lexemes from here begins so
    begins_so : NextIs Test text at → (xs : List Lexeme) (end : ℕ) → Scans text at xs end → (rest : List Lexeme) → (xs ≡ [] → ⊥) → BeginsWith Test (xs ++ rest)
    begins_so (x, found, test) [] end s rest f = absurd (f refl)
    begins_so (x, found, test) (y ∷ ys) end (first, s) rest f = let same : x ≡ y = one_lexeme text at x y found first in subst Test same test

    not_empty : (xs : List Lexeme) → H xs → xs ≡ [] → ⊥
    not_empty xs h e = begun [] (subst H e h)

    pub first_by : ((xs : List Lexeme) (x : Lexeme) (f : Fault) → BeginsWith Test xs → N xs x f → M xs x f) → ((x : Lexeme) → Test x → IsViable H (x ∷ [])) → NextIs Test text at → (r : Result ℕ Fault) → IsAnswerBy N H text at r → IsAnswerBy M (Either Test H K) text at r
    first_by kinds can next (Ok end) (xs, r) = (
      xs,
      record {
        scanned = r.scanned;
        sentence = inl r.sentence;
        longest = λ y found v. elim v.1 [
          | inl h ↦ r.longest y found (v.0, h)
          | inr k ↦ k.0 (goes xs y v.0 (begun xs r.sentence))
        ];
      },
    ) where
      goes : (xs : List Lexeme) (y : Lexeme) (rest : List Lexeme) → BeginsWith Test xs → BeginsWith Test ((xs ++ y ∷ []) ++ rest)
      goes [] y rest b = absurd b
      goes (x ∷ xs) y rest b = b
    first_by kinds can next (Err f) r = record {
      lexemes = r.lexemes;
      end = r.end;
      scanned = r.scanned;
      viable = (r.viable.0, inl r.viable.1);
      unfinished = λ s. elim s [ inl h ↦ r.unfinished h | inr k ↦ k.0 begun_here ];
      here = elim r.here [
        | inl bad ↦ inl bad
        | inr (x, found, refused, is) ↦ inr (x, found, (λ v. elim v.1 [ inl h ↦ refused (v.0, h) | inr k ↦ k.0 (subst (BeginsWith Test) (sym (append_assoc r.lexemes (x ∷ []) v.0)) (begins_so next r.lexemes r.end r.scanned (x ∷ v.0) some)) ]), kinds r.lexemes x f begun_here is)
      ];
    } where
      here_now : r.lexemes ≡ [] → r.end ≡ at
      here_now e = subst (λ xs. Scans text at xs r.end) e r.scanned

      -- a fault at the very first lexeme would refuse the one that passes
      some : r.lexemes ≡ [] → ⊥
      some e = elim r.here [
        | inl bad ↦ no_lexeme text at next.0 f next.1 (subst (λ n. FirstLexeme text n (Err f)) (here_now e) bad)
        | inr (x, found, refused, is) ↦
            let same : next.0 ≡ x = one_lexeme text at next.0 x next.1 (subst (λ n. FirstLexeme text n (Ok x)) (here_now e) found) in
            refused (subst (λ xs. IsViable H (xs ++ x ∷ [])) (sym e) (can x (subst Test same next.2)))
      ]

      begun_here : BeginsWith Test r.lexemes
      begun_here = subst (BeginsWith Test) (append-nil r.lexemes) (begins_so next r.lexemes r.end r.scanned [] some)

    pub second_by : ((xs : List Lexeme) (x : Lexeme) (f : Fault) → (BeginsWith Test xs → ⊥) → N xs x f → M xs x f) → IsViable (Either Test H K) [] → (NextIs Test text at → ⊥) → (r : Result ℕ Fault) → IsAnswerBy N K text at r → IsAnswerBy M (Either Test H K) text at r
    second_by kinds some never (Ok end) (xs, r) = (
      xs,
      record {
        scanned = r.scanned;
        sentence = inr (λ b. never (first_scanned xs end r.scanned Test b), r.sentence);
        longest = λ y found v. elim v.1 [
          | inl h ↦ never (first_of_scanned xs end r.scanned y found Test v.0 (begun _ h))
          | inr k ↦ r.longest y found (v.0, k.1)
        ];
      },
    )
    second_by kinds some never (Err f) r = record {
      lexemes = r.lexemes;
      end = r.end;
      scanned = r.scanned;
      viable = viable r.lexemes r.scanned r.viable;
      unfinished = λ s. elim s [ inl h ↦ never (first_scanned r.lexemes r.end r.scanned Test (begun _ h)) | inr k ↦ r.unfinished k.1 ];
      here = elim r.here [
        | inl bad ↦ inl bad
        | inr (x, found, refused, is) ↦ inr (x, found, (λ v. elim v.1 [ inl h ↦ never (first_of_scanned r.lexemes r.end r.scanned x found Test v.0 (begun _ h)) | inr k ↦ refused (v.0, k.1) ]), kinds r.lexemes x f (λ b. never (first_scanned r.lexemes r.end r.scanned Test b)) is)
      ];
    } where
      viable : (xs : List Lexeme) → Scans text at xs r.end → IsViable K xs → IsViable (Either Test H K) xs
      viable [] s v = some
      viable (x ∷ xs) s v = (v.0, inr (λ b. never (x, s.0, b), v.1))

-- One part after the other. M tells the misplaced lexemes of the whole, N those of the part that refuses.
module _ (M N : List Lexeme → Lexeme → Fault → Type 0) {H K : List Lexeme → Type 0} {nh nk : Bool} {fh mh fk mk : List Mark} (p : IsPart H nh fh mh) (q : IsPart K nk fk mk) (e : disjoint mh fk ≡ true) (text : List ℕ) (at : ℕ) where
  pub then_err_by : ((xs : List Lexeme) (x : Lexeme) (f : Fault) → IsViable H xs → N xs x f → M xs x f) → (f : Fault) → IsAnswerBy N H text at (Err f) → IsAnswerBy M (Then H K) text at (Err f)
  then_err_by kinds f r = then_first_fault H K (apart p q e) M N kinds q.some q.some_is text at f r

  pub then_by : ((xs ys : List Lexeme) (y : Lexeme) (f : Fault) → H xs → IsViable K ys → N ys y f → M (xs ++ ys) y f) → (mid : ℕ) → IsAnswerBy M H text at (Ok mid) → (r : Result ℕ Fault) → IsAnswerBy N K text mid r → IsAnswerBy M (Then H K) text at r
  then_by kinds mid (xs, r) (Ok end) (ys, s) = (xs ++ ys, then_reads H K (apart p q e) text at mid end xs ys r s)
  then_by kinds mid (xs, r) (Err f) s = then_second_fault H K (apart p q e) M N kinds text at mid xs f r s
