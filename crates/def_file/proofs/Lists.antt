-- The lists of a file, as a loop reads them.
use Rattle.std.proofs.Common.{◌≡◌, ℕ, ◌≤◌, List, [], ◌∷◌, ◌++◌, length, map, refl, sym, ap, ◌∙◌, subst, append_assoc, append-nil, inl, inr, Result, Ok, Err, true, false}
use Rattle.std.proofs.lemmas.List.{map-append}
use Rattle.term_lex.specs.declared.token.TokenKind.{TokenKind}
use Rattle.term_lex.specs.declared.token.TokenKind.TheVariants.{CloseRound}
use Rattle.term_lex.specs.declared.fault.Fault.{Fault}
use Rattle.term_lex.specs.Lexemes.{Lexeme}
use Rattle.term_lex.specs.Parts.{IsKind, One, Then, Some, Each, Closed, NextIs, Led, Separated}
use Rattle.term_lex.proofs.Marks.{Mark, Kind, Fits, disjoint}
use Rattle.term_lex.proofs.Parts.{IsPart}
use Rattle.term_lex.proofs.Readings.{scans_append}
use Rattle.term_lex.proofs.Telling.{IsTelling, Plain, IsAnswerIn, NoClose, no_close, lifted}
use Rattle.term_lex.proofs.PlainAnswers.{kind_next, some_of_kind, of_kind}
use Rattle.term_lex.proofs.ListAnswers.{separated_start, separated_err, separated_on, separated_on_err, separated_end, list_err, list_last, list_on, list_end}
use Rattle.def_file.specs.declared.error.FileError.{FileError}
use Rattle.def_file.specs.declared.error.FileError.TheVariants.{Refused, NoMemory}
use Rattle.def_file.specs.Reading.{IsSentenceAt, IsReadAs, IsSyntaxRefused}
use Rattle.def_file.proofs.WithoutTerms.{one_never}

-- one more, as the tree of one more
pub map-one_more : {A B : Type 0} (f : A → B) (xs : List A) (x : A) {ys : List A} → ys ≡ xs ++ x ∷ [] → map f ys ≡ map f xs ++ f x ∷ []
map-one_more f xs x e = ap (map f) e ∙ map-append f xs (x ∷ [])

-- the first element of a list
pub first-pushed : {A : Type 0} {xs ys : List A} (x : A) → xs ≡ [] → ys ≡ xs ++ x ∷ [] → ys ≡ x ∷ []
first-pushed x none e = e ∙ ap (λ zs. zs ++ x ∷ []) none

-- ---- lists with separators

-- a list has been read up to a place: whatever the rest of it is from there on is the answer of the whole
pub record ListBegun (M : (List Lexeme → Type 0) → List Lexeme → Lexeme → Fault → Type 0) {V : Type 0} (S : Lexeme → Type 0) (G : V → List Lexeme → Type 0) (text : List ℕ) (at : ℕ) (vs : List V) (end : ℕ) : Type 0 where
  pub rest : (r : Result ℕ Fault) → IsAnswerIn M (Some (Each (Led S G))) text end r → IsAnswerIn M (Some (Separated S G)) text at r
  pub form : IsSentenceAt (Separated S G vs) text at end
  pub within : end ≤ length text

module _ {V : Type 0} (S : Lexeme → Type 0) (G : V → List Lexeme → Type 0) where
  each_more : (vs : List V) (v : V) (xs ys : List Lexeme) → Each (Led S G) vs xs → Led S G v ys → Each (Led S G) (vs ++ v ∷ []) (xs ++ ys)
  each_more [] v xs ys e l = (ys, [], ap (λ zs. zs ++ ys) e ∙ sym (append-nil ys), l, refl)
  each_more (u ∷ us) v xs ys (front, back, e, l, r) m = (front, back ++ ys, ap (λ zs. zs ++ ys) e ∙ append_assoc front back ys, l, each_more us v back ys r m)

  separated_more : (vs : List V) (v : V) (xs ys : List Lexeme) → Separated S G vs xs → Led S G v ys → Separated S G (vs ++ v ∷ []) (xs ++ ys)
  separated_more [] v xs ys s l = absurd s
  separated_more (u ∷ us) v xs ys (front, back, e, g, r) l = (front, back ++ ys, ap (λ zs. zs ++ ys) e ∙ append_assoc front back ys, g, each_more us v back ys r l)

module _ {M : (List Lexeme → Type 0) → List Lexeme → Lexeme → Fault → Type 0} (telling : IsTelling M) {V : Type 0} (S : Lexeme → Type 0) (G : V → List Lexeme → Type 0) {first more : List Mark} (mark : Mark) (fits : (x : Lexeme) → S x → Fits mark x) (x0 : Lexeme) (separates : S x0) (p : IsPart (Some G) false first more) (e : disjoint more (mark ∷ []) ≡ true) (no_signs : NoClose (mark ∷ [])) (no_more : NoClose more) (text : List ℕ) (at : ℕ) where
  pub list_first : (v : V) (mid : ℕ) → IsReadAs (Some G) (G v) text at mid → ListBegun M S G text at (v ∷ []) mid
  list_first v mid r = record {
    rest = λ r' a. separated_start S G mark fits x0 separates p e telling no_signs no_more mid r.answer r' a;
    form = (r.form.0, r.form.1, (r.form.0, [], sym (append-nil r.form.0), r.form.2, refl));
    within = r.within;
  }

  pub list_first_refused : (error : FileError) → IsSyntaxRefused M (Some G) text at error → IsSyntaxRefused M (Some (Separated S G)) text at error
  list_first_refused (Refused f) a = separated_err S G mark fits x0 separates p e telling no_signs no_more f a
  list_first_refused NoMemory a = tt

  pub list_more : (vs : List V) (v : V) (mid end : ℕ) → ListBegun M S G text at vs mid → NextIs S text mid → IsReadAs (Some (Led S G)) (Led S G v) text mid end → ListBegun M S G text at (vs ++ v ∷ []) end
  list_more vs v mid end b next r = record {
    rest = λ r' a. b.rest r' (separated_on S G mark fits x0 separates p e telling no_signs no_more next end r.answer r' a);
    form = (b.form.0 ++ r.form.0, scans_append text at b.form.0 r.form.0 mid end b.form.1 r.form.1, separated_more S G vs v b.form.0 r.form.0 b.form.2 r.form.2);
    within = r.within;
  }

  pub list_more_refused : (vs : List V) (mid : ℕ) → ListBegun M S G text at vs mid → NextIs S text mid → (error : FileError) → IsSyntaxRefused M (Some (Led S G)) text mid error → IsSyntaxRefused M (Some (Separated S G)) text at error
  list_more_refused vs mid b next (Refused f) a = b.rest (Err f) (separated_on_err S G mark fits x0 separates p e telling no_signs no_more next f a)
  list_more_refused vs mid b next NoMemory a = tt

  pub list_done : (vs : List V) (end : ℕ) → ListBegun M S G text at vs end → (NextIs S text end → ⊥) → IsReadAs (Some (Separated S G)) (Separated S G vs) text at end
  list_done vs end b never = record {
    answer = b.rest (Ok end) (separated_end S G mark fits x0 separates p e telling no_signs no_more never);
    form = b.form;
    within = b.within;
  }

-- ---- lists of items, with `;` between them and a dot behind them

-- the same of such a list, each of whose items has a separator behind it
pub record ClosedBegun (M : (List Lexeme → Type 0) → List Lexeme → Lexeme → Fault → Type 0) {V : Type 0} (k l : TokenKind) (G : V → List Lexeme → Type 0) (text : List ℕ) (at : ℕ) (vs : List V) (end : ℕ) : Type 0 where
  pub rest : (r : Result ℕ Fault) → IsAnswerIn M (Some (Closed (IsKind k) (IsKind l) G)) text end r → IsAnswerIn M (Some (Closed (IsKind k) (IsKind l) G)) text at r
  pub form : IsSentenceAt (Each (λ v. Then (G v) (One (IsKind k))) vs) text at end
  pub within : end ≤ length text

module _ {V : Type 0} (S C : Lexeme → Type 0) (G : V → List Lexeme → Type 0) where
  followed_more : (vs : List V) (v : V) (xs ys : List Lexeme) → Each (λ v. Then (G v) (One S)) vs xs → Then (G v) (One S) ys → Each (λ v. Then (G v) (One S)) (vs ++ v ∷ []) (xs ++ ys)
  followed_more [] v xs ys e l = (ys, [], ap (λ zs. zs ++ ys) e ∙ sym (append-nil ys), l, refl)
  followed_more (u ∷ us) v xs ys (front, back, e, l, r) m = (front, back ++ ys, ap (λ zs. zs ++ ys) e ∙ append_assoc front back ys, l, followed_more us v back ys r m)

  followed_closed : (vs ws : List V) (xs ys : List Lexeme) → Each (λ v. Then (G v) (One S)) vs xs → Closed S C G ws ys → Closed S C G (vs ++ ws) (xs ++ ys)
  followed_closed [] ws xs ys e c = subst (Closed S C G ws) (ap (λ zs. zs ++ ys) (sym e)) c
  followed_closed (u ∷ us) ws xs ys (front, back, e, (f, b, e', g, s), r) c = (
    f,
    b ++ (back ++ ys),
    ap (λ zs. zs ++ ys) (e ∙ ap (λ zs. zs ++ back) e') ∙ append_assoc (f ++ b) back ys ∙ append_assoc f b (back ++ ys),
    g,
    inl (b, back ++ ys, refl, s, followed_closed us ws back ys r c),
  )

module _ {M : (List Lexeme → Type 0) → List Lexeme → Lexeme → Fault → Type 0} (telling : IsTelling M) {V : Type 0} (k l : TokenKind) (G : V → List Lexeme → Type 0) {first more : List Mark} (p : IsPart (Some G) false first more) (goes : disjoint more (Kind k ∷ Kind l ∷ []) ≡ true) (other : disjoint (Kind l ∷ []) (Kind k ∷ first) ≡ true) (no_signs : NoClose (Kind k ∷ Kind l ∷ [])) (no_more : NoClose more) (text : List ℕ) (at : ℕ) where
  pub closed_begun : at ≤ length text → ClosedBegun M k l G text at [] at
  closed_begun within = record { rest = λ r a. a; form = ([], refl, refl); within = within }

  module _ (vs : List V) (mid : ℕ) (b : ClosedBegun M k l G text at vs mid) where
    closes_no_list : (x : Lexeme) → IsKind CloseRound x → IsKind l x → ⊥
    closes_no_list x is t = no_close (Kind k ∷ Kind l ∷ []) no_signs x is (inr (inl t))

    pub closed_done : (end : ℕ) → NextIs (IsKind l) text mid → IsReadAs (One (IsKind l)) (One (IsKind l)) text mid end → IsReadAs (Some (Closed (IsKind k) (IsKind l) G)) (Closed (IsKind k) (IsKind l) G vs) text at end
    closed_done end next r = record {
      answer = b.rest (Ok end) (list_end (IsKind k) (IsKind l) G (Kind k) (Kind l) (λ x t. t) (λ x t. t) (some_of_kind k) (of_kind k) (some_of_kind l) (of_kind l) p goes other telling no_signs no_more text mid next (Ok end) r.answer);
      form = (b.form.0 ++ r.form.0, scans_append text at b.form.0 r.form.0 mid end b.form.1 r.form.1, subst (λ us. Closed (IsKind k) (IsKind l) G us (b.form.0 ++ r.form.0)) (append-nil vs) (followed_closed (IsKind k) (IsKind l) G vs [] b.form.0 r.form.0 b.form.2 r.form.2));
      within = r.within;
    }

    pub closed_done_refused : NextIs (IsKind l) text mid → (error : FileError) → IsSyntaxRefused Plain (One (IsKind l)) text mid error → IsSyntaxRefused M (Some (Closed (IsKind k) (IsKind l) G)) text at error
    closed_done_refused next (Refused f) a = absurd (kind_next l text mid next f a)
    closed_done_refused next NoMemory a = tt

    module _ (never : NextIs (IsKind l) text mid → ⊥) where
      pub closed_item_refused : (error : FileError) → IsSyntaxRefused M (Some G) text mid error → IsSyntaxRefused M (Some (Closed (IsKind k) (IsKind l) G)) text at error
      closed_item_refused (Refused f) a = b.rest (Err f) (list_err (IsKind k) (IsKind l) G (Kind k) (Kind l) (λ x t. t) (λ x t. t) (some_of_kind k) (of_kind k) (some_of_kind l) (of_kind l) p goes other telling no_signs no_more text mid never f a)
      closed_item_refused NoMemory a = tt

      module _ (v : V) (behind : ℕ) (r : IsReadAs (Some G) (G v) text mid behind) where
        pub closed_last : (end : ℕ) → (NextIs (IsKind k) text behind → ⊥) → IsReadAs (One (IsKind l)) (One (IsKind l)) text behind end → IsReadAs (Some (Closed (IsKind k) (IsKind l) G)) (Closed (IsKind k) (IsKind l) G (vs ++ v ∷ [])) text at end
        closed_last end last c = record {
          answer = b.rest (Ok end) (list_last (IsKind k) (IsKind l) G (Kind k) (Kind l) (λ x t. t) (λ x t. t) (some_of_kind k) (of_kind k) (some_of_kind l) (of_kind l) p goes other telling no_signs no_more text mid never behind r.answer last (Ok end) c.answer);
          form = (
            b.form.0 ++ (r.form.0 ++ c.form.0),
            scans_append text at b.form.0 (r.form.0 ++ c.form.0) mid end b.form.1 (scans_append text mid r.form.0 c.form.0 behind end r.form.1 c.form.1),
            followed_closed (IsKind k) (IsKind l) G vs (v ∷ []) b.form.0 (r.form.0 ++ c.form.0) b.form.2 (r.form.0, c.form.0, refl, r.form.2, inr (refl, c.form.2)),
          );
          within = c.within;
        }

        pub closed_last_refused : (NextIs (IsKind k) text behind → ⊥) → (error : FileError) → IsSyntaxRefused Plain (One (IsKind l)) text behind error → IsSyntaxRefused M (Some (Closed (IsKind k) (IsKind l) G)) text at error
        closed_last_refused last (Refused f) a = b.rest (Err f) (list_last (IsKind k) (IsKind l) G (Kind k) (Kind l) (λ x t. t) (λ x t. t) (some_of_kind k) (of_kind k) (some_of_kind l) (of_kind l) p goes other telling no_signs no_more text mid never behind r.answer last (Err f) (lifted telling (one_never closes_no_list) text behind (Err f) a))
        closed_last_refused last NoMemory a = tt

        pub closed_on : (end : ℕ) → NextIs (IsKind k) text behind → IsReadAs (One (IsKind k)) (One (IsKind k)) text behind end → ClosedBegun M k l G text at (vs ++ v ∷ []) end
        closed_on end next s = record {
          rest = λ r' a. b.rest r' (list_on (IsKind k) (IsKind l) G (Kind k) (Kind l) (λ x t. t) (λ x t. t) (some_of_kind k) (of_kind k) (some_of_kind l) (of_kind l) p goes other telling no_signs no_more text mid never behind r.answer next end s.answer r' a);
          form = (
            b.form.0 ++ (r.form.0 ++ s.form.0),
            scans_append text at b.form.0 (r.form.0 ++ s.form.0) mid end b.form.1 (scans_append text mid r.form.0 s.form.0 behind end r.form.1 s.form.1),
            followed_more (IsKind k) (IsKind l) G vs v b.form.0 (r.form.0 ++ s.form.0) b.form.2 (r.form.0, s.form.0, refl, r.form.2, s.form.2),
          );
          within = s.within;
        }

  pub separator_refused : (mid : ℕ) → NextIs (IsKind k) text mid → (error : FileError) → IsSyntaxRefused Plain (One (IsKind k)) text mid error → IsSyntaxRefused M (Some (Closed (IsKind k) (IsKind l) G)) text at error
  separator_refused mid next (Refused f) a = absurd (kind_next k text mid next f a)
  separator_refused mid next NoMemory a = tt
