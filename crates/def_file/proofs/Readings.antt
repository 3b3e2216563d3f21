-- From what the readers of the parts answer to what the reader of the whole answers.
use Rattle.std.proofs.Common.{◌≡◌, ℕ, Bool, true, List, [], ◌∷◌, ◌++◌, refl, sym, subst, Result, Ok, Err}
use Rattle.term_lex.specs.declared.token.TokenKind.TheVariants.{CloseRound}
use Rattle.term_lex.specs.declared.fault.Fault.{Fault}
use Rattle.term_lex.specs.Lexemes.{Lexeme, Scans, IsViable, Plainly}
use Rattle.term_lex.specs.Parts.{IsKind, Then, BeginsWith, Either, Some, NextIs}
use Rattle.term_lex.proofs.Marks.{Mark, disjoint}
use Rattle.term_lex.proofs.Parts.{IsPart}
use Rattle.term_lex.proofs.Readings.{scans_append}
use Rattle.term_lex.proofs.Answers.{second_by, then_by}
use Rattle.term_lex.proofs.Telling.{IsTelling, Plain, plain, NoClose, lifted, same_answer, then_err, then_ok, first_in, second_in}
use Rattle.def_file.specs.declared.error.FileError.{FileError}
use Rattle.def_file.specs.declared.error.FileError.TheVariants.{Refused, NoMemory}
use Rattle.def_file.specs.Reading.{IsSentenceAt, IsReadAs, IsSyntaxRefused, IsSkip, IsReadAnswer}
use Rattle.def_file.proofs.WithoutTerms.{NeverCloses}

-- a refusal at an equal result
pub read_refused : (M : (List Lexeme → Type 0) → List Lexeme → Lexeme → Fault → Type 0) {A V : Type 0} (G : V → List Lexeme → Type 0) (tree_of : A → V) (text : List ℕ) (at : ℕ) (r : Result (A × ℕ) FileError) (error : FileError) → r ≡ Err error → IsSyntaxRefused M (Some G) text at error → IsReadAnswer M G tree_of text at r
read_refused M G tree_of text at r error e a = subst (IsReadAnswer M G tree_of text at) (sym e) a

pub skip_refused : (G : List Lexeme → Type 0) (text : List ℕ) (at : ℕ) (r : Result ℕ FileError) (error : FileError) → r ≡ Err error → IsSyntaxRefused Plain G text at error → IsSkip G text at r
skip_refused G text at r error e a = subst (IsSkip G text at) (sym e) a

-- from one grammar to another with the same sentences
pub same_read : {G H : List Lexeme → Type 0} (to : (xs : List Lexeme) → G xs → H xs) (from : (xs : List Lexeme) → H xs → G xs) (text : List ℕ) (at : ℕ) {P Q : List Lexeme → Type 0} {end : ℕ} → ((xs : List Lexeme) → P xs → Q xs) → IsReadAs G P text at end → IsReadAs H Q text at end
same_read to from text at {end = end} form r = record {
  answer = same_answer plain to from text at (Ok end) r.answer;
  form = (r.form.0, r.form.1, form r.form.0 r.form.2);
  within = r.within;
}

module _ {M : (List Lexeme → Type 0) → List Lexeme → Lexeme → Fault → Type 0} (telling : IsTelling M) where
  pub same_refused : {G H : List Lexeme → Type 0} (to : (xs : List Lexeme) → G xs → H xs) (from : (xs : List Lexeme) → H xs → G xs) (text : List ℕ) (at : ℕ) (error : FileError) → IsSyntaxRefused M G text at error → IsSyntaxRefused M H text at error
  same_refused to from text at (Refused f) a = same_answer telling to from text at (Err f) a
  same_refused to from text at NoMemory a = tt

  -- a part without closing brackets, whose misplaced lexemes are plainly so
  pub lifted_refused : {G : List Lexeme → Type 0} → NeverCloses G → (text : List ℕ) (at : ℕ) (error : FileError) → IsSyntaxRefused Plain G text at error → IsSyntaxRefused M G text at error
  lifted_refused never text at (Refused f) a = lifted telling never text at (Err f) a
  lifted_refused never text at NoMemory a = tt

-- one part after another
pub stands_then : (P Q : List Lexeme → Type 0) (text : List ℕ) (at mid end : ℕ) → IsSentenceAt P text at mid → IsSentenceAt Q text mid end → IsSentenceAt (Then P Q) text at end
stands_then P Q text at mid end (xs, s, p) (ys, t, q) = (xs ++ ys, scans_append text at xs ys mid end s t, (xs, ys, refl, p, q))

module _ {H K : List Lexeme → Type 0} {nh nk : Bool} {fh mh fk mk : List Mark} (p : IsPart H nh fh mh) (q : IsPart K nk fk mk) (e : disjoint mh fk ≡ true) (text : List ℕ) (at : ℕ) where
  pub then_read : {P Q : List Lexeme → Type 0} {mid end : ℕ} → IsReadAs H P text at mid → IsReadAs K Q text mid end → IsReadAs (Then H K) (Then P Q) text at end
  then_read {P = P} {Q = Q} {mid = mid} {end = end} r s = record {
    answer = then_by Plainly Plainly p q e text at (λ xs ys y f h v is. is) mid r.answer (Ok end) s.answer;
    form = stands_then P Q text at mid end r.form s.form;
    within = s.within;
  }

module _ {M : (List Lexeme → Type 0) → List Lexeme → Lexeme → Fault → Type 0} (telling : IsTelling M) {H K : List Lexeme → Type 0} {nh nk : Bool} {fh mh fk mk : List Mark} (p : IsPart H nh fh mh) (q : IsPart K nk fk mk) (e : disjoint mh fk ≡ true) where
  pub first_refused : NoClose fk → (text : List ℕ) (at : ℕ) (error : FileError) → IsSyntaxRefused M H text at error → IsSyntaxRefused M (Then H K) text at error
  first_refused c text at (Refused f) a = then_err telling p q e c f a
  first_refused c text at NoMemory a = tt

  pub later_refused : NoClose mh → (text : List ℕ) (at : ℕ) {P : List Lexeme → Type 0} {mid : ℕ} → IsReadAs H P text at mid → (error : FileError) → IsSyntaxRefused M K text mid error → IsSyntaxRefused M (Then H K) text at error
  later_refused c text at {mid = mid} r (Refused f) a = then_ok telling p q e c mid r.answer (Err f) a
  later_refused c text at r NoMemory a = tt

-- where the next lexeme does not pass a test, no part begins so
pub stands_apart : (P : List Lexeme → Type 0) (T : Lexeme → Type 0) (text : List ℕ) (at end : ℕ) → (NextIs T text at → ⊥) → IsSentenceAt P text at end → IsSentenceAt (λ xs. (BeginsWith T xs → ⊥) × P xs) text at end
stands_apart P T text at end never (xs, s, p) = (xs, s, (never_begun xs s, p)) where
  never_begun : (xs : List Lexeme) → Scans text at xs end → BeginsWith T xs → ⊥
  never_begun [] s b = b
  never_begun (x ∷ xs) (found, s) b = never (x, found, b)

-- The next lexeme decides between two parts.
module _ {G : List Lexeme → Type 0} (T : Lexeme → Type 0) (H K : List Lexeme → Type 0) (begun : (xs : List Lexeme) → H xs → BeginsWith T xs) (to : (xs : List Lexeme) → Either T H K xs → G xs) (from : (xs : List Lexeme) → G xs → Either T H K xs) (text : List ℕ) (at : ℕ) where
  pub first_read : ((x : Lexeme) → T x → IsViable H (x ∷ [])) → NextIs T text at → {P Q : List Lexeme → Type 0} {end : ℕ} → ((xs : List Lexeme) → P xs → Q xs) → IsReadAs H P text at end → IsReadAs G Q text at end
  first_read can next {end = end} form r = record {
    answer = same_answer plain to from text at (Ok end) (first_in plain text at T H K begun can next (Ok end) r.answer);
    form = (r.form.0, r.form.1, form r.form.0 r.form.2);
    within = r.within;
  }

  pub second_read : IsViable (Either T H K) [] → (NextIs T text at → ⊥) → {P Q : List Lexeme → Type 0} {end : ℕ} → ((xs : List Lexeme) → (BeginsWith T xs → ⊥) → P xs → Q xs) → IsReadAs K P text at end → IsReadAs G Q text at end
  second_read some never {P = P} {end = end} form r =
      let f = stands_apart P T text at end never r.form in
      record {
        answer = same_answer plain to from text at (Ok end) (second_by Plainly Plainly text at T H K begun (λ xs x f b is. is) some never (Ok end) r.answer);
        form = (f.0, f.1, form f.0 f.2.0 f.2.1);
        within = r.within;
      }

module _ {M : (List Lexeme → Type 0) → List Lexeme → Lexeme → Fault → Type 0} (telling : IsTelling M) {G : List Lexeme → Type 0} (T : Lexeme → Type 0) (H K : List Lexeme → Type 0) (begun : (xs : List Lexeme) → H xs → BeginsWith T xs) (to : (xs : List Lexeme) → Either T H K xs → G xs) (from : (xs : List Lexeme) → G xs → Either T H K xs) (text : List ℕ) (at : ℕ) where
  pub first_choice_refused : ((x : Lexeme) → T x → IsViable H (x ∷ [])) → NextIs T text at → (error : FileError) → IsSyntaxRefused M H text at error → IsSyntaxRefused M G text at error
  first_choice_refused can next (Refused f) a = same_answer telling to from text at (Err f) (first_in telling text at T H K begun can next (Err f) a)
  first_choice_refused can next NoMemory a = tt

  pub second_choice_refused : ((x : Lexeme) → IsKind CloseRound x → T x → ⊥) → IsViable (Either T H K) [] → (NextIs T text at → ⊥) → (error : FileError) → IsSyntaxRefused M K text at error → IsSyntaxRefused M G text at error
  second_choice_refused stays some never (Refused f) a = same_answer telling to from text at (Err f) (second_in telling text at T H K begun stays some never (Err f) a)
  second_choice_refused stays some never NoMemory a = tt
