-- Answers where the fault of a misplaced lexeme follows from where a closing bracket can stand: from the answers of the parts to the answer of the whole.
use Rattle.std.proofs.Common.{◌≡◌, ℕ, Bool, true, List, [], ◌∷◌, ◌++◌, inl, inr, refl, sym, ap, ◌∙◌, append_assoc, subst, Result, Ok, Err}
use Rattle.std.specs.List.{AllByRecursion}
use Rattle.term_lex.specs.declared.token.TokenKind.TheVariants.{CloseRound}
use Rattle.term_lex.specs.declared.fault.Fault.{Fault}
use Rattle.term_lex.specs.Lexemes.{Lexeme, IsViable, IsAnswerBy, Plainly}
use Rattle.term_lex.specs.Parts.{IsKind, Then, BeginsWith, Either, NextIs}
use Rattle.term_lex.proofs.Readings.{viable_front, sentence_viable}
use Rattle.term_lex.proofs.Sequences.{cut, cut_here}
use Rattle.term_lex.proofs.Marks.{Mark, Kind, Fits, HasMark, disjoint, disjoint_marks}
use Rattle.term_lex.proofs.Parts.{IsPart, apart}
use Rattle.term_lex.proofs.Answers.{same_by, first_by, second_by, then_err_by, then_by}

-- the lexemes can go on with a bracket that closes a list
abbrev pub Closes : (List Lexeme → Type 0) → List Lexeme → Type 0
Closes G before = (close : Lexeme) × IsKind CloseRound close × IsViable G (before ++ close ∷ [])

-- Where such a bracket can stand in the same places, a lexeme is misplaced in the same way; where it can not, plainly.
pub record IsTelling (M : (List Lexeme → Type 0) → List Lexeme → Lexeme → Fault → Type 0) : Type 1 where
  pub moved : (G H : List Lexeme → Type 0) (before behind : List Lexeme) (x : Lexeme) (f : Fault) → (Closes G before → Closes H behind) → (Closes H behind → Closes G before) → M G before x f → M H behind x f
  pub plainly : (G : List Lexeme → Type 0) (before : List Lexeme) (x : Lexeme) (f : Fault) → (Closes G before → ⊥) → Plainly before x f → M G before x f

-- every misplaced lexeme is plainly misplaced
abbrev pub Plain : (List Lexeme → Type 0) → List Lexeme → Lexeme → Fault → Type 0
Plain G = Plainly

pub plain : IsTelling Plain
plain = record { moved = λ G H before behind x f to from is. is; plainly = λ G before x f never is. is }

-- no closing bracket has one of the marks
abbrev pub NoClose : List Mark → Type 0
NoClose marks = disjoint (Kind CloseRound ∷ []) marks ≡ true

pub no_close : (marks : List Mark) → NoClose marks → (x : Lexeme) → IsKind CloseRound x → HasMark marks x → ⊥
no_close marks c x closes h = disjoint_marks (Kind CloseRound ∷ []) marks x c (inl closes) h

-- the answer, where M tells the misplaced lexemes of the grammar
abbrev pub IsAnswerIn : ((List Lexeme → Type 0) → List Lexeme → Lexeme → Fault → Type 0) → (List Lexeme → Type 0) → List ℕ → ℕ → Result ℕ Fault → Type 0
IsAnswerIn M G text at r = IsAnswerBy (M G) G text at r

module _ {M : (List Lexeme → Type 0) → List Lexeme → Lexeme → Fault → Type 0} (telling : IsTelling M) where
  -- ---- grammars with the same sentences

  pub same_answer : {G H : List Lexeme → Type 0} → ((xs : List Lexeme) → G xs → H xs) → ((xs : List Lexeme) → H xs → G xs) → (text : List ℕ) (at : ℕ) (r : Result ℕ Fault) → IsAnswerIn M G text at r → IsAnswerIn M H text at r
  same_answer {G = G} {H = H} to from text at r a = same_by (M G) (M H) (λ xs x f is. telling.moved G H xs xs x f (λ c. (c.0, c.1, (c.2.0, to _ c.2.1))) (λ c. (c.0, c.1, (c.2.0, from _ c.2.1))) is) text at to from r a

  -- ---- sentences without a closing bracket

  pub lifted : {G : List Lexeme → Type 0} → ((xs : List Lexeme) → G xs → AllByRecursion (λ x. IsKind CloseRound x → ⊥) xs) → (text : List ℕ) (at : ℕ) (r : Result ℕ Fault) → IsAnswerIn Plain G text at r → IsAnswerIn M G text at r
  lifted {G = G} none text at r a = same_by Plainly (M G) (λ xs x f is. telling.plainly G xs x f (never xs) is) text at (λ xs g. g) (λ xs g. g) r a where
    has_close : (xs more : List Lexeme) (close : Lexeme) → IsKind CloseRound close → AllByRecursion (λ x. IsKind CloseRound x → ⊥) ((xs ++ close ∷ []) ++ more) → ⊥
    has_close [] more close is all = all.0 is
    has_close (x ∷ xs) more close is all = has_close xs more close is all.1

    never : (xs : List Lexeme) → Closes G xs → ⊥
    never xs (close, is, (more, g)) = has_close xs more close is (none _ g)

  -- ---- one part after the other

  module _ {H K : List Lexeme → Type 0} {nh nk : Bool} {fh mh fk mk : List Mark} (p : IsPart H nh fh mh) (q : IsPart K nk fk mk) (e : disjoint mh fk ≡ true) where
    -- a bracket closes a list of the first part exactly where it closes one of the whole
    first_closes : (xs : List Lexeme) → Closes H xs → Closes (Then H K) xs
    first_closes xs (close, is, (more, h)) = (close, is, (more ++ q.some, ((xs ++ close ∷ []) ++ more, q.some, sym (append_assoc (xs ++ close ∷ []) more q.some), h, q.some_is)))

    closes_first : NoClose fk → (xs : List Lexeme) → IsViable H xs → Closes (Then H K) xs → Closes H xs
    closes_first c xs viable (close, is, (more, (front, back, same, h, k))) = elim (cut xs (close ∷ more) front back (sym (append_assoc xs (close ∷ []) more) ∙ same)) [
      | inl at ↦ absurd (no_close fk c close is (q.begins close (more, subst K (sym at.1) k)))
      | inr (inl at) ↦
          let y : at.0 ≡ close = cc (at.3) in
          (close, is, subst (λ (z : Lexeme). IsViable H (xs ++ z ∷ [])) y (viable_front H xs at.0 at.1 front at.2 (sentence_viable H front h)))
      | inr (inr at) ↦ absurd (apart p q e front at.0 h (viable_front H front at.0 at.1 xs at.2 viable) (viable_front K [] at.0 (at.1 ++ close ∷ more) back at.3 (sentence_viable K back k)))
    ]

    -- it closes a list of the second part exactly where it closes one of the whole
    second_closes : (xs ys : List Lexeme) → H xs → Closes K ys → Closes (Then H K) (xs ++ ys)
    second_closes xs ys h (close, is, (more, k)) =
        let regroup : ((xs ++ ys) ++ close ∷ []) ++ more ≡ xs ++ ((ys ++ close ∷ []) ++ more) = append_assoc (xs ++ ys) (close ∷ []) more ∙ append_assoc xs ys (close ∷ more) ∙ ap (λ zs. xs ++ zs) (sym (append_assoc ys (close ∷ []) more)) in
        (close, is, (more, (xs, (ys ++ close ∷ []) ++ more, regroup, h, k)))

    closes_second : NoClose mh → (xs ys : List Lexeme) → H xs → IsViable K ys → Closes (Then H K) (xs ++ ys) → Closes K ys
    closes_second c xs ys h viable (close, is, (more, g)) =
        let regroup : ((xs ++ ys) ++ close ∷ []) ++ more ≡ xs ++ (ys ++ close ∷ more) = append_assoc (xs ++ ys) (close ∷ []) more ∙ append_assoc xs ys (close ∷ more) in
        let k = cut_here H K (apart p q e) xs (ys ++ close ∷ more) h (subst (Then H K) regroup g) (stop ys viable) in
        (close, is, (more, subst K (sym (append_assoc ys (close ∷ []) more)) k))
      where
        stop : (ys : List Lexeme) → IsViable K ys → (y : Lexeme) (zs : List Lexeme) → ys ++ close ∷ more ≡ y ∷ zs → IsViable H (xs ++ y ∷ []) → ⊥
        stop [] viable y zs same v = let first : close ≡ y = cc in no_close mh c y (subst (IsKind CloseRound) first is) (p.goes_on xs y h v)
        stop (u ∷ us) viable y zs same v = let first : u ≡ y = cc in apart p q e xs u h (subst (λ (z : Lexeme). IsViable H (xs ++ z ∷ [])) (sym first) v) (viable_front K [] u us (u ∷ us) refl viable)

    module _ {text : List ℕ} {at : ℕ} where
      pub then_err : NoClose fk → (f : Fault) → IsAnswerIn M H text at (Err f) → IsAnswerIn M (Then H K) text at (Err f)
      then_err c f r = then_err_by (M (Then H K)) (M H) p q e text at (λ xs x g v is. telling.moved H (Then H K) xs xs x g (first_closes xs) (closes_first c xs v) is) f r

      pub then_ok : NoClose mh → (mid : ℕ) → IsAnswerIn M H text at (Ok mid) → (r : Result ℕ Fault) → IsAnswerIn M K text mid r → IsAnswerIn M (Then H K) text at r
      then_ok c mid a r b = then_by (M (Then H K)) (M K) p q e text at (λ xs ys y f h v is. telling.moved K (Then H K) ys (xs ++ ys) y f (second_closes xs ys h) (closes_second c xs ys h v) is) mid a r b

  -- ---- the next lexeme decides between two parts

  module _ (text : List ℕ) (at : ℕ) (Test : Lexeme → Type 0) (H K : List Lexeme → Type 0) (begun : (xs : List Lexeme) → H xs → BeginsWith Test xs) where
    begins_on : (xs : List Lexeme) (y : Lexeme) (rest : List Lexeme) → BeginsWith Test xs → BeginsWith Test ((xs ++ y ∷ []) ++ rest)
    begins_on [] y rest b = absurd b
    begins_on (x ∷ xs) y rest b = b

    closes_begun : (xs : List Lexeme) → BeginsWith Test xs → Closes (Either Test H K) xs → Closes H xs
    closes_begun xs b (close, is, (more, inl h)) = (close, is, (more, h))
    closes_begun xs b (close, is, (more, inr k)) = absurd (k.0 (begins_on xs close more b))

    pub first_in : ((x : Lexeme) → Test x → IsViable H (x ∷ [])) → NextIs Test text at → (r : Result ℕ Fault) → IsAnswerIn M H text at r → IsAnswerIn M (Either Test H K) text at r
    first_in can next r a = first_by (M (Either Test H K)) (M H) text at Test H K begun (λ xs x f b is. telling.moved H (Either Test H K) xs xs x f (λ c. (c.0, c.1, (c.2.0, inl c.2.1))) (closes_begun xs b) is) can next r a

    closes_other : ((x : Lexeme) → IsKind CloseRound x → Test x → ⊥) → (xs : List Lexeme) → (BeginsWith Test xs → ⊥) → Closes (Either Test H K) xs → Closes K xs
    closes_other stays xs never (close, is, (more, inr k)) = (close, is, (more, k.1))
    closes_other stays [] never (close, is, (more, inl h)) = absurd (stays close is (begun _ h))
    closes_other stays (x ∷ xs) never (close, is, (more, inl h)) = absurd (never (begun _ h))

    closes_either : ((x : Lexeme) → IsKind CloseRound x → Test x → ⊥) → (xs : List Lexeme) → (BeginsWith Test xs → ⊥) → Closes K xs → Closes (Either Test H K) xs
    closes_either stays [] never (close, is, (more, k)) = (close, is, (more, inr (stays close is, k)))
    closes_either stays (x ∷ xs) never (close, is, (more, k)) = (close, is, (more, inr (never, k)))

    pub second_in : ((x : Lexeme) → IsKind CloseRound x → Test x → ⊥) → IsViable (Either Test H K) [] → (NextIs Test text at → ⊥) → (r : Result ℕ Fault) → IsAnswerIn M K text at r → IsAnswerIn M (Either Test H K) text at r
    second_in stays some never r a = second_by (M (Either Test H K)) (M K) text at Test H K begun (λ xs x f b is. telling.moved K (Either Test H K) xs xs x f (closes_either stays xs b) (closes_other stays xs b) is) some never r a

-- a test that only lexemes with a mark pass
pub no_closing : {Test : Lexeme → Type 0} (mark : Mark) → ((x : Lexeme) → Test x → Fits mark x) → NoClose (mark ∷ []) → (x : Lexeme) → IsKind CloseRound x → Test x → ⊥
no_closing mark fits c x closes t = no_close (mark ∷ []) c x closes (inl (fits x t))
