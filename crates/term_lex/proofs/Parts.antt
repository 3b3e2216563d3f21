-- What is known of a grammar, and of those that are made of it: which lexemes begin it, and which go on behind a whole sentence.
use Rattle.std.proofs.Common.{◌≡◌, Bool, true, false, cond, List, [], ◌∷◌, ◌++◌, ◌⊎◌, inl, inr, refl, sym, ap, ◌∙◌, append_assoc, subst}
use Rattle.std.specs.Prelude.{◌&&◌}
use Rattle.term_lex.specs.Lexemes.{Lexeme, IsViable}
use Rattle.term_lex.specs.Parts.{Nothing, One, Then, BeginsWith, Either, Some, Each}
use Rattle.term_lex.proofs.Readings.{viable_front, sentence_viable}
use Rattle.term_lex.proofs.Sequences.{cut}
use Rattle.term_lex.proofs.Marks.{Mark, Fits, HasMark, disjoint, disjoint_marks, has_left, has_right}

-- The grammar has a sentence, and the empty list is none where nullable is false. First marks what begins a sentence, more what goes on behind a whole one.
pub record IsPart (G : List Lexeme → Type 0) (nullable : Bool) (first more : List Mark) : Type 0 where
  pub some : List Lexeme
  pub some_is : G some
  pub empty : G [] → nullable ≡ true
  pub begins : (x : Lexeme) → IsViable G (x ∷ []) → HasMark first x
  pub goes_on : (xs : List Lexeme) (x : Lexeme) → G xs → IsViable G (xs ++ x ∷ []) → HasMark more x

-- what is known by some marks is known by more
pub wider : {G : List Lexeme → Type 0} {nullable : Bool} {first more first' more' : List Mark} → ((x : Lexeme) → HasMark first x → HasMark first' x) → ((x : Lexeme) → HasMark more x → HasMark more' x) → IsPart G nullable first more → IsPart G nullable first' more'
wider begins on p = record {
  some = p.some;
  some_is = p.some_is;
  empty = p.empty;
  begins = λ x v. begins x (p.begins x v);
  goes_on = λ xs x g v. on x (p.goes_on xs x g v);
}

-- no lexeme that goes on behind the one begins the other
abbrev pub Apart : (List Lexeme → Type 0) → (List Lexeme → Type 0) → Type 0
Apart H K = (ts : List Lexeme) (x : Lexeme) → H ts → IsViable H (ts ++ x ∷ []) → IsViable K (x ∷ []) → ⊥

pub apart : {H K : List Lexeme → Type 0} {nh nk : Bool} {fh mh fk mk : List Mark} → IsPart H nh fh mh → IsPart K nk fk mk → disjoint mh fk ≡ true → Apart H K
apart {mh = mh} {fk = fk} p q e = λ ts x h v w. disjoint_marks mh fk x e (p.goes_on ts x h v) (q.begins x w)

-- behind both sentences, a lexeme goes on in the second, or the second is empty and it goes on in the first
pub cut_behind : (H K : List Lexeme → Type 0) → Apart H K → (front back : List Lexeme) (x : Lexeme) (more : List Lexeme) → H front → K back → Then H K (front ++ (back ++ x ∷ more)) → ((back ≡ []) × IsViable H (front ++ x ∷ [])) ⊎ K (back ++ x ∷ more)
cut_behind H K apart_ front back x more h k (front', back', e, h', k') = elim (cut front (back ++ x ∷ more) front' back' e) [
  | inl c ↦ inr (subst K (sym c.1) k')
  | inr (inl c) ↦ inl (goes back k c.0 (c.1 ++ back') c.3 (viable_front H front c.0 c.1 front' c.2 (sentence_viable H front' h')))
  | inr (inr c) ↦ absurd (apart_ front' c.0 h' (viable_front H front' c.0 c.1 front c.2 (sentence_viable H front h)) (viable_front K [] c.0 (c.1 ++ (back ++ x ∷ more)) back' c.3 (sentence_viable K back' k')))
] where
  goes : (back : List Lexeme) → K back → (y : Lexeme) (rest : List Lexeme) → back ++ x ∷ more ≡ y ∷ rest → IsViable H (front ++ y ∷ []) → (back ≡ []) × IsViable H (front ++ x ∷ [])
  goes [] k y rest e v = let same : y ≡ x = cc in (refl, subst (λ (z : Lexeme). IsViable H (front ++ z ∷ [])) same v)
  goes (b ∷ bs) k y rest e v =
      let same : y ≡ b = cc in
      absurd (apart_ front b h (subst (λ (z : Lexeme). IsViable H (front ++ z ∷ [])) same v) (viable_front K [] b bs (b ∷ bs) refl (sentence_viable K (b ∷ bs) k)))

pub nothing_part : IsPart Nothing true [] []
nothing_part = record {
  some = [];
  some_is = refl;
  empty = λ _. refl;
  begins = λ x (more, e). cc;
  goes_on = λ xs x is (more, e). let none : x ∷ more ≡ [] = ap (λ ys. ys ++ x ∷ more) (sym is) ∙ sym (append_assoc xs (x ∷ []) more) ∙ e in cc;
}

pub one_part : {Test : Lexeme → Type 0} (mark : Mark) → ((x : Lexeme) → Test x → Fits mark x) → (x : Lexeme) → Test x → IsPart (One Test) false (mark ∷ []) []
one_part mark fits x test = record {
  some = x ∷ [];
  some_is = (x, refl, test);
  empty = λ (y, e, t). cc;
  begins = λ y (more, (z, e, t)). let same : z ≡ y = cc in inl (subst (Fits mark) same (fits z t));
  goes_on = λ xs y (z, e, t) (more, (u, f, s)). cc;
}

pub then_part : {H K : List Lexeme → Type 0} {nh nk : Bool} {fh mh fk mk : List Mark} → IsPart H nh fh mh → IsPart K nk fk mk → disjoint mh fk ≡ true → IsPart (Then H K) (nh && nk) (fh ++ cond nh fk []) (mk ++ cond nk mh [])
then_part {H = H} {K = K} {nh = nh} {nk = nk} {fh = fh} {mh = mh} {fk = fk} {mk = mk} p q e = record {
  some = p.some ++ q.some;
  some_is = (p.some, q.some, refl, p.some_is, q.some_is);
  empty = λ (front, back, same, h, k). empty front back same h k;
  begins = λ x (more, (front, back, same, h, k)). begins front back x more same h k;
  goes_on = λ xs x (front, back, same, h, k) (more, g).
      let regroup : (xs ++ x ∷ []) ++ more ≡ front ++ (back ++ x ∷ more) = append_assoc xs (x ∷ []) more ∙ ap (λ ys. ys ++ x ∷ more) same ∙ append_assoc front back (x ∷ more) in
      elim (cut_behind H K (apart p q e) front back x more h k (subst (Then H K) regroup g)) [
        | inl c ↦ has_right mk (cond nk mh []) x (subst (λ b. HasMark (cond b mh []) x) (sym (q.empty (subst K c.0 k))) (p.goes_on front x h c.1))
        | inr c ↦ has_left mk (cond nk mh []) x (q.goes_on back x k (more, subst K (sym (append_assoc back (x ∷ []) more)) c))
      ];
} where
  empty : (front back : List Lexeme) → [] ≡ front ++ back → H front → K back → (nh && nk) ≡ true
  empty [] [] same h k = ap (λ b. b && nk) (p.empty h) ∙ q.empty k
  empty [] (y ∷ ys) same h k = cc
  empty (y ∷ ys) back same h k = cc

  begins : (front back : List Lexeme) (x : Lexeme) (more : List Lexeme) → x ∷ more ≡ front ++ back → H front → K back → HasMark (fh ++ cond nh fk []) x
  begins [] back x more same h k = has_right fh (cond nh fk []) x (subst (λ b. HasMark (cond b fk []) x) (sym (p.empty h)) (q.begins x (more, subst K (sym same) k)))
  begins (y ∷ ys) back x more same h k = let first : y ≡ x = cc in has_left fh (cond nh fk []) x (p.begins x (ys, subst (λ (z : Lexeme). H (z ∷ ys)) first h))

pub either_part : {Test : Lexeme → Type 0} {H K : List Lexeme → Type 0} {nk : Bool} {fh mh fk mk : List Mark} → ((xs : List Lexeme) → H xs → BeginsWith Test xs) → IsPart H false fh mh → IsPart K nk fk mk → IsPart (Either Test H K) nk (fh ++ fk) ((mh ++ mk) ++ cond nk fh [])
either_part {Test = Test} {H = H} {K = K} {nk = nk} {fh = fh} {mh = mh} {fk = fk} {mk = mk} begun p q = record {
  some = p.some;
  some_is = inl p.some_is;
  empty = λ s. elim s [ inl h ↦ absurd (begun [] h) | inr k ↦ q.empty k.1 ];
  begins = λ x (more, s). elim s [ inl h ↦ has_left fh fk x (p.begins x (more, h)) | inr k ↦ has_right fh fk x (q.begins x (more, k.1)) ];
  goes_on = λ xs x s (more, t). goes xs x s more t;
} where
  goes : (xs : List Lexeme) (x : Lexeme) → Either Test H K xs → (more : List Lexeme) → Either Test H K ((xs ++ x ∷ []) ++ more) → HasMark ((mh ++ mk) ++ cond nk fh []) x
  goes xs x (inl h) more (inl h') = has_left (mh ++ mk) (cond nk fh []) x (has_left mh mk x (p.goes_on xs x h (more, h')))
  goes xs x (inr k) more (inr k') = has_left (mh ++ mk) (cond nk fh []) x (has_right mh mk x (q.goes_on xs x k.1 (more, k'.1)))
  goes [] x (inl h) more (inr k) = absurd (begun [] h)
  goes (y ∷ ys) x (inl h) more (inr k) = absurd (k.0 (begun (y ∷ ys) h))
  goes [] x (inr k) more (inl h) = has_right (mh ++ mk) (cond nk fh []) x (subst (λ b. HasMark (cond b fh []) x) (sym (q.empty k.1)) (p.begins x (more, h)))
  goes (y ∷ ys) x (inr k) more (inl h) = absurd (k.0 (begun (y ∷ (ys ++ x ∷ []) ++ more) h))

-- a sentence of the first part begins as its first lexeme says
pub then_begun : {Test : Lexeme → Type 0} {K : List Lexeme → Type 0} (xs : List Lexeme) → Then (One Test) K xs → BeginsWith Test xs
then_begun {Test = Test} [] (front, back, e, (x, f, t), k) = cc
then_begun {Test = Test} (y ∷ ys) (front, back, e, (x, f, t), k) = let same : x ≡ y = cc in subst Test same t

-- a list of sentences is empty, or a first one and the others
pub each_cases : {V : Type 0} (G : V → List Lexeme → Type 0) (xs : List Lexeme) → Some (Each G) xs → (xs ≡ []) ⊎ Then (Some G) (Some (Each G)) xs
each_cases G xs ([], e) = inl e
each_cases G xs (v ∷ vs, (front, back, e, g, r)) = inr (front, back, e, (v, g), (vs, r))

pub each_more : {V : Type 0} (G : V → List Lexeme → Type 0) (xs : List Lexeme) → Then (Some G) (Some (Each G)) xs → Some (Each G) xs
each_more G xs (front, back, e, (v, g), (vs, r)) = (v ∷ vs, (front, back, e, g, r))

-- lexemes are cut in one place into a sentence of the one and a sentence of the other
pub one_cut : (H K : List Lexeme → Type 0) → Apart H K → (front back front' back' : List Lexeme) → front ++ back ≡ front' ++ back' → H front → K back → H front' → K back' → (front ≡ front') × (back ≡ back')
one_cut H K apart_ front back front' back' e h k h' k' = elim (cut front back front' back' e) [
  | inl c ↦ c
  | inr (inl c) ↦ absurd (apart_ front c.0 h (viable_front H front c.0 c.1 front' c.2 (sentence_viable H front' h')) (viable_front K [] c.0 (c.1 ++ back') back c.3 (sentence_viable K back k)))
  | inr (inr c) ↦ absurd (apart_ front' c.0 h' (viable_front H front' c.0 c.1 front c.2 (sentence_viable H front h)) (viable_front K [] c.0 (c.1 ++ back) back' c.3 (sentence_viable K back' k')))
]
