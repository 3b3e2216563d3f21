-- Sentences that have one tree.
use Rattle.std.proofs.Common.{◌≡◌, List, [], ◌∷◌, ◌++◌, ◌⊎◌, inl, inr, false, true, refl, sym, ◌∙◌, subst}
use Rattle.term_lex.specs.Lexemes.{Lexeme}
use Rattle.term_lex.specs.Parts.{One, Then, Some, Each, This, Led, Separated, Closed}
use Rattle.term_lex.proofs.Marks.{Mark, Fits, HasMark, disjoint, disjoint_marks}
use Rattle.term_lex.proofs.Parts.{IsPart, apart, one_cut, one_part}
use Rattle.term_lex.proofs.Lists.{each_part, Behind}
use Rattle.term_lex.proofs.ListAnswers.{led_part, rest_part, list_part, behind_part}

abbrev pub OneTree : {V : Type 0} → (V → List Lexeme → Type 0) → Type 0
OneTree {V = V} G = (v w : V) (xs : List Lexeme) → G v xs → G w xs → v ≡ w

pub this_one : (Test : Lexeme → Type 0) → OneTree (This Test)
this_one Test = λ v w xs (e, t) (f, u). cc

module _ {V : Type 0} (G : V → List Lexeme → Type 0) {first more : List Mark} (p : IsPart (Some G) false first more) (e : disjoint more first ≡ true) (one : OneTree G) where
  pub each_one : (vs ws : List V) (xs : List Lexeme) → Each G vs xs → Each G ws xs → vs ≡ ws
  each_one [] [] xs s t = refl
  each_one [] (w ∷ ws) xs s (front, back, f, g, r) = absurd (no_empty front back (sym s ∙ f) (w, g)) where
    no_empty : (front back : List Lexeme) → [] ≡ front ++ back → Some G front → ⊥
    no_empty [] back f g = let no = p.empty g in cc
    no_empty (y ∷ ys) back f g = cc
  each_one (v ∷ vs) [] xs (front, back, f, g, r) s = absurd (no_empty front back (sym s ∙ f) (v, g)) where
    no_empty : (front back : List Lexeme) → [] ≡ front ++ back → Some G front → ⊥
    no_empty [] back f g = let no = p.empty g in cc
    no_empty (y ∷ ys) back f g = cc
  each_one (v ∷ vs) (w ∷ ws) xs (front, back, f, g, r) (front', back', f', g', r') =
      let c = one_cut (Some G) (Some (Each G)) (apart p (each_part G first more p e) e) front back front' back' (sym f ∙ f') (v, g) (vs, r) (w, g') (ws, r') in
      let head : v ≡ w = one v w front g (subst (G w) (sym c.0) g') in
      let tail : vs ≡ ws = each_one vs ws back r (subst (Each G ws) (sym c.1) r') in
      cc

-- lists with separators
module _ {V : Type 0} (Separator : Lexeme → Type 0) (G : V → List Lexeme → Type 0) {first more : List Mark} (mark : Mark) (fits : (x : Lexeme) → Separator x → Fits mark x) (x0 : Lexeme) (separates : Separator x0) (p : IsPart (Some G) false first more) (e : disjoint more (mark ∷ []) ≡ true) (one : OneTree G) where
  led_one : OneTree (Led Separator G)
  led_one v w xs (f, b, s, t, g) (f', b', s', t', g') =
      let c = one_cut (One Separator) (Some G) (apart (one_part mark fits x0 separates) p refl) f b f' b' (sym s ∙ s') t (v, g) t' (w, g') in
      one v w b g (subst (G w) (sym c.1) g')

  pub separated_one : OneTree (Separated Separator G)
  separated_one [] ws xs s t = absurd s
  separated_one (v ∷ vs) [] xs s t = absurd t
  separated_one (v ∷ vs) (w ∷ ws) xs (front, back, f, g, r) (front', back', f', g', r') =
      let c = one_cut (Some G) (Some (Each (Led Separator G))) (apart p (rest_part Separator G mark fits x0 separates p e) e) front back front' back' (sym f ∙ f') (v, g) (vs, r) (w, g') (ws, r') in
      let head : v ≡ w = one v w front g (subst (G w) (sym c.0) g') in
      let tail : vs ≡ ws = each_one (Led Separator G) (led_part Separator G mark fits x0 separates p e) e led_one vs ws back r (subst (Each (Led Separator G) ws) (sym c.1) r') in
      cc

-- closed lists
module _ {V : Type 0} (S C : Lexeme → Type 0) (G : V → List Lexeme → Type 0) {first more : List Mark} (mark sign : Mark) (sep_fits : (x : Lexeme) → S x → Fits mark x) (close_fits : (x : Lexeme) → C x → Fits sign x) (s0 : Lexeme) (separates : S s0) (x0 : Lexeme) (closes : C x0) (p : IsPart (Some G) false first more) (goes : disjoint more (mark ∷ sign ∷ []) ≡ true) (other : disjoint (sign ∷ []) (mark ∷ first) ≡ true) (one : OneTree G) where
  sign_apart : (y : Lexeme) → C y → HasMark (mark ∷ first) y → ⊥
  sign_apart y c h = disjoint_marks (sign ∷ []) (mark ∷ first) y other (inl (close_fits y c)) h

  no_sign : (front back xs : List Lexeme) → xs ≡ front ++ back → Some G front → One C xs → ⊥
  no_sign [] back xs f g c = let no = p.empty g in cc
  no_sign (y ∷ ys) back xs f g (z, e, c) = let same : z ≡ y = cc in sign_apart y (subst C same c) (inr (p.begins y (ys, g)))

  no_separator : (xs : List Lexeme) (V' : List Lexeme → Type 0) → Then (One S) V' xs → One C xs → ⊥
  no_separator xs V' (f, b, e, (y, d, s), r) (z, g, c) = let same : z ≡ y = cc in sign_apart y (subst C same c) (inl (sep_fits y s))

  tail_behind : (vs : List V) (back : List Lexeme) → Then (One S) (Closed S C G vs) back ⊎ ((vs ≡ []) × One C back) → Behind S C G back
  tail_behind vs back (inl (f, b, e, s, r)) = inl (f, b, e, s, (vs, r))
  tail_behind vs back (inr c) = inr c.1

  tail_one : (vs ws : List V) (back : List Lexeme) → ((rest : List Lexeme) → Closed S C G vs rest → Closed S C G ws rest → vs ≡ ws) → Then (One S) (Closed S C G vs) back ⊎ ((vs ≡ []) × One C back) → Then (One S) (Closed S C G ws) back ⊎ ((ws ≡ []) × One C back) → vs ≡ ws
  tail_one vs ws back rec (inl (f, b, e, s, r)) (inl (f', b', e', s', r')) =
      let c = one_cut (One S) (Some (Closed S C G)) (apart (one_part mark sep_fits s0 separates) (list_part S C G mark sign sep_fits close_fits s0 separates x0 closes p goes other) refl) f b f' b' (sym e ∙ e') s (vs, r) s' (ws, r') in
      rec b r (subst (Closed S C G ws) (sym c.1) r')
  tail_one vs ws back rec (inl t) (inr c) = absurd (no_separator back (Closed S C G vs) t c.1)
  tail_one vs ws back rec (inr c) (inl t) = absurd (no_separator back (Closed S C G ws) t c.1)
  tail_one vs ws back rec (inr c) (inr d) = c.0 ∙ sym d.0

  pub closed_one : (vs ws : List V) (xs : List Lexeme) → Closed S C G vs xs → Closed S C G ws xs → vs ≡ ws
  closed_one [] [] xs c d = refl
  closed_one [] (w ∷ ws) xs c (front, back, f, g, t) = absurd (no_sign front back xs f (w, g) c)
  closed_one (v ∷ vs) [] xs (front, back, f, g, t) c = absurd (no_sign front back xs f (v, g) c)
  closed_one (v ∷ vs) (w ∷ ws) xs (front, back, f, g, t) (front', back', f', g', t') =
      let c = one_cut (Some G) (Behind S C G) (apart p (behind_part S C G mark sign sep_fits close_fits s0 separates x0 closes p goes other) goes) front back front' back' (sym f ∙ f') (v, g) (tail_behind vs back t) (w, g') (tail_behind ws back' t') in
      let head : v ≡ w = one v w front g (subst (G w) (sym c.0) g') in
      let moved = subst (λ ys. Then (One S) (Closed S C G ws) ys ⊎ ((ws ≡ []) × One C ys)) (sym c.1) t' in
      let tail : vs ≡ ws = tail_one vs ws back (λ rest r s. closed_one vs ws rest r s) t moved in
      cc
