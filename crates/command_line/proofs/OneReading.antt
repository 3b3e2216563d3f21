-- Words are parts in one way.
use Rattle.std.proofs.Common.{◌≡◌, ◌⊎◌, ℕ, List, [], ◌∷◌, ◌++◌, codes, map, inl, inr, refl, sym, ◌∙◌, ap, subst, slice_get}
use Rattle.std.specs.Prelude.{Contains}
use Rattle.command_line.specs.Parts.{Part, flag, setting, operand, flag_names, setting_names, BeginsWithDash, BeginWith, AreOperands, AreParts}
use Rattle.command_line.proofs.OptionNames.{no_sign, one_split, sign, plain_flags, plain_settings, named_flags, named_settings, apart}

-- ---- options and operands

-- the words are an option's name behind `--` and others, in one way
pub same_name : (m n : List ℕ) (os ps : List (List ℕ)) (words : List (List ℕ)) → words ≡ (codes "--" ++ m) ∷ os → words ≡ (codes "--" ++ n) ∷ ps → (m ≡ n) × (os ≡ ps)
same_name m n os ps words e f = let same : (codes "--" ++ m) ∷ os ≡ (codes "--" ++ n) ∷ ps = sym e ∙ f in (cc (same), cc (same))

-- no operand begins with `--`
pub no_operand : (word name : List ℕ) → word ≡ codes "--" ++ name → (word ≡ codes "-") ⊎ (¬ BeginsWithDash word) → ⊥
no_operand word name e (inl dash) = let same : codes "--" ++ name ≡ codes "-" = sym e ∙ dash in cc (same)
no_operand word name e (inr other) = other (ap (λ w. slice_get w 0) e)

pub operand_or_option : (word name : List ℕ) (os ps words : List (List ℕ)) → words ≡ word ∷ os → (word ≡ codes "-") ⊎ (¬ BeginsWithDash word) → words ≡ (codes "--" ++ name) ∷ ps → ⊥
operand_or_option word name os ps words e is f = let same : word ∷ os ≡ (codes "--" ++ name) ∷ ps = sym e ∙ f in no_operand word name (cc (same)) is

pub one_beginning : (p q : Part) (words os ps : List (List ℕ)) → BeginWith p words os → BeginWith q words ps → (p ≡ q) × (os ≡ ps)
one_beginning (flag m) (flag n) words os ps (is, e) (is', f) = let same = same_name m n os ps words e f in (ap (λ n. flag n) same.0, same.1)
one_beginning (flag m) (setting n v) words os ps (is, e) (is', inl f) = let same = same_name m (n ++ (codes "=" ++ v)) os ps words e f in absurd (no_sign m n v (plain_flags m is) same.0)
one_beginning (flag m) (setting n v) words os ps (is, e) (is', inr (f, free)) = let same = same_name m n os (v ∷ ps) words e f in absurd (apart m is (subst (λ name. Contains setting_names name) (sym same.0) is'))
one_beginning (flag m) (operand w) words os ps (is, e) (f, is') = absurd (operand_or_option w m ps os words f is' e)
one_beginning (setting m v) (flag n) words os ps (is, inl e) (is', f) = let same = same_name n (m ++ (codes "=" ++ v)) ps os words f e in absurd (no_sign n m v (plain_flags n is') same.0)
one_beginning (setting m v) (flag n) words os ps (is, inr (e, free)) (is', f) = let same = same_name n m ps (v ∷ os) words f e in absurd (apart n is' (subst (λ name. Contains setting_names name) (sym same.0) is))
one_beginning (setting m v) (setting n w) words os ps (is, inl e) (is', inl f) =
    let same = same_name (m ++ (codes "=" ++ v)) (n ++ (codes "=" ++ w)) os ps words e f in
    let parts = one_split m n v w (plain_settings m is) (plain_settings n is') (ap (λ w. m ++ w) (sym (sign v)) ∙ same.0 ∙ ap (λ u. n ++ u) (sign w)) in
    (cc (parts.0, parts.1), same.1)
one_beginning (setting m v) (setting n w) words os ps (is, inl e) (is', inr (f, free)) = let same = same_name n (m ++ (codes "=" ++ v)) (w ∷ ps) os words f e in absurd (no_sign n m v (plain_settings n is') same.0)
one_beginning (setting m v) (setting n w) words os ps (is, inr (e, free)) (is', inl f) = let same = same_name m (n ++ (codes "=" ++ w)) (v ∷ os) ps words e f in absurd (no_sign m n w (plain_settings m is) same.0)
one_beginning (setting m v) (setting n w) words os ps (is, inr (e, free)) (is', inr (f, free')) =
    let same = same_name m n (v ∷ os) (w ∷ ps) words e f in
    let value : v ≡ w = cc (same.1) in
    (cc (same.0, value), cc (same.1))
one_beginning (setting m v) (operand w) words os ps (is, inl e) (f, is') = absurd (operand_or_option w (m ++ (codes "=" ++ v)) ps os words f is' e)
one_beginning (setting m v) (operand w) words os ps (is, inr (e, free)) (f, is') = absurd (operand_or_option w m ps (v ∷ os) words f is' e)
one_beginning (operand w) (flag n) words os ps (e, is) (is', f) = absurd (operand_or_option w n os ps words e is f)
one_beginning (operand w) (setting n v) words os ps (e, is) (is', inl f) = absurd (operand_or_option w (n ++ (codes "=" ++ v)) os ps words e is f)
one_beginning (operand w) (setting n v) words os ps (e, is) (is', inr (f, free)) = absurd (operand_or_option w n os (v ∷ ps) words e is f)
one_beginning (operand w) (operand u) words os ps (e, is) (f, is') = let same : w ∷ os ≡ u ∷ ps = sym e ∙ f in (cc (same), cc (same))

-- a part takes a word, and that is not `--`
pub no_beginning : (p : Part) (os : List (List ℕ)) → BeginWith p [] os → ⊥
no_beginning (flag m) os (is, e) = cc (e)
no_beginning (setting m v) os (is, inl e) = cc (e)
no_beginning (setting m v) os (is, inr (e, free)) = cc (e)
no_beginning (operand w) os (e, is) = cc (e)

pub no_dashes : (p : Part) (words os behind : List (List ℕ)) → BeginWith p words os → words ≡ codes "--" ∷ behind → ⊥
no_dashes (flag m) words os behind (is, e) f = let same = same_name m [] os behind words e f in named_flags (subst (λ name. Contains flag_names name) same.0 is)
no_dashes (setting m v) words os behind (is, inl e) f = let same = same_name (m ++ (codes "=" ++ v)) [] os behind words e f in no_sign [] m v (λ k no. cc (no)) (sym same.0)
no_dashes (setting m v) words os behind (is, inr (e, free)) f = let same = same_name m [] (v ∷ os) behind words e f in named_settings (subst (λ name. Contains setting_names name) same.0 is)
no_dashes (operand w) words os behind (e, is) f = operand_or_option w [] os behind words e is f

pub one_operands : (ps qs : List Part) (words : List (List ℕ)) → AreOperands ps words → AreOperands qs words → ps ≡ qs
one_operands ps qs words (behind, e, is) (behind', f, is') =
    let same : codes "--" ∷ behind ≡ codes "--" ∷ behind' = sym e ∙ f in
    let rest : behind ≡ behind' = cc (same) in
    is ∙ ap (map operand) rest ∙ sym is'

-- words are parts in one way
pub one_parts : (ps qs : List Part) (words : List (List ℕ)) → AreParts ps words → AreParts qs words → ps ≡ qs
one_parts [] [] words p q = refl
one_parts [] (b ∷ qs) words (inl e) (inl (os, begin, more)) = absurd (no_beginning b os (subst (λ ws. BeginWith b ws os) e begin))
one_parts [] (b ∷ qs) words (inl e) (inr (behind, f, is)) = let same : [] ≡ codes "--" ∷ behind = sym e ∙ f in cc (same)
one_parts [] (b ∷ qs) words (inr (behind, e, is)) (inl (os, begin, more)) = absurd (no_dashes b words os behind begin e)
one_parts [] (b ∷ qs) words (inr p) (inr q) = one_operands [] (b ∷ qs) words p q
one_parts (a ∷ ps) [] words (inl (os, begin, more)) (inl e) = absurd (no_beginning a os (subst (λ ws. BeginWith a ws os) e begin))
one_parts (a ∷ ps) [] words (inr (behind, f, is)) (inl e) = let same : [] ≡ codes "--" ∷ behind = sym e ∙ f in cc (same)
one_parts (a ∷ ps) [] words (inl (os, begin, more)) (inr (behind, e, is)) = absurd (no_dashes a words os behind begin e)
one_parts (a ∷ ps) [] words (inr p) (inr q) = one_operands (a ∷ ps) [] words p q
one_parts (a ∷ ps) (b ∷ qs) words (inl (os, begin, more)) (inl (os', begin', more')) =
    let same = one_beginning a b words os os' begin begin' in
    let others = one_parts ps qs os more (subst (λ ws. AreParts qs ws) (sym same.1) more') in
    cc (same.0, others)
one_parts (a ∷ ps) (b ∷ qs) words (inl (os, begin, more)) (inr (behind, e, is)) = absurd (no_dashes a words os behind begin e)
one_parts (a ∷ ps) (b ∷ qs) words (inr (behind, e, is)) (inl (os, begin, more)) = absurd (no_dashes b words os behind begin e)
one_parts (a ∷ ps) (b ∷ qs) words (inr p) (inr q) = one_operands (a ∷ ps) (b ∷ qs) words p q
