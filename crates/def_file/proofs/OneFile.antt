-- A text is one file.
use Rattle.std.proofs.Common.{inl, inr, ◌≡◌, ℕ, Bool, true, false, List, [], ◌∷◌, refl, sym, ap, ◌∙◌, subst}
use Rattle.std.specs.Prelude.{codes}
use Rattle.term_lex.specs.declared.token.Token.{Token}
use Rattle.term_lex.specs.declared.token.TokenKind.{TokenKind}
use Rattle.term_lex.specs.declared.token.TokenKind.TheVariants.{Name, Numeral, Comma, Semicolon, Colon, Dot, Equals, End}
use Rattle.term_lex.specs.Lexemes.{Lexeme, Reads}
use Rattle.term_lex.specs.Parts.{IsKind, IsWord, One, Then, BeginsWith, Some, Closed, Separated}
use Rattle.term_lex.proofs.Marks.{Mark, Kind, Word, disjoint}
use Rattle.term_lex.proofs.Parts.{IsPart, apart, one_cut, then_part}
use Rattle.term_lex.proofs.PlainAnswers.{not_begun, kind_part, word_part, some_of_kind, of_kind, some_word, of_word}
use Rattle.term_lex.proofs.ListAnswers.{same_part}
use Rattle.term_lex.proofs.OneTree.{OneTree, separated_one, closed_one}
use Rattle.term_lex.proofs.Readings.{one_reading}
use Rattle.def_file.specs.Trees.{SymbolItem, Declares, IncludesClasses, ClassItem, Restriction, InClass, OneOf, Condition, EquationItem, Equates, IncludesOperations, File}
use Rattle.def_file.specs.Grammar.{IsToken, IsWordAs, IsTermFrom, IsNames, IsIncludeOf, IsDeclaration, IsSymbolItem, IsMember, AreMembers, IsClassItem, AreMoreClasses, AreListed, AreClasses, IsNameList, IsVariables, IsTerms, IsInClass, IsOneOf, IsRestriction, IsCondition, IsConditions, IsWhere, IsEquation, IsItem, IsFile, IsSomeFile, IsFileText}
use Rattle.written_terms.specs.Notation.{Notation}
use Rattle.written_terms.proofs.Notations.{term_first, term_more, IsLawful}
use Rattle.def_file.proofs.Rules

-- ---- one part after another

module _ {H K : List Lexeme → Type 0} {nh nk : Bool} {fh mh fk mk : List Mark} (p : IsPart H nh fh mh) (q : IsPart K nk fk mk) (e : disjoint mh fk ≡ true) where
  -- both parts have a tree
  both_one : {V W : Type 0} (F : V → List Lexeme → Type 0) (L : W → List Lexeme → Type 0) → ((v : V) (xs : List Lexeme) → F v xs → H xs) → ((w : W) (xs : List Lexeme) → L w xs → K xs) → OneTree F → OneTree L
      → (v v' : V) (w w' : W) (xs : List Lexeme) → Then (F v) (L w) xs → Then (F v') (L w') xs → (v ≡ v') × (w ≡ w')
  both_one F L first second one other v v' w w' xs (f, b, s, x, y) (f', b', s', x', y') =
      let c = one_cut H K (apart p q e) f b f' b' (sym s ∙ s') (first v f x) (second w b y) (first v' f' x') (second w' b' y') in
      (one v v' f x (subst (F v') (sym c.0) x'), other w w' b y (subst (L w') (sym c.1) y'))

  -- the second alone
  back_one : {W : Type 0} (L : W → List Lexeme → Type 0) → ((w : W) (xs : List Lexeme) → L w xs → K xs) → OneTree L → OneTree (λ w xs. Then H (L w) xs)
  back_one L second other w w' xs (f, b, s, x, y) (f', b', s', x', y') =
      let c = one_cut H K (apart p q e) f b f' b' (sym s ∙ s') x (second w b y) x' (second w' b' y') in
      other w w' b y (subst (L w') (sym c.1) y')

  -- the first alone
  front_one : {V : Type 0} (F : V → List Lexeme → Type 0) → ((v : V) (xs : List Lexeme) → F v xs → H xs) → OneTree F → OneTree (λ v xs. Then (F v) K xs)
  front_one F first one v v' xs (f, b, s, x, y) (f', b', s', x', y') =
      let c = one_cut H K (apart p q e) f b f' b' (sym s ∙ s') (first v f x) y (first v' f' x') y' in
      one v v' f x (subst (F v') (sym c.0) x')

some_of : {V : Type 0} (G : V → List Lexeme → Type 0) (v : V) (xs : List Lexeme) → G v xs → Some G xs
some_of G v xs g = (v, g)

same_pair : {A B : Type 0} (a b : A × B) → a.0 ≡ b.0 → a.1 ≡ b.1 → a ≡ b
same_pair a b e f = λ i. (e i, f i)

-- ---- tokens

token_one : (k : TokenKind) → OneTree (IsToken k)
token_one k t u xs (x, e, (is, same)) (y, f, (is', same')) =
    let one : x ≡ y = cc in
    sym same ∙ ap (λ (z : Lexeme). z.token) one ∙ same'

word_one : (w : List ℕ) → OneTree (IsWordAs w)
word_one w t u xs (x, e, (is, same)) (y, f, (is', same')) =
    let one : x ≡ y = cc in
    sym same ∙ ap (λ (z : Lexeme). z.token) one ∙ same'

-- ---- symbol items

names_one : OneTree IsNames
names_one ns ms xs s t = separated_one (IsKind Comma) (IsToken Name) (Kind Comma) (λ x k. k) (some_of_kind Comma) (of_kind Comma) (Rules.token_part Name) refl (token_one Name) ns ms xs s t

include_one : (t u : Token) (ns ms : List Token) (xs : List Lexeme) → IsIncludeOf (t, ns) xs → IsIncludeOf (u, ms) xs → (t ≡ u) × (ns ≡ ms)
include_one t u ns ms xs s r = both_one (Rules.word_as_part (codes "include")) Rules.names_part refl (IsWordAs (codes "include")) IsNames (some_of (IsWordAs (codes "include"))) (some_of IsNames) (word_one (codes "include")) names_one t u ns ms xs s r

abbrev Numbered : Token → List Lexeme → Type 0
Numbered a xs = Then (One (IsKind Colon)) (IsToken Numeral a) xs

numbered_one : OneTree Numbered
numbered_one a b xs s t = back_one (kind_part Colon) (Rules.token_part Numeral) refl (IsToken Numeral) (some_of (IsToken Numeral)) (token_one Numeral) a b xs s t

declared_one : (n m a b : Token) (xs : List Lexeme) → IsDeclaration (n, a) xs → IsDeclaration (m, b) xs → (n ≡ m) × (a ≡ b)
declared_one n m a b xs s t =
    both_one (Rules.token_part Name) (then_part (kind_part Colon) (Rules.token_part Numeral) refl) refl (IsToken Name) Numbered (some_of (IsToken Name)) parts (token_one Name) numbered_one n m a b xs s t
  where
    parts : (a : Token) (xs : List Lexeme) → Numbered a xs → Then (One (IsKind Colon)) (Some (IsToken Numeral)) xs
    parts a xs (f, b, e, c, t) = (f, b, e, c, (a, t))

symbol_item_one : OneTree IsSymbolItem
symbol_item_one (Declares n a) (Declares m b) xs (other, s) (other', t) = let same = declared_one n m a b xs s t in λ i. Declares (same.0 i) (same.1 i)
symbol_item_one (Declares n a) (IncludesClasses u ns) xs (other, s) t = absurd (other (Rules.include_begun xs ((u, ns), t)))
symbol_item_one (IncludesClasses u ns) (Declares n a) xs s (other, t) = absurd (other (Rules.include_begun xs ((u, ns), s)))
symbol_item_one (IncludesClasses t ns) (IncludesClasses u ms) xs s r = let same = include_one t u ns ms xs s r in λ i. IncludesClasses (same.0 i) (same.1 i)

symbols_one : OneTree (Closed (IsKind Semicolon) (IsKind Dot) IsSymbolItem)
symbols_one vs ws xs s t = closed_one (IsKind Semicolon) (IsKind Dot) IsSymbolItem (Kind Semicolon) (Kind Dot) (λ x k. k) (λ x k. k) (some_of_kind Semicolon) (of_kind Semicolon) (some_of_kind Dot) (of_kind Dot) Rules.symbol_item_part refl refl symbol_item_one vs ws xs s t

-- ---- classes

member_one : OneTree IsMember
member_one t u xs (inl s) (inl s') = token_one Name t u xs s s'
member_one t u xs (inl s) (inr s') = absurd (not_begun (Kind Name) (λ x k. k) (Rules.token_part Numeral) refl xs (u, s') (Rules.name_begun xs (t, s)))
member_one t u xs (inr s) (inl s') = absurd (not_begun (Kind Name) (λ x k. k) (Rules.token_part Numeral) refl xs (t, s) (Rules.name_begun xs (u, s')))
member_one t u xs (inr s) (inr s') = token_one Numeral t u xs s s'

members_one : OneTree AreMembers
members_one vs ws xs s t = separated_one (IsKind Comma) IsMember (Kind Comma) (λ x k. k) (some_of_kind Comma) (of_kind Comma) Rules.member_part refl member_one vs ws xs s t

abbrev ColonMembers : List Token → List Lexeme → Type 0
ColonMembers ms xs = Then (One (IsKind Colon)) (AreMembers ms) xs

colon_members_one : OneTree ColonMembers
colon_members_one vs ws xs s t = back_one (kind_part Colon) Rules.members_part refl AreMembers (some_of AreMembers) members_one vs ws xs s t

class_item_one : OneTree IsClassItem
class_item_one c d xs s t =
    let same = both_one (Rules.token_part Name) (then_part (kind_part Colon) Rules.members_part refl) refl (IsToken Name) ColonMembers (some_of (IsToken Name)) parts (token_one Name) colon_members_one c.name d.name c.members d.members xs s t in
    λ i. record { name = same.0 i; members = same.1 i }
  where
    parts : (ms : List Token) (xs : List Lexeme) → ColonMembers ms xs → Then (One (IsKind Colon)) (Some AreMembers) xs
    parts ms xs (f, b, e, c, t) = (f, b, e, c, (ms, t))

class_items_one : OneTree Rules.ClassItems
class_items_one vs ws xs s t = closed_one (IsKind Semicolon) (IsKind Dot) IsClassItem (Kind Semicolon) (Kind Dot) (λ x k. k) (λ x k. k) (some_of_kind Semicolon) (of_kind Semicolon) (some_of_kind Dot) (of_kind Dot) Rules.class_item_part refl refl class_item_one vs ws xs s t

more_classes_one : OneTree AreMoreClasses
more_classes_one cs ds xs (inl s) (inl t) = back_one (kind_part Semicolon) Rules.class_items_part refl Rules.ClassItems (some_of Rules.ClassItems) class_items_one cs ds xs s t
more_classes_one cs ds xs (inl s) (inr t) = absurd (not_begun (Kind Semicolon) (λ x k. k) (kind_part Dot) refl xs t.1 (Rules.next_classes_begun xs (cs, s)))
more_classes_one cs ds xs (inr s) (inl t) = absurd (not_begun (Kind Semicolon) (λ x k. k) (kind_part Dot) refl xs s.1 (Rules.next_classes_begun xs (ds, t)))
more_classes_one cs ds xs (inr s) (inr t) = s.0 ∙ sym t.0

abbrev FirstAndMore : ClassItem × List ClassItem → List Lexeme → Type 0
FirstAndMore r xs = Then (IsClassItem r.0) (AreMoreClasses r.1) xs

first_and_more_one : OneTree FirstAndMore
first_and_more_one r q xs s t =
    let same = both_one Rules.class_item_part Rules.more_classes_part refl IsClassItem AreMoreClasses (some_of IsClassItem) (some_of AreMoreClasses) class_item_one more_classes_one r.0 q.0 r.1 q.1 xs s t in
    same_pair r q same.0 same.1

listed_one : OneTree AreListed
listed_one r q xs s t =
    back_one (word_part (codes "Classes")) Rules.listed_tail refl FirstAndMore parts first_and_more_one r q xs s t
  where
    parts : (r : ClassItem × List ClassItem) (xs : List Lexeme) → FirstAndMore r xs → Then (Some IsClassItem) (Some AreMoreClasses) xs
    parts r xs (f, b, e, c, m) = (f, b, e, (r.0, c), (r.1, m))

no_section : (c : ClassItem) (cs : List ClassItem) (xs : List Lexeme) → xs ≡ [] → AreListed (c, cs) xs → ⊥
no_section c cs xs none s = subst (BeginsWith (IsWord (codes "Classes"))) none (Rules.listed_begun xs ((c, cs), s))

classes_one : OneTree AreClasses
classes_one [] [] xs s t = refl
classes_one [] (d ∷ ds) xs s t = absurd (no_section d ds xs s t)
classes_one (c ∷ cs) [] xs s t = absurd (no_section c cs xs t s)
classes_one (c ∷ cs) (d ∷ ds) xs s t = ap (λ (r : ClassItem × List ClassItem). r.0 ∷ r.1) (listed_one (c, cs) (d, ds) xs s t)

-- ---- variables

named_one : OneTree IsNameList
named_one ns ms xs s t = front_one Rules.names_part (kind_part Colon) refl IsNames (some_of IsNames) names_one ns ms xs s t

no_colon : (v : Token) (vs : List Token) (xs : List Lexeme) → One (IsKind Colon) xs → IsNameList (v ∷ vs) xs → ⊥
no_colon v vs xs c s = not_begun (Kind Colon) (λ x k. k) Rules.named_part refl xs (v ∷ vs, s) (Rules.one_begun (IsKind Colon) xs c)

variables_one : OneTree IsVariables
variables_one [] [] xs s t = refl
variables_one [] (w ∷ ws) xs s t = absurd (no_colon w ws xs s t)
variables_one (v ∷ vs) [] xs s t = absurd (no_colon v vs xs t s)
variables_one (v ∷ vs) (w ∷ ws) xs s t = named_one (v ∷ vs) (w ∷ ws) xs s t

in_one : OneTree IsInClass
in_one n m xs s t = back_one (word_part (codes "in")) (Rules.token_part Name) refl (IsToken Name) (some_of (IsToken Name)) (token_one Name) n m xs s t

abbrev EndOr : List Lexeme → Type 0
EndOr xs = Then (One (IsWord (codes "end"))) (One (IsWord (codes "or"))) xs

end_or : IsPart EndOr false (Word (codes "end") ∷ []) []
end_or = then_part (word_part (codes "end")) (word_part (codes "or")) refl

abbrev EndWhere : List Lexeme → Type 0
EndWhere xs = Then (One (IsWord (codes "end"))) (One (IsWord (codes "where"))) xs

end_where : IsPart EndWhere false (Word (codes "end") ∷ []) []
end_where = then_part (word_part (codes "end")) (word_part (codes "where")) refl

-- terms are written in a lawful notation
module _ {notation : Notation} (laws : IsLawful notation) where
  term_one : OneTree (IsTermFrom notation)
  term_one b c [] (begins, s) t = absurd begins
  term_one b c (x ∷ xs) (begins, s) (begins', t) = sym begins ∙ begins'

  -- ---- conditions

  terms_one : OneTree (IsTerms notation)
  terms_one bs cs xs s t = separated_one (IsWord (codes "or")) (IsTermFrom notation) (Word (codes "or")) (λ x k. k) (some_word (codes "or")) (of_word (codes "or")) (Rules.side_part laws) refl term_one bs cs xs s t

  abbrev TermsEnd : List ℕ → List Lexeme → Type 0
  TermsEnd bs xs = Then (IsTerms notation bs) EndOr xs

  terms_end_one : OneTree TermsEnd
  terms_end_one bs cs xs s t = front_one (Rules.terms_part laws) end_or refl (IsTerms notation) (some_of (IsTerms notation)) terms_one bs cs xs s t

  one_of_one : OneTree (IsOneOf notation)
  one_of_one bs cs xs s t =
      back_one (word_part (codes "either")) (then_part (Rules.terms_part laws) end_or refl) refl TermsEnd parts terms_end_one bs cs xs s t
    where
      parts : (bs : List ℕ) (xs : List Lexeme) → TermsEnd bs xs → Then (Some (IsTerms notation)) EndOr xs
      parts bs xs (f, b, e, ts, end) = (f, b, e, (bs, ts), end)

  no_in : (n : Token) (bs : List ℕ) (xs : List Lexeme) → IsInClass n xs → IsOneOf notation bs xs → ⊥
  no_in n bs xs s t = not_begun (Word (codes "in")) (λ x k. k) (Rules.one_of_part laws) refl xs (bs, t) (Rules.in_begun xs (n, s))

  restriction_one : OneTree (IsRestriction notation)
  restriction_one (InClass n) (InClass m) xs s t = ap (λ k. InClass k) (in_one n m xs s t)
  restriction_one (InClass n) (OneOf bs) xs s t = absurd (no_in n bs xs s t)
  restriction_one (OneOf bs) (InClass n) xs s t = absurd (no_in n bs xs t s)
  restriction_one (OneOf bs) (OneOf cs) xs s t = ap (λ k. OneOf k) (one_of_one bs cs xs s t)

  abbrev IsRestricted : Restriction → List Lexeme → Type 0
  IsRestricted r xs = Then (One (IsWord (codes "is"))) (IsRestriction notation r) xs

  restricted_one : OneTree IsRestricted
  restricted_one r q xs s t = back_one (word_part (codes "is")) (Rules.restriction_part laws) refl (IsRestriction notation) (some_of (IsRestriction notation)) restriction_one r q xs s t

  condition_one : OneTree (IsCondition notation)
  condition_one c d xs s t =
      let same = both_one (Rules.token_part Name) (then_part (word_part (codes "is")) (Rules.restriction_part laws) refl) refl (IsToken Name) IsRestricted (some_of (IsToken Name)) parts (token_one Name) restricted_one c.variable d.variable c.restriction d.restriction xs s t in
      λ i. record { variable = same.0 i; restriction = same.1 i }
    where
      parts : (r : Restriction) (xs : List Lexeme) → IsRestricted r xs → Then (One (IsWord (codes "is"))) (Some (IsRestriction notation)) xs
      parts r xs (f, b, e, w, s) = (f, b, e, w, (r, s))

  conditions_one : OneTree (Separated (IsKind Comma) (IsCondition notation))
  conditions_one cs ds xs s t = separated_one (IsKind Comma) (IsCondition notation) (Kind Comma) (λ x k. k) (some_of_kind Comma) (of_kind Comma) (Rules.condition_part laws) refl condition_one cs ds xs s t

  abbrev ConditionsEnd : List Condition → List Lexeme → Type 0
  ConditionsEnd cs xs = Then (Separated (IsKind Comma) (IsCondition notation) cs) EndWhere xs

  conditions_end_one : OneTree ConditionsEnd
  conditions_end_one cs ds xs s t = front_one (Rules.conditions_part laws) end_where refl (Separated (IsKind Comma) (IsCondition notation)) (some_of (Separated (IsKind Comma) (IsCondition notation))) conditions_one cs ds xs s t

  qualified_one : OneTree (IsConditions notation)
  qualified_one cs ds xs s t =
      back_one (word_part (codes "where")) (Rules.where_tail laws) refl ConditionsEnd parts conditions_end_one cs ds xs s t
    where
      parts : (cs : List Condition) (xs : List Lexeme) → ConditionsEnd cs xs → Then (Some (Separated (IsKind Comma) (IsCondition notation))) EndWhere xs
      parts cs xs (f, b, e, s, end) = (f, b, e, (cs, s), end)

  no_where : (c : Condition) (cs : List Condition) (xs : List Lexeme) → xs ≡ [] → IsConditions notation (c ∷ cs) xs → ⊥
  no_where c cs xs none s = subst (BeginsWith (IsWord (codes "where"))) none (Rules.qualified_begun laws xs (c ∷ cs, s))

  where_one : OneTree (IsWhere notation)
  where_one [] [] xs s t = refl
  where_one [] (d ∷ ds) xs s t = absurd (no_where d ds xs s t)
  where_one (c ∷ cs) [] xs s t = absurd (no_where c cs xs t s)
  where_one (c ∷ cs) (d ∷ ds) xs s t = qualified_one (c ∷ cs) (d ∷ ds) xs s t

  -- ---- items

  abbrev RightWhere : ℕ × List Condition → List Lexeme → Type 0
  RightWhere r xs = Then (IsTermFrom notation r.0) (IsWhere notation r.1) xs

  right_where : IsPart (Then (Some (IsTermFrom notation)) (Some (IsWhere notation))) false term_first (Word (codes "where") ∷ term_more)
  right_where = then_part (Rules.side_part laws) (Rules.where_part laws) refl

  right_where_one : OneTree RightWhere
  right_where_one r q xs s t =
      let same = both_one (Rules.side_part laws) (Rules.where_part laws) refl (IsTermFrom notation) (IsWhere notation) (some_of (IsTermFrom notation)) (some_of (IsWhere notation)) term_one where_one r.0 q.0 r.1 q.1 xs s t in
      same_pair r q same.0 same.1

  abbrev EqualsRight : ℕ × List Condition → List Lexeme → Type 0
  EqualsRight r xs = Then (One (IsKind Equals)) (RightWhere r) xs

  right_parts : (r : ℕ × List Condition) (xs : List Lexeme) → RightWhere r xs → Then (Some (IsTermFrom notation)) (Some (IsWhere notation)) xs
  right_parts r xs (f, b, e, t, w) = (f, b, e, (r.0, t), (r.1, w))

  equals_right_one : OneTree EqualsRight
  equals_right_one r q xs s t = back_one (kind_part Equals) right_where refl RightWhere right_parts right_where_one r q xs s t

  equation_one : OneTree (IsEquation notation)
  equation_one l m xs s t =
      let same = both_one (Rules.side_part laws) (then_part (kind_part Equals) right_where refl) refl (IsTermFrom notation) EqualsRight (some_of (IsTermFrom notation)) parts term_one equals_right_one l.left m.left (l.right, l.conditions) (m.right, m.conditions) xs s t in
      λ i. record { left = same.0 i; right = (same.1 i).0; conditions = (same.1 i).1 }
    where
      parts : (r : ℕ × List Condition) (xs : List Lexeme) → EqualsRight r xs → Then (One (IsKind Equals)) (Then (Some (IsTermFrom notation)) (Some (IsWhere notation))) xs
      parts r xs (f, b, e, c, s) = (f, b, e, c, right_parts r b s)

  item_one : OneTree (IsItem notation)
  item_one (Equates l) (Equates m) xs (other, s) (other', t) = ap (λ k. Equates k) (equation_one l m xs s t)
  item_one (Equates l) (IncludesOperations u ns) xs (other, s) t = absurd (other (Rules.include_begun xs ((u, ns), t)))
  item_one (IncludesOperations u ns) (Equates l) xs s (other, t) = absurd (other (Rules.include_begun xs ((u, ns), s)))
  item_one (IncludesOperations t ns) (IncludesOperations u ms) xs s r = let same = include_one t u ns ms xs s r in λ i. IncludesOperations (same.0 i) (same.1 i)

  items_one : OneTree (Closed (IsKind Semicolon) (IsKind Dot) (IsItem notation))
  items_one vs ws xs s t = closed_one (IsKind Semicolon) (IsKind Dot) (IsItem notation) (Kind Semicolon) (Kind Dot) (λ x k. k) (λ x k. k) (some_of_kind Semicolon) (of_kind Semicolon) (some_of_kind Dot) (of_kind Dot) (Rules.item_part laws) refl refl item_one vs ws xs s t

  -- ---- the file

  abbrev ItemsEnd : List EquationItem → List Lexeme → Type 0
  ItemsEnd is xs = Then (Closed (IsKind Semicolon) (IsKind Dot) (IsItem notation) is) (One (IsKind End)) xs

  items_parts : (is : List EquationItem) (xs : List Lexeme) → ItemsEnd is xs → Rules.FromItems laws xs
  items_parts is xs (f, b, e, s, end) = (f, b, e, (is, s), end)

  items_end_one : OneTree ItemsEnd
  items_end_one is js xs s t = front_one (Rules.items_part laws) (kind_part End) refl (Closed (IsKind Semicolon) (IsKind Dot) (IsItem notation)) (some_of (Closed (IsKind Semicolon) (IsKind Dot) (IsItem notation))) items_one is js xs s t

  abbrev Equations : List Token × List EquationItem → List Lexeme → Type 0
  Equations r xs = Then (IsVariables r.0) (ItemsEnd r.1) xs

  equations_parts : (r : List Token × List EquationItem) (xs : List Lexeme) → Equations r xs → Rules.FromVariables laws xs
  equations_parts r xs (f, b, e, v, s) = (f, b, e, (r.0, v), items_parts r.1 b s)

  equations_one : OneTree Equations
  equations_one r q xs s t =
      let same = both_one Rules.variables_part (Rules.from_items laws) refl IsVariables ItemsEnd (some_of IsVariables) items_parts variables_one items_end_one r.0 q.0 r.1 q.1 xs s t in
      same_pair r q same.0 same.1

  abbrev AllEquations : List Token × List EquationItem → List Lexeme → Type 0
  AllEquations r xs = Then (One (IsWord (codes "all"))) (Equations r) xs

  all_parts : (r : List Token × List EquationItem) (xs : List Lexeme) → AllEquations r xs → Rules.FromAll laws xs
  all_parts r xs (f, b, e, w, s) = (f, b, e, w, equations_parts r b s)

  all_one : OneTree AllEquations
  all_one r q xs s t = back_one (word_part (codes "all")) (Rules.from_variables laws) refl Equations equations_parts equations_one r q xs s t

  abbrev ForEquations : List Token × List EquationItem → List Lexeme → Type 0
  ForEquations r xs = Then (One (IsWord (codes "For"))) (AllEquations r) xs

  for_parts : (r : List Token × List EquationItem) (xs : List Lexeme) → ForEquations r xs → Rules.FromFor laws xs
  for_parts r xs (f, b, e, w, s) = (f, b, e, w, all_parts r b s)

  for_one : OneTree ForEquations
  for_one r q xs s t = back_one (word_part (codes "For")) (Rules.from_all laws) refl AllEquations all_parts all_one r q xs s t

  abbrev ClassSections : List ClassItem × (List Token × List EquationItem) → List Lexeme → Type 0
  ClassSections r xs = Then (AreClasses r.0) (ForEquations r.1) xs

  class_sections_parts : (r : List ClassItem × (List Token × List EquationItem)) (xs : List Lexeme) → ClassSections r xs → Rules.FromClasses laws xs
  class_sections_parts r xs (f, b, e, s, t) = (f, b, e, (r.0, s), for_parts r.1 b t)

  class_sections_one : OneTree ClassSections
  class_sections_one r q xs s t =
      let same = both_one Rules.classes_part (Rules.from_for laws) refl AreClasses ForEquations (some_of AreClasses) for_parts classes_one for_one r.0 q.0 r.1 q.1 xs s t in
      same_pair r q same.0 same.1

  -- the symbols, the classes, the variables and the items
  abbrev Parts : Type 0
  Parts = List SymbolItem × (List ClassItem × (List Token × List EquationItem))

  abbrev Sections : Parts → List Lexeme → Type 0
  Sections r xs = Then (Closed (IsKind Semicolon) (IsKind Dot) IsSymbolItem r.0) (ClassSections r.1) xs

  sections_parts : (r : Parts) (xs : List Lexeme) → Sections r xs → Rules.FromSymbolItems laws xs
  sections_parts r xs (f, b, e, s, t) = (f, b, e, (r.0, s), class_sections_parts r.1 b t)

  sections_one : OneTree Sections
  sections_one r q xs s t =
      let same = both_one Rules.symbols_part (Rules.from_classes laws) refl (Closed (IsKind Semicolon) (IsKind Dot) IsSymbolItem) ClassSections (some_of (Closed (IsKind Semicolon) (IsKind Dot) IsSymbolItem)) class_sections_parts symbols_one class_sections_one r.0 q.0 r.1 q.1 xs s t in
      same_pair r q same.0 same.1

  pub file_tree_one : OneTree (IsFile notation)
  file_tree_one v w xs s t =
      let same = back_one (word_part (codes "Symbols")) (Rules.from_symbol_items laws) refl Sections sections_parts sections_one (v.symbols, (v.classes, (v.variables, v.items))) (w.symbols, (w.classes, (w.variables, w.items))) xs s t in
      λ i. record { symbols = (same i).0; classes = (same i).1.0; variables = (same i).1.1.0; items = (same i).1.1.1 }

  -- nothing goes on behind a file
  pub file_part : IsPart (Some (IsFile notation)) false (Word (codes "Symbols") ∷ []) []
  file_part = same_part (Rules.file_to laws) (Rules.file_from laws) (then_part (word_part (codes "Symbols")) (Rules.from_symbol_items laws) refl)

  module _ (text : List ℕ) where
    pub file_reads : (f : File) (r : IsFileText notation text f) → Reads (IsSomeFile notation) text 0 r.lexemes r.end
    file_reads f r = record { scanned = r.scanned; sentence = (f, r.spelled); longest = λ next found viable. file_part.goes_on r.lexemes next (f, r.spelled) viable }

    -- a text is one file
    pub one_file : (f g : File) → IsFileText notation text f → IsFileText notation text g → f ≡ g
    one_file f g r s =
        let same = one_reading (IsSomeFile notation) text 0 r.lexemes s.lexemes r.end s.end (file_reads f r) (file_reads g s) in
        file_tree_one f g r.lexemes r.spelled (subst (IsFile notation g) (sym same.0) s.spelled)
