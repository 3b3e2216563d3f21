-- The rules of the grammar without their trees, and what begins each and goes on behind it.
use Rattle.std.proofs.Common.{◌≡◌, ℕ, true, false, List, [], ◌∷◌, ◌++◌, inl, inr, refl, subst}
use Rattle.std.specs.Prelude.{codes}
use Rattle.term_lex.specs.declared.token.TokenKind.{TokenKind}
use Rattle.term_lex.specs.declared.token.TokenKind.TheVariants.{Name, Numeral, Comma, Semicolon, Colon, Dot, Equals, End}
use Rattle.term_lex.specs.Lexemes.{Lexeme}
use Rattle.term_lex.specs.Parts.{IsKind, IsWord, Nothing, One, Then, BeginsWith, Either, Some, Closed, Led, Separated}
use Rattle.term_lex.proofs.Marks.{Kind, Word}
use Rattle.term_lex.proofs.Parts.{IsPart, nothing_part, then_part, either_part, then_begun}
use Rattle.term_lex.proofs.PlainAnswers.{not_begun, kind_part, word_part, some_of_kind, of_kind, some_word, of_word}
use Rattle.term_lex.proofs.ListAnswers.{same_part, separated_part, list_part, led_part, led_from}
use Rattle.written_terms.specs.Notation.{Notation, IsSomeTerm}
use Rattle.written_terms.proofs.Notations.{term_first, term_more, IsLawful}
use Rattle.def_file.specs.Trees.{Declares, IncludesClasses, ClassItem, InClass, OneOf, Equates, IncludesOperations}
use Rattle.def_file.specs.Grammar.{IsToken, IsWordAs, IsTermFrom, IsInclude, IsNames, IsIncludeOf, IsDeclaration, IsSymbolItem, IsMember, AreMembers, IsClassItem, AreMoreClasses, AreListed, AreClasses, IsNameList, IsVariables, IsTerms, IsInClass, IsOneOf, IsRestriction, IsCondition, IsConditions, IsWhere, IsEquation, IsItem, IsFile}

-- a token of a kind
pub token_to : {k : TokenKind} (xs : List Lexeme) → One (IsKind k) xs → Some (IsToken k) xs
token_to xs (x, e, t) = (x.token, (x, e, (t, refl)))

pub token_from : {k : TokenKind} (xs : List Lexeme) → Some (IsToken k) xs → One (IsKind k) xs
token_from xs (token, (x, e, t)) = (x, e, t.0)

pub token_part : (k : TokenKind) → IsPart (Some (IsToken k)) false (Kind k ∷ []) []
token_part k = same_part token_to token_from (kind_part k)

-- a token that is a word
pub word_to : (w : List ℕ) (xs : List Lexeme) → One (IsWord w) xs → Some (IsWordAs w) xs
word_to w xs (x, e, t) = (x.token, (x, e, (t, refl)))

pub word_from : (w : List ℕ) (xs : List Lexeme) → Some (IsWordAs w) xs → One (IsWord w) xs
word_from w xs (token, (x, e, t)) = (x, e, t.0)

pub word_as_part : (w : List ℕ) → IsPart (Some (IsWordAs w)) false (Word w ∷ []) []
word_as_part w = same_part (word_to w) (word_from w) (word_part w)

-- name { "," name }
pub names_part : IsPart (Some IsNames) false (Kind Name ∷ []) (Kind Comma ∷ [])
names_part = separated_part (IsKind Comma) (IsToken Name) (Kind Comma) (λ x t. t) (some_of_kind Comma) (of_kind Comma) (token_part Name) refl

-- "include" names
abbrev pub IncludeParts : List Lexeme → Type 0
IncludeParts xs = Then (Some (IsWordAs (codes "include"))) (Some IsNames) xs

pub include_to : (xs : List Lexeme) → IncludeParts xs → Some IsIncludeOf xs
include_to xs (front, back, e, (t, i), (ns, n)) = ((t, ns), (front, back, e, i, n))

pub include_from : (xs : List Lexeme) → Some IsIncludeOf xs → IncludeParts xs
include_from xs ((t, ns), (front, back, e, i, n)) = (front, back, e, (t, i), (ns, n))

pub include_part : IsPart (Some IsIncludeOf) false (Word (codes "include") ∷ []) (Kind Comma ∷ [])
include_part = same_part include_to include_from (then_part (word_as_part (codes "include")) names_part refl)

-- the word `include`, whichever token it is
pub include_of : (xs : List Lexeme) → Then (One IsInclude) (Some IsNames) xs → Some IsIncludeOf xs
include_of xs (front, back, e, i, (ns, n)) = include_to xs (front, back, e, word_to (codes "include") front i, (ns, n))

pub include_begun : (xs : List Lexeme) → Some IsIncludeOf xs → BeginsWith IsInclude xs
include_begun xs ((t, ns), (front, back, e, i, n)) =
    let parts : Then (One IsInclude) (Some IsNames) xs = (front, back, e, word_from (codes "include") front (t, i), (ns, n)) in
    then_begun xs parts

-- name ":" numeral
abbrev pub DeclaredParts : List Lexeme → Type 0
DeclaredParts xs = Then (Some (IsToken Name)) (Then (One (IsKind Colon)) (Some (IsToken Numeral))) xs

pub declared_to : (xs : List Lexeme) → DeclaredParts xs → Some IsDeclaration xs
declared_to xs (f, b, e, (n, tn), (g, c, e', colon, (a, ta))) = ((n, a), (f, b, e, tn, (g, c, e', colon, ta)))

pub declared_from : (xs : List Lexeme) → Some IsDeclaration xs → DeclaredParts xs
declared_from xs ((n, a), (f, b, e, tn, (g, c, e', colon, ta))) = (f, b, e, (n, tn), (g, c, e', colon, (a, ta)))

pub declared_part : IsPart (Some IsDeclaration) false (Kind Name ∷ []) []
declared_part = same_part declared_to declared_from (then_part (token_part Name) (then_part (kind_part Colon) (token_part Numeral) refl) refl)

pub symbol_item_to : (xs : List Lexeme) → Either IsInclude (Some IsIncludeOf) (Some IsDeclaration) xs → Some IsSymbolItem xs
symbol_item_to xs (inl ((t, ns), i)) = (IncludesClasses t ns, i)
symbol_item_to xs (inr (other, ((n, a), d))) = (Declares n a, (other, d))

pub symbol_item_from : (xs : List Lexeme) → Some IsSymbolItem xs → Either IsInclude (Some IsIncludeOf) (Some IsDeclaration) xs
symbol_item_from xs (IncludesClasses t ns, i) = inl ((t, ns), i)
symbol_item_from xs (Declares n a, (other, d)) = inr (other, ((n, a), d))

pub symbol_item_part : IsPart (Some IsSymbolItem) false (Word (codes "include") ∷ Kind Name ∷ []) (Kind Comma ∷ [])
symbol_item_part = same_part symbol_item_to symbol_item_from (either_part include_begun include_part declared_part)

-- the symbol items and their dot
pub symbols_part : IsPart (Some (Closed (IsKind Semicolon) (IsKind Dot) IsSymbolItem)) false (Kind Dot ∷ Word (codes "include") ∷ Kind Name ∷ []) []
symbols_part = list_part (IsKind Semicolon) (IsKind Dot) IsSymbolItem (Kind Semicolon) (Kind Dot) (λ x t. t) (λ x t. t) (some_of_kind Semicolon) (of_kind Semicolon) (some_of_kind Dot) (of_kind Dot) symbol_item_part refl refl

-- names ":"
abbrev pub NamedParts : List Lexeme → Type 0
NamedParts xs = Then (Some IsNames) (One (IsKind Colon)) xs

pub named_to : (xs : List Lexeme) → NamedParts xs → Some IsNameList xs
named_to xs (f, b, e, (ns, n), c) = (ns, (f, b, e, n, c))

pub named_from : (xs : List Lexeme) → Some IsNameList xs → NamedParts xs
named_from xs (ns, (f, b, e, n, c)) = (f, b, e, (ns, n), c)

pub named_part : IsPart (Some IsNameList) false (Kind Name ∷ []) []
named_part = same_part named_to named_from (then_part names_part (kind_part Colon) refl)

pub one_begun : (Test : Lexeme → Type 0) (xs : List Lexeme) → One Test xs → BeginsWith Test xs
one_begun Test [] (y, e, t) = cc
one_begun Test (x ∷ xs) (y, e, t) = let same : y ≡ x = cc in subst Test same t

-- [ names ] ":"
pub variables_to : (xs : List Lexeme) → Either (IsKind Colon) (One (IsKind Colon)) (Some IsNameList) xs → Some IsVariables xs
variables_to xs (inl c) = ([], c)
variables_to xs (inr (other, ([], (front, back, e, n, c)))) = absurd n
variables_to xs (inr (other, (v ∷ vs, n))) = (v ∷ vs, n)

pub variables_from : (xs : List Lexeme) → Some IsVariables xs → Either (IsKind Colon) (One (IsKind Colon)) (Some IsNameList) xs
variables_from xs ([], c) = inl c
variables_from xs (v ∷ vs, n) = inr (not_begun (Kind Colon) (λ x k. k) named_part refl xs (v ∷ vs, n), (v ∷ vs, n))

pub variables_part : IsPart (Some IsVariables) false (Kind Colon ∷ Kind Name ∷ []) []
variables_part = same_part variables_to variables_from (either_part (one_begun (IsKind Colon)) (kind_part Colon) named_part)

-- name | numeral
pub name_begun : (xs : List Lexeme) → Some (IsToken Name) xs → BeginsWith (IsKind Name) xs
name_begun xs s = one_begun (IsKind Name) xs (token_from xs s)

pub member_to : (xs : List Lexeme) → Either (IsKind Name) (Some (IsToken Name)) (Some (IsToken Numeral)) xs → Some IsMember xs
member_to xs (inl (t, s)) = (t, inl s)
member_to xs (inr (other, (t, s))) = (t, inr s)

pub member_from : (xs : List Lexeme) → Some IsMember xs → Either (IsKind Name) (Some (IsToken Name)) (Some (IsToken Numeral)) xs
member_from xs (t, inl s) = inl (t, s)
member_from xs (t, inr s) = inr (not_begun (Kind Name) (λ x k. k) (token_part Numeral) refl xs (t, s), (t, s))

pub member_part : IsPart (Some IsMember) false (Kind Name ∷ Kind Numeral ∷ []) []
member_part = same_part member_to member_from (either_part name_begun (token_part Name) (token_part Numeral))

-- member { "," member }
pub members_part : IsPart (Some AreMembers) false (Kind Name ∷ Kind Numeral ∷ []) (Kind Comma ∷ [])
members_part = separated_part (IsKind Comma) IsMember (Kind Comma) (λ x t. t) (some_of_kind Comma) (of_kind Comma) member_part refl

-- name ":" members
abbrev pub ClassParts : List Lexeme → Type 0
ClassParts xs = Then (Some (IsToken Name)) (Then (One (IsKind Colon)) (Some AreMembers)) xs

pub class_item_to : (xs : List Lexeme) → ClassParts xs → Some IsClassItem xs
class_item_to xs (f, b, e, (n, t), (g, c, e', colon, (ms, s))) = (record { name = n; members = ms }, (f, b, e, t, (g, c, e', colon, s)))

pub class_item_from : (xs : List Lexeme) → Some IsClassItem xs → ClassParts xs
class_item_from xs (i, (f, b, e, t, (g, c, e', colon, s))) = (f, b, e, (i.name, t), (g, c, e', colon, (i.members, s)))

pub class_item_part : IsPart (Some IsClassItem) false (Kind Name ∷ []) (Kind Comma ∷ [])
class_item_part = same_part class_item_to class_item_from (then_part (token_part Name) (then_part (kind_part Colon) members_part refl) refl)

-- classes and their dot
abbrev pub ClassItems : List ClassItem → List Lexeme → Type 0
ClassItems cs xs = Closed (IsKind Semicolon) (IsKind Dot) IsClassItem cs xs

pub class_items_part : IsPart (Some ClassItems) false (Kind Dot ∷ Kind Name ∷ []) []
class_items_part = list_part (IsKind Semicolon) (IsKind Dot) IsClassItem (Kind Semicolon) (Kind Dot) (λ x t. t) (λ x t. t) (some_of_kind Semicolon) (of_kind Semicolon) (some_of_kind Dot) (of_kind Dot) class_item_part refl refl

-- what stands behind the first class
pub next_classes_part : IsPart (Some (Led (IsKind Semicolon) ClassItems)) false (Kind Semicolon ∷ []) []
next_classes_part = led_part (IsKind Semicolon) ClassItems (Kind Semicolon) (λ x t. t) (some_of_kind Semicolon) (of_kind Semicolon) class_items_part refl

pub next_classes_begun : (xs : List Lexeme) → Some (Led (IsKind Semicolon) ClassItems) xs → BeginsWith (IsKind Semicolon) xs
next_classes_begun xs s = then_begun xs (led_from xs s)

pub more_classes_to : (xs : List Lexeme) → Either (IsKind Semicolon) (Some (Led (IsKind Semicolon) ClassItems)) (One (IsKind Dot)) xs → Some AreMoreClasses xs
more_classes_to xs (inl (cs, s)) = (cs, inl s)
more_classes_to xs (inr (other, s)) = ([], inr (refl, s))

pub more_classes_from : (xs : List Lexeme) → Some AreMoreClasses xs → Either (IsKind Semicolon) (Some (Led (IsKind Semicolon) ClassItems)) (One (IsKind Dot)) xs
more_classes_from xs (cs, inl s) = inl (cs, s)
more_classes_from xs (cs, inr (none, s)) = inr (not_begun (Kind Semicolon) (λ x k. k) (kind_part Dot) refl xs s, s)

pub more_classes_part : IsPart (Some AreMoreClasses) false (Kind Semicolon ∷ Kind Dot ∷ []) []
more_classes_part = same_part more_classes_to more_classes_from (either_part next_classes_begun next_classes_part (kind_part Dot))

-- "Classes" class and the others
abbrev pub ListedParts : List Lexeme → Type 0
ListedParts xs = Then (One (IsWord (codes "Classes"))) (Then (Some IsClassItem) (Some AreMoreClasses)) xs

pub listed_tail : IsPart (Then (Some IsClassItem) (Some AreMoreClasses)) false (Kind Name ∷ []) []
listed_tail = then_part class_item_part more_classes_part refl

pub listed_to : (xs : List Lexeme) → ListedParts xs → Some AreListed xs
listed_to xs (f, b, e, w, (g, d, e', (c, s), (cs, t))) = ((c, cs), (f, b, e, w, (g, d, e', s, t)))

pub listed_from : (xs : List Lexeme) → Some AreListed xs → ListedParts xs
listed_from xs ((c, cs), (f, b, e, w, (g, d, e', s, t))) = (f, b, e, w, (g, d, e', (c, s), (cs, t)))

pub listed_part : IsPart (Some AreListed) false (Word (codes "Classes") ∷ []) []
listed_part = same_part listed_to listed_from (then_part (word_part (codes "Classes")) listed_tail refl)

pub listed_begun : (xs : List Lexeme) → Some AreListed xs → BeginsWith (IsWord (codes "Classes")) xs
listed_begun xs s = then_begun xs (listed_from xs s)

-- [ "Classes" .. ]
pub classes_to : (xs : List Lexeme) → Either (IsWord (codes "Classes")) (Some AreListed) Nothing xs → Some AreClasses xs
classes_to xs (inl ((c, cs), s)) = (c ∷ cs, s)
classes_to xs (inr none) = ([], none.1)

pub classes_from : (xs : List Lexeme) → Some AreClasses xs → Either (IsWord (codes "Classes")) (Some AreListed) Nothing xs
classes_from xs ([], none) = inr (λ b. subst (BeginsWith (IsWord (codes "Classes"))) none b, none)
classes_from xs (c ∷ cs, s) = inl ((c, cs), s)

pub classes_part : IsPart (Some AreClasses) true (Word (codes "Classes") ∷ []) (Word (codes "Classes") ∷ [])
classes_part = same_part classes_to classes_from (either_part listed_begun listed_part nothing_part)

-- "in" name
abbrev pub InParts : List Lexeme → Type 0
InParts xs = Then (One (IsWord (codes "in"))) (Some (IsToken Name)) xs

pub in_to : (xs : List Lexeme) → InParts xs → Some IsInClass xs
in_to xs (f, b, e, w, (n, t)) = (n, (f, b, e, w, t))

pub in_from : (xs : List Lexeme) → Some IsInClass xs → InParts xs
in_from xs (n, (f, b, e, w, t)) = (f, b, e, w, (n, t))

pub in_part : IsPart (Some IsInClass) false (Word (codes "in") ∷ []) []
in_part = same_part in_to in_from (then_part (word_part (codes "in")) (token_part Name) refl)

pub in_begun : (xs : List Lexeme) → Some IsInClass xs → BeginsWith (IsWord (codes "in")) xs
in_begun xs s = then_begun xs (in_from xs s)

-- terms are written in a lawful notation
module _ {notation : Notation} (laws : IsLawful notation) where
  -- a term with its first byte
  no_term : IsSomeTerm notation [] → ⊥
  no_term s = let no = laws.part.empty s in cc

  pub term_to : (xs : List Lexeme) → IsSomeTerm notation xs → Some (IsTermFrom notation) xs
  term_to [] s = absurd (no_term s)
  term_to (x ∷ xs) s = (x.token.from, (refl, s))

  pub term_from : (xs : List Lexeme) → Some (IsTermFrom notation) xs → IsSomeTerm notation xs
  term_from xs (byte, (b, s)) = s

  pub side_part : IsPart (Some (IsTermFrom notation)) false term_first term_more
  side_part = same_part term_to term_from laws.part

  -- term { "or" term }
  pub terms_part : IsPart (Some (IsTerms notation)) false term_first ((term_more ++ Word (codes "or") ∷ []) ++ term_more)
  terms_part = separated_part (IsWord (codes "or")) (IsTermFrom notation) (Word (codes "or")) (λ x t. t) (some_word (codes "or")) (of_word (codes "or")) side_part refl

  -- "either" terms "end" "or"
  abbrev pub EitherParts : List Lexeme → Type 0
  EitherParts xs = Then (One (IsWord (codes "either"))) (Then (Some (IsTerms notation)) (Then (One (IsWord (codes "end"))) (One (IsWord (codes "or"))))) xs

  pub one_of_to : (xs : List Lexeme) → EitherParts xs → Some (IsOneOf notation) xs
  one_of_to xs (f, b, e, w, (g, c, e', (ts, t), end)) = (ts, (f, b, e, w, (g, c, e', t, end)))

  pub one_of_from : (xs : List Lexeme) → Some (IsOneOf notation) xs → EitherParts xs
  one_of_from xs (ts, (f, b, e, w, (g, c, e', t, end))) = (f, b, e, w, (g, c, e', (ts, t), end))

  pub one_of_part : IsPart (Some (IsOneOf notation)) false (Word (codes "either") ∷ []) []
  one_of_part = same_part one_of_to one_of_from (then_part (word_part (codes "either")) (then_part terms_part (then_part (word_part (codes "end")) (word_part (codes "or")) refl) refl) refl)

  pub restriction_to : (xs : List Lexeme) → Either (IsWord (codes "in")) (Some IsInClass) (Some (IsOneOf notation)) xs → Some (IsRestriction notation) xs
  restriction_to xs (inl (n, i)) = (InClass n, i)
  restriction_to xs (inr (other, (ts, t))) = (OneOf ts, t)

  pub restriction_from : (xs : List Lexeme) → Some (IsRestriction notation) xs → Either (IsWord (codes "in")) (Some IsInClass) (Some (IsOneOf notation)) xs
  restriction_from xs (InClass n, i) = inl (n, i)
  restriction_from xs (OneOf ts, t) = inr (not_begun (Word (codes "in")) (λ x k. k) one_of_part refl xs (ts, t), (ts, t))

  pub restriction_part : IsPart (Some (IsRestriction notation)) false (Word (codes "in") ∷ Word (codes "either") ∷ []) []
  restriction_part = same_part restriction_to restriction_from (either_part in_begun in_part one_of_part)

  -- name "is" restriction
  abbrev pub ConditionParts : List Lexeme → Type 0
  ConditionParts xs = Then (Some (IsToken Name)) (Then (One (IsWord (codes "is"))) (Some (IsRestriction notation))) xs

  pub condition_to : (xs : List Lexeme) → ConditionParts xs → Some (IsCondition notation) xs
  condition_to xs (f, b, e, (v, t), (g, c, e', i, (r, s))) = (record { variable = v; restriction = r }, (f, b, e, t, (g, c, e', i, s)))

  pub condition_from : (xs : List Lexeme) → Some (IsCondition notation) xs → ConditionParts xs
  condition_from xs (q, (f, b, e, t, (g, c, e', i, s))) = (f, b, e, (q.variable, t), (g, c, e', i, (q.restriction, s)))

  pub condition_part : IsPart (Some (IsCondition notation)) false (Kind Name ∷ []) []
  condition_part = same_part condition_to condition_from (then_part (token_part Name) (then_part (word_part (codes "is")) restriction_part refl) refl)

  pub conditions_part : IsPart (Some (Separated (IsKind Comma) (IsCondition notation))) false (Kind Name ∷ []) (Kind Comma ∷ [])
  conditions_part = separated_part (IsKind Comma) (IsCondition notation) (Kind Comma) (λ x t. t) (some_of_kind Comma) (of_kind Comma) condition_part refl

  -- "where" conditions "end" "where"
  abbrev pub WhereParts : List Lexeme → Type 0
  WhereParts xs = Then (One (IsWord (codes "where"))) (Then (Some (Separated (IsKind Comma) (IsCondition notation))) (Then (One (IsWord (codes "end"))) (One (IsWord (codes "where"))))) xs

  pub where_tail : IsPart (Then (Some (Separated (IsKind Comma) (IsCondition notation))) (Then (One (IsWord (codes "end"))) (One (IsWord (codes "where"))))) false (Kind Name ∷ []) []
  where_tail = then_part conditions_part (then_part (word_part (codes "end")) (word_part (codes "where")) refl) refl

  pub qualified_to : (xs : List Lexeme) → WhereParts xs → Some (IsConditions notation) xs
  qualified_to xs (f, b, e, w, (g, c, e', (cs, s), end)) = (cs, (f, b, e, w, (g, c, e', s, end)))

  pub qualified_from : (xs : List Lexeme) → Some (IsConditions notation) xs → WhereParts xs
  qualified_from xs (cs, (f, b, e, w, (g, c, e', s, end))) = (f, b, e, w, (g, c, e', (cs, s), end))

  pub qualified_part : IsPart (Some (IsConditions notation)) false (Word (codes "where") ∷ []) []
  qualified_part = same_part qualified_to qualified_from (then_part (word_part (codes "where")) where_tail refl)

  pub qualified_begun : (xs : List Lexeme) → Some (IsConditions notation) xs → BeginsWith (IsWord (codes "where")) xs
  qualified_begun xs s = then_begun xs (qualified_from xs s)

  -- [ "where" .. ]
  pub where_to : (xs : List Lexeme) → Either (IsWord (codes "where")) (Some (IsConditions notation)) Nothing xs → Some (IsWhere notation) xs
  where_to xs (inl ([], (f, b, e, w, (g, c, e', s, end)))) = absurd s
  where_to xs (inl (q ∷ qs, s)) = (q ∷ qs, s)
  where_to xs (inr none) = ([], none.1)

  pub where_from : (xs : List Lexeme) → Some (IsWhere notation) xs → Either (IsWord (codes "where")) (Some (IsConditions notation)) Nothing xs
  where_from xs ([], none) = inr (λ b. subst (BeginsWith (IsWord (codes "where"))) none b, none)
  where_from xs (q ∷ qs, s) = inl (q ∷ qs, s)

  pub where_part : IsPart (Some (IsWhere notation)) true (Word (codes "where") ∷ []) (Word (codes "where") ∷ [])
  where_part = same_part where_to where_from (either_part qualified_begun qualified_part nothing_part)

  -- term "=" term [ where ]
  abbrev pub EquationParts : List Lexeme → Type 0
  EquationParts xs = Then (Some (IsTermFrom notation)) (Then (One (IsKind Equals)) (Then (Some (IsTermFrom notation)) (Some (IsWhere notation)))) xs

  pub equation_to : (xs : List Lexeme) → EquationParts xs → Some (IsEquation notation) xs
  equation_to xs (f, b, e, (l, tl), (g, c, e', eq, (h, d, e'', (r, tr), (cs, w)))) =
      (record { left = l; right = r; conditions = cs }, (f, b, e, tl, (g, c, e', eq, (h, d, e'', tr, w))))

  pub equation_from : (xs : List Lexeme) → Some (IsEquation notation) xs → EquationParts xs
  equation_from xs (s, (f, b, e, tl, (g, c, e', eq, (h, d, e'', tr, w)))) =
      (f, b, e, (s.left, tl), (g, c, e', eq, (h, d, e'', (s.right, tr), (s.conditions, w))))

  pub equation_part : IsPart (Some (IsEquation notation)) false term_first (Word (codes "where") ∷ term_more)
  equation_part = same_part equation_to equation_from (then_part side_part (then_part (kind_part Equals) (then_part side_part where_part refl) refl) refl)

  pub item_to : (xs : List Lexeme) → Either IsInclude (Some IsIncludeOf) (Some (IsEquation notation)) xs → Some (IsItem notation) xs
  item_to xs (inl ((t, ns), i)) = (IncludesOperations t ns, i)
  item_to xs (inr (other, (s, q))) = (Equates s, (other, q))

  pub item_from : (xs : List Lexeme) → Some (IsItem notation) xs → Either IsInclude (Some IsIncludeOf) (Some (IsEquation notation)) xs
  item_from xs (IncludesOperations t ns, i) = inl ((t, ns), i)
  item_from xs (Equates s, (other, q)) = inr (other, (s, q))

  pub item_part : IsPart (Some (IsItem notation)) false (Word (codes "include") ∷ term_first) (Kind Comma ∷ Word (codes "where") ∷ term_more)
  item_part = same_part item_to item_from (either_part include_begun include_part equation_part)

  pub items_part : IsPart (Some (Closed (IsKind Semicolon) (IsKind Dot) (IsItem notation))) false (Kind Dot ∷ Word (codes "include") ∷ term_first) []
  items_part = list_part (IsKind Semicolon) (IsKind Dot) (IsItem notation) (Kind Semicolon) (Kind Dot) (λ x t. t) (λ x t. t) (some_of_kind Semicolon) (of_kind Semicolon) (some_of_kind Dot) (of_kind Dot) item_part refl refl

  -- the parts of a file from each place on
  abbrev pub FromItems : List Lexeme → Type 0
  FromItems xs = Then (Some (Closed (IsKind Semicolon) (IsKind Dot) (IsItem notation))) (One (IsKind End)) xs

  abbrev pub FromVariables : List Lexeme → Type 0
  FromVariables xs = Then (Some IsVariables) FromItems xs

  abbrev pub FromAll : List Lexeme → Type 0
  FromAll xs = Then (One (IsWord (codes "all"))) FromVariables xs

  abbrev pub FromFor : List Lexeme → Type 0
  FromFor xs = Then (One (IsWord (codes "For"))) FromAll xs

  abbrev pub FromClasses : List Lexeme → Type 0
  FromClasses xs = Then (Some AreClasses) FromFor xs

  abbrev pub FromSymbolItems : List Lexeme → Type 0
  FromSymbolItems xs = Then (Some (Closed (IsKind Semicolon) (IsKind Dot) IsSymbolItem)) FromClasses xs

  abbrev pub FromSymbols : List Lexeme → Type 0
  FromSymbols xs = Then (One (IsWord (codes "Symbols"))) FromSymbolItems xs

  pub from_items : IsPart FromItems false (Kind Dot ∷ Word (codes "include") ∷ term_first) []
  from_items = then_part items_part (kind_part End) refl

  pub from_variables : IsPart FromVariables false (Kind Colon ∷ Kind Name ∷ []) []
  from_variables = then_part variables_part from_items refl

  pub from_all : IsPart FromAll false (Word (codes "all") ∷ []) []
  from_all = then_part (word_part (codes "all")) from_variables refl

  pub from_for : IsPart FromFor false (Word (codes "For") ∷ []) []
  from_for = then_part (word_part (codes "For")) from_all refl

  pub from_classes : IsPart FromClasses false (Word (codes "Classes") ∷ Word (codes "For") ∷ []) []
  from_classes = then_part classes_part from_for refl

  pub from_symbol_items : IsPart FromSymbolItems false (Kind Dot ∷ Word (codes "include") ∷ Kind Name ∷ []) []
  from_symbol_items = then_part symbols_part from_classes refl

  pub file_to : (xs : List Lexeme) → FromSymbols xs → Some (IsFile notation) xs
  file_to xs (f1, b1, e1, w, (f2, b2, e2, (ss, s), (f, b, e, (cs, c), (f3, b3, e3, w3, (f4, b4, e4, w4, (f5, b5, e5, (vs, v), (f6, b6, e6, (is, i), end))))))) =
      (record { symbols = ss; classes = cs; variables = vs; items = is }, (f1, b1, e1, w, (f2, b2, e2, s, (f, b, e, c, (f3, b3, e3, w3, (f4, b4, e4, w4, (f5, b5, e5, v, (f6, b6, e6, i, end))))))))

  pub file_from : (xs : List Lexeme) → Some (IsFile notation) xs → FromSymbols xs
  file_from xs (file, (f1, b1, e1, w, (f2, b2, e2, s, (f, b, e, c, (f3, b3, e3, w3, (f4, b4, e4, w4, (f5, b5, e5, v, (f6, b6, e6, i, end)))))))) =
      (f1, b1, e1, w, (f2, b2, e2, (file.symbols, s), (f, b, e, (file.classes, c), (f3, b3, e3, w3, (f4, b4, e4, w4, (f5, b5, e5, (file.variables, v), (f6, b6, e6, (file.items, i), end)))))))
