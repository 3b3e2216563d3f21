-- The parts of a file that have no terms have no closing brackets.
use Rattle.std.proofs.Common.{List, [], ◌∷◌, sym, subst, inl, inr, refl}
use Rattle.std.specs.Prelude.{ℕ, codes}
use Rattle.std.specs.List.{AllByRecursion}
use Rattle.eq_base.proofs.Lists.{all_both}
use Rattle.term_lex.specs.declared.token.Token.{Token}
use Rattle.term_lex.specs.declared.token.TokenKind.{TokenKind}
use Rattle.term_lex.specs.declared.token.TokenKind.TheVariants.{Name, Numeral, CloseRound, Comma, Semicolon, Colon, Dot}
use Rattle.term_lex.specs.Lexemes.{Lexeme}
use Rattle.term_lex.specs.Parts.{IsKind, IsWord, One, Then, Some, Each, Closed, Led, Separated}
use Rattle.term_lex.proofs.Marks.{Kind, Word}
use Rattle.term_lex.proofs.Telling.{NoClose, no_closing}
use Rattle.def_file.specs.Trees.{SymbolItem, Declares, IncludesClasses, ClassItem}
use Rattle.def_file.specs.Grammar.{IsToken, IsNames, IsIncludeOf, IsSymbolItem, IsMember, AreMembers, IsClassItem, AreMoreClasses, AreClasses, IsVariables, IsInClass}
use Rattle.def_file.proofs.Rules.{ClassItems, token_from, word_from}

-- no closing bracket
abbrev pub Stays : Lexeme → Type 0
Stays x = IsKind CloseRound x → ⊥

-- no sentence has a closing bracket
abbrev pub NeverCloses : (List Lexeme → Type 0) → Type 0
NeverCloses G = (xs : List Lexeme) → G xs → AllByRecursion Stays xs

pub one_never : {Test : Lexeme → Type 0} → ((x : Lexeme) → IsKind CloseRound x → Test x → ⊥) → NeverCloses (One Test)
one_never other xs (x, e, t) = subst (AllByRecursion Stays) (sym e) ((λ is. other x is t), tt)

pub kind_never : (k : TokenKind) → NoClose (Kind k ∷ []) → NeverCloses (One (IsKind k))
kind_never k c xs s = one_never (no_closing (Kind k) (λ x t. t) c) xs s

pub word_never : (w : List ℕ) → NeverCloses (One (IsWord w))
word_never w xs s = one_never (no_closing (Word w) (λ x t. t) refl) xs s

then_never : {H K : List Lexeme → Type 0} → NeverCloses H → NeverCloses K → NeverCloses (Then H K)
then_never first second xs (front, back, e, h, k) = subst (AllByRecursion Stays) (sym e) (all_both Stays front back (first front h) (second back k))

-- lists whose sentences have none
module _ {V : Type 0} {S C : Lexeme → Type 0} {G : V → List Lexeme → Type 0} (sep : NeverCloses (One S)) (close : NeverCloses (One C)) (each : (v : V) → NeverCloses (G v)) where
  led_never : (vs : List V) → NeverCloses (Each (Led S G) vs)
  led_never [] xs e = subst (AllByRecursion Stays) (sym e) tt
  led_never (v ∷ vs) xs s = then_never (then_never sep (each v)) (led_never vs) xs s

  separated_never : (vs : List V) → NeverCloses (Separated S G vs)
  separated_never [] xs none = absurd none
  separated_never (v ∷ vs) xs s = then_never (each v) (led_never vs) xs s

  closed_never : (vs : List V) → NeverCloses (Closed S C G vs)
  closed_never [] xs c = close xs c
  closed_never (v ∷ vs) xs (front, back, e, g, inl more) = subst (AllByRecursion Stays) (sym e) (all_both Stays front back (each v front g) (then_never sep (closed_never vs) back more))
  closed_never (v ∷ vs) xs (front, back, e, g, inr (none, c)) = subst (AllByRecursion Stays) (sym e) (all_both Stays front back (each v front g) (close back c))

token_never : (k : TokenKind) → NoClose (Kind k ∷ []) → (t : Token) → NeverCloses (IsToken k t)
token_never k c t xs s = kind_never k c xs (token_from xs (t, s))

names_never : (names : List Token) → NeverCloses (IsNames names)
names_never names xs s = separated_never (kind_never Comma refl) (kind_never Comma refl) (token_never Name refl) names xs s

include_never : (include : Token) (names : List Token) → NeverCloses (IsIncludeOf (include, names))
include_never include names xs s = then_never (λ ys i. word_never (codes "include") ys (word_from (codes "include") ys (include, i))) (names_never names) xs s

symbol_item_never : (i : SymbolItem) → NeverCloses (IsSymbolItem i)
symbol_item_never (Declares name arity) xs (other, s) = then_never (token_never Name refl name) (then_never (kind_never Colon refl) (token_never Numeral refl arity)) xs s
symbol_item_never (IncludesClasses include names) xs s = include_never include names xs s

member_never : (member : Token) → NeverCloses (IsMember member)
member_never member xs (inl s) = token_never Name refl member xs s
member_never member xs (inr s) = token_never Numeral refl member xs s

members_never : (members : List Token) → NeverCloses (AreMembers members)
members_never members xs s = separated_never (kind_never Comma refl) (kind_never Comma refl) member_never members xs s

class_item_never : (c : ClassItem) → NeverCloses (IsClassItem c)
class_item_never c xs s = then_never (token_never Name refl c.name) (then_never (kind_never Colon refl) (members_never c.members)) xs s

class_items_never : (cs : List ClassItem) → NeverCloses (ClassItems cs)
class_items_never cs xs s = closed_never (kind_never Semicolon refl) (kind_never Dot refl) class_item_never cs xs s

more_classes_never : (cs : List ClassItem) → NeverCloses (AreMoreClasses cs)
more_classes_never cs xs (inl s) = then_never (kind_never Semicolon refl) (class_items_never cs) xs s
more_classes_never cs xs (inr s) = kind_never Dot refl xs s.1

classes_never : (cs : List ClassItem) → NeverCloses (AreClasses cs)
classes_never [] xs none = subst (AllByRecursion Stays) (sym none) tt
classes_never (c ∷ cs) xs s = then_never (word_never (codes "Classes")) (then_never (class_item_never c) (more_classes_never cs)) xs s

variables_never : (names : List Token) → NeverCloses (IsVariables names)
variables_never [] xs c = kind_never Colon refl xs c
variables_never (v ∷ vs) xs s = then_never (names_never (v ∷ vs)) (kind_never Colon refl) xs s

-- ---- as some sentences

pub a_token_never : (k : TokenKind) → NoClose (Kind k ∷ []) → NeverCloses (Some (IsToken k))
a_token_never k c xs (t, s) = token_never k c t xs s

pub an_include_never : NeverCloses (Some IsIncludeOf)
an_include_never xs ((include, names), s) = include_never include names xs s

pub in_class_never : NeverCloses (Some IsInClass)
in_class_never xs (name, s) = then_never (word_never (codes "in")) (token_never Name refl name) xs s

pub symbols_never : NeverCloses (Some (Closed (IsKind Semicolon) (IsKind Dot) IsSymbolItem))
symbols_never xs (items, s) = closed_never (kind_never Semicolon refl) (kind_never Dot refl) symbol_item_never items xs s

pub the_classes_never : NeverCloses (Some AreClasses)
the_classes_never xs (cs, s) = classes_never cs xs s

pub the_variables_never : NeverCloses (Some IsVariables)
the_variables_never xs (names, s) = variables_never names xs s
