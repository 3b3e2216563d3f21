-- The rules between whose parts the next lexeme decides.
use Rattle.std.proofs.Common.{ℕ, ◌≤◌, List, [], ◌∷◌, length, refl, inl, inr}
use Rattle.std.specs.Prelude.{codes}
use Rattle.term_lex.specs.declared.token.Token.{Token}
use Rattle.term_lex.specs.declared.token.TokenKind.TheVariants.{Name, Numeral, CloseRound, Semicolon, Colon, Dot}
use Rattle.term_lex.specs.Lexemes.{Lexeme, IsViable, Plainly}
use Rattle.term_lex.specs.Parts.{IsKind, IsWord, Nothing, One, Then, Some, Led, NextIs}
use Rattle.term_lex.proofs.Marks.{Kind, Word}
use Rattle.term_lex.proofs.Answers.{nothing_by}
use Rattle.term_lex.proofs.ListAnswers.{led_to}
use Rattle.term_lex.proofs.PlainAnswers.{then_can, some_of_kind, of_kind}
use Rattle.term_lex.proofs.Telling.{Plain, plain, no_closing}
use Rattle.written_terms.specs.Notation.{Notation}
use Rattle.written_terms.proofs.Notations.{IsLawful}
use Rattle.def_file.specs.declared.error.FileError.{FileError}
use Rattle.def_file.specs.Trees.{Declares, IncludesClasses, ClassItem, InClass, OneOf, Condition, Sides, Equates, IncludesOperations}
use Rattle.def_file.specs.Grammar.{IsToken, IsInclude, IsNames, IsIncludeOf, IsDeclaration, IsSymbolItem, IsMember, AreMoreClasses, AreListed, AreClasses, IsNameList, IsVariables, IsInClass, IsOneOf, IsRestriction, IsConditions, IsWhere, IsEquation, IsItem}
use Rattle.def_file.specs.Reading.{IsReadAs, IsSyntaxRefused}
use Rattle.def_file.proofs.WithoutTerms.{an_include_never}
use Rattle.def_file.proofs.Readings.{lifted_refused, first_read, first_choice_refused, second_read, second_choice_refused}
use Rattle.def_file.proofs.Rules

-- no closing bracket is the word `include`
include_stays : (x : Lexeme) → IsKind CloseRound x → IsInclude x → ⊥
include_stays x closes is = no_closing (Word (codes "include")) (λ y t. t) refl x closes is

include_can : (x : Lexeme) → IsInclude x → IsViable (Some IsIncludeOf) (x ∷ [])
include_can x i = let v : IsViable (Then (One IsInclude) (Some IsNames)) (x ∷ []) = then_can Rules.names_part.some Rules.names_part.some_is x i in (v.0, Rules.include_of _ v.1)

module _ (text : List ℕ) (at : ℕ) where
  -- a symbol item: an include, or a declaration
  pub symbol_item_include : NextIs IsInclude text at → (include : Token × List Token) (end : ℕ) → IsReadAs (Some IsIncludeOf) (IsIncludeOf include) text at end → IsReadAs (Some IsSymbolItem) (IsSymbolItem (IncludesClasses include.0 include.1)) text at end
  symbol_item_include next include end r = first_read IsInclude (Some IsIncludeOf) (Some IsDeclaration) Rules.include_begun Rules.symbol_item_to Rules.symbol_item_from text at include_can next (λ xs s. s) r

  pub symbol_item_include_refused : NextIs IsInclude text at → (error : FileError) → IsSyntaxRefused Plain (Some IsIncludeOf) text at error → IsSyntaxRefused Plain (Some IsSymbolItem) text at error
  symbol_item_include_refused next error r = first_choice_refused plain IsInclude (Some IsIncludeOf) (Some IsDeclaration) Rules.include_begun Rules.symbol_item_to Rules.symbol_item_from text at include_can next error r

  pub symbol_item_declared : (NextIs IsInclude text at → ⊥) → (name arity : Token) (end : ℕ) → IsReadAs (Some IsDeclaration) (IsDeclaration (name, arity)) text at end → IsReadAs (Some IsSymbolItem) (IsSymbolItem (Declares name arity)) text at end
  symbol_item_declared never name arity end r = second_read IsInclude (Some IsIncludeOf) (Some IsDeclaration) Rules.include_begun Rules.symbol_item_to Rules.symbol_item_from text at (Rules.include_part.some, inl Rules.include_part.some_is) never (λ xs other s. (other, s)) r

  pub symbol_item_declared_refused : (NextIs IsInclude text at → ⊥) → (error : FileError) → IsSyntaxRefused Plain (Some IsDeclaration) text at error → IsSyntaxRefused Plain (Some IsSymbolItem) text at error
  symbol_item_declared_refused never error r = second_choice_refused plain IsInclude (Some IsIncludeOf) (Some IsDeclaration) Rules.include_begun Rules.symbol_item_to Rules.symbol_item_from text at include_stays (Rules.include_part.some, inl Rules.include_part.some_is) never error r

  -- a member: a name, or a numeral
  module _ (next : NextIs (IsKind Name) text at) where
    name_can : (x : Lexeme) → IsKind Name x → IsViable (Some (IsToken Name)) (x ∷ [])
    name_can x k = ([], Rules.token_to (x ∷ []) (x, refl, k))

    pub member_name : (t : Token) (end : ℕ) → IsReadAs (Some (IsToken Name)) (IsToken Name t) text at end → IsReadAs (Some IsMember) (IsMember t) text at end
    member_name t end r = first_read (IsKind Name) (Some (IsToken Name)) (Some (IsToken Numeral)) Rules.name_begun Rules.member_to Rules.member_from text at name_can next (λ xs s. inl s) r

    pub member_name_refused : (error : FileError) → IsSyntaxRefused Plain (Some (IsToken Name)) text at error → IsSyntaxRefused Plain (Some IsMember) text at error
    member_name_refused error r = first_choice_refused plain (IsKind Name) (Some (IsToken Name)) (Some (IsToken Numeral)) Rules.name_begun Rules.member_to Rules.member_from text at name_can next error r

  module _ (never : NextIs (IsKind Name) text at → ⊥) where
    pub member_numeral : (t : Token) (end : ℕ) → IsReadAs (Some (IsToken Numeral)) (IsToken Numeral t) text at end → IsReadAs (Some IsMember) (IsMember t) text at end
    member_numeral t end r = second_read (IsKind Name) (Some (IsToken Name)) (Some (IsToken Numeral)) Rules.name_begun Rules.member_to Rules.member_from text at ((Rules.token_part Name).some, inl (Rules.token_part Name).some_is) never (λ xs other s. inr s) r

    pub member_numeral_refused : (error : FileError) → IsSyntaxRefused Plain (Some (IsToken Numeral)) text at error → IsSyntaxRefused Plain (Some IsMember) text at error
    member_numeral_refused error r = second_choice_refused plain (IsKind Name) (Some (IsToken Name)) (Some (IsToken Numeral)) Rules.name_begun Rules.member_to Rules.member_from text at (no_closing (Kind Name) (λ x k. k) refl) ((Rules.token_part Name).some, inl (Rules.token_part Name).some_is) never error r

  -- behind the first class: a semicolon and the others, or the dot
  module _ (next : NextIs (IsKind Semicolon) text at) where
    semicolon_can : (x : Lexeme) → IsKind Semicolon x → IsViable (Some (Led (IsKind Semicolon) Rules.ClassItems)) (x ∷ [])
    semicolon_can x k = let v : IsViable (Then (One (IsKind Semicolon)) (Some Rules.ClassItems)) (x ∷ []) = then_can Rules.class_items_part.some Rules.class_items_part.some_is x k in (v.0, led_to _ v.1)

    pub more_classes_next : (cs : List ClassItem) (end : ℕ) → IsReadAs (Some (Led (IsKind Semicolon) Rules.ClassItems)) (Led (IsKind Semicolon) Rules.ClassItems cs) text at end → IsReadAs (Some AreMoreClasses) (AreMoreClasses cs) text at end
    more_classes_next cs end r = first_read (IsKind Semicolon) (Some (Led (IsKind Semicolon) Rules.ClassItems)) (One (IsKind Dot)) Rules.next_classes_begun Rules.more_classes_to Rules.more_classes_from text at semicolon_can next (λ xs s. inl s) r

    pub more_classes_next_refused : (error : FileError) → IsSyntaxRefused Plain (Some (Led (IsKind Semicolon) Rules.ClassItems)) text at error → IsSyntaxRefused Plain (Some AreMoreClasses) text at error
    more_classes_next_refused error r = first_choice_refused plain (IsKind Semicolon) (Some (Led (IsKind Semicolon) Rules.ClassItems)) (One (IsKind Dot)) Rules.next_classes_begun Rules.more_classes_to Rules.more_classes_from text at semicolon_can next error r

  module _ (never : NextIs (IsKind Semicolon) text at → ⊥) where
    pub more_classes_end : (end : ℕ) → IsReadAs (One (IsKind Dot)) (One (IsKind Dot)) text at end → IsReadAs (Some AreMoreClasses) (AreMoreClasses []) text at end
    more_classes_end end r = second_read (IsKind Semicolon) (Some (Led (IsKind Semicolon) Rules.ClassItems)) (One (IsKind Dot)) Rules.next_classes_begun Rules.more_classes_to Rules.more_classes_from text at (Rules.next_classes_part.some, inl Rules.next_classes_part.some_is) never (λ xs other s. inr (refl, s)) r

    pub more_classes_end_refused : (error : FileError) → IsSyntaxRefused Plain (One (IsKind Dot)) text at error → IsSyntaxRefused Plain (Some AreMoreClasses) text at error
    more_classes_end_refused error r = second_choice_refused plain (IsKind Semicolon) (Some (Led (IsKind Semicolon) Rules.ClassItems)) (One (IsKind Dot)) Rules.next_classes_begun Rules.more_classes_to Rules.more_classes_from text at (no_closing (Kind Semicolon) (λ x k. k) refl) (Rules.next_classes_part.some, inl Rules.next_classes_part.some_is) never error r

  -- the section of classes, or none
  module _ (next : NextIs (IsWord (codes "Classes")) text at) where
    listed_can : (x : Lexeme) → IsWord (codes "Classes") x → IsViable (Some AreListed) (x ∷ [])
    listed_can x w = let v : IsViable Rules.ListedParts (x ∷ []) = then_can Rules.listed_tail.some Rules.listed_tail.some_is x w in (v.0, Rules.listed_to _ v.1)

    pub classes_some : (c : ClassItem) (cs : List ClassItem) (end : ℕ) → IsReadAs (Some AreListed) (AreListed (c, cs)) text at end → IsReadAs (Some AreClasses) (AreClasses (c ∷ cs)) text at end
    classes_some c cs end r = first_read (IsWord (codes "Classes")) (Some AreListed) Nothing Rules.listed_begun Rules.classes_to Rules.classes_from text at listed_can next (λ xs s. s) r

    pub classes_some_refused : (error : FileError) → IsSyntaxRefused Plain (Some AreListed) text at error → IsSyntaxRefused Plain (Some AreClasses) text at error
    classes_some_refused error r = first_choice_refused plain (IsWord (codes "Classes")) (Some AreListed) Nothing Rules.listed_begun Rules.classes_to Rules.classes_from text at listed_can next error r

  pub classes_none : (NextIs (IsWord (codes "Classes")) text at → ⊥) → at ≤ length text → IsReadAs (Some AreClasses) (AreClasses []) text at at
  classes_none never within = second_read (IsWord (codes "Classes")) (Some AreListed) Nothing Rules.listed_begun Rules.classes_to Rules.classes_from text at ([], inr ((λ b. b), refl)) never (λ xs other s. s) nothing where
    nothing : IsReadAs Nothing Nothing text at at
    nothing = record { answer = nothing_by Plainly text at; form = ([], refl, refl); within = within }

  -- the variables: none, or some
  module _ (next : NextIs (IsKind Colon) text at) where
    colon_can : (x : Lexeme) → IsKind Colon x → IsViable (One (IsKind Colon)) (x ∷ [])
    colon_can x k = ([], (x, refl, k))

    pub variables_none : (end : ℕ) → IsReadAs (One (IsKind Colon)) (One (IsKind Colon)) text at end → IsReadAs (Some IsVariables) (IsVariables []) text at end
    variables_none end r = first_read (IsKind Colon) (One (IsKind Colon)) (Some IsNameList) (Rules.one_begun (IsKind Colon)) Rules.variables_to Rules.variables_from text at colon_can next (λ xs s. s) r

    pub variables_none_refused : (error : FileError) → IsSyntaxRefused Plain (One (IsKind Colon)) text at error → IsSyntaxRefused Plain (Some IsVariables) text at error
    variables_none_refused error r = first_choice_refused plain (IsKind Colon) (One (IsKind Colon)) (Some IsNameList) (Rules.one_begun (IsKind Colon)) Rules.variables_to Rules.variables_from text at colon_can next error r

  module _ (never : NextIs (IsKind Colon) text at → ⊥) where
    named_variables : (ns : List Token) (xs : List Lexeme) → IsNameList ns xs → IsVariables ns xs
    named_variables [] xs (front, back, e, n, c) = absurd n
    named_variables (n ∷ ns) xs s = s

    pub variables_some : (ns : List Token) (end : ℕ) → IsReadAs (Some IsNameList) (IsNameList ns) text at end → IsReadAs (Some IsVariables) (IsVariables ns) text at end
    variables_some ns end r = second_read (IsKind Colon) (One (IsKind Colon)) (Some IsNameList) (Rules.one_begun (IsKind Colon)) Rules.variables_to Rules.variables_from text at (some_of_kind Colon ∷ [], inl (some_of_kind Colon, refl, of_kind Colon)) never (λ xs other s. named_variables ns xs s) r

    pub variables_some_refused : (error : FileError) → IsSyntaxRefused Plain (Some IsNameList) text at error → IsSyntaxRefused Plain (Some IsVariables) text at error
    variables_some_refused error r = second_choice_refused plain (IsKind Colon) (One (IsKind Colon)) (Some IsNameList) (Rules.one_begun (IsKind Colon)) Rules.variables_to Rules.variables_from text at (no_closing (Kind Colon) (λ x k. k) refl) (some_of_kind Colon ∷ [], inl (some_of_kind Colon, refl, of_kind Colon)) never error r

-- terms are written in a lawful notation
module _ {notation : Notation} (laws : IsLawful notation) (text : List ℕ) (at : ℕ) where
  -- what a variable may stand for: a class, or alternatives
  module _ (next : NextIs (IsWord (codes "in")) text at) where
    in_can : (x : Lexeme) → IsWord (codes "in") x → IsViable (Some IsInClass) (x ∷ [])
    in_can x i = let v : IsViable (Then (One (IsWord (codes "in"))) (Some (IsToken Name))) (x ∷ []) = then_can (Rules.token_part Name).some (Rules.token_part Name).some_is x i in (v.0, Rules.in_to _ v.1)

    pub restriction_in : (name : Token) (end : ℕ) → IsReadAs (Some IsInClass) (IsInClass name) text at end → IsReadAs (Some (IsRestriction notation)) (IsRestriction notation (InClass name)) text at end
    restriction_in name end r = first_read (IsWord (codes "in")) (Some IsInClass) (Some (IsOneOf notation)) Rules.in_begun (Rules.restriction_to laws) (Rules.restriction_from laws) text at in_can next (λ xs s. s) r

    pub restriction_in_refused : (error : FileError) → IsSyntaxRefused notation.Misplaced (Some IsInClass) text at error → IsSyntaxRefused notation.Misplaced (Some (IsRestriction notation)) text at error
    restriction_in_refused error r = first_choice_refused laws.telling (IsWord (codes "in")) (Some IsInClass) (Some (IsOneOf notation)) Rules.in_begun (Rules.restriction_to laws) (Rules.restriction_from laws) text at in_can next error r

  module _ (never : NextIs (IsWord (codes "in")) text at → ⊥) where
    pub restriction_either : (terms : List ℕ) (end : ℕ) → IsReadAs (Some (IsOneOf notation)) (IsOneOf notation terms) text at end → IsReadAs (Some (IsRestriction notation)) (IsRestriction notation (OneOf terms)) text at end
    restriction_either terms end r = second_read (IsWord (codes "in")) (Some IsInClass) (Some (IsOneOf notation)) Rules.in_begun (Rules.restriction_to laws) (Rules.restriction_from laws) text at (Rules.in_part.some, inl Rules.in_part.some_is) never (λ xs other s. s) r

    pub restriction_either_refused : (error : FileError) → IsSyntaxRefused notation.Misplaced (Some (IsOneOf notation)) text at error → IsSyntaxRefused notation.Misplaced (Some (IsRestriction notation)) text at error
    restriction_either_refused error r = second_choice_refused laws.telling (IsWord (codes "in")) (Some IsInClass) (Some (IsOneOf notation)) Rules.in_begun (Rules.restriction_to laws) (Rules.restriction_from laws) text at (no_closing (Word (codes "in")) (λ x k. k) refl) (Rules.in_part.some, inl Rules.in_part.some_is) never error r

  -- the conditions of an equation: some, or none
  module _ (next : NextIs (IsWord (codes "where")) text at) where
    where_can : (x : Lexeme) → IsWord (codes "where") x → IsViable (Some (IsConditions notation)) (x ∷ [])
    where_can x w = let v : IsViable (Rules.WhereParts laws) (x ∷ []) = then_can (Rules.where_tail laws).some (Rules.where_tail laws).some_is x w in (v.0, Rules.qualified_to laws _ v.1)

    some_where : (cs : List Condition) (xs : List Lexeme) → IsConditions notation cs xs → IsWhere notation cs xs
    some_where [] xs (f, b, e, w, (g, c, e', s, end)) = absurd s
    some_where (c ∷ cs) xs s = s

    pub where_some : (cs : List Condition) (end : ℕ) → IsReadAs (Some (IsConditions notation)) (IsConditions notation cs) text at end → IsReadAs (Some (IsWhere notation)) (IsWhere notation cs) text at end
    where_some cs end r = first_read (IsWord (codes "where")) (Some (IsConditions notation)) Nothing (Rules.qualified_begun laws) (Rules.where_to laws) (Rules.where_from laws) text at where_can next (λ xs s. some_where cs xs s) r

    pub where_some_refused : (error : FileError) → IsSyntaxRefused notation.Misplaced (Some (IsConditions notation)) text at error → IsSyntaxRefused notation.Misplaced (Some (IsWhere notation)) text at error
    where_some_refused error r = first_choice_refused laws.telling (IsWord (codes "where")) (Some (IsConditions notation)) Nothing (Rules.qualified_begun laws) (Rules.where_to laws) (Rules.where_from laws) text at where_can next error r

  pub where_none : (NextIs (IsWord (codes "where")) text at → ⊥) → at ≤ length text → IsReadAs (Some (IsWhere notation)) (IsWhere notation []) text at at
  where_none never within = second_read (IsWord (codes "where")) (Some (IsConditions notation)) Nothing (Rules.qualified_begun laws) (Rules.where_to laws) (Rules.where_from laws) text at ([], inr ((λ b. b), refl)) never (λ xs other s. s) nothing where
    nothing : IsReadAs Nothing Nothing text at at
    nothing = record { answer = nothing_by Plainly text at; form = ([], refl, refl); within = within }

  -- an item: an include, or an equation
  pub item_include : NextIs IsInclude text at → (include : Token × List Token) (end : ℕ) → IsReadAs (Some IsIncludeOf) (IsIncludeOf include) text at end → IsReadAs (Some (IsItem notation)) (IsItem notation (IncludesOperations include.0 include.1)) text at end
  item_include next include end r = first_read IsInclude (Some IsIncludeOf) (Some (IsEquation notation)) Rules.include_begun (Rules.item_to laws) (Rules.item_from laws) text at include_can next (λ xs s. s) r

  pub item_include_refused : NextIs IsInclude text at → (error : FileError) → IsSyntaxRefused Plain (Some IsIncludeOf) text at error → IsSyntaxRefused notation.Misplaced (Some (IsItem notation)) text at error
  item_include_refused next error r = first_choice_refused laws.telling IsInclude (Some IsIncludeOf) (Some (IsEquation notation)) Rules.include_begun (Rules.item_to laws) (Rules.item_from laws) text at include_can next error (lifted_refused laws.telling an_include_never text at error r)

  pub item_equation : (NextIs IsInclude text at → ⊥) → (s : Sides) (end : ℕ) → IsReadAs (Some (IsEquation notation)) (IsEquation notation s) text at end → IsReadAs (Some (IsItem notation)) (IsItem notation (Equates s)) text at end
  item_equation never s end r = second_read IsInclude (Some IsIncludeOf) (Some (IsEquation notation)) Rules.include_begun (Rules.item_to laws) (Rules.item_from laws) text at (Rules.include_part.some, inl Rules.include_part.some_is) never (λ xs other s. (other, s)) r

  pub item_equation_refused : (NextIs IsInclude text at → ⊥) → (error : FileError) → IsSyntaxRefused notation.Misplaced (Some (IsEquation notation)) text at error → IsSyntaxRefused notation.Misplaced (Some (IsItem notation)) text at error
  item_equation_refused never error r = second_choice_refused laws.telling IsInclude (Some IsIncludeOf) (Some (IsEquation notation)) Rules.include_begun (Rules.item_to laws) (Rules.item_from laws) text at include_stays (Rules.include_part.some, inl Rules.include_part.some_is) never error r
