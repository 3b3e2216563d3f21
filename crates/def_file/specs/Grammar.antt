-- The grammar of definitions files.
use Rattle.std.specs.Prelude.{◌≡◌, ℕ, List, [], ◌∷◌, ◌⊎◌, codes}
use Rattle.term_lex.specs.declared.token.Token.{Token}
use Rattle.term_lex.specs.declared.token.TokenKind.{TokenKind}
use Rattle.term_lex.specs.declared.token.TokenKind.TheVariants.{Name, Numeral, Comma, Semicolon, Colon, Dot, Equals, End}
use Rattle.term_lex.specs.Lexemes.{Lexeme, Scans}
use Rattle.term_lex.specs.Parts as parts
use Rattle.term_lex.specs.Parts.{IsKind, IsWord, One, Then, BeginsWith, Separated, Closed}
use Rattle.written_terms.specs.Notation as written
use Rattle.written_terms.specs.Notation.{Notation}
use Rattle.def_file.specs.Trees.{SymbolItem, Declares, IncludesClasses, ClassItem, Restriction, InClass, OneOf, Condition, Sides, EquationItem, Equates, IncludesOperations, File}

-- the token, which is of the kind
abbrev pub IsToken : TokenKind → Token → List Lexeme → Type 0
IsToken kind token xs = One (λ x. IsKind kind x × (x.token ≡ token)) xs

-- the word, which is this token
abbrev pub IsWordAs : List ℕ → Token → List Lexeme → Type 0
IsWordAs word token xs = One (λ x. IsWord word x × (x.token ≡ token)) xs

-- the word `include`
abbrev pub IsInclude : Lexeme → Type 0
IsInclude x = IsWord (codes "include") x

-- name { "," name }
abbrev pub IsNames : List Token → List Lexeme → Type 0
IsNames names xs = Separated (IsKind Comma) (IsToken Name) names xs

-- "include" name { "," name }: the word and the names
abbrev pub IsIncludeOf : Token × List Token → List Lexeme → Type 0
IsIncludeOf include xs = Then (IsWordAs (codes "include") include.0) (IsNames include.1) xs

-- name ":" numeral
abbrev pub IsDeclaration : Token × Token → List Lexeme → Type 0
IsDeclaration d xs = Then (IsToken Name d.0) (Then (One (IsKind Colon)) (IsToken Numeral d.1)) xs

-- a declaration or an include; `include` at the beginning is always the word
abbrev pub IsSymbolItem : SymbolItem → List Lexeme → Type 0
IsSymbolItem (Declares name arity) xs = (BeginsWith IsInclude xs → ⊥) × IsDeclaration (name, arity) xs
IsSymbolItem (IncludesClasses include names) xs = IsIncludeOf (include, names) xs

-- name | numeral
abbrev pub IsMember : Token → List Lexeme → Type 0
IsMember member xs = IsToken Name member xs ⊎ IsToken Numeral member xs

-- member { "," member }
abbrev pub AreMembers : List Token → List Lexeme → Type 0
AreMembers members xs = Separated (IsKind Comma) IsMember members xs

-- name ":" member { "," member }
abbrev pub IsClassItem : ClassItem → List Lexeme → Type 0
IsClassItem c xs = Then (IsToken Name c.name) (Then (One (IsKind Colon)) (AreMembers c.members)) xs

-- { ";" class } [ ";" ] ".", as it stands behind the first class
abbrev pub AreMoreClasses : List ClassItem → List Lexeme → Type 0
AreMoreClasses cs xs =
    Then (One (IsKind Semicolon)) (Closed (IsKind Semicolon) (IsKind Dot) IsClassItem cs) xs
    ⊎ ((cs ≡ []) × One (IsKind Dot) xs)

-- "Classes" class { ";" class } [ ";" ] "."
abbrev pub AreListed : ClassItem × List ClassItem → List Lexeme → Type 0
AreListed cs xs = Then (One (IsWord (codes "Classes"))) (Then (IsClassItem cs.0) (AreMoreClasses cs.1)) xs

-- [ "Classes" class { ";" class } [ ";" ] "." ]
abbrev pub AreClasses : List ClassItem → List Lexeme → Type 0
AreClasses [] xs = xs ≡ []
AreClasses (c ∷ cs) xs = AreListed (c, cs) xs

-- name { "," name } ":"
abbrev pub IsNameList : List Token → List Lexeme → Type 0
IsNameList names xs = Then (IsNames names) (One (IsKind Colon)) xs

-- [ name { "," name } ] ":"
abbrev pub IsVariables : List Token → List Lexeme → Type 0
IsVariables [] xs = One (IsKind Colon) xs
IsVariables (v ∷ vs) xs = IsNameList (v ∷ vs) xs

-- "in" name
abbrev pub IsInClass : Token → List Lexeme → Type 0
IsInClass name xs = Then (One (IsWord (codes "in"))) (IsToken Name name) xs

-- terms are written in the notation
module _ (notation : Notation) where
  -- a term whose first byte this is
  abbrev pub IsTermFrom : ℕ → List Lexeme → Type 0
  IsTermFrom byte xs = BeginsWith (λ x. x.token.from ≡ byte) xs × written.IsSomeTerm notation xs

  -- term { "or" term }
  abbrev pub IsTerms : List ℕ → List Lexeme → Type 0
  IsTerms terms xs = Separated (IsWord (codes "or")) IsTermFrom terms xs

  -- "either" term { "or" term } "end" "or"
  abbrev pub IsOneOf : List ℕ → List Lexeme → Type 0
  IsOneOf terms xs =
      Then (One (IsWord (codes "either")))
      (Then (IsTerms terms) (Then (One (IsWord (codes "end"))) (One (IsWord (codes "or"))))) xs

  -- a class or alternatives
  abbrev pub IsRestriction : Restriction → List Lexeme → Type 0
  IsRestriction (InClass name) xs = IsInClass name xs
  IsRestriction (OneOf terms) xs = IsOneOf terms xs

  -- name "is" restriction
  abbrev pub IsCondition : Condition → List Lexeme → Type 0
  IsCondition c xs =
      Then (IsToken Name c.variable) (Then (One (IsWord (codes "is"))) (IsRestriction c.restriction)) xs

  -- "where" condition { "," condition } "end" "where"
  abbrev pub IsConditions : List Condition → List Lexeme → Type 0
  IsConditions cs xs =
      Then (One (IsWord (codes "where")))
      (Then (Separated (IsKind Comma) IsCondition cs)
      (Then (One (IsWord (codes "end"))) (One (IsWord (codes "where"))))) xs

  -- [ "where" condition { "," condition } "end" "where" ]
  abbrev pub IsWhere : List Condition → List Lexeme → Type 0
  IsWhere [] xs = xs ≡ []
  IsWhere (c ∷ cs) xs = IsConditions (c ∷ cs) xs

  -- term "=" term [ "where" .. ]
  abbrev pub IsEquation : Sides → List Lexeme → Type 0
  IsEquation sides xs =
      Then (IsTermFrom sides.left) (Then (One (IsKind Equals))
      (Then (IsTermFrom sides.right) (IsWhere sides.conditions))) xs

  -- an equation or an include; `include` at the beginning is always the word
  abbrev pub IsItem : EquationItem → List Lexeme → Type 0
  IsItem (Equates sides) xs = (BeginsWith IsInclude xs → ⊥) × IsEquation sides xs
  IsItem (IncludesOperations include names) xs = IsIncludeOf (include, names) xs

  -- "Symbols" symbol items "." classes "For" "all" variables items "." End, with `;` between items and perhaps behind
  -- the last
  abbrev pub IsFile : File → List Lexeme → Type 0
  IsFile file xs =
      Then (One (IsWord (codes "Symbols")))
      (Then (Closed (IsKind Semicolon) (IsKind Dot) IsSymbolItem file.symbols)
      (Then (AreClasses file.classes)
      (Then (One (IsWord (codes "For")))
      (Then (One (IsWord (codes "all")))
      (Then (IsVariables file.variables)
      (Then (Closed (IsKind Semicolon) (IsKind Dot) IsItem file.items)
      (One (IsKind End)))))))) xs

  -- the lexemes are some file
  abbrev pub IsSomeFile : List Lexeme → Type 0
  IsSomeFile xs = parts.Some IsFile xs

  -- the text is this file
  pub record IsFileText (text : List ℕ) (file : File) : Type 0 where
    pub lexemes : List Lexeme
    pub end : ℕ
    pub scanned : Scans text 0 lexemes end
    pub spelled : IsFile file lexemes
