-- Why a term that can be read means nothing.
use Rattle.std.specs.Prelude.{◌≡◌, ◌≢◌, ℕ, ◌⊎◌, List, [], ◌∷◌, ◌++◌, Result, Ok, Err, Contains}
use Rattle.std.specs.List.{AllByRecursion}
use Rattle.eq_base.specs.Tree.{Tree, cells}
use Rattle.eq_base.specs.Pattern.{PatternCell}
use Rattle.eq_base.specs.ReadHead.{ReadHead}
use Rattle.eq_base.specs.declared.meeting.SymbolClass.TheVariants.{Numerals, Strings}
use Rattle.term_lex.specs.declared.token.TokenKind.TheVariants.{Name, OpenRound, Numeral as NumeralToken, Text as TextToken}
use Rattle.term_lex.specs.declared.fault.Fault.{Fault}
use Rattle.term_lex.specs.declared.fault.FaultKind.{FaultKind}
use Rattle.term_lex.specs.declared.fault.FaultKind.TheVariants.{WrongArity, NotIncluded, ListNeedsCons}
use Rattle.term_lex.specs.Lexemes.{Lexeme, Scans, Reads, IsFirstFault}
use Rattle.term_lex.specs.Parts.{IsKind}
use Rattle.symbol_table.specs.Table.{Table, Includes}
use Rattle.symbol_table.specs.Refusing.{RefusesUse}
use Rattle.written_terms.specs.Notation.{Notation, IsSomeTerm, IsDotted, IsSomeDotted}
use Rattle.written_terms.specs.Meaning.{HasLists}
use Rattle.written_terms.specs.Reading.{ReadsTerm, ReadsPattern}

-- a literal whose class is not included
abbrev pub RefusesLiteral : Table → Lexeme → Type 0
RefusesLiteral table x =
    (IsKind NumeralToken x × (¬ Includes table Numerals))
    ⊎ (IsKind TextToken x × (¬ Includes table Strings))

-- a part of a list where lists cannot be written
abbrev pub RefusesList : Table → Lexeme → Type 0
RefusesList table x = IsKind OpenRound x × (¬ HasLists table)

module _ (table : Table) (variables : List (List ℕ)) where
  -- the fault of a lexeme with so many arguments: a literal whose class is not included, a list that has no symbols, a variable with arguments, or a name that the table refuses
  abbrev pub RefusesCell : Lexeme → ℕ → FaultKind → Type 0
  RefusesCell x args kind =
      (RefusesLiteral table x × (kind ≡ NotIncluded))
      ⊎ ((IsKind Name x × Contains variables x.bytes × (args ≢ 0) × (kind ≡ WrongArity 0 args))
      ⊎ ((IsKind Name x × (¬ Contains variables x.bytes) × RefusesUse table x.bytes args kind)
      ⊎ (RefusesList table x × (kind ≡ ListNeedsCons))))

  -- the lexeme has no fault
  abbrev pub IsFaultless : Lexeme × ℕ → Type 0
  IsFaultless x = (kind : FaultKind) → RefusesCell x.0 x.1 kind → ⊥

  -- the first of these lexemes that has a fault is at fault
  pub record IsFirstRefused (lexemes : List (Lexeme × ℕ)) (fault : Fault) : Type 0 where
    pub before : List (Lexeme × ℕ)
    pub here : Lexeme × ℕ
    pub behind : List (Lexeme × ℕ)
    pub split : lexemes ≡ before ++ here ∷ behind
    pub faultless : AllByRecursion IsFaultless before
    pub refused : RefusesCell here.0 here.1 fault.kind
    pub place : fault.byte ≡ here.0.token.from

module _ (notation : Notation) where
  -- a name, a literal or a list of the term is at fault
  abbrev pub RefusesMeaning : Table → List (List ℕ) → notation.Written → Fault → Type 0
  RefusesMeaning table variables written fault =
      IsFirstRefused table variables (cells (notation.outline written)) fault

  -- a term and its dot stand in the text from `at` on, and one of its lexemes means nothing
  pub record MeansNoTerm (table : Table) (text : List ℕ) (at : ℕ) (fault : Fault) : Type 0 where
    pub written : notation.Written
    pub lexemes : List Lexeme
    pub end : ℕ
    pub scanned : Scans text at lexemes end
    pub spelled : IsDotted notation written lexemes
    pub refused : RefusesMeaning table [] written fault

  -- why there is no ground term and its dot at the place: the first fault of their reading, or else of their names
  abbrev pub RefusesTerm : Table → List ℕ → ℕ → Fault → Type 0
  RefusesTerm table text at fault =
      IsFirstFault (notation.Misplaced (IsSomeDotted notation)) (IsSomeDotted notation) text at fault
      ⊎ MeansNoTerm table text at fault

  -- a term is read from `at` on, and one of its lexemes means nothing
  pub record MeansNoPattern (table : Table) (variables : List (List ℕ)) (text : List ℕ) (at : ℕ)
      (fault : Fault) : Type 0 where
    pub written : notation.Written
    pub lexemes : List Lexeme
    pub end : ℕ
    pub reads : Reads (IsSomeTerm notation) text at lexemes end
    pub spelled : notation.IsTerm written lexemes
    pub refused : RefusesMeaning table variables written fault

  -- why there is no pattern at the place: the first fault of its reading, or else of its names
  abbrev pub RefusesPattern : Table → List (List ℕ) → List ℕ → ℕ → Fault → Type 0
  RefusesPattern table variables text at fault =
      IsFirstFault (notation.Misplaced (IsSomeTerm notation)) (IsSomeTerm notation) text at fault
      ⊎ MeansNoPattern table variables text at fault

  -- what reading a ground term and its dot comes to: the term and the place after the dot, or the fault
  abbrev pub IsTermAt : Table → List ℕ → ℕ → Result (Tree ReadHead × ℕ) Fault → Type 0
  IsTermAt table text at (Ok x) = ReadsTerm notation table text at x.0 x.1
  IsTermAt table text at (Err fault) = RefusesTerm table text at fault

  -- what reading a pattern comes to: the pattern and the place after it, or the fault
  abbrev pub IsPatternAt : Table → List (List ℕ) → List ℕ → ℕ → Result (Tree (PatternCell ReadHead) × ℕ) Fault
      → Type 0
  IsPatternAt table variables text at (Ok x) = ReadsPattern notation table variables text at x.0 x.1
  IsPatternAt table variables text at (Err fault) = RefusesPattern table variables text at fault
