-- The names of a file, and what is wrong with them.
use Rattle.std.specs.Prelude.{◌≡◌, ◌≢◌, ℕ, ◌+◌, ◌<◌, ◌≤◌, ◌⊎◌, List, [], ◌∷◌, ◌++◌, length, map, Contains, slice_range}
use Rattle.std.specs.List.{flat_map}
use Rattle.eq_base.specs.Tree.{Tree}
use Rattle.eq_base.specs.Pattern.{PatternCell}
use Rattle.eq_base.specs.ReadHead.{ReadHead}
use Rattle.eq_base.specs.ClassLists.{members_of, with_member}
use Rattle.eq_base.specs.declared.head.Head.{Head}
use Rattle.eq_base.specs.declared.head.Head.TheVariants as head
use Rattle.eq_base.specs.declared.meeting.SymbolClass.{SymbolClass}
use Rattle.eq_base.specs.declared.meeting.SymbolClass.TheVariants.{Numerals}
use Rattle.eq_base.specs.declared.rules.Op.{Op}
use Rattle.term_lex.specs.declared.token.Token.{Token}
use Rattle.term_lex.specs.declared.token.TokenKind.TheVariants.{Numeral}
use Rattle.term_lex.specs.declared.fault.Fault.{Fault}
use Rattle.term_lex.specs.declared.fault.FaultKind.{FaultKind}
use Rattle.term_lex.specs.declared.fault.FaultKind.TheVariants.{Twice, ArityPast, UnknownClass, Unknown, WrongArity, NotIncluded, UnknownEquationClass, QualifiedUnknown, QualifiedTwice, SchemaNeeds, ClassesPast, MembersPast}
use Rattle.term_lex.specs.Values.{numeral_value}
use Rattle.symbol_table.specs.Table.{Table, no_names, IsDeclared, HasName, Declares, AddsClass, Includes, class_name}
use Rattle.symbol_table.specs.Variables.{AddsVariable}
use Rattle.symbol_table.specs.Refusing.{RefusesDeclaration, RefusesInclude, RefusesVariable}
use Rattle.written_terms.specs.Notation.{Notation}
use Rattle.written_terms.specs.Reading.{ReadsPattern}
use Rattle.written_terms.specs.Refusing.{RefusesPattern}
use Rattle.def_file.specs.Trees.{SymbolItem, Declares as DeclaresSymbol, IncludesClasses, ClassItem, Restriction, InClass, OneOf, Condition, Sides, EquationItem, Equates, IncludesOperations, File}
use Rattle.def_file.specs.Operations.{operation_name, HasNeeds}

-- ---- the places of a file at which names stand, in the order of the text

-- a name that is declared or used, or a term, which is known by its first byte
pub data Place : Type 0 where
  Symbol : (name arity : Token) → Place  -- a symbol and its arity
  Class : Token → Place  -- a class of symbols that is included
  NewClass : Token → Place  -- a class of the file
  Member : (class : ℕ) → Token → Place  -- a member of the class with the number
  Variable : Token → Place  -- a name of the list of variables
  Term : ℕ → Place  -- a side or an alternative
  Qualified : List Token → Token → Place  -- the name before `is`, behind those that stand so before it in the equation
  ClassOf : Token → Place  -- the name behind `is in`
  Operation : Token → Place  -- an equation class that is included

-- the places of a symbol item
abbrev pub symbol_places : SymbolItem → List Place
symbol_places (DeclaresSymbol name arity) = Symbol name arity ∷ []
symbol_places (IncludesClasses include names) = map Class names

-- the places of the class of the file with the number
abbrev pub class_places : ℕ → ClassItem → List Place
class_places class c = NewClass c.name ∷ map (Member class) c.members

-- the places of classes of the file, the first of which has the number
abbrev pub classes_places : ℕ → List ClassItem → List Place
classes_places class [] = []
classes_places class (c ∷ cs) = class_places class c ++ classes_places (class + 1) cs

-- the places behind `is`
abbrev pub restriction_places : Restriction → List Place
restriction_places (InClass name) = ClassOf name ∷ []
restriction_places (OneOf terms) = map Term terms

-- the places of qualifiers, behind those before them in the equation
abbrev pub condition_places : List Token → List Condition → List Place
condition_places before [] = []
condition_places before (c ∷ cs) =
    Qualified before c.variable
    ∷ (restriction_places c.restriction ++ condition_places (before ++ c.variable ∷ []) cs)

-- the places of an equation
abbrev pub equation_places : Sides → List Place
equation_places sides = Term sides.left ∷ Term sides.right ∷ condition_places [] sides.conditions

-- the places of an item
abbrev pub item_places : EquationItem → List Place
item_places (Equates sides) = equation_places sides
item_places (IncludesOperations include names) = map Operation names

-- the places of the classes and of the variables; the first class has the number behind those of the symbol classes
abbrev pub listed_places : File → List Place
listed_places file = classes_places 4 file.classes ++ map Variable file.variables

-- the places of a file
abbrev pub places_of : File → List Place
places_of file =
    flat_map symbol_places file.symbols ++ listed_places file ++ flat_map item_places file.items

-- ---- what is known of names

-- the symbols and symbol classes, the classes of the file, the variables and the equation classes that were met; the
-- table has no atoms and no texts, and the members of classes are symbols and numerals
pub record Known : Type 0 where
  pub table : Table
  pub class_names : List (List ℕ)
  pub classes : List (List Head)
  pub variables : List (List ℕ)
  pub operations : List Op

-- nothing is known at the beginning
abbrev pub nothing_known : Known
nothing_known = record { table = no_names; class_names = []; classes = []; variables = []; operations = [] }

-- ---- the classes of a file

-- the most classes of a file
abbrev pub most_classes : ℕ
most_classes = 250

-- the most members that the classes of a file have together
abbrev pub most_members : ℕ
most_members = 4096

-- the members of the classes, all together
abbrev pub member_count : {A : Type 0} → List (List A) → ℕ
member_count [] = 0
member_count (members ∷ classes) = length members + member_count classes

-- the name is that of a symbol class, or of a class of the file, which have these names
abbrev pub IsClass : List (List ℕ) → List ℕ → Type 0
IsClass class_names name = ((class : SymbolClass) × (name ≡ class_name class)) ⊎ Contains class_names name

-- what is wrong with the name of a class of the file
abbrev pub RefusesNewClass : List (List ℕ) → List ℕ → FaultKind → Type 0
RefusesNewClass class_names name Twice = IsClass class_names name
RefusesNewClass class_names name ClassesPast = (¬ IsClass class_names name)
    × (most_classes ≤ length class_names)
RefusesNewClass class_names name kind = ⊥

module _ (text : List ℕ) where
  -- the bytes of a token
  abbrev pub token_bytes : Token → List ℕ
  token_bytes t = slice_range text t.from t.to

  -- what is wrong with a declaration: its name, or else its arity
  abbrev pub RefusesSymbol : Table → Token → Token → Fault → Type 0
  RefusesSymbol table name arity fault =
      RefusesDeclaration table (token_bytes name) (numeral_value (token_bytes arity)) fault.kind
      × (((fault.kind ≡ Twice) × (fault.byte ≡ name.from))
      ⊎ ((fault.kind ≡ ArityPast) × (fault.byte ≡ arity.from)))

  -- the head that a member stands for: a symbol without arguments, or a numeral whose class is included
  abbrev pub MeansMember : Table → Token → Head → Type 0
  MeansMember table member (head.Symbol number) = (member.kind ≢ Numeral)
      × IsDeclared table (token_bytes member) number 0
  MeansMember table member (head.Numeral value) = (member.kind ≡ Numeral) × Includes table Numerals
      × (value ≡ numeral_value (token_bytes member))
  MeansMember table member h = ⊥

  -- what is wrong with a member, whichever class it stands in: it is not declared, or has arguments, or the class of
  -- numerals is not included
  abbrev pub RefusesMemberAlone : Table → Token → FaultKind → Type 0
  RefusesMemberAlone table member Unknown = (member.kind ≢ Numeral) × (¬ HasName table (token_bytes member))
  RefusesMemberAlone table member (WrongArity declared found) = (member.kind ≢ Numeral)
      × ((number : ℕ) × IsDeclared table (token_bytes member) number declared) × (declared ≢ 0) × (found ≡ 0)
  RefusesMemberAlone table member NotIncluded = (member.kind ≡ Numeral) × (¬ Includes table Numerals)
  RefusesMemberAlone table member kind = ⊥

  -- what is wrong with a member of the class with the number: it is wrong alone, or stands there twice, or is one too many
  abbrev pub RefusesMember : Known → ℕ → Token → FaultKind → Type 0
  RefusesMember known class member Twice =
      (h : Head) × MeansMember known.table member h × Contains (members_of known.classes class) h
  RefusesMember known class member MembersPast =
      (h : Head) × MeansMember known.table member h × (¬ Contains (members_of known.classes class) h)
      × (most_members ≤ member_count known.classes)
  RefusesMember known class member kind = RefusesMemberAlone known.table member kind

  -- what is wrong with the name before `is`
  abbrev pub RefusesQualified : Known → List Token → List ℕ → FaultKind → Type 0
  RefusesQualified known before name QualifiedUnknown = ¬ Contains known.variables name
  RefusesQualified known before name QualifiedTwice = Contains known.variables name
      × Contains (map token_bytes before) name
  RefusesQualified known before name kind = ⊥

  -- what is wrong with the name behind `is in`
  abbrev pub RefusesClassOf : Known → List ℕ → FaultKind → Type 0
  RefusesClassOf known name UnknownClass = ¬ IsClass known.class_names name
  RefusesClassOf known name NotIncluded = (class : SymbolClass) × (name ≡ class_name class)
      × (¬ Includes known.table class)
  RefusesClassOf known name kind = ⊥

  -- what is wrong with an equation class: no class has the name, or it is included, or what it needs is not
  abbrev pub RefusesOperation : Known → List ℕ → FaultKind → Type 0
  RefusesOperation known name UnknownEquationClass = (op : Op) → name ≢ operation_name op
  RefusesOperation known name Twice = (op : Op) × (name ≡ operation_name op) × Contains known.operations op
  RefusesOperation known name SchemaNeeds = (op : Op) × (name ≡ operation_name op)
      × (¬ Contains known.operations op) × (¬ HasNeeds known.table op)
  RefusesOperation known name kind = ⊥

-- terms are written in the notation
module _ (notation : Notation) (text : List ℕ) where
  -- what is at the place is no fault, and this is known behind it
  abbrev pub Takes : Known → Place → Known → Type 0
  Takes old (Symbol name arity) new = (number : ℕ)
      × Declares old.table new.table (token_bytes text name) (numeral_value (token_bytes text arity)) number
      × (new ≡ record old { table = new.table })
  Takes old (Class name) new = AddsClass old.table new.table (token_bytes text name)
      × (new ≡ record old { table = new.table })
  Takes old (NewClass name) new = (¬ IsClass old.class_names (token_bytes text name))
      × (length old.class_names < most_classes)
      × (new ≡ record old {
        class_names = old.class_names ++ token_bytes text name ∷ [];
        classes = old.classes ++ [] ∷ [];
      })
  Takes old (Member class member) new = (h : Head) × MeansMember text old.table member h
      × (¬ Contains (members_of old.classes class) h) × (member_count old.classes < most_members)
      × (new ≡ record old { classes = with_member old.classes class h })
  Takes old (Variable name) new = AddsVariable old.table old.variables new.variables (token_bytes text name)
      × (new ≡ record old { variables = new.variables })
  Takes old (Term byte) new =
      (pattern : Tree (PatternCell ReadHead)) × (end : ℕ)
      × ReadsPattern notation old.table old.variables text byte pattern end × (new ≡ old)
  Takes old (Qualified before name) new = Contains old.variables (token_bytes text name)
      × (¬ Contains (map (token_bytes text) before) (token_bytes text name)) × (new ≡ old)
  Takes old (ClassOf name) new =
      (((class : SymbolClass) × (token_bytes text name ≡ class_name class) × Includes old.table class)
      ⊎ Contains old.class_names (token_bytes text name)) × (new ≡ old)
  Takes old (Operation name) new =
      (op : Op) × (token_bytes text name ≡ operation_name op) × (¬ Contains old.operations op)
      × HasNeeds old.table op × (new ≡ record old { operations = old.operations ++ op ∷ [] })

  -- what is at the place is this fault
  abbrev pub Refuses : Known → Place → Fault → Type 0
  Refuses known (Symbol name arity) fault = RefusesSymbol text known.table name arity fault
  Refuses known (Class name) fault = RefusesInclude known.table (token_bytes text name) fault.kind
      × (fault.byte ≡ name.from)
  Refuses known (NewClass name) fault = RefusesNewClass known.class_names (token_bytes text name) fault.kind
      × (fault.byte ≡ name.from)
  Refuses known (Member class member) fault = RefusesMember text known class member fault.kind
      × (fault.byte ≡ member.from)
  Refuses known (Variable name) fault =
      RefusesVariable known.table known.variables (token_bytes text name) fault.kind
      × (fault.byte ≡ name.from)
  Refuses known (Term byte) fault = RefusesPattern notation known.table known.variables text byte fault
  Refuses known (Qualified before name) fault =
      RefusesQualified text known before (token_bytes text name) fault.kind × (fault.byte ≡ name.from)
  Refuses known (ClassOf name) fault = RefusesClassOf text known (token_bytes text name) fault.kind
      × (fault.byte ≡ name.from)
  Refuses known (Operation name) fault = RefusesOperation text known (token_bytes text name) fault.kind
      × (fault.byte ≡ name.from)

  -- none of the places has a fault, and this is known behind them
  abbrev pub TakesAll : Known → List Place → Known → Type 0
  TakesAll old [] new = new ≡ old
  TakesAll old (p ∷ ps) new = (next : Known) × Takes old p next × TakesAll next ps new

  -- the first place that has a fault has this one
  abbrev pub RefusesFirst : Known → List Place → Fault → Type 0
  RefusesFirst known [] fault = ⊥
  RefusesFirst known (p ∷ ps) fault = Refuses known p fault
      ⊎ ((next : Known) × Takes known p next × RefusesFirst next ps fault)
