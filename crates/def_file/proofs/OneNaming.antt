-- The names of a file come to one end: what is known behind them, or their first fault.
use Rattle.std.proofs.Common.{◌≡◌, ℕ, zero, suc, ◌≤◌, ℤ, pos, ◌<ℤ◌, List, [], ◌∷◌, ◌++◌, map, length, ◌<◌, ◌⊎◌, ◌≢◌, Option, Some, None, Result, Ok, Err, inl, inr, refl, sym, ap, ◌∙◌, subst, arith, rules, get_or, Contains}
use Rattle.std.proofs.lemmas.Int.{ints}
use Rattle.std.proofs.lemmas.List.Elements.{Contains-push_cases}
use Rattle.std.specs.Prelude.{if◌then◌else◌, ◌==◌, slice_get}
use Rattle.eq_base.specs.Tree.{Tree}
use Rattle.eq_base.specs.Pattern.{PatternCell}
use Rattle.eq_base.specs.ReadHead.{ReadHead}
use Rattle.eq_base.specs.declared.meeting.SymbolClass.{SymbolClass}
use Rattle.eq_base.specs.declared.meeting.SymbolClass.TheVariants.{Numerals, Atoms, TruthValues, Strings}
use Rattle.eq_base.specs.declared.rules.Op.{Op}
use Rattle.eq_base.specs.declared.rules.Op.TheVariants.{AddInt, SubInt, MultInt, DivInt, ModInt, EquInt, LessInt, EquAtom, EquStr, ConcatStr, LengthStr}
use Rattle.eq_base.specs.ClassLists.{members_of, with_member}
use Rattle.eq_base.specs.declared.head.Head.{Head}
use Rattle.eq_base.specs.declared.head.Head.TheVariants as head
use Rattle.term_lex.specs.declared.token.Token.{Token}
use Rattle.term_lex.specs.declared.token.TokenKind.TheVariants.{Numeral}
use Rattle.term_lex.specs.declared.fault.Fault.{Fault}
use Rattle.term_lex.specs.declared.fault.FaultKind.{FaultKind}
use Rattle.term_lex.specs.declared.fault.FaultKind.TheVariants.{Twice, ArityPast, UnknownClass, Unknown, WrongArity, NotIncluded, UnknownEquationClass, VariableTwice, QualifiedUnknown, QualifiedTwice, SchemaNeeds, ClassesPast, MembersPast}
use Rattle.term_lex.specs.Values.{numeral_value}
use Rattle.symbol_table.specs.Table.{Declared, Table, symbols_of, IsDeclared, Includes, HasName, HasTruthName, HasDistinctNames, AreDistinct, class_name}
use Rattle.symbol_table.specs.Refusing.{RefusesDeclaration, RefusesInclude, RefusesVariable}
use Rattle.symbol_table.proofs.Growing.{with_symbol, with_class, distinct-with_symbol, distinct-with_class}
use Rattle.symbol_table.proofs.Keys.{AreDistinct-push}
use Rattle.written_terms.specs.Notation.{Notation}
use Rattle.written_terms.specs.Refusing.{IsPatternAt, RefusesPattern}
use Rattle.written_terms.proofs.Notations.{IsLawful}
use Rattle.written_terms.proofs.OneReading.{one_pattern_at}
use Rattle.def_file.specs.Operations.{operation_name, HasNeeds}
use Rattle.def_file.specs.Names.{Place, Symbol, Class, NewClass, Member, Variable, Term, Qualified, ClassOf, Operation, Known, nothing_known, most_classes, most_members, member_count, token_bytes, IsClass, MeansMember, Takes, Refuses, TakesAll, RefusesFirst, RefusesSymbol, RefusesNewClass, RefusesMemberAlone, RefusesMember, RefusesQualified, RefusesClassOf, RefusesOperation}
use Rattle.def_file.specs.Sides.{IsPattern}

-- ---- names of classes

abbrev class_named : List ℕ → SymbolClass
class_named name =
    if get_or name 0 0 == 105 then Numerals
    else if get_or name 0 0 == 97 then Atoms
    else if get_or name 0 0 == 116 then TruthValues
    else Strings

class_back : (class : SymbolClass) → class_named (class_name class) ≡ class
class_back Numerals = refl
class_back Atoms = refl
class_back TruthValues = refl
class_back Strings = refl

-- a class of symbols has a name of its own
pub one_class : (name : List ℕ) (one other : SymbolClass) → name ≡ class_name one → name ≡ class_name other
    → one ≡ other
one_class name one other is is' = sym (class_back one) ∙ ap class_named (sym is ∙ is') ∙ class_back other

abbrev operation_named : List ℕ → Op
operation_named name =
    if get_or name 0 0 == 97 then AddInt
    else if get_or name 0 0 == 115 then SubInt
    else if get_or name 0 0 == 100 then DivInt
    else if get_or name 0 0 == 99 then ConcatStr
    else if get_or name 0 0 == 109 then (if get_or name 1 0 == 117 then MultInt else ModInt)
    else if get_or name 0 0 == 108 then (if get_or name 2 0 == 115 then LessInt else LengthStr)
    else if get_or name 3 0 == 105 then EquInt
    else if get_or name 3 0 == 97 then EquAtom
    else EquStr

operation_back : (op : Op) → operation_named (operation_name op) ≡ op
operation_back AddInt = refl
operation_back SubInt = refl
operation_back MultInt = refl
operation_back DivInt = refl
operation_back ModInt = refl
operation_back EquInt = refl
operation_back LessInt = refl
operation_back EquAtom = refl
operation_back EquStr = refl
operation_back ConcatStr = refl
operation_back LengthStr = refl

-- so has an equation class
pub one_operation : (name : List ℕ) (one other : Op) → name ≡ operation_name one → name ≡ operation_name other
    → one ≡ other
one_operation name one other is is' =
    sym (operation_back one) ∙ ap operation_named (sym is ∙ is') ∙ operation_back other

-- ---- what is known

-- no name is declared twice, no class has the name of another, and no variable is listed twice
pub record AreOnce (known : Known) : Type 0 where
  pub names : HasDistinctNames known.table
  pub class_names : AreDistinct known.class_names
  pub apart : (class : SymbolClass) → ¬ Contains known.class_names (class_name class)
  pub variables : AreDistinct known.variables

no_symbol : (name : List ℕ) (number arity : ℕ) → IsDeclared nothing_known.table name number arity → ⊥
no_symbol name zero arity is = let none = is.known (omega arith) in omega (arith, none.1)
no_symbol name (suc zero) arity is = let none = is.known (omega arith) in omega (arith, none.1)
no_symbol name (suc (suc number)) arity is = let listed = is.listed in cc

nothing_once : AreOnce nothing_known
nothing_once = record {
  names = λ name m n x y is is'. absurd (no_symbol name m x is);
  class_names = λ bytes m n is is'. cc;
  apart = λ class (number, below, is). omega (arith, below);
  variables = λ bytes m n is is'. cc;
}

-- what is known where the table, the variables and the equation classes are so
abbrev known_by : Known → Table → List (List ℕ) → List Op → Known
known_by known table variables operations = record known { table = table; variables = variables; operations = operations }

abbrev arity_of : Option Declared → ℕ
arity_of (Some d) = d.arity
arity_of None = 0

module _ (text : List ℕ) (table : Table) (once : HasDistinctNames table) (member : Token) where
  -- a name has one arity
  one_arity : (name : List ℕ) (number other arity another : ℕ) → IsDeclared table name number arity → IsDeclared table name other another → arity ≡ another
  one_arity name number other arity another is is' =
      ap arity_of (sym is.listed ∙ ap (slice_get (symbols_of table)) (once name number other arity another is is') ∙ is'.listed)

  -- a member stands for one head
  one_member : (h g : Head) → MeansMember text table member h → MeansMember text table member g → h ≡ g
  one_member (head.Symbol m) (head.Symbol n) (named, is) (named_too, is') = ap (λ x. head.Symbol x) (once (token_bytes text member) m n 0 0 is is')
  one_member (head.Symbol m) (head.Numeral v) (named, is) (counted, has, value) = absurd (named counted)
  one_member (head.Symbol m) (head.Atom b) (named, is) r = absurd r
  one_member (head.Symbol m) (head.Text b) (named, is) r = absurd r
  one_member (head.Numeral v) (head.Symbol n) (counted, has, value) (named, is) = absurd (named counted)
  one_member (head.Numeral v) (head.Numeral u) (counted, has, is) (counted_too, has', is') = ap (λ x. head.Numeral x) (is ∙ sym is')
  one_member (head.Numeral v) (head.Atom b) r s = absurd s
  one_member (head.Numeral v) (head.Text b) r s = absurd s
  one_member (head.Atom b) g r s = absurd r
  one_member (head.Text b) g r s = absurd r

  -- a member that is no numeral is a declared name, and one that is has its class
  is_declared : (h : Head) → MeansMember text table member h → member.kind ≢ Numeral → (number : ℕ) × IsDeclared table (token_bytes text member) number 0
  is_declared (head.Symbol m) (named, is) other = (m, is)
  is_declared (head.Numeral v) (counted, has, value) other = absurd (other counted)
  is_declared (head.Atom b) r other = absurd r
  is_declared (head.Text b) r other = absurd r

  is_included : (h : Head) → MeansMember text table member h → member.kind ≡ Numeral → Includes table Numerals
  is_included (head.Symbol m) (named, is) counted = absurd (named counted)
  is_included (head.Numeral v) (counted_too, has, is) counted = has
  is_included (head.Atom b) r counted = absurd r
  is_included (head.Text b) r counted = absurd r

  -- it is not wrong alone
  meant_or_refused : (h : Head) (kind : FaultKind) → MeansMember text table member h → RefusesMemberAlone text table member kind → ⊥
  meant_or_refused h Unknown m (other, none) = let d = is_declared h m other in none (d.0, 0, d.1)
  meant_or_refused h (WrongArity declared found) m (other, (number, is), more, none) =
      let d = is_declared h m other in more (one_arity (token_bytes text member) number d.0 declared 0 is d.1)
  meant_or_refused h NotIncluded m (counted, lacks) = lacks (is_included h m counted)
  meant_or_refused h kind m why = why

  -- and wrong in one way
  one_alone : (kind other : FaultKind) → RefusesMemberAlone text table member kind → RefusesMemberAlone text table member other → kind ≡ other
  one_alone Unknown Unknown why why' = refl
  one_alone Unknown (WrongArity declared found) (named, none) (named_too, (number, is), more, found_none) = absurd (none (number, declared, is))
  one_alone Unknown NotIncluded (named, none) (counted, lacks) = absurd (named counted)
  one_alone (WrongArity declared found) Unknown (named_too, (number, is), more, found_none) (named, none) = absurd (none (number, declared, is))
  one_alone (WrongArity d f) (WrongArity d' f') (named, (n, is), more, none) (named_too, (n', is'), more', none') =
      let declared = one_arity (token_bytes text member) n n' d d' is is' in
      let found = none ∙ sym none' in
      λ i. WrongArity (declared i) (found i)
  one_alone (WrongArity declared found) NotIncluded (named, is, more, found_none) (counted, lacks) = absurd (named counted)
  one_alone NotIncluded Unknown (counted, lacks) (named, none) = absurd (named counted)
  one_alone NotIncluded (WrongArity declared found) (counted, lacks) (named, is, more, found_none) = absurd (named counted)
  one_alone NotIncluded NotIncluded why why' = refl
  one_alone kind other why why' = search rules

module _ {notation : Notation} (laws : IsLawful notation) (text : List ℕ) where
  -- ---- what is taken

  takes_once : (p : Place) (a b : Known) → AreOnce a → Takes notation text a p b → AreOnce b
  takes_once (Symbol name arity) a b o (number, d, e) =
      let names = subst HasDistinctNames (sym d.added)
      (distinct-with_symbol a.table (token_bytes text name) d.arguments o.names d.fresh) in
      subst AreOnce (sym e) (record { names = names; class_names = o.class_names; apart = o.apart; variables = o.variables })
  takes_once (Class name) a b o (c, e) =
      let names = subst HasDistinctNames (sym c.added)
      (distinct-with_class a.table c.class o.names c.undeclared) in
      subst AreOnce (sym e) (record { names = names; class_names = o.class_names; apart = o.apart; variables = o.variables })
  takes_once (NewClass name) a b o (fresh, few, e) =
      let bytes = token_bytes text name in
      let apart : (class : SymbolClass) → ¬ Contains (a.class_names ++ bytes ∷ []) (class_name class) =
      λ class has. elim (Contains-push_cases a.class_names bytes (class_name class) has) [ inl there ↦ o.apart class there | inr same ↦ fresh (inl (class, same)) ] in
      let names = AreDistinct-push a.class_names bytes o.class_names (λ has. fresh (inr has)) in
      subst AreOnce (sym e) (record { names = o.names; class_names = names; apart = apart; variables = o.variables })
  takes_once (Member class member) a b o (h, means, fresh, few, e) =
      subst AreOnce (sym e) (record { names = o.names; class_names = o.class_names; apart = o.apart; variables = o.variables })
  takes_once (Variable name) a b o (v, e) =
      let variables = subst AreDistinct (sym v.added)
      (AreDistinct-push a.variables (token_bytes text name) o.variables v.fresh) in
      subst AreOnce (sym e) (record { names = o.names; class_names = o.class_names; apart = o.apart; variables = variables })
  takes_once (Term byte) a b o (pattern, end, reads, e) = subst AreOnce (sym e) o
  takes_once (Qualified before name) a b o (has, fresh, e) = subst AreOnce (sym e) o
  takes_once (ClassOf name) a b o (has, e) = subst AreOnce (sym e) o
  takes_once (Operation name) a b o (op, named, fresh, needs, e) =
      subst AreOnce (sym e) (record { names = o.names; class_names = o.class_names; apart = o.apart; variables = o.variables })

  -- what is known behind a place is one
  takes_one : (p : Place) (a b c : Known) → AreOnce a → Takes notation text a p b → Takes notation text a p c → b ≡ c
  takes_one (Symbol name arity) a b c o (number, s, e) (other, t, f) =
      let counted : pos s.arguments ≡ pos t.arguments = sym s.counted ∙ t.counted in
      let arguments : s.arguments ≡ t.arguments = cc in
      let table = s.added ∙ ap (with_symbol a.table (token_bytes text name)) arguments ∙ sym t.added in
      e ∙ ap (λ v. known_by a v a.variables a.operations) table ∙ sym f
  takes_one (Class name) a b c o (s, e) (t, f) =
      let class = one_class (token_bytes text name) s.class t.class s.named t.named in
      let table = s.added ∙ ap (with_class a.table) class ∙ sym t.added in
      e ∙ ap (λ v. known_by a v a.variables a.operations) table ∙ sym f
  takes_one (NewClass name) a b c o (fresh, few, e) (fresh', few', f) = e ∙ sym f
  takes_one (Member class member) a b c o (h, means, fresh, few, e) (h', means', fresh', few', f) =
      let same = one_member text a.table o.names member h h' means means' in
      e ∙ ap (λ g. record a { classes = with_member a.classes class g }) same ∙ sym f
  takes_one (Variable name) a b c o (s, e) (t, f) =
      e ∙ ap (λ vs. known_by a a.table vs a.operations) (s.added ∙ sym t.added) ∙ sym f
  takes_one (Term byte) a b c o (pattern, end, reads, e) (pattern', end', reads', f) = e ∙ sym f
  takes_one (Qualified before name) a b c o (has, fresh, e) (has', fresh', f) = e ∙ sym f
  takes_one (ClassOf name) a b c o (has, e) (has', f) = e ∙ sym f
  takes_one (Operation name) a b c o (op, named, fresh, needs, e) (op', named', fresh', needs', f) =
      let same = one_operation (token_bytes text name) op op' named named' in
      e ∙ ap (λ o. known_by a a.table a.variables (a.operations ++ o ∷ [])) same ∙ sym f

  all_once : (ps : List Place) (a b : Known) → AreOnce a → TakesAll notation text a ps b → AreOnce b
  all_once [] a b o e = subst AreOnce (sym e) o
  all_once (p ∷ ps) a b o (next, t, ts) = all_once ps next b (takes_once p a next o t) ts

  all_one : (ps : List Place) (a b c : Known) → AreOnce a → TakesAll notation text a ps b → TakesAll notation text a ps c → b ≡ c
  all_one [] a b c o e f = e ∙ sym f
  all_one (p ∷ ps) a b c o (next, t, ts) (other, u, us) =
      all_one ps next b c (takes_once p a next o t) ts (subst (λ k. TakesAll notation text k ps c) (takes_one p a other next o u t) us)

  -- behind names that have no fault, what is known is one
  pub one_naming : (places : List Place) (one other : Known) → TakesAll notation text nothing_known places one
      → TakesAll notation text nothing_known places other → one ≡ other
  one_naming places one other t u = all_one places nothing_known one other nothing_once t u

  -- and no name is declared or listed twice
  pub distinct_names : (places : List Place) (known : Known) → TakesAll notation text nothing_known places known
      → AreOnce known
  distinct_names places known t = all_once places nothing_known known nothing_once t

  -- ---- what a term reads

  abbrev Answer : Type 0
  Answer = Result (Tree (PatternCell ReadHead) × ℕ) Fault

  module _ (known : Known) (once : AreOnce known) (byte : ℕ) where
    one_answer : (r s : Answer) → IsPatternAt notation known.table known.variables text byte r
        → IsPatternAt notation known.table known.variables text byte s → r ≡ s
    one_answer r s = one_pattern_at notation laws known.table once.names text byte known.variables once.variables r s

    -- one pattern is read at a place
    pub pattern_one : (p q : Tree (PatternCell ReadHead)) → IsPattern notation text known byte p
        → IsPattern notation text known byte q → p ≡ q
    pattern_one p q (end, r) (end', s) =
        let same : ◌≡◌ {A = Answer} (Ok (p, end)) (Ok (q, end')) =
        one_answer (Ok (p, end)) (Ok (q, end')) r s in
        let pair : ◌≡◌ {A = Tree (PatternCell ReadHead) × ℕ} (p, end) (q, end') = cc in
        ap (λ (x : Tree (PatternCell ReadHead) × ℕ). x.0) pair

    -- which is not refused
    read_or_refused : (p : Tree (PatternCell ReadHead)) (f : Fault) → IsPattern notation text known byte p
        → RefusesPattern notation known.table known.variables text byte f → ⊥
    read_or_refused p f (end, r) why =
        let same : ◌≡◌ {A = Answer} (Ok (p, end)) (Err f) = one_answer (Ok (p, end)) (Err f) r why in cc

    one_refusal : (f g : Fault) → RefusesPattern notation known.table known.variables text byte f
        → RefusesPattern notation known.table known.variables text byte g → f ≡ g
    one_refusal f g why why' =
        let same : ◌≡◌ {A = Answer} (Err f) (Err g) = one_answer (Err f) (Err g) why why' in cc

  -- ---- what is taken is not refused

  not_below : (n : ℕ) → pos n <ℤ pos 0 → ⊥
  not_below n lt = omega (arith, ints)

  not_above : (n : ℕ) → n ≤ 255 → pos 255 <ℤ pos n → ⊥
  not_above n le lt = omega (arith, ints)

  module _ (table : Table) (name : List ℕ) where
    declared_or_refused : (value : ℤ) (arguments : ℕ) (kind : FaultKind) → value ≡ pos arguments
        → arguments ≤ 255 → ¬ HasName table name → RefusesDeclaration table name value kind → ⊥
    declared_or_refused value arguments Twice counted fits fresh has = fresh has
    declared_or_refused value arguments ArityPast counted fits fresh (new, inl low) =
        not_below arguments (subst (λ v. v <ℤ pos 0) counted low)
    declared_or_refused value arguments ArityPast counted fits fresh (new, inr high) =
        not_above arguments fits (subst (λ v. pos 255 <ℤ v) counted high)
    declared_or_refused value arguments kind counted fits fresh why = why

    included_or_refused : (class : SymbolClass) (kind : FaultKind) → name ≡ class_name class
        → ¬ Includes table class → (class ≡ TruthValues → ¬ HasTruthName table)
        → RefusesInclude table name kind → ⊥
    included_or_refused class UnknownClass named fresh undeclared why = why class named
    included_or_refused class Twice named fresh undeclared (other, named', inl has) =
        fresh (subst (Includes table) (one_class name other class named' named) has)
    included_or_refused class Twice named fresh undeclared (other, named', inr (truth, has)) =
        undeclared (one_class name class other named named' ∙ truth) has
    included_or_refused class kind named fresh undeclared why = why

    listed_or_refused : (variables : List (List ℕ)) (kind : FaultKind) → ¬ Contains variables name
        → ¬ HasName table name → RefusesVariable table variables name kind → ⊥
    listed_or_refused variables VariableTwice fresh new (inl has) = fresh has
    listed_or_refused variables VariableTwice fresh new (inr has) = new has
    listed_or_refused variables kind fresh new why = why

  module _ (known : Known) (name : List ℕ) where
    -- what may stand behind `is in`
    abbrev MayBeClass : Type 0
    MayBeClass = ((class : SymbolClass) × (name ≡ class_name class) × Includes known.table class) ⊎ Contains known.class_names name

    class_or_refused : AreOnce known → (kind : FaultKind) → MayBeClass → RefusesClassOf text known name kind → ⊥
    class_or_refused o UnknownClass (inl (class, named, has)) why = why (inl (class, named))
    class_or_refused o UnknownClass (inr has) why = why (inr has)
    class_or_refused o NotIncluded (inl (class, named, has)) (other, named', lacks) =
        lacks (subst (Includes known.table) (one_class name class other named named') has)
    class_or_refused o NotIncluded (inr has) (other, named', lacks) =
        o.apart other (subst (Contains known.class_names) named' has)
    class_or_refused o kind has why = why

    new_or_refused : (kind : FaultKind) → ¬ IsClass known.class_names name → length known.class_names < most_classes → RefusesNewClass known.class_names name kind → ⊥
    new_or_refused Twice fresh few why = fresh why
    new_or_refused ClassesPast fresh few (new, past) = omega (arith, few, past)
    new_or_refused kind fresh few why = why

    qualified_or_refused : (before : List Token) (kind : FaultKind) → Contains known.variables name
        → ¬ Contains (map (token_bytes text) before) name → RefusesQualified text known before name kind → ⊥
    qualified_or_refused before QualifiedUnknown has fresh why = why has
    qualified_or_refused before QualifiedTwice has fresh (has', twice) = fresh twice
    qualified_or_refused before kind has fresh why = why

    operation_or_refused : (op : Op) (kind : FaultKind) → name ≡ operation_name op
        → ¬ Contains known.operations op → HasNeeds known.table op → RefusesOperation text known name kind → ⊥
    operation_or_refused op UnknownEquationClass named fresh needs why = why op named
    operation_or_refused op Twice named fresh needs (other, named', has) =
        fresh (subst (Contains known.operations) (one_operation name other op named' named) has)
    operation_or_refused op SchemaNeeds named fresh needs (other, named', new, lacks) =
        lacks (subst (HasNeeds known.table) (one_operation name op other named named') needs)
    operation_or_refused op kind named fresh needs why = why

  module _ (known : Known) (once : AreOnce known) (class : ℕ) (member : Token) where
    member_or_refused : (h : Head) (kind : FaultKind) → MeansMember text known.table member h
        → ¬ Contains (members_of known.classes class) h → member_count known.classes < most_members
        → RefusesMember text known class member kind → ⊥
    member_or_refused h Twice means fresh few (g, means', has) =
        fresh (subst (Contains (members_of known.classes class)) (one_member text known.table once.names member g h means' means) has)
    member_or_refused h MembersPast means fresh few (g, means', new, past) = omega (arith, few, past)
    member_or_refused h kind means fresh few why = meant_or_refused text known.table once.names member h kind means (search rules)

    one_member_refused : (kind other : FaultKind) → RefusesMember text known class member kind
        → RefusesMember text known class member other → kind ≡ other
    one_member_refused Twice Twice why why' = refl
    one_member_refused Twice MembersPast (h, means, has) (g, means', new, past) =
        absurd (new (subst (Contains (members_of known.classes class)) (one_member text known.table once.names member h g means means') has))
    one_member_refused MembersPast Twice (g, means', new, past) (h, means, has) =
        absurd (new (subst (Contains (members_of known.classes class)) (one_member text known.table once.names member h g means means') has))
    one_member_refused MembersPast MembersPast why why' = refl
    one_member_refused Twice other (h, means, has) why = absurd (meant_or_refused text known.table once.names member h other means (search rules))
    one_member_refused MembersPast other (h, means, new, past) why = absurd (meant_or_refused text known.table once.names member h other means (search rules))
    one_member_refused kind Twice why (h, means, has) = absurd (meant_or_refused text known.table once.names member h kind means (search rules))
    one_member_refused kind MembersPast why (h, means, new, past) = absurd (meant_or_refused text known.table once.names member h kind means (search rules))
    one_member_refused kind other why why' = one_alone text known.table once.names member kind other (search rules) (search rules)

  taken_or_refused : (p : Place) (a b : Known) (f : Fault) → AreOnce a → Takes notation text a p b
      → Refuses notation text a p f → ⊥
  taken_or_refused (Symbol name arity) a b f o (number, s, e) (why, place) =
      declared_or_refused a.table (token_bytes text name) (numeral_value (token_bytes text arity)) s.arguments
      f.kind s.counted s.fits s.fresh why
  taken_or_refused (Class name) a b f o (s, e) (why, place) =
      included_or_refused a.table (token_bytes text name) s.class f.kind s.named s.fresh s.undeclared why
  taken_or_refused (NewClass name) a b f o (fresh, few, e) (why, place) =
      new_or_refused a (token_bytes text name) f.kind fresh few why
  taken_or_refused (Member class member) a b f o (h, means, fresh, few, e) (why, place) =
      member_or_refused a o class member h f.kind means fresh few why
  taken_or_refused (Variable name) a b f o (v, e) (why, place) =
      listed_or_refused a.table (token_bytes text name) a.variables f.kind v.fresh v.no_symbol why
  taken_or_refused (Term byte) a b f o (pattern, end, reads, e) why =
      read_or_refused a o byte pattern f (end, reads) why
  taken_or_refused (Qualified before name) a b f o (has, fresh, e) (why, place) =
      qualified_or_refused a (token_bytes text name) before f.kind has fresh why
  taken_or_refused (ClassOf name) a b f o (has, e) (why, place) =
      class_or_refused a (token_bytes text name) o f.kind has why
  taken_or_refused (Operation name) a b f o (op, named, fresh, needs, e) (why, place) =
      operation_or_refused a (token_bytes text name) op f.kind named fresh needs why

  -- ---- one refusal

  same_fault : (f g : Fault) → f.kind ≡ g.kind → f.byte ≡ g.byte → f ≡ g
  same_fault f g kind byte = λ i. record { kind = kind i; byte = byte i }

  module _ (table : Table) (name : List ℕ) where
    one_include : (kind other : FaultKind) → RefusesInclude table name kind → RefusesInclude table name other
        → kind ≡ other
    one_include UnknownClass UnknownClass why why' = refl
    one_include Twice Twice why why' = refl
    one_include kind other why why' = search rules

    one_variable : (variables : List (List ℕ)) (kind other : FaultKind)
        → RefusesVariable table variables name kind
        → RefusesVariable table variables name other → kind ≡ other
    one_variable variables VariableTwice VariableTwice why why' = refl
    one_variable variables kind other why why' = search rules

  module _ (known : Known) (name : List ℕ) where
    one_class_of : (kind other : FaultKind) → RefusesClassOf text known name kind
        → RefusesClassOf text known name other → kind ≡ other
    one_class_of UnknownClass UnknownClass why why' = refl
    one_class_of UnknownClass NotIncluded none (class, named, lacks) = absurd (none (inl (class, named)))
    one_class_of NotIncluded UnknownClass (class, named, lacks) none = absurd (none (inl (class, named)))
    one_class_of NotIncluded NotIncluded why why' = refl
    one_class_of kind other why why' = search rules

    one_new_class : (kind other : FaultKind) → RefusesNewClass known.class_names name kind
        → RefusesNewClass known.class_names name other → kind ≡ other
    one_new_class Twice Twice why why' = refl
    one_new_class Twice ClassesPast why (fresh, past) = absurd (fresh why)
    one_new_class ClassesPast Twice (fresh, past) why = absurd (fresh why)
    one_new_class ClassesPast ClassesPast why why' = refl
    one_new_class kind other why why' = search rules

    one_qualified : (before : List Token) (kind other : FaultKind)
        → RefusesQualified text known before name kind
        → RefusesQualified text known before name other → kind ≡ other
    one_qualified before QualifiedUnknown QualifiedUnknown why why' = refl
    one_qualified before QualifiedTwice QualifiedTwice why why' = refl
    one_qualified before kind other why why' = search rules

    one_operation_refused : (kind other : FaultKind) → RefusesOperation text known name kind
        → RefusesOperation text known name other → kind ≡ other
    one_operation_refused UnknownEquationClass UnknownEquationClass why why' = refl
    one_operation_refused Twice Twice why why' = refl
    one_operation_refused Twice SchemaNeeds (op, named, has) (op', named', new, lacks) =
        absurd (new (subst (Contains known.operations) (one_operation name op op' named named') has))
    one_operation_refused SchemaNeeds Twice (op', named', new, lacks) (op, named, has) =
        absurd (new (subst (Contains known.operations) (one_operation name op op' named named') has))
    one_operation_refused SchemaNeeds SchemaNeeds why why' = refl
    one_operation_refused kind other why why' = search rules

  module _ (table : Table) (name arity : Token) where
    abbrev Why : FaultKind → Type 0
    Why kind = RefusesDeclaration table (token_bytes text name) (numeral_value (token_bytes text arity)) kind

    -- a declaration is refused for its name or for its arity
    twice_or_past : (kind other : FaultKind) → kind ≡ Twice → other ≡ ArityPast → Why kind → Why other → ⊥
    twice_or_past kind other is is' why why' = (subst Why is' why').0 (subst Why is why)

    one_declaration : (f g : Fault) → RefusesSymbol text table name arity f
        → RefusesSymbol text table name arity g → f ≡ g
    one_declaration f g (why, inl (kind, byte)) (why', inl (kind', byte')) =
        same_fault f g (kind ∙ sym kind') (byte ∙ sym byte')
    one_declaration f g (why, inl (kind, byte)) (why', inr (kind', byte')) =
        absurd (twice_or_past f.kind g.kind kind kind' why why')
    one_declaration f g (why, inr (kind, byte)) (why', inl (kind', byte')) =
        absurd (twice_or_past g.kind f.kind kind' kind why' why)
    one_declaration f g (why, inr (kind, byte)) (why', inr (kind', byte')) =
        same_fault f g (kind ∙ sym kind') (byte ∙ sym byte')

  one_refused_place : (p : Place) (a : Known) (f g : Fault) → AreOnce a → Refuses notation text a p f
      → Refuses notation text a p g → f ≡ g
  one_refused_place (Symbol name arity) a f g o why why' = one_declaration a.table name arity f g why why'
  one_refused_place (Class name) a f g o (why, place) (why', place') =
      same_fault f g (one_include a.table (token_bytes text name) f.kind g.kind why why') (place ∙ sym place')
  one_refused_place (NewClass name) a f g o (why, place) (why', place') =
      same_fault f g (one_new_class a (token_bytes text name) f.kind g.kind why why') (place ∙ sym place')
  one_refused_place (Member class member) a f g o (why, place) (why', place') =
      same_fault f g (one_member_refused a o class member f.kind g.kind why why') (place ∙ sym place')
  one_refused_place (Variable name) a f g o (why, place) (why', place') =
      same_fault f g (one_variable a.table (token_bytes text name) a.variables f.kind g.kind why why')
      (place ∙ sym place')
  one_refused_place (Term byte) a f g o why why' = one_refusal a o byte f g why why'
  one_refused_place (Qualified before name) a f g o (why, place) (why', place') =
      same_fault f g (one_qualified a (token_bytes text name) before f.kind g.kind why why') (place ∙ sym place')
  one_refused_place (ClassOf name) a f g o (why, place) (why', place') =
      same_fault f g (one_class_of a (token_bytes text name) f.kind g.kind why why') (place ∙ sym place')
  one_refused_place (Operation name) a f g o (why, place) (why', place') =
      same_fault f g (one_operation_refused a (token_bytes text name) f.kind g.kind why why')
      (place ∙ sym place')

  -- ---- one place after another

  -- the rest of the places is refused behind what was taken
  behind : (p : Place) (ps : List Place) (a next other : Known) (f : Fault) → AreOnce a → Takes notation text a p next
      → Takes notation text a p other → RefusesFirst notation text other ps f → RefusesFirst notation text next ps f
  behind p ps a next other f o t u r = subst (λ k. RefusesFirst notation text k ps f) (takes_one p a other next o u t) r

  all_or_refused : (ps : List Place) (a b : Known) (f : Fault) → AreOnce a → TakesAll notation text a ps b
      → RefusesFirst notation text a ps f → ⊥
  all_or_refused [] a b f o t r = r
  all_or_refused (p ∷ ps) a b f o (next, t, ts) (inl r) = taken_or_refused p a next f o t r
  all_or_refused (p ∷ ps) a b f o (next, t, ts) (inr (other, u, r)) =
      all_or_refused ps next b f (takes_once p a next o t) ts (behind p ps a next other f o t u r)

  one_first_refused : (ps : List Place) (a : Known) (f g : Fault) → AreOnce a → RefusesFirst notation text a ps f
      → RefusesFirst notation text a ps g → f ≡ g
  one_first_refused [] a f g o r s = absurd r
  one_first_refused (p ∷ ps) a f g o (inl r) (inl s) = one_refused_place p a f g o r s
  one_first_refused (p ∷ ps) a f g o (inl r) (inr (next, t, s)) = absurd (taken_or_refused p a next f o t r)
  one_first_refused (p ∷ ps) a f g o (inr (next, t, r)) (inl s) = absurd (taken_or_refused p a next g o t s)
  one_first_refused (p ∷ ps) a f g o (inr (next, t, r)) (inr (other, u, s)) =
      one_first_refused ps next f g (takes_once p a next o t) r (behind p ps a next other g o t u s)

  -- names that have no fault are not refused
  pub named_or_refused : (places : List Place) (known : Known) (f : Fault)
      → TakesAll notation text nothing_known places known → RefusesFirst notation text nothing_known places f → ⊥
  named_or_refused places known f t r = all_or_refused places nothing_known known f nothing_once t r

  -- names that have a fault have one first fault
  pub one_name_fault : (places : List Place) (f g : Fault) → RefusesFirst notation text nothing_known places f
      → RefusesFirst notation text nothing_known places g → f ≡ g
  one_name_fault places f g r s = one_first_refused places nothing_known f g nothing_once r s
