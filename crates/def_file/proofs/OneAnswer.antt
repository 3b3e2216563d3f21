-- A text says one thing: its definitions, or its first fault.
use Rattle.std.proofs.Common.{◌≡◌, ℕ, ◌+◌, inl, inr, Contains, List, [], ◌∷◌, ◌++◌, refl, sym, ap, ◌∙◌, subst, Result, Ok, Err}
use Rattle.eq_base.specs.Tree.{Tree, map_heads}
use Rattle.eq_base.specs.Pattern.{PatternCell}
use Rattle.eq_base.specs.Meeting.{class_number}
use Rattle.eq_base.specs.ReadHead.{ReadHead}
use Rattle.term_lex.specs.declared.token.Token.{Token}
use Rattle.term_lex.specs.declared.fault.Fault.{Fault}
use Rattle.symbol_table.specs.Table.{HasDistinctNames}
use Rattle.symbol_table.specs.Reading.{read_classes}
use Rattle.def_file.proofs.Namings.{contains_at}
use Rattle.written_terms.specs.Notation.{Notation}
use Rattle.written_terms.proofs.Notations.{IsLawful}
use Rattle.def_file.specs.declared.error.FileError.{FileError}
use Rattle.def_file.specs.declared.error.FileError.TheVariants.{Refused, NoMemory}
use Rattle.def_file.specs.AsRead.{ReadQualifier, ReadEquation, Equation, Class, ReadNumbered, ReadDefinitions}
use Rattle.def_file.specs.Errors.{AnswersRight, AnswersAs}
use Rattle.def_file.specs.Trees.{Restriction, InClass, OneOf, Condition, Sides, EquationItem, Equates, IncludesOperations, File}
use Rattle.def_file.specs.Pairs.{AreRelated}
use Rattle.def_file.specs.Names.{Known, places_of, token_bytes}
use Rattle.def_file.specs.Definitions.{classed, NamesClass, NamesVariable, IsFirstIn, AreIn, MeansSide, MeanChoices, MeansQualifier, MeansEquation, MeansOperation, MeansItem, MeanItems, Says, IsDefinitions}
use Rattle.def_file.proofs.OneNaming.{AreOnce, distinct_names, one_class, one_operation, pattern_one}
use Rattle.def_file.proofs.OneFault.{one_known, one_file_fault, says_no_fault}

-- lists that are related to one list are the same, where its elements are related to one element each
related_one : {A B : Type 0} (R : A → B → Type 0) → ((x : A) (y z : B) → R x y → R x z → y ≡ z)
    → (xs : List A) (ys zs : List B) → AreRelated R xs ys → AreRelated R xs zs → ys ≡ zs
related_one R same [] [] [] r s = refl
related_one R same [] [] (z ∷ zs) r s = absurd s
related_one R same [] (y ∷ ys) zs r s = absurd r
related_one R same (x ∷ xs) [] zs r s = absurd r
related_one R same (x ∷ xs) (y ∷ ys) [] r s = absurd s
related_one R same (x ∷ xs) (y ∷ ys) (z ∷ zs) (r, rs) (s, ss) =
    let head = same x y z r s in
    let tail = related_one R same xs ys zs rs ss in
    λ i. head i ∷ tail i

-- what is written means one thing
module _ {notation : Notation} (laws : IsLawful notation) (text : List ℕ) (known : Known) (once : AreOnce known) where
  variable_one : (name : Token) (x y : ℕ) → NamesVariable text known name x → NamesVariable text known name y
      → x ≡ y
  variable_one name x y is is' = once.variables (token_bytes text name) x y is is'

  -- a name is that of one class
  numbered_one : (name : List ℕ) (x y : ℕ) → NamesClass known.class_names name x → NamesClass known.class_names name y → x ≡ y
  numbered_one name x y (inl (class, named, is)) (inl (class', named', is')) =
      is ∙ ap class_number (one_class name class class' named named') ∙ sym is'
  numbered_one name x y (inl (class, named, is)) (inr (place, there, is')) =
      absurd (once.apart class (subst (Contains known.class_names) named (contains_at known.class_names place name there)))
  numbered_one name x y (inr (place, there, is)) (inl (class, named, is')) =
      absurd (once.apart class (subst (Contains known.class_names) named (contains_at known.class_names place name there)))
  numbered_one name x y (inr (place, there, is)) (inr (place', there', is')) =
      is ∙ ap (λ n. 4 + n) (once.class_names name place place' there there') ∙ sym is'

  first_one : (name : Token) (r : Restriction) (Rest : List (ℕ × ℕ) → Type 0)
      → ((us vs : List (ℕ × ℕ)) → Rest us → Rest vs → us ≡ vs)
      → (xs ys : List (ℕ × ℕ)) → IsFirstIn text known name r Rest xs → IsFirstIn text known name r Rest ys
      → xs ≡ ys
  first_one name (InClass token) Rest same xs ys
      (x, class, rest, is, named, e, r) (y, class', rest', is', named', e', r') =
      let number = variable_one name x y is is' in
      let class_is = numbered_one (token_bytes text token) class class' named named' in
      let tail = same rest rest' r r' in
      let whole : ◌≡◌ {A = List (ℕ × ℕ)} ((x, class) ∷ rest) ((y, class') ∷ rest') =
      λ i. (number i, class_is i) ∷ tail i in
      e ∙ whole ∙ sym e'
  first_one name (OneOf terms) Rest same xs ys r r' = same xs ys r r'

  classes_one : (cs : List Condition) (xs ys : List (ℕ × ℕ)) → AreIn text known cs xs → AreIn text known cs ys
      → xs ≡ ys
  classes_one [] xs ys e e' = e ∙ sym e'
  classes_one (c ∷ cs) xs ys r r' =
      first_one c.variable c.restriction (AreIn text known cs) (λ us vs s t. classes_one cs us vs s t)
      xs ys r r'

  module _ (classes : List (ℕ × ℕ)) where
    side_one : (byte : ℕ) (p q : Tree (PatternCell ReadHead)) → MeansSide notation text known classes byte p
        → MeansSide notation text known classes byte q → p ≡ q
    side_one byte p q (plain, is, e) (plain', is', e') =
        e ∙ ap (map_heads (classed classes)) (pattern_one laws text known once byte plain plain' is is') ∙ sym e'

    choices_one : (r : Restriction) (ps qs : List (Tree (PatternCell ReadHead)))
        → MeanChoices notation text known classes r ps → MeanChoices notation text known classes r qs → ps ≡ qs
    choices_one (InClass name) ps qs e e' = e ∙ sym e'
    choices_one (OneOf terms) ps qs r r' =
        related_one (MeansSide notation text known classes) side_one terms ps qs r r'

    qualifier_one : (c : Condition) (p q : ReadQualifier) → MeansQualifier notation text known classes c p
        → MeansQualifier notation text known classes c q → p ≡ q
    qualifier_one c p q m m' =
        let variable = variable_one c.variable p.variable q.variable m.variable m'.variable in
        let choices = choices_one c.restriction p.choices q.choices m.choices m'.choices in
        let byte = m.place ∙ sym m'.place in
        λ i. record { variable = variable i; choices = choices i; byte = byte i }

  equation_one : (sides : Sides) (p q : ReadEquation) → MeansEquation notation text known sides p
      → MeansEquation notation text known sides q → p ≡ q
  equation_one sides p q m m' =
      let same = classes_one sides.conditions m'.classes m.classes m'.are_in m.are_in in
      let left = side_one m.classes sides.left p.left q.left m.left
      (subst (λ cs. MeansSide notation text known cs sides.left q.left) same m'.left) in
      let right = side_one m.classes sides.right p.right q.right m.right
      (subst (λ cs. MeansSide notation text known cs sides.right q.right) same m'.right) in
      let qualifiers = related_one (MeansQualifier notation text known m.classes) (qualifier_one m.classes)
      sides.conditions p.qualifiers q.qualifiers m.qualifiers
      (subst (λ cs. AreRelated (MeansQualifier notation text known cs) sides.conditions q.qualifiers) same
      m'.qualifiers) in
      let byte = m.place ∙ sym m'.place in
      λ i. record { left = left i; right = right i; qualifiers = qualifiers i; byte = byte i }

  class_one : (number : ℕ) (name : Token) (n m : ReadNumbered) → MeansOperation text known number name n
      → MeansOperation text known number name m → n ≡ m
  class_one number name n m (op, named, e) (op', named', e') =
      let same = one_operation (token_bytes text name) op op' named named' in
      e ∙ ap (λ o. record { item = Class o name.from; number = number }) same ∙ sym e'

  item_one : (number : ℕ) (i : EquationItem) (ns ms : List ReadNumbered) → MeansItem notation text known number i ns
      → MeansItem notation text known number i ms → ns ≡ ms
  item_one number (Equates sides) ns ms (p, m, e) (q, m', e') =
      e ∙ ap (λ w. record { item = Equation w; number = number } ∷ []) (equation_one sides p q m m') ∙ sym e'
  item_one number (IncludesOperations include names) ns ms r s =
      related_one (MeansOperation text known number) (class_one number) names ns ms r s

  items_one : (number : ℕ) (is : List EquationItem) (ns ms : List ReadNumbered)
      → MeanItems notation text known number is ns → MeanItems notation text known number is ms → ns ≡ ms
  items_one number [] ns ms e e' = e ∙ sym e'
  items_one number (i ∷ is) ns ms (front, back, e, m, rest) (front', back', e', m', rest') =
      let first = item_one number i front front' m m' in
      let later = items_one (number + 1) is back back' rest rest' in
      let whole : front ++ back ≡ front' ++ back' = λ j. first j ++ later j in
      e ∙ whole ∙ sym e'

module _ {notation : Notation} (laws : IsLawful notation) (text : List ℕ) where
  -- what a text says declares no name twice
  pub says_distinct : (d : ReadDefinitions) → Says notation text d → HasDistinctNames d.names
  says_distinct d s =
      subst HasDistinctNames (sym s.declared) (distinct_names laws text (places_of s.file) s.known s.names).names

  -- a text says one list of definitions
  pub says_one : (one other : ReadDefinitions) → Says notation text one → Says notation text other → one ≡ other
  says_one one other s t =
      let same = one_known laws text t.file s.file t.known s.known t.reads s.reads t.names s.names in
      let names = s.declared ∙ ap (λ (k : Known). k.table) (sym same.1) ∙ sym t.declared in
      let class_names = s.class_names ∙ ap (λ (k : Known). k.class_names) (sym same.1) ∙ sym t.class_names in
      let classes = s.classes ∙ ap (λ (k : Known). read_classes k.table k.classes) (sym same.1) ∙ sym t.classes in
      let variables = s.variables ∙ ap (λ (k : Known). k.variables) (sym same.1) ∙ sym t.variables in
      let once = distinct_names laws text (places_of s.file) s.known s.names in
      let items = items_one laws text s.known once 1 s.file.items
      one.items other.items s.items
      (subst (λ k. MeanItems notation text k 1 s.file.items other.items) same.1
      (subst (λ (f : File). MeanItems notation text t.known 1 f.items other.items) same.0 t.items)) in
      λ i. record { names = names i; class_names = class_names i; classes = classes i; variables = variables i; items = items i }

  -- two readings of a text are one
  pub one_definitions : (one other : Result ReadDefinitions Fault) → IsDefinitions notation text one
      → IsDefinitions notation text other → one ≡ other
  one_definitions (Ok d) (Ok e) s t = ap (λ x. Ok x) (says_one d e s t)
  one_definitions (Ok d) (Err f) s t = absurd (says_no_fault laws text d f s t)
  one_definitions (Err f) (Ok d) s t = absurd (says_no_fault laws text d f t s)
  one_definitions (Err f) (Err g) s t = ap (λ x. Err x) (one_file_fault laws text f g s t)

  -- a right answer is the only one
  pub only_answer : (other : Result ReadDefinitions Fault) (result : Result ReadDefinitions FileError)
      → IsDefinitions notation text other → AnswersRight (IsDefinitions notation text) result → AnswersAs other result
  only_answer other (Ok d) s t = one_definitions other (Ok d) s t
  only_answer other (Err (Refused f)) s t = one_definitions other (Err f) s t
  only_answer other (Err NoMemory) s t = tt
