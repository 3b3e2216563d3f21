-- What a file says keeps what its expansion asks.
use Rattle.std.proofs.Common.{◌≡◌, ℕ, ◌+◌, ◌<◌, ◌≤◌, false, inl, inr, length, List, [], ◌∷◌, ◌++◌, map, Option, Some, None, refl, sym, ap, ◌∙◌, subst, arith, eq-eqb, ⊎_elim}
use Rattle.std.specs.Prelude.{Contains, nat_eq, slice_get}
use Rattle.std.specs.List.{AllByRecursion, IsDistinct, flat_map}
use Rattle.std.proofs.lemmas.Bool.{cases_eq, ne_eqb}
use Rattle.std.proofs.lemmas.List.{length-map}
use Rattle.std.proofs.lemmas.Option.{slice_get_within}
use Rattle.std.proofs.lemmas.List.Elements.{Contains-append_left, Contains-push}
use Rattle.eq_base.specs.Tree.{Tree, Forest, node, empty, grow, count, map_heads, map_all_heads}
use Rattle.eq_base.specs.Pattern.{PatternCell, fixed, variable, restricted}
use Rattle.eq_base.specs.Testing as testing
use Rattle.eq_base.specs.Meeting.{class_number}
use Rattle.eq_base.specs.ReadHead.{ReadHead}
use Rattle.eq_base.specs.declared.meeting.SymbolClass.{SymbolClass}
use Rattle.eq_base.specs.declared.meeting.SymbolClass.TheVariants.{Numerals, Atoms, TruthValues, Strings}
use Rattle.eq_base.specs.declared.head.Head.{Head}
use Rattle.eq_base.specs.declared.rules.Op.{Op}
use Rattle.eq_base.proofs.Lists.{all_front, all_back, all_both, all_map}
use Rattle.term_lex.specs.declared.token.Token.{Token}
use Rattle.term_lex.specs.Lexemes.{Lexeme}
use Rattle.symbol_table.specs.Table.{Table}
use Rattle.symbol_table.specs.Reading.{read_head, read_classes}
use Rattle.written_terms.specs.Notation.{Notation}
use Rattle.written_terms.proofs.Notations.{IsLawful}
use Rattle.written_terms.specs.Meaning.{MeansTree, MeanTrees}
use Rattle.def_file.specs.Operations.{operation_name, HasNeeds}
use Rattle.def_file.specs.AsRead.{ReadQualifier, ReadEquation, ReadNumbered, ReadDefinitions}
use Rattle.def_file.specs.Trees.{Restriction, InClass, OneOf, Condition, Sides, EquationItem, Equates, IncludesOperations}
use Rattle.def_file.specs.Pairs.{AreRelated}
use Rattle.def_file.specs.Names.{Place, Symbol, NewClass, Member, Variable, Term, Qualified, ClassOf, Operation, Known, nothing_known, token_bytes, Takes, TakesAll, symbol_places, listed_places, restriction_places, condition_places, item_places, places_of}
use Rattle.def_file.specs.Names as names
use Rattle.def_file.specs.Definitions.{class_of, restricted_to, classed, NamesClass, NamesVariable, IsFirstIn, AreIn, MeansSide, MeanChoices, MeansQualifier, MeansEquation, MeansOperation, MeansItem, MeanItems, Says}
use Rattle.def_file.proofs.OneNaming.{one_operation}
use Rattle.def_file.proofs.OneAnswer.{says_distinct}
use Rattle.def_file.proofs.FilledClasses.{file_filled}
use Rattle.qualifiers.specs.Instances.{parts_of}
use Rattle.qualifiers.specs.Classes.{HasClasses, HaveClasses, IsFree, IsProper, IsProperItem, AreAscending, AreProper}
use Rattle.qualifiers.proofs.Members.{contains_none, contains_cases, map_contains, contains_map, all_of}
use Rattle.qualifiers.proofs.Theorem.{related_from}
use Rattle.qualifiers.proofs.MeantParts.{parts_have}

-- ---- patterns, whose variables stand with their classes

no_trees : {A : Type 0} (ps : Forest A) → count ps ≡ 0 → ps ≡ empty
no_trees empty is = refl
no_trees (grow p ps) is = absurd (omega arith)

-- how many trees an outline has is how many patterns it means
counts : (table : Table) (variables : List (List ℕ)) (ts : Forest Lexeme) (ps : Forest (PatternCell ReadHead)) → MeanTrees table variables ts ps → count ts ≡ count ps
counts table variables empty empty means = refl
counts table variables empty (grow p ps) means = absurd means
counts table variables (grow t ts) empty means = absurd means
counts table variables (grow t ts) (grow p ps) means = omega (arith, counts table variables ts ps means.1)

module _ (classes : List (ℕ × ℕ)) where
  abbrev in_classes : Tree (PatternCell ReadHead) → Tree (PatternCell ReadHead)
  in_classes p = map_heads (classed classes) p

  -- a variable in its class, if it has one
  variable_pattern : (x : ℕ) (o : Option ℕ) → testing.IsPattern (node (restricted_to {H = ReadHead} x o) empty)
  variable_pattern x (Some class) = refl
  variable_pattern x None = refl

  variable_classes : (x : ℕ) (o : Option ℕ) → class_of classes x ≡ o → HasClasses (class_of classes) (node (restricted_to {H = ReadHead} x o) empty)
  variable_classes x (Some class) is = is
  variable_classes x None is = is

  module _ (table : Table) (variables : List (List ℕ)) where
    mutual
      means_pattern : (t : Tree Lexeme) (p : Tree (PatternCell ReadHead)) → MeansTree table variables t p → testing.IsPattern (in_classes p) × HasClasses (class_of classes) (in_classes p)
      means_pattern (node x args) (node (fixed h) ps) means = mean_patterns args ps means.1
      means_pattern (node x args) (node (variable v) ps) means =
          let none : ps ≡ empty = no_trees ps (sym (counts table variables args ps means.1) ∙ means.0.2) in
          subst (λ qs. testing.IsPattern (in_classes (node (variable v) qs)) × HasClasses (class_of classes) (in_classes (node (variable v) qs))) (sym none)
          (variable_pattern v (class_of classes v), variable_classes v (class_of classes v) refl)
      means_pattern (node x args) (node (restricted v class) ps) means = absurd means.0

      mean_patterns : (ts : Forest Lexeme) (ps : Forest (PatternCell ReadHead)) → MeanTrees table variables ts ps → testing.ArePatterns (map_all_heads (classed classes) ps) × HaveClasses (class_of classes) (map_all_heads (classed classes) ps)
      mean_patterns empty empty means = (tt, tt)
      mean_patterns empty (grow p ps) means = absurd means
      mean_patterns (grow t ts) empty means = absurd means
      mean_patterns (grow t ts) (grow p ps) means =
          let first = means_pattern t p means.0 in
          let later = mean_patterns ts ps means.1 in
          ((first.0, later.0), (first.1, later.1))

-- ---- what the places of items tell

module _ (text : List ℕ) (table : Table) where
  -- the place is one of an item, and what stands there is as it is taken
  abbrev Tells : Place → Type 0
  Tells (Symbol name arity) = ⊥
  Tells (names.Class name) = ⊥
  Tells (NewClass name) = ⊥
  Tells (Member class member) = ⊥
  Tells (Variable name) = ⊥
  Tells (Term byte) = Unit {0}
  Tells (Qualified before name) = ¬ Contains (map (token_bytes text) before) (token_bytes text name)
  Tells (ClassOf name) = Unit {0}
  Tells (Operation name) = (op : Op) × (token_bytes text name ≡ operation_name op) × HasNeeds table op

-- the place is one of an item
abbrev IsItemPlace : Place → Type 0
IsItemPlace (Symbol name arity) = ⊥
IsItemPlace (names.Class name) = ⊥
IsItemPlace (NewClass name) = ⊥
IsItemPlace (Member class member) = ⊥
IsItemPlace (Variable name) = ⊥
IsItemPlace (Term byte) = Unit {0}
IsItemPlace (Qualified before name) = Unit {0}
IsItemPlace (ClassOf name) = Unit {0}
IsItemPlace (Operation name) = Unit {0}

terms_are : (bytes : List ℕ) → AllByRecursion IsItemPlace (map Term bytes)
terms_are [] = tt
terms_are (b ∷ bytes) = (tt, terms_are bytes)

restriction_is : (r : Restriction) → AllByRecursion IsItemPlace (restriction_places r)
restriction_is (InClass name) = (tt, tt)
restriction_is (OneOf terms) = terms_are terms

conditions_are : (before : List Token) (cs : List Condition) → AllByRecursion IsItemPlace (condition_places before cs)
conditions_are before [] = tt
conditions_are before (c ∷ cs) =
    (tt, all_both IsItemPlace (restriction_places c.restriction) (condition_places (before ++ c.variable ∷ []) cs) (restriction_is c.restriction) (conditions_are (before ++ c.variable ∷ []) cs))

operations_are : (names : List Token) → AllByRecursion IsItemPlace (map Operation names)
operations_are [] = tt
operations_are (n ∷ ns) = (tt, operations_are ns)

item_is : (i : EquationItem) → AllByRecursion IsItemPlace (item_places i)
item_is (Equates sides) = (tt, (tt, conditions_are [] sides.conditions))
item_is (IncludesOperations include names) = operations_are names

items_are : (is : List EquationItem) → AllByRecursion IsItemPlace (flat_map item_places is)
items_are [] = tt
items_are (i ∷ is) = all_both IsItemPlace (item_places i) (flat_map item_places is) (item_is i) (items_are is)

module _ (notation : Notation) (text : List ℕ) where
  takes_split : (xs ys : List Place) (old new : Known) → TakesAll notation text old (xs ++ ys) new → (mid : Known) × TakesAll notation text mid ys new
  takes_split [] ys old new all = (old, all)
  takes_split (x ∷ xs) ys old new (next, t, all) = takes_split xs ys next new all

  -- at the places of items the table stays
  told : (p : Place) (old new : Known) → IsItemPlace p → Takes notation text old p new → (new.table ≡ old.table) × Tells text old.table p
  told (Symbol name arity) old new is takes = absurd is
  told (names.Class name) old new is takes = absurd is
  told (NewClass name) old new is takes = absurd is
  told (Member class member) old new is takes = absurd is
  told (Variable name) old new is takes = absurd is
  told (Term byte) old new is (pattern, end, reads, e) = (ap (λ (k : Known). k.table) e, tt)
  told (Qualified before name) old new is (has, fresh, e) = (ap (λ (k : Known). k.table) e, fresh)
  told (ClassOf name) old new is (has, e) = (ap (λ (k : Known). k.table) e, tt)
  told (Operation name) old new is (op, named, fresh, needs, e) = (ap (λ (k : Known). k.table) e, (op, named, needs))

  all_told : (ps : List Place) (old new : Known) → AllByRecursion IsItemPlace ps → TakesAll notation text old ps new → (new.table ≡ old.table) × AllByRecursion (Tells text new.table) ps
  all_told [] old new are e = (ap (λ (k : Known). k.table) e, tt)
  all_told (p ∷ ps) old new are (next, takes, all) =
      let (kept, tells) = told p old next are.0 takes in
      let (later, rest) = all_told ps next new are.1 all in
      (later ∙ kept, (subst (λ table. Tells text table p) (sym (later ∙ kept)) tells, rest))

-- ---- the numbers of items

module _ (notation : Notation) (text : List ℕ) (known : Known) where
  abbrev number_of : ReadNumbered → ℕ
  number_of n = n.number

  named_numbers : (number : ℕ) (names : List Token) (ns : List ReadNumbered) → AreRelated (MeansOperation text known number) names ns → AllByRecursion (λ (n : ReadNumbered). n.number ≡ number) ns
  named_numbers number [] [] h = tt
  named_numbers number [] (n ∷ ns) h = absurd h
  named_numbers number (name ∷ names) [] h = absurd h
  named_numbers number (name ∷ names) (n ∷ ns) ((op, named, e), h) = (ap number_of e, named_numbers number names ns h)

  item_numbers : (number : ℕ) (i : EquationItem) (ns : List ReadNumbered) → MeansItem notation text known number i ns → AllByRecursion (λ (n : ReadNumbered). n.number ≡ number) ns
  item_numbers number (Equates sides) ns (w, means, e) = subst (AllByRecursion (λ (n : ReadNumbered). n.number ≡ number)) (sym e) (refl, tt)
  item_numbers number (IncludesOperations include names) ns means = named_numbers number names ns means

  -- numbers that are this one, before greater ones
  numbers_before : (number : ℕ) (front back : List ReadNumbered) → AllByRecursion (λ (n : ReadNumbered). n.number ≡ number) front → AllByRecursion (λ m. number ≤ m) (map number_of back) → AreAscending (map number_of back) → AllByRecursion (λ m. number ≤ m) (map number_of (front ++ back)) × AreAscending (map number_of (front ++ back))
  numbers_before number [] back same above up = (above, up)
  numbers_before number (n ∷ front) back same above up =
      let (all, rest) = numbers_before number front back same.1 above up in
      ((omega (arith, same.0), all), (subst (λ m. AllByRecursion (λ k. m ≤ k) (map number_of (front ++ back))) (sym same.0) all, rest))

  lower : (number : ℕ) (ns : List ℕ) → AllByRecursion (λ m. number + 1 ≤ m) ns → AllByRecursion (λ m. number ≤ m) ns
  lower number [] all = tt
  lower number (n ∷ ns) all = (let first = all.0 in omega arith, lower number ns all.1)

  numbers_ascend : (number : ℕ) (is : List EquationItem) (ns : List ReadNumbered) → MeanItems notation text known number is ns → AllByRecursion (λ m. number ≤ m) (map number_of ns) × AreAscending (map number_of ns)
  numbers_ascend number [] ns e = subst (λ l. AllByRecursion (λ m. number ≤ m) (map number_of l) × AreAscending (map number_of l)) (sym e) (tt, tt)
  numbers_ascend number (i ∷ is) ns (front, back, split, here, rest) =
      let (above, up) = numbers_ascend (number + 1) is back rest in
      subst (λ l. AllByRecursion (λ m. number ≤ m) (map number_of l) × AreAscending (map number_of l)) (sym split)
      (numbers_before number front back (item_numbers number i front here) (lower number (map number_of back) above) up)

-- ---- the conditions of an equation

module _ (notation : Notation) (text : List ℕ) (known : Known) where
  abbrev bytes_of : Condition → List ℕ
  bytes_of c = token_bytes text c.variable

  -- no name stands before `is` twice, nor where it stood before
  abbrev AreApart : List Token → List Condition → Type 0
  AreApart before cs = AllByRecursion (Tells text known.table) (condition_places before cs)

  apart_later : (before : List Token) (c : Condition) (cs : List Condition) → AreApart before (c ∷ cs) → AreApart (before ++ c.variable ∷ []) cs
  apart_later before c cs apart =
      all_back (Tells text known.table) (restriction_places c.restriction) (condition_places (before ++ c.variable ∷ []) cs) apart.1

  later_not : (cs : List Condition) (before : List Token) (name : Token) (c : Condition) → Contains before name → Contains cs c → AreApart before cs → token_bytes text name ≡ bytes_of c → ⊥
  later_not [] before name c stood listed apart same = contains_none c listed
  later_not (c' ∷ cs) before name c stood listed apart same =
      ⊎_elim
      (λ first. apart.0 (subst (Contains (map (token_bytes text) before)) (same ∙ sym (ap bytes_of first)) (contains_map (token_bytes text) before name stood)))
      (λ later. later_not cs (before ++ c'.variable ∷ []) name c (Contains-append_left before (c'.variable ∷ []) name stood) later (apart_later before c' cs apart) same)
      (contains_cases c' cs c listed)

  -- a condition is known by its name
  condition_one : (cs : List Condition) (before : List Token) (c c' : Condition) → AreApart before cs → Contains cs c → Contains cs c' → bytes_of c ≡ bytes_of c' → c ≡ c'
  condition_one [] before c c' apart listed listed' same = absurd (contains_none c listed)
  condition_one (d ∷ cs) before c c' apart listed listed' same =
      let behind = apart_later before d cs apart in
      let stands = Contains-push before d.variable in
      ⊎_elim
      (λ first. ⊎_elim
      (λ first'. sym first ∙ first')
      (λ later'. absurd (later_not cs (before ++ d.variable ∷ []) d.variable c' stands later' behind (ap bytes_of first ∙ same)))
      (contains_cases d cs c' listed'))
      (λ later. ⊎_elim
      (λ first'. absurd (later_not cs (before ++ d.variable ∷ []) d.variable c stands later behind (ap bytes_of first' ∙ sym same)))
      (λ later'. condition_one cs (before ++ d.variable ∷ []) c c' behind later later' same)
      (contains_cases d cs c' listed'))
      (contains_cases d cs c listed)

  -- one variable has one name
  same_name : (name name' : Token) (x y : ℕ) → NamesVariable text known name x → NamesVariable text known name' y → x ≡ y → token_bytes text name ≡ token_bytes text name'
  same_name name name' x y is is' same =
      let e : Some (token_bytes text name) ≡ Some (token_bytes text name') = sym is ∙ ap (slice_get known.variables) same ∙ is' in
      cc

  -- ---- the classes of variables

  abbrev HasOtherName : ℕ → Condition → Type 0
  HasOtherName x c = (name : Token) → c.restriction ≡ InClass name → (y : ℕ) → NamesVariable text known c.variable y → y ≡ x → ⊥

  none_in : (x : ℕ) (cs : List Condition) (classes : List (ℕ × ℕ)) → AreIn text known cs classes → AllByRecursion (HasOtherName x) cs → class_of classes x ≡ None
  none_in x [] classes e other = ap (λ l. class_of l x) e
  none_in x (c ∷ cs) classes are other = by_restriction c.restriction refl are (λ l h. none_in x cs l h other.1)
    where
      by_restriction : (r : Restriction) → c.restriction ≡ r → IsFirstIn text known c.variable r (λ rest. AreIn text known cs rest) classes → ((l : List (ℕ × ℕ)) → AreIn text known cs l → class_of l x ≡ None) → class_of classes x ≡ None
      by_restriction (InClass name) is (y, class, rest, named, spelled, e, later) ih =
          ap (λ l. class_of l x) e ∙ rw (ne_eqb y x (other.0 name is y named)) (ih rest later)
      by_restriction (OneOf terms) is later ih = ih classes later

  class_small : (class : SymbolClass) → class_number class < 4
  class_small Numerals = omega arith
  class_small Atoms = omega arith
  class_small TruthValues = omega arith
  class_small Strings = omega arith

  -- a class that has a name is a symbol class or one of the file
  named_known : (name : List ℕ) (class : ℕ) → NamesClass known.class_names name class → class < 4 + length known.class_names
  named_known name class (inl (symbol_class, named, is)) = let small = class_small symbol_class in omega (arith, is, small)
  named_known name class (inr (place, there, is)) = let within = slice_get_within known.class_names place name there in omega (arith, is, within)

  known_in : (cs : List Condition) (classes : List (ℕ × ℕ)) → AreIn text known cs classes → (x class : ℕ) → class_of classes x ≡ Some class → class < 4 + length known.class_names
  known_in [] classes e x class has = let none : class_of classes x ≡ None = ap (λ l. class_of l x) e in cc
  known_in (c ∷ cs) classes are x class has = by_restriction c.restriction are (λ l h. known_in cs l h x class)
    where
      by_restriction : (r : Restriction) → IsFirstIn text known c.variable r (λ rest. AreIn text known cs rest) classes → ((l : List (ℕ × ℕ)) → AreIn text known cs l → class_of l x ≡ Some class → class < 4 + length known.class_names) → class < 4 + length known.class_names
      by_restriction (InClass name) (y, number, rest, named, spelled, e, later) ih =
          let whole : class_of ((y, number) ∷ rest) x ≡ Some class = ap (λ l. class_of l x) (sym e) ∙ has in
          ⊎_elim
          (λ same.
          let first : class_of ((y, number) ∷ rest) x ≡ Some number = rw (eq-eqb y x same) refl in
          let one : number ≡ class = cc in
          subst (λ n. n < 4 + length known.class_names) one (named_known (token_bytes text name) number spelled))
          (λ apart. let skipped : class_of ((y, number) ∷ rest) x ≡ class_of rest x = rw (ne_eqb y x apart) refl in ih rest later (sym skipped ∙ whole))
          (cases_eq y x)
      by_restriction (OneOf terms) later ih = ih classes later has

  -- ---- an equation

  module _ (classes : List (ℕ × ℕ)) where
    abbrev Means : Condition → ReadQualifier → Type 0
    Means c q = MeansQualifier notation text known classes c q

    abbrev IsWell : Tree (PatternCell ReadHead) → Type 0
    IsWell p = testing.IsPattern p × HasClasses (class_of classes) p

    side_well : (byte : ℕ) (p : Tree (PatternCell ReadHead)) → MeansSide notation text known classes byte p → IsWell p
    side_well byte p (plain, (end, reads), e) = subst IsWell (sym e) (means_pattern classes known.table known.variables _ plain reads.means)

    variables_distinct : (cs : List Condition) (qs : List ReadQualifier) (before : List Token) → AreApart before cs → AreRelated Means cs qs → IsDistinct nat_eq (map (λ (q : ReadQualifier). q.variable) qs)
    unfolding IsDistinct
    variables_distinct [] [] before apart h = tt
    variables_distinct [] (q ∷ qs) before apart h = absurd h
    variables_distinct (c ∷ cs) [] before apart h = absurd h
    variables_distinct (c ∷ cs) (q ∷ qs) before apart (m, h) = (
      all_of (λ y. nat_eq q.variable y ≡ false) (map (λ (r : ReadQualifier). r.variable) qs)
          (λ y listed.
          let (r, in_qs, is) = map_contains (λ (r : ReadQualifier). r.variable) qs y listed in
          let (c', in_cs, m') = related_from Means cs qs h r in_qs in
          ne_eqb q.variable y (λ same. later_not cs (before ++ c.variable ∷ []) c.variable c' (Contains-push before c.variable) in_cs (apart_later before c cs apart) (same_name c.variable c'.variable q.variable r.variable m.variable m'.variable (same ∙ sym is)))),
      variables_distinct cs qs (before ++ c.variable ∷ []) (apart_later before c cs apart) h,
    )

    module _ (cs : List Condition) (apart : AreApart [] cs) (are : AreIn text known cs classes) where
      free_by : (x : ℕ) (ps : List (Tree (PatternCell ReadHead))) → class_of classes x ≡ None → IsFree (class_of classes) x ps
      free_by x [] none = tt
      free_by x (p ∷ ps) none = none

      free_one : (c : Condition) → Contains cs c → (q : ReadQualifier) → Means c q → IsFree (class_of classes) q.variable q.choices
      free_one c listed q m = by_restriction c.restriction refl m.choices
        where
          by_restriction : (r : Restriction) → c.restriction ≡ r → MeanChoices notation text known classes r q.choices → IsFree (class_of classes) q.variable q.choices
          by_restriction (InClass name) is e = subst (IsFree (class_of classes) q.variable) (sym e) tt
          by_restriction (OneOf terms) is h =
              free_by q.variable q.choices
              (none_in q.variable cs classes are
              (all_of (HasOtherName q.variable) cs
              (λ c' listed' name in_class y named same.
              let one : c ≡ c' = condition_one cs [] c c' apart listed listed' (same_name c.variable c'.variable q.variable y m.variable named (sym same)) in
              let both : OneOf terms ≡ InClass name = sym is ∙ ap (λ (d : Condition). d.restriction) one ∙ in_class in
              cc)))

      all_free : (qs : List ReadQualifier) → AreRelated Means cs qs → AllByRecursion (λ (q : ReadQualifier). IsFree (class_of classes) q.variable q.choices) qs
      all_free qs h =
          all_of (λ (q : ReadQualifier). IsFree (class_of classes) q.variable q.choices) qs
          (λ q listed. let (c, in_cs, m) = related_from Means cs qs h q listed in free_one c in_cs q m)

  equation_proper : (sides : Sides) (w : ReadEquation) → AreApart [] sides.conditions → MeansEquation notation text known sides w → IsProper (length known.class_names) w
  equation_proper sides w apart m =
      let well : AllByRecursion (IsWell m.classes) (parts_of w) = parts_have notation text known sides w m (IsWell m.classes) (side_well m.classes) in
      record {
        distinct = variables_distinct m.classes sides.conditions w.qualifiers [] apart m.qualifiers;
        patterns = all_map (IsWell m.classes) testing.IsPattern (parts_of w) (λ p is. is.0) well;
        class_of = class_of m.classes;
        classes = all_map (IsWell m.classes) (HasClasses (class_of m.classes)) (parts_of w) (λ p is. is.1) well;
        free = all_free m.classes sides.conditions apart m.are_in w.qualifiers m.qualifiers;
        known = known_in sides.conditions m.classes m.are_in;
      }

  -- ---- one item after another

  abbrev IsProperOne : ReadNumbered → Type 0
  IsProperOne n = IsProperItem (length known.class_names) known.table n.item

  operations_proper : (number : ℕ) (names : List Token) (ns : List ReadNumbered) → AreRelated (MeansOperation text known number) names ns → AllByRecursion (Tells text known.table) (map Operation names) → AllByRecursion IsProperOne ns
  operations_proper number [] [] h told = tt
  operations_proper number [] (n ∷ ns) h told = absurd h
  operations_proper number (name ∷ names) [] h told = absurd h
  operations_proper number (name ∷ names) (n ∷ ns) ((op, named, e), h) ((op', named', needs), told) = (
    subst IsProperOne (sym e) (subst (HasNeeds known.table) (one_operation (token_bytes text name) op' op named' named) needs),
    operations_proper number names ns h told,
  )

  item_proper : (number : ℕ) (i : EquationItem) (ns : List ReadNumbered) → MeansItem notation text known number i ns → AllByRecursion (Tells text known.table) (item_places i) → AllByRecursion IsProperOne ns
  item_proper number (Equates sides) ns (w, means, e) told =
      let proper : IsProper (length known.class_names) w = equation_proper sides w told.1.1 means in
      subst (AllByRecursion IsProperOne) (sym e) (proper, tt)
  item_proper number (IncludesOperations include names) ns means told = operations_proper number names ns means told

  items_proper : (number : ℕ) (is : List EquationItem) (ns : List ReadNumbered) → MeanItems notation text known number is ns → AllByRecursion (Tells text known.table) (flat_map item_places is) → AllByRecursion IsProperOne ns
  items_proper number [] ns e told = subst (AllByRecursion IsProperOne) (sym e) tt
  items_proper number (i ∷ is) ns (front, back, split, here, rest) told =
      subst (AllByRecursion IsProperOne) (sym split)
      (all_both IsProperOne front back
      (item_proper number i front here (all_front (Tells text known.table) (item_places i) (flat_map item_places is) told))
      (items_proper (number + 1) is back rest (all_back (Tells text known.table) (item_places i) (flat_map item_places is) told)))

filled_read : (table : Table) (classes : List (List Head)) → AllByRecursion (λ (members : List Head). 0 < length members) classes → AllByRecursion (λ (members : List ReadHead). 0 < length members) (read_classes table classes)
filled_read table [] all = tt
filled_read table (members ∷ classes) all = (subst (λ n. 0 < n) (sym (length-map members (read_head table))) all.0, filled_read table classes all.1)

-- what a text says is proper
pub says_proper : {notation : Notation} (laws : IsLawful notation) (text : List ℕ) (d : ReadDefinitions) → Says notation text d → AreProper d
says_proper {notation = notation} laws text d s =
    let before = flat_map symbol_places s.file.symbols ++ listed_places s.file in
    let behind = flat_map item_places s.file.items in
    let (mid, takes) = takes_split notation text before behind nothing_known s.known s.names in
    let told = (all_told notation text behind mid s.known (items_are s.file.items) takes).1 in
    let filled = file_filled notation text s.file s.known s.reads s.names in
    let count : length s.known.class_names ≡ length d.classes = filled.named ∙ sym (ap length s.classes ∙ length-map s.known.classes (λ (members : List Head). map (read_head s.known.table) members)) in
    record {
      names = says_distinct laws text d s;
      filled = subst (AllByRecursion (λ (members : List ReadHead). 0 < length members)) (sym s.classes) (filled_read s.known.table s.known.classes filled.filled);
      items = subst (λ n. AllByRecursion (λ (m : ReadNumbered). IsProperItem n d.names m.item) d.items) count
          (subst (λ (table : Table). AllByRecursion (λ (n : ReadNumbered). IsProperItem (length s.known.class_names) table n.item) d.items) (sym s.declared) (items_proper notation text s.known 1 s.file.items d.items s.items told));
      numbers = (numbers_ascend notation text s.known 1 s.file.items d.items s.items).1;
    }
