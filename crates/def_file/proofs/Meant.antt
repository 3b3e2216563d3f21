-- From conditions and equations that are taken to what they mean, and from one item to all.
use Rattle.std.proofs.Common.{◌≡◌, ℕ, ◌+◌, ◌≤◌, List, [], ◌∷◌, ◌++◌, length, map, refl, sym, ap, ◌∙◌, subst, arith, append_assoc, append-nil, Option, Some, None}
use Rattle.std.proofs.lemmas.List.{length-append, map-append}
use Rattle.std.specs.List.{flat_map}
use Rattle.std.specs.List.{AllByRecursion}
use Rattle.eq_base.specs.Tree.{Tree, Forest, node, empty, grow, map_heads, map_all_heads, AllHeadsIn}
use Rattle.eq_base.specs.Pattern.{PatternCell, fixed, variable, restricted}
use Rattle.eq_base.specs.Mapping.{map_cell, map_pattern}
use Rattle.eq_base.proofs.Lists.{all_both}
use Rattle.eq_base.specs.declared.head.Head.{Head}
use Rattle.eq_base.specs.declared.rules.Op.{Op}
use Rattle.term_lex.specs.declared.token.Token.{Token}
use Rattle.symbol_table.specs.Table.{Table}
use Rattle.symbol_table.specs.Reading.{read_pattern, IsLivePattern, IsLiveCell}
use Rattle.written_terms.specs.Notation.{Notation}
use Rattle.def_file.specs.declared.naming.conditions.Choice.{Choice}
use Rattle.def_file.specs.declared.naming.conditions.Choice.TheVariants as choice
use Rattle.def_file.specs.declared.naming.conditions.TakenCondition.{TakenCondition}
use Rattle.def_file.specs.declared.naming.items.TakenEquation.{TakenEquation}
use Rattle.def_file.specs.declared.definitions.Numbered.{Numbered}
use Rattle.def_file.specs.declared.naming.items.TakenItem.{TakenItem}
use Rattle.def_file.specs.declared.naming.items.TakenItem.TheVariants as taking
use Rattle.def_file.specs.declared.definitions.Item.TheVariants as item
use Rattle.def_file.specs.declared.definitions.Qualifier.{Qualifier}
use Rattle.term_lex.specs.declared.fault.Fault.{Fault}
use Rattle.def_file.specs.Pairs.{AreRelated}
use Rattle.def_file.specs.Trees.{Restriction, InClass, OneOf, Condition, Sides, EquationItem, Equates, IncludesOperations}
use Rattle.def_file.specs.Names.{Known, token_bytes}
use Rattle.def_file.specs.Operations.{operation_name}
use Rattle.def_file.specs.Sides.{limits_of, all_limits, equation_of, AnswersLimits}
use Rattle.def_file.specs.Definitions.{class_of, restricted_to, classed, NamesVariable, IsFirstIn, AreIn, MeansSide, MeanChoices, MeansQualifier, MeansEquation, MeansOperation, MeansItem, MeanItems}
use Rattle.def_file.specs.Taking.{IsSideTaken, TakesChoice, TakesCondition, TakesEquation, class_in, classes_in, choices_of, qualifier_of, written_of, class_item, TakesItem, items_behind, equations_behind, fault_behind, first_fault}
use Rattle.def_file.specs.AsRead.{ReadNumbered, qualifier_read, equation_read, numbered_read, IsLiveWritten, AreLiveItems}
use Rattle.def_file.proofs.Pairs.{related_map, flat_append}
use Rattle.def_file.proofs.Limits.{answers_append}

-- ---- variables in classes, as they are read

module _ {G H : Type 0} (f : G → H) (classes : List (ℕ × ℕ)) where
  restricted-map : (x : ℕ) (class : Option ℕ) → map_cell f (restricted_to x class) ≡ restricted_to x class
  restricted-map x (Some class) = refl
  restricted-map x None = refl

  cell-classed : (c : PatternCell G) → map_cell f (classed classes c) ≡ classed classes (map_cell f c)
  cell-classed (fixed h) = refl
  cell-classed (variable x) = restricted-map x (class_of classes x)
  cell-classed (restricted x class) = refl

  mutual
    -- variables may be put in their classes before the heads are read, or after
    pattern-classed : (p : Tree (PatternCell G)) → map_pattern f (map_heads (classed classes) p) ≡ map_heads (classed classes) (map_pattern f p)
    pattern-classed (node c ps) = rw (cell-classed c, patterns-classed ps) refl

    patterns-classed : (ps : Forest (PatternCell G)) → map_all_heads (map_cell f) (map_all_heads (classed classes) ps) ≡ map_all_heads (classed classes) (map_all_heads (map_cell f) ps)
    patterns-classed empty = refl
    patterns-classed (grow p ps) = rw (pattern-classed p, patterns-classed ps) refl

module _ (table : Table) (classes : List (ℕ × ℕ)) where
  live_restricted : (x : ℕ) (class : Option ℕ) → IsLiveCell table (restricted_to x class)
  live_restricted x (Some class) = tt
  live_restricted x None = tt

  live_cell : (c : PatternCell Head) → IsLiveCell table c → IsLiveCell table (classed classes c)
  live_cell (fixed h) live = live
  live_cell (variable x) live = live_restricted x (class_of classes x)
  live_cell (restricted x class) live = live

  mutual
    live_classed : (p : Tree (PatternCell Head)) → IsLivePattern table p → IsLivePattern table (map_heads (classed classes) p)
    live_classed (node c ps) live = (live_cell c live.0, live_all_classed ps live.1)

    live_all_classed : (ps : Forest (PatternCell Head)) → AllHeadsIn (IsLiveCell table) ps → AllHeadsIn (IsLiveCell table) (map_all_heads (classed classes) ps)
    live_all_classed empty live = tt
    live_all_classed (grow p ps) live = (live_classed p live.0, live_all_classed ps live.1)

-- ---- conditions and equations

module _ (notation : Notation) (text : List ℕ) (known : Known) (table : Table) where
  abbrev Taken : Condition → TakenCondition → Type 0
  Taken c t = TakesCondition notation text known table c.variable c.restriction t

  -- the class of the first condition, and those of the rest
  first_in : (name : Token) (r : Restriction) (x : ℕ) (t : Choice) → NamesVariable text known name x → TakesChoice notation text known table r t → (Rest : List (ℕ × ℕ) → Type 0) → (rest : List (ℕ × ℕ)) → Rest rest → IsFirstIn text known name r Rest (class_in x t ++ rest)
  first_in name (InClass class) x (choice.InClass k) named h Rest rest r = (x, k, rest, named, h, refl, r)
  first_in name (OneOf terms) x (choice.OneOf patterns) named h Rest rest r = r
  first_in name (InClass class) x (choice.OneOf patterns) named h Rest rest r = absurd h
  first_in name (OneOf terms) x (choice.InClass k) named h Rest rest r = absurd h

  -- the classes of conditions are those of their variables
  are_in : (cs : List Condition) (ts : List TakenCondition) → AreRelated Taken cs ts → AreIn text known cs (classes_in ts)
  are_in [] [] h = refl
  are_in [] (t ∷ ts) h = absurd h
  are_in (c ∷ cs) [] h = absurd h
  are_in (c ∷ cs) (t ∷ ts) (h, hs) = first_in c.variable c.restriction t.variable t.choice h.variable h.choice (λ rest. AreIn text known cs rest) (classes_in ts) (are_in cs ts hs)

  module _ (classes : List (ℕ × ℕ)) where
    side : (byte : ℕ) (p : Tree (PatternCell Head)) → IsSideTaken notation text known table byte p → MeansSide notation text known classes byte (read_pattern table (map_heads (classed classes) p))
    side byte p is = (read_pattern table p, is.means, pattern-classed _ classes p)

    choices : (r : Restriction) (t : Choice) → TakesChoice notation text known table r t → MeanChoices notation text known classes r (map (read_pattern table) (choices_of classes t))
    choices (InClass name) (choice.InClass k) h = refl
    choices (OneOf terms) (choice.OneOf patterns) h =
        related_map (λ byte q. MeansSide notation text known classes byte (read_pattern table q)) (MeansSide notation text known classes) (read_pattern table) (λ byte q m. m) terms _
        (related_map (IsSideTaken notation text known table) (λ byte q. MeansSide notation text known classes byte (read_pattern table q)) (map_heads (classed classes)) side terms patterns.items h)
    choices (InClass name) (choice.OneOf patterns) h = absurd h
    choices (OneOf terms) (choice.InClass k) h = absurd h

    qualifier : (c : Condition) (t : TakenCondition) → Taken c t → MeansQualifier notation text known classes c (qualifier_read table (qualifier_of classes t))
    qualifier c t h = record { variable = h.variable; choices = choices c.restriction t.choice h.choice; place = h.place }

    live_patterns : (terms : List ℕ) (ps : List (Tree (PatternCell Head))) → AreRelated (IsSideTaken notation text known table) terms ps → AllByRecursion (IsLivePattern table) (map (map_heads (classed classes)) ps)
    live_patterns [] [] h = tt
    live_patterns [] (p ∷ ps) h = absurd h
    live_patterns (x ∷ xs) [] h = absurd h
    live_patterns (x ∷ xs) (p ∷ ps) (h, hs) = (live_classed table classes p h.live, live_patterns xs ps hs)

    live_choices : (r : Restriction) (t : Choice) → TakesChoice notation text known table r t → AllByRecursion (IsLivePattern table) (choices_of classes t)
    live_choices (InClass name) (choice.InClass k) h = tt
    live_choices (OneOf terms) (choice.OneOf patterns) h = live_patterns terms patterns.items h
    live_choices (InClass name) (choice.OneOf patterns) h = absurd h
    live_choices (OneOf terms) (choice.InClass k) h = absurd h

    live_qualifiers : (cs : List Condition) (ts : List TakenCondition) → AreRelated Taken cs ts → AllByRecursion (λ (q : Qualifier). AllByRecursion (IsLivePattern table) q.choices) (map (qualifier_of classes) ts)
    live_qualifiers [] [] h = tt
    live_qualifiers [] (t ∷ ts) h = absurd h
    live_qualifiers (c ∷ cs) [] h = absurd h
    live_qualifiers (c ∷ cs) (t ∷ ts) (h, hs) = (live_choices c.restriction t.choice h.choice, live_qualifiers cs ts hs)

  -- sides that are taken mean the equation whose variables stand with their classes
  pub equation_means : (sides : Sides) (t : TakenEquation) → TakesEquation notation text known table sides t → MeansEquation notation text known sides (equation_read table (written_of sides.left t))
  equation_means sides t h =
      let classes = classes_in t.conditions.items in
      record {
        classes = classes;
        are_in = are_in sides.conditions t.conditions.items h.conditions;
        left = side classes sides.left t.left h.left;
        right = side classes sides.right t.right h.right;
        qualifiers = related_map (λ c q. MeansQualifier notation text known classes c (qualifier_read table q)) (MeansQualifier notation text known classes) (qualifier_read table) (λ c q m. m) sides.conditions _
            (related_map Taken (λ c q. MeansQualifier notation text known classes c (qualifier_read table q)) (qualifier_of classes) (qualifier classes) sides.conditions t.conditions.items h.conditions);
        place = refl;
      }

  pub equation_live : (sides : Sides) (t : TakenEquation) → TakesEquation notation text known table sides t → IsLiveWritten table (written_of sides.left t)
  equation_live sides t h =
      let classes = classes_in t.conditions.items in
      record {
        left = live_classed table classes t.left h.left.live;
        right = live_classed table classes t.right h.right.live;
        choices = live_qualifiers classes sides.conditions t.conditions.items h.conditions;
      }

  -- names that are taken mean the equation classes as items
  pub classes_mean : (number : ℕ) (names : List Token) (operations : List (Op × ℕ)) → AreRelated (λ name o. (token_bytes text name ≡ operation_name o.0) × (o.1 ≡ name.from)) names operations → AreRelated (MeansOperation text known number) names (map (numbered_read table) (map (class_item number) operations))
  classes_mean number [] [] h = tt
  classes_mean number [] (o ∷ os) h = absurd h
  classes_mean number (n ∷ ns) [] h = absurd h
  classes_mean number (n ∷ ns) (o ∷ os) ((named, place), hs) = ((o.0, named, ap (λ b. numbered_read table (class_item number (o.0, b))) place), classes_mean number ns os hs)

-- ---- one item after another

module _ (notation : Notation) (text : List ℕ) (known : Known) where
  -- one item more
  pub items_more : (number : ℕ) (xs : List EquationItem) (x : EquationItem) (front back : List ReadNumbered) → MeanItems notation text known number xs front → MeansItem notation text known (number + length xs) x back → MeanItems notation text known number (xs ++ x ∷ []) (front ++ back)
  items_more number [] x front back h here =
      let same : number + 0 ≡ number = omega arith in
      (back, [], ap (λ l. l ++ back) h ∙ sym (append-nil back), subst (λ n. MeansItem notation text known n x back) same here, refl)
  items_more number (y ∷ ys) x front back (f, b, is, m, ms) here =
      let same : number + length (y ∷ ys) ≡ number + 1 + length ys = omega arith in
      (f, b ++ back, ap (λ l. l ++ back) is ∙ append_assoc f b back, m, items_more (number + 1) ys x b back ms (subst (λ n. MeansItem notation text known n x back) same here))

-- the limits of equations, one after another
pub limits_append : (before : ℕ) (xs ys : List Sides) → all_limits before (xs ++ ys) ≡ all_limits before xs ++ all_limits (before + length xs) ys
limits_append before [] ys = ap (λ n. all_limits n ys) (omega arith)
limits_append before (x ∷ xs) ys =
    let same : before + 1 + length xs ≡ before + length (x ∷ xs) = omega arith in
    ap (λ l. limits_of before x ++ l) (limits_append (before + 1) xs ys ∙ ap (λ n. all_limits (before + 1) xs ++ all_limits n ys) same) ∙ sym (append_assoc (limits_of before x) (all_limits (before + 1) xs) (all_limits (before + length (x ∷ xs)) ys))

-- ---- one item more, as it is taken

-- the items of equation classes have no numbers
live_classes : (table : Table) (number : ℕ) (operations : List (Op × ℕ)) → AreLiveItems table (map (class_item number) operations)
live_classes table number [] = tt
live_classes table number (o ∷ os) = (tt, live_classes table number os)

module _ (notation : Notation) (text : List ℕ) (known : Known) (table : Table) where
  pub item_more : (number before : ℕ) (xs : List EquationItem) (x : EquationItem) (front : List Numbered) (t : TakenItem) → MeanItems notation text known number xs (map (numbered_read table) front) → TakesItem notation text known table before x t → MeanItems notation text known number (xs ++ x ∷ []) (map (numbered_read table) (items_behind (number + length xs) front t))
  item_more number before xs (Equates sides) front (taking.Equates equation fault) m h =
      let last = record { item = item.Equation equation; number = number + length xs } ∷ [] in
      subst (MeanItems notation text known number (xs ++ Equates sides ∷ [])) (sym (map-append (numbered_read table) front last))
      (items_more notation text known number xs (Equates sides) (map (numbered_read table) front) (map (numbered_read table) last) m (equation_read table equation, h.means, refl))
  item_more number before xs (IncludesOperations include names) front (taking.Includes operations) m h =
      let last = map (class_item (number + length xs)) operations.items in
      subst (MeanItems notation text known number (xs ++ IncludesOperations include names ∷ [])) (sym (map-append (numbered_read table) front last))
      (items_more notation text known number xs (IncludesOperations include names) (map (numbered_read table) front) (map (numbered_read table) last) m (classes_mean notation text known table (number + length xs) names operations.items h))
  item_more number before xs (Equates sides) front (taking.Includes operations) m h = absurd h
  item_more number before xs (IncludesOperations include names) front (taking.Equates equation fault) m h = absurd h

  pub live_more : (number before : ℕ) (x : EquationItem) (front : List Numbered) (t : TakenItem) → AreLiveItems table front → TakesItem notation text known table before x t → AreLiveItems table (items_behind number front t)
  live_more number before (Equates sides) front (taking.Equates equation fault) live h = all_both _ front _ live (h.live, tt)
  live_more number before (IncludesOperations include names) front (taking.Includes operations) live h = all_both _ front _ live (live_classes table number operations.items)
  live_more number before (Equates sides) front (taking.Includes operations) live h = absurd h
  live_more number before (IncludesOperations include names) front (taking.Equates equation fault) live h = absurd h

  pub limits_more : (xs : List EquationItem) (x : EquationItem) (found : Option Fault) (t : TakenItem) → AnswersLimits notation text known (all_limits 0 (flat_map equation_of xs)) found → TakesItem notation text known table (length (flat_map equation_of xs)) x t → AnswersLimits notation text known (all_limits 0 (flat_map equation_of (xs ++ x ∷ []))) (fault_behind found t)
  limits_more xs (Equates sides) found (taking.Equates equation fault) a h =
      let before = flat_map equation_of xs in
      let one : all_limits (0 + length before) (sides ∷ []) ≡ limits_of (length before) sides = ap (λ n. all_limits n (sides ∷ [])) (omega arith) ∙ append-nil (limits_of (length before) sides) in
      let all : all_limits 0 (flat_map equation_of (xs ++ Equates sides ∷ [])) ≡ all_limits 0 before ++ limits_of (length before) sides =
      ap (all_limits 0) (flat_append equation_of xs (Equates sides ∷ [])) ∙ limits_append 0 before (sides ∷ []) ∙ ap (λ l. all_limits 0 before ++ l) one in
      subst (λ ls. AnswersLimits notation text known ls (first_fault found fault)) (sym all) (answers_append notation text known (all_limits 0 before) (limits_of (length before) sides) found fault a h.limits)
  limits_more xs (IncludesOperations include names) found (taking.Includes operations) a h =
      subst (λ ss. AnswersLimits notation text known (all_limits 0 ss) found) (sym (flat_append equation_of xs (IncludesOperations include names ∷ []) ∙ append-nil (flat_map equation_of xs))) a
  limits_more xs (Equates sides) found (taking.Includes operations) a h = absurd h
  limits_more xs (IncludesOperations include names) found (taking.Equates equation fault) a h = absurd h

  pub count_more : (before : ℕ) (xs : List EquationItem) (x : EquationItem) (t : TakenItem) → before ≡ length (flat_map equation_of xs) → TakesItem notation text known table before x t → equations_behind before t ≡ length (flat_map equation_of (xs ++ x ∷ []))
  count_more before xs (Equates sides) (taking.Equates equation fault) e h = ap (λ n. n + 1) e ∙ sym (ap length (flat_append equation_of xs (Equates sides ∷ [])) ∙ length-append (flat_map equation_of xs) (sides ∷ []))
  count_more before xs (IncludesOperations include names) (taking.Includes operations) e h = e ∙ sym (ap length (flat_append equation_of xs (IncludesOperations include names ∷ []) ∙ append-nil (flat_map equation_of xs)))
  count_more before xs (Equates sides) (taking.Includes operations) e h = absurd h
  count_more before xs (IncludesOperations include names) (taking.Equates equation fault) e h = absurd h

-- an item is one equation at most
pub few_more : (before : ℕ) (t : TakenItem) → equations_behind before t ≤ before + 1
few_more before (taking.Equates equation fault) = omega arith
few_more before (taking.Includes operations) = omega arith
