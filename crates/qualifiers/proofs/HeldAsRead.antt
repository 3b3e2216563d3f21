-- What the program holds, as its table reads it.
use Rattle.std.proofs.Common.{◌≡◌, ◌<◌, List, [], ◌∷◌, map, length, take, Option, Some, None, Result, Ok, Err, refl, sym, ap, ◌∙◌, subst}
use Rattle.std.specs.Prelude.{slice_get, option_map}
use Rattle.std.specs.List.{AllByRecursion}
use Rattle.std.proofs.lemmas.Simd.{map-map}
use Rattle.std.proofs.lemmas.List.{length-map}
use Rattle.std.proofs.lemmas.Option.{slice_get-map}
use Rattle.eq_base.specs.ReadHead.{ReadHead, symbol}
use Rattle.eq_base.specs.RuleList.{RuleList}
use Rattle.eq_base.specs.declared.head.Head.{Head}
use Rattle.eq_base.specs.declared.head.Head.TheVariants.{Symbol}
use Rattle.eq_base.specs.declared.rules.Equation.{Equation as EquationValue}
use Rattle.symbol_table.specs.Table.{Table, names_of}
use Rattle.symbol_table.specs.Reading.{read_head, read_classes}
use Rattle.def_file.specs.declared.definitions.Qualifier.{Qualifier}
use Rattle.def_file.specs.declared.definitions.Item.{Item}
use Rattle.def_file.specs.declared.definitions.Item.TheVariants as item
use Rattle.def_file.specs.declared.definitions.Numbered.{Numbered}
use Rattle.def_file.specs.declared.definitions.Definitions.{Definitions}
use Rattle.def_file.specs.declared.error.FileError.{FileError}
use Rattle.def_file.specs.declared.error.FileError.TheVariants.{Refused, NoMemory}
use Rattle.def_file.specs.Errors.{AnswersRight}
use Rattle.def_file.specs.AsRead.{Equation, NumberedOf, qualifier_read, item_read, numbered_read, equation_read, definitions_read}
use Rattle.qualifiers.specs.Classes.{IsProperItem, AreAscending, AreProper}
use Rattle.qualifiers.specs.Expansion.{PlainEquation, unnumbered, origin_in, items_of, from_item, part_of, HaveParts, Expands, FaultsFirst}
use Rattle.qualifiers.specs.AsRead.{IsExpansion, IsExpanding, plain_equation, plain_equations, expansion_read}
use Rattle.qualifiers.specs.Held.{qualifier_held, qualifiers_held, item_held, numbered_held, items_held, definitions_held, unnumbered_held, origin_held}
use Rattle.qualifiers.specs.Counting.{IsExpansionOf}
use Rattle.qualifiers.proofs.MappedEquations.{map_qualifier, map_item, map_numbered, map_unnumbered, expands-map, faults-map, proper_items-unmap}

module _ (table : Table) where
  qualifiers_read : (qs : List Qualifier) → map (qualifier_read table) qs ≡ map (map_qualifier (read_head table)) (qualifiers_held qs)
  qualifiers_read qs = sym (map-map (map_qualifier (read_head table)) qualifier_held qs)

  item_is_read : (i : Item) → item_read table i ≡ map_item (read_head table) (item_held i)
  item_is_read (item.Equation w) =
      ap (λ qs. Equation (record { left = (equation_read table w).left; right = (equation_read table w).right; qualifiers = qs; byte = w.byte })) (qualifiers_read w.qualifiers)
  item_is_read (item.Class op byte) = refl

  items_read : (ns : List Numbered) → map (numbered_read table) ns ≡ map (map_numbered (read_head table)) (items_held ns)
  items_read [] = refl
  items_read (n ∷ ns) =
      let head = item_is_read n.item in
      let tail = items_read ns in
      λ i. record { item = head i; number = n.number } ∷ tail i

  equations_read : (es : List EquationValue) → map (map_unnumbered (read_head table)) (map unnumbered_held es) ≡ map unnumbered (plain_equations table es)
  equations_read es = map-map (map_unnumbered (read_head table)) unnumbered_held es ∙ sym (map-map unnumbered (plain_equation table) es)

  parts_read : (es : List EquationValue) → HaveParts origin_held es → HaveParts origin_in (plain_equations table es)
  parts_read es parts k e is = found (slice_get es k) refl (sym (slice_get-map (plain_equation table) es k) ∙ is)
    where
      items : items_of origin_in (plain_equations table es) ≡ items_of origin_held es
      items = map-map (λ (d : PlainEquation ReadHead). d.origin.item) (plain_equation table) es

      found : (o : Option EquationValue) → slice_get es k ≡ o → option_map (plain_equation table) o ≡ Some e → e.origin.part ≡ part_of (from_item e.origin.item (items_of origin_in (plain_equations table es))) (from_item e.origin.item (take k (items_of origin_in (plain_equations table es))))
      found None at there = cc
      found (Some d) at there =
          let same : plain_equation table d ≡ e = cc in
          subst (λ (c : PlainEquation ReadHead). c.origin.part ≡ part_of (from_item c.origin.item (items_of origin_in (plain_equations table es))) (from_item c.origin.item (take k (items_of origin_in (plain_equations table es))))) same
          (subst (λ l. d.origin.part ≡ part_of (from_item d.origin.item l) (from_item d.origin.item (take k l))) (sym items) (parts k d at))

module _ (d : Definitions) where
  abbrev f : Head → ReadHead
  f = read_head d.symbols

  -- the numbers of items are the same
  numbers_read : map (λ (n : NumberedOf ReadHead). n.number) (map (numbered_read d.symbols) d.items) ≡ map (λ (n : NumberedOf Head). n.number) (items_held d.items)
  numbers_read = map-map (λ (n : NumberedOf ReadHead). n.number) (numbered_read d.symbols) d.items ∙ sym (map-map (λ (n : NumberedOf Head). n.number) numbered_held d.items)

  filled_held : (classes : List (List Head)) → AllByRecursion (λ (members : List ReadHead). 0 < length members) (read_classes d.symbols classes) → AllByRecursion (λ (members : List Head). 0 < length members) classes
  filled_held [] all = tt
  filled_held (members ∷ classes) all = (subst (λ n. 0 < n) (length-map members f) all.0, filled_held classes all.1)

  pub proper_held : AreProper (definitions_read d) → AreProper (definitions_held d)
  proper_held p = record {
    names = p.names;
    filled = filled_held d.classes p.filled;
    items = subst (λ count. AllByRecursion (λ (n : NumberedOf Head). IsProperItem count (names_of d.symbols) n.item) (items_held d.items)) (length-map d.classes (λ (members : List Head). map f members))
        (proper_items-unmap f (length (read_classes d.symbols d.classes)) (names_of d.symbols) (items_held d.items) (subst (AllByRecursion (λ (n : NumberedOf ReadHead). IsProperItem (length (read_classes d.symbols d.classes)) (names_of d.symbols) n.item)) (items_read d.symbols d.items) p.items));
    numbers = subst AreAscending numbers_read p.numbers;
  }

  expansion_is_read : (rules : RuleList) → IsExpansionOf d (Ok rules) → IsExpansion (definitions_read d) (plain_equations d.symbols rules.equations)
  expansion_is_read rules (expands, parts, classes) =
      let es = rules.equations in
      let table = names_of d.symbols in
      let mapped = expands-map f Symbol symbol (λ n. refl) table [] (items_held d.items) (map unnumbered_held es) expands in
      record {
        expands = subst (λ l. Expands symbol table [] l (map unnumbered (plain_equations d.symbols es))) (sym (items_read d.symbols d.items)) (subst (Expands symbol table [] (map (map_numbered f) (items_held d.items))) (equations_read d.symbols es) mapped);
        parts = parts_read d.symbols es parts;
      }

  -- the answer by numbers is the answer by what is read
  pub answer_is_read : (r : Result RuleList FileError) → AnswersRight (IsExpansionOf d) r → AnswersRight (IsExpanding (definitions_read d)) (expansion_read d.symbols r)
  answer_is_read (Ok rules) is = expansion_is_read rules is
  answer_is_read (Err (Refused fault)) h =
      let table = names_of d.symbols in
      subst (λ l. FaultsFirst symbol table [] l fault) (sym (items_read d.symbols d.items)) (faults-map f Symbol symbol (λ n. refl) table [] (items_held d.items) fault h)
  answer_is_read (Err NoMemory) h = tt
