-- The expansion of definitions with other heads.
use Rattle.std.proofs.Common.{◌≡◌, ℕ, inl, inr, Bool, true, false, cond, List, [], ◌∷◌, ◌++◌, map, Option, Some, None, refl, sym, ap, ◌∙◌, subst, arith}
use Rattle.std.specs.Prelude.{Contains, option_map, sum_by, nat_eq, ◌==◌}
use Rattle.std.specs.List.{AllByRecursion, IsDistinct, flat_map}
use Rattle.std.proofs.lemmas.List.{length-map, map-append}
use Rattle.std.proofs.lemmas.Simd.{map-map}
use Rattle.std.proofs.lemmas.List.Sums.{sum_by-cons}
use Rattle.eq_base.specs.Tree.{Tree, Forest, node, empty, grow, size, map_all_heads}
use Rattle.eq_base.specs.Pattern.{PatternCell, fixed, variable, restricted, variables}
use Rattle.eq_base.specs.Mapping.{map_cell, map_pattern, map_right, map_rule}
use Rattle.eq_base.specs.Rewriting.{RightSide, pattern, operation}
use Rattle.eq_base.specs.Operations.{application}
use Rattle.eq_base.specs.declared.rules.Op.{Op}
use Rattle.eq_base.specs.declared.rules.Op.TheVariants.{AddInt, SubInt, MultInt, DivInt, ModInt, EquInt, LessInt, EquAtom, EquStr, ConcatStr, LengthStr}
use Rattle.eq_base.proofs.Trees.{size-map_heads}
use Rattle.eq_base.proofs.Mapped.{variables-map, unmap-pattern}
use Rattle.eq_base.specs.Testing.{IsPattern}
use Rattle.term_lex.specs.declared.fault.Fault.{Fault}
use Rattle.term_lex.specs.declared.fault.FaultKind.TheVariants.{ExpansionPast}
use Rattle.symbol_table.specs.Table.{Table}
use Rattle.def_file.specs.AsRead.{QualifierOf, EquationOf, ItemOf, Equation, Class, NumberedOf}
use Rattle.def_file.specs.Pairs.{AreRelated}
use Rattle.qualifiers.specs.Replacing.{Replacement, Choice, replace, replace_all, chosen, replaced_or, Makes}
use Rattle.qualifiers.specs.Choices.{choose, choose_each, choices_of, HasIn, DependsOn, HaveNoCircle}
use Rattle.qualifiers.specs.Instances.{parts_of}
use Rattle.qualifiers.specs.Classes.{HasClasses, HaveClasses, IsFree, IsProper, IsProperItem}
use Rattle.qualifiers.specs.Equations.{Unnumbered, IsOfChoice, AreOfChoices}
use Rattle.qualifiers.specs.Expansion.{IsFirstCircle, HasNoCircle, HasCircleAt, cells_in, IsSmall, AreWithin, KeepLimits, byte_of, Gives, HasFault, Adds, Expands, FaultsFirst}
use Rattle.qualifiers.proofs.Members.{contains_map, map_contains}
use Rattle.qualifiers.proofs.Dependence.{chain_widen}

-- related lists, each element mapped
related_map : {A B C D : Type 0} (R : A → B → Type 0) (S : C → D → Type 0) (f : A → C) (g : B → D) → ((a : A) (b : B) → R a b → S (f a) (g b)) → (xs : List A) (ys : List B) → AreRelated R xs ys → AreRelated S (map f xs) (map g ys)
related_map R S f g each [] [] h = tt
related_map R S f g each [] (y ∷ ys) h = absurd h
related_map R S f g each (x ∷ xs) [] h = absurd h
related_map R S f g each (x ∷ xs) (y ∷ ys) (r, h) = (each x y r, related_map R S f g each xs ys h)

pub all_mapped : {A B : Type 0} (P : A → Type 0) (Q : B → Type 0) (f : A → B) → ((a : A) → P a → Q (f a)) → (xs : List A) → AllByRecursion P xs → AllByRecursion Q (map f xs)
all_mapped P Q f each [] all = tt
all_mapped P Q f each (x ∷ xs) all = (each x all.0, all_mapped P Q f each xs all.1)

pub all_unmapped : {A B : Type 0} (P : A → Type 0) (Q : B → Type 0) (f : A → B) → ((a : A) → Q (f a) → P a) → (xs : List A) → AllByRecursion Q (map f xs) → AllByRecursion P xs
all_unmapped P Q f each [] all = tt
all_unmapped P Q f each (x ∷ xs) all = (each x all.0, all_unmapped P Q f each xs all.1)

sum-mapped : {A B : Type 0} (f : A → B) (one : A → ℕ) (other : B → ℕ) → ((a : A) → other (f a) ≡ one a) → (xs : List A) → sum_by other (map f xs) ≡ sum_by one xs
sum-mapped f one other same [] = refl
sum-mapped f one other same (x ∷ xs) = omega (arith, sum_by-cons other (f x) (map f xs), sum_by-cons one x xs, same x, sum-mapped f one other same xs)

module _ {A B : Type 0} (f : A → B) where
  -- ---- definitions and equations with other heads

  abbrev pub map_qualifier : QualifierOf A → QualifierOf B
  map_qualifier q = record { variable = q.variable; choices = map (map_pattern f) q.choices; byte = q.byte }

  abbrev pub map_equation : EquationOf A → EquationOf B
  map_equation w = record { left = map_pattern f w.left; right = map_pattern f w.right; qualifiers = map map_qualifier w.qualifiers; byte = w.byte }

  abbrev pub map_item : ItemOf A → ItemOf B
  map_item (Equation w) = Equation (map_equation w)
  map_item (Class op byte) = Class op byte

  abbrev pub map_numbered : NumberedOf A → NumberedOf B
  map_numbered n = record { item = map_item n.item; number = n.number }

  abbrev pub map_unnumbered : Unnumbered A → Unnumbered B
  map_unnumbered e = record { item = e.item; rule = map_rule f e.rule }

  abbrev map_choice : Choice A → Choice B
  map_choice choice = map (λ c. (c.0, map_pattern f c.1)) choice

  abbrev map_replacement : Replacement A → Replacement B
  map_replacement θ x = map_pattern f (θ x)

  -- ---- replaced patterns

  mutual
    replace-map : (θ : Replacement A) (p : Tree (PatternCell A)) → map_pattern f (replace θ p) ≡ replace (map_replacement θ) (map_pattern f p)
    replace-map θ (node (fixed h) ps) = ap (node (fixed (f h))) (replace_all-map θ ps)
    replace-map θ (node (variable x) ps) = refl
    replace-map θ (node (restricted x class) ps) = refl

    replace_all-map : (θ : Replacement A) (ps : Forest (PatternCell A)) → map_all_heads (map_cell f) (replace_all θ ps) ≡ replace_all (map_replacement θ) (map_all_heads (map_cell f) ps)
    replace_all-map θ empty = refl
    replace_all-map θ (grow p ps) = rw (replace-map θ p, replace_all-map θ ps) refl

  chosen-map : (choice : Choice A) (x : ℕ) → chosen (map_choice choice) x ≡ option_map (map_pattern f) (chosen choice x)
  chosen-map [] x = refl
  chosen-map (c ∷ cs) x = by_test (c.0 == x) (chosen-map cs x)
    where
      by_test : (b : Bool) → chosen (map_choice cs) x ≡ option_map (map_pattern f) (chosen cs x) → cond b (Some (map_pattern f c.1)) (chosen (map_choice cs) x) ≡ option_map (map_pattern f) (cond b (Some c.1) (chosen cs x))
      by_test true later = refl
      by_test false later = later

  replaced_or-map : (θ : Replacement A) (x : ℕ) (o : Option (Tree (PatternCell A))) → map_pattern f (replaced_or θ x o) ≡ replaced_or (map_replacement θ) x (option_map (map_pattern f) o)
  replaced_or-map θ x (Some a) = replace-map θ a
  replaced_or-map θ x None = refl

  makes-map : (choice : Choice A) (θ : Replacement A) → Makes choice θ → Makes (map_choice choice) (map_replacement θ)
  makes-map choice θ makes x =
      ap (map_pattern f) (makes x) ∙ replaced_or-map θ x (chosen choice x) ∙ ap (replaced_or (map_replacement θ) x) (sym (chosen-map choice x))

  -- ---- choices

  choose-map : (x : ℕ) (later : List (Choice A)) (a : Tree (PatternCell A)) → choose x (map map_choice later) (map_pattern f a) ≡ map map_choice (choose x later a)
  choose-map x [] a = refl
  choose-map x (c ∷ later) a = ap (λ l. ((x, map_pattern f a) ∷ map_choice c) ∷ l) (choose-map x later a)

  choose_all-map : (x : ℕ) (later : List (Choice A)) (alternatives : List (Tree (PatternCell A))) → flat_map (choose x (map map_choice later)) (map (map_pattern f) alternatives) ≡ map map_choice (flat_map (choose x later) alternatives)
  choose_all-map x later [] = refl
  choose_all-map x later (a ∷ others) =
      rw (choose-map x later a, choose_all-map x later others) (sym (map-append map_choice (choose x later a) (flat_map (choose x later) others)))

  choose_each-map : (x : ℕ) (alternatives : List (Tree (PatternCell A))) (later : List (Choice A)) → choose_each x (map (map_pattern f) alternatives) (map map_choice later) ≡ map map_choice (choose_each x alternatives later)
  choose_each-map x [] later = refl
  choose_each-map x (a ∷ others) later = choose_all-map x later (a ∷ others)

  choices-map : (qs : List (QualifierOf A)) → choices_of (map map_qualifier qs) ≡ map map_choice (choices_of qs)
  choices-map [] = refl
  choices-map (q ∷ qs) = ap (choose_each q.variable (map (map_pattern f) q.choices)) (choices-map qs) ∙ choose_each-map q.variable q.choices (choices_of qs)

  of_choice-map : (w : EquationOf A) (item : ℕ) (choice : Choice A) (e : Unnumbered A) → IsOfChoice w item choice e → IsOfChoice (map_equation w) item (map_choice choice) (map_unnumbered e)
  of_choice-map w item choice e of =
      let θ = of.replacement in
      let left = replace-map θ w.left in
      let right = replace-map θ w.right in
      record {
        replacement = map_replacement θ;
        makes = makes-map choice θ of.makes;
        is = ap map_unnumbered of.is ∙ (λ i. record { item = item; rule = record { left = left i; right = pattern (right i) } });
      }

  of_choices-map : (w : EquationOf A) (item : ℕ) (es : List (Unnumbered A)) → AreOfChoices w item es → AreOfChoices (map_equation w) item (map map_unnumbered es)
  of_choices-map w item es are =
      subst (λ l. AreRelated (IsOfChoice (map_equation w) item) l (map map_unnumbered es)) (sym (choices-map w.qualifiers))
      (related_map (IsOfChoice w item) (IsOfChoice (map_equation w) item) map_choice map_unnumbered (of_choice-map w item) (choices_of w.qualifiers) es are)

  -- ---- circles

  module _ (qs : List (QualifierOf A)) where
    has_in-map : (x y : ℕ) → HasIn qs x y → HasIn (map map_qualifier qs) x y
    has_in-map x y h = record {
      qualifier = map_qualifier h.qualifier;
      listed = contains_map map_qualifier qs h.qualifier h.listed;
      named = h.named;
      alternative = map_pattern f h.alternative;
      offered = contains_map (map_pattern f) h.qualifier.choices h.alternative h.offered;
      stands = subst (λ l. Contains l y) (sym (variables-map f h.alternative)) h.stands;
    }

    has_in-unmap : (x y : ℕ) → HasIn (map map_qualifier qs) x y → HasIn qs x y
    has_in-unmap x y h =
        let (q, listed, same) = map_contains map_qualifier qs h.qualifier h.listed in
        let offered = subst (λ (r : QualifierOf B). Contains r.choices h.alternative) (sym same) h.offered in
        let (a, offered', same') = map_contains (map_pattern f) q.choices h.alternative offered in
        record {
          qualifier = q;
          listed = listed;
          named = ap (λ (r : QualifierOf B). r.variable) same ∙ h.named;
          alternative = a;
          offered = offered';
          stands = subst (λ l. Contains l y) (variables-map f a) (subst (λ b. Contains (variables b) y) (sym same') h.stands);
        }

    depends-map : (x y : ℕ) → DependsOn qs x y → DependsOn (map map_qualifier qs) x y
    depends-map x y d = chain_widen has_in-map d

    depends-unmap : (x y : ℕ) → DependsOn (map map_qualifier qs) x y → DependsOn qs x y
    depends-unmap x y d = chain_widen has_in-unmap d

    no_circle-map : HaveNoCircle qs → HaveNoCircle (map map_qualifier qs)
    no_circle-map none x d = none x (depends-unmap x x d)

    first_circle-map : (byte : ℕ) → IsFirstCircle qs byte → IsFirstCircle (map map_qualifier qs) byte
    first_circle-map byte c = record {
      front = map map_qualifier c.front;
      qualifier = map_qualifier c.qualifier;
      back = map map_qualifier c.back;
      split = ap (map map_qualifier) c.split ∙ map-append map_qualifier c.front (c.qualifier ∷ c.back);
      none_before = all_mapped (λ (q : QualifierOf A). ¬ DependsOn qs q.variable q.variable) (λ (q : QualifierOf B). ¬ DependsOn (map map_qualifier qs) q.variable q.variable) map_qualifier (λ q not d. not (depends-unmap q.variable q.variable d)) c.front c.none_before;
      circle = depends-map c.qualifier.variable c.qualifier.variable c.circle;
      place = c.place;
    }

  item_no_circle-map : (i : ItemOf A) → HasNoCircle i → HasNoCircle (map_item i)
  item_no_circle-map (Equation w) none = no_circle-map w.qualifiers none
  item_no_circle-map (Class op byte) none = tt

  item_circle-map : (i : ItemOf A) (byte : ℕ) → HasCircleAt i byte → HasCircleAt (map_item i) byte
  item_circle-map (Equation w) byte c = first_circle-map w.qualifiers byte c
  item_circle-map (Class op byte') byte c = c

  -- ---- limits

  cells-map : (r : RightSide A) → cells_in (map_right f r) ≡ cells_in r
  cells-map (pattern p) = size-map_heads (map_cell f) p
  cells-map (operation op) = refl

  left_cells-map : (e : Unnumbered A) → size (map_unnumbered e).rule.left ≡ size e.rule.left
  left_cells-map e = size-map_heads (map_cell f) e.rule.left

  module _ (es : List (Unnumbered A)) where
    left_sum : sum_by (λ (e : Unnumbered B). size e.rule.left) (map map_unnumbered es) ≡ sum_by (λ (e : Unnumbered A). size e.rule.left) es
    left_sum = sum-mapped map_unnumbered (λ (e : Unnumbered A). size e.rule.left) (λ (e : Unnumbered B). size e.rule.left) left_cells-map es

    right_sum : sum_by (λ (e : Unnumbered B). cells_in e.rule.right) (map map_unnumbered es) ≡ sum_by (λ (e : Unnumbered A). cells_in e.rule.right) es
    right_sum = sum-mapped map_unnumbered (λ (e : Unnumbered A). cells_in e.rule.right) (λ (e : Unnumbered B). cells_in e.rule.right) (λ e. cells-map e.rule.right) es

    within-map : AreWithin es → AreWithin (map map_unnumbered es)
    within-map w = record {
      few = omega (arith, w.few, length-map es map_unnumbered);
      each = all_mapped IsSmall IsSmall map_unnumbered (λ e small. record { left = omega (arith, small.left, left_cells-map e); right = omega (arith, small.right, cells-map e.rule.right) }) es w.each;
      left = omega (arith, w.left, left_sum);
      right = omega (arith, w.right, right_sum);
    }

    within-unmap : AreWithin (map map_unnumbered es) → AreWithin es
    within-unmap w = record {
      few = omega (arith, w.few, length-map es map_unnumbered);
      each = all_unmapped IsSmall IsSmall map_unnumbered (λ e small. record { left = omega (arith, small.left, left_cells-map e); right = omega (arith, small.right, cells-map e.rule.right) }) es w.each;
      left = omega (arith, w.left, left_sum);
      right = omega (arith, w.right, right_sum);
    }

  module _ (before es : List (Unnumbered A)) where
    both : map map_unnumbered (before ++ es) ≡ map map_unnumbered before ++ map map_unnumbered es
    both = map-append map_unnumbered before es

    limits-map : KeepLimits before es → KeepLimits (map map_unnumbered before) (map map_unnumbered es)
    limits-map k = record {
      choices = omega (arith, k.choices, length-map es map_unnumbered);
      within = subst AreWithin both (within-map (before ++ es) k.within);
    }

    limits-unmap : KeepLimits (map map_unnumbered before) (map map_unnumbered es) → KeepLimits before es
    limits-unmap k = record {
      choices = omega (arith, k.choices, length-map es map_unnumbered);
      within = within-unmap (before ++ es) (subst AreWithin (sym both) k.within);
    }

  -- ---- one item after another, where the heads of symbols are mapped to the heads of the same symbols

  application-map : (op : Op) (h : A) → map_pattern f (application op h) ≡ application op (f h)
  application-map AddInt h = refl
  application-map SubInt h = refl
  application-map MultInt h = refl
  application-map DivInt h = refl
  application-map ModInt h = refl
  application-map EquInt h = refl
  application-map LessInt h = refl
  application-map EquAtom h = refl
  application-map EquStr h = refl
  application-map ConcatStr h = refl
  application-map LengthStr h = refl

  module _ (of_a : ℕ → A) (of_b : ℕ → B) (same : (n : ℕ) → f (of_a n) ≡ of_b n) (table : Table) where
    gives-map : (number : ℕ) (i : ItemOf A) (es : List (Unnumbered A)) → Gives of_a table number i es → Gives of_b table number (map_item i) (map map_unnumbered es)
    gives-map number (Equation w) es gives = of_choices-map w number es gives
    gives-map number (Class op byte) es (e, of, is) = (
      map_unnumbered e,
      record {
        symbol = of.symbol;
        declared = of.declared;
        is = ap map_unnumbered of.is ∙ ap (λ l. record { item = number; rule = record { left = l; right = operation op } }) (application-map op (of_a of.symbol) ∙ ap (application op) (same of.symbol));
      },
      ap (map map_unnumbered) is,
    )

    adds-map : (before : List (Unnumbered A)) (n : NumberedOf A) (es : List (Unnumbered A)) → Adds of_a table before n es → Adds of_b table (map map_unnumbered before) (map_numbered n) (map map_unnumbered es)
    adds-map before n es adds = record {
      no_circle = item_no_circle-map n.item adds.no_circle;
      gives = gives-map n.number n.item es adds.gives;
      limits = limits-map before es adds.limits;
    }

    fault-map : (before : List (Unnumbered A)) (n : NumberedOf A) (fault : Fault) → HasFault of_a table before n fault → HasFault of_b table (map map_unnumbered before) (map_numbered n) fault
    fault-map before n fault (inl (byte, circle, is)) = inl (byte, item_circle-map n.item byte circle, is)
    fault-map before n fault (inr (none, es, gives, past, is)) =
        inr (item_no_circle-map n.item none, map map_unnumbered es, gives-map n.number n.item es gives, (λ k. past (limits-unmap before es k)), is ∙ ap (λ byte. record { kind = ExpansionPast; byte = byte }) (byte-map n.item))
      where
        byte-map : (i : ItemOf A) → byte_of i ≡ byte_of (map_item i)
        byte-map (Equation w) = refl
        byte-map (Class op byte) = refl

    pub expands-map : (before : List (Unnumbered A)) (ns : List (NumberedOf A)) (es : List (Unnumbered A)) → Expands of_a table before ns es → Expands of_b table (map map_unnumbered before) (map map_numbered ns) (map map_unnumbered es)
    expands-map before [] es is = ap (map map_unnumbered) is
    expands-map before (n ∷ ns) es (front, back, split, adds, rest) = (
      map map_unnumbered front,
      map map_unnumbered back,
      ap (map map_unnumbered) split ∙ map-append map_unnumbered front back,
      adds-map before n front adds,
      subst (λ l. Expands of_b table l (map map_numbered ns) (map map_unnumbered back)) (map-append map_unnumbered before front) (expands-map (before ++ front) ns back rest),
    )

    pub faults-map : (before : List (Unnumbered A)) (ns : List (NumberedOf A)) (fault : Fault) → FaultsFirst of_a table before ns fault → FaultsFirst of_b table (map map_unnumbered before) (map map_numbered ns) fault
    faults-map before [] fault h = h
    faults-map before (n ∷ ns) fault (inl has) = inl (fault-map before n fault has)
    faults-map before (n ∷ ns) fault (inr (front, adds, rest)) =
        inr (map map_unnumbered front, adds-map before n front adds, subst (λ l. FaultsFirst of_b table l (map map_numbered ns) fault) (map-append map_unnumbered before front) (faults-map (before ++ front) ns fault rest))

  -- ---- proper definitions

  module _ (class_of : ℕ → Option ℕ) where
    mutual
      classes-unmap : (p : Tree (PatternCell A)) → HasClasses class_of (map_pattern f p) → HasClasses class_of p
      classes-unmap (node (fixed h) ps) has = all_classes-unmap ps has
      classes-unmap (node (variable x) ps) has = has
      classes-unmap (node (restricted x class) ps) has = has

      all_classes-unmap : (ps : Forest (PatternCell A)) → HaveClasses class_of (map_all_heads (map_cell f) ps) → HaveClasses class_of ps
      all_classes-unmap empty has = tt
      all_classes-unmap (grow p ps) has = (classes-unmap p has.0, all_classes-unmap ps has.1)

    free-unmap : (x : ℕ) (alternatives : List (Tree (PatternCell A))) → IsFree class_of x (map (map_pattern f) alternatives) → IsFree class_of x alternatives
    free-unmap x [] free = tt
    free-unmap x (a ∷ others) free = free

  alternatives-map : (qs : List (QualifierOf A)) → flat_map (λ (q : QualifierOf B). q.choices) (map map_qualifier qs) ≡ map (map_pattern f) (flat_map (λ (q : QualifierOf A). q.choices) qs)
  alternatives-map [] = refl
  alternatives-map (q ∷ qs) = rw (alternatives-map qs) (sym (map-append (map_pattern f) q.choices (flat_map (λ (r : QualifierOf A). r.choices) qs)))

  parts-map : (w : EquationOf A) → parts_of (map_equation w) ≡ map (map_pattern f) (parts_of w)
  parts-map w = ap (λ l. map_pattern f w.left ∷ map_pattern f w.right ∷ l) (alternatives-map w.qualifiers)

  proper-unmap : (count : ℕ) (w : EquationOf A) → IsProper count (map_equation w) → IsProper count w
  proper-unmap count w p =
      let parts = parts-map w in
      record {
        distinct = subst (λ l. IsDistinct nat_eq l) (map-map (λ (q : QualifierOf B). q.variable) map_qualifier w.qualifiers) p.distinct;
        patterns = all_unmapped IsPattern IsPattern (map_pattern f) (unmap-pattern f) (parts_of w) (subst (AllByRecursion IsPattern) parts p.patterns);
        class_of = p.class_of;
        classes = all_unmapped (HasClasses p.class_of) (HasClasses p.class_of) (map_pattern f) (classes-unmap p.class_of) (parts_of w) (subst (AllByRecursion (HasClasses p.class_of)) parts p.classes);
        free = all_unmapped (λ (q : QualifierOf A). IsFree p.class_of q.variable q.choices) (λ (q : QualifierOf B). IsFree p.class_of q.variable q.choices) map_qualifier (λ q free. free-unmap p.class_of q.variable q.choices free) w.qualifiers p.free;
        known = p.known;
      }

  proper_item-unmap : (count : ℕ) (table : Table) (i : ItemOf A) → IsProperItem count table (map_item i) → IsProperItem count table i
  proper_item-unmap count table (Equation w) p = proper-unmap count w p
  proper_item-unmap count table (Class op byte) p = p

  pub proper_items-unmap : (count : ℕ) (table : Table) (ns : List (NumberedOf A)) → AllByRecursion (λ (n : NumberedOf B). IsProperItem count table n.item) (map map_numbered ns) → AllByRecursion (λ (n : NumberedOf A). IsProperItem count table n.item) ns
  proper_items-unmap count table ns all = all_unmapped (λ (n : NumberedOf A). IsProperItem count table n.item) (λ (n : NumberedOf B). IsProperItem count table n.item) map_numbered (λ n. proper_item-unmap count table n.item) ns all
