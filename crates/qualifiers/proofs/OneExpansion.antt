-- Definitions have one expansion, or one first fault.
use Rattle.std.proofs.Common.{◌≡◌, ℕ, suc, inl, inr, List, [], ◌∷◌, ◌++◌, map, take, Result, Ok, Err, Some, refl, sym, ap, ◌∙◌, subst}
use Rattle.std.specs.Prelude.{Contains, slice_get}
use Rattle.std.specs.List.{AllByRecursion}
use Rattle.std.proofs.lemmas.Simd.{map-map}
use Rattle.eq_base.specs.Rewriting.{pattern, operation}
use Rattle.eq_base.specs.Operations.{application}
use Rattle.term_lex.specs.declared.fault.Fault.{Fault}
use Rattle.term_lex.specs.declared.fault.FaultKind.TheVariants.{QualifierCircle}
use Rattle.symbol_table.specs.Table.{Table, HasDistinctNames}
use Rattle.def_file.specs.Operations.{operation_symbol}
use Rattle.def_file.specs.Errors.{AnswersRight, AnswersAs}
use Rattle.def_file.specs.declared.error.FileError.{FileError}
use Rattle.def_file.specs.declared.error.FileError.TheVariants.{Refused, NoMemory}
use Rattle.def_file.specs.AsRead.{QualifierOf, EquationOf, ItemOf, Equation, Class, NumberedOf, DefinitionsOf}
use Rattle.def_file.specs.Pairs.{AreRelated}
use Rattle.qualifiers.specs.Replacing.{Choice}
use Rattle.qualifiers.specs.Choices.{choices_of, DependsOn}
use Rattle.qualifiers.specs.Equations.{Unnumbered, IsOfChoice}
use Rattle.qualifiers.specs.Expansion.{PlainEquation, unnumbered, origin_in, items_of, from_item, part_of, HaveParts, IsFirstCircle, HasNoCircle, HasCircleAt, KeepLimits, Gives, HasFault, Adds, Expands, FaultsFirst, IsExpanding}
use Rattle.qualifiers.proofs.Members.{contains_first, contains_later}
use Rattle.qualifiers.proofs.Replacements.{one_made, replace-same}
use Rattle.qualifiers.proofs.Chosen.{is_choice, no_circle}

-- lists that are related to one list are the same, where its elements are related to one element each
related_one : {A B : Type 0} (R : A → B → Type 0) (xs : List A) (ys zs : List B) → ((x : A) → Contains xs x → (y z : B) → R x y → R x z → y ≡ z) → AreRelated R xs ys → AreRelated R xs zs → ys ≡ zs
related_one R [] [] [] same r s = refl
related_one R [] [] (z ∷ zs) same r s = absurd s
related_one R [] (y ∷ ys) zs same r s = absurd r
related_one R (x ∷ xs) [] zs same r s = absurd r
related_one R (x ∷ xs) (y ∷ ys) [] same r s = absurd s
related_one R (x ∷ xs) (y ∷ ys) (z ∷ zs) same (r, rs) (s, ss) =
    let head = same x (contains_first x xs) y z r s in
    let tail = related_one R xs ys zs (λ w c. same w (contains_later x xs w c)) rs ss in
    λ i. head i ∷ tail i

-- the first element with a property is one
first_one : {A : Type 0} (P : A → Type 0) (front front' : List A) (x x' : A) (back back' : List A) → front ++ x ∷ back ≡ front' ++ x' ∷ back' → AllByRecursion (λ y. ¬ P y) front → AllByRecursion (λ y. ¬ P y) front' → P x → P x' → x ≡ x'
first_one P [] [] x x' back back' e none none' p p' = cc
first_one P [] (y ∷ front') x x' back back' e none none' p p' = let same : x ≡ y = cc in absurd (none'.0 (subst P same p))
first_one P (y ∷ front) [] x x' back back' e none none' p p' = let same : x' ≡ y = cc in absurd (none.0 (subst P same p'))
first_one P (y ∷ front) (y' ∷ front') x x' back back' e none none' p p' =
    let rest : front ++ x ∷ back ≡ front' ++ x' ∷ back' = cc in
    first_one P front front' x x' back back' rest none.1 none'.1 p p'

-- ---- equations by their parts

module _ {H : Type 0} where
  -- an equation is known by all but its part, and that
  plain_one : (d e : PlainEquation H) → unnumbered d ≡ unnumbered e → d.origin.part ≡ e.origin.part → d ≡ e
  plain_one d e same part =
      let item = ap (λ (u : Unnumbered H). u.item) same in
      let rule = ap (λ (u : Unnumbered H). u.rule) same in
      λ i. record { rule = rule i; origin = record { item = item i; part = part i } }

  -- equations are the same where all but their parts is, and the parts follow from it
  all_one : (part_for : ℕ → Unnumbered H → ℕ) (ds es : List (PlainEquation H)) → map unnumbered ds ≡ map unnumbered es → ((k : ℕ) (d : PlainEquation H) → slice_get ds k ≡ Some d → d.origin.part ≡ part_for k (unnumbered d)) → ((k : ℕ) (e : PlainEquation H) → slice_get es k ≡ Some e → e.origin.part ≡ part_for k (unnumbered e)) → ds ≡ es
  all_one part_for [] [] same parts parts' = refl
  all_one part_for [] (e ∷ es) same parts parts' = cc
  all_one part_for (d ∷ ds) [] same parts parts' = cc
  all_one part_for (d ∷ ds) (e ∷ es) same parts parts' =
      let first : unnumbered d ≡ unnumbered e = cc in
      let later : map unnumbered ds ≡ map unnumbered es = cc in
      let head = plain_one d e first (parts 0 d refl ∙ ap (part_for 0) first ∙ sym (parts' 0 e refl)) in
      let tail = all_one (λ k. part_for (suc k)) ds es later (λ k. parts (suc k)) (λ k. parts' (suc k)) in
      λ i. head i ∷ tail i

  items_same : (es : List (PlainEquation H)) → items_of origin_in es ≡ map (λ (u : Unnumbered H). u.item) (map unnumbered es)
  items_same es = sym (map-map (λ (u : Unnumbered H). u.item) unnumbered es)

  plain_equations_one : (ds es : List (PlainEquation H)) → map unnumbered ds ≡ map unnumbered es → HaveParts origin_in ds → HaveParts origin_in es → ds ≡ es
  plain_equations_one ds es same parts parts' =
      let items = items_of origin_in ds in
      let others : items_of origin_in es ≡ items = items_same es ∙ ap (map (λ (u : Unnumbered H). u.item)) (sym same) ∙ sym (items_same ds) in
      all_one (λ k u. part_of (from_item u.item items) (from_item u.item (take k items))) ds es same parts
      (λ k e is. parts' k e is ∙ ap (λ l. part_of (from_item e.origin.item l) (from_item e.origin.item (take k l))) others)

  -- ---- circles

  circle_one : (qs : List (QualifierOf H)) (byte byte' : ℕ) → IsFirstCircle qs byte → IsFirstCircle qs byte' → byte ≡ byte'
  circle_one qs byte byte' c c' =
      let same = first_one (λ (q : QualifierOf H). DependsOn qs q.variable q.variable) c.front c'.front c.qualifier c'.qualifier c.back c'.back (sym c.split ∙ c'.split) c.none_before c'.none_before c.circle c'.circle in
      c.place ∙ ap (λ (q : QualifierOf H). q.byte) same ∙ sym c'.place

  item_circle_one : (i : ItemOf H) (byte byte' : ℕ) → HasCircleAt i byte → HasCircleAt i byte' → byte ≡ byte'
  item_circle_one (Equation w) byte byte' c c' = circle_one w.qualifiers byte byte' c c'
  item_circle_one (Class op place) byte byte' c c' = absurd c

  circle_or_none : (i : ItemOf H) (byte : ℕ) → HasCircleAt i byte → HasNoCircle i → ⊥
  circle_or_none (Equation w) byte c none = none c.qualifier.variable c.circle
  circle_or_none (Class op place) byte c none = c

  -- ---- the equations of an item

  choice_one : (w : EquationOf H) (number : ℕ) → HasNoCircle (Equation w) → (choice : Choice H) → Contains (choices_of w.qualifiers) choice → (d e : Unnumbered H) → IsOfChoice w number choice d → IsOfChoice w number choice e → d ≡ e
  choice_one w number none choice listed d e of of' =
      let grounded = no_circle w.qualifiers choice (is_choice w.qualifiers choice listed) none in
      let same = one_made choice grounded of.replacement of'.replacement of.makes of'.makes in
      let left = replace-same of.replacement of'.replacement w.left (λ x c. same x) in
      let right = replace-same of.replacement of'.replacement w.right (λ x c. same x) in
      of.is ∙ (λ i. record { item = number; rule = record { left = left i; right = pattern (right i) } }) ∙ sym of'.is

module _ {H : Type 0} (symbol : ℕ → H) (table : Table) (distinct : HasDistinctNames table) where
  given_one : (number : ℕ) (i : ItemOf H) (ds es : List (Unnumbered H)) → HasNoCircle i → Gives symbol table number i ds → Gives symbol table number i es → ds ≡ es
  given_one number (Equation w) ds es none gives gives' =
      related_one (IsOfChoice w number) (choices_of w.qualifiers) ds es (choice_one w number none) gives gives'
  given_one number (Class op byte) ds es none (d, of, is) (e, of', is') =
      let same : of.symbol ≡ of'.symbol = distinct (operation_symbol op).name of.symbol of'.symbol (operation_symbol op).arity (operation_symbol op).arity of.declared of'.declared in
      let one : d ≡ e = of.is ∙ ap (λ s. record { item = number; rule = record { left = application op (symbol s); right = operation op } }) same ∙ sym of'.is in
      is ∙ ap (λ u. u ∷ []) one ∙ sym is'

  adds_one : (before : List (Unnumbered H)) (n : NumberedOf H) (ds es : List (Unnumbered H)) → Adds symbol table before n ds → Adds symbol table before n es → ds ≡ es
  adds_one before n ds es adds adds' = given_one n.number n.item ds es adds.no_circle adds.gives adds'.gives

  added_no_fault : (before : List (Unnumbered H)) (n : NumberedOf H) (ds : List (Unnumbered H)) (fault : Fault) → Adds symbol table before n ds → HasFault symbol table before n fault → ⊥
  added_no_fault before n ds fault adds (inl (byte, circle, is)) = circle_or_none n.item byte circle adds.no_circle
  added_no_fault before n ds fault adds (inr (none, es, gives, past, is)) =
      past (subst (λ l. KeepLimits before l) (given_one n.number n.item ds es adds.no_circle adds.gives gives) adds.limits)

  fault_one : (before : List (Unnumbered H)) (n : NumberedOf H) (f g : Fault) → HasFault symbol table before n f → HasFault symbol table before n g → f ≡ g
  fault_one before n f g (inl (byte, circle, is)) (inl (byte', circle', is')) =
      is ∙ ap (λ b. record { kind = QualifierCircle; byte = b }) (item_circle_one n.item byte byte' circle circle') ∙ sym is'
  fault_one before n f g (inl (byte, circle, is)) (inr (none, es, gives, past, is')) = absurd (circle_or_none n.item byte circle none)
  fault_one before n f g (inr (none, es, gives, past, is)) (inl (byte, circle, is')) = absurd (circle_or_none n.item byte circle none)
  fault_one before n f g (inr (none, es, gives, past, is)) (inr (none', es', gives', past', is')) = is ∙ sym is'

  -- ---- one item after another

  expands_one : (before : List (Unnumbered H)) (ns : List (NumberedOf H)) (ds es : List (Unnumbered H)) → Expands symbol table before ns ds → Expands symbol table before ns es → ds ≡ es
  expands_one before [] ds es is is' = is ∙ sym is'
  expands_one before (n ∷ ns) ds es (front, back, split, adds, rest) (front', back', split', adds', rest') =
      let first = adds_one before n front front' adds adds' in
      let later = expands_one (before ++ front) ns back back' rest (subst (λ l. Expands symbol table (before ++ l) ns back') (sym first) rest') in
      split ∙ (λ i. first i ++ later i) ∙ sym split'

  expands_no_fault : (before : List (Unnumbered H)) (ns : List (NumberedOf H)) (ds : List (Unnumbered H)) (fault : Fault) → Expands symbol table before ns ds → FaultsFirst symbol table before ns fault → ⊥
  expands_no_fault before [] ds fault is h = h
  expands_no_fault before (n ∷ ns) ds fault (front, back, split, adds, rest) (inl has) = added_no_fault before n front fault adds has
  expands_no_fault before (n ∷ ns) ds fault (front, back, split, adds, rest) (inr (front', adds', rest')) =
      expands_no_fault (before ++ front) ns back fault rest (subst (λ l. FaultsFirst symbol table (before ++ l) ns fault) (adds_one before n front' front adds' adds) rest')

  first_fault_one : (before : List (Unnumbered H)) (ns : List (NumberedOf H)) (f g : Fault) → FaultsFirst symbol table before ns f → FaultsFirst symbol table before ns g → f ≡ g
  first_fault_one before [] f g h h' = absurd h
  first_fault_one before (n ∷ ns) f g (inl has) (inl has') = fault_one before n f g has has'
  first_fault_one before (n ∷ ns) f g (inl has) (inr (front, adds, rest)) = absurd (added_no_fault before n front f adds has)
  first_fault_one before (n ∷ ns) f g (inr (front, adds, rest)) (inl has) = absurd (added_no_fault before n front g adds has)
  first_fault_one before (n ∷ ns) f g (inr (front, adds, rest)) (inr (front', adds', rest')) =
      first_fault_one (before ++ front) ns f g rest (subst (λ l. FaultsFirst symbol table (before ++ l) ns g) (adds_one before n front' front adds' adds) rest')

module _ {H : Type 0} (symbol : ℕ → H) (d : DefinitionsOf H) (distinct : HasDistinctNames d.names) where
  -- two answers are one
  pub one_expansion : (one other : Result (List (PlainEquation H)) Fault) → IsExpanding symbol d one → IsExpanding symbol d other → one ≡ other
  one_expansion (Ok ds) (Ok es) is is' =
      ap (λ l. Ok l) (plain_equations_one ds es (expands_one symbol d.names distinct [] d.items (map unnumbered ds) (map unnumbered es) is.expands is'.expands) is.parts is'.parts)
  one_expansion (Ok ds) (Err f) is h = absurd (expands_no_fault symbol d.names distinct [] d.items (map unnumbered ds) f is.expands h)
  one_expansion (Err f) (Ok ds) h is = absurd (expands_no_fault symbol d.names distinct [] d.items (map unnumbered ds) f is.expands h)
  one_expansion (Err f) (Err g) h h' = ap (λ e. Err e) (first_fault_one symbol d.names distinct [] d.items f g h h')

  -- a right answer is the only one
  pub only_expansion : (other : Result (List (PlainEquation H)) Fault) (result : Result (List (PlainEquation H)) FileError) → IsExpanding symbol d other → AnswersRight (IsExpanding symbol d) result → AnswersAs other result
  only_expansion other (Ok es) s t = one_expansion other (Ok es) s t
  only_expansion other (Err (Refused f)) s t = one_expansion other (Err f) s t
  only_expansion other (Err NoMemory) s t = tt
