-- Each class of a file has a name and a member.
use Rattle.std.proofs.Common.{◌≡◌, ℕ, ◌+◌, ◌-◌, ◌<◌, List, [], ◌∷◌, ◌++◌, length, map, refl, sym, ap, ◌∙◌, subst, arith, append_assoc, append-nil, inl, inr}
use Rattle.std.specs.Prelude.{set, slice_index_or}
use Rattle.std.specs.List.{AllByRecursion, flat_map}
use Rattle.std.proofs.lemmas.List.{length-append}
use Rattle.eq_base.specs.ClassLists.{with_member}
use Rattle.eq_base.specs.declared.head.Head.{Head}
use Rattle.eq_base.proofs.Lists.{all_both}
use Rattle.term_lex.specs.declared.token.Token.{Token}
use Rattle.term_lex.specs.declared.token.TokenKind.TheVariants.{Semicolon, Dot}
use Rattle.term_lex.specs.Lexemes.{Lexeme}
use Rattle.term_lex.specs.Parts.{IsKind, Closed}
use Rattle.written_terms.specs.Notation.{Notation}
use Rattle.def_file.specs.Trees.{SymbolItem, Declares, IncludesClasses, ClassItem, Restriction, InClass, OneOf, Condition, EquationItem, Equates, IncludesOperations, File}
use Rattle.def_file.specs.Grammar.{AreMembers, IsClassItem, AreClasses, IsFileText}
use Rattle.def_file.specs.Names.{Place, Symbol, Class, NewClass, Member, Variable, Term, Qualified, ClassOf, Operation, Known, nothing_known, Takes, TakesAll, symbol_places, class_places, classes_places, restriction_places, condition_places, item_places, places_of}

-- ---- one member more in the last class

set_last : {A : Type 0} (front : List A) (x y : A) → set (front ++ x ∷ []) (length front) y ≡ front ++ y ∷ []
set_last [] x y = refl
set_last (z ∷ front) x y = ap (λ l. z ∷ l) (set_last front x y)

get_last : {A : Type 0} (front : List A) (x d : A) → slice_index_or (front ++ x ∷ []) (length front) d ≡ x
get_last [] x d = refl
get_last (z ∷ front) x d = get_last front x d

one_more : (front : List (List Head)) (heads : List Head) (h : Head)
    → with_member (front ++ heads ∷ []) (4 + length front) h ≡ front ++ (heads ++ h ∷ []) ∷ []
one_more front heads h =
    let place : 4 + length front - 4 ≡ length front = omega arith in
    ap (λ n. set (front ++ heads ∷ []) n (slice_index_or (front ++ heads ∷ []) n [] ++ h ∷ [])) place
    ∙ ap (λ hs. set (front ++ heads ∷ []) (length front) (hs ++ h ∷ [])) (get_last front heads [])
    ∙ set_last front heads (heads ++ h ∷ [])

-- ---- the places that list no class

abbrev IsOther : Place → Type 0
IsOther (NewClass name) = ⊥
IsOther (Member class member) = ⊥
IsOther p = Unit {0}

others_of : {A : Type 0} (f : A → Place) (xs : List A) → ((x : A) → IsOther (f x)) → AllByRecursion IsOther (map f xs)
others_of f [] is = tt
others_of f (x ∷ xs) is = (is x, others_of f xs is)

symbols_other : (items : List SymbolItem) → AllByRecursion IsOther (flat_map symbol_places items)
symbols_other [] = tt
symbols_other (Declares name arity ∷ items) = (tt, symbols_other items)
symbols_other (IncludesClasses include names ∷ items) =
    all_both IsOther (map Class names) (flat_map symbol_places items) (others_of Class names (λ n. tt)) (symbols_other items)

restriction_other : (r : Restriction) → AllByRecursion IsOther (restriction_places r)
restriction_other (InClass name) = (tt, tt)
restriction_other (OneOf terms) = others_of Term terms (λ t. tt)

conditions_other : (before : List Token) (cs : List Condition) → AllByRecursion IsOther (condition_places before cs)
conditions_other before [] = tt
conditions_other before (c ∷ cs) =
    (tt, all_both IsOther (restriction_places c.restriction) (condition_places (before ++ c.variable ∷ []) cs) (restriction_other c.restriction) (conditions_other (before ++ c.variable ∷ []) cs))

items_other : (items : List EquationItem) → AllByRecursion IsOther (flat_map item_places items)
items_other [] = tt
items_other (Equates sides ∷ items) =
    (tt, (tt, all_both IsOther (condition_places [] sides.conditions) (flat_map item_places items) (conditions_other [] sides.conditions) (items_other items)))
items_other (IncludesOperations include names ∷ items) =
    all_both IsOther (map Operation names) (flat_map item_places items) (others_of Operation names (λ n. tt)) (items_other items)

-- ---- members by the grammar

-- the class has a member
abbrev IsFilled : ClassItem → Type 0
IsFilled c = 0 < length c.members

members_some : (ms : List Token) (xs : List Lexeme) → AreMembers ms xs → 0 < length ms
members_some [] xs s = absurd s
members_some (m ∷ ms) xs s = omega arith

item_filled : (c : ClassItem) (xs : List Lexeme) → IsClassItem c xs → IsFilled c
item_filled c xs (f, b, e, n, (g, d, e', colon, ms)) = members_some c.members d ms

list_filled : (cs : List ClassItem) (xs : List Lexeme) → Closed (IsKind Semicolon) (IsKind Dot) IsClassItem cs xs → AllByRecursion IsFilled cs
list_filled [] xs s = tt
list_filled (c ∷ cs) xs (f, b, e, i, inl (g, d, e', semicolon, more)) = (item_filled c f i, list_filled cs d more)
list_filled (c ∷ cs) xs (f, b, e, i, inr (none, dot)) = (item_filled c f i, subst (AllByRecursion IsFilled) (sym none) tt)

classes_filled : (cs : List ClassItem) (xs : List Lexeme) → AreClasses cs xs → AllByRecursion IsFilled cs
classes_filled [] xs s = tt
classes_filled (c ∷ cs) xs (f, b, e, w, (g, d, e', i, inl (k, l, e'', semicolon, more))) = (item_filled c g i, list_filled cs l more)
classes_filled (c ∷ cs) xs (f, b, e, w, (g, d, e', i, inr (none, dot))) = (item_filled c g i, subst (AllByRecursion IsFilled) (sym none) tt)

-- ---- what is known

-- each class has a name and a member
pub record AreFilled (k : Known) : Type 0 where
  pub named : length k.class_names ≡ length k.classes
  pub filled : AllByRecursion (λ (members : List Head). 0 < length members) k.classes

module _ (notation : Notation) (text : List ℕ) where
  taken_split : (xs ys : List Place) (old new : Known) → TakesAll notation text old (xs ++ ys) new
      → (mid : Known) × TakesAll notation text old xs mid × TakesAll notation text mid ys new
  taken_split [] ys old new all = (old, refl, all)
  taken_split (x ∷ xs) ys old new (next, t, all) = let (mid, first, second) = taken_split xs ys next new all in (mid, (next, t, first), second)

  kept : (p : Place) (a b : Known) → IsOther p → Takes notation text a p b → (b.class_names ≡ a.class_names) × (b.classes ≡ a.classes)
  kept (Symbol name arity) a b is (number, d, e) = (ap (λ (k : Known). k.class_names) e, ap (λ (k : Known). k.classes) e)
  kept (Class name) a b is (d, e) = (ap (λ (k : Known). k.class_names) e, ap (λ (k : Known). k.classes) e)
  kept (NewClass name) a b is t = absurd is
  kept (Member class member) a b is t = absurd is
  kept (Variable name) a b is (d, e) = (ap (λ (k : Known). k.class_names) e, ap (λ (k : Known). k.classes) e)
  kept (Term byte) a b is (pattern, end, reads, e) = (ap (λ (k : Known). k.class_names) e, ap (λ (k : Known). k.classes) e)
  kept (Qualified before name) a b is (has, fresh, e) = (ap (λ (k : Known). k.class_names) e, ap (λ (k : Known). k.classes) e)
  kept (ClassOf name) a b is (has, e) = (ap (λ (k : Known). k.class_names) e, ap (λ (k : Known). k.classes) e)
  kept (Operation name) a b is (op, named, fresh, needs, e) = (ap (λ (k : Known). k.class_names) e, ap (λ (k : Known). k.classes) e)

  others_kept : (ps : List Place) (a b : Known) → AllByRecursion IsOther ps → TakesAll notation text a ps b → (b.class_names ≡ a.class_names) × (b.classes ≡ a.classes)
  others_kept [] a b is e = (ap (λ (k : Known). k.class_names) e, ap (λ (k : Known). k.classes) e)
  others_kept (p ∷ ps) a b is (next, t, ts) =
      let here = kept p a next is.0 t in
      let later = others_kept ps next b is.1 ts in
      (later.0 ∙ here.0, later.1 ∙ here.1)

  others_filled : (ps : List Place) (a b : Known) → AllByRecursion IsOther ps → TakesAll notation text a ps b → AreFilled a → AreFilled b
  others_filled ps a b is t f =
      let same = others_kept ps a b is t in
      record {
        named = ap length same.0 ∙ f.named ∙ sym (ap length same.1);
        filled = subst (AllByRecursion (λ (members : List Head). 0 < length members)) (sym same.1) f.filled;
      }

  -- the members of the last class
  members_taken : (front : List (List Head)) (heads : List Head) (ms : List Token) (a b : Known) → a.classes ≡ front ++ heads ∷ []
      → TakesAll notation text a (map (Member (4 + length front)) ms) b
      → (more : List Head) × (b.classes ≡ front ++ (heads ++ more) ∷ []) × (length more ≡ length ms) × (b.class_names ≡ a.class_names)
  members_taken front heads [] a b is e =
      ([], ap (λ (k : Known). k.classes) e ∙ is ∙ ap (λ hs. front ++ hs ∷ []) (sym (append-nil heads)), refl, ap (λ (k : Known). k.class_names) e)
  members_taken front heads (m ∷ ms) a b is (next, (h, means, fresh, few, e), ts) =
      let here : next.classes ≡ front ++ (heads ++ h ∷ []) ∷ [] = ap (λ (k : Known). k.classes) e ∙ ap (λ cs. with_member cs (4 + length front) h) is ∙ one_more front heads h in
      let (more, classes, long, names) = members_taken front (heads ++ h ∷ []) ms next b here ts in (
        h ∷ more,
        classes ∙ ap (λ hs. front ++ hs ∷ []) (append_assoc heads (h ∷ []) more),
        omega (arith, long),
        names ∙ ap (λ (k : Known). k.class_names) e,
      )

  class_filled : (c : ClassItem) (a b : Known) → IsFilled c → AreFilled a → TakesAll notation text a (class_places (4 + length a.classes) c) b
      → AreFilled b × (length b.classes ≡ length a.classes + 1)
  class_filled c a b some f (next, (fresh, few, e), ts) =
      let (heads, classes, long, names) = members_taken a.classes [] c.members next b (ap (λ (k : Known). k.classes) e) ts in
      let more = ap length classes ∙ length-append a.classes (heads ∷ []) in
      let named = ap length (names ∙ ap (λ (k : Known). k.class_names) e) ∙ length-append a.class_names _ in
      let has : 0 < length heads = omega (arith, long, some) in (
        record {
          named = omega (arith, named, more, f.named);
          filled = subst (AllByRecursion (λ (members : List Head). 0 < length members)) (sym classes) (all_both _ a.classes (heads ∷ []) f.filled (has, tt));
        },
        more,
      )

  list_taken : (cs : List ClassItem) (class : ℕ) (a b : Known) → class ≡ 4 + length a.classes → AllByRecursion IsFilled cs → AreFilled a
      → TakesAll notation text a (classes_places class cs) b → AreFilled b
  list_taken [] class a b number some f e = subst AreFilled (sym e) f
  list_taken (c ∷ cs) class a b number some f t =
      let (mid, first, second) = taken_split (class_places class c) (classes_places (class + 1) cs) a b t in
      let (g, more) = class_filled c a mid some.0 f (subst (λ n. TakesAll notation text a (class_places n c) mid) number first) in
      list_taken cs (class + 1) mid b (omega (arith, number, more)) some.1 g second

  -- what is known behind the names of a file
  pub file_filled : (file : File) (known : Known) → IsFileText notation text file → TakesAll notation text nothing_known (places_of file) known → AreFilled known
  file_filled file known reads t =
      let symbols = flat_map symbol_places file.symbols in
      let classes = classes_places 4 file.classes in
      let variables = map Variable file.variables in
      let items = flat_map item_places file.items in
      let (behind, before, of_items) = taken_split (symbols ++ (classes ++ variables)) items nothing_known known t in
      let (named, of_symbols, of_listed) = taken_split symbols (classes ++ variables) nothing_known behind before in
      let (listed, of_classes, of_variables) = taken_split classes variables named behind of_listed in
      let (f1, b1, e1, w1, (f2, b2, e2, ss, (f3, b3, e3, cs, rest))) = reads.spelled in
      let none : AreFilled nothing_known = record { named = refl; filled = tt } in
      let no_classes = others_kept symbols nothing_known named (symbols_other file.symbols) of_symbols in
      let at_symbols = others_filled symbols nothing_known named (symbols_other file.symbols) of_symbols none in
      let number : 4 ≡ 4 + length named.classes = ap (λ (l : List (List Head)). 4 + length l) (sym no_classes.1) in
      let at_classes = list_taken file.classes 4 named listed number (classes_filled file.classes f3 cs) at_symbols of_classes in
      let at_variables = others_filled variables listed behind (others_of Variable file.variables (λ v. tt)) of_variables at_classes in
      others_filled items behind known (items_other file.items) of_items at_variables
