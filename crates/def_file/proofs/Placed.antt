-- The tokens of a file stand in its text.
use Rattle.std.proofs.Common.{◌≡◌, ℕ, ◌+◌, ◌≤◌, List, [], ◌∷◌, ◌++◌, length, map, sym, subst, inl, inr, Ok, arith}
use Rattle.std.specs.Prelude.{codes}
use Rattle.std.specs.List.{AllByRecursion, flat_map}
use Rattle.eq_base.proofs.Lists.{all_both}
use Rattle.term_lex.specs.declared.token.Token.{Token}
use Rattle.term_lex.specs.declared.token.TokenKind.{TokenKind}
use Rattle.term_lex.specs.declared.token.TokenKind.TheVariants.{Name, Numeral, Comma, Semicolon, Dot}
use Rattle.term_lex.specs.Values.{IsTokenOf}
use Rattle.term_lex.specs.Lexemes.{Lexeme, Scans}
use Rattle.term_lex.specs.Parts.{IsKind, IsWord, Each, Led, Separated, Closed}
use Rattle.term_lex.proofs.Tokens.{token_within}
use Rattle.term_lex.proofs.LiteralTokens.{within_text}
use Rattle.written_terms.specs.Notation.{Notation}
use Rattle.def_file.specs.Trees.{SymbolItem, Declares, IncludesClasses, ClassItem, Restriction, InClass, OneOf, Condition, Sides, EquationItem, Equates, IncludesOperations, File}
use Rattle.def_file.specs.Grammar.{IsToken, IsTermFrom, IsNames, IsIncludeOf, IsSymbolItem, IsMember, IsClassItem, AreClasses, IsVariables, IsRestriction, IsCondition, IsWhere, IsEquation, IsItem, IsFile}
use Rattle.def_file.specs.Names.{Class, Member, Variable, Term, Operation, symbol_places, classes_places, listed_places, restriction_places, condition_places, equation_places, item_places}
use Rattle.def_file.specs.Naming.{IsPlaced, ArePlaced}
use Rattle.def_file.proofs.Namings.{all_split}

all_flat : {A B : Type 0} (P : B → Type 0) (f : A → List B) (xs : List A) → AllByRecursion (λ x. AllByRecursion P (f x)) xs → AllByRecursion P (flat_map f xs)
all_flat P f [] a = tt
all_flat P f (x ∷ xs) (h, hs) = all_both P (f x) (flat_map f xs) h (all_flat P f xs hs)

module _ (notation : Notation) (text : List ℕ) where
  -- each of the lexemes is a token of the text
  abbrev Held : List Lexeme → Type 0
  Held xs = AllByRecursion (λ x. IsTokenOf text x.token) xs

  held : (at end : ℕ) (xs : List Lexeme) → at ≤ length text → Scans text at xs end → Held xs
  held at end [] le s = tt
  held at end (x ∷ xs) le (found, s) = ((at, le, found.0), held x.token.to end xs (token_within text at (Ok x.token) le found.0).ends s)

  -- the parts of a sequence
  held_first : (xs front back : List Lexeme) → xs ≡ front ++ back → Held xs → Held front
  held_first xs front back e h = (all_split (λ (x : Lexeme). IsTokenOf text x.token) front back (subst Held e h)).0

  held_second : (xs front back : List Lexeme) → xs ≡ front ++ back → Held xs → Held back
  held_second xs front back e h = (all_split (λ (x : Lexeme). IsTokenOf text x.token) front back (subst Held e h)).1

  token_placed : (k : TokenKind) (t : Token) (xs : List Lexeme) → Held xs → IsToken k t xs → IsTokenOf text t × (t.kind ≡ k)
  token_placed k t xs h (x, e, (kind, same)) = let one = (subst Held e h).0 in (subst (IsTokenOf text) same one, subst (λ (u : Token). u.kind ≡ k) same kind)

  term_placed : (byte : ℕ) (xs : List Lexeme) → Held xs → IsTermFrom notation byte xs → byte ≤ length text
  term_placed byte [] h (b, s) = absurd b
  term_placed byte (x ∷ xs) (h, hs) (b, s) = let w = within_text text x.token h in omega (arith, w.0, w.1, b)

  -- lists
  module _ {V : Type 0} (G : V → List Lexeme → Type 0) (P : V → Type 0) (each : (v : V) (xs : List Lexeme) → Held xs → G v xs → P v) where
    led_placed : (S : Lexeme → Type 0) (vs : List V) (xs : List Lexeme) → Held xs → Each (Led S G) vs xs → AllByRecursion P vs
    led_placed S [] xs h e = tt
    led_placed S (v ∷ vs) xs h (front, back, e, (f, b, e', s, g), r) =
        (each v b (held_second front f b e' (held_first xs front back e h)) g, led_placed S vs back (held_second xs front back e h) r)

    separated_placed : (S : Lexeme → Type 0) (vs : List V) (xs : List Lexeme) → Held xs → Separated S G vs xs → AllByRecursion P vs
    separated_placed S [] xs h s = absurd s
    separated_placed S (v ∷ vs) xs h (front, back, e, g, r) = (each v front (held_first xs front back e h) g, led_placed S vs back (held_second xs front back e h) r)

    closed_placed : (S C : Lexeme → Type 0) (vs : List V) (xs : List Lexeme) → Held xs → Closed S C G vs xs → AllByRecursion P vs
    closed_placed S C [] xs h s = tt
    closed_placed S C (v ∷ vs) xs h (front, back, e, g, inl (f, b, e', s, r)) =
        (each v front (held_first xs front back e h) g, closed_placed S C vs b (held_second back f b e' (held_second xs front back e h)) r)
    closed_placed S C (v ∷ vs) xs h (front, back, e, g, inr (none, c)) = (each v front (held_first xs front back e h) g, subst (AllByRecursion P) (sym none) tt)

  names_placed : (names : List Token) (xs : List Lexeme) → Held xs → IsNames names xs → AllByRecursion (IsTokenOf text) names
  names_placed names xs h n = separated_placed (IsToken Name) (IsTokenOf text) (λ t ys k i. (token_placed Name t ys k i).0) (IsKind Comma) names xs h n

  include_placed : (include : Token) (names : List Token) (xs : List Lexeme) → Held xs → IsIncludeOf (include, names) xs → AllByRecursion (IsTokenOf text) names
  include_placed include names xs h (front, back, e, i, n) = names_placed names back (held_second xs front back e h) n

  classes_placed : (names : List Token) → AllByRecursion (IsTokenOf text) names → ArePlaced text (map Class names)
  classes_placed [] a = tt
  classes_placed (n ∷ ns) (h, hs) = (h, classes_placed ns hs)

  variables_placed : (names : List Token) → AllByRecursion (IsTokenOf text) names → ArePlaced text (map Variable names)
  variables_placed [] a = tt
  variables_placed (n ∷ ns) (h, hs) = (h, variables_placed ns hs)

  operations_placed : (names : List Token) → AllByRecursion (IsTokenOf text) names → ArePlaced text (map Operation names)
  operations_placed [] a = tt
  operations_placed (n ∷ ns) (h, hs) = (h, operations_placed ns hs)

  terms_placed : (terms : List ℕ) → AllByRecursion (λ byte. byte ≤ length text) terms → ArePlaced text (map Term terms)
  terms_placed [] a = tt
  terms_placed (b ∷ bs) (h, hs) = (h, terms_placed bs hs)

  symbol_item_placed : (i : SymbolItem) (xs : List Lexeme) → Held xs → IsSymbolItem i xs → ArePlaced text (symbol_places i)
  symbol_item_placed (Declares name arity) xs h (other, (f, b, e, n, (g, c, e', colon, a))) =
      let behind = held_second xs f b e h in
      let numeral = token_placed Numeral arity c (held_second b g c e' behind) a in
      (((token_placed Name name f (held_first xs f b e h) n).0, numeral), tt)
  symbol_item_placed (IncludesClasses include names) xs h i = classes_placed names (include_placed include names xs h i)

  member_placed : (member : Token) (xs : List Lexeme) → Held xs → IsMember member xs → IsTokenOf text member
  member_placed member xs h (inl s) = (token_placed Name member xs h s).0
  member_placed member xs h (inr s) = (token_placed Numeral member xs h s).0

  -- a class whose name and members stand in the text
  abbrev ClassPlaced : ClassItem → Type 0
  ClassPlaced c = IsTokenOf text c.name × AllByRecursion (IsTokenOf text) c.members

  class_item_placed : (c : ClassItem) (xs : List Lexeme) → Held xs → IsClassItem c xs → ClassPlaced c
  class_item_placed c xs h (f, b, e, n, (g, d, e', colon, ms)) =
      let members = held_second b g d e' (held_second xs f b e h) in
      ((token_placed Name c.name f (held_first xs f b e h) n).0, separated_placed IsMember (IsTokenOf text) member_placed (IsKind Comma) c.members d members ms)

  class_list_placed : (cs : List ClassItem) (xs : List Lexeme) → Held xs → AreClasses cs xs → AllByRecursion ClassPlaced cs
  class_list_placed [] xs h s = tt
  class_list_placed (c ∷ cs) xs h (f, b, e, w, (g, d, e', i, inl (k, l, e'', semicolon, more))) =
      let behind = held_second xs f b e h in
      let rest = held_second d k l e'' (held_second b g d e' behind) in
      (class_item_placed c g (held_first b g d e' behind) i, closed_placed IsClassItem ClassPlaced class_item_placed (IsKind Semicolon) (IsKind Dot) cs l rest more)
  class_list_placed (c ∷ cs) xs h (f, b, e, w, (g, d, e', i, inr (none, dot))) =
      (class_item_placed c g (held_first b g d e' (held_second xs f b e h)) i, subst (AllByRecursion ClassPlaced) (sym none) tt)

  members_placed : (class : ℕ) (members : List Token) → AllByRecursion (IsTokenOf text) members → ArePlaced text (map (Member class) members)
  members_placed class [] a = tt
  members_placed class (m ∷ ms) (h, hs) = (h, members_placed class ms hs)

  class_places_placed : (class : ℕ) (cs : List ClassItem) → AllByRecursion ClassPlaced cs → ArePlaced text (classes_places class cs)
  class_places_placed class [] a = tt
  class_places_placed class (c ∷ cs) ((n, ms), a) =
      (n, all_both (IsPlaced text) (map (Member class) c.members) (classes_places (class + 1) cs) (members_placed class c.members ms) (class_places_placed (class + 1) cs a))

  restriction_placed : (r : Restriction) (xs : List Lexeme) → Held xs → IsRestriction notation r xs → ArePlaced text (restriction_places r)
  restriction_placed (InClass name) xs h (f, b, e, w, t) = ((token_placed Name name b (held_second xs f b e h) t).0, tt)
  restriction_placed (OneOf terms) xs h (f, b, e, w, (g, c, e', ts, end)) =
      terms_placed terms (separated_placed (IsTermFrom notation) (λ byte. byte ≤ length text) term_placed (IsWord (codes "or")) terms g (held_first b g c e' (held_second xs f b e h)) ts)

  -- a condition whose name and whose places stand in the text
  abbrev ConditionPlaced : Condition → Type 0
  ConditionPlaced c = IsTokenOf text c.variable × ArePlaced text (restriction_places c.restriction)

  condition_placed : (c : Condition) (xs : List Lexeme) → Held xs → IsCondition notation c xs → ConditionPlaced c
  condition_placed c xs h (f, b, e, v, (g, d, e', i, r)) =
      ((token_placed Name c.variable f (held_first xs f b e h) v).0, restriction_placed c.restriction d (held_second b g d e' (held_second xs f b e h)) r)

  conditions_placed : (before : List Token) (cs : List Condition) → AllByRecursion (IsTokenOf text) before → AllByRecursion ConditionPlaced cs → ArePlaced text (condition_places before cs)
  conditions_placed before [] b a = tt
  conditions_placed before (c ∷ cs) b ((v, r), a) =
      ((b, v), all_both (IsPlaced text) (restriction_places c.restriction) (condition_places (before ++ c.variable ∷ []) cs) r (conditions_placed (before ++ c.variable ∷ []) cs (all_both (IsTokenOf text) before (c.variable ∷ []) b (v, tt)) a))

  where_placed : (cs : List Condition) (xs : List Lexeme) → Held xs → IsWhere notation cs xs → ArePlaced text (condition_places [] cs)
  where_placed [] xs h w = tt
  where_placed (c ∷ cs) xs h (f, b, e, w, (g, d, e', s, end)) =
      conditions_placed [] (c ∷ cs) tt (separated_placed (IsCondition notation) ConditionPlaced condition_placed (IsKind Comma) (c ∷ cs) g (held_first b g d e' (held_second xs f b e h)) s)

  equation_placed : (s : Sides) (xs : List Lexeme) → Held xs → IsEquation notation s xs → ArePlaced text (equation_places s)
  equation_placed s xs h (f, b, e, l, (g, c, e', eq, (k, d, e'', r, w))) =
      let behind = held_second b g c e' (held_second xs f b e h) in
      (term_placed s.left f (held_first xs f b e h) l, (term_placed s.right k (held_first c k d e'' behind) r, where_placed s.conditions d (held_second c k d e'' behind) w))

  item_placed : (i : EquationItem) (xs : List Lexeme) → Held xs → IsItem notation i xs → ArePlaced text (item_places i)
  item_placed (Equates s) xs h (other, q) = equation_placed s xs h q
  item_placed (IncludesOperations include names) xs h i = operations_placed names (include_placed include names xs h i)

  list_placed : (vs : List Token) (xs : List Lexeme) → Held xs → IsVariables vs xs → ArePlaced text (map Variable vs)
  list_placed [] xs h v = tt
  list_placed (v ∷ vs) xs h (f, b, e, n, c) = variables_placed (v ∷ vs) (names_placed (v ∷ vs) f (held_first xs f b e h) n)

  -- the places of a file that is read stand in the text
  pub record FilePlaced (file : File) : Type 0 where
    pub symbols : ArePlaced text (flat_map symbol_places file.symbols)
    pub listed : ArePlaced text (listed_places file)
    pub items : ArePlaced text (flat_map item_places file.items)

  pub file_placed : (file : File) (xs : List Lexeme) (end : ℕ) → Scans text 0 xs end → IsFile notation file xs → FilePlaced file
  file_placed file xs end scanned (f1, b1, e1, w1, (f2, b2, e2, ss, (f, b, e', cs, (f3, b3, e3, w3, (f4, b4, e4, w4, (f5, b5, e5, vs, (f6, b6, e6, is, e))))))) =
      let h1 = held_second xs f1 b1 e1 (held 0 end xs (omega arith) scanned) in
      let h2 = held_second b1 f2 b2 e2 h1 in
      let hc = held_second b2 f b e' h2 in
      let h3 = held_second b f3 b3 e3 hc in
      let h4 = held_second b3 f4 b4 e4 h3 in
      let h5 = held_second b4 f5 b5 e5 h4 in
      record {
        symbols = all_flat (IsPlaced text) symbol_places file.symbols (closed_placed IsSymbolItem (λ i. ArePlaced text (symbol_places i)) symbol_item_placed (IsKind Semicolon) (IsKind Dot) file.symbols f2 (held_first b1 f2 b2 e2 h1) ss);
        listed = all_both (IsPlaced text) (classes_places 4 file.classes) (map Variable file.variables) (class_places_placed 4 file.classes (class_list_placed file.classes f (held_first b2 f b e' h2) cs)) (list_placed file.variables f5 (held_first b4 f5 b5 e5 h4) vs);
        items = all_flat (IsPlaced text) item_places file.items (closed_placed (IsItem notation) (λ i. ArePlaced text (item_places i)) item_placed (IsKind Semicolon) (IsKind Dot) file.items f6 (held_first b5 f6 b6 e6 h5) is);
      }
