-- What is left to write, before and behind the front of a piece.
use Rattle.std.proofs.Common.{◌≡◌, ℕ, zero, suc, ◌+◌, ◌<◌, List, [], ◌∷◌, ◌++◌, length, Some, None, refl, sym, ap, ◌∙◌, subst, append_assoc, append-nil, arith, length-append}
use Rattle.std.specs.Prelude.{codes, IsSome}
use Rattle.eq_base.specs.Tree.{Tree, Forest, node, empty, grow, count, args_of, arity_of, head_of, subtree_at, subtree_in, map_heads, map_all_heads, AllHeadsIn}
use Rattle.eq_base.specs.Storing.{later_trees}
use Rattle.eq_base.specs.View.{tree_at, IsArgument}
use Rattle.eq_base.specs.declared.head.Head.{Head}
use Rattle.eq_base.proofs.Trees.{count-map_all_heads, later_trees-at, later_trees-count, subtree_in-argument}
use Rattle.symbol_table.specs.Table.{Table, names_of}
use Rattle.symbol_table.specs.Reading.{read_head, read, IsLiveHead, IsLiveTerm}
use Rattle.symbol_table.proofs.LiveTerms.{live-argument}
use Rattle.written_terms.specs.Printing.{head_text, text_in}
use Rattle.lisp_m.specs.declared.write.Part.{Part}
use Rattle.lisp_m.specs.declared.write.Part.TheVariants.{Element, End, Other}
use Rattle.lisp_m.specs.declared.write.Piece.{Piece}
use Rattle.lisp_m.specs.declared.write.Piece.TheVariants.{Term, Arguments, ListRest}
use Rattle.lisp_m.specs.Printing.{choose, list_part, print, print_by, print_rest, in_brackets, in_list, behind_element, behind_semicolons}
use Rattle.lisp_m.specs.Writing.{part_in, print_in, piece_text, IsNode, IsPiece, IsElement, WritesFront}

-- ---- the prints, by what a term is in a list

module _ (text_of : Head → List ℕ) (part_of : Head → ℕ → Part) where
  abbrev part : Tree Head → Part
  part t = part_of (head_of t) (arity_of t)

  in_list-two : (args : Forest Head) (t u : Tree Head) → subtree_in args 0 [] ≡ Some t → subtree_in args 1 [] ≡ Some u → in_list text_of part_of args ≡ print_by text_of part_of t ++ print_rest text_of part_of u
  in_list-two empty t u is other = cc
  in_list-two (grow t' empty) t u is other = cc
  in_list-two (grow t' (grow u' more)) t u is other =
      let same : t' ≡ t = cc in
      let same' : u' ≡ u = cc in
      ap (λ x. print_by text_of part_of x ++ print_rest text_of part_of u') same ∙ ap (λ x. print_by text_of part_of t ++ print_rest text_of part_of x) same'

  print-element : (t a b : Tree Head) → part t ≡ Element → subtree_at t (0 ∷ []) ≡ Some a → subtree_at t (1 ∷ []) ≡ Some b → print_by text_of part_of t ≡ codes "(" ++ (print_by text_of part_of a ++ print_rest text_of part_of b)
  print-element (node head args) a b is first other =
      ap (λ p. choose p (codes "(" ++ in_list text_of part_of args) (codes "()") (text_of head ++ in_brackets text_of part_of args)) is ∙ ap (λ x. codes "(" ++ x) (in_list-two args a b first other)

  rest-element : (t a b : Tree Head) → part t ≡ Element → subtree_at t (0 ∷ []) ≡ Some a → subtree_at t (1 ∷ []) ≡ Some b → print_rest text_of part_of t ≡ codes " " ++ (print_by text_of part_of a ++ print_rest text_of part_of b)
  rest-element (node head args) a b is first other =
      ap (λ p. choose p (codes " " ++ in_list text_of part_of args) (codes ")") (codes " . " ++ text_of head ++ in_brackets text_of part_of args ++ codes ")")) is ∙ ap (λ x. codes " " ++ x) (in_list-two args a b first other)

  print-end : (t : Tree Head) → part t ≡ End → print_by text_of part_of t ≡ codes "()"
  print-end (node head args) is = ap (λ p. choose p (codes "(" ++ in_list text_of part_of args) (codes "()") (text_of head ++ in_brackets text_of part_of args)) is

  rest-end : (t : Tree Head) → part t ≡ End → print_rest text_of part_of t ≡ codes ")"
  rest-end (node head args) is = ap (λ p. choose p (codes " " ++ in_list text_of part_of args) (codes ")") (codes " . " ++ text_of head ++ in_brackets text_of part_of args ++ codes ")")) is

  print-other : (t : Tree Head) → part t ≡ Other → print_by text_of part_of t ≡ text_of (head_of t) ++ in_brackets text_of part_of (args_of t)
  print-other (node head args) is = ap (λ p. choose p (codes "(" ++ in_list text_of part_of args) (codes "()") (text_of head ++ in_brackets text_of part_of args)) is

  rest-other : (t : Tree Head) → part t ≡ Other → print_rest text_of part_of t ≡ codes " . " ++ (print_by text_of part_of t ++ codes ")")
  rest-other (node head args) is =
      ap (λ p. choose p (codes " " ++ in_list text_of part_of args) (codes ")") (codes " . " ++ text_of head ++ in_brackets text_of part_of args ++ codes ")")) is
      ∙ append_assoc (codes " . " ++ text_of head) (in_brackets text_of part_of args) (codes ")")
      ∙ append_assoc (codes " . ") (text_of head) (in_brackets text_of part_of args ++ codes ")")
      ∙ ap (λ x. codes " . " ++ x) (sym (append_assoc (text_of head) (in_brackets text_of part_of args) (codes ")")) ∙ ap (λ x. x ++ codes ")") (sym (print-other (node head args) is)))

  -- the arguments of a term: none, or the first one and what stands behind it
  brackets-none : (args : Forest Head) → count args ≡ 0 → in_brackets text_of part_of args ≡ []
  brackets-none empty none = refl
  brackets-none (grow t ts) none = absurd (omega arith)

  brackets-first : (args : Forest Head) (t : Tree Head) → subtree_in args 0 [] ≡ Some t → in_brackets text_of part_of args ≡ codes "[" ++ (print_by text_of part_of t ++ (behind_semicolons text_of part_of (later_trees 1 args) ++ codes "]"))
  brackets-first args t is =
      ap (in_brackets text_of part_of) (later_trees-at 0 args t is)
      ∙ append_assoc (codes "[" ++ print_by text_of part_of t) (behind_semicolons text_of part_of (later_trees 1 args)) (codes "]")

  semicolons-none : (args : Forest Head) (n : ℕ) → n ≡ count args → behind_semicolons text_of part_of (later_trees n args) ++ codes "]" ≡ codes "]"
  semicolons-none args n all = ap (λ ts. behind_semicolons text_of part_of ts ++ codes "]") (later_trees-count n args all)

  semicolons-next : (args : Forest Head) (n : ℕ) (t : Tree Head) → subtree_in args n [] ≡ Some t
      → behind_semicolons text_of part_of (later_trees n args) ++ codes "]" ≡ codes "; " ++ (print_by text_of part_of t ++ (behind_semicolons text_of part_of (later_trees (suc n) args) ++ codes "]"))
  semicolons-next args n t is =
      ap (λ ts. behind_semicolons text_of part_of ts ++ codes "]") (later_trees-at n args t is)
      ∙ append_assoc (codes "; " ++ print_by text_of part_of t) (behind_semicolons text_of part_of (later_trees (suc n) args)) (codes "]")

-- ---- the front of a piece

module _ (table : Table) (trees : List (Tree Head)) where
  -- the rest of a list, as the table reads it
  abbrev pub rest_in : Tree Head → List ℕ
  rest_in t = print_rest (text_in table) (part_in table) t

  -- a front behind which nothing is left, and one behind which two pieces are
  pub ends : (old new text bytes : List ℕ) → new ≡ old ++ bytes → text ≡ bytes → WritesFront table trees old new text None
  ends old new text bytes added whole = record { bytes = bytes; added = added; whole = whole ∙ sym (append-nil bytes); some = λ (n : IsSome {T = Piece × Piece} None). cc; pieces = tt }

  pub goes_on : (old new text bytes : List ℕ) (first second : Piece) → new ≡ old ++ bytes → text ≡ bytes ++ (piece_text table trees first ++ piece_text table trees second) → 0 < length bytes → IsPiece table trees first → IsPiece table trees second → WritesFront table trees old new text (Some (first, second))
  goes_on old new text bytes first second added whole some one two = record {
    bytes = bytes;
    added = added;
    whole = whole ∙ ap (λ x. bytes ++ (piece_text table trees first ++ x)) (sym (append-nil (piece_text table trees second)));
    some = λ _. some;
    pieces = (one, (two, tt));
  }

  -- an argument of a here that can be printed
  pub argument_node : (n i m : ℕ) → IsNode table trees n → IsArgument trees n i m → IsNode table trees m
  argument_node n i m here argument = record { there = argument.there; live = live-argument table (tree_at trees n) i (tree_at trees m) argument.stands here.live }

  -- an element is left, and the rest of its list
  pub element_goes_on : (n : ℕ) (old new text bytes : List ℕ) (pair : Piece × Piece) → IsNode table trees n → (e : IsElement trees n pair.0 pair.1) → new ≡ old ++ bytes → 0 < length bytes
      → text ≡ bytes ++ (print_in table (tree_at trees e.first) ++ rest_in (tree_at trees e.other)) → WritesFront table trees old new text (Some pair)
  element_goes_on n old new text bytes pair here e added some whole =
      subst (λ p. WritesFront table trees old new text (Some (p, pair.1))) (sym e.element_is)
      (subst (λ p. WritesFront table trees old new text (Some (Term e.first, p))) (sym e.rest_is)
      (goes_on old new text bytes (Term e.first) (ListRest e.other) added whole some (argument_node n 0 e.first here e.first_stands) (argument_node n 1 e.other here e.other_stands)))

  -- the beginning of a list, and of the rest of one
  pub element_begins : (n : ℕ) (old new : List ℕ) (pair : Piece × Piece) → IsNode table trees n → part_in table (head_of (tree_at trees n)) (arity_of (tree_at trees n)) ≡ Element → (e : IsElement trees n pair.0 pair.1) → new ≡ old ++ codes "("
      → WritesFront table trees old new (print_in table (tree_at trees n)) (Some pair)
  element_begins n old new pair here is e added =
      element_goes_on n old new _ (codes "(") pair here e added (omega arith) (print-element (text_in table) (part_in table) (tree_at trees n) (tree_at trees e.first) (tree_at trees e.other) is e.first_stands.stands e.other_stands.stands)

  pub element_follows : (n : ℕ) (old new : List ℕ) (pair : Piece × Piece) → IsNode table trees n → part_in table (head_of (tree_at trees n)) (arity_of (tree_at trees n)) ≡ Element → (e : IsElement trees n pair.0 pair.1) → new ≡ old ++ codes " "
      → WritesFront table trees old new (rest_in (tree_at trees n)) (Some pair)
  element_follows n old new pair here is e added =
      element_goes_on n old new _ (codes " ") pair here e added (omega arith) (rest-element (text_in table) (part_in table) (tree_at trees n) (tree_at trees e.first) (tree_at trees e.other) is e.first_stands.stands e.other_stands.stands)

  -- a term that is no list: its head, and what stands behind it
  pub constant_ends : (n : ℕ) (old new : List ℕ) → part_in table (head_of (tree_at trees n)) (arity_of (tree_at trees n)) ≡ Other → arity_of (tree_at trees n) ≡ 0 → new ≡ old ++ text_in table (head_of (tree_at trees n))
      → WritesFront table trees old new (print_in table (tree_at trees n)) None
  constant_ends n old new is none added =
      let t = tree_at trees n in
      ends old new _ (text_in table (head_of t)) added
      (print-other (text_in table) (part_in table) t is ∙ ap (λ x. text_in table (head_of t) ++ x) (brackets-none (text_in table) (part_in table) (args_of t) none) ∙ append-nil (text_in table (head_of t)))

  pub application_begins : (n m : ℕ) (old mid new : List ℕ) → IsNode table trees n → part_in table (head_of (tree_at trees n)) (arity_of (tree_at trees n)) ≡ Other → (0 < arity_of (tree_at trees n)) → IsArgument trees n 0 m
      → mid ≡ old ++ text_in table (head_of (tree_at trees n)) → new ≡ mid ++ codes "[" → WritesFront table trees old new (print_in table (tree_at trees n)) (Some (Term m, Arguments n 1))
  application_begins n m old mid new here is some argument head added =
      let t = tree_at trees n in
      let word = text_in table (head_of t) in
      let first = subtree_in-argument t 0 (tree_at trees m) argument.stands in
      goes_on old new _ (word ++ codes "[") (Term m) (Arguments n 1) (added ∙ ap (λ x. x ++ codes "[") head ∙ append_assoc old word (codes "["))
      (print-other (text_in table) (part_in table) t is ∙ ap (λ x. word ++ x) (brackets-first (text_in table) (part_in table) (args_of t) (tree_at trees m) first) ∙ sym (append_assoc word (codes "[") _))
      (omega (arith, length-append word (codes "[")))
      (argument_node n 0 m here argument)
      (here, omega arith)

  -- what stands behind some arguments
  pub arguments_end : (n written : ℕ) (old new : List ℕ) → written ≡ arity_of (tree_at trees n) → new ≡ old ++ codes "]" → WritesFront table trees old new (piece_text table trees (Arguments n written)) None
  arguments_end n written old new all added = ends old new _ (codes "]") added (semicolons-none (text_in table) (part_in table) (args_of (tree_at trees n)) written all)

  pub arguments_go_on : (n written m : ℕ) (old new : List ℕ) → IsNode table trees n → written < arity_of (tree_at trees n) → IsArgument trees n written m → new ≡ old ++ codes "; " → WritesFront table trees old new (piece_text table trees (Arguments n written)) (Some (Term m, Arguments n (written + 1)))
  arguments_go_on n written m old new here more argument added =
      let t = tree_at trees n in
      let next : suc written ≡ written + 1 = omega arith in
      subst (λ k. WritesFront table trees old new (piece_text table trees (Arguments n written)) (Some (Term m, Arguments n k))) next
      (goes_on old new _ (codes "; ") (Term m) (Arguments n (suc written)) added (semicolons-next (text_in table) (part_in table) (args_of t) written (tree_at trees m) (subtree_in-argument t written (tree_at trees m) argument.stands)) (omega arith) (argument_node n written m here argument) (here, omega arith))

-- ---- a print of other heads is a print by other texts and parts

module _ {A B : Type 0} (f : A → B) (text_of : B → List ℕ) (part_of : B → ℕ → Part) where
  abbrev text_by : A → List ℕ
  text_by a = text_of (f a)

  abbrev part_by : A → ℕ → Part
  part_by a n = part_of (f a) n

  mutual
    pub print_by-map : (t : Tree A) → print_by text_of part_of (map_heads f t) ≡ print_by text_by part_by t
    print_by-map (node a args) = rw (count-map_all_heads f args, in_list-map args, in_brackets-map args) refl

    in_brackets-map : (ts : Forest A) → in_brackets text_of part_of (map_all_heads f ts) ≡ in_brackets text_by part_by ts
    in_brackets-map empty = refl
    in_brackets-map (grow t ts) = rw (print_by-map t, behind_semicolons-map ts) refl

    behind_semicolons-map : (ts : Forest A) → behind_semicolons text_of part_of (map_all_heads f ts) ≡ behind_semicolons text_by part_by ts
    behind_semicolons-map empty = refl
    behind_semicolons-map (grow t ts) = rw (print_by-map t, behind_semicolons-map ts) refl

    in_list-map : (ts : Forest A) → in_list text_of part_of (map_all_heads f ts) ≡ in_list text_by part_by ts
    in_list-map empty = refl
    in_list-map (grow t ts) = rw (print_by-map t, behind_element-map ts) refl

    behind_element-map : (ts : Forest A) → behind_element text_of part_of (map_all_heads f ts) ≡ behind_element text_by part_by ts
    behind_element-map empty = refl
    behind_element-map (grow t ts) = print_rest-map t

    print_rest-map : (t : Tree A) → print_rest text_of part_of (map_heads f t) ≡ print_rest text_by part_by t
    print_rest-map (node a args) = rw (count-map_all_heads f args, in_list-map args, in_brackets-map args) refl

-- the print of a term, as the table reads it
pub print_read : (table : Table) (t : Tree Head) → print (names_of table) (read table t) ≡ print_in table t
print_read table t = print_by-map (read_head table) (head_text (names_of table)) (list_part (names_of table)) t
