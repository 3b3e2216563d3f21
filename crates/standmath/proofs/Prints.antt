-- What is left to write, before and after an argument.
use Rattle.std.proofs.Common.{◌≡◌, ◌≢◌, ◌*◌, length, subst, add-one, length-append, ℕ, zero, suc, ◌+◌, ◌<◌, List, [], ◌∷◌, ◌++◌, Some, refl, sym, ◌∙◌, ap, append_assoc, arith, reverse}
use Rattle.std.proofs.lemmas.List.{reverse-append}
use Rattle.std.specs.Prelude.{codes}
use Rattle.eq_base.specs.Tree.{Tree, Forest, node, empty, grow, count, args_of, arity_of, head_of, subtree_at, subtree_in, map_heads, map_all_heads, AllHeadsIn}
use Rattle.eq_base.specs.Storing.{later_trees}
use Rattle.eq_base.specs.declared.head.Head.{Head}
use Rattle.eq_base.proofs.Trees.{later_trees-at, later_trees-count, subtree_in-argument}
use Rattle.symbol_table.specs.Table.{Table, names_of}
use Rattle.symbol_table.specs.Reading.{read_head, read, IsLiveHead, IsLiveTerm}
use Rattle.symbol_table.proofs.LiveTerms.{live-argument}
use Rattle.written_terms.specs.Printing.{head_text, text_in}
use Rattle.standmath.specs.Printing.{print, print_by, in_brackets, behind_commas}
use Rattle.standmath.specs.Writing.{text_before, text_end, text_behind, text_left, IsOpen, AreOpen}
use Rattle.eq_base.specs.View.{tree_at, IsArgument}
use Rattle.standmath.specs.declared.write.Open.{Open}

-- what stands behind all arguments
pub text_behind-end : (text_of : Head → List ℕ) (args : Forest Head) (n : ℕ) → n ≡ count args → text_behind text_of args n ≡ text_end n
text_behind-end text_of empty zero is = refl
text_behind-end text_of (grow t ts) zero is = absurd (omega arith)
text_behind-end text_of args (suc n) is = ap (λ ts. behind_commas text_of ts ++ codes ")") (later_trees-count (suc n) args is)

-- what stands behind some arguments: the next one, and what stands behind that
pub text_behind-next : (text_of : Head → List ℕ) (args : Forest Head) (i : ℕ) (t : Tree Head) → subtree_in args i [] ≡ Some t → text_behind text_of args i ≡ text_before i ++ print_by text_of t ++ text_behind text_of args (suc i)
text_behind-next text_of args zero t is =
    ap (in_brackets text_of) (later_trees-at zero args t is) ∙ append_assoc (codes "(" ++ print_by text_of t) (behind_commas text_of (later_trees 1 args)) (codes ")")
text_behind-next text_of args (suc i) t is =
    ap (λ ts. behind_commas text_of ts ++ codes ")") (later_trees-at (suc i) args t is)
    ∙ append_assoc (codes ", " ++ print_by text_of t) (behind_commas text_of (later_trees (suc (suc i)) args)) (codes ")")

-- a print is a head, and what stands behind it
pub print-head : (text_of : Head → List ℕ) (t : Tree Head) → print_by text_of t ≡ text_of (head_of t) ++ text_behind text_of (args_of t) 0
print-head text_of (node head args) = refl

module _ (text_of : Head → List ℕ) (trees : List (Tree Head)) where
  -- an application whose arguments are all written
  pub text_left-end : (n i : ℕ) (others : List Open) → i ≡ arity_of (tree_at trees n) → text_left text_of trees (record { node = n; written = i } ∷ others) ≡ text_end i ++ text_left text_of trees others
  text_left-end n i others all = ap (λ x. x ++ text_left text_of trees others) (text_behind-end text_of (args_of (tree_at trees n)) i all)

  -- an application with a further argument, before and after the head of the argument
  pub text_left-argument : (n i m : ℕ) (others : List Open) → subtree_at (tree_at trees n) (i ∷ []) ≡ Some (tree_at trees m)
      → text_left text_of trees (record { node = n; written = i } ∷ others)
      ≡ text_before i ++ text_of (head_of (tree_at trees m)) ++ text_left text_of trees (record { node = m; written = 0 } ∷ record { node = n; written = i + 1 } ∷ others)
  text_left-argument n i m others is =
      let t = tree_at trees n in
      let u = tree_at trees m in
      let behind = text_behind text_of (args_of t) (suc i) in
      ap (λ x. x ++ text_left text_of trees others)
      (text_behind-next text_of (args_of t) i u (subtree_in-argument t i u is) ∙ ap (λ p. text_before i ++ p ++ behind) (print-head text_of u))
      ∙ simp (append_assoc, add-one)

module _ (table : Table) (trees : List (Tree Head)) where
  -- both applications are open
  pub both_open : (n i m : ℕ) (others : List Open) → IsOpen table trees (record { node = n; written = i }) → i ≢ arity_of (tree_at trees n) → IsArgument trees n i m → AreOpen table trees others → AreOpen table trees (record { node = m; written = 0 } ∷ record { node = n; written = i + 1 } ∷ others)
  both_open n i m others here more argument below = (
    record { there = argument.there; written = omega arith; printable = live-argument table (tree_at trees n) i (tree_at trees m) argument.stands here.printable },
    (record { there = here.there; written = let most = here.written in omega arith; printable = here.printable }, below),
  )

-- a print of other heads is a print by other texts
module _ {A B : Type 0} (f : A → B) (text_of : B → List ℕ) where
  mutual
    pub print_by-map : (t : Tree A) → print_by text_of (map_heads f t) ≡ print_by (λ a. text_of (f a)) t
    print_by-map (node a args) = ap (λ x. text_of (f a) ++ x) (in_brackets-map args)

    in_brackets-map : (ts : Forest A) → in_brackets text_of (map_all_heads f ts) ≡ in_brackets (λ a. text_of (f a)) ts
    in_brackets-map empty = refl
    in_brackets-map (grow t ts) = rw (print_by-map t, behind_commas-map ts) refl

    behind_commas-map : (ts : Forest A) → behind_commas text_of (map_all_heads f ts) ≡ behind_commas (λ a. text_of (f a)) ts
    behind_commas-map empty = refl
    behind_commas-map (grow t ts) = rw (print_by-map t, behind_commas-map ts) refl

-- the print of a term, as the table reads it
pub print_read : (table : Table) (t : Tree Head) → print (names_of table) (read table t) ≡ print_by (text_in table) t
print_read table t = print_by-map (read_head table) (head_text (names_of table)) t

-- what is written is a part of what was left
pub written-left : (old before after a b whole rest : List ℕ) → before ≡ old ++ a → after ≡ before ++ b → whole ≡ a ++ b ++ rest → after ++ rest ≡ old ++ whole
written-left old before after a b whole rest one two parts =
    let left : after ++ rest ≡ ((old ++ a) ++ b) ++ rest = ap (λ x. x ++ rest) (two ∙ ap (λ x. x ++ b) one) in
    let regroup : ((old ++ a) ++ b) ++ rest ≡ old ++ (a ++ b ++ rest) = simp append_assoc in
    left ∙ regroup ∙ ap (λ x. old ++ x) (sym parts)

some_before : (i : ℕ) → 0 < length (text_before i)
some_before zero = omega arith
some_before (suc i) = omega arith

pub fewer_left : (i n : ℕ) (b whole rest : List ℕ) → whole ≡ text_before i ++ b ++ rest → 2 * length rest + suc (suc n) < 2 * length whole + suc n
fewer_left i n b whole rest parts = omega (arith, some_before i, ap length parts, length-append (text_before i ++ b) rest, length-append (text_before i) b)

pub reverse-two : {A : Type 0} (xs ys zs : List A) (a b : A) → ys ≡ xs ++ a ∷ [] → zs ≡ ys ++ b ∷ [] → reverse zs ≡ b ∷ a ∷ reverse xs
reverse-two xs ys zs a b one two =
    ap reverse two ∙ reverse-append ys (b ∷ []) ∙ ap (λ l. b ∷ l) (ap reverse one ∙ reverse-append xs (a ∷ []))
