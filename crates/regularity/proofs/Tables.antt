-- Numbers of arguments by a table, cell by cell.
use Rattle.std.proofs.Common.{◌≡◌, ℕ, zero, suc, ◌+◌, ◌-◌, ◌<◌, ◌≤◌, List, [], ◌∷◌, length, Some, get_or, refl, sym, ◌∙◌, ap, subst, arith, ⊎_elim}
use Rattle.std.proofs.lemmas.Bool.{cases_lt}
use Rattle.std.proofs.lemmas.Bool.Decides.{nat_tests}
use Rattle.std.proofs.lemmas.List.{get_or_default}
use Rattle.std.proofs.lemmas.Option.{get_or_from_slice_get}
use Rattle.std.specs.Prelude.{◌↔◌, IsTrue, All, Contains, slice_get, slice_index_or}
use Rattle.std.specs.List.{AllByRecursion}
use Rattle.eq_base.specs.Tree.{Tree, Forest, node, empty, grow, count, arity_of, size, subtrees, all_subtrees, nth_subtree}
use Rattle.eq_base.specs.Pattern.{PatternCell, fixed, variable, restricted}
use Rattle.eq_base.specs.Cells.{root_cell, arity_in}
use Rattle.eq_base.specs.ClassLists.{members_of}
use Rattle.eq_base.specs.Meeting.{in_symbol_class, same_head}
use Rattle.eq_base.specs.declared.head.Head.{Head}
use Rattle.eq_base.specs.declared.head.Head.TheVariants.{Symbol, Numeral, Atom, Text}
use Rattle.eq_base.specs.declared.rules.Equation.{Equation}
use Rattle.eq_base.specs.declared.head.Cell.{Cell}
use Rattle.eq_base.proofs.ClassMembers.{same_head_decides, symbol_class, listed_class, past_classes}
use Rattle.eq_base.proofs.Lists.{all_front, all_back}
use Rattle.eq_base.proofs.Trees.{length-subtrees}
use Rattle.regularity.specs.Arities.{HasArities, HaveArities}
use Rattle.regularity.specs.WellFormed.{arity_by, GivesConstantsNone, IsWellFormedBy}
use Rattle.regularity.specs.Looking.{HasArityBy}
use Rattle.regularity.proofs.Listed.{part_has_arities}

-- what holds by numbers holds of each element
all_from_numbers : {X : Type 0} (P : X → Type 0) (xs : List X) (d : X) → ((k : ℕ) → k < length xs → P (slice_index_or xs k d)) → AllByRecursion P xs
all_from_numbers P [] d f = tt
all_from_numbers P (x ∷ xs) d f = (f 0 (omega arith), all_from_numbers P xs d (λ k lt. f (suc k) (omega arith)))

none_empty : {A : Type 0} (ts : Forest A) → 0 ≡ count ts → ts ≡ empty
none_empty empty e = refl
none_empty (grow t ts) e = absurd (omega arith)

module _ {H : Type 0} (arity : H → ℕ) where
  -- the root has its number of arguments
  abbrev pub HeadHas : Tree (PatternCell H) → Type 0
  HeadHas (node (fixed h) ps) = count ps ≡ arity h
  HeadHas (node (variable x) ps) = ps ≡ empty
  HeadHas (node (restricted x class) ps) = ps ≡ empty

  pub head_has : (p : Tree (PatternCell H)) → HasArities arity p → HeadHas p
  head_has (node (fixed h) ps) a = a.0
  head_has (node (variable x) ps) a = a
  head_has (node (restricted x class) ps) a = a

  mutual
    from_heads : (p : Tree (PatternCell H)) → AllByRecursion HeadHas (subtrees p) → HasArities arity p
    from_heads (node (fixed h) ps) a = (a.0, all_from_heads ps a.1)
    from_heads (node (variable x) ps) a = a.0
    from_heads (node (restricted x class) ps) a = a.0

    all_from_heads : (ps : Forest (PatternCell H)) → AllByRecursion HeadHas (all_subtrees ps) → HaveArities arity ps
    all_from_heads empty a = tt
    all_from_heads (grow p ps) a = (from_heads p (all_front HeadHas (subtrees p) (all_subtrees ps) a), all_from_heads ps (all_back HeadHas (subtrees p) (all_subtrees ps) a))

  module _ (p : Tree (PatternCell H)) where
    pub has_from_heads : (end : ℕ) → size p ≡ end → ((k : ℕ) → k < end → HeadHas (nth_subtree p k)) → HasArities arity p
    has_from_heads end is has = from_heads p (all_from_numbers HeadHas (subtrees p) p (λ k lt. has k (omega (arith, length-subtrees p))))

    pub part_head_has : HasArities arity p → (k : ℕ) → k < size p → HeadHas (nth_subtree p k)
    part_head_has a k lt = head_has (nth_subtree p k) (part_has_arities arity p k lt a)

-- a cell as it is read tells of its head
pub cell_has : (table : List ℕ) (p : Tree (PatternCell Head)) (c : Cell) → c ≡ root_cell p → arity_in c ≡ arity_of p → HasArityBy table c ↔ HeadHas (arity_by table) p
cell_has table p c is arity = subst (λ d. HasArityBy table d ↔ HeadHas (arity_by table) p) (sym is) (by_root p (ap arity_in (sym is) ∙ arity))
  where
    by_root : (p : Tree (PatternCell Head)) → arity_in (root_cell p) ≡ arity_of p → HasArityBy table (root_cell p) ↔ HeadHas (arity_by table) p
    by_root (node (fixed h) ps) e = (λ a. a, λ a. a)
    by_root (node (variable x) ps) e = (λ a. none_empty ps e, λ a. tt)
    by_root (node (restricted x class) ps) e = (λ a. none_empty ps e, λ a. tt)

module _ (table : List ℕ) (classes : List (List Head)) where
  symbols_none : 0 ≡ arity_by table (Symbol 0) → 0 ≡ arity_by table (Symbol 1) → (class : ℕ) (h : Head) → IsTrue (in_symbol_class class h) → arity_by table h ≡ 0
  symbols_none first second class (Symbol zero) inside = sym first
  symbols_none first second class (Symbol (suc zero)) inside = sym second
  symbols_none first second class (Symbol (suc (suc s))) inside = absurd (grind (arith, nat_tests))
  symbols_none first second class (Numeral i) inside = refl
  symbols_none first second class (Atom n) inside = refl
  symbols_none first second class (Text n) inside = refl

  -- the members of this class have no arguments
  abbrev pub HaveNone : ℕ → Type 0
  HaveNone class = All (λ h. arity_by table h ≡ 0) (members_of classes class)

  none_of : (hs : List Head) (h : Head) → All (λ g. arity_by table g ≡ 0) hs → Contains hs h → arity_by table h ≡ 0
  none_of hs h all c = subst (λ g. arity_by table g ≡ 0) c.2 (all c.0 h c.1)

  no_member : (hs : List Head) (h : Head) → hs ≡ [] → Contains hs h → ⊥
  no_member hs h e c = omega (arith, c.1, ap length e)

  -- the heads of classes have no arguments where the truth values and the members have none
  pub constants_none : 0 ≡ arity_by table (Symbol 0) → 0 ≡ arity_by table (Symbol 1) → ((k : ℕ) → k < length classes → HaveNone (4 + k)) → GivesConstantsNone table classes
  constants_none first second members class h inside =
      ⊎_elim
      (λ lt. symbols_none first second class h (sym (symbol_class same_head same_head_decides in_symbol_class classes class h lt) ∙ inside))
      (λ le.
      let listed = (listed_class same_head same_head_decides in_symbol_class classes class h le).0 inside in
      ⊎_elim
      (λ known. let again : 4 + (class - 4) ≡ class = omega (arith, le) in none_of (members_of classes class) h (subst HaveNone again (members (class - 4) (omega (arith, le, known)))) listed)
      (λ past. absurd (no_member (members_of classes class) h (past_classes classes class past) listed))
      (cases_lt class (4 + length classes)))
      (cases_lt class 4)

  -- and so the members of each class
  pub members_none : GivesConstantsNone table classes → (class : ℕ) → 4 ≤ class → HaveNone class
  members_none all class le k d lt =
      all class (slice_index_or (members_of classes class) k d)
      ((listed_class same_head same_head_decides in_symbol_class classes class (slice_index_or (members_of classes class) k d) le).1 (k, lt, get_or_default (members_of classes class) k (slice_index_or (members_of classes class) k d) d lt))

-- one more equation of a list is well formed
pub each_more : (table : List ℕ) (es : List Equation) (n : ℕ) (e : Equation) → slice_get es n ≡ Some e → IsWellFormedBy table e → ((k : ℕ) (d : Equation) → k < n → IsWellFormedBy table (get_or es k d)) → (k : ℕ) (d : Equation) → k < n + 1 → IsWellFormedBy table (get_or es k d)
each_more table es n e listed here before k d lt =
    ⊎_elim
    (λ below. before k d below)
    (λ past.
    let same : n ≡ k = omega arith in
    subst (λ m. IsWellFormedBy table (get_or es m d)) same (subst (IsWellFormedBy table) (sym (get_or_from_slice_get es n e d listed)) here))
    (cases_lt k n)
