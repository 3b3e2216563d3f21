-- Patterns by their numbers, from what is known of them as they are read.
use Rattle.std.proofs.Common.{◌≡◌, ℕ, refl, sym, ap, ◌∙◌}
use Rattle.eq_base.specs.Tree.{Tree, Forest, node, empty, grow, head_of, args_of, map_all_heads}
use Rattle.eq_base.specs.Pattern.{PatternCell, fixed, variable, restricted}
use Rattle.eq_base.specs.Mapping.{map_cell, map_pattern}
use Rattle.eq_base.specs.Meeting.{class_number}
use Rattle.eq_base.specs.Operations.{application, operand, operand_class}
use Rattle.eq_base.specs.ReadHead.{ReadHead, symbol}
use Rattle.eq_base.specs.declared.head.Head.{Head}
use Rattle.eq_base.specs.declared.head.Head.TheVariants.{Symbol, Numeral, Atom, Text}
use Rattle.eq_base.specs.declared.rules.Op.{Op}
use Rattle.eq_base.specs.declared.rules.Op.TheVariants.{AddInt, SubInt, MultInt, DivInt, ModInt, EquInt, LessInt, EquAtom, EquStr, ConcatStr, LengthStr}
use Rattle.eq_base.proofs.Trees.{count-map_all_heads}
use Rattle.symbol_table.specs.Table.{Table}
use Rattle.symbol_table.specs.Reading.{read_head, read_pattern}
use Rattle.regularity.specs.Arities.{HasArities, HaveArities}
use Rattle.regularity.specs.WellFormed.{HasSymbolRoot}

-- no patterns are read of none
empty_back : (f : Head → ReadHead) (ps : Forest (PatternCell Head)) → ◌≡◌ {A = Forest (PatternCell ReadHead)} (map_all_heads (map_cell f) ps) empty → ps ≡ empty
empty_back f empty e = refl
empty_back f (grow p ps) e = cc

-- a pattern has the numbers of arguments that it has as it is read
module _ (arity : ReadHead → ℕ) (f : Head → ReadHead) where
  mutual
    pub arities_back : (p : Tree (PatternCell Head)) → HasArities arity (map_pattern f p) → HasArities (λ h. arity (f h)) p
    arities_back (node (fixed h) ps) (here, others) = (sym (count-map_all_heads (map_cell f) ps) ∙ here, all_arities_back ps others)
    arities_back (node (variable x) ps) none = empty_back f ps none
    arities_back (node (restricted x class) ps) none = empty_back f ps none

    all_arities_back : (ps : Forest (PatternCell Head)) → HaveArities arity (map_all_heads (map_cell f) ps) → HaveArities (λ h. arity (f h)) ps
    all_arities_back empty all = tt
    all_arities_back (grow p ps) (first, others) = (arities_back p first, all_arities_back ps others)

-- a symbol stands at the root where one is read
pub root_back : (table : Table) (p : Tree (PatternCell Head)) (s : ℕ) → head_of (read_pattern table p) ≡ fixed (symbol s) → HasSymbolRoot p
root_back table (node (fixed (Symbol n)) ps) s is = (n, refl)
root_back table (node (fixed (Numeral n)) ps) s is = cc
root_back table (node (fixed (Atom n)) ps) s is = cc
root_back table (node (fixed (Text n)) ps) s is = cc
root_back table (node (variable x) ps) s is = cc
root_back table (node (restricted x class) ps) s is = cc

-- ---- applications of operations

-- a head that is read as a symbol is that symbol
symbol_back : (table : Table) (h : Head) (s : ℕ) → read_head table h ≡ symbol s → h ≡ Symbol s
symbol_back table (Symbol n) s is = ap Symbol (let same : n ≡ s = cc in same)
symbol_back table (Numeral n) s is = cc
symbol_back table (Atom n) s is = cc
symbol_back table (Text n) s is = cc

module _ (table : Table) where
  abbrev read_cell : PatternCell Head → PatternCell ReadHead
  read_cell c = map_cell (read_head table) c

  -- one operand
  operand_back : (p : Tree (PatternCell Head)) (x class : ℕ) → read_pattern table p ≡ node (restricted x class) empty → p ≡ node (restricted x class) empty
  operand_back (node (fixed h) ps) x class is = cc
  operand_back (node (variable y) ps) x class is = cc
  operand_back (node (restricted y c) ps) x class is =
      let cell : ◌≡◌ {A = PatternCell ReadHead} (restricted y c) (restricted x class) = ap head_of is in
      let same : y ≡ x = cc in
      let of_class : c ≡ class = cc in
      let none = empty_back (read_head table) ps (ap args_of is) in
      λ i. node (restricted (same i) (of_class i)) (none i)

  -- one operand alone
  one_back : (ps : Forest (PatternCell Head)) (x class : ℕ) → map_all_heads read_cell ps ≡ grow (node (restricted x class) empty) empty → ps ≡ grow (node (restricted x class) empty) empty
  one_back empty x class is = cc
  one_back (grow p ps) x class is =
      let here : read_pattern table p ≡ node (restricted x class) empty = cc in
      let later : ◌≡◌ {A = Forest (PatternCell ReadHead)} (map_all_heads read_cell ps) empty = cc in
      let first = operand_back p x class here in
      let rest = empty_back (read_head table) ps later in
      λ i. grow (first i) (rest i)

  -- two operands
  two_back : (ps : Forest (PatternCell Head)) (class : ℕ) → map_all_heads read_cell ps ≡ grow (node (restricted 0 class) empty) (grow (node (restricted 1 class) empty) empty) → ps ≡ grow (node (restricted 0 class) empty) (grow (node (restricted 1 class) empty) empty)
  two_back empty class is = cc
  two_back (grow p ps) class is =
      let here : read_pattern table p ≡ node (restricted 0 class) empty = cc in
      let later : map_all_heads read_cell ps ≡ grow (node (restricted 1 class) empty) empty = cc in
      let first = operand_back p 0 class here in
      let rest = one_back ps 1 class later in
      λ i. grow (first i) (rest i)

  -- a symbol over operands
  over_back : (p : Tree (PatternCell Head)) (s : ℕ) (os : Forest (PatternCell ReadHead)) (qs : Forest (PatternCell Head)) → ((ps : Forest (PatternCell Head)) → map_all_heads read_cell ps ≡ os → ps ≡ qs) → read_pattern table p ≡ node (fixed (symbol s)) os → p ≡ node (fixed (Symbol s)) qs
  over_back (node (fixed h) ps) s os qs back is =
      let cell : fixed (read_head table h) ≡ fixed (symbol s) = ap head_of is in
      let head = symbol_back table h s (cc) in
      let args = back ps (ap args_of is) in
      λ i. node (fixed (head i)) (args i)
  over_back (node (variable x) ps) s os qs back is = cc
  over_back (node (restricted x class) ps) s os qs back is = cc

  -- an operation's symbol over two operands
  over_two : (op : Op) (p : Tree (PatternCell Head)) (s : ℕ) → read_pattern table p ≡ node (fixed (symbol s)) (grow (operand op 0) (grow (operand op 1) empty)) → p ≡ node (fixed (Symbol s)) (grow (operand op 0) (grow (operand op 1) empty))
  over_two op p s is = over_back p s (grow (operand op 0) (grow (operand op 1) empty)) (grow (operand op 0) (grow (operand op 1) empty)) (λ ps e. two_back ps (class_number (operand_class op)) e) is

  -- the application of an operation by numbers is that which is read
  pub application_back : (op : Op) (p : Tree (PatternCell Head)) (s : ℕ) → read_pattern table p ≡ application op (symbol s) → p ≡ application op (Symbol s)
  application_back AddInt p s is = over_two AddInt p s is
  application_back SubInt p s is = over_two SubInt p s is
  application_back MultInt p s is = over_two MultInt p s is
  application_back DivInt p s is = over_two DivInt p s is
  application_back ModInt p s is = over_two ModInt p s is
  application_back EquInt p s is = over_two EquInt p s is
  application_back LessInt p s is = over_two LessInt p s is
  application_back EquAtom p s is = over_two EquAtom p s is
  application_back EquStr p s is = over_two EquStr p s is
  application_back ConcatStr p s is = over_two ConcatStr p s is
  application_back LengthStr p s is = over_back p s (grow (operand LengthStr 0) empty) (grow (operand LengthStr 0) empty) (λ ps e. one_back ps 0 (class_number (operand_class LengthStr)) e) is
