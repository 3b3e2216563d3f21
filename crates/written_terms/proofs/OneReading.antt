-- A text has one reading as a term or a pattern, or one first fault.
use Rattle.std.specs.Prelude.{codes}
use Rattle.std.proofs.Common.{◌≡◌, ℕ, zero, suc, List, [], ◌∷◌, ◌++◌, map, Result, Ok, Err, inl, inr, refl, sym, ap, ◌∙◌, append_assoc, append-nil, subst, Contains, slice_get, Some}
use Rattle.std.specs.List.{AllByRecursion}
use Rattle.std.proofs.lemmas.Option.{none-some, slice_get_within, get_or_from_slice_get}
use Rattle.eq_base.specs.Tree.{Tree, Forest, node, empty, grow, count, cells, all_cells, map_heads}
use Rattle.eq_base.specs.Pattern.{PatternCell, fixed, variable, restricted}
use Rattle.eq_base.specs.ReadHead.{ReadHead, symbol, numeral, atom, text as string}
use Rattle.eq_base.proofs.Lists.{all_back}
use Rattle.eq_base.proofs.Trees.{cells-injective, cells-map_heads}
use Rattle.term_lex.specs.declared.token.TokenKind.TheVariants.{Dot}
use Rattle.term_lex.specs.declared.fault.Fault.{Fault}
use Rattle.term_lex.specs.declared.fault.FaultKind.{FaultKind}
use Rattle.term_lex.specs.declared.fault.FaultKind.TheVariants.{Unknown, WrongArity}
use Rattle.term_lex.specs.Lexemes.{Lexeme, Scans, Reads}
use Rattle.term_lex.specs.Parts.{IsKind, One}
use Rattle.term_lex.proofs.Strings.{one_value}
use Rattle.term_lex.proofs.Parts.{apart, one_cut, then_part}
use Rattle.term_lex.proofs.PlainAnswers.{kind_part}
use Rattle.term_lex.proofs.Readings.{one_reading, no_fault, one_fault}
use Rattle.symbol_table.specs.Table.{Table, HasDistinctNames, AreDistinct}
use Rattle.symbol_table.specs.Refusing.{RefusesUse}
use Rattle.symbol_table.proofs.Declarations.{one_entry}
use Rattle.written_terms.specs.Notation.{Notation, IsSomeTerm, IsDotted, IsSomeDotted}
use Rattle.written_terms.specs.Meaning.{NamesHead, IsLiteral, MeansCell, MeansTree, MeanTrees}
use Rattle.written_terms.specs.Meaning.{IsListPart}
use Rattle.written_terms.specs.Reading.{ReadsTerm, ReadsPattern}
use Rattle.written_terms.specs.Refusing.{RefusesCell, IsFaultless, IsFirstRefused}
use Rattle.written_terms.specs.Refusing.{RefusesTerm, RefusesPattern, IsTermAt, IsPatternAt}
use Rattle.written_terms.specs.Cells.{MeanCells}
use Rattle.written_terms.proofs.Notations.{IsLawful}
use Rattle.written_terms.proofs.Meanings.{faultless, name_is_no_literal, literal_is_no_name, literal_is_no_list, list_is_no_literal, list_is_no_name}

-- ---- what is written

module _ (notation : Notation) (laws : IsLawful notation) where
  -- lexemes are one term and its dot
  dotted_cells : (w v : notation.Written) (xs : List Lexeme) → IsDotted notation w xs → IsDotted notation v xs → cells (notation.outline w) ≡ cells (notation.outline v)
  dotted_cells w v xs (front, back, e, is, dot) (front', back', e', is', dot') =
      let cut = one_cut (IsSomeTerm notation) (One (IsKind Dot)) (apart laws.part (kind_part Dot) refl) front back front' back' (sym e ∙ e') (w, is) dot (v, is') dot' in
      laws.one_outline w v front is (subst (notation.IsTerm v) (sym cut.0) is')

  -- nothing goes on behind the dot
  dotted_reads : (w : notation.Written) (text : List ℕ) (at : ℕ) (xs : List Lexeme) (end : ℕ) → Scans text at xs end → IsDotted notation w xs → Reads (IsSomeDotted notation) text at xs end
  dotted_reads w text at xs end scanned (front, back, e, is, dot) =
      let sentence : IsSomeDotted notation xs = (front, back, e, (w, is), dot) in
      record { scanned = scanned; sentence = sentence; longest = λ next found viable. (then_part laws.part (kind_part Dot) refl).goes_on xs next sentence viable }

-- ---- what it means

module _ (table : Table) (one : HasDistinctNames table) where
  one_name : (name : List ℕ) (args : ℕ) (h g : ReadHead) → NamesHead table name args h → NamesHead table name args g → h ≡ g
  one_name name args (symbol n) (symbol m) is is' = ap (λ k. symbol k) (one name n m args args is is')
  one_name name args (symbol n) (atom bytes) is (fresh, none, has, same) = absurd (fresh (n, args, is))
  one_name name args (atom bytes) (symbol m) (fresh, none, has, same) is = absurd (fresh (m, args, is))
  one_name name args (atom bytes) (atom other) is is' = ap (λ k. atom k) (is.3 ∙ sym is'.3)
  one_name name args (numeral i) g is is' = absurd is
  one_name name args (string value) g is is' = absurd is
  one_name name args h (numeral i) is is' = absurd is'
  one_name name args h (string value) is is' = absurd is'

  one_literal : (x : Lexeme) (h g : ReadHead) → IsLiteral table x h → IsLiteral table x g → h ≡ g
  one_literal x (numeral i) (numeral j) is is' = ap (λ k. numeral k) (is.2 ∙ sym is'.2)
  one_literal x (numeral i) (string value) is is' = cc
  one_literal x (string value) (numeral j) is is' = cc
  one_literal x (string value) (string other) is is' = ap (λ k. string k) (one_value x.bytes value other is.2 is'.2)
  one_literal x (symbol n) g is is' = absurd is
  one_literal x (atom bytes) g is is' = absurd is
  one_literal x h (symbol n) is is' = absurd is'
  one_literal x h (atom bytes) is is' = absurd is'

  one_part : (args : ℕ) (h g : ReadHead) → IsListPart table args h → IsListPart table args g → h ≡ g
  one_part zero h g (lists, is) (lists', is') = is ∙ ap (λ n. symbol n) (one (codes "nil") lists.nil lists'.nil 0 0 lists.nil_is lists'.nil_is) ∙ sym is'
  one_part (suc n) h g (two, (lists, is)) (two', (lists', is')) = is ∙ ap (λ n. symbol n) (one (codes "cons") lists.cons lists'.cons 2 2 lists.cons_is lists'.cons_is) ∙ sym is'

  one_use : (name : List ℕ) (args : ℕ) (kind other : FaultKind) → RefusesUse table name args kind → RefusesUse table name args other → kind ≡ other
  one_use name args Unknown Unknown why why' = refl
  one_use name args Unknown (WrongArity arity found) (new, why) ((number, is), differs, same) = absurd (new (number, arity, is))
  one_use name args (WrongArity arity found) Unknown ((number, is), differs, same) (new, why) = absurd (new (number, arity, is))
  one_use name args (WrongArity arity found) (WrongArity arity' found') ((number, is), differs, same) ((number', is'), differs', same') =
      let entry = one_entry table one name number number' arity arity' is is' in
      cc (entry.1, same, same')
  one_use name args Unknown other why why' = absurd why'
  one_use name args (WrongArity arity found) other why why' = absurd why'
  one_use name args kind other why why' = absurd why

  module _ (variables : List (List ℕ)) (distinct : AreDistinct variables) where
    listed_variable : (v : ℕ) (name : List ℕ) → slice_get variables v ≡ Some name → Contains variables name
    listed_variable v name listed = (v, slice_get_within variables v name listed, get_or_from_slice_get variables v name name listed)

    one_cell : (x : Lexeme) (args : ℕ) (c d : PatternCell ReadHead) → MeansCell table variables x args c → MeansCell table variables x args d → c ≡ d
    one_cell x args (variable v) (variable w) is is' = ap (λ n. variable n) (distinct x.bytes v w is.1 is'.1)
    one_cell x args (variable v) (fixed g) (name, listed, none) (inl (name', free, is)) = absurd (free (listed_variable v x.bytes listed))
    one_cell x args (variable v) (fixed g) (name, listed, none) (inr (inl (none', is))) = absurd (literal_is_no_name table x g is name)
    one_cell x args (variable v) (fixed g) (name, listed, none) (inr (inr (list, is))) = absurd (list_is_no_name x list name)
    one_cell x args (fixed h) (variable w) (inl (name', free, is)) (name, listed, none) = absurd (free (listed_variable w x.bytes listed))
    one_cell x args (fixed h) (variable w) (inr (inl (none', is))) (name, listed, none) = absurd (literal_is_no_name table x h is name)
    one_cell x args (fixed h) (variable w) (inr (inr (list, is))) (name, listed, none) = absurd (list_is_no_name x list name)
    one_cell x args (fixed h) (fixed g) (inl is) (inl is') = ap (λ k. fixed k) (one_name x.bytes args h g is.2 is'.2)
    one_cell x args (fixed h) (fixed g) (inl is) (inr (inl is')) = absurd (literal_is_no_name table x g is'.1 is.0)
    one_cell x args (fixed h) (fixed g) (inl is) (inr (inr is')) = absurd (list_is_no_name x is'.0 is.0)
    one_cell x args (fixed h) (fixed g) (inr (inl is)) (inl is') = absurd (literal_is_no_name table x h is.1 is'.0)
    one_cell x args (fixed h) (fixed g) (inr (inl is)) (inr (inl is')) = ap (λ k. fixed k) (one_literal x h g is.1 is'.1)
    one_cell x args (fixed h) (fixed g) (inr (inl is)) (inr (inr is')) = absurd (literal_is_no_list table x h is.1 is'.0)
    one_cell x args (fixed h) (fixed g) (inr (inr is)) (inl is') = absurd (list_is_no_name x is.0 is'.0)
    one_cell x args (fixed h) (fixed g) (inr (inr is)) (inr (inl is')) = absurd (literal_is_no_list table x g is'.1 is.0)
    one_cell x args (fixed h) (fixed g) (inr (inr is)) (inr (inr is')) = ap (λ k. fixed k) (one_part args h g is.1 is'.1)
    one_cell x args (restricted v class) d is is' = absurd is
    one_cell x args c (restricted v class) is is' = absurd is'

    one_cells : (xs : List (Lexeme × ℕ)) (cs ds : List (PatternCell ReadHead × ℕ)) → MeanCells table variables xs cs → MeanCells table variables xs ds → cs ≡ ds
    one_cells [] [] [] is is' = refl
    one_cells [] [] (d ∷ ds) is is' = absurd is'
    one_cells [] (c ∷ cs) ds is is' = absurd is
    one_cells (x ∷ xs) [] ds is is' = absurd is
    one_cells (x ∷ xs) (c ∷ cs) [] is is' = absurd is'
    one_cells (x ∷ xs) (c ∷ cs) (d ∷ ds) (here, same, others) (here', same', others') =
        let first : c.0 ≡ d.0 = one_cell x.0 x.1 c.0 d.0 here here' in
        let second : c.1 ≡ d.1 = same ∙ sym same' in
        let pair : ◌≡◌ {A = PatternCell ReadHead × ℕ} c d = λ i. (first i, second i) in
        cc (pair, one_cells xs cs ds others others')

    -- a refused cell has one fault
    one_refusal : (x : Lexeme) (args : ℕ) (kind other : FaultKind) → RefusesCell table variables x args kind → RefusesCell table variables x args other → kind ≡ other
    one_refusal x args kind other (inl (literal, is)) (inl (literal', is')) = is ∙ sym is'
    one_refusal x args kind other (inl (literal, is)) (inr (inl (name, has, some, is'))) = absurd (name_is_no_literal table x name literal)
    one_refusal x args kind other (inl (literal, is)) (inr (inr (inl (name, free, why)))) = absurd (name_is_no_literal table x name literal)
    one_refusal x args kind other (inl (literal, is)) (inr (inr (inr ((list, none), is')))) = absurd (list_is_no_literal table x list literal)
    one_refusal x args kind other (inr (inl (name, has, some, is))) (inl (literal, is')) = absurd (name_is_no_literal table x name literal)
    one_refusal x args kind other (inr (inl (name, has, some, is))) (inr (inl (name', has', some', is'))) = is ∙ sym is'
    one_refusal x args kind other (inr (inl (name, has, some, is))) (inr (inr (inl (name', free, why)))) = absurd (free has)
    one_refusal x args kind other (inr (inl (name, has, some, is))) (inr (inr (inr ((list, none), is')))) = absurd (list_is_no_name x list name)
    one_refusal x args kind other (inr (inr (inl (name, free, why)))) (inl (literal, is')) = absurd (name_is_no_literal table x name literal)
    one_refusal x args kind other (inr (inr (inl (name, free, why)))) (inr (inl (name', has, some, is))) = absurd (free has)
    one_refusal x args kind other (inr (inr (inl (name, free, why)))) (inr (inr (inl (name', free', why')))) = one_use x.bytes args kind other why why'
    one_refusal x args kind other (inr (inr (inl (name, free, why)))) (inr (inr (inr ((list, none), is')))) = absurd (list_is_no_name x list name)
    one_refusal x args kind other (inr (inr (inr ((list, none), is)))) (inl (literal, is')) = absurd (list_is_no_literal table x list literal)
    one_refusal x args kind other (inr (inr (inr ((list, none), is)))) (inr (inl (name, has, some, is'))) = absurd (list_is_no_name x list name)
    one_refusal x args kind other (inr (inr (inr ((list, none), is)))) (inr (inr (inl (name, free, why)))) = absurd (list_is_no_name x list name)
    one_refusal x args kind other (inr (inr (inr ((list, none), is)))) (inr (inr (inr ((list', none'), is')))) = is ∙ sym is'

    same_refusal : (x y : Lexeme × ℕ) (f g : Fault) → x ≡ y → RefusesCell table variables x.0 x.1 f.kind → RefusesCell table variables y.0 y.1 g.kind → f.byte ≡ x.0.token.from → g.byte ≡ y.0.token.from → f ≡ g
    same_refusal x y f g same refused refused' place place' =
        let kind = one_refusal x.0 x.1 f.kind g.kind refused (subst (λ (z : Lexeme × ℕ). RefusesCell table variables z.0 z.1 g.kind) (sym same) refused') in
        let byte : f.byte ≡ g.byte = place ∙ ap (λ (z : Lexeme × ℕ). z.0.token.from) same ∙ sym place' in
        λ i. record { kind = kind i; byte = byte i }

    -- where two fronts without a fault end at a refused lexeme, they end at the same
    first_of_both : (f g : Fault) (xs : List (Lexeme × ℕ)) (x : Lexeme × ℕ) (zs ys : List (Lexeme × ℕ)) (y : Lexeme × ℕ) (ws : List (Lexeme × ℕ)) → xs ++ x ∷ zs ≡ ys ++ y ∷ ws
        → AllByRecursion (IsFaultless table variables) xs → AllByRecursion (IsFaultless table variables) ys
        → RefusesCell table variables x.0 x.1 f.kind → RefusesCell table variables y.0 y.1 g.kind → f.byte ≡ x.0.token.from → g.byte ≡ y.0.token.from → f ≡ g
    first_of_both f g [] x zs [] y ws e fine fine' refused refused' place place' = same_refusal x y f g (cc) refused refused' place place'
    first_of_both f g [] x zs (b ∷ ys) y ws e fine fine' refused refused' place place' =
        let same : b ≡ x = cc in absurd (subst (IsFaultless table variables) same fine'.0 f.kind refused)
    first_of_both f g (a ∷ xs) x zs [] y ws e fine fine' refused refused' place place' =
        let same : a ≡ y = cc in absurd (subst (IsFaultless table variables) same fine.0 g.kind refused')
    first_of_both f g (a ∷ xs) x zs (b ∷ ys) y ws e fine fine' refused refused' place place' =
        first_of_both f g xs x zs ys y ws (cc) fine.1 fine'.1 refused refused' place place'

    -- lexemes have one first fault
    one_first : (xs : List (Lexeme × ℕ)) (f g : Fault) → IsFirstRefused table variables xs f → IsFirstRefused table variables xs g → f ≡ g
    one_first xs f g p q = first_of_both f g p.before p.here p.behind q.before q.here q.behind (sym p.split ∙ q.split) p.faultless q.faultless p.refused q.refused p.place q.place

    -- what a tree means, its lexemes mean one after another
    mutual
      tree_cells : (t : Tree Lexeme) (p : Tree (PatternCell ReadHead)) (xs : List (Lexeme × ℕ)) (cs : List (PatternCell ReadHead × ℕ)) → MeansTree table variables t p → MeanCells table variables xs cs → MeanCells table variables (cells t ++ xs) (cells p ++ cs)
      tree_cells (node x ts) (node c ps) xs cs (here, args) rest = (here, same_count ts ps args, forest_cells ts ps xs cs args rest)

      forest_cells : (ts : Forest Lexeme) (ps : Forest (PatternCell ReadHead)) (xs : List (Lexeme × ℕ)) (cs : List (PatternCell ReadHead × ℕ)) → MeanTrees table variables ts ps → MeanCells table variables xs cs → MeanCells table variables (all_cells ts ++ xs) (all_cells ps ++ cs)
      forest_cells empty empty xs cs means rest = rest
      forest_cells empty (grow p ps) xs cs means rest = absurd means
      forest_cells (grow t ts) empty xs cs means rest = absurd means
      forest_cells (grow t ts) (grow p ps) xs cs (first, others) rest =
          let whole = tree_cells t p (all_cells ts ++ xs) (all_cells ps ++ cs) first (forest_cells ts ps xs cs others rest) in
          subst (λ l. MeanCells table variables l ((cells p ++ all_cells ps) ++ cs)) (sym (append_assoc (cells t) (all_cells ts) xs))
          (subst (MeanCells table variables (cells t ++ (all_cells ts ++ xs))) (sym (append_assoc (cells p) (all_cells ps) cs)) whole)

      same_count : (ts : Forest Lexeme) (ps : Forest (PatternCell ReadHead)) → MeanTrees table variables ts ps → count ps ≡ count ts
      same_count empty empty means = refl
      same_count empty (grow p ps) means = absurd means
      same_count (grow t ts) empty means = absurd means
      same_count (grow t ts) (grow p ps) (first, others) = ap suc (same_count ts ps others)

    lexemes_mean : (t : Tree Lexeme) (p : Tree (PatternCell ReadHead)) → MeansTree table variables t p → MeanCells table variables (cells t) (cells p)
    lexemes_mean t p means = subst (λ xs. MeanCells table variables xs (cells p)) (append-nil (cells t)) (subst (MeanCells table variables (cells t ++ [])) (append-nil (cells p)) (tree_cells t p [] [] means tt))

    -- outlines of the same lexemes mean one pattern
    one_pattern : (t u : Tree Lexeme) (p q : Tree (PatternCell ReadHead)) → cells t ≡ cells u → MeansTree table variables t p → MeansTree table variables u q → p ≡ q
    one_pattern t u p q same means means' =
        cells-injective p q (one_cells (cells t) (cells p) (cells q) (lexemes_mean t p means) (subst (λ xs. MeanCells table variables xs (cells q)) (sym same) (lexemes_mean u q means')))

    -- and are not refused
    not_both : (t u : Tree Lexeme) (p : Tree (PatternCell ReadHead)) (f : Fault) → cells t ≡ cells u → MeansTree table variables t p → IsFirstRefused table variables (cells u) f → ⊥
    not_both t u p f same means r =
        let all = faultless table variables (cells t) (cells p) (lexemes_mean t p means) in
        (all_back (IsFaultless table variables) r.before (r.here ∷ r.behind) (subst (AllByRecursion (IsFaultless table variables)) (same ∙ r.split) all)).0 f.kind r.refused

-- ---- the answers

-- a head as a cell of a pattern
abbrev as_cell : ReadHead × ℕ → PatternCell ReadHead × ℕ
as_cell c = (fixed c.0, c.1)

as_cells-injective : (xs ys : List (ReadHead × ℕ)) → map as_cell xs ≡ map as_cell ys → xs ≡ ys
as_cells-injective [] [] e = refl
as_cells-injective [] (y ∷ ys) e = cc
as_cells-injective (x ∷ xs) [] e = cc
as_cells-injective (x ∷ xs) (y ∷ ys) e =
    let cell : as_cell x ≡ as_cell y = cc in
    let fixed_is : fixed x.0 ≡ fixed y.0 = ap (λ (c : PatternCell ReadHead × ℕ). c.0) cell in
    let head : x.0 ≡ y.0 = cc in
    let arity : x.1 ≡ y.1 = ap (λ (c : PatternCell ReadHead × ℕ). c.1) cell in
    let pair : ◌≡◌ {A = ReadHead × ℕ} x y = λ i. (head i, arity i) in
    let rest : map as_cell xs ≡ map as_cell ys = cc in
    cc (pair, as_cells-injective xs ys rest)

ground-injective : (t u : Tree ReadHead) → ◌≡◌ {A = Tree (PatternCell ReadHead)} (map_heads fixed t) (map_heads fixed u) → t ≡ u
ground-injective t u e = cells-injective t u (as_cells-injective (cells t) (cells u) (sym (cells-map_heads fixed t) ∙ ap cells e ∙ cells-map_heads fixed u))

module _ (notation : Notation) (laws : IsLawful notation) (table : Table) (one : HasDistinctNames table) (text : List ℕ) (at : ℕ) where
  abbrev ST : List Lexeme → Type 0
  ST xs = IsSomeTerm notation xs

  abbrev SD : List Lexeme → Type 0
  SD xs = IsSomeDotted notation xs

  abbrev MT : List Lexeme → Lexeme → Fault → Type 0
  MT before x f = notation.Misplaced ST before x f

  abbrev MD : List Lexeme → Lexeme → Fault → Type 0
  MD before x f = notation.Misplaced SD before x f

  term_reads : (t : Tree ReadHead) (end : ℕ) (r : ReadsTerm notation table text at t end) → Reads SD text at r.lexemes end
  term_reads t end r = dotted_reads notation laws r.written text at r.lexemes end r.scanned r.spelled

  no_names : AreDistinct []
  no_names bytes m n found other = absurd (none-some bytes found)

  two_terms : (t u : Tree ReadHead) (end end' : ℕ) → ReadsTerm notation table text at t end → ReadsTerm notation table text at u end' → (t ≡ u) × (end ≡ end')
  two_terms t u end end' r s =
      let same = one_reading SD text at r.lexemes s.lexemes end end' (term_reads t end r) (term_reads u end' s) in
      let lexemes = dotted_cells notation laws r.written s.written r.lexemes r.spelled (subst (IsDotted notation s.written) (sym same.0) s.spelled) in
      (ground-injective t u (one_pattern table one [] no_names (notation.outline r.written) (notation.outline s.written) (map_heads fixed t) (map_heads fixed u) lexemes r.means s.means), same.1)

  term_or_fault : (t : Tree ReadHead) (end : ℕ) (f : Fault) → ReadsTerm notation table text at t end → RefusesTerm notation table text at f → ⊥
  term_or_fault t end f r (inl first) = no_fault MD (laws.one_fault SD) SD text at r.lexemes end f (term_reads t end r) first
  term_or_fault t end f r (inr none) =
      let same = one_reading SD text at r.lexemes none.lexemes end none.end (term_reads t end r) (dotted_reads notation laws none.written text at none.lexemes none.end none.scanned none.spelled) in
      let lexemes = dotted_cells notation laws r.written none.written r.lexemes r.spelled (subst (IsDotted notation none.written) (sym same.0) none.spelled) in
      not_both table one [] no_names (notation.outline r.written) (notation.outline none.written) (map_heads fixed t) f lexemes r.means none.refused

  two_faults : (f g : Fault) → RefusesTerm notation table text at f → RefusesTerm notation table text at g → f ≡ g
  two_faults f g (inl first) (inl first') = one_fault MD (laws.one_fault SD) SD text at f g first first'
  two_faults f g (inl first) (inr none) = absurd (no_fault MD (laws.one_fault SD) SD text at none.lexemes none.end f (dotted_reads notation laws none.written text at none.lexemes none.end none.scanned none.spelled) first)
  two_faults f g (inr none) (inl first) = absurd (no_fault MD (laws.one_fault SD) SD text at none.lexemes none.end g (dotted_reads notation laws none.written text at none.lexemes none.end none.scanned none.spelled) first)
  two_faults f g (inr none) (inr none') =
      let same = one_reading SD text at none.lexemes none'.lexemes none.end none'.end (dotted_reads notation laws none.written text at none.lexemes none.end none.scanned none.spelled) (dotted_reads notation laws none'.written text at none'.lexemes none'.end none'.scanned none'.spelled) in
      let lexemes = dotted_cells notation laws none.written none'.written none.lexemes none.spelled (subst (IsDotted notation none'.written) (sym same.0) none'.spelled) in
      one_first table one [] no_names (cells (notation.outline none.written)) f g none.refused (subst (λ xs. IsFirstRefused table [] xs g) (sym lexemes) none'.refused)

  -- a term and its dot are read in one way
  pub one_term_at : (r s : Result (Tree ReadHead × ℕ) Fault) → IsTermAt notation table text at r → IsTermAt notation table text at s → r ≡ s
  one_term_at (Ok x) (Ok y) p q = let same = two_terms x.0 y.0 x.1 y.1 p q in ap (λ z. Ok z) (let pair : ◌≡◌ {A = Tree ReadHead × ℕ} x y = λ i. (same.0 i, same.1 i) in pair)
  one_term_at (Ok x) (Err g) p q = absurd (term_or_fault x.0 x.1 g p q)
  one_term_at (Err f) (Ok y) p q = absurd (term_or_fault y.0 y.1 f q p)
  one_term_at (Err f) (Err g) p q = ap (λ e. Err e) (two_faults f g p q)

  module _ (variables : List (List ℕ)) (distinct : AreDistinct variables) where
    two_patterns : (p q : Tree (PatternCell ReadHead)) (end end' : ℕ) → ReadsPattern notation table variables text at p end → ReadsPattern notation table variables text at q end' → (p ≡ q) × (end ≡ end')
    two_patterns p q end end' r s =
        let same = one_reading ST text at r.lexemes s.lexemes end end' r.reads s.reads in
        let lexemes = laws.one_outline r.written s.written r.lexemes r.spelled (subst (notation.IsTerm s.written) (sym same.0) s.spelled) in
        (one_pattern table one variables distinct (notation.outline r.written) (notation.outline s.written) p q lexemes r.means s.means, same.1)

    pattern_or_fault : (p : Tree (PatternCell ReadHead)) (end : ℕ) (f : Fault) → ReadsPattern notation table variables text at p end → RefusesPattern notation table variables text at f → ⊥
    pattern_or_fault p end f r (inl first) = no_fault MT (laws.one_fault ST) ST text at r.lexemes end f r.reads first
    pattern_or_fault p end f r (inr none) =
        let same = one_reading ST text at r.lexemes none.lexemes end none.end r.reads none.reads in
        let lexemes = laws.one_outline r.written none.written r.lexemes r.spelled (subst (notation.IsTerm none.written) (sym same.0) none.spelled) in
        not_both table one variables distinct (notation.outline r.written) (notation.outline none.written) p f lexemes r.means none.refused

    two_pattern_faults : (f g : Fault) → RefusesPattern notation table variables text at f → RefusesPattern notation table variables text at g → f ≡ g
    two_pattern_faults f g (inl first) (inl first') = one_fault MT (laws.one_fault ST) ST text at f g first first'
    two_pattern_faults f g (inl first) (inr none) = absurd (no_fault MT (laws.one_fault ST) ST text at none.lexemes none.end f none.reads first)
    two_pattern_faults f g (inr none) (inl first) = absurd (no_fault MT (laws.one_fault ST) ST text at none.lexemes none.end g none.reads first)
    two_pattern_faults f g (inr none) (inr none') =
        let same = one_reading ST text at none.lexemes none'.lexemes none.end none'.end none.reads none'.reads in
        let lexemes = laws.one_outline none.written none'.written none.lexemes none.spelled (subst (notation.IsTerm none'.written) (sym same.0) none'.spelled) in
        one_first table one variables distinct (cells (notation.outline none.written)) f g none.refused (subst (λ xs. IsFirstRefused table variables xs g) (sym lexemes) none'.refused)

    -- a pattern is read in one way
    pub one_pattern_at : (r s : Result (Tree (PatternCell ReadHead) × ℕ) Fault) → IsPatternAt notation table variables text at r → IsPatternAt notation table variables text at s → r ≡ s
    one_pattern_at (Ok x) (Ok y) p q = let same = two_patterns x.0 y.0 x.1 y.1 p q in ap (λ z. Ok z) (let pair : ◌≡◌ {A = Tree (PatternCell ReadHead) × ℕ} x y = λ i. (same.0 i, same.1 i) in pair)
    one_pattern_at (Ok x) (Err g) p q = absurd (pattern_or_fault x.0 x.1 g p q)
    one_pattern_at (Err f) (Ok y) p q = absurd (pattern_or_fault y.0 y.1 f q p)
    one_pattern_at (Err f) (Err g) p q = ap (λ e. Err e) (two_pattern_faults f g p q)
