-- From the meaning of the lexemes one after another to the meaning of the term.
use Rattle.std.proofs.Common.{◌≡◌, ℕ, zero, suc, ◌+◌, ◌-◌, ◌<◌, List, [], ◌∷◌, ◌++◌, length, map, take, drop, get_or, inl, inr, refl, sym, ap, ◌∙◌, append_assoc, append-nil, subst, arith}
use Rattle.std.proofs.lemmas.List.{map-append, length-map, get_or-map, take_more, drop_more, take-append-drop}
use Rattle.std.specs.List.{AllByRecursion}
use Rattle.eq_base.specs.Tree.{Tree, Forest, node, empty, grow, count, cells, all_cells, map_heads}
use Rattle.eq_base.specs.Pattern.{PatternCell, fixed, variable, restricted}
use Rattle.eq_base.specs.Building.{missing_from, missing_of}
use Rattle.eq_base.specs.Preorder.{Completes}
use Rattle.eq_base.specs.Cells.{kind_of, arity_in, with_arity, tree_cell}
use Rattle.eq_base.specs.Mapping.{map_cell}
use Rattle.eq_base.specs.ReadHead.{ReadHead, symbol, numeral, atom, text as string}
use Rattle.eq_base.specs.declared.head.Head.{Head}
use Rattle.eq_base.specs.declared.head.Cell.{Cell}
use Rattle.eq_base.proofs.Lists.{all_push, all_map}
use Rattle.eq_base.proofs.Heads.{heads_in_cells}
use Rattle.eq_base.proofs.Positions.{map-map}
use Rattle.eq_base.proofs.Trees.{cells-map_heads}
use Rattle.term_lex.specs.Lexemes.{Lexeme, lexeme}
use Rattle.term_lex.specs.declared.fault.Fault.{Fault}
use Rattle.symbol_table.specs.Table.{Table, IsDeclared, Keeps}
use Rattle.symbol_table.specs.Reading.{read_head, read, read_pattern, IsLiveHead, IsLiveTerm, IsLiveCell, IsLivePattern}
use Rattle.symbol_table.proofs.Rereading.{head_kept, live_kept, cell_kept, live_cell_kept}
use Rattle.std.specs.Prelude.{codes, Contains}
use Rattle.term_lex.specs.declared.fault.FaultKind.{FaultKind}
use Rattle.term_lex.specs.declared.fault.FaultKind.TheVariants.{Unknown, WrongArity}
use Rattle.term_lex.specs.declared.token.TokenKind.TheVariants.{Name, OpenRound}
use Rattle.term_lex.specs.Parts.{IsKind}
use Rattle.symbol_table.specs.Refusing.{RefusesUse}
use Rattle.std.proofs.lemmas.Option.{slice_get_within, get_or_from_slice_get}
use Rattle.written_terms.specs.Refusing.{RefusesLiteral, RefusesCell, IsFaultless, IsFirstRefused}
use Rattle.written_terms.specs.declared.mention.Mention.{Mention}
use Rattle.written_terms.specs.Meaning.{NamesHead, IsLiteral, MeansCell, MeansTree, MeanTrees}
use Rattle.written_terms.specs.Meaning.{HasLists, IsListPart, Means}
use Rattle.written_terms.specs.Notation.{Notation}
use Rattle.written_terms.specs.Mentions.{seen}
use Rattle.written_terms.specs.Cells.{MeanCells, ground_cell, read_cell}

-- ---- the cells of a tree, one after another

mutual
  completes_cells : {A : Type 0} (t : Tree A) (n : ℕ) (rest : List (A × ℕ)) → Completes n rest → Completes (suc n) (cells t ++ rest)
  completes_cells (node a args) n rest h =
      let e : suc n - 1 + count args ≡ count args + n = omega arith in
      (omega arith, subst (λ m. Completes m (all_cells args ++ rest)) (sym e) (completes_all_cells args n rest h))

  completes_all_cells : {A : Type 0} (ts : Forest A) (n : ℕ) (rest : List (A × ℕ)) → Completes n rest → Completes (count ts + n) (all_cells ts ++ rest)
  completes_all_cells empty n rest h = let e : 0 + n ≡ n = omega arith in subst (λ m. Completes m rest) (sym e) h
  completes_all_cells (grow t ts) n rest h =
      let e : suc (count ts + n) ≡ suc (count ts) + n = omega arith in
      subst (λ cs. Completes (suc (count ts) + n) cs) (sym (append_assoc (cells t) (all_cells ts) rest)) (subst (λ m. Completes m (cells t ++ (all_cells ts ++ rest))) e (completes_cells t (count ts + n) (all_cells ts ++ rest) (completes_all_cells ts n rest h)))

tree_completes : {A : Type 0} (t : Tree A) → Completes 1 (cells t)
tree_completes t = subst (Completes 1) (append-nil (cells t)) (completes_cells t 0 [] refl)

some_missing : {A : Type 0} (n : ℕ) (cs : List (A × ℕ)) (i : ℕ) → Completes n cs → i < length cs → 0 < missing_from n (take i cs)
some_missing n [] i h lt = absurd (omega arith)
some_missing n (c ∷ cs) zero h lt = h.0
some_missing n (c ∷ cs) (suc i) h lt = some_missing (n - 1 + c.1) cs i h.1 (omega arith)

none_missing : {A : Type 0} (n : ℕ) (cs : List (A × ℕ)) → Completes n cs → missing_from n cs ≡ 0
none_missing n [] h = h
none_missing n (c ∷ cs) h = none_missing (n - 1 + c.1) cs h.1

-- ---- what is missing, by the lexemes

missing_means : (table : Table) (variables : List (List ℕ)) (n : ℕ) (xs : List (Lexeme × ℕ)) (cs : List (PatternCell ReadHead × ℕ)) → MeanCells table variables xs cs → missing_from n cs ≡ missing_from n xs
missing_means table variables n [] [] h = refl
missing_means table variables n [] (c ∷ cs) h = absurd h
missing_means table variables n (x ∷ xs) [] h = absurd h
missing_means table variables n (x ∷ xs) (c ∷ cs) (here, same, rest) = ap (λ a. missing_from (n - 1 + a) cs) same ∙ missing_means table variables (n - 1 + x.1) xs cs rest

missing_ground : (table : Table) (n : ℕ) (cs : List (Head × ℕ)) → missing_from n (map (ground_cell table) cs) ≡ missing_from n cs
missing_ground table n [] = refl
missing_ground table n (c ∷ cs) = missing_ground table (n - 1 + c.1) cs

missing_cells : (table : Table) (n : ℕ) (cs : List Cell) → missing_from n (map (read_cell table) cs) ≡ missing_from n (map with_arity cs)
missing_cells table n [] = refl
missing_cells table n (c ∷ cs) = missing_cells table (n - 1 + arity_in c) cs

-- The first i lexemes of a tree mean these cells: more are missing exactly while there are lexemes left.
module _ (names table : Table) (variables : List (List ℕ)) (tree : Tree Lexeme) (xs : List (Lexeme × ℕ)) (is : xs ≡ cells tree) (i : ℕ) where
  pub more_missing_ground : (cs : List (Head × ℕ)) → MeanCells names variables (take i xs) (map (ground_cell table) cs) → i < length xs → 0 < missing_of cs
  more_missing_ground cs h lt =
      let some = some_missing 1 xs i (subst (Completes 1) (sym is) (tree_completes tree)) lt in
      omega (arith, some, missing_means names variables 1 (take i xs) (map (ground_cell table) cs) h, missing_ground table 1 cs)

  pub more_missing_cells : (cs : List Cell) → MeanCells names variables (take i xs) (map (read_cell table) cs) → i < length xs → 0 < missing_of (map with_arity cs)
  more_missing_cells cs h lt =
      let some = some_missing 1 xs i (subst (Completes 1) (sym is) (tree_completes tree)) lt in
      omega (arith, some, missing_means names variables 1 (take i xs) (map (read_cell table) cs) h, missing_cells table 1 cs)

module _ (names table : Table) (variables : List (List ℕ)) (tree : Tree Lexeme) (xs : List (Lexeme × ℕ)) (is : xs ≡ cells tree) where
  pub no_more_ground : (cs : List (Head × ℕ)) → MeanCells names variables xs (map (ground_cell table) cs) → missing_of cs ≡ 0
  no_more_ground cs h = sym (missing_ground table 1 cs) ∙ missing_means names variables 1 xs (map (ground_cell table) cs) h ∙ ap (missing_from 1) is ∙ none_missing 1 (cells tree) (tree_completes tree)

  pub no_more_cells : (cs : List Cell) → MeanCells names variables xs (map (read_cell table) cs) → missing_of (map with_arity cs) ≡ 0
  no_more_cells cs h = sym (missing_cells table 1 cs) ∙ missing_means names variables 1 xs (map (read_cell table) cs) h ∙ ap (missing_from 1) is ∙ none_missing 1 (cells tree) (tree_completes tree)

-- ---- one more lexeme and its cell

pub means_push : (table : Table) (variables : List (List ℕ)) (xs : List (Lexeme × ℕ)) (cs : List (PatternCell ReadHead × ℕ)) (x : Lexeme × ℕ) (c : PatternCell ReadHead × ℕ) → MeanCells table variables xs cs → MeansCell table variables x.0 x.1 c.0 → c.1 ≡ x.1 → MeanCells table variables (xs ++ x ∷ []) (cs ++ c ∷ [])
means_push table variables [] [] x c h m e = (m, e, tt)
means_push table variables [] (d ∷ cs) x c h m e = absurd h
means_push table variables (y ∷ xs) [] x c h m e = absurd h
means_push table variables (y ∷ xs) (d ∷ cs) x c (here, same, rest) m e = (here, same, means_push table variables xs cs x c rest m e)

-- ---- trees

module _ (table : Table) (variables : List (List ℕ)) where
  mutual
    means_tree : (t : Tree Lexeme) (p : Tree (PatternCell ReadHead)) (xs : List (Lexeme × ℕ)) (cs : List (PatternCell ReadHead × ℕ)) → MeanCells table variables (cells t ++ xs) (cells p ++ cs) → MeansTree table variables t p × MeanCells table variables xs cs
    means_tree (node x args) (node c ps) xs cs (here, same, rest) = let all = means_trees args ps xs cs same rest in ((here, all.0), all.1)

    means_trees : (ts : Forest Lexeme) (ps : Forest (PatternCell ReadHead)) (xs : List (Lexeme × ℕ)) (cs : List (PatternCell ReadHead × ℕ)) → count ps ≡ count ts → MeanCells table variables (all_cells ts ++ xs) (all_cells ps ++ cs) → MeanTrees table variables ts ps × MeanCells table variables xs cs
    means_trees empty empty xs cs e h = (tt, h)
    means_trees empty (grow p ps) xs cs e h = absurd (omega arith)
    means_trees (grow t ts) empty xs cs e h = absurd (omega arith)
    means_trees (grow t ts) (grow p ps) xs cs e h =
        let left = append_assoc (cells t) (all_cells ts) xs in
        let right = append_assoc (cells p) (all_cells ps) cs in
        let first = means_tree t p (all_cells ts ++ xs) (all_cells ps ++ cs) (subst (MeanCells table variables (cells t ++ (all_cells ts ++ xs))) right (subst (λ l. MeanCells table variables l ((cells p ++ all_cells ps) ++ cs)) left h)) in
        let others = means_trees ts ps xs cs (omega arith) first.1 in
        ((first.0, others.0), others.1)

  pub means_whole : (t : Tree Lexeme) (p : Tree (PatternCell ReadHead)) → MeanCells table variables (cells t) (cells p) → MeansTree table variables t p
  means_whole t p h = (means_tree t p [] [] (subst (MeanCells table variables (cells t ++ [])) (sym (append-nil (cells p))) (subst (λ l. MeanCells table variables l (cells p)) (sym (append-nil (cells t))) h))).0

-- the cells of a ground term, as it is read
pub ground_cells : (table : Table) (t : Tree Head) → cells (map_heads {B = PatternCell ReadHead} fixed (read table t)) ≡ map (ground_cell table) (cells t)
ground_cells table t = cells-map_heads fixed (read table t) ∙ ap (map (λ (c : ReadHead × ℕ). (fixed c.0, c.1))) (cells-map_heads (read_head table) t) ∙ map-map (λ (c : ReadHead × ℕ). (fixed c.0, c.1)) (λ (c : Head × ℕ). (read_head table c.0, c.1)) (ground_cell table) (cells t) (λ c. refl)

-- the cells of a pattern, as it is read
pub pattern_cells : (table : Table) (p : Tree (PatternCell Head)) (cs : List Cell) → cells p ≡ map tree_cell cs → cells (read_pattern table p) ≡ map (read_cell table) cs
pattern_cells table p cs is = cells-map_heads (map_cell (read_head table)) p ∙ ap (map (λ (c : PatternCell Head × ℕ). (map_cell (read_head table) c.0, c.1))) is ∙ map-map (λ (c : PatternCell Head × ℕ). (map_cell (read_head table) c.0, c.1)) tree_cell (read_cell table) cs (λ c. refl)

-- ---- the loops

module _ (names table : Table) (variables : List (List ℕ)) (text : List ℕ) (mentions : List Mention) (i : ℕ) (d : Mention) (lt : i < length mentions) where
  abbrev m : Mention
  m = get_or mentions i d

  one_more_taken : take (i + 1) (map (seen text) mentions) ≡ take i (map (seen text) mentions) ++ seen text m ∷ []
  one_more_taken =
      let within : i < length (map (seen text) mentions) = omega (arith, length-map mentions (seen text)) in
      take_more (map (seen text) mentions) i (seen text m) within ∙ ap (λ x. take i (map (seen text) mentions) ++ x ∷ []) (get_or-map (seen text) mentions i d (seen text m) lt)

  one_more : (cs : List (PatternCell ReadHead × ℕ)) (c : PatternCell ReadHead × ℕ) → MeanCells names variables (take i (map (seen text) mentions)) cs → MeansCell names variables (lexeme text m.token) m.args c.0 → c.1 ≡ m.args → MeanCells names variables (take (i + 1) (map (seen text) mentions)) (cs ++ c ∷ [])
  one_more cs c h means same =
      subst (λ xs. MeanCells names variables xs (cs ++ c ∷ [])) (sym one_more_taken)
      (means_push names variables (take i (map (seen text) mentions)) cs (seen text m) c h means same)

  pub one_more_head : (cs : List (Head × ℕ)) (head : Head) (arity : ℕ) → MeanCells names variables (take i (map (seen text) mentions)) (map (ground_cell table) cs) → MeansCell names variables (lexeme text m.token) m.args (fixed (read_head table head)) → arity ≡ m.args → MeanCells names variables (take (i + 1) (map (seen text) mentions)) (map (ground_cell table) (cs ++ (head, arity) ∷ []))
  one_more_head cs head arity h means same =
      subst (MeanCells names variables (take (i + 1) (map (seen text) mentions))) (sym (map-append (ground_cell table) cs ((head, arity) ∷ [])))
      (one_more (map (ground_cell table) cs) (fixed (read_head table head), arity) h means same)

  pub one_more_cell : (cs : List Cell) (cell : Cell) → MeanCells names variables (take i (map (seen text) mentions)) (map (read_cell table) cs) → MeansCell names variables (lexeme text m.token) m.args (map_cell (read_head table) (kind_of cell)) → arity_in cell ≡ m.args → MeanCells names variables (take (i + 1) (map (seen text) mentions)) (map (read_cell table) (cs ++ cell ∷ []))
  one_more_cell cs cell h means same =
      subst (MeanCells names variables (take (i + 1) (map (seen text) mentions))) (sym (map-append (read_cell table) cs (cell ∷ [])))
      (one_more (map (read_cell table) cs) (read_cell table cell) h means same)

-- ---- while the table grows

module _ (old new : Table) (k : Keeps old new) where
  pub ground_kept : (cs : List (Head × ℕ)) → AllByRecursion (λ c. IsLiveHead old c.0) cs → map (ground_cell new) cs ≡ map (ground_cell old) cs
  ground_kept [] live = refl
  ground_kept (c ∷ cs) live = rw (head_kept old new k c.0 live.0, ground_kept cs live.1) refl

  pub cells_kept : (cs : List Cell) → AllByRecursion (λ c. IsLiveCell old (kind_of c)) cs → map (read_cell new) cs ≡ map (read_cell old) cs
  cells_kept [] live = refl
  cells_kept (c ∷ cs) live = rw (cell_kept old new k (kind_of c) live.0, cells_kept cs live.1) refl

-- the cells of which a term was made are live, and so is the term
pub live_ground : (table : Table) (t : Tree Head) (cs : List (Head × ℕ)) → cells t ≡ cs → AllByRecursion (λ c. IsLiveHead table c.0) cs → IsLiveTerm table t
live_ground table t cs is live = heads_in_cells (IsLiveHead table) t (subst (AllByRecursion (λ c. IsLiveHead table c.0)) (sym is) live)

live_cells : (table : Table) (cs : List Cell) → AllByRecursion (λ c. IsLiveCell table (kind_of c)) cs → AllByRecursion (λ c. IsLiveCell table c.0) (map tree_cell cs)
live_cells table [] live = tt
live_cells table (c ∷ cs) live = (live.0, live_cells table cs live.1)

pub live_pattern : (table : Table) (p : Tree (PatternCell Head)) (cs : List Cell) → cells p ≡ map tree_cell cs → AllByRecursion (λ c. IsLiveCell table (kind_of c)) cs → IsLivePattern table p
live_pattern table p cs is live = heads_in_cells (IsLiveCell table) p (subst (AllByRecursion (λ c. IsLiveCell table c.0)) (sym is) (live_cells table cs live))

-- one more live cell, while the table grows
module _ (old new : Table) (k : Keeps old new) where
  pub live_heads_push : (cs : List (Head × ℕ)) (head : Head) (arity : ℕ) → AllByRecursion (λ c. IsLiveHead old c.0) cs → IsLiveHead new head → AllByRecursion (λ c. IsLiveHead new c.0) (cs ++ (head, arity) ∷ [])
  live_heads_push cs head arity live here = all_push (λ c. IsLiveHead new c.0) cs (head, arity) (all_map (λ c. IsLiveHead old c.0) (λ c. IsLiveHead new c.0) cs (λ c l. live_kept old new k c.0 l) live) here

  pub live_cells_push : (cs : List Cell) (cell : Cell) → AllByRecursion (λ c. IsLiveCell old (kind_of c)) cs → IsLiveCell new (kind_of cell) → AllByRecursion (λ c. IsLiveCell new (kind_of c)) (cs ++ cell ∷ [])
  live_cells_push cs cell live here = all_push (λ c. IsLiveCell new (kind_of c)) cs cell (all_map (λ c. IsLiveCell old (kind_of c)) (λ c. IsLiveCell new (kind_of c)) cs (λ c l. live_cell_kept old new k (kind_of c) l) live) here

-- what the lexemes of a written term mean is what it means
pub means_written : (notation : Notation) (table : Table) (variables : List (List ℕ)) (written : notation.Written) (p : Tree (PatternCell ReadHead)) (xs : List (Lexeme × ℕ)) → xs ≡ cells (notation.outline written) → MeanCells table variables xs (cells p) → Means notation table variables written p
means_written notation table variables written p xs same h = means_whole table variables (notation.outline written) p (subst (λ l. MeanCells table variables l (cells p)) same h)

-- ---- where a lexeme means nothing

-- a name that stands for something is not refused
pub not_refused : (table : Table) (name : List ℕ) (args : ℕ) (head : ReadHead) (kind : FaultKind) → NamesHead table name args head → RefusesUse table name args kind → ⊥
not_refused table name args (symbol n) Unknown is (new, why) = new (n, args, is)
not_refused table name args (symbol n) (WrongArity arity found) is (declared, other, same) = other n is
not_refused table name args (atom n) Unknown (fresh, none, has, here) (new, inl some) = some none
not_refused table name args (atom n) Unknown (fresh, none, has, here) (new, inr never) = never has
not_refused table name args (atom n) (WrongArity arity found) (fresh, none, has, here) ((number, declared), other, same) = fresh (number, arity, declared)
not_refused table name args (symbol n) kind is refused = refused
not_refused table name args (atom n) kind is refused = refused
not_refused table name args (numeral i) kind is refused = is
not_refused table name args (string n) kind is refused = is

-- a literal whose class is included is not refused
literal_not_refused : (table : Table) (x : Lexeme) (head : ReadHead) → IsLiteral table x head → RefusesLiteral table x → ⊥
literal_not_refused table x (numeral i) (kind, has, value) (inl (is, never)) = never has
literal_not_refused table x (numeral i) (kind, has, value) (inr (is, never)) = cc
literal_not_refused table x (string n) (kind, has, here) (inl (is, never)) = cc
literal_not_refused table x (string n) (kind, has, here) (inr (is, never)) = never has
literal_not_refused table x (symbol n) is refused = is
literal_not_refused table x (atom n) is refused = is

pub name_is_no_literal : (table : Table) (x : Lexeme) → IsKind Name x → RefusesLiteral table x → ⊥
name_is_no_literal table x name (inl (is, never)) = cc
name_is_no_literal table x name (inr (is, never)) = cc

pub literal_is_no_name : (table : Table) (x : Lexeme) (head : ReadHead) → IsLiteral table x head → IsKind Name x → ⊥
literal_is_no_name table x (numeral i) (kind, has, value) name = cc
literal_is_no_name table x (string n) (kind, has, here) name = cc
literal_is_no_name table x (symbol n) is name = is
literal_is_no_name table x (atom n) is name = is

pub literal_is_no_list : (table : Table) (x : Lexeme) (head : ReadHead) → IsLiteral table x head → IsKind OpenRound x → ⊥
literal_is_no_list table x (numeral i) (kind, has, value) list = cc
literal_is_no_list table x (string n) (kind, has, value) list = cc
literal_is_no_list table x (symbol n) is list = is
literal_is_no_list table x (atom n) is list = is

pub list_is_no_literal : (table : Table) (x : Lexeme) → IsKind OpenRound x → RefusesLiteral table x → ⊥
list_is_no_literal table x list (inl (is, never)) = cc
list_is_no_literal table x list (inr (is, never)) = cc

pub list_is_no_name : (x : Lexeme) → IsKind OpenRound x → IsKind Name x → ⊥
list_is_no_name x list name = cc

-- where a part of a list has a meaning, lists can be written
pub part_has_lists : (table : Table) (args : ℕ) (head : ReadHead) → IsListPart table args head → HasLists table
part_has_lists table zero head (lists, is) = lists
part_has_lists table (suc n) head (two, (lists, is)) = lists

-- the symbols of the parts
pub nil_part : (table : Table) (args cons nil : ℕ) → args ≡ 0 → IsDeclared table (codes "cons") cons 2 → IsDeclared table (codes "nil") nil 0 → IsListPart table args (symbol nil)
nil_part table args cons nil none cons_is nil_is = subst (λ n. IsListPart table n (symbol nil)) (sym none) (record { cons = cons; nil = nil; cons_is = cons_is; nil_is = nil_is }, refl)

pub cons_part : (table : Table) (args cons nil : ℕ) → args ≡ 2 → IsDeclared table (codes "cons") cons 2 → IsDeclared table (codes "nil") nil 0 → IsListPart table args (symbol cons)
cons_part table args cons nil two cons_is nil_is = subst (λ n. IsListPart table n (symbol cons)) (sym two) (refl, (record { cons = cons; nil = nil; cons_is = cons_is; nil_is = nil_is }, refl))

-- what a lexeme that names no variable means and why it means nothing do not depend on the variables
pub means_beside : (table : Table) (variables : List (List ℕ)) (x : Lexeme) (args : ℕ) (head : ReadHead) → (IsKind Name x → ¬ Contains variables x.bytes) → MeansCell table [] x args (fixed head) → MeansCell table variables x args (fixed head)
means_beside table variables x args head free (inl (name, none, is)) = inl (name, free name, is)
means_beside table variables x args head free (inr is) = inr is

pub refused_beside : (table : Table) (variables : List (List ℕ)) (x : Lexeme) (args : ℕ) (kind : FaultKind) → (IsKind Name x → ¬ Contains variables x.bytes) → RefusesCell table [] x args kind → RefusesCell table variables x args kind
refused_beside table variables x args kind free (inl literal) = inl literal
refused_beside table variables x args kind free (inr (inl (name, among, some, is))) = absurd (omega (arith, among.1))
refused_beside table variables x args kind free (inr (inr (inl (name, none, why)))) = inr (inr (inl (name, free name, why)))
refused_beside table variables x args kind free (inr (inr (inr list))) = inr (inr (inr list))

-- what means something has no fault
no_fault : (table : Table) (variables : List (List ℕ)) (x : Lexeme) (args : ℕ) (c : PatternCell ReadHead) (kind : FaultKind) → MeansCell table variables x args c → RefusesCell table variables x args kind → ⊥
no_fault table variables x args (variable v) kind (name, listed, none) (inl (literal, is)) = name_is_no_literal table x name literal
no_fault table variables x args (variable v) kind (name, listed, none) (inr (inl (name', has, some, is))) = some none
no_fault table variables x args (variable v) kind (name, listed, none) (inr (inr (inl (name', free, why)))) = free (v, slice_get_within variables v x.bytes listed, get_or_from_slice_get variables v x.bytes x.bytes listed)
no_fault table variables x args (variable v) kind (name, listed, none) (inr (inr (inr ((list, never), is)))) = list_is_no_name x list name
no_fault table variables x args (fixed head) kind (inl (name, free, is)) (inl (literal, same)) = name_is_no_literal table x name literal
no_fault table variables x args (fixed head) kind (inl (name, free, is)) (inr (inl (name', has, some, same))) = free has
no_fault table variables x args (fixed head) kind (inl (name, free, is)) (inr (inr (inl (name', free', why)))) = not_refused table x.bytes args head kind is why
no_fault table variables x args (fixed head) kind (inl (name, free, is)) (inr (inr (inr ((list, never), same)))) = list_is_no_name x list name
no_fault table variables x args (fixed head) kind (inr (inl (none, is))) (inl (literal, same)) = literal_not_refused table x head is literal
no_fault table variables x args (fixed head) kind (inr (inl (none, is))) (inr (inl (name, has, some, same))) = literal_is_no_name table x head is name
no_fault table variables x args (fixed head) kind (inr (inl (none, is))) (inr (inr (inl (name, free, why)))) = literal_is_no_name table x head is name
no_fault table variables x args (fixed head) kind (inr (inl (none, is))) (inr (inr (inr ((list, never), same)))) = literal_is_no_list table x head is list
no_fault table variables x args (fixed head) kind (inr (inr (list, is))) (inl (literal, same)) = list_is_no_literal table x list literal
no_fault table variables x args (fixed head) kind (inr (inr (list, is))) (inr (inl (name, has, some, same))) = list_is_no_name x list name
no_fault table variables x args (fixed head) kind (inr (inr (list, is))) (inr (inr (inl (name, free, why)))) = list_is_no_name x list name
no_fault table variables x args (fixed head) kind (inr (inr (list, is))) (inr (inr (inr ((list', never), same)))) = never (part_has_lists table args head is)
no_fault table variables x args (restricted v class) kind is refused = is

pub faultless : (table : Table) (variables : List (List ℕ)) (xs : List (Lexeme × ℕ)) (cs : List (PatternCell ReadHead × ℕ)) → MeanCells table variables xs cs → AllByRecursion (IsFaultless table variables) xs
faultless table variables [] cs h = tt
faultless table variables (x ∷ xs) [] h = absurd h
faultless table variables (x ∷ xs) (c ∷ cs) (here, same, rest) = (λ kind refused. no_fault table variables x.0 x.1 c.0 kind here refused, faultless table variables xs cs rest)

module _ (table : Table) (variables : List (List ℕ)) (text : List ℕ) (mentions : List Mention) (i : ℕ) (d : Mention) (lt : i < length mentions) where
  pub first_refused : (cs : List (PatternCell ReadHead × ℕ)) (f : Fault) → MeanCells table variables (take i (map (seen text) mentions)) cs → RefusesCell table variables (lexeme text (get_or mentions i d).token) (get_or mentions i d).args f.kind → f.byte ≡ (get_or mentions i d).token.from → IsFirstRefused table variables (map (seen text) mentions) f
  first_refused cs f h refused place =
      let xs = map (seen text) mentions in
      let m = get_or mentions i d in
      let within : i < length xs = omega (arith, length-map mentions (seen text)) in
      record {
        before = take i xs;
        here = seen text m;
        behind = drop (i + 1) xs;
        split = sym (take-append-drop i xs) ∙ ap (λ l. take i xs ++ l) (drop_more xs i (seen text m) within ∙ ap (λ x. x ∷ drop (i + 1) xs) (get_or-map (seen text) mentions i d (seen text m) lt));
        faultless = faultless table variables (take i xs) cs h;
        refused = refused;
        place = place;
      }
