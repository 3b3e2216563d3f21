-- Numbers for all heads as they are read: those of a table for its atoms and texts, and others, one each, for all other bytes.
use Rattle.std.proofs.Common.{◌≡◌, ◌⊎◌, inl, inr, ℕ, zero, suc, ◌<◌, ◌≤◌, Bool, true, false, cond, List, [], ◌∷◌, map, length, Some, refl, sym, ◌∙◌, ap, arith}
use Rattle.std.specs.Prelude.{◌↔◌, IsTrue, All, nat_le, slice_get, slice_index_or, bytes_eq}
use Rattle.std.proofs.lemmas.Bool.Decides.{leb_tells}
use Rattle.std.proofs.lemmas.Option.{slice_get-get_or}
use Rattle.std.proofs.lemmas.Slice.Eq.{bytes_eq-Decides}
use Rattle.eq_base.specs.Tree.{Tree, Forest, node, empty, grow, map_heads, map_all_heads, AllHeadsIn}
use Rattle.eq_base.specs.Pattern.{PatternCell, fixed, variable, restricted}
use Rattle.eq_base.specs.Rewriting.{pattern}
use Rattle.eq_base.specs.Rules.{right_side, rule_of}
use Rattle.eq_base.specs.Meeting.{in_symbol_class, same_head, in_class_of}
use Rattle.eq_base.specs.Mapping.{map_cell, map_pattern, map_right, map_rule}
use Rattle.eq_base.specs.ReadHead.{ReadHead, symbol, numeral, atom, text, in_read_symbol_class, same_read_head, in_read_class}
use Rattle.eq_base.specs.declared.head.Head.{Head}
use Rattle.eq_base.specs.declared.head.Head.TheVariants.{Symbol, Numeral, Atom, Text}
use Rattle.eq_base.specs.declared.rules.Right.{Right}
use Rattle.eq_base.specs.declared.rules.Right.TheVariants as rights
use Rattle.eq_base.specs.declared.rules.Equation.{Equation}
use Rattle.eq_base.proofs.ClassMembers.{same_head_decides, same_read_head_decides, same_tests, class-map}
use Rattle.symbol_table.specs.Table.{Table, AreDistinct, HasOneNumberEach}
use Rattle.symbol_table.specs.Reading.{read_head, read, read_pattern, read_rule, read_classes, IsLiveHead, IsLiveTerm, IsLiveCell, IsLivePattern, IsLiveRight, IsLiveEquation, AreLiveClasses}

-- ---- lists of numbers as numbers

-- the first number one more, if there is one
abbrev raise : List ℕ → List ℕ
raise [] = []
raise (x ∷ xs) = suc x ∷ xs

-- the list after this one, as binary numbers are counted: each element is how many zeros stand before a one
abbrev next : List ℕ → List ℕ
next [] = 0 ∷ []
next (zero ∷ xs) = raise (next xs)
next (suc x ∷ xs) = 0 ∷ x ∷ xs

abbrev nth_list : ℕ → List ℕ
nth_list zero = []
nth_list (suc n) = next (nth_list n)

abbrev twice : ℕ → ℕ
twice zero = 0
twice (suc n) = suc (suc (twice n))

abbrev doubled : ℕ → ℕ → ℕ
doubled zero n = suc (twice n)
doubled (suc x) n = twice (doubled x n)

abbrev index_of : List ℕ → ℕ
index_of [] = 0
index_of (x ∷ xs) = doubled x (index_of xs)

next-raise : (xs : List ℕ) → next (raise xs) ≡ 0 ∷ xs
next-raise [] = refl
next-raise (x ∷ xs) = refl

next-next-raise : (xs : List ℕ) → next (next (raise xs)) ≡ raise (next xs)
next-next-raise [] = refl
next-next-raise (x ∷ xs) = refl

nth-twice : (n : ℕ) → nth_list (twice n) ≡ raise (nth_list n)
nth-twice zero = refl
nth-twice (suc n) = ap (λ xs. next (next xs)) (nth-twice n) ∙ next-next-raise (nth_list n)

nth-doubled : (x n : ℕ) → nth_list (doubled x n) ≡ x ∷ nth_list n
nth-doubled zero n = ap next (nth-twice n) ∙ next-raise (nth_list n)
nth-doubled (suc x) n = nth-twice (doubled x n) ∙ ap raise (nth-doubled x n)

nth-index : (xs : List ℕ) → nth_list (index_of xs) ≡ xs
nth-index [] = refl
nth-index (x ∷ xs) = nth-doubled x (index_of xs) ∙ ap (λ xs. x ∷ xs) (nth-index xs)

index-raise : (xs : List ℕ) → index_of (raise xs) ≡ twice (index_of xs)
index-raise [] = refl
index-raise (x ∷ xs) = refl

index-next : (xs : List ℕ) → index_of (next xs) ≡ suc (index_of xs)
index-next [] = refl
index-next (zero ∷ xs) = index-raise (next xs) ∙ ap twice (index-next xs)
index-next (suc x ∷ xs) = refl

index-nth : (n : ℕ) → index_of (nth_list n) ≡ n
index-nth zero = refl
index-nth (suc n) = index-next (nth_list n) ∙ ap suc (index-nth n)

-- ---- numbers round a gap

-- the number with the gap left out: from the gap on it is one more
abbrev past_gap : ℕ → ℕ → ℕ
past_gap zero n = suc n
past_gap (suc m) zero = zero
past_gap (suc m) (suc n) = suc (past_gap m n)

-- the number with the gap closed: past the gap it is one less
abbrev before_gap : ℕ → ℕ → ℕ
before_gap zero zero = zero
before_gap zero (suc n) = n
before_gap (suc m) zero = zero
before_gap (suc m) (suc n) = suc (before_gap m n)

past-before : (m n : ℕ) → (n ≡ m → ⊥) → past_gap m (before_gap m n) ≡ n
past-before zero zero other = absurd (other refl)
past-before zero (suc n) other = refl
past-before (suc m) zero other = refl
past-before (suc m) (suc n) other = ap suc (past-before m n (λ e. other (ap suc e)))

before-past : (m n : ℕ) → before_gap m (past_gap m n) ≡ n
before-past zero n = refl
before-past (suc m) zero = refl
before-past (suc m) (suc n) = ap suc (before-past m n)

past_gap-other : (m n : ℕ) → past_gap m n ≡ m → ⊥
past_gap-other zero n e = omega (arith, e)
past_gap-other (suc m) zero e = omega (arith, e)
past_gap-other (suc m) (suc n) e = past_gap-other m n (omega (arith, e))

past_gap-below : (m n : ℕ) → n < m → past_gap m n ≡ n
past_gap-below zero n lt = absurd (omega (arith, lt))
past_gap-below (suc m) zero lt = refl
past_gap-below (suc m) (suc n) lt = ap suc (past_gap-below m n (omega arith))

-- ---- bytes by number

-- the number of the bytes: those of the list come first, and all other bytes after them
abbrev pub number_in : List (List ℕ) → List ℕ → ℕ
number_in [] bytes = index_of bytes
number_in (x ∷ xs) bytes = cond (bytes_eq x bytes) 0 (suc (before_gap (number_in xs x) (number_in xs bytes)))

-- the bytes with the number
abbrev pub bytes_at : List (List ℕ) → ℕ → List ℕ
bytes_at [] n = nth_list n
bytes_at (x ∷ xs) zero = x
bytes_at (x ∷ xs) (suc n) = bytes_at xs (past_gap (number_in xs x) n)

pub bytes_at-number : (xs : List (List ℕ)) (bytes : List ℕ) → bytes_at xs (number_in xs bytes) ≡ bytes
bytes_at-number [] bytes = nth-index bytes
bytes_at-number (x ∷ xs) bytes = by_test (bytes_eq x bytes) (bytes_eq-Decides x bytes) (bytes_at-number xs x) (bytes_at-number xs bytes)
  where
    by_test : (b : Bool) → IsTrue b ↔ (x ≡ bytes) → bytes_at xs (number_in xs x) ≡ x → bytes_at xs (number_in xs bytes) ≡ bytes
        → bytes_at (x ∷ xs) (cond b 0 (suc (before_gap (number_in xs x) (number_in xs bytes)))) ≡ bytes
    by_test true same first rest = same.0 refl
    by_test false same first rest =
        ap (bytes_at xs) (past-before (number_in xs x) (number_in xs bytes) (λ e. let z = same.1 (sym first ∙ ap (bytes_at xs) (sym e) ∙ rest) in absurd (cc))) ∙ rest

pub number-bytes_at : (xs : List (List ℕ)) (n : ℕ) → number_in xs (bytes_at xs n) ≡ n
number-bytes_at [] n = index-nth n
number-bytes_at (x ∷ xs) zero = ap (λ b. cond b 0 (suc (before_gap (number_in xs x) (number_in xs x)))) ((bytes_eq-Decides x x).1 refl)
number-bytes_at (x ∷ xs) (suc n) =
    let m = past_gap (number_in xs x) n in
    by_test (bytes_eq x (bytes_at xs m)) (bytes_eq-Decides x (bytes_at xs m)) (number-bytes_at xs m)
  where
    by_test : (b : Bool) → IsTrue b ↔ (x ≡ bytes_at xs (past_gap (number_in xs x) n)) → number_in xs (bytes_at xs (past_gap (number_in xs x) n)) ≡ past_gap (number_in xs x) n
        → cond b 0 (suc (before_gap (number_in xs x) (number_in xs (bytes_at xs (past_gap (number_in xs x) n))))) ≡ suc n
    by_test true same rest = absurd (past_gap-other (number_in xs x) n (sym rest ∙ ap (number_in xs) (sym (same.0 refl))))
    by_test false same rest = ap (λ k. suc (before_gap (number_in xs x) k)) rest ∙ ap suc (before-past (number_in xs x) n)

distinct_rest : (x : List ℕ) (xs : List (List ℕ)) → AreDistinct (x ∷ xs) → AreDistinct xs
distinct_rest x xs distinct = λ bytes one other e e'. let z = distinct bytes (suc one) (suc other) e e' in omega (arith, z)

-- the numbers of the list are its own
pub bytes_at-there : (xs : List (List ℕ)) → AreDistinct xs → (n : ℕ) → n < length xs → bytes_at xs n ≡ slice_index_or xs n []
bytes_at-there [] distinct n lt = absurd (omega arith)
bytes_at-there (x ∷ xs) distinct zero lt = refl
bytes_at-there (x ∷ xs) distinct (suc n) lt =
    let rest = bytes_at-there xs (distinct_rest x xs distinct) in
    ap (bytes_at xs) (past_gap-below (number_in xs x) n (by_order rest (leb_tells (length xs) (number_in xs x)))) ∙ rest n (omega arith)
  where
    twice_there : (k : ℕ) → slice_get xs k ≡ Some x → ⊥
    twice_there k at = let z = distinct x 0 (suc k) refl at in omega (arith, z)

    by_order : ((k : ℕ) → k < length xs → bytes_at xs k ≡ slice_index_or xs k [])
        → ((nat_le (length xs) (number_in xs x) ≡ true) × (length xs ≤ number_in xs x)) ⊎ ((nat_le (length xs) (number_in xs x) ≡ false) × (number_in xs x < length xs))
        → n < number_in xs x
    by_order rest (inl le) = omega (arith, le.1, lt)
    by_order rest (inr below) =
        absurd (twice_there (number_in xs x) (slice_get-get_or xs (number_in xs x) [] below.1 ∙ ap Some (sym (rest (number_in xs x) below.1) ∙ bytes_at-number xs x)))

-- ---- heads by number

-- the head as it is read, for all numbers
abbrev pub read_all : Table → Head → ReadHead
read_all table (Symbol s) = symbol s
read_all table (Numeral i) = numeral i
read_all table (Atom a) = atom (bytes_at table.atoms a)
read_all table (Text t) = text (bytes_at table.texts t)

-- a head that is read as this one
abbrev pub head_for : Table → ReadHead → Head
head_for table (symbol s) = Symbol s
head_for table (numeral i) = Numeral i
head_for table (atom bytes) = Atom (number_in table.atoms bytes)
head_for table (text bytes) = Text (number_in table.texts bytes)

pub read-head_for : (table : Table) (h : ReadHead) → read_all table (head_for table h) ≡ h
read-head_for table (symbol s) = refl
read-head_for table (numeral i) = refl
read-head_for table (atom bytes) = ap atom (bytes_at-number table.atoms bytes)
read-head_for table (text bytes) = ap text (bytes_at-number table.texts bytes)

pub head_for-read : (table : Table) (h : Head) → head_for table (read_all table h) ≡ h
head_for-read table (Symbol s) = refl
head_for-read table (Numeral i) = refl
head_for-read table (Atom a) = ap Atom (number-bytes_at table.atoms a)
head_for-read table (Text t) = ap Text (number-bytes_at table.texts t)

symbols-read_all : (table : Table) (class : ℕ) (h : Head) → in_read_symbol_class class (read_all table h) ≡ in_symbol_class class h
symbols-read_all table class (Symbol s) = refl
symbols-read_all table class (Numeral i) = refl
symbols-read_all table class (Atom a) = refl
symbols-read_all table class (Text t) = refl

-- heads are the same exactly where they are read alike
same-read_all : (table : Table) (h g : Head) → same_read_head (read_all table h) (read_all table g) ≡ same_head h g
same-read_all table h g =
    same_tests _ _
    (λ e. (same_head_decides h g).1 (sym (head_for-read table h) ∙ ap (head_for table) ((same_read_head_decides (read_all table h) (read_all table g)).0 e) ∙ head_for-read table g))
    (λ e. (same_read_head_decides (read_all table h) (read_all table g)).1 (ap (read_all table) ((same_head_decides h g).0 e)))

-- ---- live heads are read one to one

module _ (table : Table) (one : HasOneNumberEach table) where
  pub live-read : (h : Head) → IsLiveHead table h → read_all table h ≡ read_head table h
  live-read (Symbol s) live = refl
  live-read (Numeral i) live = refl
  live-read (Atom a) live = ap atom (bytes_at-there table.atoms one.atoms a live)
  live-read (Text t) live = ap text (bytes_at-there table.texts one.texts t live)

  pub live-head_for : (h : Head) → IsLiveHead table h → head_for table (read_head table h) ≡ h
  live-head_for h live = ap (head_for table) (sym (live-read h live)) ∙ head_for-read table h

  mutual
    pub live-term : (t : Tree Head) → IsLiveTerm table t → map_heads (read_all table) t ≡ read table t
    live-term (node h ts) live = rw (live-read h live.0, live-terms ts live.1) refl

    live-terms : (ts : Forest Head) → AllHeadsIn (IsLiveHead table) ts → map_all_heads (read_all table) ts ≡ map_all_heads (read_head table) ts
    live-terms empty live = refl
    live-terms (grow t ts) live = rw (live-term t live.0, live-terms ts live.1) refl

  mutual
    pub live-term_for : (t : Tree Head) → IsLiveTerm table t → map_heads (head_for table) (read table t) ≡ t
    live-term_for (node h ts) live = rw (live-head_for h live.0, live-terms_for ts live.1) refl

    live-terms_for : (ts : Forest Head) → AllHeadsIn (IsLiveHead table) ts → map_all_heads (head_for table) (map_all_heads (read_head table) ts) ≡ ts
    live-terms_for empty live = refl
    live-terms_for (grow t ts) live = rw (live-term_for t live.0, live-terms_for ts live.1) refl

  live-cell : (c : PatternCell Head) → IsLiveCell table c → map_cell (read_all table) c ≡ map_cell (read_head table) c
  live-cell (fixed h) live = ap fixed (live-read h live)
  live-cell (variable x) live = refl
  live-cell (restricted x class) live = refl

  live-cell_for : (c : PatternCell Head) → IsLiveCell table c → map_cell (head_for table) (map_cell (read_head table) c) ≡ c
  live-cell_for (fixed h) live = ap fixed (live-head_for h live)
  live-cell_for (variable x) live = refl
  live-cell_for (restricted x class) live = refl

  mutual
    pub live-pattern : (p : Tree (PatternCell Head)) → IsLivePattern table p → map_pattern (read_all table) p ≡ read_pattern table p
    live-pattern (node c ps) live = rw (live-cell c live.0, live-patterns ps live.1) refl

    live-patterns : (ps : Forest (PatternCell Head)) → AllHeadsIn (IsLiveCell table) ps → map_all_heads (map_cell (read_all table)) ps ≡ map_all_heads (map_cell (read_head table)) ps
    live-patterns empty live = refl
    live-patterns (grow p ps) live = rw (live-pattern p live.0, live-patterns ps live.1) refl

  mutual
    pub live-pattern_for : (p : Tree (PatternCell Head)) → IsLivePattern table p → map_pattern (head_for table) (read_pattern table p) ≡ p
    live-pattern_for (node c ps) live = rw (live-cell_for c live.0, live-patterns_for ps live.1) refl

    live-patterns_for : (ps : Forest (PatternCell Head)) → AllHeadsIn (IsLiveCell table) ps → map_all_heads (map_cell (head_for table)) (map_all_heads (map_cell (read_head table)) ps) ≡ ps
    live-patterns_for empty live = refl
    live-patterns_for (grow p ps) live = rw (live-pattern_for p live.0, live-patterns_for ps live.1) refl

  live-right : (right : Right) → IsLiveRight table right → map_right (read_all table) (right_side right) ≡ map_right (read_head table) (right_side right)
  live-right (rights.Tree p) live = ap pattern (live-pattern p live)
  live-right (rights.Schema op) live = refl

  live-right_for : (right : Right) → IsLiveRight table right → map_right (head_for table) (map_right (read_head table) (right_side right)) ≡ right_side right
  live-right_for (rights.Tree p) live = ap pattern (live-pattern_for p live)
  live-right_for (rights.Schema op) live = refl

  pub live-rule : (e : Equation) → IsLiveEquation table e → map_rule (read_all table) (rule_of e) ≡ read_rule table e
  live-rule e live = rw (live-pattern e.left live.left, live-right e.right live.right) refl

  pub live-rule_for : (e : Equation) → IsLiveEquation table e → map_rule (head_for table) (read_rule table e) ≡ rule_of e
  live-rule_for e live = rw (live-pattern_for e.left live.left, live-right_for e.right live.right) refl

  -- live heads that are read alike are the same
  pub read_apart : (h k : Head) → IsLiveHead table h → IsLiveHead table k → read_head table h ≡ read_head table k → h ≡ k
  read_apart h k live live' e = sym (live-head_for h live) ∙ ap (head_for table) e ∙ live-head_for k live'

  -- ---- classes

  live-members : (heads : List Head) → All (IsLiveHead table) heads → map (read_all table) heads ≡ map (read_head table) heads
  live-members [] live = refl
  live-members (h ∷ heads) live = rw (live-read h (live 0 h (omega arith)), live-members heads (λ n d lt. live (suc n) d (omega arith))) refl

  live-classes : (classes : List (List Head)) → AreLiveClasses table classes → map (λ heads. map (read_all table) heads) classes ≡ read_classes table classes
  live-classes [] live = refl
  live-classes (heads ∷ classes) live = rw (live-members heads (live 0 heads (omega arith)), live-classes classes (λ n d lt. live (suc n) d (omega arith))) refl

  -- Live classes have the heads that their read ones have.
  module _ (classes : List (List Head)) (live : AreLiveClasses table classes) where
    pub class-read_all : (class : ℕ) (h : Head) → in_read_class (read_classes table classes) class (read_all table h) ≡ in_class_of classes class h
    class-read_all class h =
        ap (λ read. in_read_class read class (read_all table h)) (sym (live-classes classes live))
        ∙ class-map same_head same_read_head (read_all table) in_symbol_class in_read_symbol_class classes class h (symbols-read_all table class h) (λ g there. same-read_all table h g)

    pub class-head_for : (class : ℕ) (h : ReadHead) → in_class_of classes class (head_for table h) ≡ in_read_class (read_classes table classes) class h
    class-head_for class h =
        sym (class-read_all class (head_for table h)) ∙ ap (in_read_class (read_classes table classes) class) (read-head_for table h)

    -- and so they have the live heads
    pub class-read_head : (class : ℕ) (h : Head) → IsLiveHead table h → in_read_class (read_classes table classes) class (read_head table h) ≡ in_class_of classes class h
    class-read_head class h is_live = ap (in_read_class (read_classes table classes) class) (sym (live-read h is_live)) ∙ class-read_all class h
