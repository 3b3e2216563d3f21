-- The print of a term is read as the term.
use Rattle.std.proofs.Common.{◌≡◌, ℕ, suc, ◌+◌, Bool, true, false, cond, List, [], ◌∷◌, ◌++◌, map, length, drop, refl, sym, ap, subst, ◌∙◌, append_assoc, append-nil, length-append, inl, inr, arith, codes}
use Rattle.std.specs.Prelude.{◌==◌, ◌&&◌}
use Rattle.std.specs.List.{AllByRecursion}
use Rattle.std.specs.Str.{bytes_eq}
use Rattle.std.proofs.lemmas.Bool.{and_parts}
use Rattle.std.proofs.lemmas.Bool.Decides.{Decides-eqb}
use Rattle.std.proofs.lemmas.List.{map-append}
use Rattle.std.proofs.lemmas.Slice.Eq.{bytes_eq-Decides}
use Rattle.eq_base.specs.Tree.{Tree, Forest, node, empty, grow, count, cells, all_cells, map_heads, map_all_heads}
use Rattle.eq_base.specs.Pattern.{fixed}
use Rattle.eq_base.specs.ReadHead.{ReadHead, symbol, numeral, atom, text as string}
use Rattle.eq_base.proofs.Lists.{all_front, all_back}
use Rattle.term_lex.specs.declared.token.TokenKind.{TokenKind}
use Rattle.term_lex.specs.declared.token.TokenKind.TheVariants.{OpenRound, CloseRound, OpenSquare, CloseSquare, Semicolon, Dot}
use Rattle.term_lex.specs.Lexemes.{Lexeme, Scans}
use Rattle.term_lex.specs.Parts.{IsKind}
use Rattle.term_lex.proofs.Readings.{scans_append}
use Rattle.term_lex.proofs.Spellings.{IsLead, EndsWord, Spells, word_at, drop_part, word_behind, open_spells, close_spells, open_square_spells, close_square_spells, semicolon_spells, dot_spells}
use Rattle.symbol_table.specs.Table.{Table, IsDeclared}
use Rattle.written_terms.specs.Meaning.{IsLiteral, IsListPart, MeansCell, MeansTree, MeanTrees, Means}
use Rattle.written_terms.specs.Printing.{head_text, symbol_name}
use Rattle.written_terms.specs.Readable.{IsReadable, IsReadableTerm}
use Rattle.written_terms.proofs.Readables.{reads_head}
use Rattle.lisp_m.specs.declared.write.Part.{Part}
use Rattle.lisp_m.specs.declared.write.Part.TheVariants.{Element, End, Other}
use Rattle.lisp_m.specs.Terms.{Word, Literal, Opening, Sign, Written, Others, Rest, Constant, Value, Call, Nil, Elements, NoMore, More, Close, Dotted, Further, spelling, terminal_of, terminal_of_kind, IsTerm}
use Rattle.lisp_m.specs.Terms as grammar
use Rattle.lisp_m.specs.Notation.{outlines, rest_outline, lisp_m}
use Rattle.lisp_m.specs.Printing.{list_part, choose, print, print_rest, in_list, in_brackets, behind_semicolons}
use Rattle.lisp_m.specs.Readable.{IsReadAgain}
use Rattle.lisp_m.proofs.Lists.{has_lists-Decides, name_is}

-- ---- what a part of a list means

chosen_end : (h x y : Bool) → cond h (cond x Element (cond y End Other)) Other ≡ End → (h ≡ true) × (y ≡ true)
chosen_end true true y e = cc
chosen_end true false true e = (refl, refl)
chosen_end true false false e = cc
chosen_end false x y e = cc

chosen_element : (h x y : Bool) → cond h (cond x Element (cond y End Other)) Other ≡ Element → (h ≡ true) × (x ≡ true)
chosen_element true true y e = (refl, refl)
chosen_element true false true e = cc
chosen_element true false false e = cc
chosen_element false x y e = cc

module _ (table : Table) where
  -- a declared symbol that has another name's bytes is declared under that name
  named : (n args arity : ℕ) (name : List ℕ) → IsReadable table (symbol n) args → (bytes_eq (symbol_name table n) name && (args == arity)) ≡ true → (args ≡ arity) × IsDeclared table name n arity
  named n args arity name readable is =
      let parts = and_parts _ _ is in
      let counted = (Decides-eqb args arity).0 parts.1 in
      let bytes = sym (name_is table readable.0 n args readable.1) ∙ (bytes_eq-Decides (symbol_name table n) name).0 parts.0 in
      (counted, subst (λ k. IsDeclared table name n k) counted (subst (λ bytes. IsDeclared table bytes n args) bytes readable.1))

  end_means : (head : ReadHead) (args : ℕ) → IsReadable table head args → list_part table head args ≡ End → (args ≡ 0) × IsListPart table 0 head
  end_means (symbol n) args readable is =
      let chosen = chosen_end _ _ _ is in
      let nil = named n args 0 (codes "nil") readable chosen.1 in
      let lists = (has_lists-Decides table).0 chosen.0 in
      (nil.0, (record { cons = lists.cons; nil = n; cons_is = lists.cons_is; nil_is = nil.1 }, refl))
  end_means (numeral value) args readable is = cc
  end_means (atom name) args readable is = cc
  end_means (string value) args readable is = cc

  element_means : (head : ReadHead) (args : ℕ) → IsReadable table head args → list_part table head args ≡ Element → (args ≡ 2) × IsListPart table 2 head
  element_means (symbol n) args readable is =
      let chosen = chosen_element _ _ _ is in
      let cons = named n args 2 (codes "cons") readable chosen.1 in
      let lists = (has_lists-Decides table).0 chosen.0 in
      (cons.0, (refl, (record { cons = n; nil = lists.nil; cons_is = cons.1; nil_is = lists.nil_is }, refl)))
  element_means (numeral value) args readable is = cc
  element_means (atom name) args readable is = cc
  element_means (string value) args readable is = cc

  element_two : (head : ReadHead) (args : ℕ) → list_part table head args ≡ Element → args ≡ 2
  element_two (symbol n) args is = (Decides-eqb args 2).0 (and_parts _ _ (chosen_element _ _ _ is).1).1
  element_two (numeral value) args is = cc
  element_two (atom name) args is = cc
  element_two (string value) args is = cc

  -- a lexeme that means a head with arguments, and is no bracket, is a word
  word_means : (x : Lexeme) (args : ℕ) (head : ReadHead) → (IsKind OpenRound x → ⊥) → MeansCell table [] x (suc args) (fixed head) → Word x ≡ terminal_of x
  word_means x args head never (inl name) = ap (λ kind. terminal_of_kind kind x) (sym name.0)
  word_means x args head never (inr (inl value)) = absurd (omega (arith, value.0))
  word_means x args head never (inr (inr list)) = absurd (never list.0)

  literal_means : (x : Lexeme) (head : ReadHead) → IsLiteral table x head → Literal x ≡ terminal_of x
  literal_means x (symbol n) literal = absurd literal
  literal_means x (atom name) literal = absurd literal
  literal_means x (numeral value) literal = ap (λ kind. terminal_of_kind kind x) (sym literal.0)
  literal_means x (string value) literal = ap (λ kind. terminal_of_kind kind x) (sym literal.0)

  -- a lexeme that means a head without arguments, and is no bracket, is a term
  constant_means : (x : Lexeme) (head : ReadHead) → (IsKind OpenRound x → ⊥) → MeansCell table [] x 0 (fixed head) → (written : Written) × IsTerm written (x ∷ []) × Means lisp_m table [] written (node (fixed head) empty)
  constant_means x head never (inl name) = (Constant x, ap (λ kind. terminal_of_kind kind x ∷ []) (sym name.0), (inl name, tt))
  constant_means x head never (inr (inl value)) = (Value x, ap (λ terminal. terminal ∷ []) (literal_means x head value.1), (inr (inl value), tt))
  constant_means x head never (inr (inr list)) = absurd (never list.0)

-- ---- the lexemes of a whole are those of its parts

call_spelled : (x opening : Lexeme) (first : Written) (others : Others) (xs ys : List Lexeme) → Word x ≡ terminal_of x → Sign OpenSquare ≡ terminal_of opening → IsTerm first xs → grammar.behind_argument others ≡ map terminal_of ys → IsTerm (Call x first others) (x ∷ opening ∷ (xs ++ ys))
call_spelled x opening first others xs ys word opens spelled all_spelled = cc (map-append terminal_of xs ys)

elements_spelled : (x : Lexeme) (first : Written) (rest : Rest) (xs ys : List Lexeme) → Opening x ≡ terminal_of x → IsTerm first xs → grammar.behind_element rest ≡ map terminal_of ys → IsTerm (Elements x first rest) (x ∷ (xs ++ ys))
elements_spelled x first rest xs ys opens spelled rest_spelled = cc (map-append terminal_of xs ys)

further_spelled : (t : Written) (rest : Rest) (xs ys : List Lexeme) → IsTerm t xs → grammar.behind_element rest ≡ map terminal_of ys → grammar.behind_element (Further t rest) ≡ map terminal_of (xs ++ ys)
further_spelled t rest xs ys spelled rest_spelled = cc (map-append terminal_of xs ys)

dotted_spelled : (t : Written) (dot close : Lexeme) (xs : List Lexeme) → Sign Dot ≡ terminal_of dot → Sign CloseRound ≡ terminal_of close → IsTerm t xs → grammar.behind_element (Dotted t) ≡ map terminal_of (dot ∷ (xs ++ close ∷ []))
dotted_spelled t dot close xs is closes spelled = cc (map-append terminal_of xs (close ∷ []))

more_spelled : (sign : Lexeme) (t : Written) (others : Others) (xs ys : List Lexeme) → Sign Semicolon ≡ terminal_of sign → IsTerm t xs → grammar.behind_argument others ≡ map terminal_of ys → grammar.behind_argument (More t others) ≡ map terminal_of (sign ∷ (xs ++ ys))
more_spelled sign t others xs ys is spelled all_spelled = cc (map-append terminal_of xs ys)

-- a print that goes on ends the word before it
chosen_ends : (p : Part) (a b c follow : List ℕ) → EndsWord (choose p (codes " " ++ a) (codes ")") (codes " . " ++ b ++ c ++ codes ")") ++ follow)
chosen_ends Element a b c follow = refl
chosen_ends End a b c follow = refl
chosen_ends Other a b c follow = refl

module _ (table : Table) (text : List ℕ) where
  -- ---- lexemes in the text, part by part

  -- the lexemes take the bytes from a place on
  abbrev Runs : ℕ → List ℕ → List Lexeme → Type 0
  Runs at bytes lexemes = Scans text at lexemes (at + length bytes)

  -- where the text goes on with a whole, it goes on with its parts
  split : (at : ℕ) (whole a b follow : List ℕ) → whole ≡ a ++ b → drop at text ≡ whole ++ follow → (drop at text ≡ a ++ (b ++ follow)) × (drop (at + length a) text ≡ b ++ follow)
  split at whole a b follow parts here =
      let first : drop at text ≡ a ++ (b ++ follow) = here ∙ ap (λ x. x ++ follow) parts ∙ append_assoc a b follow in
      (first, drop_part text at a (b ++ follow) first)

  join : (at : ℕ) (whole a b : List ℕ) (xs ys : List Lexeme) → whole ≡ a ++ b → Runs at a xs → Runs (at + length a) b ys → Runs at whole (xs ++ ys)
  join at whole a b xs ys parts one two =
      let end : at + length a + length b ≡ at + length whole = omega (arith, ap length parts, length-append a b) in
      subst (λ n. Scans text at (xs ++ ys) n) end (scans_append text at xs ys (at + length a) (at + length a + length b) one two)

  -- one word behind a lead
  word_runs : (at : ℕ) (lead word follow : List ℕ) (kind : TokenKind) → IsLead lead → drop at text ≡ (lead ++ word) ++ follow → Spells kind word follow → Runs at (lead ++ word) (word_at (at + length lead) kind word ∷ [])
  word_runs at lead word follow kind is_lead here spells = (word_behind text at lead word follow kind is_lead (here ∙ append_assoc lead word follow) spells, omega (arith, length-append lead word))

  -- ---- what stands in the text

  -- the bytes are a written term that means this one
  record Stands (t : Tree ReadHead) (at : ℕ) (bytes : List ℕ) : Type 0 where
    pub written : Written
    pub lexemes : List Lexeme
    pub scanned : Runs at bytes lexemes
    pub spelled : IsTerm written lexemes
    pub means : Means lisp_m table [] written (map_heads fixed t)

  -- the bytes are what stands behind an argument: terms that mean these, and the bracket
  record OthersStand (ts : Forest ReadHead) (at : ℕ) (bytes : List ℕ) : Type 0 where
    pub written : Others
    pub lexemes : List Lexeme
    pub scanned : Runs at bytes lexemes
    pub spelled : grammar.behind_argument written ≡ map terminal_of lexemes
    pub counted : count (outlines written) ≡ count ts
    pub means : MeanTrees table [] (outlines written) (map_all_heads fixed ts)

  -- the bytes are what stands behind an element, which means this term in each list
  record RestStands (t : Tree ReadHead) (at : ℕ) (bytes : List ℕ) : Type 0 where
    pub written : Rest
    pub lexemes : List Lexeme
    pub scanned : Runs at bytes lexemes
    pub spelled : grammar.behind_element written ≡ map terminal_of lexemes
    pub means : (x : Lexeme) → IsKind OpenRound x → MeansTree table [] (rest_outline x written) (map_heads fixed t)

  -- each head can be read again
  abbrev AreReadable : List (ReadHead × ℕ) → Type 0
  AreReadable cs = AllByRecursion (λ c. IsReadable table c.0 c.1) cs

  abbrev rest_of : Tree ReadHead → List ℕ
  rest_of t = print_rest (head_text table) (list_part table) t

  abbrev others_of : Forest ReadHead → List ℕ
  others_of ts = behind_semicolons (head_text table) (list_part table) ts ++ codes "]"

  -- wherever the print of a term stands, the term stands, and so does what is printed of it behind an element
  abbrev TermReads : Tree ReadHead → Type 0
  TermReads t = (at : ℕ) (lead follow : List ℕ) → IsLead lead → drop at text ≡ (lead ++ print table t) ++ follow → EndsWord follow → IsReadableTerm table t → Stands t at (lead ++ print table t)

  abbrev RestReads : Tree ReadHead → Type 0
  RestReads t = (at : ℕ) (follow : List ℕ) → drop at text ≡ rest_of t ++ follow → IsReadableTerm table t → RestStands t at (rest_of t)

  abbrev Known : Forest ReadHead → Type 0
  Known empty = Unit {0}
  Known (grow t ts) = TermReads t × RestReads t × Known ts

  -- ---- arguments

  ends_others : (ts : Forest ReadHead) (follow : List ℕ) → EndsWord (others_of ts ++ follow)
  ends_others empty follow = refl
  ends_others (grow t ts) follow = refl

  ends_rest : (t : Tree ReadHead) (follow : List ℕ) → EndsWord (rest_of t ++ follow)
  ends_rest (node head args) follow = chosen_ends (list_part table head (count args)) (in_list (head_text table) (list_part table) args) (head_text table head) (in_brackets (head_text table) (list_part table) args) follow

  others_read : (ts : Forest ReadHead) → Known ts → (at : ℕ) (follow : List ℕ) → drop at text ≡ others_of ts ++ follow → AreReadable (all_cells ts) → OthersStand ts at (others_of ts)
  others_read empty known at follow here readable = record {
    written = NoMore;
    lexemes = word_at (at + 0) CloseSquare (codes "]") ∷ [];
    scanned = word_runs at [] (codes "]") follow CloseSquare (inl refl) here (close_square_spells follow);
    spelled = refl;
    counted = refl;
    means = tt;
  }
  others_read (grow t ts) (term, rest, known) at follow here readable =
      let lead = codes " " in
      let behind = others_of ts in
      let first_bytes = lead ++ print table t in
      let parts : others_of (grow t ts) ≡ codes ";" ++ (first_bytes ++ behind) = append_assoc (codes "; " ++ print table t) (behind_semicolons (head_text table) (list_part table) ts) (codes "]") in
      let one = split at (others_of (grow t ts)) (codes ";") (first_bytes ++ behind) follow parts here in
      let two = split (at + 1) (first_bytes ++ behind) first_bytes behind follow refl one.1 in
      let first = term (at + 1) lead (behind ++ follow) (inr refl) two.0 (ends_others ts follow) (all_front _ (cells t) (all_cells ts) readable) in
      let others = others_read ts known (at + 1 + length first_bytes) follow two.1 (all_back _ (cells t) (all_cells ts) readable) in
      let sign = word_at (at + 0) Semicolon (codes ";") in
      record {
        written = More first.written others.written;
        lexemes = sign ∷ (first.lexemes ++ others.lexemes);
        scanned =
            join at (others_of (grow t ts)) (codes ";") (first_bytes ++ behind) (sign ∷ []) (first.lexemes ++ others.lexemes) parts
            (word_runs at [] (codes ";") ((first_bytes ++ behind) ++ follow) Semicolon (inl refl) one.0 (semicolon_spells ((first_bytes ++ behind) ++ follow)))
            (join (at + 1) (first_bytes ++ behind) first_bytes behind first.lexemes others.lexemes refl first.scanned others.scanned);
        spelled = more_spelled sign first.written others.written first.lexemes others.lexemes refl first.spelled others.spelled;
        counted = ap suc others.counted;
        means = (first.means, others.means);
      }

  -- ---- terms

  constant_reads : (head : ReadHead) → list_part table head 0 ≡ Other → TermReads (node head empty)
  constant_reads head is at lead follow is_lead here ends readable =
      let word = head_text table head in
      let printed : print table (node head empty) ≡ word = ap (λ p. choose p (codes "(") (codes "()") (word ++ [])) is ∙ append-nil word in
      let reads = reads_head table head 0 follow readable.0 ends in
      let x = word_at (at + length lead) reads.kind word in
      let constant = constant_means table x head reads.no_bracket (reads.means (at + length lead)) in
      let whole : drop at text ≡ (lead ++ word) ++ follow = here ∙ ap (λ p. (lead ++ p) ++ follow) printed in
      record {
        written = constant.0;
        lexemes = x ∷ [];
        scanned = subst (λ p. Runs at (lead ++ p) (x ∷ [])) (sym printed) (word_runs at lead word follow reads.kind is_lead whole reads.spells);
        spelled = constant.1;
        means = constant.2;
      }

  call_reads : (head : ReadHead) (t : Tree ReadHead) (ts : Forest ReadHead) → TermReads t → Known ts → list_part table head (suc (count ts)) ≡ Other → TermReads (node head (grow t ts))
  call_reads head t ts term known is at lead follow is_lead here ends readable =
      let word = head_text table head in
      let whole = lead ++ print table (node head (grow t ts)) in
      let first_bytes = print table t in
      let behind = others_of ts in
      let inside = codes "[" ++ (first_bytes ++ behind) in
      let printed : print table (node head (grow t ts)) ≡ word ++ (codes "[" ++ (first_bytes ++ behind)) =
      ap (λ p. choose p (codes "(" ++ in_list (head_text table) (list_part table) (grow t ts)) (codes "()") (word ++ in_brackets (head_text table) (list_part table) (grow t ts))) is
      ∙ ap (λ x. word ++ x) (append_assoc (codes "[" ++ first_bytes) (behind_semicolons (head_text table) (list_part table) ts) (codes "]")) in
      let parts : whole ≡ (lead ++ word) ++ inside = ap (λ p. lead ++ p) printed ∙ sym (append_assoc lead word inside) in
      let one = split at whole (lead ++ word) inside follow parts here in
      let mid = at + length (lead ++ word) in
      let two = split mid inside (codes "[") (first_bytes ++ behind) follow refl one.1 in
      let three = split (mid + 1) (first_bytes ++ behind) first_bytes behind follow refl two.1 in
      let reads = reads_head table head (suc (count ts)) (inside ++ follow) readable.0 refl in
      let first = term (mid + 1) [] (behind ++ follow) (inl refl) three.0 (ends_others ts follow) (all_front _ (cells t) (all_cells ts) readable.1) in
      let others = others_read ts known (mid + 1 + length first_bytes) follow three.1 (all_back _ (cells t) (all_cells ts) readable.1) in
      let x = word_at (at + length lead) reads.kind word in
      let sign = word_at (mid + 0) OpenSquare (codes "[") in
      let means = reads.means (at + length lead) in
      record {
        written = Call x first.written others.written;
        lexemes = x ∷ sign ∷ (first.lexemes ++ others.lexemes);
        scanned =
            join at whole (lead ++ word) inside (x ∷ []) (sign ∷ (first.lexemes ++ others.lexemes)) parts
            (word_runs at lead word (inside ++ follow) reads.kind is_lead one.0 reads.spells)
            (join mid inside (codes "[") (first_bytes ++ behind) (sign ∷ []) (first.lexemes ++ others.lexemes) refl
            (word_runs mid [] (codes "[") ((first_bytes ++ behind) ++ follow) OpenSquare (inl refl) two.0 (open_square_spells ((first_bytes ++ behind) ++ follow)))
            (join (mid + 1) (first_bytes ++ behind) first_bytes behind first.lexemes others.lexemes refl first.scanned others.scanned));
        spelled = call_spelled x sign first.written others.written first.lexemes others.lexemes (word_means table x (count ts) head reads.no_bracket means) refl first.spelled others.spelled;
        means = (subst (λ args. MeansCell table [] x (suc args) (fixed head)) (sym others.counted) means, (first.means, others.means));
      }

  nil_reads : (head : ReadHead) (args : Forest ReadHead) → list_part table head (count args) ≡ End → TermReads (node head args)
  nil_reads head (grow t ts) is at lead follow is_lead here ends readable = absurd (let none = (end_means table head (suc (count ts)) readable.0 is).0 in omega (arith, none))
  nil_reads head empty is at lead follow is_lead here ends readable =
      let whole = lead ++ print table (node head empty) in
      let printed : print table (node head empty) ≡ codes "()" = ap (λ p. choose p (codes "(") (codes "()") (head_text table head ++ [])) is in
      let parts : whole ≡ (lead ++ codes "(") ++ codes ")" = ap (λ p. lead ++ p) printed ∙ sym (append_assoc lead (codes "(") (codes ")")) in
      let one = split at whole (lead ++ codes "(") (codes ")") follow parts here in
      let mid = at + length (lead ++ codes "(") in
      let x = word_at (at + length lead) OpenRound (codes "(") in
      let close = word_at (mid + 0) CloseRound (codes ")") in
      record {
        written = Nil x;
        lexemes = x ∷ close ∷ [];
        scanned =
            join at whole (lead ++ codes "(") (codes ")") (x ∷ []) (close ∷ []) parts
            (word_runs at lead (codes "(") (codes ")" ++ follow) OpenRound is_lead one.0 (open_spells (codes ")" ++ follow)))
            (word_runs mid [] (codes ")") follow CloseRound (inl refl) one.1 (close_spells follow));
        spelled = refl;
        means = (inr (inr (refl, (end_means table head 0 readable.0 is).1)), tt);
      }

  -- the elements of a list, and the readable cells of both
  element_reads : (head : ReadHead) (t u : Tree ReadHead) → TermReads t → RestReads u → list_part table head 2 ≡ Element → TermReads (node head (grow t (grow u empty)))
  element_reads head t u term rest is at lead follow is_lead here ends readable =
      let args = grow t (grow u empty) in
      let whole = lead ++ print table (node head args) in
      let first_bytes = print table t in
      let behind = rest_of u in
      let printed : print table (node head args) ≡ codes "(" ++ (first_bytes ++ behind) = ap (λ p. choose p (codes "(" ++ in_list (head_text table) (list_part table) args) (codes "()") (head_text table head ++ in_brackets (head_text table) (list_part table) args)) is in
      let parts : whole ≡ (lead ++ codes "(") ++ (first_bytes ++ behind) = ap (λ p. lead ++ p) printed ∙ sym (append_assoc lead (codes "(") (first_bytes ++ behind)) in
      let one = split at whole (lead ++ codes "(") (first_bytes ++ behind) follow parts here in
      let mid = at + length (lead ++ codes "(") in
      let two = split mid (first_bytes ++ behind) first_bytes behind follow refl one.1 in
      let first = term mid [] (behind ++ follow) (inl refl) two.0 (ends_rest u follow) (all_front _ (cells t) (cells u ++ []) readable.1) in
      let others = rest (mid + length first_bytes) follow two.1 (all_front _ (cells u) [] (all_back _ (cells t) (cells u ++ []) readable.1)) in
      let x = word_at (at + length lead) OpenRound (codes "(") in
      record {
        written = Elements x first.written others.written;
        lexemes = x ∷ (first.lexemes ++ others.lexemes);
        scanned =
            join at whole (lead ++ codes "(") (first_bytes ++ behind) (x ∷ []) (first.lexemes ++ others.lexemes) parts
            (word_runs at lead (codes "(") ((first_bytes ++ behind) ++ follow) OpenRound is_lead one.0 (open_spells ((first_bytes ++ behind) ++ follow)))
            (join mid (first_bytes ++ behind) first_bytes behind first.lexemes others.lexemes refl first.scanned others.scanned);
        spelled = elements_spelled x first.written others.written first.lexemes others.lexemes refl first.spelled others.spelled;
        means = (inr (inr (refl, (element_means table head 2 readable.0 is).1)), (first.means, (others.means x refl, tt)));
      }

  -- ---- the rest of a list

  end_follows : (head : ReadHead) (args : Forest ReadHead) → list_part table head (count args) ≡ End → RestReads (node head args)
  end_follows head (grow t ts) is at follow here readable = absurd (let none = (end_means table head (suc (count ts)) readable.0 is).0 in omega (arith, none))
  end_follows head empty is at follow here readable =
      let printed : rest_of (node head empty) ≡ codes ")" = ap (λ p. choose p (codes " ") (codes ")") (codes " . " ++ head_text table head ++ [] ++ codes ")")) is in
      let close = word_at (at + 0) CloseRound (codes ")") in
      record {
        written = Close;
        lexemes = close ∷ [];
        scanned = subst (λ p. Runs at p (close ∷ [])) (sym printed) (word_runs at [] (codes ")") follow CloseRound (inl refl) (here ∙ ap (λ p. p ++ follow) printed) (close_spells follow));
        spelled = refl;
        means = λ x opens. (inr (inr (opens, (end_means table head 0 readable.0 is).1)), tt);
      }

  element_follows : (head : ReadHead) (t u : Tree ReadHead) → TermReads t → RestReads u → list_part table head 2 ≡ Element → RestReads (node head (grow t (grow u empty)))
  element_follows head t u term rest is at follow here readable =
      let args = grow t (grow u empty) in
      let whole = rest_of (node head args) in
      let first_bytes = codes " " ++ print table t in
      let behind = rest_of u in
      let parts : whole ≡ first_bytes ++ behind = ap (λ p. choose p (codes " " ++ in_list (head_text table) (list_part table) args) (codes ")") (codes " . " ++ head_text table head ++ in_brackets (head_text table) (list_part table) args ++ codes ")")) is in
      let one = split at whole first_bytes behind follow parts here in
      let first = term at (codes " ") (behind ++ follow) (inr refl) one.0 (ends_rest u follow) (all_front _ (cells t) (cells u ++ []) readable.1) in
      let others = rest (at + length first_bytes) follow one.1 (all_front _ (cells u) [] (all_back _ (cells t) (cells u ++ []) readable.1)) in
      record {
        written = Further first.written others.written;
        lexemes = first.lexemes ++ others.lexemes;
        scanned = join at whole first_bytes behind first.lexemes others.lexemes parts first.scanned others.scanned;
        spelled = further_spelled first.written others.written first.lexemes others.lexemes first.spelled others.spelled;
        means = λ x opens. (inr (inr (opens, (element_means table head 2 readable.0 is).1)), (first.means, (others.means x opens, tt)));
      }

  dotted_follows : (head : ReadHead) (args : Forest ReadHead) → TermReads (node head args) → list_part table head (count args) ≡ Other → RestReads (node head args)
  dotted_follows head args term is at follow here readable =
      let t = node head args in
      let whole = rest_of t in
      let word = head_text table head in
      let inside = in_brackets (head_text table) (list_part table) args in
      let printed : print table t ≡ word ++ inside = ap (λ p. choose p (codes "(" ++ in_list (head_text table) (list_part table) args) (codes "()") (word ++ inside)) is in
      let term_bytes = codes " " ++ print table t in
      let parts : whole ≡ codes " ." ++ (term_bytes ++ codes ")") =
      ap (λ p. choose p (codes " " ++ in_list (head_text table) (list_part table) args) (codes ")") (codes " . " ++ word ++ inside ++ codes ")")) is
      ∙ append_assoc (codes " . " ++ word) inside (codes ")") ∙ append_assoc (codes " . ") word (inside ++ codes ")")
      ∙ ap (λ x. codes " . " ++ x) (sym (append_assoc word inside (codes ")")) ∙ ap (λ x. x ++ codes ")") (sym printed)) in
      let one = split at whole (codes " .") (term_bytes ++ codes ")") follow parts here in
      let mid = at + 2 in
      let two = split mid (term_bytes ++ codes ")") term_bytes (codes ")") follow refl one.1 in
      let tail = term mid (codes " ") (codes ")" ++ follow) (inr refl) two.0 refl readable in
      let last = mid + length term_bytes in
      let dot = word_at (at + 1) Dot (codes ".") in
      let close = word_at (last + 0) CloseRound (codes ")") in
      record {
        written = Dotted tail.written;
        lexemes = dot ∷ (tail.lexemes ++ close ∷ []);
        scanned =
            join at whole (codes " .") (term_bytes ++ codes ")") (dot ∷ []) (tail.lexemes ++ close ∷ []) parts
            (word_runs at (codes " ") (codes ".") ((term_bytes ++ codes ")") ++ follow) Dot (inr refl) one.0 (dot_spells ((term_bytes ++ codes ")") ++ follow)))
            (join mid (term_bytes ++ codes ")") term_bytes (codes ")") tail.lexemes (close ∷ []) refl tail.scanned (word_runs last [] (codes ")") follow CloseRound (inl refl) two.1 (close_spells follow)));
        spelled = dotted_spelled tail.written dot close tail.lexemes refl refl tail.spelled;
        means = λ x opens. tail.means;
      }

  -- ---- all terms

  -- a list has two arguments
  two_reads : (head : ReadHead) (args : Forest ReadHead) → Known args → list_part table head (count args) ≡ Element → TermReads (node head args) × RestReads (node head args)
  two_reads head (grow t (grow u empty)) (term, _, (_, rest, _)) is = (element_reads head t u term rest is, element_follows head t u term rest is)
  two_reads head empty known is = absurd (omega (arith, element_two table head 0 is))
  two_reads head (grow t empty) known is = absurd (omega (arith, element_two table head 1 is))
  two_reads head (grow t (grow u (grow v vs))) known is = absurd (omega (arith, element_two table head (suc (suc (suc (count vs)))) is))

  -- a term that is no list
  other_reads : (head : ReadHead) (args : Forest ReadHead) → Known args → list_part table head (count args) ≡ Other → TermReads (node head args)
  other_reads head empty known is = constant_reads head is
  other_reads head (grow t ts) (first, _, known) is = call_reads head t ts first known is

  node_reads : (head : ReadHead) (args : Forest ReadHead) → Known args → (p : Part) → list_part table head (count args) ≡ p → TermReads (node head args) × RestReads (node head args)
  node_reads head args known Element is = two_reads head args known is
  node_reads head args known End is = (nil_reads head args is, end_follows head args is)
  node_reads head args known Other is = let term = other_reads head args known is in (term, dotted_follows head args term is)

  mutual
    reads_term : (t : Tree ReadHead) → TermReads t × RestReads t
    reads_term (node head args) = node_reads head args (reads_args args) (list_part table head (count args)) refl

    reads_args : (ts : Forest ReadHead) → Known ts
    reads_args empty = tt
    reads_args (grow t ts) = let here = reads_term t in (here.0, here.1, reads_args ts)

-- where a text goes on with the print and a dot, the term is read
pub print_is_read : (table : Table) (t : Tree ReadHead) → IsReadableTerm table t → IsReadAgain table t
print_is_read table t readable text rest at here =
    let whole_print = print table t in
    let last = at + length whole_print in
    let one = split table text at (whole_print ++ codes ".") whole_print (codes ".") rest refl here in
    let term = (reads_term table text t).0 at [] (codes "." ++ rest) (inl refl) one.0 refl readable in
    let dot = word_at (last + 0) Dot (codes ".") in
    record {
      written = term.written;
      lexemes = term.lexemes ++ dot ∷ [];
      scanned = scans_append text at term.lexemes (dot ∷ []) last (last + 1) term.scanned (word_runs table text last [] (codes ".") rest Dot (inl refl) one.1 (dot_spells rest));
      spelled = (term.lexemes, dot ∷ [], refl, term.spelled, (dot, refl, refl));
      means = term.means;
    }
