-- What is met over the lexemes of a term is its outline.
use Rattle.std.proofs.Common.{◌≡◌, ℕ, zero, suc, ◌+◌, ◌-◌, List, [], ◌∷◌, ◌++◌, length, map, refl, sym, ap, ◌∙◌, append_assoc, append-nil, arith, zero-add, length-append}
use Rattle.std.proofs.lemmas.List.{map-append, length-map}
use Rattle.eq_base.specs.Tree.{count, cells, all_cells}
use Rattle.term_lex.specs.declared.token.Token.{Token}
use Rattle.term_lex.specs.declared.token.TokenKind.{TokenKind}
use Rattle.term_lex.specs.declared.token.TokenKind.TheVariants.{Name, Numeral, Text, OpenRound, CloseRound}
use Rattle.term_lex.specs.Lexemes.{Lexeme, lexeme}
use Rattle.standmath.specs.Terms.{Terminal, Word, Literal, Sign, Written, Others, Constant, Value, Empty, Call, NoMore, More, spelling, behind_commas, terminal_of_kind}
use Rattle.standmath.specs.Notation.{outline, outlines}
use Rattle.standmath.specs.Mentions.{Met, increased, counted, met_head, met_sign, met_kind}

-- what has been met with one more terminal, and with a list of them
abbrev pub met_terminal : Terminal → Met Lexeme → Met Lexeme
met_terminal (Word x) m = met_head x m
met_terminal (Literal x) m = met_head x m
met_terminal (Sign kind) m = met_sign kind m

abbrev pub met_all : List Terminal → Met Lexeme → Met Lexeme
met_all [] m = m
met_all (x ∷ xs) m = met_all xs (met_terminal x m)

pub met_all-append : (xs ys : List Terminal) (m : Met Lexeme) → met_all (xs ++ ys) m ≡ met_all ys (met_all xs m)
met_all-append [] ys m = refl
met_all-append (x ∷ xs) ys m = met_all-append xs ys (met_terminal x m)

-- one more lexeme
pub met_lexeme : (kind : TokenKind) (x : Lexeme) (m : Met Lexeme) → met_terminal (terminal_of_kind kind x) m ≡ met_kind kind x m
met_lexeme Name x m = refl
met_lexeme Numeral x m = refl
met_lexeme Text x m = refl
met_lexeme kind x m = refl

-- a term more
abbrev with_term : List (Lexeme × ℕ) → Met Lexeme → Met Lexeme
with_term cells m = record { heads = counted m.open_heads m.heads ++ cells; open_heads = m.open_heads }

-- an open head with so many arguments, behind those before it
abbrev open_at : List (Lexeme × ℕ) → Lexeme → ℕ → List (Lexeme × ℕ) → List ℕ → Met Lexeme
open_at before x n behind ns = record { heads = before ++ (x, n) ∷ behind; open_heads = length before ∷ ns }

increased-append : (before : List (Lexeme × ℕ)) (x : Lexeme) (n : ℕ) (behind : List (Lexeme × ℕ)) → increased (length before) (before ++ (x, n) ∷ behind) ≡ before ++ (x, suc n) ∷ behind
increased-append [] x n behind = refl
increased-append (h ∷ hs) x n behind = ap (λ l. h ∷ l) (increased-append hs x n behind)

-- one more argument of that head
argument : (cells : List (Lexeme × ℕ)) (before : List (Lexeme × ℕ)) (x : Lexeme) (n : ℕ) (behind : List (Lexeme × ℕ)) (ns : List ℕ) → with_term cells (open_at before x n behind ns) ≡ open_at before x (suc n) (behind ++ cells) ns
argument cells before x n behind ns =
    let e : increased (length before) (before ++ (x, n) ∷ behind) ++ cells ≡ before ++ (x, suc n) ∷ (behind ++ cells) =
    ap (λ l. l ++ cells) (increased-append before x n behind) ∙ append_assoc before ((x, suc n) ∷ behind) cells in
    ap (λ hs. record { heads = hs; open_heads = length before ∷ ns }) e

-- the bracket that opens the arguments of the last head
opening : (before : List (Lexeme × ℕ)) (x : Lexeme) (ns : List ℕ) → met_sign OpenRound (record { heads = before ++ (x, 0) ∷ []; open_heads = ns }) ≡ open_at before x 0 [] ns
opening before x ns =
    let e : length (before ++ (x, 0) ∷ []) - 1 ≡ length before = omega (arith, length-append before ((x, 0) ∷ [])) in
    ap (λ n. record { heads = before ++ (x, 0) ∷ []; open_heads = n ∷ ns }) e

mutual
  met_spelling : (t : Written) (rest : List Terminal) (m : Met Lexeme) → met_all (spelling t ++ rest) m ≡ met_all rest (with_term (cells (outline t)) m)
  met_spelling (Constant x) rest m = refl
  met_spelling (Value x) rest m = refl
  met_spelling (Empty x) rest m = refl
  met_spelling (Call x first others) rest m =
      let before = counted m.open_heads m.heads in
      let ns = m.open_heads in
      let tail = Sign CloseRound ∷ rest in
      let inner = spelling first ++ behind_commas others ++ Sign CloseRound ∷ [] in
      let regroup : inner ++ rest ≡ spelling first ++ (behind_commas others ++ tail) = cc (append_assoc (spelling first ++ behind_commas others) (Sign CloseRound ∷ []) rest, append_assoc (spelling first) (behind_commas others) tail) in
      ap (met_all (inner ++ rest)) (opening before x ns)
      ∙ ap (λ xs. met_all xs (open_at before x 0 [] ns)) regroup
      ∙ met_spelling first (behind_commas others ++ tail) (open_at before x 0 [] ns)
      ∙ ap (met_all (behind_commas others ++ tail)) (argument (cells (outline first)) before x 0 [] ns)
      ∙ met_commas others tail before x 1 (cells (outline first)) ns
      ∙ ap (λ n. met_all rest (record { heads = before ++ (x, n) ∷ (cells (outline first) ++ all_cells (outlines others)); open_heads = ns })) (let e : count (outlines others) + 1 ≡ suc (count (outlines others)) = omega arith in e)

  met_commas : (ts : Others) (rest : List Terminal) (before : List (Lexeme × ℕ)) (x : Lexeme) (n : ℕ) (behind : List (Lexeme × ℕ)) (ns : List ℕ) → met_all (behind_commas ts ++ rest) (open_at before x n behind ns) ≡ met_all rest (open_at before x (count (outlines ts) + n) (behind ++ all_cells (outlines ts)) ns)
  met_commas NoMore rest before x n behind ns = cc (zero-add n, append-nil behind)
  met_commas (More t others) rest before x n behind ns =
      let number : count (outlines others) + suc n ≡ suc (count (outlines others)) + n = omega arith in
      ap (λ xs. met_all xs (open_at before x n behind ns)) (append_assoc (spelling t) (behind_commas others) rest)
      ∙ met_spelling t (behind_commas others ++ rest) (open_at before x n behind ns)
      ∙ ap (met_all (behind_commas others ++ rest)) (argument (cells (outline t)) before x n behind ns)
      ∙ met_commas others rest before x (suc n) (behind ++ cells (outline t)) ns
      ∙ cc (number, append_assoc behind (cells (outline t)) (all_cells (outlines others)))

-- nothing has been met
abbrev pub nothing : Met Lexeme
nothing = record { heads = []; open_heads = [] }

pub met_term : (t : Written) → (met_all (spelling t) nothing).heads ≡ cells (outline t)
met_term t = ap (λ xs. (met_all xs nothing).heads) (sym (append-nil (spelling t))) ∙ ap (λ (m : Met Lexeme). m.heads) (met_spelling t [] nothing)

-- ---- tokens and their lexemes

-- what has been met, with the bytes of the text
abbrev pub with_bytes : List ℕ → Met Token → Met Lexeme
with_bytes text m = record { heads = map (λ h. (lexeme text h.0, h.1)) m.heads; open_heads = m.open_heads }

module _ (text : List ℕ) where
  abbrev pub bytes_of : Token × ℕ → Lexeme × ℕ
  bytes_of h = (lexeme text h.0, h.1)

  increased-bytes : (n : ℕ) (hs : List (Token × ℕ)) → map bytes_of (increased n hs) ≡ increased n (map bytes_of hs)
  increased-bytes n [] = refl
  increased-bytes zero (h ∷ hs) = refl
  increased-bytes (suc n) (h ∷ hs) = ap (λ l. bytes_of h ∷ l) (increased-bytes n hs)

  counted-bytes : (ns : List ℕ) (hs : List (Token × ℕ)) → map bytes_of (counted ns hs) ≡ counted ns (map bytes_of hs)
  counted-bytes [] hs = refl
  counted-bytes (n ∷ ns) hs = increased-bytes n hs

  head-bytes : (t : Token) (m : Met Token) → with_bytes text (met_head t m) ≡ met_head (lexeme text t) (with_bytes text m)
  head-bytes t m =
      let e : map bytes_of (counted m.open_heads m.heads ++ (t, 0) ∷ []) ≡ counted m.open_heads (map bytes_of m.heads) ++ (lexeme text t, 0) ∷ [] =
      map-append bytes_of (counted m.open_heads m.heads) ((t, 0) ∷ []) ∙ ap (λ l. l ++ (lexeme text t, 0) ∷ []) (counted-bytes m.open_heads m.heads) in
      ap (λ hs. record { heads = hs; open_heads = m.open_heads }) e

  sign-bytes : (kind : TokenKind) (m : Met Token) → with_bytes text (met_sign kind m) ≡ met_sign kind (with_bytes text m)
  sign-bytes OpenRound m = ap (λ n. record { heads = map bytes_of m.heads; open_heads = (n - 1) ∷ m.open_heads }) (sym (length-map m.heads bytes_of))
  sign-bytes CloseRound m = refl
  sign-bytes kind m = refl

  pub kind-bytes : (kind : TokenKind) (t : Token) (m : Met Token) → with_bytes text (met_kind kind t m) ≡ met_kind kind (lexeme text t) (with_bytes text m)
  kind-bytes Name t m = head-bytes t m
  kind-bytes Numeral t m = head-bytes t m
  kind-bytes Text t m = head-bytes t m
  kind-bytes kind t m = sign-bytes kind m
