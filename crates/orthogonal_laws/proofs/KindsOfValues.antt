-- Which operations have a string or a truth value.
use Rattle.std.proofs.Common.{◌≡◌, ℕ, List, ◌++◌, Bool, true, false, pos, ℤ, refl, Some, None}
use Rattle.std.specs.Prelude.{IsTrue, if◌then◌else◌}
use Rattle.std.specs.Ordering.{int_eq}
use Rattle.std.proofs.lemmas.Option.{none-some}
use Rattle.eq_base.specs.ReadHead.{ReadHead, symbol, numeral, atom, text}
use Rattle.eq_base.specs.Operations.{truth, of_numerals, of_atoms, of_texts, of_text, of_two, of_one, compares}
use Rattle.eq_base.specs.declared.rules.Op.{Op}
use Rattle.eq_base.specs.declared.rules.Op.TheVariants.{AddInt, SubInt, MultInt, DivInt, ModInt, EquInt, LessInt, EquAtom, EquStr, ConcatStr, LengthStr}
use Rattle.eq_base.proofs.Heads.{some_same}

numeral_text : {i : ℤ} {bytes : List ℕ} → numeral i ≡ text bytes → ⊥
numeral_text e = absurd (cc)

numeral_symbol : {i : ℤ} {s : ℕ} → numeral i ≡ symbol s → ⊥
numeral_symbol e = absurd (cc)

text_symbol : {x : List ℕ} {s : ℕ} → text x ≡ symbol s → ⊥
text_symbol e = absurd (cc)

truth_text : (b : Bool) (bytes : List ℕ) → truth b ≡ text bytes → ⊥
truth_text true bytes e = absurd (cc)
truth_text false bytes e = absurd (cc)

quotient_text : (b : Bool) (i : ℤ) (bytes : List ℕ) → (if b then None else Some (numeral i)) ≡ Some (text bytes) → ⊥
quotient_text true i bytes e = none-some (text bytes) e
quotient_text false i bytes e = numeral_text (some_same _ _ e)

quotient_symbol : (b : Bool) (i : ℤ) (s : ℕ) → (if b then None else Some (numeral i)) ≡ Some (symbol s) → ⊥
quotient_symbol true i s e = none-some (symbol s) e
quotient_symbol false i s e = numeral_symbol (some_same _ _ e)

-- ---- strings

no_text_of_numerals : (op : Op) (i j : ℤ) (bytes : List ℕ) → of_numerals op i j ≡ Some (text bytes) → ⊥
no_text_of_numerals AddInt i j bytes e = numeral_text (some_same _ _ e)
no_text_of_numerals SubInt i j bytes e = numeral_text (some_same _ _ e)
no_text_of_numerals MultInt i j bytes e = numeral_text (some_same _ _ e)
no_text_of_numerals DivInt i j bytes e = quotient_text (int_eq j (pos 0)) _ bytes e
no_text_of_numerals ModInt i j bytes e = quotient_text (int_eq j (pos 0)) _ bytes e
no_text_of_numerals EquInt i j bytes e = truth_text _ bytes (some_same _ _ e)
no_text_of_numerals LessInt i j bytes e = truth_text _ bytes (some_same _ _ e)
no_text_of_numerals EquAtom i j bytes e = none-some (text bytes) e
no_text_of_numerals EquStr i j bytes e = none-some (text bytes) e
no_text_of_numerals ConcatStr i j bytes e = none-some (text bytes) e
no_text_of_numerals LengthStr i j bytes e = none-some (text bytes) e

no_text_of_atoms : (op : Op) (x y bytes : List ℕ) → of_atoms op x y ≡ Some (text bytes) → ⊥
no_text_of_atoms AddInt x y bytes e = none-some (text bytes) e
no_text_of_atoms SubInt x y bytes e = none-some (text bytes) e
no_text_of_atoms MultInt x y bytes e = none-some (text bytes) e
no_text_of_atoms DivInt x y bytes e = none-some (text bytes) e
no_text_of_atoms ModInt x y bytes e = none-some (text bytes) e
no_text_of_atoms EquInt x y bytes e = none-some (text bytes) e
no_text_of_atoms LessInt x y bytes e = none-some (text bytes) e
no_text_of_atoms EquAtom x y bytes e = truth_text _ bytes (some_same _ _ e)
no_text_of_atoms EquStr x y bytes e = none-some (text bytes) e
no_text_of_atoms ConcatStr x y bytes e = none-some (text bytes) e
no_text_of_atoms LengthStr x y bytes e = none-some (text bytes) e

text_of_texts : (op : Op) (x y bytes : List ℕ) → of_texts op x y ≡ Some (text bytes) → bytes ≡ x ++ y
text_of_texts AddInt x y bytes e = absurd (none-some (text bytes) e)
text_of_texts SubInt x y bytes e = absurd (none-some (text bytes) e)
text_of_texts MultInt x y bytes e = absurd (none-some (text bytes) e)
text_of_texts DivInt x y bytes e = absurd (none-some (text bytes) e)
text_of_texts ModInt x y bytes e = absurd (none-some (text bytes) e)
text_of_texts EquInt x y bytes e = absurd (none-some (text bytes) e)
text_of_texts LessInt x y bytes e = absurd (none-some (text bytes) e)
text_of_texts EquAtom x y bytes e = absurd (none-some (text bytes) e)
text_of_texts EquStr x y bytes e = absurd (truth_text _ bytes (some_same _ _ e))
text_of_texts ConcatStr x y bytes e = let same = some_same (text (x ++ y)) (text bytes) e in cc
text_of_texts LengthStr x y bytes e = absurd (none-some (text bytes) e)

no_text_of_text : (op : Op) (x bytes : List ℕ) → of_text op x ≡ Some (text bytes) → ⊥
no_text_of_text AddInt x bytes e = none-some (text bytes) e
no_text_of_text SubInt x bytes e = none-some (text bytes) e
no_text_of_text MultInt x bytes e = none-some (text bytes) e
no_text_of_text DivInt x bytes e = none-some (text bytes) e
no_text_of_text ModInt x bytes e = none-some (text bytes) e
no_text_of_text EquInt x bytes e = none-some (text bytes) e
no_text_of_text LessInt x bytes e = none-some (text bytes) e
no_text_of_text EquAtom x bytes e = none-some (text bytes) e
no_text_of_text EquStr x bytes e = none-some (text bytes) e
no_text_of_text ConcatStr x bytes e = none-some (text bytes) e
no_text_of_text LengthStr x bytes e = numeral_text (some_same _ _ e)

-- a string is the value of two strings, one after the other
pub joins : (op : Op) (a b : ReadHead) (bytes : List ℕ) → of_two op a b ≡ Some (text bytes) → (x : List ℕ) × (y : List ℕ) × (a ≡ text x) × (b ≡ text y) × (bytes ≡ x ++ y)
joins op (symbol s) b bytes e = absurd (none-some (text bytes) e)
joins op (numeral i) (numeral j) bytes e = absurd (no_text_of_numerals op i j bytes e)
joins op (atom x) (atom y) bytes e = absurd (no_text_of_atoms op x y bytes e)
joins op (text x) (text y) bytes e = (x, y, refl, refl, text_of_texts op x y bytes e)
joins op (numeral i) (symbol s) bytes e = absurd (none-some (text bytes) e)
joins op (numeral i) (atom y) bytes e = absurd (none-some (text bytes) e)
joins op (numeral i) (text y) bytes e = absurd (none-some (text bytes) e)
joins op (atom x) (symbol s) bytes e = absurd (none-some (text bytes) e)
joins op (atom x) (numeral j) bytes e = absurd (none-some (text bytes) e)
joins op (atom x) (text y) bytes e = absurd (none-some (text bytes) e)
joins op (text x) (symbol s) bytes e = absurd (none-some (text bytes) e)
joins op (text x) (numeral j) bytes e = absurd (none-some (text bytes) e)
joins op (text x) (atom y) bytes e = absurd (none-some (text bytes) e)

pub no_text_of_one : (op : Op) (a : ReadHead) (bytes : List ℕ) → of_one op a ≡ Some (text bytes) → ⊥
no_text_of_one op (symbol s) bytes e = none-some (text bytes) e
no_text_of_one op (numeral i) bytes e = none-some (text bytes) e
no_text_of_one op (atom x) bytes e = none-some (text bytes) e
no_text_of_one op (text x) bytes e = no_text_of_text op x bytes e

-- ---- truth values

compares_numerals : (op : Op) (i j : ℤ) (s : ℕ) → of_numerals op i j ≡ Some (symbol s) → IsTrue (compares op)
compares_numerals AddInt i j s e = absurd (numeral_symbol (some_same _ _ e))
compares_numerals SubInt i j s e = absurd (numeral_symbol (some_same _ _ e))
compares_numerals MultInt i j s e = absurd (numeral_symbol (some_same _ _ e))
compares_numerals DivInt i j s e = absurd (quotient_symbol (int_eq j (pos 0)) _ s e)
compares_numerals ModInt i j s e = absurd (quotient_symbol (int_eq j (pos 0)) _ s e)
compares_numerals EquInt i j s e = refl
compares_numerals LessInt i j s e = refl
compares_numerals EquAtom i j s e = absurd (none-some (symbol s) e)
compares_numerals EquStr i j s e = absurd (none-some (symbol s) e)
compares_numerals ConcatStr i j s e = absurd (none-some (symbol s) e)
compares_numerals LengthStr i j s e = absurd (none-some (symbol s) e)

compares_atoms : (op : Op) (x y : List ℕ) (s : ℕ) → of_atoms op x y ≡ Some (symbol s) → IsTrue (compares op)
compares_atoms AddInt x y s e = absurd (none-some (symbol s) e)
compares_atoms SubInt x y s e = absurd (none-some (symbol s) e)
compares_atoms MultInt x y s e = absurd (none-some (symbol s) e)
compares_atoms DivInt x y s e = absurd (none-some (symbol s) e)
compares_atoms ModInt x y s e = absurd (none-some (symbol s) e)
compares_atoms EquInt x y s e = absurd (none-some (symbol s) e)
compares_atoms LessInt x y s e = absurd (none-some (symbol s) e)
compares_atoms EquAtom x y s e = refl
compares_atoms EquStr x y s e = absurd (none-some (symbol s) e)
compares_atoms ConcatStr x y s e = absurd (none-some (symbol s) e)
compares_atoms LengthStr x y s e = absurd (none-some (symbol s) e)

compares_texts : (op : Op) (x y : List ℕ) (s : ℕ) → of_texts op x y ≡ Some (symbol s) → IsTrue (compares op)
compares_texts AddInt x y s e = absurd (none-some (symbol s) e)
compares_texts SubInt x y s e = absurd (none-some (symbol s) e)
compares_texts MultInt x y s e = absurd (none-some (symbol s) e)
compares_texts DivInt x y s e = absurd (none-some (symbol s) e)
compares_texts ModInt x y s e = absurd (none-some (symbol s) e)
compares_texts EquInt x y s e = absurd (none-some (symbol s) e)
compares_texts LessInt x y s e = absurd (none-some (symbol s) e)
compares_texts EquAtom x y s e = absurd (none-some (symbol s) e)
compares_texts EquStr x y s e = refl
compares_texts ConcatStr x y s e = absurd (text_symbol (some_same _ _ e))
compares_texts LengthStr x y s e = absurd (none-some (symbol s) e)

no_symbol_of_text : (op : Op) (x : List ℕ) (s : ℕ) → of_text op x ≡ Some (symbol s) → ⊥
no_symbol_of_text AddInt x s e = none-some (symbol s) e
no_symbol_of_text SubInt x s e = none-some (symbol s) e
no_symbol_of_text MultInt x s e = none-some (symbol s) e
no_symbol_of_text DivInt x s e = none-some (symbol s) e
no_symbol_of_text ModInt x s e = none-some (symbol s) e
no_symbol_of_text EquInt x s e = none-some (symbol s) e
no_symbol_of_text LessInt x s e = none-some (symbol s) e
no_symbol_of_text EquAtom x s e = none-some (symbol s) e
no_symbol_of_text EquStr x s e = none-some (symbol s) e
no_symbol_of_text ConcatStr x s e = none-some (symbol s) e
no_symbol_of_text LengthStr x s e = numeral_symbol (some_same _ _ e)

-- a symbol is the value of a comparison
pub compares_two : (op : Op) (a b : ReadHead) (s : ℕ) → of_two op a b ≡ Some (symbol s) → IsTrue (compares op)
compares_two op (symbol r) b s e = absurd (none-some (symbol s) e)
compares_two op (numeral i) (numeral j) s e = compares_numerals op i j s e
compares_two op (atom x) (atom y) s e = compares_atoms op x y s e
compares_two op (text x) (text y) s e = compares_texts op x y s e
compares_two op (numeral i) (symbol r) s e = absurd (none-some (symbol s) e)
compares_two op (numeral i) (atom y) s e = absurd (none-some (symbol s) e)
compares_two op (numeral i) (text y) s e = absurd (none-some (symbol s) e)
compares_two op (atom x) (symbol r) s e = absurd (none-some (symbol s) e)
compares_two op (atom x) (numeral j) s e = absurd (none-some (symbol s) e)
compares_two op (atom x) (text y) s e = absurd (none-some (symbol s) e)
compares_two op (text x) (symbol r) s e = absurd (none-some (symbol s) e)
compares_two op (text x) (numeral j) s e = absurd (none-some (symbol s) e)
compares_two op (text x) (atom y) s e = absurd (none-some (symbol s) e)

pub no_symbol_of_one : (op : Op) (a : ReadHead) (s : ℕ) → of_one op a ≡ Some (symbol s) → ⊥
no_symbol_of_one op (symbol r) s e = none-some (symbol s) e
no_symbol_of_one op (numeral i) s e = none-some (symbol s) e
no_symbol_of_one op (atom x) s e = none-some (symbol s) e
no_symbol_of_one op (text x) s e = no_symbol_of_text op x s e
