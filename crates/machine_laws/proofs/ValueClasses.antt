-- The value of an operation belongs to a class of heads.
use Rattle.std.proofs.Common.{◌≡◌, ℕ, ℤ, pos, List, Bool, true, false, Option, Some, None, refl, subst}
use Rattle.std.specs.Prelude.{IsTrue, if◌then◌else◌}
use Rattle.std.specs.Ordering.{int_eq}
use Rattle.std.proofs.lemmas.Option.{none-some}
use Rattle.eq_base.specs.Tree.{Tree, node, empty, grow}
use Rattle.eq_base.specs.ReadHead.{ReadHead, symbol, numeral, atom, text, in_read_class}
use Rattle.eq_base.specs.Operations.{truth, of_numerals, of_atoms, of_texts, of_text, of_two, of_one, application_value, fits, within, value_of}
use Rattle.eq_base.specs.declared.rules.Op.{Op}
use Rattle.eq_base.specs.declared.rules.Op.TheVariants.{AddInt, SubInt, MultInt, DivInt, ModInt, EquInt, LessInt, EquAtom, EquStr, ConcatStr, LengthStr}

module _ (classes : List (List ReadHead)) where
  -- the head belongs to a class
  abbrev pub IsOfClass : ReadHead → Type 0
  IsOfClass h = (class : ℕ) × IsTrue (in_read_class classes class h)

  -- so does the value, if there is one
  abbrev HasClass : Option ReadHead → Type 0
  HasClass None = Unit {0}
  HasClass (Some h) = IsOfClass h

  of_truth : (b : Bool) → IsOfClass (truth b)
  of_truth true = (2, refl)
  of_truth false = (2, refl)

  of_quotient : (b : Bool) (i : ℤ) → HasClass (if b then None else Some (numeral i))
  of_quotient true i = tt
  of_quotient false i = (0, refl)

  class_of_numerals : (op : Op) (i j : ℤ) → HasClass (of_numerals op i j)
  class_of_numerals AddInt i j = (0, refl)
  class_of_numerals SubInt i j = (0, refl)
  class_of_numerals MultInt i j = (0, refl)
  class_of_numerals DivInt i j = of_quotient (int_eq j (pos 0)) _
  class_of_numerals ModInt i j = of_quotient (int_eq j (pos 0)) _
  class_of_numerals EquInt i j = of_truth _
  class_of_numerals LessInt i j = of_truth _
  class_of_numerals EquAtom i j = tt
  class_of_numerals EquStr i j = tt
  class_of_numerals ConcatStr i j = tt
  class_of_numerals LengthStr i j = tt

  class_of_atoms : (op : Op) (x y : List ℕ) → HasClass (of_atoms op x y)
  class_of_atoms AddInt x y = tt
  class_of_atoms SubInt x y = tt
  class_of_atoms MultInt x y = tt
  class_of_atoms DivInt x y = tt
  class_of_atoms ModInt x y = tt
  class_of_atoms EquInt x y = tt
  class_of_atoms LessInt x y = tt
  class_of_atoms EquAtom x y = of_truth _
  class_of_atoms EquStr x y = tt
  class_of_atoms ConcatStr x y = tt
  class_of_atoms LengthStr x y = tt

  class_of_texts : (op : Op) (x y : List ℕ) → HasClass (of_texts op x y)
  class_of_texts AddInt x y = tt
  class_of_texts SubInt x y = tt
  class_of_texts MultInt x y = tt
  class_of_texts DivInt x y = tt
  class_of_texts ModInt x y = tt
  class_of_texts EquInt x y = tt
  class_of_texts LessInt x y = tt
  class_of_texts EquAtom x y = tt
  class_of_texts EquStr x y = of_truth _
  class_of_texts ConcatStr x y = (3, refl)
  class_of_texts LengthStr x y = tt

  class_of_text : (op : Op) (x : List ℕ) → HasClass (of_text op x)
  class_of_text AddInt x = tt
  class_of_text SubInt x = tt
  class_of_text MultInt x = tt
  class_of_text DivInt x = tt
  class_of_text ModInt x = tt
  class_of_text EquInt x = tt
  class_of_text LessInt x = tt
  class_of_text EquAtom x = tt
  class_of_text EquStr x = tt
  class_of_text ConcatStr x = tt
  class_of_text LengthStr x = (0, refl)

  class_of_two : (op : Op) (a b : ReadHead) → HasClass (of_two op a b)
  class_of_two op (numeral i) (numeral j) = class_of_numerals op i j
  class_of_two op (atom x) (atom y) = class_of_atoms op x y
  class_of_two op (text x) (text y) = class_of_texts op x y
  class_of_two op (symbol r) b = tt
  class_of_two op (numeral i) (symbol r) = tt
  class_of_two op (numeral i) (atom y) = tt
  class_of_two op (numeral i) (text y) = tt
  class_of_two op (atom x) (symbol r) = tt
  class_of_two op (atom x) (numeral j) = tt
  class_of_two op (atom x) (text y) = tt
  class_of_two op (text x) (symbol r) = tt
  class_of_two op (text x) (numeral j) = tt
  class_of_two op (text x) (atom y) = tt

  class_of_one : (op : Op) (a : ReadHead) → HasClass (of_one op a)
  class_of_one op (symbol r) = tt
  class_of_one op (numeral i) = tt
  class_of_one op (atom x) = tt
  class_of_one op (text x) = class_of_text op x

  class_of_application : (op : Op) (t : Tree ReadHead) → HasClass (application_value op t)
  class_of_application op (node f empty) = tt
  class_of_application op (node f (grow (node one empty) empty)) = class_of_one op one
  class_of_application op (node f (grow (node one empty) (grow (node other empty) empty))) = class_of_two op one other
  class_of_application op (node f (grow (node one empty) (grow (node other empty) (grow t ts)))) = tt
  class_of_application op (node f (grow (node one empty) (grow (node other (grow t ts)) rest))) = tt
  class_of_application op (node f (grow (node one (grow t ts)) rest)) = tt

  of_fitting : (b : Bool) (h g : ReadHead) → IsOfClass h → (if b then Some (node h empty) else None) ≡ Some (node g empty) → IsOfClass g
  of_fitting true h g class e = let same : h ≡ g = cc in subst IsOfClass same class
  of_fitting false h g class e = absurd (none-some (node g empty) e)

  of_within : (o : Option ReadHead) (g : ReadHead) → HasClass o → within o ≡ Some (node g empty) → IsOfClass g
  of_within None g class e = absurd (none-some (node g empty) e)
  of_within (Some h) g class e = of_fitting (fits h) h g class e

  -- a constant that an operation gives belongs to a class
  pub value_class : (op : Op) (t : Tree ReadHead) (g : ReadHead) → value_of op t ≡ Some (node g empty) → IsOfClass g
  value_class op t g e = of_within (application_value op t) g (class_of_application op t) e
