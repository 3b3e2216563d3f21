-- The heads of the values of applications.
use Rattle.std.proofs.Common.{◌≡◌, ◌<◌, ◌+◌, ◌≤◌, ℕ, List, [], ◌++◌, length, Some, refl, sym, ◌∙◌, ap, subst, arith, length-append}
use Rattle.std.specs.Prelude.{IsTrue, slice_index_or}
use Rattle.std.specs.declared.option.Option.{Option}
use Rattle.std.proofs.lemmas.Bool.{leb-true}
use Rattle.eq_base.specs.Tree.{Tree, node, empty, head_of, size, nth_subtree}
use Rattle.eq_base.specs.ReadHead.{ReadHead, symbol, text}
use Rattle.eq_base.specs.Operations.{application_value, compares, fits, within}
use Rattle.eq_base.specs.declared.head.Head.{Head}
use Rattle.eq_base.specs.declared.head.Head.TheVariants.{Symbol, Numeral, Atom, Text}
use Rattle.eq_base.specs.declared.meeting.SymbolClass.TheVariants.{TruthValues}
use Rattle.eq_base.specs.declared.rules.Op.{Op}
use Rattle.symbol_table.specs.Table.{Table, Includes, IsLive}
use Rattle.symbol_table.specs.Reading.{read, read_head, IsLiveHead}
use Rattle.orthogonal_laws.specs.Stepping.{AreJoined, IsJoined}
use Rattle.orthogonal_laws.proofs.Applications.{Applied, to_one, to_two}
use Rattle.orthogonal_laws.proofs.KindsOfValues.{joins, no_text_of_one, compares_two, no_symbol_of_one}
use Rattle.orthogonal_laws.proofs.OperandsRead.{first_of_two, second_of_two, second_within}

pub within_value : (o : Option ReadHead) (h : ReadHead) → o ≡ Some h → IsTrue (fits h) → within o ≡ Some (node h empty)
within_value o h e f = rw (e, f) refl

module _ (table : Table) where
  -- ---- truth values

  pub compares_applied : (op : Op) (s : Tree Head) (x : ℕ) → Applied op s → application_value op (read table s) ≡ Some (symbol x) → IsTrue (compares op)
  compares_applied op s x (to_one f h e length) v = absurd (no_symbol_of_one op (read_head table h) x (subst (λ s. application_value op (read table s) ≡ Some (symbol x)) e v))
  compares_applied op s x (to_two f h k e other) v = compares_two op (read_head table h) (read_head table k) x (subst (λ s. application_value op (read table s) ≡ Some (symbol x)) e v)

  pub live_true : Includes table TruthValues → IsLive table 0
  live_true has = (_, _, record { listed = refl; known = λ lt. has })

  pub live_false : Includes table TruthValues → IsLive table 1
  live_false has = (_, _, record { listed = refl; known = λ lt. has })

  -- ---- strings

  text_head : (h : Head) (x : List ℕ) → read_head table h ≡ text x → (m : ℕ) × (h ≡ Text m) × (slice_index_or table.texts m [] ≡ x)
  text_head (Symbol s) x e = absurd (cc)
  text_head (Numeral i) x e = absurd (cc)
  text_head (Atom a) x e = absurd (cc)
  text_head (Text t) x e = (t, refl, let same = e in cc)

  -- the operands are strings, and these are their bytes
  pub record AreTexts (t : Tree Head) (at : ℕ) (bytes : List ℕ) : Type 0 where
    pub within : at + 2 < size t
    pub m : ℕ
    pub n : ℕ
    pub first : head_of (nth_subtree t (at + 1)) ≡ Text m
    pub second : head_of (nth_subtree t (at + 2)) ≡ Text n
    pub joined : bytes ≡ slice_index_or table.texts m [] ++ slice_index_or table.texts n []

  pub texts_applied : (op : Op) (t : Tree Head) (at : ℕ) → at < size t → (bytes : List ℕ) → Applied op (nth_subtree t at) → application_value op (read table (nth_subtree t at)) ≡ Some (text bytes) → AreTexts t at bytes
  texts_applied op t at lt bytes (to_one f h e length) v = absurd (no_text_of_one op (read_head table h) bytes (subst (λ s. application_value op (read table s) ≡ Some (text bytes)) e v))
  texts_applied op t at lt bytes (to_two f h k e other) v =
      let j = joins op (read_head table h) (read_head table k) bytes (subst (λ s. application_value op (read table s) ≡ Some (text bytes)) e v) in
      let one = text_head h j.0 j.2 in
      let two = text_head k j.1 j.3 in
      record {
        within = second_within t at lt f h k e;
        m = one.0;
        n = two.0;
        first = ap head_of (first_of_two t at lt f h k e) ∙ one.1;
        second = ap head_of (second_of_two t at lt f h k e) ∙ two.1;
        joined = j.4 ∙ rw (one.2, two.2) refl;
      }

  pub are_joined : (t : Tree Head) (at : ℕ) (bytes : List ℕ) → AreTexts t at bytes → IsTrue (fits (text bytes)) → AreJoined table (head_of (nth_subtree t (at + 1))) (head_of (nth_subtree t (at + 2)))
  are_joined t at bytes a f =
      let x = slice_index_or table.texts a.m [] in
      let y = slice_index_or table.texts a.n [] in
      let short : length bytes ≤ 65535 = leb-true _ _ f in
      let long = ap length a.joined in
      let le : length x + length y ≤ 65535 = omega (arith, short, long, length-append x y) in
      subst (λ h. AreJoined table h (head_of (nth_subtree t (at + 2)))) (sym a.first) (subst (λ k. AreJoined table (Text a.m) k) (sym a.second) le)

  -- what has joined them is read as their bytes
  pub joined_head : (new : Table) (t : Tree Head) (at : ℕ) (bytes : List ℕ) → AreTexts t at bytes → (head : Head) → IsJoined table new (head_of (nth_subtree t (at + 1))) (head_of (nth_subtree t (at + 2))) head → IsLiveHead new head × (read_head new head ≡ text bytes)
  joined_head new t at bytes a head is =
      let j = subst (λ k. IsJoined table new (Text a.m) k head) a.second (subst (λ h. IsJoined table new h (head_of (nth_subtree t (at + 2))) head) a.first is) in
      (j.0, j.1 ∙ ap text (sym a.joined))
