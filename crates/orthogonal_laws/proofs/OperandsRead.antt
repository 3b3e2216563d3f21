-- Operands at the nodes of a term, and the values of its applications, as they are read.
use Rattle.std.proofs.Common.{◌≡◌, ◌≢◌, ◌+◌, ◌<◌, ℕ, refl, sym, ◌∙◌, ap, arith}
use Rattle.eq_base.specs.Tree.{Tree, node, empty, grow, head_of, size, nth_subtree}
use Rattle.eq_base.specs.ReadHead.{ReadHead}
use Rattle.eq_base.specs.Operations.{of_two, application_value}
use Rattle.eq_base.specs.declared.head.Head.{Head}
use Rattle.eq_base.specs.declared.head.Head.TheVariants.{Atom, Text}
use Rattle.eq_base.specs.declared.rules.Op.{Op}
use Rattle.eq_base.specs.declared.rules.Op.TheVariants.{AddInt, SubInt, MultInt, DivInt, ModInt, EquInt, LessInt, EquAtom, EquStr, ConcatStr, LengthStr}
use Rattle.eq_base.proofs.Heads.{subtree-heads}
use Rattle.eq_base.proofs.Positions.{subtree_at-nth_position}
use Rattle.eq_base.proofs.Trees.{nth_subtree-nth_subtree, end_within}
use Rattle.symbol_table.specs.Table.{Table, HasOneNumberEach}
use Rattle.symbol_table.specs.Reading.{read_head, read, IsLiveHead, IsLiveTerm}
use Rattle.symbol_table.proofs.Numberings.{read_apart}
use Rattle.builtin.specs.Values.{AreToldApart, value_by}
use Rattle.builtin.specs.declared.value.Operand.{Operand}
use Rattle.builtin.specs.declared.value.Operand.TheVariants as operand
use Rattle.orthogonal_laws.specs.Results.{HasNumberOf}
use Rattle.orthogonal_laws.proofs.Applications.{Applied, to_one, to_two}

-- ---- live nodes

pub live_at : (table : Table) (t : Tree Head) (k : ℕ) → k < size t → IsLiveTerm table t → IsLiveTerm table (nth_subtree t k)
live_at table t k lt live = subtree-heads (IsLiveHead table) t _ (nth_subtree t k) (subtree_at-nth_position t k lt) live

pub live_head : (table : Table) (t : Tree Head) → IsLiveTerm table t → IsLiveHead table (head_of t)
live_head table (node h ts) live = live.0

-- ---- operands

pub told_apart : (table : Table) → HasOneNumberEach table → (o p : Operand) (h k : Head) → HasNumberOf o h → HasNumberOf p k → IsLiveHead table h → IsLiveHead table k → AreToldApart o p (read_head table h) (read_head table k)
told_apart table one (operand.Atom m) (operand.Atom n) h k is is' live live' = (
  λ e. ap (read_head table) (is ∙ ap Atom e ∙ sym is'),
  λ e. let same : Atom m ≡ Atom n = sym is ∙ read_apart table one h k live live' e ∙ is' in cc,
)
told_apart table one (operand.Text m x) (operand.Text n y) h k is is' live live' = (
  λ e. ap (read_head table) (is ∙ ap Text e ∙ sym is'),
  λ e. let same : Text m ≡ Text n = sym is ∙ read_apart table one h k live live' e ∙ is' in cc,
)
told_apart table one (operand.Atom m) (operand.Numeral i) h k is is' live live' = tt
told_apart table one (operand.Atom m) (operand.Text n y) h k is is' live live' = tt
told_apart table one (operand.Atom m) operand.Other h k is is' live live' = tt
told_apart table one (operand.Text m x) (operand.Numeral i) h k is is' live live' = tt
told_apart table one (operand.Text m x) (operand.Atom n) h k is is' live live' = tt
told_apart table one (operand.Text m x) operand.Other h k is is' live live' = tt
told_apart table one (operand.Numeral i) p h k is is' live live' = tt
told_apart table one operand.Other p h k is is' live live' = tt

pub told_other : (o : Operand) (a b : ReadHead) → AreToldApart o operand.Other a b
told_other (operand.Numeral i) a b = tt
told_other (operand.Atom n) a b = tt
told_other (operand.Text n x) a b = tt
told_other operand.Other a b = tt

-- ---- values

by_two : (op : Op) (a b : ReadHead) → op ≢ LengthStr → value_by op a b ≡ of_two op a b
by_two AddInt a b other = refl
by_two SubInt a b other = refl
by_two MultInt a b other = refl
by_two DivInt a b other = refl
by_two ModInt a b other = refl
by_two EquInt a b other = refl
by_two LessInt a b other = refl
by_two EquAtom a b other = refl
by_two EquStr a b other = refl
by_two ConcatStr a b other = refl
by_two LengthStr a b other = absurd (other refl)

-- the value of an application of two operands
pub value_of_two : (table : Table) (op : Op) (s : Tree Head) (f h k : Head) → s ≡ node f (grow (node h empty) (grow (node k empty) empty)) → op ≢ LengthStr → value_by op (read_head table h) (read_head table k) ≡ application_value op (read table s)
value_of_two table op s f h k e other = by_two op (read_head table h) (read_head table k) other ∙ ap (λ s. application_value op (read table s)) (sym e)

-- and of one
pub value_of_one : (table : Table) (op : Op) (s : Tree Head) (f h : Head) (b : ReadHead) → s ≡ node f (grow (node h empty) empty) → op ≡ LengthStr → value_by op (read_head table h) b ≡ application_value op (read table s)
value_of_one table op s f h b e length = rw (length, e) refl

-- ---- their nodes

module _ (t : Tree Head) (at : ℕ) (lt : at < size t) where
  pub second_within : (f h k : Head) → nth_subtree t at ≡ node f (grow (node h empty) (grow (node k empty) empty)) → at + 2 < size t
  second_within f h k e = let z = end_within t at lt in let z' = ap size e in omega (arith, z, z')

  pub first_within : (op : Op) → Applied op (nth_subtree t at) → at + 1 < size t
  first_within op (to_one f h e length) = let z = end_within t at lt in let z' = ap size e in omega (arith, z, z')
  first_within op (to_two f h k e other) = let z = end_within t at lt in let z' = ap size e in omega (arith, z, z')

  pub first_of_one : (f h : Head) → nth_subtree t at ≡ node f (grow (node h empty) empty) → nth_subtree t (at + 1) ≡ node h empty
  first_of_one f h e = let z' = ap size e in nth_subtree-nth_subtree t at 1 lt (omega (arith, z')) ∙ ap (λ s. nth_subtree s 1) e

  pub first_of_two : (f h k : Head) → nth_subtree t at ≡ node f (grow (node h empty) (grow (node k empty) empty)) → nth_subtree t (at + 1) ≡ node h empty
  first_of_two f h k e = let z' = ap size e in nth_subtree-nth_subtree t at 1 lt (omega (arith, z')) ∙ ap (λ s. nth_subtree s 1) e

  pub second_of_two : (f h k : Head) → nth_subtree t at ≡ node f (grow (node h empty) (grow (node k empty) empty)) → nth_subtree t (at + 2) ≡ node k empty
  second_of_two f h k e = let z' = ap size e in nth_subtree-nth_subtree t at 2 lt (omega (arith, z')) ∙ ap (λ s. nth_subtree s 2) e
