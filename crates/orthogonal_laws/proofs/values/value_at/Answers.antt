use Rattle.std.proofs.Common.{◌≡◌, ◌≢◌, ℕ, ◌+◌, ◌<◌, refl, sym, subst, arith}
use Rattle.eq_base.specs.Tree.{node, empty, grow, head_of, nth_subtree, size}
use Rattle.eq_base.specs.Operations.{application_value}
use Rattle.eq_base.specs.declared.head.Head.{Head}
use Rattle.eq_base.specs.declared.rules.Op.TheVariants.{LengthStr}
use Rattle.eq_base.specs.ReadHead.{symbol}
use Rattle.symbol_table.specs.Reading.{read_head, read, IsLiveHead}
use Rattle.builtin.specs.Values.{IsRead, AreToldApart, IsValue}
use Rattle.builtin.specs.declared.value.Operand.{Operand}
use Rattle.builtin.specs.declared.value.Operand.TheVariants as operand
use Rattle.orthogonal_laws.specs.Results.{HasNumberOf}
use Rattle.orthogonal_laws.proofs.Applications.{to_one, to_two, applied}
use Rattle.orthogonal_laws.proofs.OperandsRead.{live_at, live_head, told_apart, told_other, value_of_two, value_of_one, second_within, first_within, first_of_one, first_of_two, second_of_two}
use Rattle.orthogonal_laws.proofs.values.value_at.Goals as goal
use Rattle.orthogonal_laws.proofs.values.value_at.Goals.{in-LengthStr, in_default}

pub operand_at-one-requires-clause-at : goal.operand_at-one-requires-clause-at
operand_at-one-requires-clause-at c = first_within c.args.term.now c.args.at c.requires.at c.args.op (applied c.args.op (nth_subtree c.args.term.now c.args.at) c.requires.applied)

pub overflow_add-at : goal.overflow_add-at
overflow_add-at c = let z = first_within c.args.term.now c.args.at c.requires.at c.args.op (applied c.args.op (nth_subtree c.args.term.now c.args.at) c.requires.applied) in omega (arith, z)

pub overflow_add-at-in_default : goal.overflow_add-at-in_default
overflow_add-at-in_default c =
    elim (applied c.args.op (nth_subtree c.args.term.now c.args.at) c.requires.applied) [
      | to_one f h e length ↦ absurd (c.in_default.not-LengthStr length)
      | to_two f h k e other ↦ (let z = second_within c.args.term.now c.args.at c.requires.at f h k e in omega (arith, z))
    ]

pub operand_at-other-requires-clause-at : goal.operand_at-other-requires-clause-at
operand_at-other-requires-clause-at c =
    elim (applied c.args.op (nth_subtree c.args.term.now c.args.at) c.requires.applied) [
      | to_one f h e length ↦ absurd (c.in_default.not-LengthStr length)
      | to_two f h k e other ↦ second_within c.args.term.now c.args.at c.requires.at f h k e
    ]

-- an operand that is read at a node is that of its head
read_as : (c : goal.After-evaluate) (o : Operand) (k : ℕ) (h : Head) → IsRead o (read_head c.args.symbols.now (head_of (nth_subtree c.args.term.now k))) → nth_subtree c.args.term.now k ≡ node h empty → IsRead o (read_head c.args.symbols.now h)
read_as c o k h is e = subst (λ s. IsRead o (read_head c.args.symbols.now (head_of s))) e is

number_as : (c : goal.After-evaluate) (o : Operand) (k : ℕ) (h : Head) → HasNumberOf o (head_of (nth_subtree c.args.term.now k)) → nth_subtree c.args.term.now k ≡ node h empty → HasNumberOf o h
number_as c o k h is e = subst (λ s. HasNumberOf o (head_of s)) e is

live_as : (c : goal.After-evaluate) (k : ℕ) (h : Head) → k < size c.args.term.now → nth_subtree c.args.term.now k ≡ node h empty → IsLiveHead c.args.symbols.now h
live_as c k h lt e =
    subst (λ s. IsLiveHead c.args.symbols.now (head_of s)) e
    (live_head c.args.symbols.now (nth_subtree c.args.term.now k) (live_at c.args.symbols.now c.args.term.now k lt c.requires.live))

one : (c : goal.After-evaluate) (f h : Head) → nth_subtree c.args.term.now c.args.at ≡ node f (grow (node h empty) empty) → c.args.op ≡ LengthStr → c.match-op.other ≡ operand.Other →
    IsValue (application_value c.args.op (read c.args.symbols.now (nth_subtree c.args.term.now c.args.at))) c.evaluate.result
one c f h e length is =
    let first = first_of_one c.args.term.now c.args.at c.requires.at f h e in
    subst (λ v. IsValue v c.evaluate.result) (value_of_one c.args.symbols.now c.args.op (nth_subtree c.args.term.now c.args.at) f h (symbol 0) e length)
    (c.evaluate.ensures (read_head c.args.symbols.now h) (symbol 0) (read_as c c.operand_at-one.result (c.args.at + 1) h c.operand_at-one.ensures.read first)
    (subst (λ o. IsRead o (symbol 0)) (sym is) (0, refl))
    (subst (λ o. AreToldApart c.operand_at-one.result o (read_head c.args.symbols.now h) (symbol 0)) (sym is) (told_other c.operand_at-one.result (read_head c.args.symbols.now h) (symbol 0))))

two : (c : goal.After-evaluate) (f h k : Head) → nth_subtree c.args.term.now c.args.at ≡ node f (grow (node h empty) (grow (node k empty) empty)) → c.args.op ≢ LengthStr →
    (o : Operand) → c.match-op.other ≡ o → IsRead o (read_head c.args.symbols.now (head_of (nth_subtree c.args.term.now (c.args.at + 2)))) → HasNumberOf o (head_of (nth_subtree c.args.term.now (c.args.at + 2))) →
    IsValue (application_value c.args.op (read c.args.symbols.now (nth_subtree c.args.term.now c.args.at))) c.evaluate.result
two c f h k e other o is reads number =
    let table = c.args.symbols.now in
    let t = c.args.term.now in
    let first = first_of_two t c.args.at c.requires.at f h k e in
    let second = second_of_two t c.args.at c.requires.at f h k e in
    let within = second_within t c.args.at c.requires.at f h k e in
    let r = read_as c o (c.args.at + 2) k reads second in
    let a = told_apart table c.requires.distinct c.operand_at-one.result o h k (number_as c c.operand_at-one.result (c.args.at + 1) h c.operand_at-one.ensures.number first) (number_as c o (c.args.at + 2) k number second)
    (live_as c (c.args.at + 1) h (omega (arith, within)) first) (live_as c (c.args.at + 2) k within second) in
    subst (λ v. IsValue v c.evaluate.result) (value_of_two table c.args.op (nth_subtree t c.args.at) f h k e other)
    (c.evaluate.ensures (read_head table h) (read_head table k) (read_as c c.operand_at-one.result (c.args.at + 1) h c.operand_at-one.ensures.read first)
    (subst (λ o. IsRead o (read_head table k)) (sym is) r)
    (subst (λ o. AreToldApart c.operand_at-one.result o (read_head table h) (read_head table k)) (sym is) a))

pub returns : goal.returns
returns c =
    elim (applied c.args.op (nth_subtree c.args.term.now c.args.at) c.requires.applied) [
      | to_one f h e length ↦
          elim c.match-op.branch [
            | in-LengthStr w ↦ one c f h e length w.other-is
            | in_default w ↦ absurd (w.in_default.not-LengthStr length)
          ]
      | to_two f h k e other ↦
          elim c.match-op.branch [
            | in-LengthStr w ↦ absurd (other w.in-LengthStr.is)
            | in_default w ↦ two c f h k e other w.operand_at-other.result w.other-is w.operand_at-other.ensures.read w.operand_at-other.ensures.number
          ]
    ]
