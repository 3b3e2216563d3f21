-- Each turn of the loop leaves less work.
use Rattle.std.proofs.Common.{◌≡◌, ◌+◌, ◌*◌, ◌<◌, ◌≤◌, ap, arith}
use Rattle.eq_base.specs.Tree.{Tree, node, empty, grow, args_of, size}
use Rattle.eq_base.specs.Storing.{join-empty}
use Rattle.eq_base.specs.Rewriting.{System}
use Rattle.machine_laws.specs.Frames.{around, plug}
use Rattle.machine_laws.specs.Places.{Place, Turn, turn_marked, turn_marked_root, turn_settled, turn_begin, turn_read, turn_skip, turn_into, turn_back, turn_first, turn_over, turn_no_value, turn_down, turn_up, turn_end}
use Rattle.machine_laws.specs.Work.{arrive_work, turn_work, read_work, work}
use Rattle.machine_laws.proofs.Turns.{append-append}

module _ {A : Type 0} where
  arrives_more : (t : Tree A) → turn_work (args_of t) + 4 * size t + 2 ≤ arrive_work t
  arrives_more (node a args) = omega arith

  reads_less : (t : Tree A) → read_work t + 1 ≡ 4 * size t
  reads_less (node a args) = omega arith

  some_work : (t : Tree A) → 0 < arrive_work t
  some_work (node a args) = omega arith

module _ {H : Type 0} (system : System H) where
  pub turn_works : {p q : Place H} → Turn system p q → work q < work p
  turn_works (turn_marked {t = t} normal) = let z = some_work t in omega (arith, z)
  turn_works (turn_marked_root {t = t} normal) = let z = some_work t in omega (arith, z)
  turn_works (turn_settled {l = l} {args = args} nothing) = omega arith
  turn_works (turn_begin {t = t}) = let z = arrives_more t in let y = reads_less t in omega (arith, z, y)
  turn_works (turn_read is none) = omega arith
  turn_works (turn_skip {outer = outer} {inner = inner} {l = l} {before = before} {behind = behind} {t = t} wants is) =
      let same = ap (λ z. turn_work (args_of (plug inner (node l z)))) (append-append before (grow t empty) behind) in
      let some = reads_less t in
      omega (arith, same, some)
  turn_works (turn_into {t = t} wants) = let y = reads_less t in omega (arith, y)
  turn_works (turn_back {f = f} {outer = outer} {inner = inner} {l = l} {before = before}) =
      let same = ap (λ z. turn_work (args_of (plug inner (node f.head z)))) (append-append f.before (grow (node l before) empty) f.behind) in
      let same' = ap (λ z. turn_work (args_of (plug inner (around f (node l z))))) (join-empty before) in
      omega (arith, same, same')
  turn_works (turn_first {l = l} {before = before}) = let same = ap (λ z. turn_work z) (join-empty before) in omega (arith, same)
  turn_works (turn_over nothing e) = let same = ap (λ z. turn_work (args_of z)) e in omega (arith, same)
  turn_works (turn_no_value is done found none e) = let same = ap (λ z. turn_work (args_of z)) e in omega (arith, same)
  turn_works turn_down = omega arith
  turn_works turn_up = omega arith
  turn_works turn_end = omega arith
