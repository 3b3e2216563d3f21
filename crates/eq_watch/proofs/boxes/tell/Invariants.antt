use Rattle.std.proofs.Common.{◌≡◌, [], ◌∷◌, map, take, vec_len}
use Rattle.eq_watch.specs.Telling.{told}
use Rattle.eq_watch.proofs.boxes.tell.Given as goal

abbrev pub invariant-loop-i : goal.invariant-loop-i
invariant-loop-i g l = record {
  changed : map (λ b. (goal.Watch-dyn g (b.vtable, b.value)).state b.value) l.watch.items
      ≡ told (take l.i l.on) (l.event ∷ []) (map (λ b. (goal.Watch-dyn g (b.vtable, b.value)).state b.value) l.fn.watch.items);
  count : vec_len l.watch ≡ vec_len l.fn.watch;
}
