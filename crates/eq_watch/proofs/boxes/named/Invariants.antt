use Rattle.std.proofs.Common.{◌≡◌, ◌||◌, map, take, codes, bytes_eq}
use Rattle.std.specs.List.{list_any}
use Rattle.eq_watch.specs.Telling.{is_turned_on}
use Rattle.eq_watch.proofs.boxes.named.Given as goal

abbrev pub invariant-loop-one : goal.invariant-loop-one
invariant-loop-one g l = record {
  all : l.is_all ≡ bytes_eq l.name (codes "all");
  on : l.on.items ≡ map (is_turned_on l.name) (map (λ b. (goal.Watch-dyn g (b.vtable, b.value)).state b.value) (take l.one-index l.watch.items));
  known : l.is_known ≡ (l.is_all || list_any (λ watch. watch.is_name l.name) (map (λ b. (goal.Watch-dyn g (b.vtable, b.value)).state b.value) (take l.one-index l.watch.items)));
}
