-- How many turns of its loop the machine has before it at most, while nothing is replaced.
use Rattle.std.specs.Prelude.{ℕ, ◌+◌, ◌*◌, List, [], ◌∷◌}
use Rattle.eq_base.specs.Tree.{Tree, Forest, node, empty, grow, args_of, size, total_size}
use Rattle.eq_base.specs.Storing.{join}
use Rattle.machine_laws.specs.Frames.{Frame, plug}
use Rattle.machine_laws.specs.Places.{Place, arriving, reading, among, turning, ended}

-- the turns that a tree takes, and those that the arguments of a settled node take
abbrev mutual
  pub arrive_work : {A : Type 0} → Tree A → ℕ
  arrive_work (node a args) = 2 + 4 * size (node a args) + turn_work args

  pub turn_work : {A : Type 0} → Forest A → ℕ
  turn_work empty = 1
  turn_work (grow t ts) = 1 + arrive_work t + turn_work ts

-- the turns that a reading takes below a tree
abbrev pub read_work : {A : Type 0} → Tree A → ℕ
read_work (node a args) = 3 + 4 * total_size args

-- those that it takes behind the way
abbrev pub inner_work : {A : Type 0} → List (Frame A) → ℕ
inner_work [] = 0
inner_work (f ∷ frames) = 2 + 4 * total_size f.behind + inner_work frames

-- those that the settled nodes above take
abbrev pub outer_work : {A : Type 0} → List (Frame A) → ℕ
outer_work [] = 0
outer_work (f ∷ frames) = turn_work f.behind + outer_work frames

-- all together
abbrev pub work : {H : Type 0} → Place H → ℕ
work (arriving outer t) = arrive_work t + outer_work outer
work (reading outer inner t items) =
    read_work t + inner_work inner + turn_work (args_of (plug inner t)) + outer_work outer
work (among outer inner l before behind items) =
    2 + 4 * total_size behind + inner_work inner
    + turn_work (args_of (plug inner (node l (join before behind)))) + outer_work outer
work (turning outer l before behind) = turn_work behind + outer_work outer
work (ended t) = 0
