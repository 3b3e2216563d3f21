-- What contracts see of the ports in memory, and what a call of one does.
use Rattle.std.specs.Prelude.{ℕ, ◌-◌, min, List, [], ◌∷◌, ◌++◌, length, drop, bytes_eq, if◌then◌else◌}
use Rattle.std.specs.declared.option.Option.{Option}
use Rattle.std.specs.declared.option.Option.TheVariants.{None, Some}
use Rattle.eq_ports.specs.Causes.{raised}
use Rattle.eq_ports.specs.Plan.{Plan, counted, faulted}

-- a source: the bytes that are left, and how its calls go
pub record Supply : Type 0 where
  pub left : List ℕ
  pub plan : Plan

-- how many bytes a read into this much room gives
abbrev pub given_count : List ℕ → Plan → ℕ → ℕ
given_count left plan room = min room (min plan.piece (length left))

-- after a read of n bytes
abbrev pub supplied : Supply → ℕ → Supply
supplied s n = record { left = drop n s.left; plan = counted s.plan }

-- after a read that failed
abbrev pub supply_failed : Supply → Supply
supply_failed s = record s { plan = faulted s.plan }

-- a sink: the bytes that it took, for how many more it has room, and how its calls go
pub record Store : Type 0 where
  pub taken : List ℕ
  pub room : ℕ
  pub plan : Plan

-- how many bytes a write takes
abbrev pub taken_count : Store → List ℕ → ℕ
taken_count s piece = min (length piece) (min s.plan.piece s.room)

-- after a write that took a front
abbrev pub stored : Store → List ℕ → Store
stored s front = record { taken = s.taken ++ front; room = s.room - length front; plan = counted s.plan }

-- after a write that failed
abbrev pub store_failed : Store → Store
store_failed s = record s { plan = faulted s.plan }

-- a sink that fails only where no room is left: the bytes that it took, for how many more it has room, and
-- its fault count
pub record Vessel : Type 0 where
  pub taken : List ℕ
  pub room : ℕ
  pub faults : ℕ

-- after a write that took a front
abbrev pub filled : Vessel → List ℕ → Vessel
filled v front = record v { taken = v.taken ++ front; room = v.room - length front }

-- after a write that failed
abbrev pub vessel_failed : Vessel → Vessel
vessel_failed v = record v { faults = raised v.faults }

-- files: names and bytes, what is left of the chosen one, and how the calls go
pub record Cabinet : Type 0 where
  pub files : List (List ℕ × List ℕ)
  pub rest : Option (List ℕ)
  pub plan : Plan

-- the bytes of the first file with the name
abbrev pub look_up : List (List ℕ × List ℕ) → List ℕ → Option (List ℕ)
look_up [] name = None
look_up (file ∷ files) name = if bytes_eq file.0 name then Some file.1 else look_up files name

-- after a call that failed and leaves this rest
abbrev pub cabinet_failed : Cabinet → Option (List ℕ) → Cabinet
cabinet_failed c rest = record c { rest = rest; plan = faulted c.plan }

-- after a choice or a read that leaves this rest
abbrev pub cabinet_at : Cabinet → List ℕ → Cabinet
cabinet_at c rest = record c { rest = Some rest; plan = counted c.plan }
