-- Which calls of a port in memory fail, and how many bytes a call moves at most.
use Rattle.std.specs.Prelude.{ℕ, List, Contains}
use Rattle.eq_ports.specs.Causes.{raised}

-- how the calls of a port go
pub record Plan : Type 0 where
  -- the most bytes that one call moves
  pub piece : ℕ
  -- the numbers of the calls that fail, counted from 1
  pub failing : List ℕ
  -- how many calls were made
  pub calls : ℕ
  -- how many of them failed
  pub faults : ℕ

-- the next call fails
abbrev pub NextFails : Plan → Type 0
NextFails p = Contains p.failing (raised p.calls)

-- after a call that went well
abbrev pub counted : Plan → Plan
counted p = record p { calls = raised p.calls }

-- after a call that failed
abbrev pub faulted : Plan → Plan
faulted p = record p { calls = raised p.calls; faults = raised p.faults }
