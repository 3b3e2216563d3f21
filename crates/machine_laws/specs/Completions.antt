-- Which node a completed left side fits.
use Rattle.std.specs.Prelude.{◌≡◌, ℕ, List, ◌++◌, length, Some, slice_get}
use Rattle.eq_base.specs.Tree.{Tree}
use Rattle.eq_base.specs.Pattern.{IsInstanceOf}
use Rattle.eq_base.specs.Rewriting.{Rule, System, IsFirst}
use Rattle.machine_laws.specs.Frames.{Frame, plug}

module _ {H : Type 0} (system : System H) where
  -- so many nodes above this one stands an instance of the left side of rule e, and no rule before it fits
  -- there
  pub record FitsFirstAbove (frames : List (Frame H)) (t : Tree H) (e height : ℕ) : Type 0 where
    pub inner : List (Frame H)
    pub outer : List (Frame H)
    pub whole : frames ≡ inner ++ outer
    pub long : length inner ≡ height
    pub rule : Rule H
    pub listed : slice_get system.rules e ≡ Some rule
    pub fits : IsInstanceOf system.in_class rule.left (plug inner t)
    pub first : IsFirst system e (plug inner t)
