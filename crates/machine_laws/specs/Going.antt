-- How the machine goes on after a replacement.
use Rattle.std.specs.Prelude.{◌≡◌, ℕ, List, Some, slice_get}
use Rattle.eq_base.specs.Rewriting.{System}
use Rattle.graph_laws.specs.Numbered.{Numbered, plain}
use Rattle.machine_laws.specs.Frames.{Frame, plug}
use Rattle.machine_laws.specs.Normalising.{AreSettledAround, DevelopBeside}
use Rattle.machine_laws.specs.Ways.{plain_frames, put_frames}

module _ {H : Type 0} where
  -- the root's tree is settled nodes around the way of a reading, which leads to a node of this tree
  abbrev pub IsWay : List (Numbered H) → ℕ → (outer inner : List (Frame (H × ℕ))) → Numbered H → Type 0
  IsWay trees root outer inner t = slice_get trees root ≡ Some (plug outer (plug inner t))

  -- the way after the node n at its end is replaced: it leads to the node's new tree; what stands beside it
  -- has developed, and the settled nodes are settled
  pub record GoesOn (system : System H) (after : List (Numbered H)) (root n : ℕ) (outer inner : List (Frame (H
      × ℕ))) (t : Numbered H) : Type 0 where
    pub new : Numbered H
    pub node : slice_get after n ≡ Some new
    pub way : IsWay after root (put_frames n new outer) (put_frames n new inner) new
    pub beside : DevelopBeside system (plain_frames inner) (plain_frames (put_frames n new inner))
    pub settled : AreSettledAround system (plain_frames outer) (plain (plug inner t))
        → AreSettledAround system (plain_frames (put_frames n new outer))
        (plain (plug (put_frames n new inner) new))
