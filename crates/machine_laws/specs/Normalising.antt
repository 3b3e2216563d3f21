-- Normalising a tree whose head stays: its arguments from left to right.
use Rattle.std.specs.Prelude.{◌≡◌, ℕ, List, [], ◌∷◌}
use Rattle.eq_base.specs.Tree.{Tree, Forest, empty, grow}
use Rattle.eq_base.specs.Rewriting.{System, IsNormal}
use Rattle.orthogonal_laws.specs.Strategy.{HasNoDemandedRedex}
use Rattle.orthogonal_laws.specs.Development.{Developments}
use Rattle.machine_laws.specs.Frames.{Frame, around}

-- each tree of the list has the property
abbrev pub AllTrees : {H : Type 0} → (Tree H → Type 0) → Forest H → Type 0
AllTrees P empty = Unit {0}
AllTrees P (grow t ts) = P t × AllTrees P ts

module _ {H : Type 0} (system : System H) where
  -- each tree around this one has no demanded redex, and its arguments before the one gone into are normal
  abbrev pub AreSettledAround : List (Frame H) → Tree H → Type 0
  AreSettledAround [] t = Unit {0}
  AreSettledAround (f ∷ frames) t = HasNoDemandedRedex system (around f t)
      × AllTrees (IsNormal system) f.before × AreSettledAround frames (around f t)

  -- the arguments of the node before the one gone into, and those behind it, have developed
  pub record DevelopsBeside (f g : Frame H) : Type 0 where
    pub head : f.head ≡ g.head
    pub before_weight : ℕ
    pub before : Developments system f.before g.before before_weight
    pub behind_weight : ℕ
    pub behind : Developments system f.behind g.behind behind_weight

  -- those of all nodes above have
  pub data DevelopBeside : List (Frame H) → List (Frame H) → Type 0 where
    no_more : DevelopBeside [] []
    one_more : {f g : Frame H} {fs gs : List (Frame H)} → DevelopsBeside f g → DevelopBeside fs gs
        → DevelopBeside (f ∷ fs) (g ∷ gs)
