-- For which place of the machine of the laws its stacks and node numbers stand.
use Rattle.std.specs.Prelude.{◌≡◌, ℕ, List, [], ◌∷◌, reverse, Some, slice_get}
use Rattle.eq_base.specs.Tree.{Forest, node, empty, grow, count}
use Rattle.eq_base.specs.Storing.{join}
use Rattle.eq_base.specs.declared.head.Head.{Head}
use Rattle.match_laws.specs.Items.{ItemSet}
use Rattle.match_tables.specs.Answering.{StandsFor}
use Rattle.graph_laws.specs.Numbered.{Numbered, root_number}
use Rattle.machine_laws.specs.Frames.{Frame, around, plug}
use Rattle.machine_laws.specs.Places.{Place, arriving, reading, among, turning, ended}
use Rattle.reducer.specs.declared.machine.Above.{Above}
use Rattle.reducer.specs.declared.machine.Here.TheVariants.{Arriving, Reading, Among, Turning, Ended}
use Rattle.reducer.specs.declared.machine.Machine.{Machine}

module _ (trees : List (Numbered Head)) where
  -- the node stands for the tree, which has its number
  pub record IsNode (n : ℕ) (t : Numbered Head) : Type 0 where
    pub own : root_number t ≡ n
    pub stands : slice_get trees n ≡ Some t

  -- the node stands for a head over these arguments, of which so many are passed
  pub record IsAmong (n passed : ℕ) (l : Head × ℕ) (before behind : Forest (Head × ℕ)) : Type 0 where
    pub is_node : IsNode n (node l (join before behind))
    pub many : count before ≡ passed

  -- the nodes on a stack, the last one first, stand for the frames around the tree; the next argument of each
  -- is the one behind the tree
  abbrev pub AreAbove : List Above → List (Frame (Head × ℕ)) → Numbered Head → Type 0
  AreAbove [] [] t = Unit {0}
  AreAbove [] (f ∷ frames) t = ⊥
  AreAbove (a ∷ above) [] t = ⊥
  AreAbove (a ∷ above) (f ∷ frames) t =
      IsAmong a.node a.next f.head (join f.before (grow t empty)) f.behind
      × AreAbove above frames (around f t)

  -- at a node that is to be normalised
  pub record IsArriving (machine : Machine) (number : ℕ) (outer : List (Frame (Head × ℕ)))
      (t : Numbered Head) : Type 0 where
    pub here : machine.here ≡ Arriving number
    pub is_node : IsNode number t
    pub above : AreAbove (reverse machine.outer.items) outer t
    pub alone : machine.inner.items ≡ []

  -- among the arguments of a settled node, of which so many are passed
  pub record IsTurning (machine : Machine) (number passed : ℕ) (outer : List (Frame (Head × ℕ)))
      (l : Head × ℕ) (before behind : Forest (Head × ℕ)) : Type 0 where
    pub here : machine.here ≡ Turning number passed
    pub is_among : IsAmong number passed l before behind
    pub above : AreAbove (reverse machine.outer.items) outer (node l (join before behind))
    pub alone : machine.inner.items ≡ []

  -- at the end, at the root
  pub record IsEnded (machine : Machine) (number : ℕ) (t : Numbered Head) : Type 0 where
    pub here : machine.here ≡ Ended number
    pub is_node : IsNode number t

  -- the nodes on the two stacks stand for these frames around the tree, and the reading began at its own node
  pub record AreStacks (machine : Machine) (outer inner : List (Frame (Head × ℕ))) (t : Numbered Head)
      : Type 0 where
    pub within : AreAbove (reverse machine.inner.items) inner t
    pub above : AreAbove (reverse machine.outer.items) outer (plug inner t)
    pub begun : IsNode machine.begun (plug inner t)

  module _ (sets : List ItemSet) where
    -- at a node whose head is to be read
    pub record IsReading (machine : Machine) (number state : ℕ) (outer inner : List (Frame (Head × ℕ)))
        (t : Numbered Head) (items : ItemSet) : Type 0 where
      pub here : machine.here ≡ Reading number state
      pub is_node : IsNode number t
      pub set : StandsFor sets state items
      pub stacks : AreStacks machine outer inner t

    -- among the arguments of a node that is read
    pub record IsReadAmong (machine : Machine) (at : Above) (state : ℕ)
        (outer inner : List (Frame (Head × ℕ))) (l : Head × ℕ) (before behind : Forest (Head × ℕ))
        (items : ItemSet) : Type 0 where
      pub here : machine.here ≡ Among at state
      pub is_among : IsAmong at.node at.next l before behind
      pub set : StandsFor sets state items
      pub stacks : AreStacks machine outer inner (node l (join before behind))

    -- the machine stands for the place
    abbrev pub IsPlace : Machine → Place Head → Type 0
    IsPlace machine (arriving outer t) = (number : ℕ) × IsArriving machine number outer t
    IsPlace machine (reading outer inner t items) =
        (number : ℕ) × (state : ℕ) × IsReading machine number state outer inner t items
    IsPlace machine (among outer inner l before behind items) =
        (at : Above) × (state : ℕ) × IsReadAmong machine at state outer inner l before behind items
    IsPlace machine (turning outer l before behind) =
        (number : ℕ) × (passed : ℕ) × IsTurning machine number passed outer l before behind
    IsPlace machine (ended t) = (number : ℕ) × IsEnded machine number t
