-- The places at which the machine may stand, and the turns of its loop.
use Rattle.std.specs.Prelude.{◌≡◌, ℕ, List, [], ◌∷◌}
use Rattle.eq_base.specs.Tree.{Forest, node, empty, grow}
use Rattle.eq_base.specs.Storing.{join}
use Rattle.eq_base.specs.Rewriting.{System, IsRedexBy, IsNormal}
use Rattle.orthogonal_laws.specs.Strategy.{HasNoDemandedRedex}
use Rattle.match_laws.specs.Items.{ItemSet, IsRead, IsSkip, IsCompleted, IsFirstCompleted}
use Rattle.match_laws.specs.Items.{WantsRead, WantsSkip, WantsNothing}
use Rattle.match_laws.specs.Demand.{left_sides}
use Rattle.graph_laws.specs.Numbered.{Numbered, plain}
use Rattle.machine_laws.specs.Frames.{Frame, plug}
use Rattle.machine_laws.specs.Completions.{FitsFirstAbove}
use Rattle.machine_laws.specs.Ways.{plain_frames}

-- below settled nodes (outer), and in a reading below more nodes (inner)
pub data Place (H : Type 0) : Type 0 where
  -- at a tree that is to be normalised
  arriving : (outer : List (Frame (H × ℕ))) (t : Numbered H) → Place H
  -- at a tree whose head is to be read
  reading : (outer inner : List (Frame (H × ℕ))) (t : Numbered H) (items : ItemSet) → Place H
  -- among the arguments of a node that is read
  among : (outer inner : List (Frame (H × ℕ))) (l : H × ℕ) (before behind : Forest (H × ℕ)) (items : ItemSet)
      → Place H
  -- among the arguments of a settled node
  turning : (outer : List (Frame (H × ℕ))) (l : H × ℕ) (before behind : Forest (H × ℕ)) → Place H
  -- the root's tree is normal
  ended : Numbered H → Place H

module _ {H : Type 0} (system : System H) where
  -- one turn of the loop, without a replacement
  pub data Turn : Place H → Place H → Type 0 where
    turn_marked : {f : Frame (H × ℕ)} {outer : List (Frame (H × ℕ))} {t : Numbered H}
        → IsNormal system (plain t)
        → Turn (arriving (f ∷ outer) t) (turning outer f.head (join f.before (grow t empty)) f.behind)
    turn_marked_root : {t : Numbered H} → IsNormal system (plain t) → Turn (arriving [] t) (ended t)
    turn_settled : {outer : List (Frame (H × ℕ))} {l : H × ℕ} {args : Forest (H × ℕ)}
        → HasNoDemandedRedex system (plain (node l args))
        → Turn (arriving outer (node l args)) (turning outer l empty args)
    turn_begin : {outer : List (Frame (H × ℕ))} {t : Numbered H}
        → Turn (arriving outer t) (reading outer [] t [])
    turn_read : {outer inner : List (Frame (H × ℕ))} {l : H
        × ℕ} {args : Forest (H × ℕ)} {items next : ItemSet}
        → IsRead system.in_class (left_sides system) items l.0 next
        → ((e c : ℕ) → IsCompleted system.in_class (left_sides system) items l.0 e c → ⊥)
        → Turn (reading outer inner (node l args) items) (among outer inner l empty args next)
    turn_skip : {outer inner : List (Frame (H × ℕ))} {l : H
        × ℕ} {before behind : Forest (H × ℕ)} {t : Numbered H} {items next : ItemSet}
        → WantsSkip (left_sides system) items → IsSkip (left_sides system) items next
        → Turn (among outer inner l before (grow t behind) items)
        (among outer inner l (join before (grow t empty)) behind next)
    turn_into : {outer inner : List (Frame (H × ℕ))} {l : H
        × ℕ} {before behind : Forest (H × ℕ)} {t : Numbered H} {items : ItemSet}
        → WantsRead (left_sides system) items
        → Turn (among outer inner l before (grow t behind) items)
        (reading outer (record { head = l; before = before; behind = behind } ∷ inner) t items)
    turn_back : {f : Frame (H × ℕ)} {outer inner : List (Frame (H × ℕ))} {l : H
        × ℕ} {before : Forest (H × ℕ)} {items : ItemSet}
        → Turn (among outer (f ∷ inner) l before empty items)
        (among outer inner f.head (join f.before (grow (node l before) empty)) f.behind items)
    turn_first : {outer : List (Frame (H × ℕ))} {l : H × ℕ} {before : Forest (H × ℕ)} {items : ItemSet}
        → Turn (among outer [] l before empty items) (turning outer l empty before)
    turn_over : {outer inner : List (Frame (H × ℕ))} {l m : H
        × ℕ} {before behind args : Forest (H × ℕ)} {items : ItemSet} → WantsNothing (left_sides system) items
        → plug inner (node l (join before behind)) ≡ node m args
        → Turn (among outer inner l before behind items) (turning outer m empty args)
    -- the first completed rule has no value where it fits: the reading is over
    turn_no_value : {outer inner : List (Frame (H × ℕ))} {l m : H × ℕ} {args all : Forest (H × ℕ)}
        {items next : ItemSet} {e height : ℕ} → IsRead system.in_class (left_sides system) items l.0 next
        → IsFirstCompleted system.in_class (left_sides system) items l.0 e height
        → (found : FitsFirstAbove system (plain_frames inner) (plain (node l args)) e height)
        → (IsRedexBy system e (plug found.inner (plain (node l args))) → ⊥)
        → plug inner (node l args) ≡ node m all
        → Turn (reading outer inner (node l args) items) (turning outer m empty all)
    turn_down : {outer : List (Frame (H × ℕ))} {l : H × ℕ} {before behind : Forest (H × ℕ)} {t : Numbered H}
        → Turn (turning outer l before (grow t behind))
        (arriving (record { head = l; before = before; behind = behind } ∷ outer) t)
    turn_up : {f : Frame (H × ℕ)} {outer : List (Frame (H × ℕ))} {l : H × ℕ} {before : Forest (H × ℕ)}
        → Turn (turning (f ∷ outer) l before empty)
        (turning outer f.head (join f.before (grow (node l before) empty)) f.behind)
    turn_end : {l : H × ℕ} {before : Forest (H × ℕ)}
        → Turn (turning [] l before empty) (ended (node l before))
