-- A tree read in preorder by item sets: what the nodes above still read, and what the left sides read at each
-- node, at once.
use Rattle.std.specs.Prelude.{List, [], ◌∷◌}
use Rattle.eq_base.specs.Tree.{Tree, Forest, node, empty, grow}
use Rattle.eq_base.specs.Rewriting.{System, IsRedex}
use Rattle.match_laws.specs.Items.{ItemSet, IsRead, IsSkip, WantsRead, WantsSkip}
use Rattle.match_laws.specs.Demand.{left_sides}
use Rattle.machine_laws.specs.Frames.{Frame}

module _ {H : Type 0} (system : System H) where
  -- the reading passes the trees, and leads from one item set to the next: no node that it reads is a redex
  pub data Passes : ItemSet → Forest H → ItemSet → Type 0 where
    passes_none : {items : ItemSet} → Passes items empty items
    passes_over : {items between next : ItemSet} {t : Tree H} {ts : Forest H}
        → WantsSkip (left_sides system) items → IsSkip (left_sides system) items between
        → Passes between ts next → Passes items (grow t ts) next
    passes_in : {items inner between next : ItemSet} {h : H} {args ts : Forest H} →
        WantsRead (left_sides system) items → IsRead system.in_class (left_sides system) items h inner
        → Passes inner args between → (IsRedex system (node h args) → ⊥) → Passes between ts next
        → Passes items (grow (node h args) ts) next

  -- the reading of the tree above comes with this item set to the node below these
  pub data ComesTo : List (Frame H) → ItemSet → Type 0 where
    at_root : ComesTo [] []
    at_argument : {f : Frame H} {frames : List (Frame H)} {items inner next : ItemSet} → ComesTo frames items
        → IsRead system.in_class (left_sides system) items f.head inner → Passes inner f.before next
        → WantsRead (left_sides system) next → ComesTo (f ∷ frames) next
