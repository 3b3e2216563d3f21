-- The item sets that reads and skips lead to, and how many items they hold.
use Rattle.std.specs.Prelude.{◌≢◌, ℕ, ◌+◌, ◌<◌, List, [], ◌∷◌, length}
use Rattle.std.specs.List.{AllByRecursion}
use Rattle.eq_base.specs.Tree.{Tree}
use Rattle.eq_base.specs.Pattern.{PatternCell, Classes}
use Rattle.match_laws.specs.Items.{ItemSet, IsRead, IsSkip}

-- how many items below the roots the item sets hold together
abbrev pub total_items : List ItemSet → ℕ
total_items [] = 0
total_items (items ∷ sets) = length items + total_items sets

-- no two of the item sets are the same
abbrev pub AreDistinct : List ItemSet → Type 0
AreDistinct [] = Unit {0}
AreDistinct (items ∷ sets) = AllByRecursion (λ other. items ≢ other) sets × AreDistinct sets

module _ {H : Type 0} (in_class : Classes H) (lefts : List (Tree (PatternCell H))) where
  -- the item set is reachable: from the one of the roots alone, by reads and skips
  pub data IsReachable : ItemSet → Type 0 where
    start : IsReachable []
    by_read : {items next : ItemSet} (h : H) → IsReachable items → IsRead in_class lefts items h next
        → IsReachable next
    by_skip : {items next : ItemSet} → IsReachable items → IsSkip lefts items next → IsReachable next

  -- the reachable item sets, each counted once, hold together more items than the limit
  pub record ArePast (limit : ℕ) : Type 0 where
    pub sets : List ItemSet
    pub distinct : AreDistinct sets
    pub reachable : AllByRecursion IsReachable sets
    pub more : limit < total_items sets
