-- The reachable item sets all stand in a list that reads and skips do not lead out of.
use Rattle.std.proofs.Common.{◌≡◌, ℕ, ◌≤◌, List, [], subst, arith}
use Rattle.std.specs.Prelude.{Contains}
use Rattle.eq_base.specs.Tree.{Tree}
use Rattle.eq_base.specs.Pattern.{PatternCell, Classes}
use Rattle.eq_base.proofs.Lists.{all_contained}
use Rattle.match_laws.specs.Items.{ItemSet, AreFurther, IsMet, IsPlain, IsRead, IsSkip}
use Rattle.match_laws.specs.Reachable.{total_items, IsReachable, start, by_read, by_skip, ArePast}
use Rattle.match_tables.proofs.Counting.{no-more-items, same-members}

module _ {H : Type 0} (lefts : List (Tree (PatternCell H))) where
  -- one item set holds exactly the items one cell further than these
  pub further-one : (these : ℕ → ℕ → Type 0) (next other : ItemSet) → AreFurther lefts these next → AreFurther lefts these other → next ≡ other
  further-one these next other f g = same-members next other f.ordered g.ordered
      (λ x c. (g.exactly x.0 x.1).1 ((f.exactly x.0 x.1).0 c))
      (λ x c. (f.exactly x.0 x.1).1 ((g.exactly x.0 x.1).0 c))

module _ {H : Type 0} (in_class : Classes H) (lefts : List (Tree (PatternCell H))) where
  -- a read leads to a set of the list
  pub record ReadInside (all : List ItemSet) (items : ItemSet) (h : H) : Type 0 where
    pub set : ItemSet
    pub inside : Contains all set
    pub read : IsRead in_class lefts items h set

  -- a skip leads to a set of the list
  pub record SkipInside (all : List ItemSet) (items : ItemSet) : Type 0 where
    pub set : ItemSet
    pub inside : Contains all set
    pub skip : IsSkip lefts items set

  -- the list has the set of the roots alone, and reads and skips do not lead out of it
  pub record IsClosed (all : List ItemSet) : Type 0 where
    pub roots : Contains all []
    pub reads : (items : ItemSet) (h : H) → Contains all items → ReadInside all items h
    pub skips : (items : ItemSet) → Contains all items → SkipInside all items

  pub reachable-inside : (all : List ItemSet) → IsClosed all → {items : ItemSet} → IsReachable in_class lefts items → Contains all items
  reachable-inside all closed start = closed.roots
  reachable-inside all closed (by_read {items} {next} h before read) =
      let r = closed.reads items h (reachable-inside all closed before) in
      subst (Contains all) (further-one lefts (IsMet in_class lefts items h) r.set next r.read read) r.inside
  reachable-inside all closed (by_skip {items} {next} before skip) =
      let r = closed.skips items (reachable-inside all closed before) in
      subst (Contains all) (further-one lefts (IsPlain lefts items) r.set next r.skip skip) r.inside

  -- so the reachable sets hold no more items together than the list does
  pub not-past : (limit : ℕ) (all : List ItemSet) → IsClosed all → total_items all ≤ limit → ArePast in_class lefts limit → ⊥
  not-past limit all closed few past =
      let most = no-more-items past.sets all past.distinct (λ items c. reachable-inside all closed (all_contained (IsReachable in_class lefts) past.sets items past.reachable c)) in
      omega (arith, most, few, past.more)
