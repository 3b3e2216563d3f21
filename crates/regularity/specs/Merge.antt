-- Two patterns merged, and patterns read under the merge.
use Rattle.std.specs.Prelude.{◌≡◌, ℕ, suc, ◌+◌}
use Rattle.eq_base.specs.Tree.{Tree, Forest, node, empty, grow, size, map_heads}
use Rattle.eq_base.specs.Pattern.{PatternCell, fixed, variable, restricted, Substitution, apply}

module _ {H : Type 0} where
  -- two patterns merged: at each position a head before a class, and a tested cell before a variable
  abbrev mutual
    pub merge : Tree (PatternCell H) → Tree (PatternCell H) → Tree (PatternCell H)
    merge (node (fixed g) ps) (node (fixed h) rs) = node (fixed g) (merge_all ps rs)
    merge (node (fixed g) ps) r = node (fixed g) ps
    merge p (node (fixed h) rs) = node (fixed h) rs
    merge (node (restricted x class) ps) r = node (restricted x class) ps
    merge p r = r

    pub merge_all : Forest (PatternCell H) → Forest (PatternCell H) → Forest (PatternCell H)
    merge_all (grow p ps) (grow r rs) = grow (merge p r) (merge_all ps rs)
    merge_all ps rs = empty

  -- the pattern with each variable named by its position: its number in preorder, counted from n
  abbrev mutual
    pub named : ℕ → Tree (PatternCell H) → Tree (PatternCell H)
    named n (node (fixed h) ps) = node (fixed h) (all_named (suc n) ps)
    named n (node (variable x) ps) = node (variable n) empty
    named n (node (restricted x class) ps) = node (variable n) empty

    pub all_named : ℕ → Forest (PatternCell H) → Forest (PatternCell H)
    all_named n empty = empty
    all_named n (grow p ps) = grow (named n p) (all_named (n + size p) ps)

  -- the merged pattern of two patterns, its variables named by their positions
  abbrev pub merged : Tree (PatternCell H) → Tree (PatternCell H) → Tree (PatternCell H)
  merged p r = named 0 (merge p r)

  -- a cell of a pattern whose variables stand for patterns
  abbrev pub cell_over : PatternCell H → PatternCell (PatternCell H)
  cell_over (fixed h) = fixed (fixed h)
  cell_over (variable x) = variable x
  cell_over (restricted x class) = variable x

  -- the pattern with patterns in the place of its variables
  abbrev pub fill : Substitution (PatternCell H) → Tree (PatternCell H) → Tree (PatternCell H)
  fill θ p = apply θ (map_heads cell_over p)

  -- the merge of two patterns is each of them, with patterns in the place of its variables; and these make s and t the same
  pub record AreSameUnderMerge (p r s t : Tree (PatternCell H)) : Type 0 where
    pub of_one : Substitution (PatternCell H)
    pub of_other : Substitution (PatternCell H)
    pub one_merged : fill of_one p ≡ merged p r
    pub other_merged : fill of_other r ≡ merged r p
    pub same : fill of_one s ≡ fill of_other t
