-- What one replacement makes of the numbered trees of a store.
use Rattle.std.specs.Prelude.{◌≡◌, ℕ, suc, ◌+◌, List, [], ◌∷◌, ◌++◌, map, length, Some, slice_get}
use Rattle.eq_base.specs.Tree.{Tree, Forest, node, empty, grow}
use Rattle.eq_base.specs.Pattern.{PatternCell, fixed, variable, restricted, Substitution}
use Rattle.graph_laws.specs.Numbered.{Numbered, replace_numbered}

module _ {H : Type 0} where
  -- the pattern's heads stand in the tree, and each variable at the part that the substitution gives it
  abbrev mutual
    pub MeetsWith : Substitution (H × ℕ) → Tree (PatternCell H) → Numbered H → Type 0
    MeetsWith σ (node (fixed h) ps) (node l args) = (h ≡ l.0) × AllMeetWith σ ps args
    MeetsWith σ (node (variable x) ps) t = σ x ≡ t
    MeetsWith σ (node (restricted x class) ps) t = σ x ≡ t

    pub AllMeetWith : Substitution (H × ℕ) → Forest (PatternCell H) → Forest (H × ℕ) → Type 0
    AllMeetWith σ empty empty = Unit {0}
    AllMeetWith σ (grow p ps) (grow t ts) = MeetsWith σ p t × AllMeetWith σ ps ts
    AllMeetWith σ ps ts = ⊥

  -- how many heads the pattern has: its cells that are no variables
  abbrev mutual
    pub head_count : Tree (PatternCell H) → ℕ
    head_count (node (fixed h) ps) = suc (all_head_count ps)
    head_count (node (variable x) ps) = 0
    head_count (node (restricted x class) ps) = 0

    pub all_head_count : Forest (PatternCell H) → ℕ
    all_head_count empty = 0
    all_head_count (grow p ps) = head_count p + all_head_count ps

  -- the value of a pattern: its heads with the numbers from k on in preorder, and the parts of its variables
  abbrev mutual
    pub numbered : Substitution (H × ℕ) → ℕ → Tree (PatternCell H) → Numbered H
    numbered σ k (node (fixed h) ps) = node (h, k) (all_numbered σ (suc k) ps)
    numbered σ k (node (variable x) ps) = σ x
    numbered σ k (node (restricted x class) ps) = σ x

    pub all_numbered : Substitution (H × ℕ) → ℕ → Forest (PatternCell H) → Forest (H × ℕ)
    all_numbered σ k empty = empty
    all_numbered σ k (grow p ps) = grow (numbered σ k p) (all_numbered σ (k + head_count p) ps)

  -- the parts of that value whose roots are heads of the pattern, in preorder: those with the numbers from k
  -- on
  abbrev mutual
    pub own_parts : Substitution (H × ℕ) → ℕ → Tree (PatternCell H) → List (Numbered H)
    own_parts σ k (node (fixed h) ps) = node (h, k) (all_numbered σ (suc k) ps) ∷ all_own_parts σ (suc k) ps
    own_parts σ k (node (variable x) ps) = []
    own_parts σ k (node (restricted x class) ps) = []

    pub all_own_parts : Substitution (H × ℕ) → ℕ → Forest (PatternCell H) → List (Numbered H)
    all_own_parts σ k empty = []
    all_own_parts σ k (grow p ps) = own_parts σ k p ++ all_own_parts σ (k + head_count p) ps

  -- what a right side puts in place of the part numbered n: its root has the number n, its other heads those
  -- from k on in preorder; where it is a variable, the part of that variable
  abbrev pub contractum : Substitution (H × ℕ) → (n k : ℕ) → Tree (PatternCell H) → Numbered H
  contractum σ n k (node (fixed h) ps) = node (h, n) (all_numbered σ k ps)
  contractum σ n k (node (variable x) ps) = σ x
  contractum σ n k (node (restricted x class) ps) = σ x

  -- the trees of the new nodes, with the numbers from k on: all heads of the right side but that of its root
  abbrev pub new_parts : Substitution (H × ℕ) → (k : ℕ) → Tree (PatternCell H) → List (Numbered H)
  new_parts σ k (node (fixed h) ps) = all_own_parts σ k ps
  new_parts σ k (node (variable x) ps) = []
  new_parts σ k (node (restricted x class) ps) = []

  -- how many they are
  abbrev pub new_count : Tree (PatternCell H) → ℕ
  new_count (node (fixed h) ps) = all_head_count ps
  new_count (node (variable x) ps) = 0
  new_count (node (restricted x class) ps) = 0

  -- the trees with another in place of each part that has the number
  abbrev pub replace_in_all : ℕ → Numbered H → List (Numbered H) → List (Numbered H)
  replace_in_all n u trees = map (replace_numbered n u) trees

  -- the trees after the node n is replaced by the right side: in each tree the contractum in place of the
  -- part numbered n, and the new nodes behind them
  abbrev pub replaced_trees : Substitution (H × ℕ) → Tree (PatternCell H) → ℕ → List (Numbered H)
      → List (Numbered H)
  replaced_trees σ right n trees =
      replace_in_all n (contractum σ n (length trees) right) trees ++ new_parts σ (length trees) right

  -- the second trees are the first after the node n is replaced by the equation of these sides, whose
  -- variables stand for the numbered parts that they meet
  pub record IsReplacement (left right : Tree (PatternCell H)) (n : ℕ)
      (trees after : List (Numbered H)) : Type 0 where
    pub tree : Numbered H
    pub stands : slice_get trees n ≡ Some tree
    pub substitution : Substitution (H × ℕ)
    pub meets : MeetsWith substitution left tree
    pub result : after ≡ replaced_trees substitution right n trees
