-- A property of all heads of a term, which derivations keep where the right sides of the rules have it.
use Rattle.std.proofs.Common.{◌≡◌, ℕ, zero, suc, [], ◌∷◌, Some, subst}
use Rattle.std.proofs.lemmas.Option.{none-some}
use Rattle.std.specs.Prelude.{Contains}
use Rattle.std.specs.List.{AllByRecursion}
use Rattle.eq_base.specs.Tree.{Tree, Forest, node, empty, grow, AllHeads, AllHeadsIn, cells, all_cells, Position, subtree_at, subtree_in, replace_at, replace_in}
use Rattle.eq_base.specs.Pattern.{PatternCell, fixed, variable, restricted, variables, all_variables, Substitution, apply, apply_all}
use Rattle.eq_base.proofs.Lists.{all_front, all_back, all_both, all_map, all_contained}
use Rattle.eq_base.specs.Rewriting.{System, RootStep, StepAt, Derivation, start, then}

pub some_same : {X : Type 0} (x y : X) → Some x ≡ Some y → x ≡ y
some_same x y e = cc

module _ {H : Type 0} (P : H → Type 0) where
  -- the head of the cell, if it is one, has the property
  abbrev pub CellHas : PatternCell H → Type 0
  CellHas (fixed h) = P h
  CellHas (variable x) = Unit {0}
  CellHas (restricted x class) = Unit {0}

  -- the tree of the variable has it
  abbrev ValueHas : Substitution H → ℕ → Type 0
  ValueHas σ x = AllHeads P (σ x)

  -- ---- patterns and their values

  mutual
    -- a value has it where the pattern and the trees of its variables have it
    pub value-heads : (σ : Substitution H) (p : Tree (PatternCell H)) → AllHeads CellHas p → AllByRecursion (ValueHas σ) (variables p) → AllHeads P (apply σ p)
    value-heads σ (node (fixed h) ps) a v = (a.0, all_value-heads σ ps a.1 v)
    value-heads σ (node (variable x) ps) a v = v.0
    value-heads σ (node (restricted x class) ps) a v = v.0

    all_value-heads : (σ : Substitution H) (ps : Forest (PatternCell H)) → AllHeadsIn CellHas ps → AllByRecursion (ValueHas σ) (all_variables ps) → AllHeadsIn P (apply_all σ ps)
    all_value-heads σ empty a v = tt
    all_value-heads σ (grow p ps) a v =
        (value-heads σ p a.0 (all_front (ValueHas σ) (variables p) (all_variables ps) v), all_value-heads σ ps a.1 (all_back (ValueHas σ) (variables p) (all_variables ps) v))

  mutual
    -- the trees of a pattern's variables have it where its value has it
    pub heads-values : (σ : Substitution H) (p : Tree (PatternCell H)) → AllHeads P (apply σ p) → AllByRecursion (ValueHas σ) (variables p)
    heads-values σ (node (fixed h) ps) a = all_heads-values σ ps a.1
    heads-values σ (node (variable x) ps) a = (a, tt)
    heads-values σ (node (restricted x class) ps) a = (a, tt)

    all_heads-values : (σ : Substitution H) (ps : Forest (PatternCell H)) → AllHeadsIn P (apply_all σ ps) → AllByRecursion (ValueHas σ) (all_variables ps)
    all_heads-values σ empty a = tt
    all_heads-values σ (grow p ps) a = all_both (ValueHas σ) (variables p) (all_variables ps) (heads-values σ p a.0) (all_heads-values σ ps a.1)

  -- the value of a pattern over the variables of another one whose value has it
  pub over-heads : (σ : Substitution H) (left right : Tree (PatternCell H)) → AllByRecursion (λ x. Contains (variables left) x) (variables right) → AllHeads CellHas right → AllHeads P (apply σ left) → AllHeads P (apply σ right)
  over-heads σ left right over has a =
      value-heads σ right has (all_map (λ x. Contains (variables left) x) (ValueHas σ) (variables right) (λ x c. all_contained (ValueHas σ) (variables left) x (heads-values σ left a) c) over)

  -- ---- subtrees

  mutual
    pub subtree-heads : (t : Tree H) (q : Position) (u : Tree H) → subtree_at t q ≡ Some u → AllHeads P t → AllHeads P u
    subtree-heads t [] u is a = let Q : Tree H → Type 0 = AllHeads P in subst Q (some_same t u is) a
    subtree-heads (node h ts) (i ∷ q) u is a = subtree_in-heads ts i q u is a.1

    subtree_in-heads : (ts : Forest H) (i : ℕ) (q : Position) (u : Tree H) → subtree_in ts i q ≡ Some u → AllHeadsIn P ts → AllHeads P u
    subtree_in-heads empty i q u is a = absurd (none-some u is)
    subtree_in-heads (grow t ts) zero q u is a = subtree-heads t q u is a.0
    subtree_in-heads (grow t ts) (suc i) q u is a = subtree_in-heads ts i q u is a.1

  mutual
    pub replaced-heads : (t : Tree H) (q : Position) (u : Tree H) → AllHeads P t → AllHeads P u → AllHeads P (replace_at t q u)
    replaced-heads t [] u a b = b
    replaced-heads (node h ts) (i ∷ q) u a b = (a.0, replaced_in-heads ts i q u a.1 b)

    replaced_in-heads : (ts : Forest H) (i : ℕ) (q : Position) (u : Tree H) → AllHeadsIn P ts → AllHeads P u → AllHeadsIn P (replace_in ts i q u)
    replaced_in-heads empty i q u a b = tt
    replaced_in-heads (grow t ts) zero q u a b = (replaced-heads t q u a.0 b, a.1)
    replaced_in-heads (grow t ts) (suc i) q u a b = (a.0, replaced_in-heads ts i q u a.1 b)

  -- ---- steps

  module _ (system : System H) (root : (t u : Tree H) → RootStep system t u → AllHeads P t → AllHeads P u) where
    step-heads : (t : Tree H) (q : Position) (u : Tree H) → StepAt system t q u → AllHeads P t → AllHeads P u
    step-heads t q u s a =
        let Q : Tree H → Type 0 = AllHeads P in
        subst Q s.result (replaced-heads t q s.contractum a (root s.redex s.contractum s.root_step (subtree-heads t q s.redex s.stands a)))

    -- what a derivation leads to has it where root steps keep it
    pub derived-heads : (t : Tree H) (n : ℕ) (u : Tree H) → Derivation system t n u → AllHeads P t → AllHeads P u
    derived-heads t zero u start a = a
    derived-heads t (suc n) v (then {u = u} d s) a = step-heads u s.0 v s.1 (derived-heads t n u d a)

-- where the head of each cell has the property, each head of the tree has it
mutual
  pub heads_in_cells : {A : Type 0} (P : A → Type 0) (t : Tree A) → AllByRecursion (λ c. P c.0) (cells t) → AllHeads P t
  heads_in_cells P (node a args) all = (all.0, heads_in_all_cells P args all.1)

  heads_in_all_cells : {A : Type 0} (P : A → Type 0) (ts : Forest A) → AllByRecursion (λ c. P c.0) (all_cells ts) → AllHeadsIn P ts
  heads_in_all_cells P empty all = tt
  heads_in_all_cells P (grow t ts) all = (
    heads_in_cells P t (all_front (λ c. P c.0) (cells t) (all_cells ts) all),
    heads_in_all_cells P ts (all_back (λ c. P c.0) (cells t) (all_cells ts) all),
  )
