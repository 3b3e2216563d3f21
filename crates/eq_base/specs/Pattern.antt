-- Patterns: trees in which variables may stand, and their instances.
use Rattle.std.specs.Prelude.{◌≡◌, ℕ, Bool, IsTrue, List, [], ◌∷◌, ◌++◌, nat_eq}
use Rattle.std.specs.List.{AllByRecursion, IsDistinct}
use Rattle.eq_base.specs.Tree.{Tree, Forest, node, empty, grow}

-- what stands at a position of a pattern: a head, a variable, or a variable restricted to a class of heads
pub data PatternCell (H : Type 0) : Type 0 where
  fixed : H → PatternCell H
  variable : ℕ → PatternCell H
  restricted : (x class : ℕ) → PatternCell H

-- the cell is tested: it is anything but a plain variable
abbrev pub IsTested : {H : Type 0} → PatternCell H → Type 0
IsTested (fixed h) = Unit {0}
IsTested (variable x) = ⊥
IsTested (restricted x class) = Unit {0}

-- which heads belong to which class
abbrev pub Classes : Type 0 → Type 0
Classes H = ℕ → H → Bool

-- a substitution: a tree for each variable
abbrev pub Substitution : Type 0 → Type 0
Substitution H = ℕ → Tree H

module _ {H : Type 0} where
  -- the head meets the cell: it is the same head, or of the class
  abbrev pub Meets : Classes H → PatternCell H → H → Type 0
  Meets in_class (fixed g) h = g ≡ h
  Meets in_class (variable x) h = Unit {0}
  Meets in_class (restricted x class) h = IsTrue (in_class class h)

  -- two cells clash: no head meets both
  abbrev pub Clash : Classes H → PatternCell H → PatternCell H → Type 0
  Clash in_class c d = (h : H) → Meets in_class c h → Meets in_class d h → ⊥

  -- ---- variables

  -- the variables of a pattern in preorder, each as often as it occurs
  abbrev mutual
    pub variables : Tree (PatternCell H) → List ℕ
    variables (node (fixed h) ps) = all_variables ps
    variables (node (variable x) ps) = x ∷ []
    variables (node (restricted x class) ps) = x ∷ []

    pub all_variables : Forest (PatternCell H) → List ℕ
    all_variables empty = []
    all_variables (grow p ps) = variables p ++ all_variables ps

  -- the pattern is linear: no variable occurs twice
  abbrev pub IsLinear : Tree (PatternCell H) → Type 0
  IsLinear p = IsDistinct nat_eq (variables p)

  -- the restricted variables of a pattern in preorder, each with its class
  abbrev mutual
    pub restrictions : Tree (PatternCell H) → List (ℕ × ℕ)
    restrictions (node (fixed h) ps) = all_restrictions ps
    restrictions (node (variable x) ps) = []
    restrictions (node (restricted x class) ps) = (x, class) ∷ []

    pub all_restrictions : Forest (PatternCell H) → List (ℕ × ℕ)
    all_restrictions empty = []
    all_restrictions (grow p ps) = restrictions p ++ all_restrictions ps

  -- ---- instances

  -- the value of a pattern: its variables replaced by their trees
  abbrev mutual
    pub apply : Substitution H → Tree (PatternCell H) → Tree H
    apply σ (node (fixed h) args) = node h (apply_all σ args)
    apply σ (node (variable x) args) = σ x
    apply σ (node (restricted x class) args) = σ x

    pub apply_all : Substitution H → Forest (PatternCell H) → Forest H
    apply_all σ empty = empty
    apply_all σ (grow p ps) = grow (apply σ p) (apply_all σ ps)

  -- the tree is a constant of the class: a head of it, with no arguments
  abbrev pub IsConstantOf : Classes H → ℕ → Tree H → Type 0
  IsConstantOf in_class class (node h empty) = IsTrue (in_class class h)
  IsConstantOf in_class class (node h (grow t ts)) = ⊥

  -- the substitution respects the pattern's restrictions: each restricted variable has a constant of its
  -- class
  abbrev pub Respects : Classes H → Substitution H → Tree (PatternCell H) → Type 0
  Respects in_class σ p = AllByRecursion (λ r. IsConstantOf in_class r.1 (σ r.0)) (restrictions p)

  -- the tree is an instance of the pattern
  pub record IsInstanceOf (in_class : Classes H) (p : Tree (PatternCell H)) (t : Tree H) : Type 0 where
    pub substitution : Substitution H
    pub respects : Respects in_class substitution p
    pub applied : apply substitution p ≡ t
