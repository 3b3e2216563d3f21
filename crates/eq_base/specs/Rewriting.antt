-- Rewriting by a list of rules: instances, root steps, steps, derivations and normal forms.
use Rattle.std.specs.Prelude.{◌≡◌, ℕ, zero, suc, ◌<◌, List, Option, Some, slice_get}
use Rattle.eq_base.specs.Tree.{Tree, Position, subtree_at, replace_at}
use Rattle.eq_base.specs.Pattern.{PatternCell, Classes, Substitution, apply, IsInstanceOf}
use Rattle.eq_base.specs.declared.rules.Op.{Op}

-- what a rule puts in the place of its left side: the value of a pattern, or that of an operation
pub data RightSide (H : Type 0) : Type 0 where
  pattern : Tree (PatternCell H) → RightSide H
  operation : Op → RightSide H

-- a rule rewrites instances of its left side
pub record Rule (H : Type 0) : Type 0 where
  pub left : Tree (PatternCell H)
  pub right : RightSide H

-- rules, with what belongs to a class, and the value that an operation gives its application, if it has one
pub record System (H : Type 0) : Type 0 where
  pub rules : List (Rule H)
  pub in_class : Classes H
  pub value_of : Op → Tree H → Option (Tree H)

module _ {H : Type 0} where
  -- under the substitution the right side gives u in the place of t
  abbrev pub Gives : System H → Substitution H → RightSide H → Tree H → Tree H → Type 0
  Gives system σ (pattern p) t u = apply σ p ≡ u
  Gives system σ (operation op) t u = system.value_of op t ≡ Some u

  -- t and u are an instance of the rule: the values of both sides under one substitution
  pub record IsInstance (system : System H) (rule : Rule H) (t u : Tree H) : Type 0 where
    pub left : IsInstanceOf system.in_class rule.left t
    pub right : Gives system left.substitution rule.right t u

  -- the rule with this number takes t to u at the root
  pub record RootStepBy (system : System H) (number : ℕ) (t u : Tree H) : Type 0 where
    pub rule : Rule H
    pub listed : slice_get system.rules number ≡ Some rule
    pub is_instance : IsInstance system rule t u

  -- some rule takes t to u at the root
  abbrev pub RootStep : System H → Tree H → Tree H → Type 0
  RootStep system t u = (number : ℕ) × RootStepBy system number t u

  -- the rule with this number fits t: it has a root step by it
  abbrev pub IsRedexBy : System H → ℕ → Tree H → Type 0
  IsRedexBy system number t = (u : Tree H) × RootStepBy system number t u

  -- t is a redex: it has a root step
  abbrev pub IsRedex : System H → Tree H → Type 0
  IsRedex system t = (u : Tree H) × RootStep system t u

  -- no rule before this one fits t
  abbrev pub IsFirst : System H → ℕ → Tree H → Type 0
  IsFirst system number t = (k : ℕ) → k < number → IsRedexBy system k t → ⊥

  -- a step from t to u: a root step at a position, while all else stays
  pub record StepAt (system : System H) (t : Tree H) (q : Position) (u : Tree H) : Type 0 where
    pub redex : Tree H
    pub contractum : Tree H
    pub stands : subtree_at t q ≡ Some redex
    pub root_step : RootStep system redex contractum
    pub result : replace_at t q contractum ≡ u

  -- a step at some position
  abbrev pub Step : System H → Tree H → Tree H → Type 0
  Step system t u = (q : Position) × StepAt system t q u

  -- a derivation of u from t in n steps
  pub data Derivation (system : System H) (t : Tree H) : ℕ → Tree H → Type 0 where
    start : Derivation system t zero t
    then : {n : ℕ} {u v : Tree H} → Derivation system t n u → Step system u v → Derivation system t (suc n) v

  -- u is derivable from t
  abbrev pub IsDerivable : System H → Tree H → Tree H → Type 0
  IsDerivable system t u = (n : ℕ) × Derivation system t n u

  -- t is a normal form: no position of it has a root step
  abbrev pub IsNormal : System H → Tree H → Type 0
  IsNormal system t = (u : Tree H) → Step system t u → ⊥
