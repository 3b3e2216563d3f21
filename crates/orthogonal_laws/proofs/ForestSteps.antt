-- Steps, normal lists of trees, and derivations.
use Rattle.std.specs.Prelude.{ℕ, suc, List, [], ◌∷◌}
use Rattle.eq_base.specs.Tree.{Tree, Forest, node, empty, grow}
use Rattle.eq_base.specs.Pattern.{PatternCell}
use Rattle.orthogonal_laws.proofs.LeftSides.{fill, Compiled, Redex, NoRedex}

-- In a list of trees the position i ∷ p is the position p of its i-th tree, and in a tree [] is the root, and i ∷ p a position of its list of arguments.

-- the trees have h over args at a position
pub data At {H : Type 0} : Forest H → List ℕ → H → Forest H → Type 0 where
  at_here : {h : H} {args rest : Forest H} → At (grow (node h args) rest) (0 ∷ []) h args
  at_below : {h g : H} {args us rest : Forest H} {p : List ℕ} → At args p g us → At (grow (node h args) rest) (0 ∷ p) g us
  at_after : {t : Tree H} {g : H} {us rest : Forest H} {i : ℕ} {p : List ℕ} → At rest (i ∷ p) g us → At (grow t rest) (suc i ∷ p) g us

-- one root step, at a position
pub data Step {H : Type 0} (rules : List (Compiled H)) : Forest H → List ℕ → Forest H → Type 0 where
  step_here : {h : H} {args es rest : Forest H} {r : Tree (PatternCell H)} → Redex rules h args r es → Step rules (grow (node h args) rest) (0 ∷ []) (grow (fill h r es) rest)
  step_below : {h : H} {args us rest : Forest H} {p : List ℕ} → Step rules args p us → Step rules (grow (node h args) rest) (0 ∷ p) (grow (node h us) rest)
  step_after : {t : Tree H} {rest us : Forest H} {i : ℕ} {p : List ℕ} → Step rules rest (i ∷ p) us → Step rules (grow t rest) (suc i ∷ p) (grow t us)

-- a derivation
pub data Derives {H : Type 0} (rules : List (Compiled H)) : Forest H → Forest H → Type 0 where
  no_step : {ts : Forest H} → Derives rules ts ts
  then_step : {ts us vs : Forest H} {p : List ℕ} → Step rules ts p us → Derives rules us vs → Derives rules ts vs

-- a list of steps, each in one direction or the other
pub data Joined {H : Type 0} (rules : List (Compiled H)) : Forest H → Forest H → Type 0 where
  joined_end : {ts : Forest H} → Joined rules ts ts
  joined_forth : {ts us vs : Forest H} {p : List ℕ} → Step rules ts p us → Joined rules us vs → Joined rules ts vs
  joined_back : {ts us vs : Forest H} {p : List ℕ} → Step rules us p ts → Joined rules us vs → Joined rules ts vs

-- no position has a root step
pub data Normal {H : Type 0} (rules : List (Compiled H)) : Forest H → Type 0 where
  normal_nil : Normal rules empty
  normal_cons : {h : H} {args rest : Forest H} → NoRedex rules h args → Normal rules args → Normal rules rest → Normal rules (grow (node h args) rest)

-- there is a root step at the position, and none at a position above it
pub data Outermost {H : Type 0} (rules : List (Compiled H)) : Forest H → List ℕ → Type 0 where
  outer_here : {h : H} {args es rest : Forest H} {r : Tree (PatternCell H)} → Redex rules h args r es → Outermost rules (grow (node h args) rest) (0 ∷ [])
  outer_below : {h : H} {args rest : Forest H} {p : List ℕ} → NoRedex rules h args → Outermost rules args p → Outermost rules (grow (node h args) rest) (0 ∷ p)
  outer_after : {t : Tree H} {rest : Forest H} {i : ℕ} {p : List ℕ} → Outermost rules rest (i ∷ p) → Outermost rules (grow t rest) (suc i ∷ p)
