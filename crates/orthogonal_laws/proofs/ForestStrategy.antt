-- The next redex, and plain runs.
use Rattle.std.specs.Prelude.{◌≡◌, ℕ, suc, ◌<◌, List, [], ◌∷◌, ◌++◌, Bool, IsTrue, Contains}
use Rattle.eq_base.specs.Tree.{Tree, Forest, node, empty, grow, count}
use Rattle.eq_base.specs.Pattern.{PatternCell}
use Rattle.orthogonal_laws.proofs.LeftSides.{Label, Patterns, Open, Test, Compiled, Meets, Redex, NoRedex}
use Rattle.orthogonal_laws.proofs.ForestSteps.{At, Step, Normal}

-- preorder of positions
pub data Before : List ℕ → List ℕ → Type 0 where
  before_above : {i : ℕ} {p : List ℕ} → Before [] (i ∷ p)
  before_left : {i j : ℕ} {p q : List ℕ} → i < j → Before (i ∷ p) (j ∷ q)
  before_below : {i : ℕ} {p q : List ℕ} → Before p q → Before (i ∷ p) (i ∷ q)

-- the patterns are tested at the position, and the trees meet them at all their tested positions before it
pub data Demands {H : Type 0} : Patterns H → Forest H → List ℕ → Type 0 where
  demands_here : {test : Label H → Bool} {ps qs : Patterns H} {h : H} {us more : Forest H} → Demands (Test test ps qs) (grow (node h us) more) (0 ∷ [])
  demands_below : {test : Label H → Bool} {ps qs : Patterns H} {h : H} {us more : Forest H} {p : List ℕ} → IsTrue (test (h, count us)) → Demands ps us p → Demands (Test test ps qs) (grow (node h us) more) (0 ∷ p)
  demands_after : {test : Label H → Bool} {ps qs : Patterns H} {h : H} {us more : Forest H} {i : ℕ} {p : List ℕ} → IsTrue (test (h, count us)) → Meets ps us → Demands qs more (i ∷ p) → Demands (Test test ps qs) (grow (node h us) more) (suc i ∷ p)
  demands_skip : {ps : Patterns H} {t : Tree H} {more : Forest H} {i : ℕ} {p : List ℕ} → Demands ps more (i ∷ p) → Demands (Open ps) (grow t more) (suc i ∷ p)

-- a position below the root of h args is demanded, by some left side
pub record DemandedBelow {H : Type 0} (rules : List (Compiled H)) (h : H) (args : Forest H) (p : List ℕ) : Type 0 where
  pub rule : Compiled H
  pub among : Contains rules rule
  pub root : IsTrue (rule.root (h, count args))
  pub demands : Demands rule.args args p

-- h args has no demanded redex
pub data NoDemandedRedex {H : Type 0} (rules : List (Compiled H)) : H → Forest H → Type 0 where
  no_demand : {h : H} {args : Forest H} → NoRedex rules h args → ((q : List ℕ) (g : H) (us : Forest H) → DemandedBelow rules h args q → At args q g us → NoDemandedRedex rules g us) → NoDemandedRedex rules h args

-- the demanded redex of h args is at p
pub data DemandedRedex {H : Type 0} (rules : List (Compiled H)) : H → Forest H → List ℕ → Type 0 where
  demand_root : {h : H} {args es : Forest H} {r : Tree (PatternCell H)} → Redex rules h args r es → DemandedRedex rules h args []
  demand_below : {h g : H} {args us : Forest H} {q p s : List ℕ} → NoRedex rules h args → DemandedBelow rules h args q → At args q g us → DemandedRedex rules g us p → ((q' : List ℕ) (g' : H) (us' : Forest H) → DemandedBelow rules h args q' → Before q' q → At args q' g' us' → NoDemandedRedex rules g' us') → s ≡ q ++ p → DemandedRedex rules h args s

-- there is no next redex
pub data NoNext {H : Type 0} (rules : List (Compiled H)) : Forest H → Type 0 where
  no_next_nil : NoNext rules empty
  no_next_cons : {h : H} {args rest : Forest H} → NoDemandedRedex rules h args → NoNext rules args → NoNext rules rest → NoNext rules (grow (node h args) rest)

-- the next redex is at the position p
pub data Next {H : Type 0} (rules : List (Compiled H)) : Forest H → List ℕ → Type 0 where
  next_demand : {h : H} {args rest : Forest H} {p : List ℕ} → DemandedRedex rules h args p → Next rules (grow (node h args) rest) (0 ∷ p)
  next_below : {h : H} {args rest : Forest H} {p : List ℕ} → NoDemandedRedex rules h args → Next rules args p → Next rules (grow (node h args) rest) (0 ∷ p)
  next_after : {h : H} {args rest : Forest H} {i : ℕ} {p : List ℕ} → NoDemandedRedex rules h args → NoNext rules args → Next rules rest (i ∷ p) → Next rules (grow (node h args) rest) (suc i ∷ p)

-- the plain run from ts comes after n steps to the normal vs
pub data Plain {H : Type 0} (rules : List (Compiled H)) : Forest H → ℕ → Forest H → Type 0 where
  plain_end : {ts : Forest H} → Normal rules ts → Plain rules ts 0 ts
  plain_step : {ts us vs : Forest H} {p : List ℕ} {n : ℕ} → Next rules ts p → Step rules ts p us → Plain rules us n vs → Plain rules ts (suc n) vs
