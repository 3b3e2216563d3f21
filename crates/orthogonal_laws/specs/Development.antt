-- Developments: root steps at a set of marked redexes at once, after Huet and Lévy.
use Rattle.std.specs.Prelude.{◌≡◌, ℕ, zero, suc, ◌+◌, List, [], ◌∷◌, Bool, true, false, IsTrue, ◌↔◌, Contains, Option, Some, None}
use Rattle.eq_base.specs.Tree.{Tree, Forest, node, empty, grow, Position, subtree_at}
use Rattle.eq_base.specs.Pattern.{PatternCell, fixed, variable, restricted, variables, Substitution, apply, Respects}
use Rattle.eq_base.specs.Rewriting.{RightSide, pattern, operation, Rule, System, Gives, RootStep, IsRedex, StepAt}
use Rattle.orthogonal_laws.specs.Strategy.{IsNext, FitsAt}

-- the sum of the weights of the variables, each as often as it occurs
abbrev pub sum_of : (ℕ → ℕ) → List ℕ → ℕ
sum_of weights [] = 0
sum_of weights (x ∷ xs) = weights x + sum_of weights xs

module _ {H : Type 0} where
  abbrev pub right_weight : (ℕ → ℕ) → RightSide H → ℕ
  right_weight weights (pattern p) = sum_of weights (variables p)
  right_weight weights (operation op) = 0

  -- a development of t to u, and its weight: an unmarked root stays over the developments of the arguments, and a marked one gives the right side over the developments of what the variables stand for
  mutual
    pub data Development (system : System H) : Tree H → Tree H → ℕ → Type 0 where
      unmarked : {h : H} {ts us : Forest H} {n : ℕ} → Developments system ts us n
          → Development system (node h ts) (node h us) n
      marked : {t u : Tree H} (rule : Rule H) (σ τ : Substitution H) (weights : ℕ → ℕ)
          → Contains system.rules rule → apply σ rule.left ≡ t → Respects system.in_class σ rule.left
          → ((x : ℕ) → Development system (σ x) (τ x) (weights x)) → Gives system τ rule.right t u
          → Development system t u (suc (right_weight weights rule.right))

    pub data Developments (system : System H) : Forest H → Forest H → ℕ → Type 0 where
      none : Developments system empty empty 0
      more : {t u : Tree H} {ts us : Forest H} {m n : ℕ} → Development system t u m
          → Developments system ts us n → Developments system (grow t ts) (grow u us) (m + n)

  -- the variable of the pattern at the position or above it, and the way on from there; none where the pattern tests the position
  abbrev mutual
    pub variable_at : Tree (PatternCell H) → Position → Option (ℕ × Position)
    variable_at (node (fixed h) ps) [] = None
    variable_at (node (fixed h) ps) (i ∷ q) = variable_in ps i q
    variable_at (node (variable x) ps) q = Some (x, q)
    variable_at (node (restricted x class) ps) q = None

    pub variable_in : Forest (PatternCell H) → ℕ → Position → Option (ℕ × Position)
    variable_in empty i q = None
    variable_in (grow p ps) zero q = variable_at p q
    variable_in (grow p ps) (suc i) q = variable_in ps i q

  -- whether a development marks the position
  abbrev mutual
    pub marks : {system : System H} {t u : Tree H} {n : ℕ} → Development system t u n → Position → Bool
    marks (unmarked ds) [] = false
    marks (unmarked ds) (i ∷ q) = marks_in ds i q
    marks (marked rule σ τ weights listed applied respects ds gives) [] = true
    marks (marked rule σ τ weights listed applied respects ds gives) (i ∷ q) =
        elim (variable_at rule.left (i ∷ q)) [ None ↦ false | Some v ↦ marks (ds v.0) v.1 ]

    pub marks_in : {system : System H} {ts us : Forest H} {n : ℕ} → Developments system ts us n → ℕ → Position
        → Bool
    marks_in none i q = false
    marks_in (more d ds) zero q = marks d q
    marks_in (more d ds) (suc i) q = marks_in ds i q

  -- each position of the set holds a redex of t
  abbrev pub AreRedexes : System H → Tree H → (Position → Bool) → Type 0
  AreRedexes system t set = (q : Position) → IsTrue (set q) → (s : Tree H) × (subtree_at t q ≡ Some s)
      × IsRedex system s

  -- t has a development that marks exactly the positions of the set
  pub record DevelopsBy (system : System H) (t : Tree H) (set : Position → Bool) : Type 0 where
    pub result : Tree H
    pub weight : ℕ
    pub development : Development system t result weight
    pub exactly : (q : Position) → marks development q ≡ set q

  -- u is t with v in place of the subterm s at some positions, none inside another
  mutual
    pub data Replaced (s v : Tree H) : Tree H → Tree H → Type 0 where
      here : {t : Tree H} → t ≡ s → Replaced s v t v
      below : {h : H} {ts us : Forest H} → ReplacedAll s v ts us → Replaced s v (node h ts) (node h us)

    pub data ReplacedAll (s v : Tree H) : Forest H → Forest H → Type 0 where
      nothing : ReplacedAll s v empty empty
      also : {t u : Tree H} {ts us : Forest H} → Replaced s v t u → ReplacedAll s v ts us
          → ReplacedAll s v (grow t ts) (grow u us)

  -- whether the position is one of them
  abbrev mutual
    pub replaces : {s v t u : Tree H} → Replaced s v t u → Position → Bool
    replaces (here e) [] = true
    replaces (here e) (i ∷ q) = false
    replaces (below r) [] = false
    replaces (below r) (i ∷ q) = replaces_in r i q

    pub replaces_in : {s v : Tree H} {ts us : Forest H} → ReplacedAll s v ts us → ℕ → Position → Bool
    replaces_in nothing i q = false
    replaces_in (also r rs) zero q = replaces r q
    replaces_in (also r rs) (suc i) q = replaces_in rs i q

  -- a shared step from t to u: one root step at a set of disjoint, equal subterms, the next redex among them
  pub record SharedStep (system : System H) (t u : Tree H) : Type 0 where
    pub redex : Tree H
    pub contractum : Tree H
    pub root_step : RootStep system redex contractum
    pub replaced : Replaced redex contractum t u
    pub next : Position
    pub is_next : IsNext system t next
    pub among : IsTrue (replaces replaced next)

  -- where t' is t after its step at q: u too has its next redex at q, by the same rules, and t' develops to what the step there makes of u
  pub record IsKept (system : System H) (t t' u : Tree H) (q : Position) : Type 0 where
    pub next : IsNext system u q
    pub u' : Tree H
    pub step : StepAt system u q u'
    pub weight : ℕ
    pub development : Development system t' u' weight
    pub same_rules : (number : ℕ) → FitsAt system t q number ↔ FitsAt system u q number
