-- Developments: root steps at a set of positions at once.
use Rattle.std.specs.Prelude.{ℕ, zero, suc, ◌+◌, List, [], ◌∷◌, Bool, true, false}
use Rattle.eq_base.specs.Tree.{Tree, Forest, node, empty, grow}
use Rattle.eq_base.specs.Pattern.{PatternCell, variables}
use Rattle.orthogonal_laws.proofs.LeftSides.{fill, Patterns, Last, Open, Test, Compiled, Redex}
use Rattle.orthogonal_laws.specs.Development.{sum_of}

-- the weight of the i-th part
abbrev pub nth_weight : ℕ → List ℕ → ℕ
nth_weight i [] = 0
nth_weight zero (n ∷ ns) = n
nth_weight (suc i) (n ∷ ns) = nth_weight i ns

abbrev pub total : List ℕ → ℕ
total [] = 0
total (n ∷ ns) = n + total ns

-- the weight of a right side: the sum over its occurrences of variables
abbrev pub weight : {H : Type 0} → Tree (PatternCell H) → List ℕ → ℕ
weight r ns = sum_of (λ i. nth_weight i ns) (variables r)

-- a development of ts to us, with a weight for each tree of ts: its marked positions are those where `contract` stands
pub data Develops {H : Type 0} (rules : List (Compiled H)) : Forest H → Forest H → List ℕ → Type 0 where
  nil : Develops rules empty empty []
  keep : {h : H} {args us rest vs : Forest H} {ns ms : List ℕ} → Develops rules args us ns → Develops rules rest vs ms → Develops rules (grow (node h args) rest) (grow (node h us) vs) (total ns ∷ ms)
  contract : {h : H} {args es us rest vs : Forest H} {r : Tree (PatternCell H)} {ns ms : List ℕ} → Redex rules h args r es → Develops rules es us ns → Develops rules rest vs ms → Develops rules (grow (node h args) rest) (grow (fill h r us) vs) (suc (weight r ns) ∷ ms)

-- a position in a list of trees, with one tree put before them; [] is none
abbrev pub bump : List ℕ → List ℕ
bump [] = []
bump (i ∷ p) = suc i ∷ p

-- the same, with a tree for each variable of the patterns put before them
abbrev pub past : {H : Type 0} → Patterns H → List ℕ → List ℕ
past Last p = p
past (Open ps) p = bump (past ps p)
past (Test test ps qs) p = past ps (past qs p)

-- where a position is among the parts at the variables of the patterns; [] where it is in none
abbrev pub part_position : {H : Type 0} → Patterns H → List ℕ → List ℕ
part_position (Open ps) (zero ∷ p) = zero ∷ p
part_position (Open ps) (suc i ∷ p) = bump (part_position ps (i ∷ p))
part_position (Test test ps qs) (zero ∷ p) = part_position ps p
part_position (Test test ps qs) (suc i ∷ p) = past ps (part_position qs (i ∷ p))
part_position _ p = []

-- whether the development marks the position
abbrev pub marks_at : {H : Type 0} {rules : List (Compiled H)} {ts us : Forest H} {ns : List ℕ} → Develops rules ts us ns → List ℕ → Bool
marks_at nil p = false
marks_at (keep below after) [] = false
marks_at (keep below after) (zero ∷ p) = marks_at below p
marks_at (keep below after) (suc i ∷ p) = marks_at after (i ∷ p)
marks_at (contract redex within after) [] = false
marks_at (contract redex within after) (zero ∷ []) = true
marks_at (contract redex within after) (zero ∷ i ∷ p) = marks_at within (part_position redex.rule.args (i ∷ p))
marks_at (contract redex within after) (suc i ∷ p) = marks_at after (i ∷ p)
