-- The laws of plain runs, derivations and convertible terms, in the words of the definitions.
use Rattle.std.proofs.Common.{◌≡◌, ℕ, zero, suc, ◌<◌, ◌≤◌, List, [], ◌∷◌, Bool, true, inl, inr, refl, sym, ◌∙◌, ap, subst, arith}
use Rattle.std.proofs.lemmas.Bool.{cases_lt}
use Rattle.eq_base.specs.Tree.{Tree, Forest, node, empty, grow, replace_at, Position}
use Rattle.eq_base.specs.Pattern.{PatternCell}
use Rattle.eq_base.specs.Rewriting.{System, RootStep, StepAt, IsDerivable, IsNormal}
use Rattle.orthogonal_laws.specs.Convertible.{IsConvertible}
use Rattle.orthogonal_laws.specs.Orthogonal.{IsWellFormedSystem, IsOrthogonal}
use Rattle.orthogonal_laws.specs.Strategy.{IsNext, PlainRun, HasLength, BudgetAnswers, normal, spent}
use Rattle.orthogonal_laws.specs.Strategy as strategy
use Rattle.orthogonal_laws.specs.Development.{Development, Replaced, here, below, ReplacedAll, nothing, also, replaces, replaces_in, SharedStep}
use Rattle.orthogonal_laws.proofs.LeftSides.{fill, Redex}
use Rattle.orthogonal_laws.proofs.ForestDevelopments.{Develops, nil, keep, contract, marks_at}
use Rattle.orthogonal_laws.proofs.Matchers.{tree}
use Rattle.orthogonal_laws.proofs.DecisionTrees.{regular-compiles, regular-sequential}
use Rattle.orthogonal_laws.proofs.ReadPositions.{regular-reads}
use Rattle.orthogonal_laws.proofs.ForestRuns.{still, plain_back, plain_forth, plain_shared, plain_found, plain_unique}
use Rattle.orthogonal_laws.proofs.Confluence.{diamond, common_reduct}
use Rattle.orthogonal_laws.proofs.Confluence as confluence
use Rattle.orthogonal_laws.proofs.Redexes.{compiled, step-redex}
use Rattle.orthogonal_laws.proofs.Regularity.{orthogonal-regular}
use Rattle.orthogonal_laws.proofs.Stepping.{normal-to}
use Rattle.orthogonal_laws.proofs.NextRedexes.{next-from}
use Rattle.orthogonal_laws.proofs.Developing.{develop-to}
use Rattle.orthogonal_laws.proofs.Returning.{develop_one}
use Rattle.orthogonal_laws.proofs.SingleTrees.{run_before, length-to, length-from, derivable-to, derivable-from, joined-to}
use Rattle.orthogonal_laws.proofs.NextLaws.{one_result, next_one, normal_or_next_redex, next_not_normal, next_has_step}

module _ {H : Type 0} (system : System H) (w : IsWellFormedSystem system) (o : IsOrthogonal system) where
  -- what develops to a term with a length has a length, and the same end
  pub run_before_development : (t u v : Tree H) (m n : ℕ) → Development system t u m → HasLength system u n v → (k : ℕ) × HasLength system t k v
  run_before_development t u v m n d l =
      let regular = orthogonal-regular system w o in
      let x = plain_back (compiled system w) (tree (compiled system w)) (regular-compiles regular) (regular-reads regular) (regular-sequential regular) (length-to system w o l) (develop-to system w o d nil).develops in
      let y = length-from system w o x.1 t refl in
      let e : y.end ≡ v = let z = y.is in cc in
      (x.0, subst (λ z. HasLength system t x.0 z) e y.has)

  pub run_found : (t v : Tree H) → IsDerivable system t v → IsNormal system v → (n : ℕ) × HasLength system t n v
  run_found t v d norm =
      let regular = orthogonal-regular system w o in
      let x = plain_found (compiled system w) (tree (compiled system w)) (regular-compiles regular) (regular-reads regular) (regular-sequential regular) (derivable-to system w o d) (normal-to system w o v norm) in
      let y = length-from system w o x.1 t refl in
      let e : y.end ≡ v = let z = y.is in cc in
      (x.0, subst (λ z. HasLength system t x.0 z) e y.has)

  pub one_run : (t u v : Tree H) (m n : ℕ) → HasLength system t m u → HasLength system t n v → (m ≡ n) × (u ≡ v)
  one_run t u v m n l l' =
      let regular = orthogonal-regular system w o in
      let x = plain_unique (compiled system w) (tree (compiled system w)) (regular-compiles regular) (regular-reads regular) (regular-sequential regular) (length-to system w o l) (length-to system w o l') in
      (x.0, let z = x.1 in cc)

  pub one_end : (t u v : Tree H) → IsDerivable system t u → IsNormal system u → IsDerivable system t v → IsNormal system v → u ≡ v
  one_end t u v d n d' n' = (one_run t u v _ _ (run_found t u d n).1 (run_found t v d' n').1).1

  pub run_after_development : (t u v : Tree H) (m n : ℕ) → Development system t u m → HasLength system t n v → (k : ℕ) × HasLength system u k v × (k ≤ n)
  run_after_development t u v m n d l =
      let regular = orthogonal-regular system w o in
      let x = plain_forth (compiled system w) (tree (compiled system w)) (regular-compiles regular) (regular-reads regular) (regular-sequential regular) (length-to system w o l) (develop-to system w o d nil).develops in
      let y = length-from system w o x.1 u refl in
      let e : y.end ≡ v = let z = y.is in cc in
      (x.0, subst (λ z. HasLength system u x.0 z) e y.has, x.2)

  -- ---- shared steps

  -- a development that marks the positions of a test, in front of another one
  record Covers (t u : Tree H) {rest vs : Forest H} {ms : List ℕ} (d : Develops (compiled system w) rest vs ms) (test : Position → Bool) : Type 0 where
    weight : ℕ
    develops : Develops (compiled system w) (grow t rest) (grow u vs) (weight ∷ ms)
    covers : (q : Position) → test q ≡ true → marks_at develops (0 ∷ q) ≡ true
    after : (i : ℕ) (q : Position) → marks_at develops (suc i ∷ q) ≡ marks_at d (i ∷ q)

  record AllCover (ts us : Forest H) (test : ℕ → Position → Bool) : Type 0 where
    weights : List ℕ
    develops : Develops (compiled system w) ts us weights
    covers : (i : ℕ) (q : Position) → test i q ≡ true → marks_at develops (i ∷ q) ≡ true

  module _ (h : H) (args es : Forest H) (r : Tree (PatternCell H)) (x : Redex (compiled system w) h args r es) where
    abbrev at_here : (t : Tree H) → t ≡ node h args → Replaced (node h args) (fill h r es) t (fill h r es)
    at_here t e = here e

    root_covers : {t : Tree H} (e : t ≡ node h args) {rest vs : Forest H} {ms : List ℕ} (d : Develops (compiled system w) rest vs ms) (q : Position) → replaces (at_here t e) q ≡ true → marks_at (contract x (still (compiled system w) es).1 d) (0 ∷ q) ≡ true
    root_covers e d [] on = refl
    root_covers e d (i ∷ q) on = absurd (cc)

    mutual
      shared_to : {t u : Tree H} (y : Replaced (node h args) (fill h r es) t u) {rest vs : Forest H} {ms : List ℕ} (d : Develops (compiled system w) rest vs ms) → Covers t u d (λ q. replaces y q)
      shared_to (here {t = t} e) d =
          let base : Covers (node h args) (fill h r es) d (λ q. replaces (at_here t e) q) = record { weight = _; develops = contract x (still (compiled system w) es).1 d; covers = λ q on. root_covers e d q on; after = λ i q. refl } in
          subst (λ z. Covers z (fill h r es) d (λ q. replaces (at_here t e) q)) (sym e) base
      shared_to (below {h = g} {ts = ts} {us = us} ys) d =
          let a = shared_all ys in
          record { weight = _; develops = keep a.develops d; covers = λ q on. inside a q on; after = λ i q. refl }
        where
          inside : (a : AllCover ts us (λ i q. replaces_in ys i q)) (q : Position) → replaces (below {h = g} ys) q ≡ true → marks_at (keep {h = g} a.develops d) (0 ∷ q) ≡ true
          inside a [] on = absurd (cc)
          inside a (i ∷ q) on = a.covers i q on

      shared_all : {ts us : Forest H} (y : ReplacedAll (node h args) (fill h r es) ts us) → AllCover ts us (λ i q. replaces_in y i q)
      shared_all nothing = record { weights = []; develops = nil; covers = λ i q on. absurd (cc) }
      shared_all (also {t = t} {u = u} {ts = ts} {us = us} y ys) =
          let a = shared_all ys in
          let b = shared_to y a.develops in
          record { weights = _; develops = b.develops; covers = λ i q on. one a b i q on }
        where
          one : (a : AllCover ts us (λ i q. replaces_in ys i q)) (b : Covers t u a.develops (λ q. replaces y q)) (i : ℕ) (q : Position) → replaces_in (also y ys) i q ≡ true → marks_at b.develops (i ∷ q) ≡ true
          one a b zero q on = b.covers q on
          one a b (suc i) q on = b.after i q ∙ a.covers i q on

  record IsReplacedAt (t u : Tree H) (q : Position) : Type 0 where
    weights : List ℕ
    develops : Develops (compiled system w) (grow t empty) (grow u empty) weights
    marked : marks_at develops (0 ∷ q) ≡ true

  covered : {t u : Tree H} {test : Position → Bool} {q : Position} → Covers t u nil test → test q ≡ true → IsReplacedAt t u q
  covered {q = q} c on = record { weights = _; develops = c.develops; marked = c.covers q on }

  -- a shared step makes the plain run shorter
  pub run_after_shared : (t u v : Tree H) (n : ℕ) → SharedStep system t u → HasLength system t n v → (k : ℕ) × HasLength system u k v × (suc k ≤ n)
  run_after_shared t u v n s l = of_redex s.redex s.root_step s.replaced s.among
    where
      of_redex : (redex : Tree H) → RootStep system redex s.contractum → (x : Replaced redex s.contractum t u) → replaces x s.next ≡ true → (k : ℕ) × HasLength system u k v × (suc k ≤ n)
      of_redex (node h args) step x on =
          let regular = orthogonal-regular system w o in
          let r = step-redex system w o h args s.contractum step in
          let p = subst (λ z. (x : Replaced (node h args) z t u) → replaces x s.next ≡ true → IsReplacedAt t u s.next) (sym r.value) (λ x on. covered (shared_to h args r.parts r.right r.redex x nil) on) x on in
          let y = plain_shared (compiled system w) (tree (compiled system w)) (regular-compiles regular) (regular-reads regular) (regular-sequential regular) (length-to system w o l) (next-from system w o s.is_next) p.develops p.marked in
          let z = length-from system w o y.1 u refl in
          let e : z.end ≡ v = let q = z.is in cc in
          (y.0, subst (λ z. HasLength system u y.0 z) e z.has, y.2)

  -- with each budget the plain run has an answer
  answer_after : {t u : Tree H} {q : Position} {budget : ℕ} → IsNext system t q → StepAt system t q u → BudgetAnswers system u budget → BudgetAnswers system t (suc budget)
  answer_after n s (normal l le) = normal (record { run = run_before system w o n s l.run; normal = l.normal }) (omega arith)
  answer_after n s (spent run left) = spent (run_before system w o n s run) left

  pub answer : (budget : ℕ) (t : Tree H) → BudgetAnswers system t budget
  answer zero t =
      elim (normal_or_next_redex system w o t) [
        | inl n ↦ normal (record { run = strategy.start; normal = n }) (omega arith)
        | inr n ↦ spent strategy.start (next_not_normal system w o t n.0 n.1)
      ]
  answer (suc budget) t =
      elim (normal_or_next_redex system w o t) [
        | inl n ↦ normal (record { run = strategy.start; normal = n }) (omega arith)
        | inr n ↦ let s = next_has_step system w o t n.0 n.1 in answer_after n.1 s.1 (answer budget s.0)
      ]

  first_of_run : {t u : Tree H} {n : ℕ} → PlainRun system t (suc n) u → (q : Position) × (s : Tree H) × IsNext system t q × StepAt system t q s × PlainRun system s n u
  first_of_run (strategy.then {n = zero} q strategy.start nx s) = (q, _, nx, s, strategy.start)
  first_of_run (strategy.then {n = suc n} q run nx s) = let x = first_of_run run in (x.0, x.1, x.2, x.3, strategy.then q x.4 nx s)

  no_steps : {t u : Tree H} → PlainRun system t zero u → u ≡ t
  no_steps strategy.start = refl

  step_same : {t u v : Tree H} {q : Position} → StepAt system t q u → StepAt system t q v → u ≡ v
  step_same {t} {u} {v} {q} s s' =
      let e : s'.redex ≡ s.redex = let x = s.stands in let y = s'.stands in cc in
      let e' = one_result system w o s.redex s.contractum s'.contractum s.root_step (subst (λ z. RootStep system z s'.contractum) e s'.root_step) in
      sym s.result ∙ (ap (λ z. replace_at t q z) e' ∙ s'.result)

  too_long : (n m : ℕ) {t u v : Tree H} → PlainRun system t m u → PlainRun system t n v → IsNormal system v → n ≤ m → (IsNormal system u → ⊥) → ⊥
  too_long zero zero run run' norm le left = left (subst (λ z. IsNormal system z) (no_steps run' ∙ sym (no_steps run)) norm)
  too_long zero (suc m) {t} run run' norm le left =
      let x = first_of_run run in next_not_normal system w o t x.0 x.2 (subst (λ z. IsNormal system z) (no_steps run') norm)
  too_long (suc n) zero run run' norm le left = absurd (omega arith)
  too_long (suc n) (suc m) {t} {u} {v} run run' norm le left =
      let x = first_of_run run in
      let y = first_of_run run' in
      let e = next_one system w o t y.0 x.0 y.2 x.2 in
      let e' = step_same (subst (λ q. StepAt system t q y.1) e y.3) x.3 in
      too_long n m x.4 (subst (λ z. PlainRun system z n v) e' y.4) norm (omega arith) left

  -- a run of as many steps as the budget that leaves a redex is shorter than the length
  pub spent_right : (t u v : Tree H) (budget n : ℕ) → PlainRun system t budget u → (IsNormal system u → ⊥) → HasLength system t n v → budget < n
  spent_right t u v budget n run left l =
      elim (cases_lt budget n) [ inl less ↦ less | inr le ↦ absurd (too_long n budget run l.run l.normal le left) ]

  -- two developments of a term have a common one
  pub developments_meet : (t u v : Tree H) (m n : ℕ) → Development system t u m → Development system t v n → (r : Tree H) × (k : ℕ) × (l : ℕ) × Development system u r k × Development system v r l
  developments_meet t u v m n d d' =
      let regular = orthogonal-regular system w o in
      let x = diamond (compiled system w) (tree (compiled system w)) (regular-compiles regular) (regular-sequential regular) (confluence.size (grow t empty)) (omega arith) (develop-to system w o d nil).develops (develop-to system w o d' nil).develops in
      let a = develop_one system w o u x.end x.left_weights x.left in
      let b = develop_one system w o v x.end x.right_weights x.right in
      let e : b.tree ≡ a.tree = let y = a.is in let z = b.is in cc in
      (a.tree, a.weight, b.weight, a.develops, subst (λ z. Development system v z b.weight) e b.develops)

  -- convertible terms have a common reduct
  pub convertible_meet : (t u : Tree H) → IsConvertible system t u → (v : Tree H) × IsDerivable system t v × IsDerivable system u v
  convertible_meet t u c =
      let regular = orthogonal-regular system w o in
      let x = common_reduct (compiled system w) (tree (compiled system w)) (regular-compiles regular) (regular-sequential regular) (joined-to system w o c) in
      let a = derivable-from system w o x.1 t refl in
      let b = derivable-from system w o x.2 u refl in
      let e : b.0 ≡ a.0 = let y = a.1 in let z = b.1 in cc in
      (a.0, a.2, subst (λ z. IsDerivable system u z) e b.2)
