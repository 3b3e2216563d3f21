-- The value and the weight of a right side, where what the variables stand for has moved on.
use Rattle.std.proofs.Common.{◌≡◌, ℕ, suc, ◌+◌, List, [], ◌∷◌, ◌++◌, map, Bool, Some, refl, sym, ◌∙◌, ap, subst, arith}
use Rattle.std.specs.Prelude.{Contains}
use Rattle.std.specs.List.{AllByRecursion}
use Rattle.std.proofs.lemmas.List.{append-nil}
use Rattle.eq_base.specs.Tree.{Tree, Forest, node, empty, grow, map_heads, map_all_heads}
use Rattle.eq_base.specs.Pattern.{PatternCell, fixed, variable, restricted, variables, all_variables, all_restrictions, Classes, Substitution, apply, IsInstanceOf}
use Rattle.eq_base.specs.Rewriting.{RightSide, pattern, operation, Rule, System, Gives}
use Rattle.orthogonal_laws.specs.Orthogonal.{IsBound, IsWellFormedSystem, IsOrthogonal}
use Rattle.orthogonal_laws.proofs.Readings.{only, lookup_all, count_plain, readings, lookup_pattern, rename, rename_all, read_right}
use Rattle.eq_base.proofs.Instances.{FitAll, all_bindings, Agrees, agrees_front, agrees_back}
use Rattle.orthogonal_laws.specs.Development.{sum_of, right_weight}
use Rattle.eq_base.proofs.Lists.{all_front, all_both}
use Rattle.orthogonal_laws.proofs.Members.{In, in_first, in_next, in_left, in_right, contains-in, all-in}
use Rattle.orthogonal_laws.proofs.LeftSides.{skeleton, nth, fill}
use Rattle.orthogonal_laws.proofs.ForestDevelopments.{nth_weight, weight}
use Rattle.orthogonal_laws.proofs.Translation.{tests, args_tests, skeleton-fit, Numbers, numbers-nth}
use Rattle.orthogonal_laws.proofs.Redexes.{apply_all-rename, apply_all-same, keys-readings, left_tests, root_tested, instance-agrees, instance-fit, bare-whole, bare-value, filled-value, some_of}

-- ω gives the weights the numbers from n on
abbrev Counts : (ℕ → ℕ) → ℕ → List ℕ → Type 0
Counts ω n [] = Unit {0}
Counts ω n (m ∷ ms) = (ω n ≡ m) × Counts ω (suc n) ms

counts-nth : (ω : ℕ → ℕ) (n : ℕ) (ms : List ℕ) → ((i : ℕ) → ω (n + i) ≡ nth_weight i ms) → Counts ω n ms
counts-nth ω n [] e = tt
counts-nth ω n (m ∷ ms) e = (ap ω (omega arith) ∙ e 0, counts-nth ω (suc n) ms (λ i. ap ω (omega arith) ∙ e (suc i)))

sum_of-append : (w : ℕ → ℕ) (xs ys : List ℕ) → sum_of w (xs ++ ys) ≡ sum_of w xs + sum_of w ys
sum_of-append w [] ys = omega arith
sum_of-append w (x ∷ xs) ys = omega (arith, sum_of-append w xs ys)

module _ {H : Type 0} where
  -- what a substitution gives the plain variables of patterns, in front of others
  abbrev pub plain_parts : Substitution H → Forest (PatternCell H) → Forest H → Forest H
  plain_parts τ empty others = others
  plain_parts τ (grow (node (fixed g) qs) ps) others = plain_parts τ qs (plain_parts τ ps others)
  plain_parts τ (grow (node (variable x) qs) ps) others = grow (τ x) (plain_parts τ ps others)
  plain_parts τ (grow (node (restricted x class) qs) ps) others = plain_parts τ ps others

  -- the same for weights
  abbrev pub plain_weights : (ℕ → ℕ) → Forest (PatternCell H) → List ℕ → List ℕ
  plain_weights w empty others = others
  plain_weights w (grow (node (fixed g) qs) ps) others = plain_weights w qs (plain_weights w ps others)
  plain_weights w (grow (node (variable x) qs) ps) others = w x ∷ plain_weights w ps others
  plain_weights w (grow (node (restricted x class) qs) ps) others = plain_weights w ps others

  -- restricted variables keep their constants, with no weight
  abbrev pub AreStill : Substitution H → Substitution H → (ℕ → ℕ) → List (ℕ × ℕ) → Type 0
  AreStill σ τ w rs = AllByRecursion (λ r. (τ r.0 ≡ σ r.0) × (w r.0 ≡ 0)) rs

  sum-rename : (ω w : ℕ → ℕ) (θ : ℕ → Tree (PatternCell H)) (ps : Forest (PatternCell H)) → ((x : ℕ) → In (all_variables ps) x → sum_of ω (variables (θ x)) ≡ w x) → sum_of ω (all_variables (rename_all θ ps)) ≡ sum_of w (all_variables ps)
  sum-rename ω w θ empty e = refl
  sum-rename ω w θ (grow (node (fixed g) qs) ps) e =
      omega (arith, sum_of-append ω (all_variables (rename_all θ qs)) (all_variables (rename_all θ ps)), sum_of-append w (all_variables qs) (all_variables ps), sum-rename ω w θ qs (λ x i. e x (in_left i (all_variables ps))), sum-rename ω w θ ps (λ x i. e x (in_right (all_variables qs) i)))
  sum-rename ω w θ (grow (node (variable x) qs) ps) e = omega (arith, sum_of-append ω (variables (θ x)) (all_variables (rename_all θ ps)), e x in_first, sum-rename ω w θ ps (λ y i. e y (in_next i)))
  sum-rename ω w θ (grow (node (restricted x class) qs) ps) e = omega (arith, sum_of-append ω (variables (θ x)) (all_variables (rename_all θ ps)), e x in_first, sum-rename ω w θ ps (λ y i. e y (in_next i)))

  sum-map : (ω : ℕ → ℕ) (ts : Forest H) → sum_of ω (all_variables (map_all_heads (λ h. fixed h) ts)) ≡ 0
  sum-map ω empty = refl
  sum-map ω (grow (node h us) ts) = omega (arith, sum_of-append ω (all_variables (map_all_heads (λ h. fixed h) us)) (all_variables (map_all_heads (λ h. fixed h) ts)), sum-map ω us, sum-map ω ts)

  -- what a reading gives, and its weight
  abbrev Reads : Substitution H → Substitution H → (ℕ → ℕ) → (ℕ → ℕ) → List (ℕ × Tree (PatternCell H)) → Type 0
  Reads ρ τ ω w bs = AllByRecursion (λ b. (apply ρ b.1 ≡ τ b.0) × (sum_of ω (variables b.1) ≡ w b.0)) bs

module _ {H : Type 0} (same : H → H → Bool) (in_class : Classes H) where
  moved : (f : H) (σ τ ρ : Substitution H) (w ω : ℕ → ℕ) (ps : Forest (PatternCell H)) (ts : Forest H) (n : ℕ) (others : Forest H) (ms : List ℕ) → FitAll in_class ps ts → Agrees in_class σ (all_bindings in_class ps ts) → AreStill σ τ w (all_restrictions ps) → Numbers same in_class ρ n (plain_parts τ ps others) → Counts ω n (plain_weights w ps ms) →
      Reads ρ τ ω w (readings ps (skeleton f (tests same in_class ps) ts) n) × Numbers same in_class ρ (n + count_plain ps) others × Counts ω (n + count_plain ps) ms
  moved f σ τ ρ w ω empty empty n others ms x a s o c = (tt, subst (λ k. Numbers same in_class ρ k others) (omega arith) o, subst (λ k. Counts ω k ms) (omega arith) c)
  moved f σ τ ρ w ω empty (grow t ts) n others ms x a s o c = absurd x
  moved f σ τ ρ w ω (grow p ps) empty n others ms x a s o c = absurd x
  moved f σ τ ρ w ω (grow (node (fixed g) qs) ps) (grow (node h us) ts) n others ms x a s o c =
      let one = moved f σ τ ρ w ω qs us n (plain_parts τ ps others) (plain_weights w ps ms) x.0.1 (agrees_front in_class σ (all_bindings in_class qs us) (all_bindings in_class ps ts) a) (all_front (λ r. (τ r.0 ≡ σ r.0) × (w r.0 ≡ 0)) (all_restrictions qs) (all_restrictions ps) s) o c in
      let two = moved f σ τ ρ w ω ps ts (n + count_plain qs) others ms x.1 (agrees_back in_class σ (all_bindings in_class qs us) (all_bindings in_class ps ts) a) (all_rest (all_restrictions qs) (all_restrictions ps) s) one.1 one.2 in (
        all_both (λ b. (apply ρ b.1 ≡ τ b.0) × (sum_of ω (variables b.1) ≡ w b.0)) (readings qs (skeleton f (tests same in_class qs) us) n) (readings ps (skeleton f (tests same in_class ps) ts) (n + count_plain qs)) one.0 two.0,
        subst (λ k. Numbers same in_class ρ k others) (omega arith) two.1,
        subst (λ k. Counts ω k ms) (omega arith) two.2,
      )
    where
      all_rest : (xs ys : List (ℕ × ℕ)) → AreStill σ τ w (xs ++ ys) → AreStill σ τ w ys
      all_rest [] ys h = h
      all_rest (x ∷ xs) ys h = all_rest xs ys h.1
  moved f σ τ ρ w ω (grow (node (variable y) qs) ps) (grow t ts) n others ms x a s o c =
      let rest = moved f σ τ ρ w ω ps ts (suc n) others ms x.1 a.1 s o.1 c.1 in (
        ((o.0, let z = c.0 in omega (arith, z)), rest.0),
        subst (λ k. Numbers same in_class ρ k others) (omega arith) rest.1,
        subst (λ k. Counts ω k ms) (omega arith) rest.2,
      )
  moved f σ τ ρ w ω (grow (node (restricted y class) qs) ps) (grow (node h empty) ts) n others ms x a s o c =
      let rest = moved f σ τ ρ w ω ps ts n others ms x.1 a.1 s.1 o c in
      (((sym a.0 ∙ sym s.0.0, sym s.0.1), rest.0), rest.1, rest.2)
  moved f σ τ ρ w ω (grow (node (restricted y class) qs) ps) (grow (node h (grow u us)) ts) n others ms x a s o c = absurd x.0

module _ {H : Type 0} (system : System H) (w : IsWellFormedSystem system) (o : IsOrthogonal system) where
  -- the value and the weight of a right side that was read, over what the variables have become
  pub record Moved (h : H) (left : Tree (PatternCell H)) (τ : Substitution H) (v : ℕ → ℕ) (right : RightSide H) (r : Tree (PatternCell H)) (u : Tree H) : Type 0 where
    pub value : fill h r (plain_parts τ (grow left empty) empty) ≡ u
    pub weighs : weight r (plain_weights v (grow left empty) []) ≡ right_weight v right

  pattern-moved : (rule : Rule H) (p : Tree (PatternCell H)) → IsBound (variables rule.left) (pattern p) → (h : H) (args : Forest H) (i : IsInstanceOf system.in_class rule.left (node h args)) (τ : Substitution H) (v : ℕ → ℕ) → AreStill i.substitution τ v (all_restrictions (grow rule.left empty)) →
      Moved h rule.left τ v (pattern p) (rename (lookup_pattern (readings (grow rule.left empty) (skeleton h (left_tests system w rule.left) (grow (node h args) empty)) 0)) p) (apply τ p)
  pattern-moved rule p bound h args i τ v still =
      let c = system.in_class in
      let ps = grow rule.left empty in
      let ts = grow (node h args) empty in
      let fs = plain_parts τ ps empty in
      let ns = plain_weights v ps [] in
      let ρ : Substitution H = λ k. nth h k fs in
      let ω : ℕ → ℕ = λ k. nth_weight k ns in
      let sk = skeleton h (left_tests system w rule.left) ts in
      let bs = readings ps sk 0 in
      let fit = instance-fit system w rule.left (node h args) i in
      let m = moved w.same c h i.substitution τ ρ v ω ps ts 0 empty [] fit (instance-agrees system w rule.left (node h args) i) still
      (numbers-nth w.same c h ρ 0 fs (λ k. ap (λ k. nth h k fs) (omega arith))) (counts-nth ω 0 ns (λ k. ap (λ k. nth_weight k ns) (omega arith))) in
      let keys : map (λ b. b.0) bs ≡ all_variables ps = keys-readings c ps sk 0 (skeleton-fit w.same c h ps ts fit) in
      let known = λ (x : ℕ) (j : In (all_variables (grow p empty)) x). lookup_all (λ x r. (apply ρ r ≡ τ x) × (sum_of ω (variables r) ≡ v x)) bs x m.0 (subst (λ z. In z x) (sym keys) (subst (λ z. In z x) (sym (append-nil (variables rule.left))) (contains-in (all-in (λ x. Contains (variables rule.left) x) bound (subst (λ z. In z x) (append-nil (variables p)) j))))) in
      let sums = sum-rename ω v (lookup_pattern bs) (grow p empty) (λ x j. (known x j).1) in
      record {
        value = only (apply_all-rename ρ (lookup_pattern bs) (grow p empty) ∙ apply_all-same (λ x. apply ρ (lookup_pattern bs x)) τ (grow p empty) (λ x j. (known x j).0));
        weighs = ap (λ xs. sum_of ω xs) (sym (append-nil (variables (rename (lookup_pattern bs) p)))) ∙ (sums ∙ ap (λ xs. sum_of v xs) (append-nil (variables p)));
      }

  pub rule-moved : (rule : Rule H) → Contains system.rules rule → (right : RightSide H) → rule.right ≡ right → (h : H) (args : Forest H) (i : IsInstanceOf system.in_class rule.left (node h args)) (r : Tree (PatternCell H)) →
      read_right system rule.left (node h (skeleton h (args_tests w.same system.in_class rule.left) args)) right ≡ Some r → (τ : Substitution H) (v : ℕ → ℕ) → AreStill i.substitution τ v (all_restrictions (grow rule.left empty)) → (u : Tree H) → Gives system τ right (node h args) u → Moved h rule.left τ v right r u
  rule-moved rule listed (pattern p) e h args i r read τ v still u gives =
      let bare = bare-whole system w o rule.left (root_tested system w rule listed) h h args in
      let is : rename (lookup_pattern (readings (grow rule.left empty) (grow (node h (skeleton h (args_tests w.same system.in_class rule.left) args)) empty) 0)) p ≡ r = cc in
      subst (λ z. Moved h rule.left τ v (pattern p) r z) gives
      (subst (λ z. Moved h rule.left τ v (pattern p) z (apply τ p)) (ap (λ ts. rename (lookup_pattern (readings (grow rule.left empty) ts 0)) p) bare ∙ is)
      (pattern-moved rule p (subst (λ z. IsBound (variables rule.left) z) e (o.bound rule listed)) h args i τ v still))
  rule-moved rule listed (operation op) e h args i r read τ v still u gives =
      let x = some_of system w o (map_heads (λ h. fixed h)) _ r read in
      let same : Some x.0 ≡ Some u = sym x.1 ∙ (sym (bare-value system w o rule listed op e h (node h args) _ i (bare-whole system w o rule.left (root_tested system w rule listed) h h args)) ∙ gives) in
      let is : x.0 ≡ u = cc in
      let fs = plain_parts τ (grow rule.left empty) empty in
      let ω : ℕ → ℕ = λ k. nth_weight k (plain_weights v (grow rule.left empty) []) in
      record {
        value = ap (λ z. fill h z fs) (sym x.2) ∙ (filled-value system w o h x.0 fs ∙ is);
        weighs = ap (λ z. sum_of ω (variables z)) (sym x.2) ∙ (ap (λ xs. sum_of ω xs) (sym (append-nil (variables (map_heads (λ h. fixed h) x.0)))) ∙ sum-map ω (grow x.0 empty));
      }
