-- Right sides that are the same under the merge of two left sides give the same wherever both left sides fit.
use Rattle.std.proofs.Common.{◌≡◌, ℕ, suc, ◌+◌, ◌<◌, ◌≤◌, List, [], ◌∷◌, ◌++◌, false, refl, sym, ◌∙◌, ap, subst, arith}
use Rattle.std.specs.Prelude.{nat_eq, Contains}
use Rattle.std.specs.List.{AllByRecursion, IsDistinct}
use Rattle.std.proofs.lemmas.Bool.{ne_eqb}
use Rattle.std.proofs.lemmas.List.{append-nil}
use Rattle.eq_base.specs.Tree.{Tree, Forest, node, empty, grow, total_size, map_all_heads}
use Rattle.eq_base.specs.Pattern.{PatternCell, fixed, variable, restricted, variables, all_variables, IsLinear, Classes, Substitution, apply, apply_all, IsInstanceOf}
use Rattle.eq_base.specs.Rewriting.{pattern}
use Rattle.eq_base.specs.Testing.{IsPattern, ArePatterns}
use Rattle.eq_base.proofs.Lists.{all_both, all_map}
use Rattle.eq_base.proofs.Instances.{FitAll, fits_from_instance, instance_from_fits}
use Rattle.regularity.specs.Merge.{merge, merge_all, named, all_named, merged, cell_over, fill, AreSameUnderMerge}
use Rattle.orthogonal_laws.specs.Orthogonal.{IsBound}
use Rattle.orthogonal_laws.proofs.Members.{In, in_first, in_next, contains-in, all-in}
use Rattle.orthogonal_laws.proofs.Readings.{only}
use Rattle.orthogonal_laws.proofs.Redexes.{apply_all-same}

-- ---- names by positions are distinct

abbrev Within : ℕ → ℕ → List ℕ → Type 0
Within n m xs = AllByRecursion (λ x. (n ≤ x) × (x < m)) xs

wider : (n m n' m' : ℕ) (xs : List ℕ) → n' ≤ n → m ≤ m' → Within n m xs → Within n' m' xs
wider n m n' m' xs le le' w = all_map (λ x. (n ≤ x) × (x < m)) (λ x. (n' ≤ x) × (x < m')) xs (λ x b. (let z = b.0 in omega (arith, z), let z = b.1 in omega (arith, z))) w

distinct_from : (x n m : ℕ) (ys : List ℕ) → x < n → Within n m ys → AllByRecursion (λ y. nat_eq x y ≡ false) ys
distinct_from x n m ys lt w = all_map (λ y. (n ≤ y) × (y < m)) (λ y. nat_eq x y ≡ false) ys (λ y b. ne_eqb x y (λ e. let z = b.0 in omega (arith, z))) w

distinct_apart : (n m k : ℕ) (xs ys : List ℕ) → IsDistinct nat_eq xs → IsDistinct nat_eq ys → Within n m xs → Within m k ys → IsDistinct nat_eq (xs ++ ys)
unfolding IsDistinct
distinct_apart n m k [] ys d d' w w' = d'
distinct_apart n m k (x ∷ xs) ys d d' w w' =
    (all_both (λ y. nat_eq x y ≡ false) xs ys d.0 (distinct_from x m k ys (let z = w.0.1 in z) w'), distinct_apart n m k xs ys d.1 d' w.1 w')

distinct_one : (x : ℕ) (xs : List ℕ) → AllByRecursion (λ y. nat_eq x y ≡ false) xs → IsDistinct nat_eq xs → IsDistinct nat_eq (x ∷ xs)
unfolding IsDistinct
distinct_one x xs a d = (a, d)

distinct_none : IsDistinct nat_eq []
unfolding IsDistinct
distinct_none = tt

module _ {H : Type 0} where
  names_within : (n : ℕ) (ps : Forest (PatternCell H)) → Within n (n + total_size ps) (all_variables (all_named n ps))
  names_within n empty = tt
  names_within n (grow (node (fixed h) us) ps) =
      let us' = all_variables (all_named (suc n) us) in
      let ps' = all_variables (all_named (n + suc (total_size us)) ps) in
      all_both (λ x. (n ≤ x) × (x < n + (suc (total_size us) + total_size ps))) us' ps'
      (wider (suc n) (suc n + total_size us) n (n + (suc (total_size us) + total_size ps)) us' (omega arith) (omega arith) (names_within (suc n) us))
      (wider (n + suc (total_size us)) (n + suc (total_size us) + total_size ps) n (n + (suc (total_size us) + total_size ps)) ps' (omega arith) (omega arith) (names_within (n + suc (total_size us)) ps))
  names_within n (grow (node (variable x) us) ps) =
      let ps' = all_variables (all_named (n + suc (total_size us)) ps) in
      ((omega arith, omega arith), wider (n + suc (total_size us)) (n + suc (total_size us) + total_size ps) n (n + (suc (total_size us) + total_size ps)) ps' (omega arith) (omega arith) (names_within (n + suc (total_size us)) ps))
  names_within n (grow (node (restricted x class) us) ps) =
      let ps' = all_variables (all_named (n + suc (total_size us)) ps) in
      ((omega arith, omega arith), wider (n + suc (total_size us)) (n + suc (total_size us) + total_size ps) n (n + (suc (total_size us) + total_size ps)) ps' (omega arith) (omega arith) (names_within (n + suc (total_size us)) ps))

  names_distinct : (n : ℕ) (ps : Forest (PatternCell H)) → IsDistinct nat_eq (all_variables (all_named n ps))
  names_distinct n empty = distinct_none
  names_distinct n (grow (node (fixed h) us) ps) =
      let m = n + suc (total_size us) in
      let us' = all_variables (all_named (suc n) us) in
      distinct_apart (suc n) m (m + total_size ps) us' (all_variables (all_named m ps)) (names_distinct (suc n) us) (names_distinct m ps)
      (wider (suc n) (suc n + total_size us) (suc n) m us' (omega arith) (omega arith) (names_within (suc n) us)) (names_within m ps)
  names_distinct n (grow (node (variable x) us) ps) =
      let m = n + suc (total_size us) in
      distinct_one n (all_variables (all_named m ps)) (distinct_from n m (m + total_size ps) (all_variables (all_named m ps)) (omega arith) (names_within m ps)) (names_distinct m ps)
  names_distinct n (grow (node (restricted x class) us) ps) =
      let m = n + suc (total_size us) in
      distinct_one n (all_variables (all_named m ps)) (distinct_from n m (m + total_size ps) (all_variables (all_named m ps)) (omega arith) (names_within m ps)) (names_distinct m ps)

  named_linear : (p : Tree (PatternCell H)) → IsLinear (named 0 p)
  named_linear p = subst (λ z. IsDistinct nat_eq z) (append-nil (variables (named 0 p))) (names_distinct 0 (grow p empty))

module _ {H : Type 0} (in_class : Classes H) where
  -- ---- what fits both patterns fits the merge

  named_fits : (n : ℕ) (ps : Forest (PatternCell H)) (ts : Forest H) → FitAll in_class ps ts → FitAll in_class (all_named n ps) ts
  named_fits n empty empty f = tt
  named_fits n empty (grow t ts) f = absurd f
  named_fits n (grow p ps) empty f = absurd f
  named_fits n (grow (node (fixed g) us) ps) (grow (node h vs) ts) f = ((f.0.0, named_fits (suc n) us vs f.0.1), named_fits (n + suc (total_size us)) ps ts f.1)
  named_fits n (grow (node (variable x) us) ps) (grow t ts) f = (tt, named_fits (n + suc (total_size us)) ps ts f.1)
  named_fits n (grow (node (restricted x class) us) ps) (grow t ts) f = (tt, named_fits (n + suc (total_size us)) ps ts f.1)

  merge_fits : (n : ℕ) (ps rs : Forest (PatternCell H)) (ts : Forest H) → FitAll in_class ps ts → FitAll in_class rs ts → FitAll in_class (all_named n (merge_all ps rs)) ts
  merge_fits n empty empty empty f f' = tt
  merge_fits n empty (grow r rs) empty f f' = absurd f'
  merge_fits n (grow p ps) rs empty f f' = absurd f
  merge_fits n empty rs (grow t ts) f f' = absurd f
  merge_fits n (grow p ps) empty (grow t ts) f f' = absurd f'
  merge_fits n (grow (node (fixed g) us) ps) (grow (node (fixed h) vs) rs) (grow (node k ws) ts) f f' = ((f.0.0, merge_fits (suc n) us vs ws f.0.1 f'.0.1), merge_fits (n + suc (total_size (merge_all us vs))) ps rs ts f.1 f'.1)
  merge_fits n (grow (node (fixed g) us) ps) (grow (node (variable y) vs) rs) (grow (node k ws) ts) f f' = ((f.0.0, named_fits (suc n) us ws f.0.1), merge_fits (n + suc (total_size us)) ps rs ts f.1 f'.1)
  merge_fits n (grow (node (fixed g) us) ps) (grow (node (restricted y class) vs) rs) (grow (node k ws) ts) f f' = ((f.0.0, named_fits (suc n) us ws f.0.1), merge_fits (n + suc (total_size us)) ps rs ts f.1 f'.1)
  merge_fits n (grow (node (variable x) us) ps) (grow (node (fixed h) vs) rs) (grow (node k ws) ts) f f' = ((f'.0.0, named_fits (suc n) vs ws f'.0.1), merge_fits (n + suc (total_size vs)) ps rs ts f.1 f'.1)
  merge_fits n (grow (node (restricted x class) us) ps) (grow (node (fixed h) vs) rs) (grow (node k ws) ts) f f' = ((f'.0.0, named_fits (suc n) vs ws f'.0.1), merge_fits (n + suc (total_size vs)) ps rs ts f.1 f'.1)
  merge_fits n (grow (node (variable x) us) ps) (grow (node (variable y) vs) rs) (grow t ts) f f' = (tt, merge_fits (n + suc (total_size vs)) ps rs ts f.1 f'.1)
  merge_fits n (grow (node (variable x) us) ps) (grow (node (restricted y class) vs) rs) (grow t ts) f f' = (tt, merge_fits (n + suc (total_size vs)) ps rs ts f.1 f'.1)
  merge_fits n (grow (node (restricted x class) us) ps) (grow (node (variable y) vs) rs) (grow t ts) f f' = (tt, merge_fits (n + suc (total_size us)) ps rs ts f.1 f'.1)
  merge_fits n (grow (node (restricted x class) us) ps) (grow (node (restricted y class') vs) rs) (grow t ts) f f' = (tt, merge_fits (n + suc (total_size us)) ps rs ts f.1 f'.1)

  -- where some trees fit both, the merge is the same in both orders
  merge_turned : (n : ℕ) (ps rs : Forest (PatternCell H)) (ts : Forest H) → ArePatterns ps → ArePatterns rs → FitAll in_class ps ts → FitAll in_class rs ts →
      (all_named n (merge_all ps rs) ≡ all_named n (merge_all rs ps)) × (total_size (merge_all ps rs) ≡ total_size (merge_all rs ps))
  merge_turned n empty empty ts a b f f' = (refl, refl)
  merge_turned n empty (grow r rs) empty a b f f' = absurd f'
  merge_turned n empty (grow r rs) (grow t ts) a b f f' = absurd f
  merge_turned n (grow p ps) rs empty a b f f' = absurd f
  merge_turned n (grow p ps) empty (grow t ts) a b f f' = absurd f'
  merge_turned n (grow (node (fixed g) us) ps) (grow (node (fixed h) vs) rs) (grow (node k ws) ts) a b f f' =
      let below = merge_turned (suc n) us vs ws a.0 b.0 f.0.1 f'.0.1 in
      let after = merge_turned (n + suc (total_size (merge_all us vs))) ps rs ts a.1 b.1 f.1 f'.1 in
      let heads : g ≡ h = f.0.0 ∙ sym f'.0.0 in
      let sizes = below.1 in
      let names = ap (λ m. all_named (n + suc m) (merge_all rs ps)) sizes in
      (rw (heads, below.0, after.0, names) refl, omega (arith, below.1, after.1))
  merge_turned n (grow (node (fixed g) us) ps) (grow (node (variable y) vs) rs) (grow t ts) a b f f' =
      let after = merge_turned (n + suc (total_size us)) ps rs ts a.1 b.1 f.1 f'.1 in
      (rw after.0 refl, omega (arith, after.1))
  merge_turned n (grow (node (fixed g) us) ps) (grow (node (restricted y class) vs) rs) (grow t ts) a b f f' =
      let after = merge_turned (n + suc (total_size us)) ps rs ts a.1 b.1 f.1 f'.1 in
      (rw after.0 refl, omega (arith, after.1))
  merge_turned n (grow (node (variable x) us) ps) (grow (node (fixed h) vs) rs) (grow t ts) a b f f' =
      let after = merge_turned (n + suc (total_size vs)) ps rs ts a.1 b.1 f.1 f'.1 in
      (rw after.0 refl, omega (arith, after.1))
  merge_turned n (grow (node (restricted x class) us) ps) (grow (node (fixed h) vs) rs) (grow t ts) a b f f' =
      let after = merge_turned (n + suc (total_size vs)) ps rs ts a.1 b.1 f.1 f'.1 in
      (rw after.0 refl, omega (arith, after.1))
  merge_turned n (grow (node (variable x) us) ps) (grow (node (variable y) vs) rs) (grow t ts) a b f f' =
      let after = merge_turned (n + 1) ps rs ts a.1 b.1 f.1 f'.1 in
      rw (a.0, b.0) (rw after.0 refl, omega (arith, after.1))
  merge_turned n (grow (node (variable x) us) ps) (grow (node (restricted y class) vs) rs) (grow t ts) a b f f' =
      let after = merge_turned (n + suc (total_size vs)) ps rs ts a.1 b.1 f.1 f'.1 in
      (rw after.0 refl, omega (arith, after.1))
  merge_turned n (grow (node (restricted x class) us) ps) (grow (node (variable y) vs) rs) (grow t ts) a b f f' =
      let after = merge_turned (n + suc (total_size us)) ps rs ts a.1 b.1 f.1 f'.1 in
      (rw after.0 refl, omega (arith, after.1))
  merge_turned n (grow (node (restricted x class) us) ps) (grow (node (restricted y class') vs) rs) (grow t ts) a b f f' =
      let after = merge_turned (n + 1) ps rs ts a.1 b.1 f.1 f'.1 in
      rw (a.0, b.0) (rw after.0 refl, omega (arith, after.1))

-- ---- the two substitutions

module _ {H : Type 0} where
  apply-fill : (ρ : Substitution H) (θ : Substitution (PatternCell H)) (ps : Forest (PatternCell H)) → apply_all ρ (apply_all θ (map_all_heads cell_over ps)) ≡ apply_all (λ x. apply ρ (θ x)) ps
  apply-fill ρ θ empty = refl
  apply-fill ρ θ (grow (node (fixed h) us) ps) = rw (apply-fill ρ θ us, apply-fill ρ θ ps) refl
  apply-fill ρ θ (grow (node (variable x) us) ps) = ap (λ z. grow (apply ρ (θ x)) z) (apply-fill ρ θ ps)
  apply-fill ρ θ (grow (node (restricted x class) us) ps) = ap (λ z. grow (apply ρ (θ x)) z) (apply-fill ρ θ ps)

  grow-same : {t u : Tree H} {ts us : Forest H} → grow t ts ≡ grow u us → (t ≡ u) × (ts ≡ us)
  grow-same e = (cc, cc)

  node-same : {h : H} {ts us : Forest H} → node h ts ≡ node h us → ts ≡ us
  node-same e = cc

  -- substitutions that give a pattern the same value agree on its variables
  apply-agree : (σ τ : Substitution H) (ps : Forest (PatternCell H)) → apply_all σ ps ≡ apply_all τ ps → (x : ℕ) → In (all_variables ps) x → σ x ≡ τ x
  apply-agree σ τ empty e x i = elim i [ ]
  apply-agree σ τ (grow (node (fixed h) us) ps) e x i =
      let s = grow-same e in
      of_either (all_variables us) i (λ j. apply-agree σ τ us (node-same s.0) x j) (λ j. apply-agree σ τ ps s.1 x j)
    where
      of_either : (xs : List ℕ) {ys : List ℕ} {A : Type 0} → In (xs ++ ys) x → (In xs x → A) → (In ys x → A) → A
      of_either [] i f g = g i
      of_either (y ∷ xs) in_first f g = f in_first
      of_either (y ∷ xs) (in_next i) f g = of_either xs i (λ j. f (in_next j)) g
  apply-agree σ τ (grow (node (variable y) us) ps) e x in_first = (grow-same e).0
  apply-agree σ τ (grow (node (variable y) us) ps) e x (in_next i) = apply-agree σ τ ps (grow-same e).1 x i
  apply-agree σ τ (grow (node (restricted y class) us) ps) e x in_first = (grow-same e).0
  apply-agree σ τ (grow (node (restricted y class) us) ps) e x (in_next i) = apply-agree σ τ ps (grow-same e).1 x i

  -- a right side over the variables of the left side has one value, where the left side has it
  filled_value : (ρ : Substitution H) (θ : Substitution (PatternCell H)) (p s : Tree (PatternCell H)) (σ : Substitution H) → IsBound (variables p) (pattern s) → apply ρ (fill θ p) ≡ apply σ p → apply ρ (fill θ s) ≡ apply σ s
  filled_value ρ θ p s σ bound e =
      let value = apply-fill ρ θ (grow p empty) in
      let agree = apply-agree (λ x. apply ρ (θ x)) σ (grow p empty) (sym value ∙ ap (λ z. grow z empty) e) in
      only (apply-fill ρ θ (grow s empty) ∙ apply_all-same (λ x. apply ρ (θ x)) σ (grow s empty)
      (λ x i. agree x (subst (λ z. In z x) (sym (append-nil (variables p))) (contains-in (all-in (λ x. Contains (variables p) x) bound (subst (λ z. In z x) (append-nil (variables s)) i))))))

module _ {H : Type 0} (in_class : Classes H) where
  pub same_values : (p r s u : Tree (PatternCell H)) → IsPattern p → IsPattern r → IsBound (variables p) (pattern s) → IsBound (variables r) (pattern u) → AreSameUnderMerge p r s u → (t : Tree H) (i : IsInstanceOf in_class p t) (j : IsInstanceOf in_class r t) → apply i.substitution s ≡ apply j.substitution u
  same_values p r s u is is' bound bound' same t i j =
      let ts = grow t empty in
      let f : FitAll in_class (grow p empty) ts = (fits_from_instance in_class p t i, tt) in
      let f' : FitAll in_class (grow r empty) ts = (fits_from_instance in_class r t j, tt) in
      let m = instance_from_fits in_class (merged p r) t (named_linear (merge p r)) (merge_fits in_class 0 (grow p empty) (grow r empty) ts f f').0 in
      let ρ = m.substitution in
      let turned : merged p r ≡ merged r p = only (merge_turned in_class 0 (grow p empty) (grow r empty) ts (is, tt) (is', tt) f f').0 in
      let one : apply ρ (fill same.of_one p) ≡ t = ap (apply ρ) same.one_merged ∙ m.applied in
      let other : apply ρ (fill same.of_other r) ≡ t = ap (apply ρ) (same.other_merged ∙ sym turned) ∙ m.applied in
      sym (filled_value ρ same.of_one p s i.substitution bound (one ∙ sym i.applied))
      ∙ (ap (apply ρ) same.same ∙ filled_value ρ same.of_other r u j.substitution bound' (other ∙ sym j.applied))
