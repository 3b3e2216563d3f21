-- Two rules that test the same positions and lead to the same terms have right sides that read the same.
use Rattle.std.proofs.Common.{◌≡◌, ℕ, suc, ◌+◌, ◌≤◌, [], map, Bool, Option, Some, None, refl, sym, ◌∙◌, ap, subst, arith}
use Rattle.std.specs.Prelude.{Contains, option_map}
use Rattle.std.proofs.lemmas.List.{append-nil}
use Rattle.eq_base.specs.Tree.{Tree, Forest, node, empty, grow, size, map_heads}
use Rattle.eq_base.specs.Pattern.{PatternCell, fixed, variable, restricted, variables, all_variables, restrictions, Classes, apply, IsInstanceOf}
use Rattle.eq_base.specs.Rewriting.{RightSide, pattern, operation, Rule, System, Gives, IsInstance}
use Rattle.eq_base.specs.declared.rules.Op.{Op}
use Rattle.eq_base.proofs.Instances.{FitAll, all_bindings, Agrees, instance_from_fits}
use Rattle.orthogonal_laws.specs.Orthogonal.{SameRight, IsBound, IsWellFormedSystem, IsOrthogonal}
use Rattle.eq_base.proofs.Lists.{all_front}
use Rattle.orthogonal_laws.proofs.Members.{In, contains-in, all-in}
use Rattle.orthogonal_laws.proofs.LeftSides.{Patterns, opens, Alike, alike_last, alike_open, alike_test}
use Rattle.orthogonal_laws.proofs.Readings.{only, count_plain, readings, lookup_pattern, lookup_all, rename, read_right}
use Rattle.orthogonal_laws.proofs.Translation.{tests}
use Rattle.orthogonal_laws.proofs.Redexes.{keys-readings, instance-agrees, instance-fit}
use Rattle.orthogonal_laws.proofs.Recoding.{narrow-size, decode, decode_grow, decode-apply, decode-narrow, rename-same, recoded, recoded-fit, recoded-readings, recoded-restricted}

opens-same : {H : Type 0} {ps qs : Patterns H} → Alike ps qs → opens ps ≡ opens qs
opens-same alike_last = refl
opens-same (alike_open a) = ap suc (opens-same a)
opens-same (alike_test a b) = omega (arith, opens-same a, opens-same b)

module _ {H : Type 0} (same : H → H → Bool) (in_class : Classes H) where
  opens-tests : (ps : Forest (PatternCell H)) → opens (tests same in_class ps) ≡ count_plain ps
  opens-tests empty = refl
  opens-tests (grow (node (fixed g) rs) ps) = omega (arith, opens-tests rs, opens-tests ps)
  opens-tests (grow (node (variable x) rs) ps) = ap suc (opens-tests ps)
  opens-tests (grow (node (restricted x class) rs) ps) = omega (arith, opens-tests ps)

  opens-alike : (ps qs : Forest (PatternCell H)) → Alike (tests same in_class ps) (tests same in_class qs) → count_plain ps ≡ count_plain qs
  opens-alike ps qs a = sym (opens-tests ps) ∙ (opens-same a ∙ opens-tests qs)

  -- patterns that test the same positions have their plain variables at the same ones
  recoded-alike : (n : ℕ) (f : H) (ps qs : Forest (PatternCell H)) (ts : Forest H) (k : ℕ) → FitAll in_class ps ts → FitAll in_class qs ts → Alike (tests same in_class ps) (tests same in_class qs) → recoded n f ps ts k ≡ recoded n f qs ts k
  recoded-alike n f empty empty ts k x y a = refl
  recoded-alike n f empty (grow (node (fixed g) rs) qs) ts k x y a = elim a [ ]
  recoded-alike n f empty (grow (node (variable z) rs) qs) ts k x y a = elim a [ ]
  recoded-alike n f empty (grow (node (restricted z class) rs) qs) ts k x y a = elim a [ ]
  recoded-alike n f (grow (node (fixed g) rs) ps) empty ts k x y a = elim a [ ]
  recoded-alike n f (grow (node (variable z) rs) ps) empty ts k x y a = elim a [ ]
  recoded-alike n f (grow (node (restricted z class) rs) ps) empty ts k x y a = elim a [ ]
  recoded-alike n f (grow p ps) (grow r qs) empty k x y a = absurd x
  recoded-alike n f (grow (node (fixed g) rs) ps) (grow (node (fixed g') rs') qs) (grow (node h us) ts) k x y (alike_test a b) =
      rw (recoded-alike n f rs rs' us k x.0.1 y.0.1 a, opens-alike rs rs' a, recoded-alike n f ps qs ts (k + count_plain rs') x.1 y.1 b) refl
  recoded-alike n f (grow (node (fixed g) rs) ps) (grow (node (variable z) rs') qs) (grow t ts) k x y a = elim a [ ]
  recoded-alike n f (grow (node (fixed g) rs) ps) (grow (node (restricted z class) rs') qs) (grow (node h (grow u us)) ts) k x y a = absurd y.0
  recoded-alike n f (grow (node (fixed g) rs) ps) (grow (node (restricted z class) rs') qs) (grow (node h empty) ts) k x y (alike_test a b) =
      let e : k + count_plain rs ≡ k = omega (arith, opens-alike rs empty a) in
      rw (recoded-empty rs, e, recoded-alike n f ps qs ts k x.1 y.1 b) refl
    where
      recoded-empty : (rs : Forest (PatternCell H)) → recoded n f rs empty k ≡ empty
      recoded-empty empty = refl
      recoded-empty (grow (node (fixed g) us) rs) = refl
      recoded-empty (grow (node (variable z) us) rs) = refl
      recoded-empty (grow (node (restricted z class) us) rs) = refl
  recoded-alike n f (grow (node (variable z) rs) ps) (grow (node (fixed g) rs') qs) (grow t ts) k x y a = elim a [ ]
  recoded-alike n f (grow (node (variable z) rs) ps) (grow (node (variable z') rs') qs) (grow t ts) k x y (alike_open a) = rw (recoded-alike n f ps qs ts (suc k) x.1 y.1 a) refl
  recoded-alike n f (grow (node (variable z) rs) ps) (grow (node (restricted z' class) rs') qs) (grow t ts) k x y a = elim a [ ]
  recoded-alike n f (grow (node (restricted z class) rs) ps) (grow (node (fixed g) rs') qs) (grow (node h (grow u us)) ts) k x y a = absurd x.0
  recoded-alike n f (grow (node (restricted z class) rs) ps) (grow (node (fixed g) rs') qs) (grow (node h empty) ts) k x y (alike_test a b) =
      let e : k + count_plain rs' ≡ k = omega (arith, opens-alike empty rs' a) in
      rw (recoded-empty rs', e, recoded-alike n f ps qs ts k x.1 y.1 b) refl
    where
      recoded-empty : (rs : Forest (PatternCell H)) → recoded n f rs empty k ≡ empty
      recoded-empty empty = refl
      recoded-empty (grow (node (fixed g) us) rs) = refl
      recoded-empty (grow (node (variable z) us) rs) = refl
      recoded-empty (grow (node (restricted z class) us) rs) = refl
  recoded-alike n f (grow (node (restricted z class) rs) ps) (grow (node (variable z') rs') qs) (grow t ts) k x y a = elim a [ ]
  recoded-alike n f (grow (node (restricted z class) rs) ps) (grow (node (restricted z' class') rs') qs) (grow t ts) k x y (alike_test a b) = rw (recoded-alike n f ps qs ts k x.1 y.1 b) refl

  -- the tree that fits a pattern, with codes for its plain variables
  pub recoded_one : (n : ℕ) (f : H) (p : Tree (PatternCell H)) (t : Tree H) → (t' : Tree H) × (recoded n f (grow p empty) (grow t empty) 0 ≡ grow t' empty)
  recoded_one n f (node (fixed g) ps) (node h us) = (_, refl)
  recoded_one n f (node (variable x) ps) t = (_, refl)
  recoded_one n f (node (restricted x class) ps) t = (_, refl)

module _ {H : Type 0} (system : System H) (w : IsWellFormedSystem system) where
  -- the size of what a right side gives
  abbrev value_size : Option (Tree H) → ℕ
  value_size None = 0
  value_size (Some v) = size v

  abbrev right_size : RightSide H → Tree H → ℕ
  right_size (pattern p) t = size p
  right_size (operation op) t = value_size (system.value_of op t)

  -- where a left side fits t, and t' is t with codes
  module _ (n : ℕ) (rule : Rule H) (listed : Contains system.rules rule) (bound : IsBound (variables rule.left) rule.right) (f : H) (t t' : Tree H) (i : IsInstanceOf system.in_class rule.left t)
      (coded : recoded n f (grow rule.left empty) (grow t empty) 0 ≡ grow t' empty) where
    pattern-read : (p : Tree (PatternCell H)) → rule.right ≡ pattern p → size p ≤ n → (j : IsInstanceOf system.in_class rule.left t') → rename (lookup_pattern (readings (grow rule.left empty) (grow t empty) 0)) p ≡ decode n (apply j.substitution p)
    pattern-read p e le j =
        let c = system.in_class in
        let τ = j.substitution in
        let fit = instance-fit system w rule.left t i in
        let bs = readings (grow rule.left empty) (grow t empty) 0 in
        let a = instance-agrees system w rule.left t' j in
        let known = recoded-readings n c f τ (grow rule.left empty) (grow t empty) 0 fit (subst (λ z. Agrees c τ (all_bindings c (grow rule.left empty) z)) (sym coded) a) in
        let keys : map (λ b. b.0) bs ≡ all_variables (grow rule.left empty) = keys-readings c (grow rule.left empty) (grow t empty) 0 fit in
        let narrow = narrow-size (grow p empty) n (omega arith) in
        let over : IsBound (variables rule.left) (pattern p) = subst (λ z. IsBound (variables rule.left) z) e bound in
        let look = λ (x : ℕ) (m : In (all_variables (grow p empty)) x). lookup_all (λ x r. decode n (τ x) ≡ r) bs x known (subst (λ z. In z x) (sym keys) (subst (λ z. In z x) (sym (append-nil (variables rule.left))) (contains-in (all-in (λ x. Contains (variables rule.left) x) over (subst (λ z. In z x) (append-nil (variables p)) m))))) in
        only (sym (rename-same n (λ x. decode n (τ x)) (lookup_pattern bs) (grow p empty) look) ∙ (sym (decode-apply n τ (grow p empty) narrow) ∙ decode_grow n (apply τ p) empty))

    value-kept : (op : Op) → rule.right ≡ operation op → (j : IsInstanceOf system.in_class rule.left t') → system.value_of op t ≡ system.value_of op t'
    value-kept op e j =
        let c = system.in_class in
        let σ = i.substitution in
        let τ = j.substitution in
        let b = subst (λ z. Agrees c τ (all_bindings c (grow rule.left empty) z)) (sym coded) (instance-agrees system w rule.left t' j) in
        let agree = all_front (λ r. σ r.0 ≡ τ r.0) (restrictions rule.left) [] (recoded-restricted n c f σ τ (grow rule.left empty) (grow t empty) 0 (instance-fit system w rule.left t i) (instance-agrees system w rule.left t i) b) in
        ap (λ z. system.value_of op z) (sym i.applied) ∙ (w.values rule listed op e σ τ i.respects agree ∙ ap (λ z. system.value_of op z) j.applied)

    -- what the rule gives at t' tells what its right side reads as at t
    pub given-read : (right : RightSide H) → rule.right ≡ right → right_size right t ≤ n → (j : IsInstanceOf system.in_class rule.left t') (u : Tree H) → Gives system j.substitution right t' u → read_right system rule.left t right ≡ Some (decode n u)
    given-read (pattern p) e le j u g = ap (λ z. Some z) (pattern-read p e le j ∙ ap (decode n) g)
    given-read (operation op) e le j u g =
        let v : system.value_of op t ≡ Some u = value-kept op e j ∙ g in
        let small : size u ≤ n = subst (λ z. value_size z ≤ n) v le in
        let same = decode-narrow n (grow u empty) (narrow-size (grow u empty) n (omega arith)) in
        ap (λ z. option_map (map_heads (λ h. fixed h)) z) v ∙ ap (λ z. Some z) (only (sym same ∙ decode_grow n u empty))

    pub read-gives : (right : RightSide H) → rule.right ≡ right → (j : IsInstanceOf system.in_class rule.left t') (r : Tree (PatternCell H)) → read_right system rule.left t right ≡ Some r → (u : Tree H) × Gives system j.substitution right t' u
    read-gives (pattern p) e j r x = (apply j.substitution p, refl)
    read-gives (operation op) e j r x = some_value (system.value_of op t) refl x
      where
        some_value : (v : Option (Tree H)) → system.value_of op t ≡ v → option_map (map_heads (λ h. fixed h)) v ≡ Some r → (u : Tree H) × (system.value_of op t' ≡ Some u)
        some_value None y z = absurd (cc)
        some_value (Some u) y z = (u, sym (value-kept op e j) ∙ y)

module _ {H : Type 0} (system : System H) (w : IsWellFormedSystem system) (o : IsOrthogonal system) where
  -- wherever both left sides fit, the right sides read the same
  pub same_reading : (a b : Rule H) → Contains system.rules a → Contains system.rules b → Alike (tests w.same system.in_class (grow a.left empty)) (tests w.same system.in_class (grow b.left empty)) → SameRight system a b →
      (f : H) (t : Tree H) → IsInstanceOf system.in_class a.left t → IsInstanceOf system.in_class b.left t → read_right system a.left t a.right ≡ read_right system b.left t b.right
  same_reading a b la lb alike same f t i j =
      let c = system.in_class in
      let n = right_size system w a.right t + right_size system w b.right t in
      let fit_a = instance-fit system w a.left t i in
      let fit_b = instance-fit system w b.left t j in
      let one = recoded_one w.same c n f a.left t in
      let t' = one.0 in
      let turned = sym (recoded-alike w.same c n f (grow a.left empty) (grow b.left empty) (grow t empty) 0 fit_a fit_b alike) ∙ one.1 in
      let i' = instance_from_fits c a.left t' (o.linear a la) (subst (λ z. FitAll c (grow a.left empty) z) one.1 (recoded-fit n c f (grow a.left empty) (grow t empty) 0 fit_a)).0 in
      let j' = instance_from_fits c b.left t' (o.linear b lb) (subst (λ z. FitAll c (grow b.left empty) z) turned (recoded-fit n c f (grow b.left empty) (grow t empty) 0 fit_b)).0 in
      let of_a = λ (u : Tree H) (x : IsInstance system a t' u). given-read system w n a la (o.bound a la) f t t' i one.1 a.right refl (omega arith) x.left u x.right in
      let of_b = λ (u : Tree H) (x : IsInstance system b t' u). given-read system w n b lb (o.bound b lb) f t t' j turned b.right refl (omega arith) x.left u x.right in
      by_cases (read_right system a.left t a.right) (read_right system b.left t b.right)
      (λ r e. let g = read-gives system w n a la (o.bound a la) f t t' i one.1 a.right refl i' r e in let x : IsInstance system a t' g.0 = record { left = i'; right = g.1 } in same_as (Some (decode n g.0)) (of_a g.0 x) (of_b g.0 ((same t' i' j' g.0).0 x)))
      (λ r e. let g = read-gives system w n b lb (o.bound b lb) f t t' j turned b.right refl j' r e in let x : IsInstance system b t' g.0 = record { left = j'; right = g.1 } in same_as (Some (decode n g.0)) (of_a g.0 ((same t' i' j' g.0).1 x)) (of_b g.0 x))
    where
      same_as : {A : Type 0} {x y : A} (z : A) → x ≡ z → y ≡ z → x ≡ y
      same_as z e e' = e ∙ sym e'

      by_cases : {A : Type 0} (x y : Option A) → ((r : A) → x ≡ Some r → x ≡ y) → ((r : A) → y ≡ Some r → x ≡ y) → x ≡ y
      by_cases None None f g = refl
      by_cases (Some r) y f g = f r refl
      by_cases None (Some r) f g = g r refl
