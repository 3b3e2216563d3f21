-- Root steps of a system are fits of its translated rules.
use Rattle.std.proofs.Common.{◌≡◌, ℕ, suc, ◌+◌, List, [], ◌∷◌, ◌++◌, map, Option, Some, None, refl, sym, ◌∙◌, ap, subst, arith}
use Rattle.std.specs.Prelude.{IsTrue, Contains, nat_eq, option_map}
use Rattle.std.specs.List.{IsDistinct}
use Rattle.std.proofs.lemmas.List.{map-append, append-nil}
use Rattle.eq_base.specs.Tree.{Tree, Forest, node, empty, grow, head_of, arity_of, count, map_heads, map_all_heads}
use Rattle.eq_base.specs.Pattern.{PatternCell, fixed, variable, restricted, IsTested, variables, all_variables, restrictions, Classes, Substitution, apply, apply_all, IsInstanceOf}
use Rattle.orthogonal_laws.specs.Orthogonal.{IsHead, IsBound, IsWellFormedSystem, IsOrthogonal}
use Rattle.eq_base.specs.Rewriting.{RightSide, pattern, operation, Rule, System, Gives, IsInstance, RootStep}
use Rattle.orthogonal_laws.proofs.Readings.{only, lookup_all, count_plain, readings, lookup_pattern, rename, rename_all, read_right}
use Rattle.eq_base.specs.declared.rules.Op.{Op}
use Rattle.eq_base.proofs.Instances.{FitAll, bindings, all_bindings, Agrees, fits_from_instance, instance_from_fits, apply-bindings, keys-bindings, lookup, agrees-lookup}
use Rattle.eq_base.proofs.Lists.{all_front}
use Rattle.orthogonal_laws.proofs.Members.{In, in_first, in_next, in_left, in_right, contains-in, in-contains, in-map, map-in, get-in, in-get, all-in}
use Rattle.orthogonal_laws.proofs.LeftSides.{Patterns, Last, Test, Compiled, Meets, skeleton, open_parts, nth, fill, Fits, Redex}
use Rattle.orthogonal_laws.proofs.Translation.{test_of, tests, args_tests, fit-meets, meets-fit, skeleton-fit, restricted-agree, numbers-nth, readings-agree}

module _ {H : Type 0} where
  pub apply_all-rename : (ρ : Substitution H) (θ : ℕ → Tree (PatternCell H)) (ps : Forest (PatternCell H)) → apply_all ρ (rename_all θ ps) ≡ apply_all (λ x. apply ρ (θ x)) ps
  apply_all-rename ρ θ empty = refl
  apply_all-rename ρ θ (grow (node (fixed g) qs) ps) = rw (apply_all-rename ρ θ qs, apply_all-rename ρ θ ps) refl
  apply_all-rename ρ θ (grow (node (variable x) qs) ps) = ap (λ z. grow (apply ρ (θ x)) z) (apply_all-rename ρ θ ps)
  apply_all-rename ρ θ (grow (node (restricted x class) qs) ps) = ap (λ z. grow (apply ρ (θ x)) z) (apply_all-rename ρ θ ps)

  pub apply_all-same : (σ τ : Substitution H) (ps : Forest (PatternCell H)) → ((x : ℕ) → In (all_variables ps) x → σ x ≡ τ x) → apply_all σ ps ≡ apply_all τ ps
  apply_all-same σ τ empty e = refl
  apply_all-same σ τ (grow (node (fixed g) qs) ps) e =
      rw (apply_all-same σ τ qs (λ x i. e x (in_left i (all_variables ps))), apply_all-same σ τ ps (λ x i. e x (in_right (all_variables qs) i))) refl
  apply_all-same σ τ (grow (node (variable x) qs) ps) e = rw (e x in_first, apply_all-same σ τ ps (λ y i. e y (in_next i))) refl
  apply_all-same σ τ (grow (node (restricted x class) qs) ps) e = rw (e x in_first, apply_all-same σ τ ps (λ y i. e y (in_next i))) refl

  pub apply_all-map : (ρ : Substitution H) (ts : Forest H) → apply_all ρ (map_all_heads (λ h. fixed h) ts) ≡ ts
  apply_all-map ρ empty = refl
  apply_all-map ρ (grow (node h us) ts) = rw (apply_all-map ρ us, apply_all-map ρ ts) refl

module _ {H : Type 0} (in_class : Classes H) where
  agrees_both : (σ : Substitution H) (xs ys : List (ℕ × Tree H)) → Agrees in_class σ xs → Agrees in_class σ ys → Agrees in_class σ (xs ++ ys)
  agrees_both σ [] ys h k = k
  agrees_both σ (x ∷ xs) ys h k = (h.0, agrees_both σ xs ys h.1 k)

  apply-agrees : (σ : Substitution H) (ps : Forest (PatternCell H)) → Agrees in_class σ (all_bindings in_class ps (apply_all σ ps))
  apply-agrees σ empty = tt
  apply-agrees σ (grow (node (fixed g) qs) ps) = agrees_both σ (all_bindings in_class qs (apply_all σ qs)) (all_bindings in_class ps (apply_all σ ps)) (apply-agrees σ qs) (apply-agrees σ ps)
  apply-agrees σ (grow (node (variable x) qs) ps) = (refl, apply-agrees σ ps)
  apply-agrees σ (grow (node (restricted x class) qs) ps) = (refl, apply-agrees σ ps)

  pub keys-readings : (ps : Forest (PatternCell H)) (ts : Forest H) (n : ℕ) → FitAll in_class ps ts → map (λ b. b.0) (readings ps ts n) ≡ all_variables ps
  keys-readings empty empty n f = refl
  keys-readings empty (grow t ts) n f = absurd f
  keys-readings (grow p ps) empty n f = absurd f
  keys-readings (grow (node (fixed g) qs) ps) (grow (node h us) ts) n f =
      map-append (λ b. b.0) (readings qs us n) (readings ps ts (n + count_plain qs)) ∙ rw (keys-readings qs us n f.0.1, keys-readings ps ts (n + count_plain qs) f.1) refl
  keys-readings (grow (node (variable x) qs) ps) (grow t ts) n f = ap (λ z. x ∷ z) (keys-readings ps ts (suc n) f.1)
  keys-readings (grow (node (restricted x class) qs) ps) (grow (node h us) ts) n f = ap (λ z. x ∷ z) (keys-readings ps ts n f.1)

module _ {H : Type 0} (system : System H) (w : IsWellFormedSystem system) where
  -- a rule with its left side as tests
  abbrev pub compile : Rule H → Compiled H
  compile rule = record {
    root = λ h. test_of w.same system.in_class (head_of rule.left) (arity_of rule.left) h;
    args = args_tests w.same system.in_class rule.left;
    right = λ s. read_right system rule.left s rule.right;
  }

  abbrev pub compiled : List (Compiled H)
  compiled = map compile system.rules

  abbrev pub left_tests : Tree (PatternCell H) → Patterns H
  left_tests p = tests w.same system.in_class (grow p empty)

  pub root_tested : (rule : Rule H) → Contains system.rules rule → IsTested (head_of rule.left)
  root_tested rule listed = go rule.left (w.roots rule listed)
    where
      go : (l : Tree (PatternCell H)) → IsHead (head_of l) → IsTested (head_of l)
      go (node (fixed g) us) h = tt
      go (node (variable x) us) h = h
      go (node (restricted x class) us) h = tt

  pub whole : (p : Tree (PatternCell H)) → IsTested (head_of p) → left_tests p ≡ Test (λ h. test_of w.same system.in_class (head_of p) (arity_of p) h) (args_tests w.same system.in_class p) Last
  whole (node (fixed g) ps) t = refl
  whole (node (variable x) ps) t = absurd t
  whole (node (restricted x class) ps) t = refl

  -- the value of a right side that was read
  read-value : (f : H) (σ : Substitution H) (left : Tree (PatternCell H)) (t : Tree H) (p : Tree (PatternCell H)) → FitAll system.in_class (grow left empty) (grow t empty) → Agrees system.in_class σ (all_bindings system.in_class (grow left empty) (grow t empty)) → IsBound (variables left) (pattern p) →
      fill f (rename (lookup_pattern (readings (grow left empty) (skeleton f (left_tests left) (grow t empty)) 0)) p) (open_parts (left_tests left) (grow t empty) empty) ≡ apply σ p
  read-value f σ left t p fit agrees bound =
      let ts = grow t empty in
      let sk = skeleton f (left_tests left) ts in
      let es = open_parts (left_tests left) ts empty in
      let ρ : Substitution H = λ i. nth f i es in
      let bs = readings (grow left empty) sk 0 in
      let a = readings-agree w.same system.in_class f σ ρ (grow left empty) ts 0 empty fit agrees (numbers-nth w.same system.in_class f ρ 0 es (λ i. ap (λ k. nth f k es) (omega arith))) in
      let keys : map (λ b. b.0) bs ≡ all_variables (grow left empty) = keys-readings system.in_class (grow left empty) sk 0 (skeleton-fit w.same system.in_class f (grow left empty) ts fit) in
      let known = λ (x : ℕ) (i : In (all_variables (grow p empty)) x). lookup_all (λ x r. apply ρ r ≡ σ x) bs x a.0 (subst (λ z. In z x) (sym keys) (subst (λ z. In z x) (sym (append-nil (variables left))) (contains-in (all-in (λ x. Contains (variables left) x) bound (subst (λ z. In z x) (append-nil (variables p)) i))))) in
      only (apply_all-rename ρ (lookup_pattern bs) (grow p empty) ∙ apply_all-same (λ x. apply ρ (lookup_pattern bs x)) σ (grow p empty) known)

  agrees_nil : (σ : Substitution H) (p : Tree (PatternCell H)) (t : Tree H) → Agrees system.in_class σ (bindings system.in_class p t) → Agrees system.in_class σ (all_bindings system.in_class (grow p empty) (grow t empty))
  agrees_nil σ p t a = subst (λ z. Agrees system.in_class σ z) (sym (append-nil (bindings system.in_class p t))) a

  -- an instance agrees with what stands at the variables
  pub instance-agrees : (p : Tree (PatternCell H)) (t : Tree H) (i : IsInstanceOf system.in_class p t) → Agrees system.in_class i.substitution (all_bindings system.in_class (grow p empty) (grow t empty))
  instance-agrees p t i = subst (λ z. Agrees system.in_class i.substitution (all_bindings system.in_class (grow p empty) (grow z empty))) i.applied (apply-agrees system.in_class i.substitution (grow p empty))

  pub instance-fit : (p : Tree (PatternCell H)) (t : Tree H) → IsInstanceOf system.in_class p t → FitAll system.in_class (grow p empty) (grow t empty)
  instance-fit p t i = (fits_from_instance system.in_class p t i, tt)

module _ {H : Type 0} (system : System H) (w : IsWellFormedSystem system) (o : IsOrthogonal system) where
  -- the value of an operation is that of the tree with bare heads for the plain variables
  pub bare-value : (rule : Rule H) → Contains system.rules rule → (op : Op) → rule.right ≡ operation op → (f : H) (t s : Tree H) → IsInstanceOf system.in_class rule.left t → skeleton f (left_tests system w rule.left) (grow t empty) ≡ grow s empty → system.value_of op t ≡ system.value_of op s
  bare-value rule listed op e f t s i same =
      let c = system.in_class in
      let σ = i.substitution in
      let fit = instance-fit system w rule.left t i in
      let fit' : FitAll c (grow rule.left empty) (grow s empty) = subst (λ z. FitAll c (grow rule.left empty) z) same (skeleton-fit w.same c f (grow rule.left empty) (grow t empty) fit) in
      let bs = bindings c rule.left s in
      let τ : Substitution H = lookup c bs s in
      let a : Agrees c τ bs = agrees-lookup c bs s (subst (λ z. IsDistinct nat_eq z) (sym (keys-bindings c rule.left s fit'.0)) (o.linear rule listed)) in
      let applied : apply τ rule.left ≡ s = apply-bindings c τ rule.left s fit'.0 a in
      let b = subst (λ z. Agrees c τ (all_bindings c (grow rule.left empty) z)) (sym same) (agrees_nil system w τ rule.left s a) in
      let agree = all_front (λ r. σ r.0 ≡ τ r.0) (restrictions rule.left) [] (restricted-agree w.same c f σ τ (grow rule.left empty) (grow t empty) fit (instance-agrees system w rule.left t i) b) in
      ap (λ z. system.value_of op z) (sym i.applied) ∙ w.values rule listed op e σ τ i.respects agree ∙ ap (λ z. system.value_of op z) applied

  -- where a left side fits h us: its tests are met, and the bare tree is over the bare arguments
  pub met : (p : Tree (PatternCell H)) → IsTested (head_of p) → (h : H) (us : Forest H) → Meets (left_tests system w p) (grow (node h us) empty) → IsTrue (test_of w.same system.in_class (head_of p) (arity_of p) (h, count us)) × Meets (args_tests w.same system.in_class p) us
  met p tested h us m = let z = subst (λ q. Meets q (grow (node h us) empty)) (whole system w p tested) m in (z.0, z.1)

  pub met-whole : (p : Tree (PatternCell H)) → IsTested (head_of p) → (h : H) (us : Forest H) → IsTrue (test_of w.same system.in_class (head_of p) (arity_of p) (h, count us)) → Meets (args_tests w.same system.in_class p) us → Meets (left_tests system w p) (grow (node h us) empty)
  met-whole p tested h us e m = subst (λ q. Meets q (grow (node h us) empty)) (sym (whole system w p tested)) (e, m, tt)

  pub bare-whole : (p : Tree (PatternCell H)) → IsTested (head_of p) → (f h : H) (us : Forest H) → skeleton f (left_tests system w p) (grow (node h us) empty) ≡ grow (node h (skeleton f (args_tests w.same system.in_class p) us)) empty
  bare-whole p tested f h us = ap (λ q. skeleton f q (grow (node h us) empty)) (whole system w p tested)

  pub parts-whole : (p : Tree (PatternCell H)) → IsTested (head_of p) → (h : H) (us : Forest H) → open_parts (left_tests system w p) (grow (node h us) empty) empty ≡ open_parts (args_tests w.same system.in_class p) us empty
  parts-whole p tested h us = ap (λ q. open_parts q (grow (node h us) empty) empty) (whole system w p tested)

  -- a fit of the tests is an instance of the left side
  pub tests-instance : (rule : Rule H) → Contains system.rules rule → (h : H) (us : Forest H) → IsTrue (test_of w.same system.in_class (head_of rule.left) (arity_of rule.left) (h, count us)) → Meets (args_tests w.same system.in_class rule.left) us → IsInstanceOf system.in_class rule.left (node h us)
  tests-instance rule listed h us e m =
      instance_from_fits system.in_class rule.left (node h us) (o.linear rule listed)
      (meets-fit w.same system.in_class w.decides (grow rule.left empty) (grow (node h us) empty) (met-whole rule.left (root_tested system w rule listed) h us e m)).0

  pub instance-tests : (rule : Rule H) → Contains system.rules rule → (h : H) (us : Forest H) → IsInstanceOf system.in_class rule.left (node h us) → IsTrue (test_of w.same system.in_class (head_of rule.left) (arity_of rule.left) (h, count us)) × Meets (args_tests w.same system.in_class rule.left) us
  instance-tests rule listed h us i =
      met rule.left (root_tested system w rule listed) h us (fit-meets w.same system.in_class w.decides (grow rule.left empty) (grow (node h us) empty) (instance-fit system w rule.left (node h us) i))

  -- the value of the right side that was read, filled with the parts
  pattern-value : (rule : Rule H) → Contains system.rules rule → (p : Tree (PatternCell H)) → rule.right ≡ pattern p → (h : H) (us : Forest H) (i : IsInstanceOf system.in_class rule.left (node h us)) → (r : Tree (PatternCell H)) →
      read_right system rule.left (node h (skeleton h (args_tests w.same system.in_class rule.left) us)) (pattern p) ≡ Some r → fill h r (open_parts (args_tests w.same system.in_class rule.left) us empty) ≡ apply i.substitution p
  pattern-value rule listed p e h us i r read =
      let tested = root_tested system w rule listed in
      let v = read-value system w h i.substitution rule.left (node h us) p (instance-fit system w rule.left (node h us) i) (instance-agrees system w rule.left (node h us) i) (subst (λ z. IsBound (variables rule.left) z) e (o.bound rule listed)) in
      let is : rename (lookup_pattern (readings (grow rule.left empty) (grow (node h (skeleton h (args_tests w.same system.in_class rule.left) us)) empty) 0)) p ≡ r = cc in
      ap (λ es. fill h r es) (sym (parts-whole rule.left tested h us))
      ∙ (ap (λ x. fill h x (open_parts (left_tests system w rule.left) (grow (node h us) empty) empty)) (sym is ∙ ap (λ ts. rename (lookup_pattern (readings (grow rule.left empty) ts 0)) p) (sym (bare-whole rule.left tested h h us)))
      ∙ v)

  pub some_of : {A B : Type 0} (f : A → B) (x : Option A) (r : B) → option_map f x ≡ Some r → (a : A) × (x ≡ Some a) × (f a ≡ r)
  some_of f None r e = absurd (cc)
  some_of f (Some a) r e = (a, refl, cc)

  pub filled-value : (f : H) (v : Tree H) (es : Forest H) → fill f (map_heads (λ h. fixed h) v) es ≡ v
  filled-value f v es = only (apply_all-map (λ i. nth f i es) (grow v empty))

  -- what a fit gives, the rule gives
  fits-gives : (rule : Rule H) → Contains system.rules rule → (right : RightSide H) → rule.right ≡ right → (h : H) (us : Forest H) (i : IsInstanceOf system.in_class rule.left (node h us)) (r : Tree (PatternCell H)) →
      read_right system rule.left (node h (skeleton h (args_tests w.same system.in_class rule.left) us)) right ≡ Some r → Gives system i.substitution right (node h us) (fill h r (open_parts (args_tests w.same system.in_class rule.left) us empty))
  fits-gives rule listed (pattern p) e h us i r read = sym (pattern-value rule listed p e h us i r read)
  fits-gives rule listed (operation op) e h us i r read =
      let x = some_of (map_heads (λ h. fixed h)) _ r read in
      bare-value rule listed op e h (node h us) _ i (bare-whole rule.left (root_tested system w rule listed) h h us)
      ∙ (x.1 ∙ ap (λ z. Some z) (sym (filled-value h x.0 (open_parts (args_tests w.same system.in_class rule.left) us empty)) ∙ ap (λ z. fill h z (open_parts (args_tests w.same system.in_class rule.left) us empty)) x.2))

  pub fits-instance : (rule : Rule H) → Contains system.rules rule → (h : H) (us es : Forest H) (r : Tree (PatternCell H)) → Fits (compile system w rule) h us r es → IsInstance system rule (node h us) (fill h r es)
  fits-instance rule listed h us es r f =
      let i = tests-instance rule listed h us f.root f.args in
      record { left = i; right = subst (λ z. Gives system i.substitution rule.right (node h us) (fill h r z)) (sym f.parts) (fits-gives rule listed rule.right refl h us i r f.right) }

  -- what the rule gives, a fit gives
  pub record FitsTo (rule : Rule H) (h : H) (us : Forest H) (v : Tree H) : Type 0 where
    pub right : Tree (PatternCell H)
    pub parts : Forest H
    pub fits : Fits (compile system w rule) h us right parts
    pub value : v ≡ fill h right parts

  gives-fits : (rule : Rule H) → Contains system.rules rule → (right : RightSide H) → rule.right ≡ right → (h : H) (us : Forest H) (i : IsInstanceOf system.in_class rule.left (node h us)) (v : Tree H) → Gives system i.substitution right (node h us) v →
      (r : Tree (PatternCell H)) × (read_right system rule.left (node h (skeleton h (args_tests w.same system.in_class rule.left) us)) right ≡ Some r) × (v ≡ fill h r (open_parts (args_tests w.same system.in_class rule.left) us empty))
  gives-fits rule listed (pattern p) e h us i v g = (_, refl, sym g ∙ sym (pattern-value rule listed p e h us i _ refl))
  gives-fits rule listed (operation op) e h us i v g =
      let b = bare-value rule listed op e h (node h us) (node h (skeleton h (args_tests w.same system.in_class rule.left) us)) i (bare-whole rule.left (root_tested system w rule listed) h h us) in
      (map_heads (λ h. fixed h) v, ap (λ z. option_map (map_heads (λ h. fixed h)) z) (sym b ∙ g), sym (filled-value h v (open_parts (args_tests w.same system.in_class rule.left) us empty)))

  pub instance-fits : (rule : Rule H) → Contains system.rules rule → (h : H) (us : Forest H) (v : Tree H) → IsInstance system rule (node h us) v → FitsTo rule h us v
  instance-fits rule listed h us v i =
      let m = instance-tests rule listed h us i.left in
      let g = gives-fits rule listed rule.right refl h us i.left v i.right in
      record { right = g.0; parts = _; fits = record { root = m.0; args = m.1; right = g.1; parts = refl }; value = g.2 }

  -- root steps are redexes of the translated rules
  pub redex-step : (h : H) (us es : Forest H) (r : Tree (PatternCell H)) → Redex (compiled system w) h us r es → RootStep system (node h us) (fill h r es)
  redex-step h us es r x =
      let m = map-in (compile system w) system.rules x.rule (contains-in x.among) in
      let k = in-get m.1 in
      (k.0, record { rule = m.0; listed = k.1; is_instance = fits-instance m.0 (in-contains m.1) h us es r (subst (λ z. Fits z h us r es) (sym m.2) x.fits) })

  pub record RedexTo (h : H) (us : Forest H) (v : Tree H) : Type 0 where
    pub right : Tree (PatternCell H)
    pub parts : Forest H
    pub redex : Redex (compiled system w) h us right parts
    pub value : v ≡ fill h right parts

  pub step-redex : (h : H) (us : Forest H) (v : Tree H) → RootStep system (node h us) v → RedexTo h us v
  step-redex h us v s =
      let i = get-in system.rules s.0 s.1.rule s.1.listed in
      let f = instance-fits s.1.rule (in-contains i) h us v s.1.is_instance in
      record { right = f.right; parts = f.parts; redex = record { rule = compile system w s.1.rule; among = in-contains (in-map (compile system w) i); fits = f.fits }; value = f.value }
