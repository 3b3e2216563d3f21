-- Each set of redexes has its development.
use Rattle.std.proofs.Common.{◌≡◌, ℕ, zero, suc, ◌+◌, ◌≤◌, List, [], ◌∷◌, ◌++◌, Bool, true, false, cond, Option, Some, None, refl, sym, ◌∙◌, ap, subst, arith}
use Rattle.std.specs.Prelude.{Contains, nat_eq}
use Rattle.std.specs.List.{AllByRecursion, IsDistinct}
use Rattle.std.proofs.lemmas.Bool.{eqb-true, eq-eqb}
use Rattle.eq_base.specs.Tree.{Tree, Forest, node, empty, grow, head_of, size, total_size, Position, subtree_at, subtree_in}
use Rattle.eq_base.specs.Pattern.{PatternCell, fixed, variable, restricted, IsTested, variables, all_variables, all_restrictions, Classes, Substitution, apply, apply_all, IsConstantOf, Respects, IsInstanceOf}
use Rattle.eq_base.specs.Testing.{IsTestedAt}
use Rattle.eq_base.specs.Rewriting.{RightSide, pattern, operation, Rule, System, Gives, IsRedex}
use Rattle.eq_base.proofs.Lists.{all_front, all_back}
use Rattle.orthogonal_laws.specs.Orthogonal.{IsHead, IsWellFormedSystem, IsOrthogonal}
use Rattle.orthogonal_laws.specs.Strategy.{HasNoDemandedRedex, none_demanded}
use Rattle.orthogonal_laws.specs.Development.{Development, unmarked, marked, Developments, none, more, right_weight, variable_at, variable_in, marks, marks_in, AreRedexes, DevelopsBy}
use Rattle.orthogonal_laws.proofs.Members.{In, in_first, in_next, in_left, in_right, in-contains, get-in}
use Rattle.orthogonal_laws.proofs.NextLaws.{part_without_demand}

-- two parts of a list without repetition have nothing in common
distinct_common : (xs ys : List ℕ) (x : ℕ) → IsDistinct nat_eq (xs ++ ys) → In xs x → In ys x → ⊥
unfolding IsDistinct
distinct_common [] ys x d i j = elim i [ ]
distinct_common (y ∷ xs) ys _ d in_first j = let z = differs (xs ++ ys) d.0 (in_right xs j) in let e = eq-eqb y y refl in cc
  where
    differs : (zs : List ℕ) {x : ℕ} → AllByRecursion (λ z. nat_eq y z ≡ false) zs → In zs x → nat_eq y x ≡ false
    differs (z ∷ zs) a in_first = a.0
    differs (z ∷ zs) a (in_next i) = differs zs a.1 i
    differs [] a i = elim i [ ]
distinct_common (y ∷ xs) ys x d (in_next i) j = distinct_common xs ys x d.1 i j

distinct_later : (xs ys : List ℕ) → IsDistinct nat_eq (xs ++ ys) → IsDistinct nat_eq ys
unfolding IsDistinct
distinct_later [] ys d = d
distinct_later (x ∷ xs) ys d = distinct_later xs ys d.1

distinct_sooner : (xs ys : List ℕ) → IsDistinct nat_eq (xs ++ ys) → IsDistinct nat_eq xs
unfolding IsDistinct
distinct_sooner [] ys d = tt
distinct_sooner (x ∷ xs) ys d = (all_front (λ y. nat_eq x y ≡ false) xs ys d.0, distinct_sooner xs ys d.1)

some_same : {v w : ℕ × Position} → Some v ≡ Some w → v ≡ w
some_same e = cc

-- a position behind one more tree, or below the first one
abbrev behind : Option (ℕ × Position) → Option (ℕ × Position)
behind None = None
behind (Some v) = Some (suc v.0, v.1)

abbrev below_or : Option (ℕ × Position) → Option (ℕ × Position) → Option (ℕ × Position)
below_or None other = behind other
below_or (Some v) other = Some (0, v.0 ∷ v.1)

module _ {H : Type 0} where
  -- where the plain variable first stands in the patterns
  abbrev find : Forest (PatternCell H) → ℕ → Option (ℕ × Position)
  find empty x = None
  find (grow (node (fixed h) us) ps) x = below_or (find us x) (find ps x)
  find (grow (node (variable y) us) ps) x = cond (nat_eq y x) (Some (0, [])) (behind (find ps x))
  find (grow (node (restricted y class) us) ps) x = behind (find ps x)

  -- the substitution's tree stands where the variable does, and is no larger than the value
  record Found (σ : Substitution H) (ps : Forest (PatternCell H)) (x : ℕ) (v : ℕ × Position) : Type 0 where
    occurs : In (all_variables ps) x
    stands : (q : Position) → subtree_in (apply_all σ ps) v.0 (v.1 ++ q) ≡ subtree_at (σ x) q
    smaller : size (σ x) ≤ total_size (apply_all σ ps)

  found : (σ : Substitution H) (ps : Forest (PatternCell H)) (x : ℕ) (v : ℕ × Position) → find ps x ≡ Some v → Found σ ps x v
  found σ empty x v e = absurd (cc)
  found σ (grow (node (fixed h) us) ps) x v e = go (λ w e. found σ us x w e) (λ w e. found σ ps x w e) (find us x) refl (find ps x) refl e
    where
      go : ((w : ℕ × Position) → find us x ≡ Some w → Found σ us x w) → ((w : ℕ × Position) → find ps x ≡ Some w → Found σ ps x w) → (a : Option (ℕ × Position)) → find us x ≡ a → (b : Option (ℕ × Position)) → find ps x ≡ b → below_or a b ≡ Some v → Found σ (grow (node (fixed h) us) ps) x v
      go below after None a None b e = absurd (cc)
      go below after None a (Some w) b e =
          let f = after w b in
          let same : (suc w.0, w.1) ≡ v = cc in
          subst (λ z. Found σ (grow (node (fixed h) us) ps) x z) same (record { occurs = in_right (all_variables us) f.occurs; stands = f.stands; smaller = let z = f.smaller in omega (arith, z) })
      go below after (Some w) a b z e =
          let f = below w a in
          let same : (0, w.0 ∷ w.1) ≡ v = cc in
          subst (λ z. Found σ (grow (node (fixed h) us) ps) x z) same (record { occurs = in_left f.occurs (all_variables ps); stands = f.stands; smaller = let z = f.smaller in omega (arith, z) })
  found σ (grow (node (variable y) us) ps) x v e = go (λ w e. found σ ps x w e) (nat_eq y x) refl (find ps x) refl e
    where
      go : ((w : ℕ × Position) → find ps x ≡ Some w → Found σ ps x w) → (b : Bool) → nat_eq y x ≡ b → (a : Option (ℕ × Position)) → find ps x ≡ a → cond b (Some (0, [])) (behind a) ≡ Some v → Found σ (grow (node (variable y) us) ps) x v
      go after true t a z e =
          let here : y ≡ x = eqb-true y x t in
          let same : (0, []) ≡ v = cc in
          subst (λ z. Found σ (grow (node (variable y) us) ps) x z) same
          (subst (λ k. Found σ (grow (node (variable y) us) ps) k (0, [])) here (record { occurs = in_first; stands = λ q. refl; smaller = omega arith }))
      go after false t None z e = absurd (cc)
      go after false t (Some w) z e =
          let f = after w z in
          let same : (suc w.0, w.1) ≡ v = cc in
          subst (λ z. Found σ (grow (node (variable y) us) ps) x z) same (record { occurs = in_next f.occurs; stands = f.stands; smaller = let z = f.smaller in omega (arith, z) })
  found σ (grow (node (restricted y class) us) ps) x v e = go (λ w e. found σ ps x w e) (find ps x) refl e
    where
      go : ((w : ℕ × Position) → find ps x ≡ Some w → Found σ ps x w) → (a : Option (ℕ × Position)) → find ps x ≡ a → behind a ≡ Some v → Found σ (grow (node (restricted y class) us) ps) x v
      go after None z e = absurd (cc)
      go after (Some w) z e =
          let f = after w z in
          let same : (suc w.0, w.1) ≡ v = cc in
          subst (λ z. Found σ (grow (node (restricted y class) us) ps) x z) same (record { occurs = in_next f.occurs; stands = f.stands; smaller = let z = f.smaller in omega (arith, z) })

  find_none : (σ : Substitution H) (ps : Forest (PatternCell H)) (x : ℕ) → (In (all_variables ps) x → ⊥) → find ps x ≡ None
  find_none σ ps x n = go (find ps x) refl
    where
      go : (a : Option (ℕ × Position)) → find ps x ≡ a → a ≡ None
      go None e = refl
      go (Some v) e = absurd (n (found σ ps x v e).occurs)

  -- a position at a variable or below it is found from the variable
  record At (ps : Forest (PatternCell H)) (i : ℕ) (q : Position) (x : ℕ) (r : Position) : Type 0 where
    at : ℕ × Position
    is : find ps x ≡ Some at
    number : at.0 ≡ i
    rest : at.1 ++ r ≡ q

  found_at : (σ : Substitution H) (ps : Forest (PatternCell H)) → IsDistinct nat_eq (all_variables ps) → (i : ℕ) (q : Position) (x : ℕ) (r : Position) → variable_in ps i q ≡ Some (x, r) → At ps i q x r
  found_at σ empty d i q x r e = absurd (cc)
  found_at σ (grow (node (fixed h) us) ps) d zero [] x r e = absurd (cc)
  found_at σ (grow (node (fixed h) us) ps) d zero (j ∷ q) x r e =
      let f = found_at σ us (distinct_sooner (all_variables us) (all_variables ps) d) j q x r e in
      record { at = (0, f.at.0 ∷ f.at.1); is = ap (λ z. below_or z (find ps x)) f.is; number = refl; rest = rw (f.number, f.rest) refl }
  found_at σ (grow (node (fixed h) us) ps) d (suc i) q x r e =
      let f = found_at σ ps (distinct_later (all_variables us) (all_variables ps) d) i q x r e in
      let none_before = find_none σ us x (λ m. distinct_common (all_variables us) (all_variables ps) x d m (found σ ps x f.at f.is).occurs) in
      record { at = (suc f.at.0, f.at.1); is = ap (λ z. below_or z (find ps x)) none_before ∙ ap behind f.is; number = ap suc f.number; rest = f.rest }
  found_at σ (grow (node (variable y) us) ps) d zero q x r e =
      let both = some_same e in
      let same : y ≡ x = ap (λ v. v.0) both in
      let rest : q ≡ r = ap (λ v. v.1) both in
      record { at = (0, []); is = ap (λ b. cond b (Some (0, [])) (behind (find ps x))) (eq-eqb y x same); number = refl; rest = sym rest }
  found_at σ (grow (node (variable y) us) ps) d (suc i) q x r e =
      let f = found_at σ ps (distinct_later (y ∷ []) (all_variables ps) d) i q x r e in
      record { at = (suc f.at.0, f.at.1); is = ap (λ b. cond b (Some (0, [])) (behind (find ps x))) (apart (nat_eq y x) refl (found σ ps x f.at f.is).occurs) ∙ ap behind f.is; number = ap suc f.number; rest = f.rest }
    where
      apart : (b : Bool) → nat_eq y x ≡ b → In (all_variables ps) x → b ≡ false
      apart true t m = absurd (distinct_common (y ∷ []) (all_variables ps) y d in_first (subst (λ k. In (all_variables ps) k) (sym (eqb-true y x t)) m))
      apart false t m = refl
  found_at σ (grow (node (restricted y class) us) ps) d zero q x r e = absurd (cc)
  found_at σ (grow (node (restricted y class) us) ps) d (suc i) q x r e =
      let f = found_at σ ps (distinct_later (y ∷ []) (all_variables ps) d) i q x r e in
      record { at = (suc f.at.0, f.at.1); is = ap behind f.is; number = ap suc f.number; rest = f.rest }

  -- a position of the value that is at no variable is tested, and an instance of the part stands there
  record Part (in_class : Classes H) (ps : Forest (PatternCell H)) (i : ℕ) (q : Position) (s : Tree H) : Type 0 where
    part : Tree (PatternCell H)
    stands : subtree_in ps i q ≡ Some part
    tested : IsTested (head_of part)
    fits : IsInstanceOf in_class part s

  part_at : (in_class : Classes H) (σ : Substitution H) (ps : Forest (PatternCell H)) → AllByRecursion (λ r. IsConstantOf in_class r.1 (σ r.0)) (all_restrictions ps) → (i : ℕ) (q : Position) (s : Tree H) → variable_in ps i q ≡ None → subtree_in (apply_all σ ps) i q ≡ Some s → Part in_class ps i q s
  part_at c σ empty a i q s e there = absurd (cc)
  part_at c σ (grow (node (fixed h) us) ps) a zero [] s e there =
      record { part = node (fixed h) us; stands = refl; tested = tt; fits = record { substitution = σ; respects = all_front (λ r. IsConstantOf c r.1 (σ r.0)) (all_restrictions us) (all_restrictions ps) a; applied = cc } }
  part_at c σ (grow (node (fixed h) us) ps) a zero (j ∷ q) s e there =
      let p = part_at c σ us (all_front (λ r. IsConstantOf c r.1 (σ r.0)) (all_restrictions us) (all_restrictions ps) a) j q s e there in
      record { part = p.part; stands = p.stands; tested = p.tested; fits = p.fits }
  part_at c σ (grow (node (fixed h) us) ps) a (suc i) q s e there =
      let p = part_at c σ ps (all_back (λ r. IsConstantOf c r.1 (σ r.0)) (all_restrictions us) (all_restrictions ps) a) i q s e there in
      record { part = p.part; stands = p.stands; tested = p.tested; fits = p.fits }
  part_at c σ (grow (node (variable y) us) ps) a zero q s e there = absurd (cc)
  part_at c σ (grow (node (variable y) us) ps) a (suc i) q s e there =
      let p = part_at c σ ps a i q s e there in record { part = p.part; stands = p.stands; tested = p.tested; fits = p.fits }
  part_at c σ (grow (node (restricted y class) us) ps) a zero [] s e there =
      record { part = node (restricted y class) us; stands = refl; tested = tt; fits = record { substitution = σ; respects = (a.0, tt); applied = cc } }
  part_at c σ (grow (node (restricted y class) us) ps) a zero (j ∷ q) s e there = absurd (nothing_below (σ y) a.0 there)
    where
      nothing_below : (t : Tree H) → IsConstantOf c class t → subtree_at t (j ∷ q) ≡ Some s → ⊥
      nothing_below (node h empty) k z = absurd (cc)
      nothing_below (node h (grow t ts)) k z = k
  part_at c σ (grow (node (restricted y class) us) ps) a (suc i) q s e there =
      let p = part_at c σ ps a.1 i q s e there in record { part = p.part; stands = p.stands; tested = p.tested; fits = p.fits }

module _ {H : Type 0} (system : System H) (w : IsWellFormedSystem system) (o : IsOrthogonal system) where
  -- developments of a list of trees, which mark exactly the positions of a set
  record AllDevelop (ts : Forest H) (set : ℕ → Position → Bool) : Type 0 where
    results : Forest H
    weight : ℕ
    developments : Developments system ts results weight
    exactly : (i : ℕ) (q : Position) → marks_in developments i q ≡ set i q

  none_marked : (ts : Forest H) → AllDevelop ts (λ i q. false)
  none_marked empty = record { results = empty; weight = 0; developments = none; exactly = λ i q. refl }
  none_marked (grow (node h args) ts) =
      let below = none_marked args in
      let after = none_marked ts in
      record { results = grow (node h below.results) after.results; weight = below.weight + after.weight; developments = more (unmarked below.developments) after.developments; exactly = λ i q. go below after i q }
    where
      go : (below : AllDevelop args (λ i q. false)) (after : AllDevelop ts (λ i q. false)) (i : ℕ) (q : Position) → marks_in (more (unmarked {h = h} below.developments) after.developments) i q ≡ false
      go below after zero [] = refl
      go below after zero (j ∷ q) = below.exactly j q
      go below after (suc i) q = after.exactly i q

  no_marks : (t : Tree H) → DevelopsBy system t (λ q. false)
  no_marks (node h args) =
      let below = none_marked args in
      record { result = node h below.results; weight = below.weight; development = unmarked below.developments; exactly = λ q. go below q }
    where
      go : (below : AllDevelop args (λ i q. false)) (q : Position) → marks (unmarked {h = h} below.developments) q ≡ false
      go below [] = refl
      go below (j ∷ q) = below.exactly j q

  abbrev AreRedexesIn : Forest H → (ℕ → Position → Bool) → Type 0
  AreRedexesIn ts set = (i : ℕ) (q : Position) → set i q ≡ true → (s : Tree H) × (subtree_in ts i q ≡ Some s) × IsRedex system s

  not_redex : (s : Tree H) → HasNoDemandedRedex system s → IsRedex system s → ⊥
  not_redex s (none_demanded n each) r = n r

  -- the part of the set that lies in what a variable stands for
  abbrev set_at : Option (ℕ × Position) → (Position → Bool) → Position → Bool
  set_at None set q = false
  set_at (Some v) set q = set (v.0 ∷ v.1 ++ q)

  -- what a marked root gives
  record Contracted (t : Tree H) (set : Position → Bool) : Type 0 where
    rule : Rule H
    listed : Contains system.rules rule
    fits : IsInstanceOf system.in_class rule.left t
    head : H
    args : Forest (PatternCell H)
    left : rule.left ≡ node (fixed head) args
    develops : (x : ℕ) → DevelopsBy system (fits.substitution x) (set_at (find args x) set)
    value : (τ : Substitution H) → (u : Tree H) × Gives system τ rule.right t u

  value_of_right : (right : RightSide H) (σ : Substitution H) (t u : Tree H) → Gives system σ right t u → (τ : Substitution H) → (v : Tree H) × Gives system τ right t v
  value_of_right (pattern p) σ t u g τ = (apply τ p, refl)
  value_of_right (operation op) σ t u g τ = (u, g)

  contracted : (t : Tree H) (set : Position → Bool) → AreRedexes system t set → set [] ≡ true → Contracted t set → DevelopsBy system t set
  contracted t set redexes root c =
      let σ = c.fits.substitution in
      let τ : Substitution H = λ x. (c.develops x).result in
      let weights : ℕ → ℕ = λ x. (c.develops x).weight in
      let value = c.value τ in
      let d : Development system t value.0 (suc (right_weight weights c.rule.right)) = marked c.rule σ τ weights c.listed c.fits.applied c.fits.respects (λ x. (c.develops x).development) value.1 in
      record { result = value.0; weight = suc (right_weight weights c.rule.right); development = d; exactly = λ q. go q }
    where
      in_variable : (i : ℕ) (q : Position) (v : Option (ℕ × Position)) → variable_at c.rule.left (i ∷ q) ≡ v → elim v [ None ↦ false | Some v ↦ marks (c.develops v.0).development v.1 ] ≡ set (i ∷ q)
      in_variable i q None e = outside (set (i ∷ q)) refl
        where
          outside : (b : Bool) → set (i ∷ q) ≡ b → false ≡ b
          outside false z = refl
          outside true z =
              let r = redexes (i ∷ q) z in
              let args_respect = subst (λ l. Respects system.in_class c.fits.substitution l) c.left c.fits.respects in
              let at = subst (λ l. variable_at l (i ∷ q) ≡ None) c.left e in
              let there = subst (λ l. subtree_at (apply c.fits.substitution l) (i ∷ q) ≡ Some r.0) c.left (subst (λ t. subtree_at t (i ∷ q) ≡ Some r.0) (sym c.fits.applied) r.1) in
              let p = part_at system.in_class c.fits.substitution c.args args_respect i q r.0 at there in
              let tested = subst (λ l. (t : IsTestedAt l (i ∷ q)) → IsInstanceOf system.in_class t.part r.0 → HasNoDemandedRedex system r.0) c.left (λ t x. part_without_demand system w o c.rule c.listed (i ∷ q) (λ n. absurd (cc)) t r.0 x) in
              absurd (not_redex r.0 (tested (record { part = p.part; stands = p.stands; tested = p.tested }) p.fits) r.2)
      in_variable i q (Some v) e =
          let distinct = subst (λ l. IsDistinct nat_eq (variables l)) c.left (o.linear c.rule c.listed) in
          let f = found_at c.fits.substitution c.args distinct i q v.0 v.1 (subst (λ l. variable_at l (i ∷ q) ≡ Some v) c.left e) in
          (c.develops v.0).exactly v.1 ∙ (ap (λ z. set_at z set v.1) f.is ∙ ap set (rw (f.number, f.rest) refl))

      go : (q : Position) → marks (marked {u = (c.value (λ x. (c.develops x).result)).0} c.rule c.fits.substitution (λ x. (c.develops x).result) (λ x. (c.develops x).weight) c.listed c.fits.applied c.fits.respects (λ x. (c.develops x).development) (c.value (λ x. (c.develops x).result)).1) q ≡ set q
      go [] = sym root
      go (i ∷ q) = in_variable i q (variable_at c.rule.left (i ∷ q)) refl

  -- ---- by the size

  -- smaller trees develop
  abbrev Smaller : ℕ → Type 0
  Smaller n = (s : Tree H) → size s ≤ n → (set : Position → Bool) → AreRedexes system s set → DevelopsBy system s set

  develop_all : (n : ℕ) → Smaller n → (ts : Forest H) → total_size ts ≤ n → (set : ℕ → Position → Bool) → AreRedexesIn ts set → AllDevelop ts set
  develop_all n each empty le set redexes = record { results = empty; weight = 0; developments = none; exactly = λ i q. nowhere i q (set i q) refl }
    where
      nowhere : (i : ℕ) (q : Position) (b : Bool) → set i q ≡ b → false ≡ b
      nowhere i q false e = refl
      nowhere i q true e = let r = redexes i q e in absurd (let z = r.1 in cc)
  develop_all n each (grow t ts) le set redexes =
      let first = each t (omega arith) (λ q. set 0 q) (λ q z. redexes 0 q z) in
      let after = develop_all n each ts (omega arith) (λ i q. set (suc i) q) (λ i q z. redexes (suc i) q z) in
      record { results = grow first.result after.results; weight = first.weight + after.weight; developments = more first.development after.developments; exactly = λ i q. go first after i q }
    where
      go : (first : DevelopsBy system t (λ q. set 0 q)) (after : AllDevelop ts (λ i q. set (suc i) q)) (i : ℕ) (q : Position) → marks_in (more first.development after.developments) i q ≡ set i q
      go first after zero q = first.exactly q
      go first after (suc i) q = after.exactly i q

  module _ (n : ℕ) (each : Smaller n) (h : H) (args : Forest H) (le : total_size args ≤ n) (set : Position → Bool) (redexes : AreRedexes system (node h args) set) where
    unmarked_root : set [] ≡ false → DevelopsBy system (node h args) set
    unmarked_root e =
        let below = develop_all n each args le (λ i q. set (i ∷ q)) (λ i q z. redexes (i ∷ q) z) in
        record { result = node h below.results; weight = below.weight; development = unmarked below.developments; exactly = λ q. at_root below q }
      where
        at_root : (below : AllDevelop args (λ i q. set (i ∷ q))) (q : Position) → marks (unmarked {h = h} below.developments) q ≡ set q
        at_root below [] = sym e
        at_root below (i ∷ q) = below.exactly i q

    of_variable : (us : Forest (PatternCell H)) (σ : Substitution H) → apply_all σ us ≡ args → (x : ℕ) (v : Option (ℕ × Position)) → find us x ≡ v → DevelopsBy system (σ x) (set_at v set)
    of_variable us σ applied x None z = no_marks (σ x)
    of_variable us σ applied x (Some v) z =
        let f = found σ us x v z in
        let smaller = f.smaller in
        let sizes : total_size (apply_all σ us) ≡ total_size args = ap total_size applied in
        each (σ x) (omega (arith, smaller, sizes)) (λ q. set (v.0 ∷ v.1 ++ q))
        (λ q y.
        let r = redexes (v.0 ∷ v.1 ++ q) y in
        (r.0, sym (f.stands q) ∙ (ap (λ ts. subtree_in ts v.0 (v.1 ++ q)) applied ∙ r.1), r.2))

    args_same : {g : H} {ts : Forest H} → node g ts ≡ node h args → ts ≡ args
    args_same e = cc

    marked_root : set [] ≡ true → (rule : Rule H) → Contains system.rules rule → IsInstanceOf system.in_class rule.left (node h args) → (l : Tree (PatternCell H)) → rule.left ≡ l → IsHead (head_of l) → ((τ : Substitution H) → (u : Tree H) × Gives system τ rule.right (node h args) u) → DevelopsBy system (node h args) set
    marked_root e rule listed i (node (variable x) us) e' head value = absurd head
    marked_root e rule listed i (node (restricted x class) us) e' head value = absurd head
    marked_root e rule listed i (node (fixed g) us) e' head value =
        let applied = args_same (ap (apply i.substitution) (sym e') ∙ i.applied) in
        contracted (node h args) set redexes e (record { rule = rule; listed = listed; fits = i; head = g; args = us; left = e'; develops = λ x. of_variable us i.substitution applied x (find us x) refl; value = value })

    by_root : (b : Bool) → set [] ≡ b → DevelopsBy system (node h args) set
    by_root false e = unmarked_root e
    by_root true e =
        let r = redexes [] e in
        let same : r.0 ≡ node h args = let z = r.1 in cc in
        let x = subst (λ t. IsRedex system t) same r.2 in
        let step = x.1.1 in
        let rule = step.rule in
        let listed = in-contains (get-in system.rules x.1.0 rule step.listed) in
        let i = step.is_instance.left in
        marked_root e rule listed i rule.left refl (w.roots rule listed) (value_of_right rule.right i.substitution (node h args) x.0 step.is_instance.right)

  develop : (n : ℕ) → Smaller n
  develop zero (node h args) le set redexes = absurd (omega arith)
  develop (suc n) (node h args) le set redexes = by_root n (λ s le set r. develop n s le set r) h args (omega arith) set redexes (set []) refl

  pub redexes_develop : (t : Tree H) (set : Position → Bool) → AreRedexes system t set → DevelopsBy system t set
  redexes_develop t set redexes = develop (size t) t (omega arith) set redexes
