-- Systems of rules whose heads are mapped: what holds of a system holds of its image.
use Rattle.std.proofs.Common.{◌≡◌, inl, inr, ◌↔◌, ℕ, List, map, sym, ◌∙◌, ap, subst, ⊎_elim}
use Rattle.std.specs.Prelude.{Some, Contains, slice_get, option_map}
use Rattle.std.specs.List.{AllByRecursion, IsDistinct}
use Rattle.std.specs.Prelude.{nat_eq}
use Rattle.std.proofs.lemmas.Option.{slice_get-map}
use Rattle.eq_base.specs.Tree.{Tree, head_of, map_heads, Position}
use Rattle.eq_base.specs.Pattern.{PatternCell, fixed, variable, restricted, IsTested, variables, restrictions, apply, Substitution, Respects}
use Rattle.eq_base.specs.Testing.{IsTestedAt}
use Rattle.eq_base.specs.Rewriting.{RightSide, pattern, operation, Rule, System, Gives, IsInstance, RootStepBy, IsRedexBy, IsRedex}
use Rattle.eq_base.specs.declared.rules.Op.{Op}
use Rattle.eq_base.proofs.Lists.{all_map}
use Rattle.eq_base.specs.Mapping.{map_cell, map_pattern, map_right, map_rule}
use Rattle.eq_base.proofs.Mapped.{subtree_at-map, map-back, head-map, variables-map, restrictions-map, apply-map, unmap-pattern, tested-map, tested_at-map, tested_at-unmap, applied-map, respects-map, instance-map, meets_at-map, clash_at-unmap, rule-back}
use Rattle.orthogonal_laws.specs.Orthogonal.{IsHead, ClashFirst, SameRight, IsBound, AgreeOnRestricted, IsWellFormedSystem, IsOrthogonal}
use Rattle.orthogonal_laws.specs.Strategy.{IsDemanded}
use Rattle.orthogonal_laws.proofs.Members.{contains-in, in-contains, in-map}

-- the second system is the first one with its heads mapped
pub record IsImage {A B : Type 0} (f : A → B) (S : System A) (T : System B) : Type 0 where
  pub rules : T.rules ≡ map (map_rule f) S.rules
  pub classes : (class : ℕ) (h : A) → T.in_class class (f h) ≡ S.in_class class h
  pub values : (op : Op) (t : Tree A) → T.value_of op (map_heads f t) ≡ option_map (map_heads f) (S.value_of op t)

module _ {A B : Type 0} (f : A → B) (S : System A) (T : System B) (image : IsImage f S T) where
  pub listed-image : (n : ℕ) (rule : Rule A) → slice_get S.rules n ≡ Some rule → slice_get T.rules n ≡ Some (map_rule f rule)
  listed-image n rule e = ap (λ rs. slice_get rs n) image.rules ∙ slice_get-map (map_rule f) S.rules n ∙ ap (option_map (map_rule f)) e

  pub contained-image : (rule : Rule A) → Contains S.rules rule → Contains T.rules (map_rule f rule)
  contained-image rule c = subst (λ rs. Contains rs (map_rule f rule)) (sym image.rules) (in-contains (in-map (map_rule f) (contains-in c)))

  gives-image : (σ : Substitution A) (right : RightSide A) (t u : Tree A) → Gives S σ right t u → Gives T (λ x. map_heads f (σ x)) (map_right f right) (map_heads f t) (map_heads f u)
  gives-image σ (pattern p) t u g = applied-map f S.in_class T.in_class image.classes σ p u g
  gives-image σ (operation op) t u g = image.values op t ∙ ap (option_map (map_heads f)) g

  pub is_instance-image : (rule : Rule A) (t u : Tree A) → IsInstance S rule t u → IsInstance T (map_rule f rule) (map_heads f t) (map_heads f u)
  is_instance-image rule t u i = record {
    left = record {
      substitution = λ x. map_heads f (i.left.substitution x);
      respects = respects-map f S.in_class T.in_class image.classes i.left.substitution rule.left i.left.respects;
      applied = applied-map f S.in_class T.in_class image.classes i.left.substitution rule.left t i.left.applied;
    };
    right = gives-image i.left.substitution rule.right t u i.right;
  }

  pub step_by-image : (n : ℕ) (t u : Tree A) → RootStepBy S n t u → RootStepBy T n (map_heads f t) (map_heads f u)
  step_by-image n t u s = record { rule = map_rule f s.rule; listed = listed-image n s.rule s.listed; is_instance = is_instance-image s.rule t u s.is_instance }

  pub redex_by-image : (n : ℕ) (t : Tree A) → IsRedexBy S n t → IsRedexBy T n (map_heads f t)
  redex_by-image n t r = (map_heads f r.0, step_by-image n t r.0 r.1)

  pub redex-image : (t : Tree A) → IsRedex S t → IsRedex T (map_heads f t)
  redex-image t r = (map_heads f r.0, (r.1.0, step_by-image r.1.0 t r.0 r.1.1))

  pub demanded-image : (t : Tree A) (q : Position) → IsDemanded S t q → IsDemanded T (map_heads f t) q
  demanded-image t q d = record {
    rule = map_rule f d.rule;
    listed = contained-image d.rule d.listed;
    not_root = d.not_root;
    tested = tested_at-map f d.rule.left q d.tested;
    met = λ p before tested. meets_at-map f S.in_class T.in_class image.classes d.rule.left t p (d.met p before (tested_at-unmap f d.rule.left p tested));
  }

  same_tests-back : (p r : Tree (PatternCell A)) (q : Position) → IsTestedAt (map_pattern f p) q ↔ IsTestedAt (map_pattern f r) q → IsTestedAt p q ↔ IsTestedAt r q
  same_tests-back p r q same = (
    λ t. tested_at-unmap f r q (same.0 (tested_at-map f p q t)),
    λ t. tested_at-unmap f p q (same.1 (tested_at-map f r q t)),
  )

  clash_first-back : (p r : Tree (PatternCell A)) → ClashFirst T.in_class (map_pattern f p) (map_pattern f r) → ClashFirst S.in_class p r
  clash_first-back p r c = record {
    at = c.at;
    clashes = clash_at-unmap f S.in_class T.in_class image.classes p r c.at c.clashes;
    before = λ q before. same_tests-back p r q (c.before q before);
  }

  bound-back : (xs : List ℕ) (right : RightSide A) → IsBound xs (map_right f right) → IsBound xs right
  bound-back xs (pattern p) b = subst (λ ys. AllByRecursion (λ x. Contains xs x) ys) (variables-map f p) b
  bound-back xs (operation op) b = tt

  head-back : (c : PatternCell A) → IsHead (map_cell f c) → IsHead c
  head-back (fixed h) i = tt
  head-back (variable x) i = absurd i
  head-back (restricted x class) i = absurd i

-- ---- systems whose image can be mapped back

module _ {A B : Type 0} (f : A → B) (g : B → A) (back : (a : A) → g (f a) ≡ a) (S : System A) (T : System B) (image : IsImage f S T) (returns : IsImage g T S) where
  instance-back : (rule : Rule A) (t u : Tree A) → IsInstance T (map_rule f rule) (map_heads f t) (map_heads f u) → IsInstance S rule t u
  instance-back rule t u i =
      let j = is_instance-image g T S returns (map_rule f rule) (map_heads f t) (map_heads f u) i in
      let k = subst (λ r. IsInstance S r (map_heads g (map_heads f t)) (map_heads g (map_heads f u))) (rule-back f g back rule) j in
      subst (λ z. IsInstance S rule z u) (map-back f g back t) (subst (λ z. IsInstance S rule (map_heads g (map_heads f t)) z) (map-back f g back u) k)

  same_right-back : (a b : Rule A) → SameRight T (map_rule f a) (map_rule f b) → SameRight S a b
  same_right-back a b same t i j u =
      let s = same (map_heads f t) (instance-map f S.in_class T.in_class image.classes a.left t i) (instance-map f S.in_class T.in_class image.classes b.left t j) (map_heads f u) in (
        λ x. instance-back b t u (s.0 (is_instance-image f S T image a t u x)),
        λ x. instance-back a t u (s.1 (is_instance-image f S T image b t u x)),
      )

  tested_part : (p : Tree (PatternCell A)) → IsTested (head_of p) → IsTested (head_of (map_pattern f p))
  tested_part p t = subst IsTested (sym (head-map f p)) (tested-map f (head_of p) t)

  -- a system is orthogonal where its image is
  pub orthogonal-back : IsOrthogonal T → IsOrthogonal S
  orthogonal-back o = record {
    linear = λ rule c. subst (λ xs. IsDistinct nat_eq xs) (variables-map f rule.left) (o.linear (map_rule f rule) (contained-image f S T image rule c));
    bound = λ rule c.
        subst (λ xs. IsBound xs rule.right) (variables-map f rule.left)
        (bound-back f S T image (variables (map_pattern f rule.left)) rule.right (o.bound (map_rule f rule) (contained-image f S T image rule c)));
    roots = λ i j a b lt e e'.
        ⊎_elim (λ clash. inl (clash_first-back f S T image a.left b.left clash))
        (λ same. inr (λ q. same_tests-back f S T image a.left b.left q (same.0 q), same_right-back a b same.1))
        (o.roots i j (map_rule f a) (map_rule f b) lt (listed-image f S T image i a e) (listed-image f S T image j b e'));
    parts = λ a b c c' q below tested.
        clash_first-back f S T image tested.part b.left
        (o.parts (map_rule f a) (map_rule f b) (contained-image f S T image a c) (contained-image f S T image b c') q below
        (record { part = map_pattern f tested.part; stands = subtree_at-map (map_cell f) a.left q tested.part tested.stands; tested = tested_part tested.part tested.tested }));
  }

  -- the values of an operation, mapped back
  value-back : (op : Op) (t : Tree A) → S.value_of op t ≡ option_map (map_heads g) (T.value_of op (map_heads f t))
  value-back op t = ap (S.value_of op) (sym (map-back f g back t)) ∙ returns.values op (map_heads f t)

  well_formed_values : IsWellFormedSystem T → (rule : Rule A) → Contains S.rules rule → (op : Op) → rule.right ≡ operation op → (σ τ : Substitution A) → Respects S.in_class σ rule.left → AgreeOnRestricted rule.left σ τ → S.value_of op (apply σ rule.left) ≡ S.value_of op (apply τ rule.left)
  well_formed_values w rule c op e σ τ r agree =
      let same =
      w.values (map_rule f rule) (contained-image f S T image rule c) op (ap (map_right f) e) (λ x. map_heads f (σ x)) (λ x. map_heads f (τ x))
      (respects-map f S.in_class T.in_class image.classes σ rule.left r)
      (subst (λ rs. AllByRecursion (λ r. map_heads f (σ r.0) ≡ map_heads f (τ r.0)) rs) (sym (restrictions-map f rule.left))
      (all_map (λ r. σ r.0 ≡ τ r.0) (λ r. map_heads f (σ r.0) ≡ map_heads f (τ r.0)) (restrictions rule.left) (λ r e. ap (map_heads f) e) agree)) in
      value-back op (apply σ rule.left) ∙ ap (λ t. option_map (map_heads g) (T.value_of op t)) (apply-map f σ rule.left) ∙ ap (option_map (map_heads g)) same
      ∙ ap (λ t. option_map (map_heads g) (T.value_of op t)) (sym (apply-map f τ rule.left)) ∙ sym (value-back op (apply τ rule.left))

  -- and well formed
  pub well_formed-back : IsWellFormedSystem T → IsWellFormedSystem S
  well_formed-back w = record {
    same = λ h k. w.same (f h) (f k);
    decides = λ h k. (λ e. sym (back h) ∙ ap g ((w.decides (f h) (f k)).0 e) ∙ back k, λ e. (w.decides (f h) (f k)).1 (ap f e));
    patterns = λ rule c. unmap-pattern f rule.left (w.patterns (map_rule f rule) (contained-image f S T image rule c));
    roots = λ rule c. head-back f S T image (head_of rule.left) (subst IsHead (head-map f rule.left) (w.roots (map_rule f rule) (contained-image f S T image rule c)));
    values = well_formed_values w;
  }
