-- Developments of trees, as developments of lists of trees.
use Rattle.std.proofs.Common.{◌≡◌, ℕ, zero, suc, List, [], ◌∷◌, Bool, false, Option, Some, None, refl, sym, ◌∙◌, ap, subst, arith}
use Rattle.std.specs.Prelude.{IsTrue, Contains}
use Rattle.std.proofs.lemmas.List.{append-nil}
use Rattle.eq_base.specs.Tree.{Tree, Forest, node, empty, grow, head_of, arity_of, count, Position}
use Rattle.eq_base.specs.Pattern.{PatternCell, fixed, variable, restricted, all_restrictions, Classes, Substitution, apply, Respects, IsInstanceOf}
use Rattle.orthogonal_laws.specs.Orthogonal.{IsHead, IsWellFormedSystem, IsOrthogonal}
use Rattle.eq_base.specs.Rewriting.{Rule, System, Gives, IsRedex}
use Rattle.eq_base.proofs.Instances.{FitAll, all_bindings, Agrees, agrees_front, agrees_back}
use Rattle.orthogonal_laws.specs.Development.{Development, unmarked, marked, Developments, none, more, right_weight, variable_at, variable_in, marks, marks_in}
use Rattle.orthogonal_laws.proofs.Members.{contains-in, in-contains, in-map}
use Rattle.orthogonal_laws.proofs.LeftSides.{Label, Patterns, Last, Open, Test, Compiled, Meets, open_parts, fill, Redex, IsPart}
use Rattle.orthogonal_laws.proofs.ForestDevelopments.{Develops, nil, keep, contract, marks_at, total, bump, past, part_position}
use Rattle.orthogonal_laws.proofs.Translation.{test_of, tests, args_tests}
use Rattle.orthogonal_laws.proofs.Redexes.{compile, compiled, whole, root_tested, instance-agrees, instance-fit, instance-fits}
use Rattle.orthogonal_laws.proofs.Regularity.{orthogonal-regular}
use Rattle.orthogonal_laws.proofs.Stepping.{no_redex-to}
use Rattle.orthogonal_laws.proofs.Moving.{plain_parts, plain_weights, AreStill, rule-moved}
use Rattle.orthogonal_laws.proofs.CleanParts.{part_no_redex, gives_some, restricted_still}

-- whether a development of what a variable stands for marks the rest of a position
abbrev mark_of : (ℕ → Position → Bool) → Option (ℕ × Position) → Bool
mark_of mark None = false
mark_of mark (Some v) = mark v.0 v.1

module _ {H : Type 0} (rules : List (Compiled H)) where
  pub marks-root : {ts us : Forest H} {ns : List ℕ} (d : Develops rules ts us ns) → marks_at d [] ≡ false
  marks-root nil = refl
  marks-root (keep dk dr) = refl
  marks-root (contract x dk dr) = refl

  -- a development of one tree, in front of another one
  pub record To (t u : Tree H) (n : ℕ) {rest vs : Forest H} {ms : List ℕ} (d : Develops rules rest vs ms) (test : Position → Bool) : Type 0 where
    pub develops : Develops rules (grow t rest) (grow u vs) (n ∷ ms)
    pub here : (q : Position) → marks_at develops (0 ∷ q) ≡ test q
    pub after : (i : ℕ) (q : Position) → marks_at develops (suc i ∷ q) ≡ marks_at d (i ∷ q)

  pub record AllTo (ts us : Forest H) (n : ℕ) (test : ℕ → Position → Bool) : Type 0 where
    pub weights : List ℕ
    pub develops : Develops rules ts us weights
    pub here : (i : ℕ) (q : Position) → marks_at develops (i ∷ q) ≡ test i q
    pub sums : total weights ≡ n

  bumped : {t u : Tree H} {n : ℕ} {rest vs : Forest H} {ms : List ℕ} {d : Develops rules rest vs ms} {test : Position → Bool} (x : To t u n d test) (p : Position) → marks_at x.develops (bump p) ≡ marks_at d p
  bumped {d = d} x [] = marks-root x.develops ∙ sym (marks-root d)
  bumped x (i ∷ q) = x.after i q

  -- developments of the parts at the plain variables of patterns, in front of others
  record PartsTo (ps : Patterns H) (es fs : Forest H) (ns : List ℕ) {others others' : Forest H} {ms : List ℕ} (d : Develops rules others others' ms) (test : ℕ → Position → Bool) : Type 0 where
    develops : Develops rules es fs ns
    inside : (i : ℕ) (q : Position) → marks_at develops (part_position ps (i ∷ q)) ≡ test i q
    outside : (p : Position) → marks_at develops (past ps p) ≡ marks_at d p

  root_outside : (ps : Patterns H) → part_position ps [] ≡ []
  root_outside Last = refl
  root_outside (Open ps) = refl
  root_outside (Test t ps qs) = refl

module _ {H : Type 0} (same : H → H → Bool) (in_class : Classes H) (rules : List (Compiled H)) (σ τ : Substitution H) (v : ℕ → ℕ) (mark : ℕ → Position → Bool)
    (each : (x : ℕ) (rest vs : Forest H) (ms : List ℕ) (d : Develops rules rest vs ms) → To rules (σ x) (τ x) (v x) d (λ q. mark x q)) where
  parts_to : (ps : Forest (PatternCell H)) (ts : Forest H) → FitAll in_class ps ts → Agrees in_class σ (all_bindings in_class ps ts) → (others fs : Forest H) (ns : List ℕ) (d : Develops rules others fs ns) →
      PartsTo rules (tests same in_class ps) (open_parts (tests same in_class ps) ts others) (plain_parts τ ps fs) (plain_weights v ps ns) d (λ i q. mark_of mark (variable_in ps i q))
  parts_to empty empty x a others fs ns d = record { develops = d; inside = λ i q. marks-root rules d; outside = λ p. refl }
  parts_to empty (grow t ts) x a others fs ns d = absurd x
  parts_to (grow p ps) empty x a others fs ns d = absurd x
  parts_to (grow (node (variable y) qs) ps) (grow t ts) x a others fs ns d =
      let r = parts_to ps ts x.1 a.1 others fs ns d in
      let z = subst (λ t. To rules t (τ y) (v y) r.develops (λ q. mark y q)) a.0 (each y (open_parts (tests same in_class ps) ts others) (plain_parts τ ps fs) (plain_weights v ps ns) r.develops) in
      record { develops = z.develops; inside = λ i q. inside r z i q; outside = λ p. bumped rules z (past (tests same in_class ps) p) ∙ r.outside p }
    where
      inside : (r : PartsTo rules (tests same in_class ps) (open_parts (tests same in_class ps) ts others) (plain_parts τ ps fs) (plain_weights v ps ns) d (λ i q. mark_of mark (variable_in ps i q))) (z : To rules t (τ y) (v y) r.develops (λ q. mark y q)) →
          (i : ℕ) (q : Position) → marks_at z.develops (part_position (Open (tests same in_class ps)) (i ∷ q)) ≡ mark_of mark (variable_in (grow (node (variable y) qs) ps) i q)
      inside r z zero q = z.here q
      inside r z (suc i) q = bumped rules z (part_position (tests same in_class ps) (i ∷ q)) ∙ r.inside i q
  parts_to (grow (node (restricted y class) qs) ps) (grow (node h empty) ts) x a others fs ns d =
      let r = parts_to ps ts x.1 a.1 others fs ns d in
      record { develops = r.develops; inside = λ i q. inside r i q; outside = λ p. r.outside p }
    where
      inside : (r : PartsTo rules (tests same in_class ps) (open_parts (tests same in_class ps) ts others) (plain_parts τ ps fs) (plain_weights v ps ns) d (λ i q. mark_of mark (variable_in ps i q))) →
          (i : ℕ) (q : Position) → marks_at r.develops (part_position (tests same in_class (grow (node (restricted y class) qs) ps)) (i ∷ q)) ≡ mark_of mark (variable_in (grow (node (restricted y class) qs) ps) i q)
      inside r zero q = marks-root rules r.develops
      inside r (suc i) q = r.inside i q
  parts_to (grow (node (restricted y class) qs) ps) (grow (node h (grow u us)) ts) x a others fs ns d = absurd x.0
  parts_to (grow (node (fixed g) qs) ps) (grow (node h us) ts) x a others fs ns d =
      let r = parts_to ps ts x.1 (agrees_back in_class σ (all_bindings in_class qs us) (all_bindings in_class ps ts) a) others fs ns d in
      let z = parts_to qs us x.0.1 (agrees_front in_class σ (all_bindings in_class qs us) (all_bindings in_class ps ts) a) (open_parts (tests same in_class ps) ts others) (plain_parts τ ps fs) (plain_weights v ps ns) r.develops in
      record { develops = z.develops; inside = λ i q. inside r z i q; outside = λ p. z.outside (past (tests same in_class ps) p) ∙ r.outside p }
    where
      inside : (r : PartsTo rules (tests same in_class ps) (open_parts (tests same in_class ps) ts others) (plain_parts τ ps fs) (plain_weights v ps ns) d (λ i q. mark_of mark (variable_in ps i q)))
          (z : PartsTo rules (tests same in_class qs) (open_parts (tests same in_class qs) us (open_parts (tests same in_class ps) ts others)) (plain_parts τ qs (plain_parts τ ps fs)) (plain_weights v qs (plain_weights v ps ns)) r.develops (λ i q. mark_of mark (variable_in qs i q))) →
          (i : ℕ) (q : Position) → marks_at z.develops (part_position (tests same in_class (grow (node (fixed g) qs) ps)) (i ∷ q)) ≡ mark_of mark (variable_in (grow (node (fixed g) qs) ps) i q)
      inside r z zero [] = ap (λ p. marks_at z.develops p) (root_outside rules (tests same in_class qs)) ∙ marks-root rules z.develops
      inside r z zero (j ∷ q) = z.inside j q
      inside r z (suc i) q = z.outside (part_position (tests same in_class ps) (i ∷ q)) ∙ r.inside i q

module _ {H : Type 0} (system : System H) (w : IsWellFormedSystem system) (o : IsOrthogonal system) where
  same_mark : (t u : Tree H) (rule : Rule H) (σ τ : Substitution H) (v : ℕ → ℕ) (listed : Contains system.rules rule) (applied : apply σ rule.left ≡ t) (respects : Respects system.in_class σ rule.left) (ds : (x : ℕ) → Development system (σ x) (τ x) (v x)) (gives : Gives system τ rule.right t u) (i : ℕ) (q : Position) →
      mark_of (λ x q. marks (ds x) q) (variable_at rule.left (i ∷ q)) ≡ marks (marked rule σ τ v listed applied respects ds gives) (i ∷ q)
  same_mark t u rule σ τ v listed applied respects ds gives i q = go (variable_at rule.left (i ∷ q))
    where
      go : (a : Option (ℕ × Position)) → mark_of (λ x q. marks (ds x) q) a ≡ elim a [ None ↦ false | Some b ↦ marks (ds b.0) b.1 ]
      go None = refl
      go (Some b) = refl

  -- the restricted variables of a left side are still
  pub left_still : (rule : Rule H) → Contains system.rules rule → (h : H) (args : Forest H) (i : IsInstanceOf system.in_class rule.left (node h args)) (τ : Substitution H) (v : ℕ → ℕ) → ((x : ℕ) → Development system (i.substitution x) (τ x) (v x)) → AreStill i.substitution τ v (all_restrictions (grow rule.left empty))
  left_still rule listed h args i τ v ds =
      go rule.left (w.roots rule listed) (instance-fit system w rule.left (node h args) i) (instance-agrees system w rule.left (node h args) i)
      (λ test qs part g us e m r. no_redex-to system w o g us (part_no_redex (compiled system w) (orthogonal-regular system w o) (compile system w rule) (in-contains (in-map (compile system w) (contains-in listed))) test qs part g us e m) r)
    where
      go : (l : Tree (PatternCell H)) → IsHead (head_of l) → FitAll system.in_class (grow l empty) (grow (node h args) empty) → Agrees system.in_class i.substitution (all_bindings system.in_class (grow l empty) (grow (node h args) empty)) →
          ((test : Label H → Bool) (qs : Patterns H) → IsPart test qs (args_tests w.same system.in_class l) → (g : H) (us : Forest H) → IsTrue (test (g, count us)) → Meets qs us → IsRedex system (node g us) → ⊥) → AreStill i.substitution τ v (all_restrictions (grow l empty))
      go (node (variable x) us) head x' a clean = absurd head
      go (node (restricted x class) us) head x' a clean = absurd head
      go (node (fixed g) us) head x a clean =
          subst (λ z. AreStill i.substitution τ v z) (sym (append-nil (all_restrictions us)))
          (restricted_still system w.same i.substitution τ v us args clean x.0.1 (agrees_front system.in_class i.substitution (all_bindings system.in_class us args) [] a) ds)

  -- a marked root
  to_marked : {h : H} {args : Forest H} {u : Tree H} (rule : Rule H) (σ τ : Substitution H) (v : ℕ → ℕ) (listed : Contains system.rules rule) (applied : apply σ rule.left ≡ node h args) (respects : Respects system.in_class σ rule.left) (ds : (x : ℕ) → Development system (σ x) (τ x) (v x)) (gives : Gives system τ rule.right (node h args) u) →
      ((x : ℕ) (rest vs : Forest H) (ms : List ℕ) (d : Develops (compiled system w) rest vs ms) → To (compiled system w) (σ x) (τ x) (v x) d (λ q. marks (ds x) q)) →
      {rest vs : Forest H} {ms : List ℕ} (d : Develops (compiled system w) rest vs ms) → To (compiled system w) (node h args) u (suc (right_weight v rule.right)) d (λ q. marks (marked rule σ τ v listed applied respects ds gives) q)
  to_marked {h} {args} {u} rule σ τ v listed applied respects ds gives each {rest} {vs} {ms} d =
      let rules = compiled system w in
      let c = system.in_class in
      let i : IsInstanceOf c rule.left (node h args) = record { substitution = σ; respects = respects; applied = applied } in
      let g = gives_some system σ τ rule.right (node h args) u gives in
      let f = instance-fits system w o rule listed h args g.0 (record { left = i; right = g.1 }) in
      let mv = rule-moved system w o rule listed rule.right refl h args i f.right f.fits.right τ v (left_still rule listed h args i τ v ds) u gives in
      let fs = plain_parts τ (grow rule.left empty) empty in
      let ns = plain_weights v (grow rule.left empty) [] in
      let mark = λ (x : ℕ) (q : Position). marks (ds x) q in
      let test = λ (k : ℕ) (q : Position). mark_of mark (variable_in (grow rule.left empty) k q) in
      let parts = parts_to w.same c rules σ τ v mark each (grow rule.left empty) (grow (node h args) empty) (instance-fit system w rule.left (node h args) i) (instance-agrees system w rule.left (node h args) i) empty empty [] nil in
      let p = subst (λ P. PartsTo rules P (open_parts P (grow (node h args) empty) empty) fs ns nil test) (whole system w rule.left (root_tested system w rule listed)) parts in
      let x : Redex rules h args f.right (open_parts (args_tests w.same c rule.left) args empty) = record {
        rule = compile system w rule;
        among = in-contains (in-map (compile system w) (contains-in listed));
        fits = record { root = f.fits.root; args = f.fits.args; right = f.fits.right; parts = refl };
      } in
      let all = λ (q : Position). marks (marked rule σ τ v listed applied respects ds gives) q in
      subst (λ z. To rules (node h args) z (suc (right_weight v rule.right)) d all) mv.value
      (subst (λ n. To rules (node h args) (fill h f.right fs) (suc n) d all) mv.weighs
      (record { develops = contract x p.develops d; here = λ q. at x refl p q; after = λ i q. refl }))
    where
      at : {r : Tree (PatternCell H)} {fs : Forest H} {ns : List ℕ} (x : Redex (compiled system w) h args r (open_parts (args_tests w.same system.in_class rule.left) args empty)) → x.rule.args ≡ args_tests w.same system.in_class rule.left →
          (p : PartsTo (compiled system w) (Test (λ k. test_of w.same system.in_class (head_of rule.left) (arity_of rule.left) k) (args_tests w.same system.in_class rule.left) Last) (open_parts (args_tests w.same system.in_class rule.left) args empty) fs ns nil (λ k q. mark_of (λ x q. marks (ds x) q) (variable_in (grow rule.left empty) k q)))
          (q : Position) → marks_at (contract x p.develops d) (0 ∷ q) ≡ marks (marked rule σ τ v listed applied respects ds gives) q
      at x e p [] = refl
      at x e p (i ∷ q) = ap (λ P. marks_at p.develops (part_position P (i ∷ q))) e ∙ (p.inside 0 (i ∷ q) ∙ same_mark (node h args) u rule σ τ v listed applied respects ds gives i q)

  mutual
    -- a development of a tree, in front of another one
    pub develop-to : {t u : Tree H} {n : ℕ} (d : Development system t u n) {rest vs : Forest H} {ms : List ℕ} (d' : Develops (compiled system w) rest vs ms) → To (compiled system w) t u n d' (λ q. marks d q)
    develop-to (unmarked {h = h} {ts = ts} {us = us} ds) {rest} {vs} {ms} d' =
        let a = develop_all-to ds in
        subst (λ k. To (compiled system w) (node h ts) (node h us) k d' (λ q. marks (unmarked {h = h} ds) q)) a.sums
        (record { develops = keep a.develops d'; here = λ q. kept ds a q; after = λ i q. refl })
      where
        kept : {n : ℕ} (ds : Developments system ts us n) (a : AllTo (compiled system w) ts us n (λ i q. marks_in ds i q)) (q : Position) → marks_at (keep {h = h} a.develops d') (0 ∷ q) ≡ marks (unmarked {h = h} ds) q
        kept ds a [] = marks-root (compiled system w) a.develops
        kept ds a (i ∷ q) = a.here i q
    develop-to (marked {t = node h args} rule σ τ v listed applied respects ds gives) d' =
        to_marked rule σ τ v listed applied respects ds gives (λ x rest vs ms d. develop-to (ds x) d) d'

    pub develop_all-to : {ts us : Forest H} {n : ℕ} (ds : Developments system ts us n) → AllTo (compiled system w) ts us n (λ i q. marks_in ds i q)
    develop_all-to none = record { weights = []; develops = nil; here = λ i q. refl; sums = refl }
    develop_all-to (more {m = m} d ds) =
        let a = develop_all-to ds in
        let x = develop-to d a.develops in
        record { weights = _; develops = x.develops; here = λ i q. first d ds a x i q; sums = omega (arith, a.sums) }
      where
        first : {t u : Tree H} {ts us : Forest H} {m n : ℕ} (d : Development system t u m) (ds : Developments system ts us n) (a : AllTo (compiled system w) ts us n (λ i q. marks_in ds i q)) (x : To (compiled system w) t u m a.develops (λ q. marks d q)) (i : ℕ) (q : Position) → marks_at x.develops (i ∷ q) ≡ marks_in (more d ds) i q
        first d ds a x zero q = x.here q
        first d ds a x (suc i) q = x.after i q ∙ a.here i q
