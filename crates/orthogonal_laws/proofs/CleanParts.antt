-- What stands at a tested position below the root of a left side is no redex, and has no demanded redex.
use Rattle.std.proofs.Common.{◌≡◌, ℕ, List, refl, sym, ◌∙◌, ap, subst}
use Rattle.std.specs.Prelude.{Bool, IsTrue, Contains}
use Rattle.eq_base.specs.Tree.{Tree, Forest, node, empty, grow, count}
use Rattle.eq_base.specs.Pattern.{PatternCell, fixed, variable, restricted, all_restrictions, Substitution, apply, Respects}
use Rattle.eq_base.specs.Rewriting.{RightSide, pattern, operation, Rule, System, Gives, IsRedex}
use Rattle.eq_base.proofs.Instances.{FitAll, all_bindings, Agrees, agrees_front, agrees_back}
use Rattle.orthogonal_laws.specs.Development.{Development, unmarked, marked, Developments, none, more}
use Rattle.eq_base.proofs.Lists.{all_both}
use Rattle.orthogonal_laws.proofs.Members.{contains-in, in-get}
use Rattle.orthogonal_laws.proofs.LeftSides.{Label, Patterns, Compiled, Meets, IsPart, part_here, part_below, part_after, part_skip, NoRedex, Regular}
use Rattle.orthogonal_laws.proofs.Matchers.{Matcher, Skip, Stop, run, tree, path, Alive}
use Rattle.orthogonal_laws.proofs.Sequential.{Apart, guarded_skip, guarded_stop}
use Rattle.orthogonal_laws.proofs.ForestStrategy.{NoDemandedRedex}
use Rattle.orthogonal_laws.proofs.TestedParts.{apart_quiet, apart-done}
use Rattle.orthogonal_laws.proofs.DecisionTrees.{regular-compiles, part_apart, part_guarded}
use Rattle.orthogonal_laws.proofs.Paths.{path-run}
use Rattle.orthogonal_laws.proofs.ReadPositions.{regular-reads}
use Rattle.orthogonal_laws.proofs.Strategies.{quiet-no_demand, no_demand-quiet}
use Rattle.orthogonal_laws.proofs.Translation.{tests, both_true}
use Rattle.orthogonal_laws.proofs.Moving.{AreStill}

module _ {H : Type 0} (rules : List (Compiled H)) (regular : Regular rules) where
  pub part_no_demand : (rule : Compiled H) → Contains rules rule → (test : Label H → Bool) (ps : Patterns H) → IsPart test ps rule.args → (h : H) (us : Forest H) → IsTrue (test (h, count us)) → Meets ps us → NoDemandedRedex rules h us
  part_no_demand rule among test ps part h us e met =
      let c = regular-compiles regular in
      let k : Forest H → Matcher H = λ ts. Skip Stop in
      let m = path h ps k in
      let alive : Alive (run m us) = subst Alive (sym (path-run h ps us k met)) tt in
      let x = apart_quiet rules (tree rules) c us (part_guarded regular rule among test ps part h k (λ ts. guarded_skip guarded_stop)) (part_apart regular rule among test ps part (h, count us) e h k) alive in
      quiet-no_demand rules (tree rules) c (regular-reads regular) h us (λ r es y. apart-done (subst (λ n. Apart (run m us) n) (c.finds h us r es y) x.1) alive) x.0

  pub part_no_redex : (rule : Compiled H) → Contains rules rule → (test : Label H → Bool) (ps : Patterns H) → IsPart test ps rule.args → (h : H) (us : Forest H) → IsTrue (test (h, count us)) → Meets ps us → NoRedex rules h us
  part_no_redex rule among test ps part h us e met =
      (no_demand-quiet rules (tree rules) (regular-compiles regular) (regular-reads regular) (part_no_demand rule among test ps part h us e met)).0

module _ {H : Type 0} (system : System H) where
  pub gives_some : (σ τ : Substitution H) (right : RightSide H) (t u : Tree H) → Gives system τ right t u → (v : Tree H) × Gives system σ right t v
  gives_some σ τ (pattern p) t u g = (apply σ p, refl)
  gives_some σ τ (operation op) t u g = (u, g)

  -- what a development marks at its root is a redex
  pub marked_redex : (t u : Tree H) (rule : Rule H) (σ τ : Substitution H) → Contains system.rules rule → apply σ rule.left ≡ t → Respects system.in_class σ rule.left → Gives system τ rule.right t u → IsRedex system t
  marked_redex t u rule σ τ listed applied respects gives =
      let k = in-get (contains-in listed) in
      let v = gives_some σ τ rule.right t u gives in
      (v.0, (k.0, record { rule = rule; listed = k.1; is_instance = record { left = record { substitution = σ; respects = respects; applied = applied }; right = v.1 } }))

  empty_developments : {ts us : Forest H} {n : ℕ} → Developments system ts us n → ts ≡ empty → (us ≡ empty) × (n ≡ 0)
  empty_developments none e = (refl, refl)
  empty_developments (more d ds) e = absurd (cc)

  -- a constant that is no redex develops to itself, with no weight
  pub constant_still : {t u : Tree H} {n : ℕ} (h : H) → t ≡ node h empty → (IsRedex system (node h empty) → ⊥) → Development system t u n → (u ≡ t) × (n ≡ 0)
  constant_still h e stuck (unmarked {h = g} {ts = ts} ds) =
      let x = empty_developments ds (let z : ts ≡ empty = cc in z) in
      (ap (λ z. node g z) x.0 ∙ ap (λ z. node g z) (let z : empty ≡ ts = cc in z), x.1)
  constant_still {t} {u} h e stuck (marked rule σ τ v listed applied respects ds gives) = absurd (stuck (subst (λ z. IsRedex system z) e (marked_redex t u rule σ τ listed applied respects gives)))

  -- so restricted variables are still
  pub restricted_still : (same : H → H → Bool) (σ τ : Substitution H) (w : ℕ → ℕ) (ps : Forest (PatternCell H)) (ts : Forest H) →
      ((test : Label H → Bool) (qs : Patterns H) → IsPart test qs (tests same system.in_class ps) → (h : H) (us : Forest H) → IsTrue (test (h, count us)) → Meets qs us → IsRedex system (node h us) → ⊥) →
      FitAll system.in_class ps ts → Agrees system.in_class σ (all_bindings system.in_class ps ts) → ((x : ℕ) → Development system (σ x) (τ x) (w x)) → AreStill σ τ w (all_restrictions ps)
  restricted_still same σ τ w empty ts clean x a ds = tt
  restricted_still same σ τ w (grow p ps) empty clean x a ds = absurd x
  restricted_still same σ τ w (grow (node (fixed g) qs) ps) (grow (node h us) ts) clean x a ds =
      all_both (λ r. (τ r.0 ≡ σ r.0) × (w r.0 ≡ 0)) (all_restrictions qs) (all_restrictions ps)
      (restricted_still same σ τ w qs us (λ t rs i. clean t rs (part_below i)) x.0.1 (agrees_front system.in_class σ (all_bindings system.in_class qs us) (all_bindings system.in_class ps ts) a) ds)
      (restricted_still same σ τ w ps ts (λ t rs i. clean t rs (part_after i)) x.1 (agrees_back system.in_class σ (all_bindings system.in_class qs us) (all_bindings system.in_class ps ts) a) ds)
  restricted_still same σ τ w (grow (node (variable y) qs) ps) (grow t ts) clean x a ds = restricted_still same σ τ w ps ts (λ t rs i. clean t rs (part_skip i)) x.1 a.1 ds
  restricted_still same σ τ w (grow (node (restricted y class) qs) ps) (grow (node h empty) ts) clean x a ds =
      (constant_still h a.0 (λ r. clean _ _ part_here h empty (both_true x.0 refl) tt r) (ds y), restricted_still same σ τ w ps ts (λ t rs i. clean t rs (part_after i)) x.1 a.1 ds)
  restricted_still same σ τ w (grow (node (restricted y class) qs) ps) (grow (node h (grow u us)) ts) clean x a ds = absurd x.0
