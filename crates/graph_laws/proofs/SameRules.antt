-- A redex whose root is not marked stays a redex by the same rules.
use Rattle.std.proofs.Common.{◌≡◌, ℕ, List, [], ◌∷◌, false, ◌↔◌, refl, sym, ◌∙◌, subst}
use Rattle.std.specs.Prelude.{Contains}
use Rattle.eq_base.specs.Tree.{Tree, Forest, node, empty, grow, count}
use Rattle.eq_base.specs.Rewriting.{System, IsRedexBy, IsRedex}
use Rattle.orthogonal_laws.specs.Orthogonal.{IsWellFormedSystem, IsOrthogonal}
use Rattle.orthogonal_laws.specs.Development.{Development, marks}
use Rattle.orthogonal_laws.proofs.Members.{get-in, in-contains, in-map}
use Rattle.orthogonal_laws.proofs.LeftSides.{Compiled, open_parts, fill}
use Rattle.orthogonal_laws.proofs.ForestDevelopments.{Develops, nil, keep, contract, marks_at}
use Rattle.orthogonal_laws.proofs.Matchers.{Done, run, rule_tree, tree}
use Rattle.orthogonal_laws.proofs.TestedParts.{redex_quiet}
use Rattle.orthogonal_laws.proofs.DecisionTrees.{regular-compiles, regular-sequential}
use Rattle.orthogonal_laws.proofs.SameRule.{same_rule, fits-run, run-fits}
use Rattle.orthogonal_laws.proofs.Translation.{args_tests}
use Rattle.orthogonal_laws.proofs.Redexes.{compile, compiled, step-redex, instance-fits, fits-instance}
use Rattle.orthogonal_laws.proofs.Regularity.{orthogonal-regular}
use Rattle.orthogonal_laws.proofs.Developing.{develop-to}

module _ {H : Type 0} (system : System H) (w : IsWellFormedSystem system) (o : IsOrthogonal system) where
  -- below an unmarked root the arguments develop
  record Inner (h : H) (args ws : Forest H) : Type 0 where
    us : Forest H
    weights : List ℕ
    is : ws ≡ grow (node h us) empty
    develops : Develops (compiled system w) args us weights

  inner : {h : H} {args ws : Forest H} {ns : List ℕ} (d : Develops (compiled system w) (grow (node h args) empty) ws ns) → marks_at d (0 ∷ []) ≡ false → Inner h args ws
  inner (keep {us = us} {ns = ns} dk nil) off = record { us = us; weights = ns; is = refl; develops = dk }
  inner (contract x dk nil) off = absurd (cc)

  moved : (h : H) (args us : Forest H) → ((rule : Compiled H) → Contains (compiled system w) rule → run (rule_tree rule (h, count us)) us ≡ run (rule_tree rule (h, count args)) args) → (number : ℕ) → IsRedexBy system number (node h args) → IsRedexBy system number (node h us)
  moved h args us same number fit =
      let regular = orthogonal-regular system w o in
      let rule = fit.1.rule in
      let i = get-in system.rules number rule fit.1.listed in
      let x = instance-fits system w o rule (in-contains i) h args fit.0 fit.1.is_instance in
      let r = fits-run (compiled system w) regular (compile system w rule) h args x.parts x.right x.fits in
      let y = run-fits (compiled system w) regular (compile system w rule) h us x.right (◌∙◌ {c = Done x.right} (same (compile system w rule) (in-contains (in-map (compile system w) i))) r) in
      let es = open_parts (args_tests w.same system.in_class rule.left) us empty in
      (fill h x.right es, record { rule = rule; listed = fit.1.listed; is_instance = fits-instance system w o rule (in-contains i) h us es x.right y })

  -- the same rules fit before and after
  pub same_rules : (t u : Tree H) (n : ℕ) → IsRedex system t → (d : Development system t u n) → marks d [] ≡ false → (number : ℕ) → IsRedexBy system number t ↔ IsRedexBy system number u
  same_rules (node h args) u n redex d off number =
      let regular = orthogonal-regular system w o in
      let rules = compiled system w in
      let c = regular-compiles regular in
      let x = develop-to system w o d nil in
      let y = inner x.develops (x.here [] ∙ off) in
      let s = step-redex system w o h args redex.0 redex.1 in
      let quiet = redex_quiet rules (tree rules) c (regular-sequential regular) h args s.parts s.right s.redex in
      let same = λ (rule : Compiled H) (among : Contains rules rule). same_rule rules regular h args y.us y.weights quiet y.develops rule among in
      let e : node h y.us ≡ u = let z = y.is in cc in (
        λ f. subst (λ z. IsRedexBy system number z) e (moved h args y.us same number f),
        λ f. moved h y.us args (λ rule among. sym (same rule among)) number (subst (λ z. IsRedexBy system number z) (sym e) f),
      )
