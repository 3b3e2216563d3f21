-- A node that is matched at a tested position below a redex is no redex, and becomes none.
use Rattle.std.proofs.Common.{◌≡◌, ◌≢◌, ℕ, zero, suc, List, [], ◌∷◌, Some, refl, ◌∙◌, ap, subst}
use Rattle.std.specs.Prelude.{Contains, slice_get}
use Rattle.std.specs.List.{AllByRecursion}
use Rattle.eq_base.specs.Tree.{Tree, Forest, node, empty, grow, head_of, Position, subtree_at, subtree_in}
use Rattle.eq_base.specs.Pattern.{PatternCell, fixed, variable, restricted, Classes, IsConstantOf, restrictions, all_restrictions, Substitution, apply, apply_all, Respects, IsInstanceOf}
use Rattle.eq_base.specs.Rewriting.{System, Rule}
use Rattle.eq_base.specs.Testing.{IsTestedAt, IsPattern, ArePatterns}
use Rattle.eq_base.proofs.Lists.{all_front, all_back}
use Rattle.orthogonal_laws.specs.Orthogonal.{IsWellFormedSystem, IsOrthogonal}
use Rattle.orthogonal_laws.specs.Strategy.{HasNoDemandedRedex}
use Rattle.orthogonal_laws.proofs.NextLaws.{part_without_demand}
use Rattle.graph_laws.specs.Numbered.{Numbered, plain, root_number, AllParts, AreShared}
use Rattle.graph_laws.specs.Runs.{ReplacementList, done, next}
use Rattle.graph_laws.proofs.KeepingShared.{stay_shared}
use Rattle.graph_laws.proofs.ScannedNodes.{plain-at, tree_after, no_demand_kept}
use Rattle.graph_laws.proofs.PartsStay.{no_part}
use Rattle.graph_laws.proofs.Numbering.{part-at, part-here}
use Rattle.graph_laws.proofs.ListEntries.{all_get}

module _ {H : Type 0} (in_class : Classes H) (σ : Substitution H) where
  mutual
    -- the value of a part stands at its position, and the part's restrictions are respected
    value-at : (p : Tree (PatternCell H)) (q : Position) (part : Tree (PatternCell H)) → subtree_at p q ≡ Some part → IsPattern p → Respects in_class σ p → (subtree_at (apply σ p) q ≡ Some (apply σ part)) × Respects in_class σ part
    value-at p [] part e whole respects = let same : p ≡ part = cc in (ap (λ z. Some (apply σ z)) same, subst (λ z. Respects in_class σ z) same respects)
    value-at (node (fixed h) ps) (i ∷ q) part e whole respects = values-at ps i q part e whole respects
    value-at (node (variable x) ps) (i ∷ q) part e whole respects = absurd (no_part ps i q part whole e)
    value-at (node (restricted x class) ps) (i ∷ q) part e whole respects = absurd (no_part ps i q part whole e)

    values-at : (ps : Forest (PatternCell H)) (i : ℕ) (q : Position) (part : Tree (PatternCell H)) → subtree_in ps i q ≡ Some part → ArePatterns ps → AllByRecursion (λ r. IsConstantOf in_class r.1 (σ r.0)) (all_restrictions ps) → (subtree_in (apply_all σ ps) i q ≡ Some (apply σ part)) × Respects in_class σ part
    values-at empty i q part e whole respects = absurd (cc)
    values-at (grow p ps) zero q part e whole respects = value-at p q part e whole.0 (all_front _ (restrictions p) (all_restrictions ps) respects)
    values-at (grow p ps) (suc i) q part e whole respects = values-at ps i q part e whole.1 (all_back _ (restrictions p) (all_restrictions ps) respects)

module _ {H : Type 0} (system : System H) (w : IsWellFormedSystem system) (o : IsOrthogonal system) where
  -- a node without a demanded redex keeps its head and its number, and stays without one
  pub record Rests (i : ℕ) (t : Numbered H) (after : List (Numbered H)) : Type 0 where
    pub tree : Numbered H
    pub stands : slice_get after i ≡ Some tree
    pub root : head_of tree ≡ head_of t
    pub rests : HasNoDemandedRedex system (plain tree)

  pub list_rests : {trees after : List (Numbered H)} {ns : List ℕ} → ReplacementList system trees ns after → AreShared trees → (i : ℕ) (t : Numbered H) → slice_get trees i ≡ Some t → HasNoDemandedRedex system (plain t) → Rests i t after
  list_rests done shared i t e none = record { tree = t; stands = e; root = refl; rests = none }
  list_rests (next {trees = trees} {between = between} {n = n} x rest) shared i t e none =
      let k = no_demand_kept system trees between n shared x w o i t e none in
      let y = list_rests rest (stay_shared system w o trees between n shared x) i _ (tree_after system trees between n shared x i t e) k.1 in
      record { tree = y.tree; stands = y.stands; root = y.root ∙ k.0.root; rests = y.rests }

  -- a matched node, at a tested position other than the root
  pub matched : (rule : Rule H) → Contains system.rules rule → (q : Position) → q ≢ [] → IsTestedAt rule.left q → (t part : Numbered H) → IsInstanceOf system.in_class rule.left (plain t) → subtree_at t q ≡ Some part → HasNoDemandedRedex system (plain part)
  matched rule listed q below tested t part i at =
      let σ = i.substitution in
      let value = value-at system.in_class σ rule.left q tested.part tested.stands (w.patterns rule listed) i.respects in
      let there = subst (λ z. subtree_at z q ≡ Some (apply σ tested.part)) i.applied value.0 in
      let same : apply σ tested.part ≡ plain part = let z = plain-at t q part at in cc in
      part_without_demand system w o rule listed q below tested (plain part) (record { substitution = σ; respects = value.1; applied = same })

  pub matched_rests : (rule : Rule H) → Contains system.rules rule → (q : Position) → q ≢ [] → IsTestedAt rule.left q → (trees after : List (Numbered H)) (ns : List ℕ) (i : ℕ) (t part : Numbered H) → AreShared trees → slice_get trees i ≡ Some t → IsInstanceOf system.in_class rule.left (plain t) → subtree_at t q ≡ Some part → ReplacementList system trees ns after → Rests (root_number part) part after
  matched_rests rule listed q below tested trees after ns i t part shared e is at list =
      let stands = part-here (λ p. slice_get trees (root_number p) ≡ Some p) part (part-at _ t q part (all_get (λ t. AllParts (λ p. slice_get trees (root_number p) ≡ Some p) t) trees i t shared e) at) in
      list_rests list shared (root_number part) part stands (matched rule listed q below tested t part is at)
