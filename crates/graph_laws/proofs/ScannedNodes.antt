-- What a scan of a store has found stays under the replacement of any node.
use Rattle.std.proofs.Common.{◌≡◌, ◌≢◌, ℕ, zero, suc, cond, List, [], ◌∷◌, Some, refl, sym, ◌∙◌, ap, subst, Bool, true, false, ◌↔◌}
use Rattle.std.specs.Prelude.{Contains, slice_get}
use Rattle.std.proofs.lemmas.Bool.{ne_eqb}
use Rattle.eq_base.specs.Tree.{Forest, node, empty, grow, count, map_all_heads, Position, subtree_at, subtree_in}
use Rattle.eq_base.specs.Pattern.{IsInstanceOf}
use Rattle.eq_base.specs.Rewriting.{System, Rule, IsRedexBy, IsRedex, IsNormal}
use Rattle.eq_base.specs.Testing.{IsTestedAt}
use Rattle.orthogonal_laws.specs.Orthogonal.{IsWellFormedSystem, IsOrthogonal}
use Rattle.orthogonal_laws.specs.Strategy.{HasNoDemandedRedex}
use Rattle.orthogonal_laws.specs.Development.{marks}
use Rattle.orthogonal_laws.proofs.NextLaws.{no_demand_stays}
use Rattle.graph_laws.specs.Numbered.{Numbered, plain, root_number, AllParts, AllPartsIn, AreShared, replace_numbered, replace_all_numbered}
use Rattle.graph_laws.specs.Replacing.{replace_in_all}
use Rattle.graph_laws.specs.Runs.{IsReplaced}
use Rattle.graph_laws.specs.Rewritten.{HasNumber, IsRewritten, IsSameNode}
use Rattle.graph_laws.proofs.Numbering.{put_nowhere, part-at, part-here}
use Rattle.graph_laws.proofs.PlainResults.{comes}
use Rattle.graph_laws.proofs.ListEntries.{all_get, get_left, get_map}
use Rattle.graph_laws.proofs.Rewriting.{rewrites, develops, only_one}
use Rattle.graph_laws.proofs.SameRules.{same_rules}
use Rattle.graph_laws.proofs.PartsStay.{no_root, part_stays}

module _ {H : Type 0} where
  mutual
    -- the part at a position, without its numbers
    pub plain-at : (t : Numbered H) (q : Position) (s : Numbered H) → subtree_at t q ≡ Some s → subtree_at (plain t) q ≡ Some (plain s)
    plain-at t [] s e = let same : t ≡ s = cc in ap (λ z. Some (plain z)) same
    plain-at (node l args) (i ∷ q) s e = plain-in args i q s e

    plain-in : (ts : Forest (H × ℕ)) (i : ℕ) (q : Position) (s : Numbered H) → subtree_in ts i q ≡ Some s → subtree_in (map_all_heads (λ l. l.0) ts) i q ≡ Some (plain s)
    plain-in empty i q s e = absurd (cc)
    plain-in (grow t ts) zero q s e = plain-at t q s e
    plain-in (grow t ts) (suc i) q s e = plain-in ts i q s e

  mutual
    -- what holds at each position holds of each part
    parts-from : (P : Numbered H → Type 0) (t : Numbered H) → ((q : Position) (s : Numbered H) → subtree_at t q ≡ Some s → P s) → AllParts P t
    parts-from P (node l args) f = (f [] (node l args) refl, parts_in-from P args (λ i q. f (i ∷ q)))

    parts_in-from : (P : Numbered H → Type 0) (ts : Forest (H × ℕ)) → ((i : ℕ) (q : Position) (s : Numbered H) → subtree_in ts i q ≡ Some s → P s) → AllPartsIn P ts
    parts_in-from P empty f = tt
    parts_in-from P (grow t ts) f = (parts-from P t (f 0), parts_in-from P ts (λ i. f (suc i)))

  put_in : (n : ℕ) (c : Numbered H) (ts : Forest (H × ℕ)) (i : ℕ) (a : Numbered H) → subtree_in ts i [] ≡ Some a → subtree_in (replace_all_numbered n c ts) i [] ≡ Some (replace_numbered n c a)
  put_in n c empty i a e = absurd (cc)
  put_in n c (grow t ts) zero a e = let same : t ≡ a = cc in ap (λ z. Some (replace_numbered n c z)) same
  put_in n c (grow t ts) (suc i) a e = put_in n c ts i a e

  pub count-put : (n : ℕ) (c : Numbered H) (ts : Forest (H × ℕ)) → count (replace_all_numbered n c ts) ≡ count ts
  count-put n c empty = refl
  count-put n c (grow t ts) = ap suc (count-put n c ts)

  module _ (system : System H) (trees after : List (Numbered H)) (n : ℕ) (shared : AreShared trees) (x : IsReplaced system n trees after) where
    abbrev new_tree : Numbered H
    new_tree = (comes system n trees after x).contractum

    pub tree_after : (i : ℕ) (t : Numbered H) → slice_get trees i ≡ Some t → slice_get after i ≡ Some (replace_numbered n new_tree t)
    tree_after i t e =
        subst (λ z. slice_get z i ≡ Some (replace_numbered n new_tree t)) (sym (comes system n trees after x).is)
        (get_left (replace_in_all n new_tree trees) (comes system n trees after x).new i (replace_numbered n new_tree t) (get_map (replace_numbered n new_tree) trees i t e))

    stands_at : (i : ℕ) (t : Numbered H) → slice_get trees i ≡ Some t → AllParts (λ p. slice_get trees (root_number p) ≡ Some p) t
    stands_at i t e = all_get (λ t. AllParts (λ p. slice_get trees (root_number p) ≡ Some p) t) trees i t shared e

    -- any other node keeps its head and its number, and its arguments follow
    pub other_kept : (i : ℕ) (t : Numbered H) → slice_get trees i ≡ Some t → root_number t ≢ n → IsSameNode after t (replace_numbered n new_tree t)
    other_kept i (node l args) e other =
        let kept : IsSameNode after (node l args) (node l (replace_all_numbered n new_tree args)) = record {
          root = refl;
          count = count-put n new_tree args;
          arguments = λ j a stands.
              (replace_numbered n new_tree a, put_in n new_tree args j a stands, tree_after (root_number a) a (part-here _ a (part-at _ (node l args) (j ∷ []) a (stands_at i (node l args) e) stands)));
        } in
        subst (λ b. IsSameNode after (node l args) (cond b new_tree (node l (replace_all_numbered n new_tree args)))) (sym (ne_eqb l.1 n other)) kept

    -- the part with the number is a redex
    is_redex : (i : ℕ) (t p : Numbered H) (q : Position) → slice_get trees i ≡ Some t → subtree_at t q ≡ Some p → root_number p ≡ n → IsRedex system (plain p)
    is_redex i t p q e stands own =
        let only = part-at (λ p. root_number p ≡ n → p ≡ x.tree) t q p (only_one trees n x.tree shared x.stands i t e) stands in
        let same : p ≡ x.tree = part-here (λ p. root_number p ≡ n → p ≡ x.tree) p only own in
        subst (λ z. IsRedex system (plain z)) (sym same) (x.redex.0, (x.number, x.redex.1))

    -- a node that stands for a normal form has the same tree afterwards
    pub normal_kept : (i : ℕ) (t : Numbered H) → slice_get trees i ≡ Some t → IsNormal system (plain t) → slice_get after i ≡ Some t
    normal_kept i t e normal = subst (λ z. slice_get after i ≡ Some z) (put_nowhere n new_tree t (parts-from _ t (λ q p stands. ne_eqb (root_number p) n (λ own. no_step q p stands (is_redex i t p q e stands own))))) (tree_after i t e)
      where
        no_step : (q : Position) (p : Numbered H) → subtree_at t q ≡ Some p → IsRedex system (plain p) → ⊥
        no_step q p stands r = normal _ (q, record { redex = plain p; contractum = r.0; stands = plain-at t q p stands; root_step = r.1; result = refl })

    rewritten_at : (i : ℕ) (t : Numbered H) → slice_get trees i ≡ Some t → IsRewritten system n t (replace_numbered n new_tree t)
    rewritten_at i t e =
        let a = rewrites system trees after n i t shared x e in
        let same : a.tree ≡ replace_numbered n new_tree t = let y = a.stands in let z = tree_after i t e in cc in
        subst (λ z. IsRewritten system n t z) same a.rewritten

    module _ (w : IsWellFormedSystem system) (o : IsOrthogonal system) where
      -- a node without a demanded redex stays without one
      pub no_demand_kept : (i : ℕ) (t : Numbered H) → slice_get trees i ≡ Some t → HasNoDemandedRedex system (plain t) → IsSameNode after t (replace_numbered n new_tree t) × HasNoDemandedRedex system (plain (replace_numbered n new_tree t))
      no_demand_kept i t e none =
          let d = develops system n t (replace_numbered n new_tree t) (rewritten_at i t e) in
          let stays = no_demand_stays system w o (plain t) (plain (replace_numbered n new_tree t)) d.weight none d.development in
          (other_kept i t e (λ own. no_root system none (is_redex i t t [] e refl own)), stays.1)

      -- an instance of a tested part of a left side, other than the whole, stays one
      pub part_kept : (rule : Rule H) → Contains system.rules rule → (q : Position) → q ≢ [] → (tested : IsTestedAt rule.left q) → (i : ℕ) (t : Numbered H) → slice_get trees i ≡ Some t → IsInstanceOf system.in_class tested.part (plain t) → IsInstanceOf system.in_class tested.part (plain (replace_numbered n new_tree t))
      part_kept rule listed q below tested i t e is =
          let d = develops system n t (replace_numbered n new_tree t) (rewritten_at i t e) in
          part_stays system w o rule listed q below tested (plain t) (plain (replace_numbered n new_tree t)) d.weight is d.development

      -- any other node that is a redex stays one by the same rules
      pub redex_kept : (i : ℕ) (t : Numbered H) → slice_get trees i ≡ Some t → root_number t ≢ n → IsRedex system (plain t) → (number : ℕ) → IsRedexBy system number (plain t) ↔ IsRedexBy system number (plain (replace_numbered n new_tree t))
      redex_kept i t e other redex number =
          let d = develops system n t (replace_numbered n new_tree t) (rewritten_at i t e) in
          same_rules system w o (plain t) (plain (replace_numbered n new_tree t)) d.weight redex d.development (unmarked (marks d.development []) (λ on. other (root_has ((d.exactly []).0 on)))) number
        where
          unmarked : (b : Bool) → (b ≡ true → ⊥) → b ≡ false
          unmarked true not_on = absurd (not_on refl)
          unmarked false not_on = refl

          root_has : HasNumber t [] n → root_number t ≡ n
          root_has x = let same : t ≡ x.part = let y = x.stands in cc in ap root_number same ∙ x.own
