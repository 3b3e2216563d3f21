-- Where the plain run ends, the graph run ends too, after at most as many replacements.
use Rattle.std.proofs.Common.{◌≡◌, ℕ, zero, suc, ◌<◌, ◌≤◌, List, [], ◌∷◌, Some, inl, inr, refl, sym, ◌∙◌, ap, subst, arith}
use Rattle.std.specs.Prelude.{slice_get}
use Rattle.eq_base.specs.Tree.{Tree, Forest, node, empty, grow, map_all_heads, Position, subtree_at, subtree_in}
use Rattle.eq_base.specs.Rewriting.{RightSide, pattern, operation, System, Gives, RootStep, IsRedexBy, IsFirst, IsNormal}
use Rattle.orthogonal_laws.specs.Orthogonal.{IsWellFormedSystem, IsOrthogonal}
use Rattle.orthogonal_laws.specs.Strategy.{IsNext, HasLength}
use Rattle.orthogonal_laws.specs.Strategy as strategy
use Rattle.orthogonal_laws.proofs.Members.{get-in, in-contains}
use Rattle.orthogonal_laws.proofs.NextLaws.{normal_or_next_redex, next_has_step}
use Rattle.orthogonal_laws.proofs.RunLaws.{run_after_shared, one_run}
use Rattle.graph_laws.specs.Numbered.{Numbered, plain, root_number, AllParts, AreShared}
use Rattle.graph_laws.specs.Replacing.{replace_in_all, replaced_trees}
use Rattle.graph_laws.specs.Runs.{IsReplaced, IsNextNode, GraphRun, start, then}
use Rattle.graph_laws.specs.Rewritten.{HasNumber}
use Rattle.graph_laws.specs.SharedRuns.{GraphEnds, HaveConstantValues}
use Rattle.graph_laws.proofs.Numbering.{part-at, part-here}
use Rattle.graph_laws.proofs.PlainResults.{ReplacesRight}
use Rattle.graph_laws.proofs.ListEntries.{all_get}
use Rattle.graph_laws.proofs.Rewriting.{rewrites, shared_step}
use Rattle.graph_laws.proofs.KeepingShared.{stay_shared}
use Rattle.graph_laws.proofs.FirstFits.{some_meets, first_fit}

module _ {H : Type 0} where
  mutual
    -- a subtree of the plain tree is a part without its numbers
    pub part-of : (t : Numbered H) (q : Position) (s : Tree H) → subtree_at (plain t) q ≡ Some s → (p : Numbered H) × (subtree_at t q ≡ Some p) × (plain p ≡ s)
    part-of t [] s e = (t, refl, cc)
    part-of (node l args) (i ∷ q) s e = part-of_in args i q s e

    part-of_in : (ts : Forest (H × ℕ)) (i : ℕ) (q : Position) (s : Tree H) → subtree_in (map_all_heads (λ l. l.0) ts) i q ≡ Some s → (p : Numbered H) × (subtree_in ts i q ≡ Some p) × (plain p ≡ s)
    part-of_in empty i q s e = absurd (cc)
    part-of_in (grow t ts) zero q s e = part-of t q s e
    part-of_in (grow t ts) (suc i) q s e = part-of_in ts i q s e

  -- one replacement before a run
  pub run_from : {system : System H} {root : ℕ} {trees between : List (Numbered H)} {n : ℕ} → IsNextNode system trees root n → IsReplaced system n trees between → {k : ℕ} {after : List (Numbered H)} → GraphRun system root between k after → GraphRun system root trees (suc k) after
  run_from next x start = then start next x
  run_from next x (then run next' x') = then (run_from next x run) next' x'

module _ {H : Type 0} (system : System H) (w : IsWellFormedSystem system) (o : IsOrthogonal system) (constant : HaveConstantValues system) where
  -- a node that is a redex can be replaced
  pub can_replace : (trees : List (Numbered H)) (n : ℕ) (t : Numbered H) → slice_get trees n ≡ Some t → root_number t ≡ n → (v : Tree H) → RootStep system (plain t) v → (after : List (Numbered H)) × IsReplaced system n trees after
  can_replace trees n t stands own v r = of_first (first_fit system w o r.0 (plain t) (v, r.1))
    where
      of_right : (number : ℕ) (fits : IsRedexBy system number (plain t)) → (right : RightSide H) → fits.1.rule.right ≡ right → (after : List (Numbered H)) × ReplacesRight system fits.1.rule.left right n (plain t) trees after
      of_right number fits (pattern p) e =
          let rule = fits.1.rule in
          let m = some_meets system.in_class rule.left t (o.linear rule (in-contains (get-in system.rules number rule fits.1.listed))) fits.1.is_instance.left in
          (replaced_trees m.0 p n trees, record { tree = t; stands = stands; substitution = m.0; meets = m.1; result = refl })
      of_right number fits (operation op) e =
          let rule = fits.1.rule in
          let value : system.value_of op (plain t) ≡ Some fits.0 = subst (λ z. Gives system fits.1.is_instance.left.substitution z (plain t) fits.0) e fits.1.is_instance.right in
          let h = constant rule (in-contains (get-in system.rules number rule fits.1.listed)) op e (plain t) fits.0 value in
          (replace_in_all n (node (h.0, n) empty) trees, (h.0, value ∙ ap (λ z. Some z) h.1, refl))

      of_first : (first : ℕ) × IsRedexBy system first (plain t) × IsFirst system first (plain t) → (after : List (Numbered H)) × IsReplaced system n trees after
      of_first f =
          let x = of_right f.0 f.1 f.1.1.rule.right refl in
          (x.0, record { tree = t; stands = stands; followed = own; number = f.0; rule = f.1.1.rule; listed = f.1.1.listed; redex = f.1; first = f.2; replaces = x.1 })

  -- where the next redex is, there is a node to be replaced
  pub can_go_on : (trees : List (Numbered H)) (root : ℕ) (t : Numbered H) → AreShared trees → slice_get trees root ≡ Some t → (q : Position) → IsNext system (plain t) q → (n : ℕ) × (after : List (Numbered H)) × IsNextNode system trees root n × IsReplaced system n trees after
  can_go_on trees root t shared e q next =
      let s = next_has_step system w o (plain t) q next in
      let p = part-of t q s.1.redex s.1.stands in
      let stands = part-here (λ p. slice_get trees (root_number p) ≡ Some p) p.0 (part-at _ t q p.0 (all_get (λ t. AllParts (λ p. slice_get trees (root_number p) ≡ Some p) t) trees root t shared e) p.1) in
      let x = can_replace trees (root_number p.0) p.0 stands refl s.1.contractum (subst (λ z. RootStep system z s.1.contractum) (sym p.2) s.1.root_step) in
      (root_number p.0, x.0, record { tree = t; stands = e; position = q; next = next; part = p.0; there = p.1; own = refl }, x.1)

  -- one replacement of the run, after which the plain run is shorter
  record Goes (trees : List (Numbered H)) (root : ℕ) (v : Tree H) (m : ℕ) : Type 0 where
    n : ℕ
    between : List (Numbered H)
    next : IsNextNode system trees root n
    replaced : IsReplaced system n trees between
    tree : Numbered H
    stands : slice_get between root ≡ Some tree
    shared : AreShared between
    length : ℕ
    has : HasLength system (plain tree) length v
    less : length < m

  goes : (trees : List (Numbered H)) (root : ℕ) (t : Numbered H) → AreShared trees → slice_get trees root ≡ Some t → (v : Tree H) (m : ℕ) → HasLength system (plain t) m v → (q : Position) → IsNext system (plain t) q → Goes trees root v m
  goes trees root t shared e v m l q next =
      let x = can_go_on trees root t shared e q next in
      let a = rewrites system trees x.1 x.0 root t shared x.3 e in
      let same : x.2.tree ≡ t = let y = x.2.stands in cc in
      let number : HasNumber t x.2.position x.0 = subst (λ z. HasNumber z x.2.position x.0) same (record { part = x.2.part; stands = x.2.there; own = x.2.own }) in
      let s = shared_step system x.0 t a.tree x.2.position a.rewritten (subst (λ z. IsNext system (plain z) x.2.position) same x.2.next) number in
      let y = run_after_shared system w o (plain t) (plain a.tree) v m s l in
      record { n = x.0; between = x.1; next = x.2; replaced = x.3; tree = a.tree; stands = a.stands; shared = stay_shared system w o trees x.1 x.0 shared x.3; length = y.0; has = y.1; less = y.2 }

  normal_there : (trees : List (Numbered H)) (root : ℕ) (t : Numbered H) → slice_get trees root ≡ Some t → (v : Tree H) (m : ℕ) → HasLength system (plain t) m v → IsNormal system (plain t) → GraphEnds system root trees 0 trees v
  normal_there trees root t e v m l normal =
      let same = (one_run system w o (plain t) (plain t) v 0 m (record { run = strategy.start; normal = normal }) l).1 in
      record { run = start; stands = (t, e, same); normal = l.normal }

  -- the graph run ends where the plain run does, and no later
  pub run_ends : (fuel : ℕ) (trees : List (Numbered H)) (root : ℕ) (t : Numbered H) → AreShared trees → slice_get trees root ≡ Some t → (v : Tree H) (m : ℕ) → m ≤ fuel → HasLength system (plain t) m v → (n : ℕ) × (after : List (Numbered H)) × GraphEnds system root trees n after v × (n ≤ m)
  run_ends zero trees root t shared e v m within l =
      elim (normal_or_next_redex system w o (plain t)) [
        | inl normal ↦ (0, trees, normal_there trees root t e v m l normal, omega arith)
        | inr next ↦ let g = goes trees root t shared e v m l next.0 next.1 in absurd (let less = g.less in omega arith)
      ]
  run_ends (suc fuel) trees root t shared e v m within l =
      elim (normal_or_next_redex system w o (plain t)) [
        | inl normal ↦ (0, trees, normal_there trees root t e v m l normal, omega arith)
        | inr next ↦
            let g = goes trees root t shared e v m l next.0 next.1 in
            let less = g.less in
            let r = run_ends fuel g.between root g.tree g.shared g.stands v g.length (omega arith) g.has in
            let le = r.3 in
            (suc r.0, r.1, record { run = run_from g.next g.replaced r.2.run; stands = r.2.stands; normal = r.2.normal }, omega arith)
      ]
