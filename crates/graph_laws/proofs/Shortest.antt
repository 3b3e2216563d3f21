-- No replacement list that leads to a normal form is shorter than the graph run.
use Rattle.std.proofs.Common.{◌≡◌, ◌≢◌, ℕ, zero, suc, ◌+◌, ◌<◌, ◌≤◌, ◌==◌, List, [], ◌∷◌, ◌++◌, length, Bool, true, false, Some, inl, inr, refl, sym, ◌∙◌, ap, subst, arith, length-append}
use Rattle.std.specs.Prelude.{slice_get}
use Rattle.std.specs.List.{AllByRecursion}
use Rattle.std.proofs.lemmas.Bool.{eqb-true, eqb-false, ne_eqb}
use Rattle.std.proofs.lemmas.Option.{slice_get_within}
use Rattle.eq_base.specs.Tree.{Tree, node, Position, subtree_at}
use Rattle.eq_base.specs.Rewriting.{System, RootStep, IsRedex, IsDerivable, IsNormal}
use Rattle.eq_base.proofs.Lists.{all_both, all_at}
use Rattle.orthogonal_laws.specs.Orthogonal.{IsWellFormedSystem, IsOrthogonal}
use Rattle.orthogonal_laws.specs.Strategy.{IsNext}
use Rattle.orthogonal_laws.proofs.NextLaws.{normal_or_next_redex, next_has_step, next_not_normal, next_one, next_outer, next_is_kept}
use Rattle.orthogonal_laws.proofs.RunLaws.{run_found}
use Rattle.graph_laws.specs.Numbered.{Numbered, plain, root_number, AllParts, AreShared, replace_numbered}
use Rattle.graph_laws.specs.Runs.{IsReplaced, IsNextNode, ReplacementList}
use Rattle.graph_laws.specs.Runs as runs
use Rattle.graph_laws.specs.SharedRuns.{StandsFor, GraphEnds, HaveConstantValues}
use Rattle.graph_laws.proofs.ManySteps.{replaced_develops}
use Rattle.graph_laws.proofs.Numbering.{parts-map, parts-both, part-at, part-here, Only, has_number, put_to}
use Rattle.graph_laws.proofs.ListEntries.{all_get, all_listed, get_left}
use Rattle.graph_laws.proofs.Rewriting.{only_one}
use Rattle.graph_laws.proofs.KeepingShared.{stay_shared}
use Rattle.graph_laws.proofs.Existence.{part-of, run_ends}
use Rattle.graph_laws.proofs.ReplacementLists.{run_listed, list_derives}
use Rattle.graph_laws.proofs.Contracts.{Contracts, contracts-step, Replaces, replaces-from, can_put}
use Rattle.graph_laws.proofs.Crossing.{IsOff, put_other, part-put, contracts_after}
use Rattle.graph_laws.proofs.ScannedNodes.{plain-at}
use Rattle.graph_laws.proofs.PutNumbers.{Numbers, put-numbers, contracts-numbers}
use Rattle.graph_laws.proofs.OneContraction.{one_contraction, some_contraction, put_crossed}
use Rattle.graph_laws.proofs.Renaming.{rename, rename-same, rename-put, contracts-rename, Ends, ended, goes, ends-from, one_number, renamed_ends}
use Rattle.graph_laws.proofs.Blocks.{moved, moved-injective, moved-same, moved-block, moved-above}

-- ---- one replacement more

module _ {H : Type 0} (system : System H) (w : IsWellFormedSystem system) (o : IsOrthogonal system) (constant : HaveConstantValues system) (root : ℕ) where
  abbrev Stands : List (Numbered H) → Numbered H → Type 0
  Stands trees p = slice_get trees (root_number p) ≡ Some p

  stand : (trees : List (Numbered H)) (i : ℕ) (t : Numbered H) → AreShared trees → slice_get trees i ≡ Some t → AllParts (Stands trees) t
  stand trees i t shared e = all_get (λ t. AllParts (Stands trees) t) trees i t shared e

  stands_there : (trees : List (Numbered H)) (i : ℕ) (t : Numbered H) (q : Position) (p : Numbered H) → AreShared trees → slice_get trees i ≡ Some t → subtree_at t q ≡ Some p → Stands trees p
  stands_there trees i t q p shared e at = part-here (Stands trees) p (part-at (Stands trees) t q p (stand trees i t shared e) at)

  -- two stores of one length, whose roots differ by the contraction of one node; its new cells have numbers that the first root's tree does not have
  record Apart (trees others : List (Numbered H)) (t : Numbered H) (m base many : ℕ) (s c : Numbered H) : Type 0 where
    shared : AreShared trees
    others_shared : AreShared others
    long : length others ≡ length trees
    at : slice_get trees root ≡ Some t
    others_at : slice_get others root ≡ Some (replace_numbered m c t)
    part : slice_get trees m ≡ Some s
    own : root_number s ≡ m
    contracts : Contracts system m base s c many
    below : base + many ≤ length trees
    fresh : Numbers (λ k. IsOff base many k) t

  module _ (trees others : List (Numbered H)) (t : Numbered H) (m base many : ℕ) (s c : Numbered H) (a : Apart trees others t m base many s c) where
    redex_s : IsRedex system (plain s)
    redex_s = let r = contracts-step system m base s c many a.contracts in (plain c, (a.contracts.number, r))

    only_s : Only m s t
    only_s = only_one trees m s a.shared a.part root t a.at

    -- the numbers of the new cells go above all others
    few : many ≤ many
    few = omega arith

    abbrev ρ : ℕ → ℕ
    ρ = moved base many (length trees) many few a.below

    injective : (a b : ℕ) → ρ a ≡ ρ b → a ≡ b
    injective = moved-injective base many (length trees) many few a.below

    shifts : (after : List (Numbered H)) → length after ≡ length trees + many → (i : ℕ) → ρ (length others + i) ≡ length after + i
    shifts after l i =
        let e : length others + i ≡ length trees + i = let z = a.long in omega arith in
        let e' : length trees + i + many ≡ length after + i = omega arith in
        ap ρ e ∙ (moved-above base many (length trees) many few a.below i ∙ e')

    -- where it is the node of the next redex, the run begins with its replacement
    begins : {k : ℕ} → Ends system root others k → (q : Position) (p : Numbered H) → IsNext system (plain t) q → subtree_at t q ≡ Some p → root_number p ≡ m → Ends system root trees (suc k)
    begins {k} e q p is_next at own =
        let same : p ≡ s = let x = stands_there trees root t q p a.shared a.at at in let y = a.part in let z = subst (λ j. slice_get trees j ≡ Some p) own x in cc in
        let within = parts-map (Stands trees) (λ p. root_number p < length trees) (λ p here. slice_get_within trees (root_number p) p here) t (stand trees root t a.shared a.at) in
        let still = parts-map _ (λ p. ρ (root_number p) ≡ root_number p) (λ p both. moved-same base many (length trees) many few a.below (root_number p) both.0 both.1) t (parts-both _ _ t within a.fresh) in
        let still_s = subst (λ z. AllParts (λ p. ρ (root_number p) ≡ root_number p) z) same (part-at (λ p. ρ (root_number p) ≡ root_number p) t q p still at) in
        let s_same = rename-same ρ s still_s in
        let m_same : ρ m ≡ m = subst (λ j. ρ j ≡ j) a.own (part-here (λ p. ρ (root_number p) ≡ root_number p) s still_s) in
        let d = rename ρ c in
        let x = contracts-rename ρ system m base (length trees) s c many (λ i less. moved-block base many (length trees) many few a.below i less) a.contracts in
        let y = subst (λ z. Contracts system m (length trees) z d many) s_same (subst (λ j. Contracts system j (length trees) (rename ρ s) d many) m_same x) in
        let put = can_put system m trees s d many a.part a.own y in
        let number_same : replace_numbered (ρ m) d (rename ρ t) ≡ replace_numbered m d (rename ρ t) = ap (λ j. replace_numbered j d (rename ρ t)) m_same in
        let tree_same : replace_numbered m d (rename ρ t) ≡ replace_numbered m d t = ap (replace_numbered m d) (rename-same ρ t still) in
        let renamed : rename ρ (replace_numbered m c t) ≡ replace_numbered m d t = rename-put ρ injective m c t ∙ (number_same ∙ tree_same) in
        let root_after = subst (λ z. slice_get put.after root ≡ Some z) (sym renamed) (put.at root t a.at) in
        let node : IsNextNode system trees root m = record { tree = t; stands = a.at; position = q; next = is_next; part = p; there = at; own = own } in
        goes {between = put.after} node put.replaced (renamed_ends system root w o ρ injective e a.others_shared (replace_numbered m c t) a.others_at put.after (stay_shared system w o trees put.after m a.shared put.replaced) root_after (λ i. shifts put.after put.long i))

    -- where it is another node, both stores have the next redex at the same place
    record Kept (q : Position) (p : Numbered H) : Type 0 where
      next : IsNext system (plain (replace_numbered m c t)) q
      at : subtree_at (replace_numbered m c t) q ≡ Some (replace_numbered m c p)

    kept : (q : Position) (p : Numbered H) → IsNext system (plain t) q → subtree_at t q ≡ Some p → root_number p ≢ m → Kept q p
    kept q p is_next at other =
        let put = put_to m s c t only_s in
        let step : RootStep system (plain s) (plain c) = (a.contracts.number, contracts-step system m base s c many a.contracts) in
        let d = replaced_develops system (plain s) (plain c) step put.replaced in
        let off = d.exactly q ∙ (put.exactly q ∙ (ap (has_number m) at ∙ ne_eqb (root_number p) m other)) in
        let z = next_has_step system w o (plain t) q is_next in
        let k = next_is_kept system w o (plain t) z.0 (plain (replace_numbered m c t)) q d.weight is_next z.1 d.development off in
        record { next = k.next; at = part-put m c t q p at (λ r r' u e some stands own. outer r r' u e some stands own) }
      where
        outer : (r r' : Position) (u : Numbered H) → q ≡ r ++ r' → r' ≢ [] → subtree_at t r ≡ Some u → root_number u ≡ m → ⊥
        outer r r' u e some stands own =
            let same : u ≡ s = part-here (λ p. root_number p ≡ m → p ≡ s) u (part-at _ t r u only_s stands) own in
            (next_outer system w o (plain t) q is_next).above r r' (plain u) e some (plain-at t r u stands) (subst (λ z. IsRedex system (plain z)) (sym same) redex_s)

    -- both stores after the replacement of that node
    record Next (others' : List (Numbered H)) : Type 0 where
      n : ℕ
      between : List (Numbered H)
      is_next : IsNextNode system trees root n
      replaced : IsReplaced system n trees between
      t' : Numbered H
      s' : Numbered H
      c' : Numbered H
      apart : Apart between others' t' m base many s' c'

    root_kept : (y : ℕ) (e : Numbered H) (u : Numbered H) → root_number u ≢ y → root_number (replace_numbered y e u) ≡ root_number u
    root_kept y e (node l args) other = ap root_number (put_other y e l args other)

    redex_at : (q : Position) (p : Numbered H) → IsNext system (plain t) q → subtree_at t q ≡ Some p → IsRedex system (plain p)
    redex_at q p is_next at =
        let x = next_has_step system w o (plain t) q is_next in
        let e : x.1.redex ≡ plain p = let y = plain-at t q p at in let z = x.1.stands in cc in
        (x.1.contractum, subst (λ z. RootStep system z x.1.contractum) e x.1.root_step)

    both : (others' : List (Numbered H)) (n : ℕ) (p : Numbered H) → n ≢ m → root_number p ≡ n → (q : Position) → IsNext system (plain t) q → subtree_at t q ≡ Some p → IsReplaced system n others others' → (number : ℕ) (r : Replaces system n others others' number) → r.part ≡ replace_numbered m c p → Next others'
    both others' n p other own q is_next at x number r part =
        let p_stands = subst (λ j. slice_get trees j ≡ Some p) own (stands_there trees root t q p a.shared a.at at) in
        let redex_p = redex_at q p is_next at in
        let z = some_contraction system w o constant n (length trees) p redex_p in
        let here = can_put system n trees p z.0 z.1 p_stands own z.2 in
        let fresh_p = part-at (λ u. IsOff base many (root_number u)) t q p a.fresh at in
        let off_n : IsOff base many n = subst (λ j. IsOff base many j) own (part-here (λ u. IsOff base many (root_number u)) p fresh_p) in
        let m_within = slice_get_within trees m s a.part in
        let off_m : IsOff (length trees) z.1 m = (λ i less e. omega arith) in
        let only_p_s = only_one trees n p a.shared p_stands m s a.part in
        let only_s_p = only_one trees m s a.shared a.part n p p_stands in
        let step_p : RootStep system (plain p) (plain z.0) = (z.2.number, contracts-step system n (length trees) p z.0 z.1 z.2) in
        let step_s : RootStep system (plain s) (plain c) = (a.contracts.number, contracts-step system m base s c many a.contracts) in
        let p_after = contracts_after system m s c redex_s w o step_s n (length trees) p z.0 z.1 own other only_s_p off_m z.2 in
        let r_contracts = subst (λ k. Contracts system n k (replace_numbered m c p) r.contractum r.many) a.long (subst (λ u. Contracts system n (length others) u r.contractum r.many) part r.contracts) in
        let one = one_contraction system o n (length trees) (replace_numbered m c p) (replace_numbered m c z.0) r.contractum z.1 r.many p_after r_contracts in
        let s_after = contracts_after system n p z.0 redex_p w o step_p m base s c many a.own (λ e. other (sym e)) only_p_s off_n a.contracts in
        let same = put_crossed system o n (length trees) m base p z.0 s c z.1 many other own a.own z.2 a.contracts only_p_s only_s_p off_n off_m t in
        let fresh_d = contracts-numbers (λ k. IsOff base many k) system o n (length trees) p z.0 z.1 z.2 off_n (λ i less j less' e. let under = a.below in omega arith) fresh_p in
        record {
          n = n;
          between = here.after;
          is_next = record { tree = t; stands = a.at; position = q; next = is_next; part = p; there = at; own = own };
          replaced = here.replaced;
          t' = replace_numbered n z.0 t;
          s' = replace_numbered n z.0 s;
          c' = replace_numbered n z.0 c;
          apart = record {
            shared = stay_shared system w o trees here.after n a.shared here.replaced;
            others_shared = stay_shared system w o others others' n a.others_shared x;
            long = r.long ∙ (ap (λ k. length others + k) (sym one.1) ∙ (ap (λ k. k + z.1) a.long ∙ sym here.long));
            at = here.at root t a.at;
            others_at = r.at root (replace_numbered m c t) a.others_at ∙ ap (λ u. Some u) (ap (λ d. replace_numbered n d (replace_numbered m c t)) (sym one.0) ∙ sym same);
            part = here.at m s a.part;
            own = root_kept n z.0 s (λ e. other (sym e ∙ a.own)) ∙ a.own;
            contracts = s_after;
            below = let under = a.below in let l = here.long in omega arith;
            fresh = put-numbers (λ k. IsOff base many k) n z.0 t fresh_d a.fresh;
          };
        }

    -- the run of the other store goes on at the same node
    goes_on : (others' : List (Numbered H)) (n' : ℕ) → IsNextNode system others root n' → IsReplaced system n' others others' → (q : Position) (p : Numbered H) → IsNext system (plain t) q → subtree_at t q ≡ Some p → root_number p ≢ m → Next others'
    goes_on others' n' next' x' q p is_next at other =
        let k = kept q p is_next at other in
        let n = root_number p in
        let tree : next'.tree ≡ replace_numbered m c t = let z = next'.stands in let z' = a.others_at in cc in
        let position : next'.position ≡ q = next_one system w o (plain (replace_numbered m c t)) next'.position q (subst (λ z. IsNext system (plain z) next'.position) tree next'.next) k.next in
        let there : subtree_at (replace_numbered m c t) q ≡ Some next'.part = subst (λ z. subtree_at (replace_numbered m c t) z ≡ Some next'.part) position (subst (λ z. subtree_at z next'.position ≡ Some next'.part) tree next'.there) in
        let part : next'.part ≡ replace_numbered m c p = let z = k.at in cc in
        let number : n' ≡ n = sym next'.own ∙ (ap root_number part ∙ root_kept m c p other) in
        let x = subst (λ j. IsReplaced system j others others') number x' in
        let r = replaces-from system n others others' x in
        let stands' = subst (λ j. slice_get others j ≡ Some (replace_numbered m c p)) (root_kept m c p other) (stands_there others root (replace_numbered m c t) q (replace_numbered m c p) a.others_shared a.others_at k.at) in
        both others' n p other refl q is_next at x x.number r (let z = r.stands in cc)

  -- a store whose root's tree is that of another one after a replacement needs at most one replacement more
  one_more : {others : List (Numbered H)} {k : ℕ} → Ends system root others k → (trees : List (Numbered H)) (t : Numbered H) (m base many : ℕ) (s c : Numbered H) → Apart trees others t m base many s c → (j : ℕ) × Ends system root trees j × (j ≤ suc k)
  one_more {others} (ended u e normal) trees t m base many s c a =
      elim (normal_or_next_redex system w o (plain t)) [
        | inl here ↦ (0, ended t a.at here, omega arith)
        | inr is_next ↦ at_next is_next.0 is_next.1 (part-of t is_next.0 _ (next_has_step system w o (plain t) is_next.0 is_next.1).1.stands)
      ]
    where
      at_next : (q : Position) → IsNext system (plain t) q → {v : Tree H} → (p : Numbered H) × (subtree_at t q ≡ Some p) × (plain p ≡ v) → (j : ℕ) × Ends system root trees j × (j ≤ 1)
      at_next q is_next p = by_test (root_number p.0 == m) refl
        where
          by_test : (b : Bool) → (root_number p.0 == m) ≡ b → (j : ℕ) × Ends system root trees j × (j ≤ 1)
          by_test true e' = (1, begins trees others t m base many s c a (ended u e normal) q p.0 is_next p.1 (eqb-true (root_number p.0) m e'), omega arith)
          by_test false e' =
              let k = kept trees others t m base many s c a q p.0 is_next p.1 (eqb-false (root_number p.0) m e') in
              let same : u ≡ replace_numbered m c t = let z = a.others_at in cc in
              absurd (next_not_normal system w o (plain (replace_numbered m c t)) q k.next (subst (λ z. IsNormal system (plain z)) same normal))
  one_more {others} (goes {between = others'} {n = n'} {k = k} next' x' rest) trees t m base many s c a =
      elim (normal_or_next_redex system w o (plain t)) [
        | inl here ↦ (0, ended t a.at here, omega arith)
        | inr is_next ↦ at_next (λ trees t m base many s c a. one_more rest trees t m base many s c a) is_next.0 is_next.1 (part-of t is_next.0 _ (next_has_step system w o (plain t) is_next.0 is_next.1).1.stands)
      ]
    where
      at_next : ((trees : List (Numbered H)) (t : Numbered H) (m base many : ℕ) (s c : Numbered H) → Apart trees others' t m base many s c → (j : ℕ) × Ends system root trees j × (j ≤ suc k)) → (q : Position) → IsNext system (plain t) q → {v : Tree H} → (p : Numbered H) × (subtree_at t q ≡ Some p) × (plain p ≡ v) → (j : ℕ) × Ends system root trees j × (j ≤ suc (suc k))
      at_next later q is_next p = by_test (root_number p.0 == m) refl
        where
          by_test : (b : Bool) → (root_number p.0 == m) ≡ b → (j : ℕ) × Ends system root trees j × (j ≤ suc (suc k))
          by_test true e' = (suc (suc k), begins trees others t m base many s c a (goes next' x' rest) q p.0 is_next p.1 (eqb-true (root_number p.0) m e'), omega arith)
          by_test false e' =
              let g = goes_on trees others t m base many s c a others' n' next' x' q p.0 is_next p.1 (eqb-false (root_number p.0) m e') in
              let y = later g.between g.t' m base many g.s' g.c' g.apart in
              let le = y.2 in
              (suc y.0, goes {between = g.between} g.is_next g.replaced y.1, omega arith)

  -- ---- room for as many new cells

  abbrev padded : ℕ → Numbered H → List (Numbered H)
  padded zero t = []
  padded (suc n) t = t ∷ padded n t

  length-padded : (n : ℕ) (t : Numbered H) → length (padded n t) ≡ n
  length-padded zero t = refl
  length-padded (suc n) t = ap suc (length-padded n t)

  all-padded : (P : Numbered H → Type 0) (n : ℕ) (t : Numbered H) → P t → AllByRecursion P (padded n t)
  all-padded P zero t here = tt
  all-padded P (suc n) t here = (here, all-padded P n t here)

  module _ (trees : List (Numbered H)) (t : Numbered H) (shared : AreShared trees) (at : slice_get trees root ≡ Some t) (room : ℕ) where
    abbrev roomy : List (Numbered H)
    roomy = trees ++ padded room t

    roomy-get : (k : ℕ) (p : Numbered H) → slice_get trees k ≡ Some p → slice_get roomy k ≡ Some p
    roomy-get k p e = get_left trees (padded room t) k p e

    length-roomy : length roomy ≡ length trees + room
    length-roomy = length-append trees (padded room t) ∙ ap (λ k. length trees + k) (length-padded room t)

    roomy-shared : AreShared roomy
    roomy-shared =
        let more = λ (u : Numbered H) (a : AllParts (Stands trees) u). parts-map (Stands trees) (Stands roomy) (λ p e. roomy-get (root_number p) p e) u a in
        let old = all_listed (AllParts (Stands roomy)) trees (λ k u e. more u (stand trees k u shared e)) in
        let new = all-padded (AllParts (Stands roomy)) room t (more t (stand trees root t shared at)) in
        let every = all_both (AllParts (Stands roomy)) trees (padded room t) old new in
        λ k d below. all_at (AllParts (Stands roomy)) roomy k d below every

    within : AllParts (λ p. root_number p < length trees) t
    within = parts-map (Stands trees) (λ p. root_number p < length trees) (λ p here. slice_get_within trees (root_number p) p here) t (stand trees root t shared at)

    no_block : 0 ≤ room
    no_block = omega arith

    at_bottom : 0 + 0 ≤ length trees
    at_bottom = omega arith

    abbrev higher : ℕ → ℕ
    higher = moved 0 0 (length trees) room no_block at_bottom

    -- the run is as long with more room
    roomy-ends : {k : ℕ} → Ends system root trees k → Ends system root roomy k
    roomy-ends e =
        let still = parts-map (λ p. root_number p < length trees) (λ p. higher (root_number p) ≡ root_number p) (λ p less. moved-same 0 0 (length trees) room no_block at_bottom (root_number p) less (λ i none. absurd (omega arith))) t within in
        let same = rename-same higher t still in
        renamed_ends system root w o higher (moved-injective 0 0 (length trees) room no_block at_bottom) e shared t at roomy roomy-shared (roomy-get root t at ∙ ap (λ z. Some z) (sym same)) (λ i. shifts i)
      where
        shifts : (i : ℕ) → higher (length trees + i) ≡ length roomy + i
        shifts i = moved-above 0 0 (length trees) room no_block at_bottom i ∙ (let l = length-roomy in omega arith)

  -- ---- replacement lists

  -- a replacement makes the run shorter by one at most
  one_replacement_more : (trees between : List (Numbered H)) (m : ℕ) (t : Numbered H) → AreShared trees → slice_get trees root ≡ Some t → IsReplaced system m trees between → (n k : ℕ) → Ends system root trees n → Ends system root between k → n ≤ suc k
  one_replacement_more trees between m t shared at x n k e e' =
      let r = replaces-from system m trees between x in
      let trees' = roomy trees t shared at r.many in
      let fresh = parts-map (λ p. root_number p < length trees) (λ p. IsOff (length trees) r.many (root_number p)) (λ p less i in_block here. omega arith) t (within trees t shared at r.many) in
      let a : Apart trees' between t m (length trees) r.many r.part r.contractum = record {
        shared = roomy-shared trees t shared at r.many;
        others_shared = stay_shared system w o trees between m shared x;
        long = r.long ∙ sym (length-roomy trees t shared at r.many);
        at = roomy-get trees t shared at r.many root t at;
        others_at = r.at root t at;
        part = roomy-get trees t shared at r.many m r.part r.stands;
        own = r.own;
        contracts = r.contracts;
        below = let l = length-roomy trees t shared at r.many in omega arith;
        fresh = fresh;
      } in
      let y = one_more e' trees' t m (length trees) r.many r.part r.contractum a in
      let same = one_number system root w o (roomy-ends trees t shared at r.many e) y.1 in
      let le = y.2 in
      omega arith

  -- no list that leads to a normal form is shorter than the run
  pub none_shorter : {trees others : List (Numbered H)} {ns : List ℕ} → ReplacementList system trees ns others → (t : Numbered H) → AreShared trees → slice_get trees root ≡ Some t → (v : Tree H) → StandsFor others root v → IsNormal system v → (n : ℕ) → Ends system root trees n → n ≤ length ns
  none_shorter (runs.done {trees = trees}) t shared at v stands normal n e =
      let same : stands.0 ≡ t = let z = stands.1 in cc in
      let here : Ends system root trees 0 = ended stands.0 stands.1 (subst (λ z. IsNormal system z) (sym stands.2) normal) in
      let none = one_number system root w o e here in
      omega arith
  none_shorter (runs.next {trees = trees} {between = between} {after = others} {n = m} {ns = ns} x rest) t shared at v stands normal n e =
      let r = replaces-from system m trees between x in
      let shared' = stay_shared system w o trees between m shared x in
      let t' = replace_numbered m r.contractum t in
      let d = list_derives system w o rest shared' root t' (r.at root t at) in
      let same : plain d.tree ≡ v = let z : d.tree ≡ stands.0 = (let a = d.stands in let b = stands.1 in cc) in ap plain z ∙ stands.2 in
      let l = run_found system w o (plain t') v (subst (λ z. IsDerivable system (plain t') z) same d.derivable) normal in
      let g = run_ends system w o constant l.0 between root t' shared' (r.at root t at) v l.0 (omega arith) l.1 in
      let e' = ends-from system root between g.1 g.0 v g.2 in
      let less = none_shorter rest t' shared' (r.at root t at) v stands normal g.0 e' in
      let le = one_replacement_more trees between m t shared at x n g.0 e e' in
      omega arith

  -- where a list leads to a normal form, the run ends, and no later
  pub found_by_list : {trees others : List (Numbered H)} {ns : List ℕ} → ReplacementList system trees ns others → (t : Numbered H) → AreShared trees → slice_get trees root ≡ Some t → (v : Tree H) → StandsFor others root v → IsNormal system v → (n : ℕ) × (after : List (Numbered H)) × GraphEnds system root trees n after v × (n ≤ length ns)
  found_by_list {trees} list t shared at v stands normal =
      let d = list_derives system w o list shared root t at in
      let same : plain d.tree ≡ v = let z : d.tree ≡ stands.0 = (let a = d.stands in let b = stands.1 in cc) in ap plain z ∙ stands.2 in
      let l = run_found system w o (plain t) v (subst (λ z. IsDerivable system (plain t) z) same d.derivable) normal in
      let g = run_ends system w o constant l.0 trees root t shared at v l.0 (omega arith) l.1 in
      (g.0, g.1, g.2, none_shorter list t shared at v stands normal g.0 (ends-from system root trees g.1 g.0 v g.2))

  -- before a replacement the run ends too, after at most one replacement more
  pub found_before : (trees between : List (Numbered H)) (m : ℕ) (t : Numbered H) → AreShared trees → slice_get trees root ≡ Some t → IsReplaced system m trees between → (k : ℕ) (others : List (Numbered H)) (v : Tree H) → GraphEnds system root between k others v → (n : ℕ) × (after : List (Numbered H)) × GraphEnds system root trees n after v × (n ≤ suc k)
  found_before trees between m t shared at x k others v e =
      let list = (run_listed system e.run).list in
      let g = found_by_list (runs.next x list) t shared at v e.stands e.normal in
      (g.0, g.1, g.2, one_replacement_more trees between m t shared at x g.0 k (ends-from system root trees g.1 g.0 v g.2) (ends-from system root between others k v e))
