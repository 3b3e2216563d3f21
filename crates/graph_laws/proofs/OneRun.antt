-- A replacement has one result, and so has the graph run.
use Rattle.std.proofs.Common.{◌≡◌, ℕ, suc, ◌+◌, ◌<◌, ◌≤◌, List, [], ◌++◌, length, Some, inl, inr, refl, sym, ◌∙◌, ap, subst, arith}
use Rattle.std.specs.Prelude.{Contains}
use Rattle.std.specs.List.{AllByRecursion}
use Rattle.std.proofs.lemmas.Bool.{cases_lt}
use Rattle.eq_base.specs.Tree.{Tree, Forest, node, empty, grow, subtree_at}
use Rattle.eq_base.specs.Pattern.{PatternCell, fixed, variable, restricted, variables, all_variables, Substitution}
use Rattle.eq_base.specs.Rewriting.{RightSide, pattern, operation, Rule, System, IsRedexBy, IsFirst, IsNormal}
use Rattle.eq_base.proofs.Lists.{all_front, all_back, all_both, all_map, all_contained}
use Rattle.orthogonal_laws.specs.Orthogonal.{IsBound, IsWellFormedSystem, IsOrthogonal}
use Rattle.orthogonal_laws.specs.Strategy.{IsNext}
use Rattle.orthogonal_laws.proofs.Members.{get-in, in-contains}
use Rattle.orthogonal_laws.proofs.NextLaws.{next_one, next_not_normal}
use Rattle.graph_laws.specs.Numbered.{Numbered, plain, root_number}
use Rattle.graph_laws.specs.Replacing.{MeetsWith, AllMeetWith, head_count, numbered, all_numbered, own_parts, all_own_parts, replace_in_all, replaced_trees, IsReplacement}
use Rattle.graph_laws.specs.Runs.{IsReplaced, IsNextNode, GraphRun, start, then}
use Rattle.graph_laws.specs.SharedRuns.{StandsFor, GraphEnds, GraphLeaves}
use Rattle.graph_laws.proofs.PlainResults.{ReplacesRight}

module _ {H : Type 0} (σ τ : Substitution (H × ℕ)) where
  abbrev pub Same : List ℕ → Type 0
  Same xs = AllByRecursion (λ x. σ x ≡ τ x) xs

  -- what a pattern meets fixes what its variables stand for
  mutual
    pub met-same : (p : Tree (PatternCell H)) (t : Numbered H) → MeetsWith σ p t → MeetsWith τ p t → Same (variables p)
    met-same (node (fixed h) ps) (node l args) a b = all_met-same ps args a.1 b.1
    met-same (node (variable x) ps) t a b = (a ∙ sym b, tt)
    met-same (node (restricted x class) ps) t a b = (a ∙ sym b, tt)

    all_met-same : (ps : Forest (PatternCell H)) (ts : Forest (H × ℕ)) → AllMeetWith σ ps ts → AllMeetWith τ ps ts → Same (all_variables ps)
    all_met-same empty empty a b = tt
    all_met-same (grow p ps) (grow t ts) a b = all_both _ (variables p) (all_variables ps) (met-same p t a.0 b.0) (all_met-same ps ts a.1 b.1)
    all_met-same empty (grow t ts) a b = absurd a
    all_met-same (grow p ps) empty a b = absurd a

  -- and so its value, with the numbers
  mutual
    numbered-same : (k : ℕ) (p : Tree (PatternCell H)) → Same (variables p) → numbered σ k p ≡ numbered τ k p
    numbered-same k (node (fixed h) ps) s = ap (node (h, k)) (all_numbered-same (suc k) ps s)
    numbered-same k (node (variable x) ps) s = s.0
    numbered-same k (node (restricted x class) ps) s = s.0

    pub all_numbered-same : (k : ℕ) (ps : Forest (PatternCell H)) → Same (all_variables ps) → all_numbered σ k ps ≡ all_numbered τ k ps
    all_numbered-same k empty s = refl
    all_numbered-same k (grow p ps) s =
        rw (numbered-same k p (all_front _ (variables p) (all_variables ps) s), all_numbered-same (k + head_count p) ps (all_back _ (variables p) (all_variables ps) s)) refl

  mutual
    own_parts-same : (k : ℕ) (p : Tree (PatternCell H)) → Same (variables p) → own_parts σ k p ≡ own_parts τ k p
    own_parts-same k (node (fixed h) ps) s = rw (all_numbered-same (suc k) ps s, all_own_parts-same (suc k) ps s) refl
    own_parts-same k (node (variable x) ps) s = refl
    own_parts-same k (node (restricted x class) ps) s = refl

    all_own_parts-same : (k : ℕ) (ps : Forest (PatternCell H)) → Same (all_variables ps) → all_own_parts σ k ps ≡ all_own_parts τ k ps
    all_own_parts-same k empty s = refl
    all_own_parts-same k (grow p ps) s =
        rw (own_parts-same k p (all_front _ (variables p) (all_variables ps) s), all_own_parts-same (k + head_count p) ps (all_back _ (variables p) (all_variables ps) s)) refl

  replaced-same : (p : Tree (PatternCell H)) (n : ℕ) (trees : List (Numbered H)) → Same (variables p) → replaced_trees σ p n trees ≡ replaced_trees τ p n trees
  replaced-same (node (fixed h) ps) n trees s =
      rw (all_numbered-same (length trees) ps s, all_own_parts-same (length trees) ps s) refl
  replaced-same (node (variable x) ps) n trees s = ap (λ c. replace_in_all n c trees ++ []) s.0
  replaced-same (node (restricted x class) ps) n trees s = ap (λ c. replace_in_all n c trees ++ []) s.0

module _ {H : Type 0} (system : System H) (o : IsOrthogonal system) where
  by_sides : (left p : Tree (PatternCell H)) → AllByRecursion (λ x. Contains (variables left) x) (variables p) → (n : ℕ) (trees after after' : List (Numbered H)) → IsReplacement left p n trees after → IsReplacement left p n trees after' → after ≡ after'
  by_sides left p bound n trees after after' x y =
      let same : y.tree ≡ x.tree = let a = x.stands in let b = y.stands in cc in
      let meets = subst (λ z. MeetsWith y.substitution left z) same y.meets in
      let agree = met-same x.substitution y.substitution left x.tree x.meets meets in
      let on = all_map _ (λ v. x.substitution v ≡ y.substitution v) (variables p) (λ v inside. all_contained (λ v. x.substitution v ≡ y.substitution v) (variables left) v agree inside) bound in
      x.result ∙ (replaced-same x.substitution y.substitution p n trees on ∙ sym y.result)

  by_right : (rule : Rule H) → Contains system.rules rule → (right : RightSide H) → rule.right ≡ right → (n : ℕ) (t : Tree H) (trees after after' : List (Numbered H)) → ReplacesRight system rule.left right n t trees after → ReplacesRight system rule.left right n t trees after' → after ≡ after'
  by_right rule listed (pattern p) e n t trees after after' x y =
      by_sides rule.left p (subst (λ r. IsBound (variables rule.left) r) e (o.bound rule listed)) n trees after after' x y
  by_right rule listed (operation op) e n t trees after after' x y =
      let value = x.1 in
      let value' = y.1 in
      let same : x.0 ≡ y.0 = cc in
      x.2 ∙ (ap (λ h. replace_in_all n (node (h, n) empty) trees) same ∙ sym y.2)

  -- the first rule that fits is one
  pub one_first : (a b : ℕ) (t : Tree H) → IsRedexBy system a t → IsFirst system a t → IsRedexBy system b t → IsFirst system b t → a ≡ b
  one_first a b t fits first fits' first' =
      elim (cases_lt a b) [
        | inl less ↦ absurd (first' a less fits)
        | inr le ↦ elim (cases_lt b a) [ inl less ↦ absurd (first b less fits') | inr le' ↦ omega arith ]
      ]

  pub one_replacement : (n : ℕ) (trees after after' : List (Numbered H)) → IsReplaced system n trees after → IsReplaced system n trees after' → after ≡ after'
  one_replacement n trees after after' x y =
      let tree : y.tree ≡ x.tree = let a = x.stands in let b = y.stands in cc in
      let number : x.number ≡ y.number = one_first x.number y.number (plain x.tree) x.redex x.first (subst (λ z. IsRedexBy system y.number (plain z)) tree y.redex) (subst (λ z. IsFirst system y.number (plain z)) tree y.first) in
      let rule : y.rule ≡ x.rule = let a = x.listed in let b = y.listed in cc in
      let replaces : ReplacesRight system y.rule.left y.rule.right n (plain y.tree) trees after' = y.replaces in
      let replaces' = subst (λ r. ReplacesRight system r.left r.right n (plain x.tree) trees after') rule (subst (λ z. ReplacesRight system y.rule.left y.rule.right n (plain z) trees after') tree replaces) in
      by_right x.rule (in-contains (get-in system.rules x.number x.rule x.listed)) x.rule.right refl n (plain x.tree) trees after after' x.replaces replaces'

module _ {H : Type 0} (system : System H) (w : IsWellFormedSystem system) (o : IsOrthogonal system) where
  pub one_next_node : (trees : List (Numbered H)) (root m n : ℕ) → IsNextNode system trees root m → IsNextNode system trees root n → m ≡ n
  one_next_node trees root m n x y =
      let tree : y.tree ≡ x.tree = let a = x.stands in let b = y.stands in cc in
      let position : y.position ≡ x.position = next_one system w o (plain x.tree) y.position x.position (subst (λ z. IsNext system (plain z) y.position) tree y.next) x.next in
      let there : subtree_at x.tree x.position ≡ Some y.part = subst (λ q. subtree_at x.tree q ≡ Some y.part) position (subst (λ z. subtree_at z y.position ≡ Some y.part) tree y.there) in
      let part : x.part ≡ y.part = let a = x.there in cc in
      sym x.own ∙ (ap root_number part ∙ y.own)

  -- so many replacements of the graph run lead to one store
  pub one_graph_run : (root : ℕ) (trees : List (Numbered H)) {n : ℕ} {after after' : List (Numbered H)} → GraphRun system root trees n after → GraphRun system root trees n after' → after ≡ after'
  one_graph_run root trees start start = refl
  one_graph_run root trees (then {n = m} {between = a} {after = b} r next x) (then {n = m'} {between = a'} {after = b'} r' next' x') =
      let same : a' ≡ a = sym (one_graph_run root trees r r') in
      let next'' = subst (λ z. IsNextNode system z root m') same next' in
      let x'' = subst (λ z. IsReplaced system m' z b') same x' in
      let node : m' ≡ m = one_next_node a root m' m next'' next in
      one_replacement system o m a b b' x (subst (λ z. IsReplaced system z a b') node x'')

  -- where the root stands for a normal form, there is no next node
  pub none_next : (trees : List (Numbered H)) (root n : ℕ) (v : Tree H) → StandsFor trees root v → IsNormal system v → IsNextNode system trees root n → ⊥
  none_next trees root n v stands normal next =
      let tree : stands.0 ≡ next.tree = let a = stands.1 in let b = next.stands in cc in
      let same : v ≡ plain next.tree = sym stands.2 ∙ ap plain tree in
      next_not_normal system w o (plain next.tree) next.position next.next (subst (λ z. IsNormal system z) same normal)

  -- a run that is longer goes on from a shorter one
  goes_on : (root : ℕ) (trees : List (Numbered H)) (m : ℕ) {n : ℕ} {after : List (Numbered H)} → GraphRun system root trees n after → m < n → (between : List (Numbered H)) × (k : ℕ) × GraphRun system root trees m between × IsNextNode system between root k
  goes_on root trees m start less = absurd (omega arith)
  goes_on root trees m (then {k = k} {n = n} {between = between} r next x) less =
      elim (cases_lt m k) [
        | inl before ↦ goes_on root trees m r before
        | inr le ↦ let same : k ≡ m = omega arith in (between, n, subst (λ j. GraphRun system root trees j between) same r, next)
      ]

  -- no run is longer than one that ends
  pub no_longer : (root : ℕ) (trees : List (Numbered H)) (m n : ℕ) (after after' : List (Numbered H)) (v : Tree H) → GraphEnds system root trees n after v → GraphRun system root trees m after' → m ≤ n
  no_longer root trees m n after after' v e r =
      elim (cases_lt n m) [
        | inl less ↦
            let x = goes_on root trees n r less in
            let same : x.0 ≡ after = one_graph_run root trees x.2 e.run in
            absurd (none_next after root x.1 v e.stands e.normal (subst (λ z. IsNextNode system z root x.1) same x.3))
        | inr le ↦ le
      ]

  one_stands : (trees : List (Numbered H)) (root : ℕ) (u v : Tree H) → StandsFor trees root u → StandsFor trees root v → u ≡ v
  one_stands trees root u v a b =
      let tree : a.0 ≡ b.0 = let x = a.1 in let y = b.1 in cc in
      sym a.2 ∙ (ap plain tree ∙ b.2)

  -- the graph run ends once
  pub one_end : (root : ℕ) (trees : List (Numbered H)) (m n : ℕ) (after after' : List (Numbered H)) (u v : Tree H) → GraphEnds system root trees m after u → GraphEnds system root trees n after' v → (m ≡ n) × (after ≡ after') × (u ≡ v)
  one_end root trees m n after after' u v a b =
      let le = no_longer root trees m n after' after v b a.run in
      let le' = no_longer root trees n m after after' u a b.run in
      let same : m ≡ n = omega arith in
      let same' = one_graph_run root trees (subst (λ k. GraphRun system root trees k after) same a.run) b.run in
      (same, same', one_stands after' root u v (subst (λ z. StandsFor z root u) same' a.stands) b.stands)

  -- and where it ends within a budget, the whole budget leaves no redex
  pub ends_or_leaves : (root : ℕ) (trees : List (Numbered H)) (n budget : ℕ) (after after' : List (Numbered H)) (u v : Tree H) → GraphEnds system root trees n after v → n ≤ budget → GraphLeaves system root trees budget after' u → ⊥
  ends_or_leaves root trees n budget after after' u v e within l =
      let le = no_longer root trees budget n after after' v e l.run in
      let same : n ≡ budget = omega arith in
      let same' = one_graph_run root trees (subst (λ k. GraphRun system root trees k after) same e.run) l.run in
      l.redex_left (subst (λ z. IsNormal system z) (one_stands after' root v u (subst (λ z. StandsFor z root v) same' e.stands) l.stands) e.normal)
