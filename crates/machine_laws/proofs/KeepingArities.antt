-- Replacements keep fixed numbers of arguments.
use Rattle.std.proofs.Common.{◌≡◌, ℕ, suc, ◌+◌, Bool, true, false, cond, List, length, Some, refl, sym, ◌∙◌, ap, subst}
use Rattle.std.specs.Prelude.{◌==◌, Contains}
use Rattle.std.specs.List.{AllByRecursion}
use Rattle.eq_base.specs.Tree.{Tree, Forest, node, empty, grow, count}
use Rattle.eq_base.specs.Pattern.{PatternCell, fixed, variable, restricted, variables, all_variables, Substitution}
use Rattle.eq_base.specs.Rewriting.{RightSide, pattern, operation, System}
use Rattle.eq_base.specs.declared.rules.Op.{Op}
use Rattle.eq_base.proofs.Lists.{all_front, all_back, all_both, all_map, all_contained}
use Rattle.regularity.specs.Arities.{HasArities, HaveArities}
use Rattle.orthogonal_laws.specs.Orthogonal.{IsOrthogonal, IsBound}
use Rattle.orthogonal_laws.proofs.Members.{get-in, in-contains, all-in}
use Rattle.match_laws.specs.Reading.{KeepArities}
use Rattle.graph_laws.specs.Numbered.{Numbered, plain, replace_numbered, replace_all_numbered}
use Rattle.graph_laws.specs.Replacing.{MeetsWith, AllMeetWith, head_count, numbered, all_numbered, own_parts, all_own_parts, contractum, new_parts, replace_in_all, replaced_trees, IsReplacement}
use Rattle.graph_laws.specs.Runs.{IsPut}
use Rattle.graph_laws.proofs.PlainResults.{ReplacesRight}
use Rattle.graph_laws.proofs.ListEntries.{all_listed, all_mapped}
use Rattle.machine_laws.specs.Ways.{plain_all}
use Rattle.machine_laws.specs.MachineRuns.{KeepAll, ReplacementsKeep, RightsKeep}

module _ {H : Type 0} (arity : H → ℕ) where
  -- each head of the trees has its number of arguments
  abbrev Keep : Forest (H × ℕ) → Type 0
  Keep ts = KeepArities arity (plain_all ts)

  abbrev Keeps : Numbered H → Type 0
  Keeps t = KeepArities arity (grow (plain t) empty)

  keep_first : (t : Numbered H) (ts : Forest (H × ℕ)) → Keep (grow t ts) → Keeps t
  keep_first (node l us) ts k = (k.0, k.1, tt)

  keep_rest : (t : Numbered H) (ts : Forest (H × ℕ)) → Keep (grow t ts) → Keep ts
  keep_rest (node l us) ts k = k.2

  keep_both : (t : Numbered H) (ts : Forest (H × ℕ)) → Keeps t → Keep ts → Keep (grow t ts)
  keep_both (node l us) ts k ks = (k.0, k.1, ks)

  -- ---- one tree in place of a number

  keep_either : (b : Bool) (u v : Numbered H) → Keeps u → Keeps v → Keeps (cond b u v)
  keep_either true u v k k' = k
  keep_either false u v k k' = k'

  module _ (n : ℕ) (u : Numbered H) (new : Keeps u) where
    count-put : (ts : Forest (H × ℕ)) → count (plain_all (replace_all_numbered n u ts)) ≡ count (plain_all ts)
    count-put empty = refl
    count-put (grow t ts) = ap suc (count-put ts)

    mutual
      keep_put : (t : Numbered H) → Keeps t → Keeps (replace_numbered n u t)
      keep_put (node l args) k = keep_either (l.1 == n) u (node l (replace_all_numbered n u args)) new (count-put args ∙ k.0, all_keep_put args k.1, tt)

      all_keep_put : (ts : Forest (H × ℕ)) → Keep ts → Keep (replace_all_numbered n u ts)
      all_keep_put empty k = tt
      all_keep_put (grow t ts) k = keep_both (replace_numbered n u t) (replace_all_numbered n u ts) (keep_put t (keep_first t ts k)) (all_keep_put ts (keep_rest t ts k))

  -- ---- sides of rules

  module _ (σ : Substitution (H × ℕ)) where
    mutual
      -- what the variables of a left side meet
      keep_met : (p : Tree (PatternCell H)) (t : Numbered H) → MeetsWith σ p t → Keeps t → AllByRecursion (λ x. Keeps (σ x)) (variables p)
      keep_met (node (fixed h) ps) (node l args) m k = all_keep_met ps args m.1 k.1
      keep_met (node (variable x) ps) t m k = (subst Keeps (sym m) k, tt)
      keep_met (node (restricted x class) ps) t m k = (subst Keeps (sym m) k, tt)

      all_keep_met : (ps : Forest (PatternCell H)) (ts : Forest (H × ℕ)) → AllMeetWith σ ps ts → Keep ts → AllByRecursion (λ x. Keeps (σ x)) (all_variables ps)
      all_keep_met empty empty m k = tt
      all_keep_met (grow p ps) (grow t ts) m k = all_both _ (variables p) (all_variables ps) (keep_met p t m.0 (keep_first t ts k)) (all_keep_met ps ts m.1 (keep_rest t ts k))
      all_keep_met empty (grow t ts) m k = absurd m
      all_keep_met (grow p ps) empty m k = absurd m

    count-numbered : (k : ℕ) (ps : Forest (PatternCell H)) → count (plain_all (all_numbered σ k ps)) ≡ count ps
    count-numbered k empty = refl
    count-numbered k (grow p ps) = ap suc (count-numbered (k + head_count p) ps)

    mutual
      -- the value of a pattern
      keep_value : (k : ℕ) (p : Tree (PatternCell H)) → HasArities arity p → AllByRecursion (λ x. Keeps (σ x)) (variables p) → Keeps (numbered σ k p)
      keep_value k (node (fixed h) ps) a met = (count-numbered (suc k) ps ∙ a.0, all_keep_value (suc k) ps a.1 met, tt)
      keep_value k (node (variable x) ps) a met = met.0
      keep_value k (node (restricted x class) ps) a met = met.0

      all_keep_value : (k : ℕ) (ps : Forest (PatternCell H)) → HaveArities arity ps → AllByRecursion (λ x. Keeps (σ x)) (all_variables ps) → Keep (all_numbered σ k ps)
      all_keep_value k empty a met = tt
      all_keep_value k (grow p ps) a met =
          keep_both (numbered σ k p) (all_numbered σ (k + head_count p) ps)
          (keep_value k p a.0 (all_front _ (variables p) (all_variables ps) met))
          (all_keep_value (k + head_count p) ps a.1 (all_back _ (variables p) (all_variables ps) met))

    mutual
      -- the trees of the new nodes
      keep_own : (k : ℕ) (p : Tree (PatternCell H)) → HasArities arity p → AllByRecursion (λ x. Keeps (σ x)) (variables p) → AllByRecursion Keeps (own_parts σ k p)
      keep_own k (node (fixed h) ps) a met = (keep_value k (node (fixed h) ps) a met, all_keep_own (suc k) ps a.1 met)
      keep_own k (node (variable x) ps) a met = tt
      keep_own k (node (restricted x class) ps) a met = tt

      all_keep_own : (k : ℕ) (ps : Forest (PatternCell H)) → HaveArities arity ps → AllByRecursion (λ x. Keeps (σ x)) (all_variables ps) → AllByRecursion Keeps (all_own_parts σ k ps)
      all_keep_own k empty a met = tt
      all_keep_own k (grow p ps) a met =
          all_both _ (own_parts σ k p) (all_own_parts σ (k + head_count p) ps)
          (keep_own k p a.0 (all_front _ (variables p) (all_variables ps) met))
          (all_keep_own (k + head_count p) ps a.1 (all_back _ (variables p) (all_variables ps) met))

    keep_contractum : (n k : ℕ) (p : Tree (PatternCell H)) → HasArities arity p → AllByRecursion (λ x. Keeps (σ x)) (variables p) → Keeps (contractum σ n k p)
    keep_contractum n k (node (fixed h) ps) a met = (count-numbered k ps ∙ a.0, all_keep_value k ps a.1 met, tt)
    keep_contractum n k (node (variable x) ps) a met = met.0
    keep_contractum n k (node (restricted x class) ps) a met = met.0

    keep_new : (k : ℕ) (p : Tree (PatternCell H)) → HasArities arity p → AllByRecursion (λ x. Keeps (σ x)) (variables p) → AllByRecursion Keeps (new_parts σ k p)
    keep_new k (node (fixed h) ps) a met = all_keep_own k ps a.1 met
    keep_new k (node (variable x) ps) a met = tt
    keep_new k (node (restricted x class) ps) a met = tt

  -- ---- stores

  keep_listed : (trees : List (Numbered H)) → AllByRecursion Keeps trees → KeepAll arity trees
  keep_listed trees a i t e = all-in Keeps a (get-in trees i t e)

  keep_in_all : (n : ℕ) (u : Numbered H) (trees : List (Numbered H)) → Keeps u → KeepAll arity trees → AllByRecursion Keeps (replace_in_all n u trees)
  keep_in_all n u trees new k = all_mapped Keeps (replace_numbered n u) trees (all_listed _ trees (λ i t e. keep_put n u new t (k i t e)))

module _ {H : Type 0} (system : System H) (arity : H → ℕ) (o : IsOrthogonal system) (r : RightsKeep system arity) where
  pub replacements_keep : ReplacementsKeep system arity
  replacements_keep trees after n k x = by_right x.rule.right refl x.replaces
    where
      rule_listed : Contains system.rules x.rule
      rule_listed = in-contains (get-in system.rules x.number x.rule x.listed)

      by_pattern : (p : Tree (PatternCell H)) → x.rule.right ≡ pattern p → IsReplacement x.rule.left p n trees after → KeepAll arity after
      by_pattern p e m =
          let σ = m.substitution in
          let left = keep_met arity σ x.rule.left m.tree m.meets (k n m.tree m.stands) in
          let bound = subst (IsBound (variables x.rule.left)) e (o.bound x.rule rule_listed) in
          let met = all_map _ (λ v. Keeps arity (σ v)) (variables p) (λ v c. all_contained (λ v. Keeps arity (σ v)) (variables x.rule.left) v left c) bound in
          let a = r.patterns x.rule rule_listed p e in
          let c = contractum σ n (length trees) p in
          let all = all_both (Keeps arity) (replace_in_all n c trees) (new_parts σ (length trees) p) (keep_in_all arity n c trees (keep_contractum arity σ n (length trees) p a met) k) (keep_new arity σ (length trees) p a met) in
          subst (KeepAll arity) (sym m.result) (keep_listed arity (replaced_trees σ p n trees) all)

      by_operation : (op : Op) → x.rule.right ≡ operation op → (h : H) → system.value_of op (plain x.tree) ≡ Some (node h empty) → IsPut h n trees after → KeepAll arity after
      by_operation op e h value put =
          let new : Keeps arity (node (h, n) empty) = (sym (r.values x.rule rule_listed op e (plain x.tree) h value), tt, tt) in
          subst (KeepAll arity) (sym put) (keep_listed arity (replace_in_all n (node (h, n) empty) trees) (keep_in_all arity n (node (h, n) empty) trees new k))

      by_right : (right : RightSide H) → x.rule.right ≡ right → ReplacesRight system x.rule.left right n (plain x.tree) trees after → KeepAll arity after
      by_right (pattern p) e m = by_pattern p e m
      by_right (operation op) e m = by_operation op e m.0 m.1 m.2
