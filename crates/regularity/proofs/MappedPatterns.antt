-- Patterns with other heads: occurrences, merges and common instances are as before.
use Rattle.std.proofs.Common.{◌≡◌, ℕ, suc, ◌+◌, ◌<◌, refl, sym, ◌∙◌, ap, subst}
use Rattle.eq_base.specs.Tree.{Tree, Forest, node, empty, grow, head_of, size, nth_subtree, map_heads, map_all_heads}
use Rattle.eq_base.specs.Pattern.{PatternCell, fixed, variable, restricted, IsTested, Classes, Substitution, apply}
use Rattle.eq_base.specs.Rewriting.{RightSide, pattern, operation}
use Rattle.eq_base.specs.Mapping.{map_cell, map_pattern, map_right}
use Rattle.eq_base.proofs.Trees.{size-map_heads, nth_subtree-map_heads}
use Rattle.eq_base.proofs.Mapped.{apply-map, head-map, tested-map, clash_at-unmap}
use Rattle.regularity.specs.Common.{HaveCommon}
use Rattle.regularity.specs.Occurrences.{variable_of, OccursAt, OccursBefore, Repeats, IsUnbound, IsTestedPlace}
use Rattle.regularity.specs.Merge.{merge, merge_all, named, all_named, merged, cell_over, fill, AreSameUnderMerge}
use Rattle.regularity.specs.Restrictions.{HasUnbound, IsSameRight}

module _ {A B : Type 0} (f : A → B) where
  -- ---- occurrences

  there-map : (p : Tree (PatternCell A)) (at : ℕ) → at < size p → at < size (map_pattern f p)
  there-map p at lt = subst (λ n. at < n) (sym (size-map_heads (map_cell f) p)) lt

  there-unmap : (p : Tree (PatternCell A)) (at : ℕ) → at < size (map_pattern f p) → at < size p
  there-unmap p at lt = subst (λ n. at < n) (size-map_heads (map_cell f) p) lt

  variable_of-map : (c : PatternCell A) → variable_of (map_cell f c) ≡ variable_of c
  variable_of-map (fixed h) = refl
  variable_of-map (variable x) = refl
  variable_of-map (restricted x class) = refl

  head_at-map : (p : Tree (PatternCell A)) (at : ℕ) → at < size p →
      head_of (nth_subtree (map_pattern f p) at) ≡ map_cell f (head_of (nth_subtree p at))
  head_at-map p at lt =
      ap head_of (nth_subtree-map_heads (map_cell f) p at lt) ∙ head-map f (nth_subtree p at)

  variable_at-map : (p : Tree (PatternCell A)) (at : ℕ) → at < size p →
      variable_of (head_of (nth_subtree (map_pattern f p) at)) ≡ variable_of (head_of (nth_subtree p at))
  variable_at-map p at lt =
      ap variable_of (head_at-map p at lt) ∙ variable_of-map (head_of (nth_subtree p at))

  occurs-map : (p : Tree (PatternCell A)) (at x : ℕ) → OccursAt p at x → OccursAt (map_pattern f p) at x
  occurs-map p at x o = record { there = there-map p at o.there; is = variable_at-map p at o.there ∙ o.is }

  occurs-unmap : (p : Tree (PatternCell A)) (at x : ℕ) → OccursAt (map_pattern f p) at x → OccursAt p at x
  occurs-unmap p at x o =
      let there = there-unmap p at o.there in
      record { there = there; is = sym (variable_at-map p at there) ∙ o.is }

  before-map : (p : Tree (PatternCell A)) (end x : ℕ) → OccursBefore p end x →
      OccursBefore (map_pattern f p) end x
  before-map p end x o = record { at = o.at; before = o.before; occurs = occurs-map p o.at x o.occurs }

  before-unmap : (p : Tree (PatternCell A)) (end x : ℕ) → OccursBefore (map_pattern f p) end x →
      OccursBefore p end x
  before-unmap p end x o = record { at = o.at; before = o.before; occurs = occurs-unmap p o.at x o.occurs }

  pub repeats-map : (p : Tree (PatternCell A)) (at : ℕ) → Repeats p at → Repeats (map_pattern f p) at
  repeats-map p at r = record {
    x = r.x;
    here = occurs-map p at r.x r.here;
    earlier = before-map p at r.x r.earlier;
  }

  pub repeats-unmap : (p : Tree (PatternCell A)) (at : ℕ) → Repeats (map_pattern f p) at → Repeats p at
  repeats-unmap p at r = record {
    x = r.x;
    here = occurs-unmap p at r.x r.here;
    earlier = before-unmap p at r.x r.earlier;
  }

  unbound-map : (left right : Tree (PatternCell A)) (at : ℕ) → IsUnbound left right at →
      IsUnbound (map_pattern f left) (map_pattern f right) at
  unbound-map left right at u = record {
    x = u.x;
    here = occurs-map right at u.x u.here;
    not_left = λ k o. u.not_left k (occurs-unmap left k u.x o);
  }

  unbound-unmap : (left right : Tree (PatternCell A)) (at : ℕ) →
      IsUnbound (map_pattern f left) (map_pattern f right) at → IsUnbound left right at
  unbound-unmap left right at u = record {
    x = u.x;
    here = occurs-unmap right at u.x u.here;
    not_left = λ k o. u.not_left k (occurs-map left k u.x o);
  }

  pub has_unbound-map : (left : Tree (PatternCell A)) (right : RightSide A) (at : ℕ) →
      HasUnbound left right at → HasUnbound (map_pattern f left) (map_right f right) at
  has_unbound-map left (pattern right) at u = unbound-map left right at u
  has_unbound-map left (operation op) at u = absurd u

  pub has_unbound-unmap : (left : Tree (PatternCell A)) (right : RightSide A) (at : ℕ) →
      HasUnbound (map_pattern f left) (map_right f right) at → HasUnbound left right at
  has_unbound-unmap left (pattern right) at u = unbound-unmap left right at u
  has_unbound-unmap left (operation op) at u = absurd u

  pub tested_place-map : (p : Tree (PatternCell A)) (at : ℕ) → IsTestedPlace p at →
      IsTestedPlace (map_pattern f p) at
  tested_place-map p at t = record {
    there = there-map p at t.there;
    tested =
        subst IsTested (sym (head_at-map p at t.there)) (tested-map f (head_of (nth_subtree p at)) t.tested);
  }

  -- ---- merges

  mutual
    merge-map : (p r : Tree (PatternCell A)) →
        map_pattern f (merge p r) ≡ merge (map_pattern f p) (map_pattern f r)
    merge-map (node (fixed g) ps) (node (fixed h) rs) = ap (node (fixed (f g))) (merge_all-map ps rs)
    merge-map (node (fixed g) ps) (node (variable x) rs) = refl
    merge-map (node (fixed g) ps) (node (restricted x class) rs) = refl
    merge-map (node (variable y) ps) (node (fixed h) rs) = refl
    merge-map (node (variable y) ps) (node (variable x) rs) = refl
    merge-map (node (variable y) ps) (node (restricted x class) rs) = refl
    merge-map (node (restricted y other) ps) (node (fixed h) rs) = refl
    merge-map (node (restricted y other) ps) (node (variable x) rs) = refl
    merge-map (node (restricted y other) ps) (node (restricted x class) rs) = refl

    merge_all-map : (ps rs : Forest (PatternCell A)) →
        map_all_heads (map_cell f) (merge_all ps rs)
        ≡ merge_all (map_all_heads (map_cell f) ps) (map_all_heads (map_cell f) rs)
    merge_all-map empty rs = refl
    merge_all-map (grow p ps) empty = refl
    merge_all-map (grow p ps) (grow r rs) = rw (merge-map p r, merge_all-map ps rs) refl

  mutual
    named-map : (n : ℕ) (p : Tree (PatternCell A)) → map_pattern f (named n p) ≡ named n (map_pattern f p)
    named-map n (node (fixed h) ps) = ap (node (fixed (f h))) (all_named-map (suc n) ps)
    named-map n (node (variable x) ps) = refl
    named-map n (node (restricted x class) ps) = refl

    all_named-map : (n : ℕ) (ps : Forest (PatternCell A)) →
        map_all_heads (map_cell f) (all_named n ps) ≡ all_named n (map_all_heads (map_cell f) ps)
    all_named-map n empty = refl
    all_named-map n (grow p ps) =
        rw (size-map_heads (map_cell f) p, named-map n p, all_named-map (n + size p) ps) refl

  merged-map : (p r : Tree (PatternCell A)) →
      map_pattern f (merged p r) ≡ merged (map_pattern f p) (map_pattern f r)
  merged-map p r = named-map 0 (merge p r) ∙ ap (named 0) (merge-map p r)

  cell_over-map : (c : PatternCell A) → map_cell (map_cell f) (cell_over c) ≡ cell_over (map_cell f c)
  cell_over-map (fixed h) = refl
  cell_over-map (variable x) = refl
  cell_over-map (restricted x class) = refl

  mutual
    over-map : (p : Tree (PatternCell A)) →
        map_pattern (map_cell f) (map_heads cell_over p) ≡ map_heads cell_over (map_pattern f p)
    over-map (node c ps) = rw (cell_over-map c, all_over-map ps) refl

    all_over-map : (ps : Forest (PatternCell A)) →
        map_all_heads (map_cell (map_cell f)) (map_all_heads cell_over ps)
        ≡ map_all_heads cell_over (map_all_heads (map_cell f) ps)
    all_over-map empty = refl
    all_over-map (grow p ps) = rw (over-map p, all_over-map ps) refl

  fill-map : (θ : Substitution (PatternCell A)) (p : Tree (PatternCell A)) →
      map_pattern f (fill θ p) ≡ fill (λ x. map_pattern f (θ x)) (map_pattern f p)
  fill-map θ p =
      apply-map (map_cell f) θ (map_heads cell_over p)
      ∙ ap (λ q. apply (λ x. map_pattern f (θ x)) q) (over-map p)

  same_under_merge-map : (p r s t : Tree (PatternCell A)) → AreSameUnderMerge p r s t →
      AreSameUnderMerge (map_pattern f p) (map_pattern f r) (map_pattern f s) (map_pattern f t)
  same_under_merge-map p r s t m = record {
    of_one = λ x. map_pattern f (m.of_one x);
    of_other = λ x. map_pattern f (m.of_other x);
    one_merged = sym (fill-map m.of_one p) ∙ ap (map_pattern f) m.one_merged ∙ merged-map p r;
    other_merged = sym (fill-map m.of_other r) ∙ ap (map_pattern f) m.other_merged ∙ merged-map r p;
    same = sym (fill-map m.of_one s) ∙ ap (map_pattern f) m.same ∙ fill-map m.of_other t;
  }

  pub same_right-map : (p r : Tree (PatternCell A)) (s t : RightSide A) → IsSameRight p r s t →
      IsSameRight (map_pattern f p) (map_pattern f r) (map_right f s) (map_right f t)
  same_right-map p r (pattern s) (pattern t) same = same_under_merge-map p r s t same
  same_right-map p r (pattern s) (operation op) same = absurd same
  same_right-map p r (operation op) t same = absurd same

  -- ---- common instances

  module _ (in_a : Classes A) (in_b : Classes B)
      (keeps : (class : ℕ) (h : A) → in_b class (f h) ≡ in_a class h) where
    pub common-map : (p r : Tree (PatternCell A)) → HaveCommon in_a p r →
        HaveCommon in_b (map_pattern f p) (map_pattern f r)
    common-map p r common q clash = common q (clash_at-unmap f in_a in_b keeps p r q clash)

    -- of a part with this number
    pub common_at-map : (p r : Tree (PatternCell A)) (at : ℕ) → at < size p →
        HaveCommon in_a (nth_subtree p at) r →
        HaveCommon in_b (nth_subtree (map_pattern f p) at) (map_pattern f r)
    common_at-map p r at lt common =
        subst (λ s. HaveCommon in_b s (map_pattern f r)) (sym (nth_subtree-map_heads (map_cell f) p at lt))
        (common-map (nth_subtree p at) r common)
