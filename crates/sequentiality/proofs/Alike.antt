-- Equations that are alike break all restrictions alike.
use Rattle.std.proofs.Common.{◌≡◌, ◌<◌, inl, inr, ℕ, List, sym, ◌∙◌, ap, subst, ⊎_elim}
use Rattle.std.specs.Prelude.{◌↔◌}
use Rattle.eq_base.specs.Tree.{Tree, head_of, size, nth_subtree, Position}
use Rattle.eq_base.specs.Pattern.{PatternCell, Classes}
use Rattle.eq_base.specs.Rewriting.{Rule}
use Rattle.eq_base.specs.Mapping.{map_cell, map_pattern}
use Rattle.eq_base.proofs.Trees.{nth_subtree-map_heads}
use Rattle.eq_base.proofs.Mapped.{subtree_at-map, subtree_at-unmap, head-map, tested-map, tested-unmap, clash_at-unmap}
use Rattle.regularity.specs.declared.breaks.Break.{Break}
use Rattle.regularity.specs.Facing.{IsMismatch}
use Rattle.regularity.specs.Listing.{Lists}
use Rattle.regularity.proofs.Order.{lists_either}
use Rattle.regularity.proofs.Alike.{AreAlike, alike_back, subst_both, listed_alike, tested_alike, of_one_alike, of_two_alike}
use Rattle.sequentiality.specs.Comparing.{MismatchAt, AgreeAt, HasFirstMismatch}
use Rattle.sequentiality.specs.Restrictions.{IsToldBefore, IsNotSequential, IsEarlier, IsViolation}

-- ---- first mismatches of patterns with other heads

module _ {A B : Type 0} (f : A → B) where
  mismatch-map : (c d : PatternCell A) → IsMismatch c d → IsMismatch (map_cell f c) (map_cell f d)
  mismatch-map c d m =
      ⊎_elim
      (λ one. inl (tested-map f c one.0, λ t. one.1 (tested-unmap f d t)))
      (λ other. inr (λ t. other.0 (tested-unmap f c t), tested-map f d other.1))
      m

  mismatch-unmap : (c d : PatternCell A) → IsMismatch (map_cell f c) (map_cell f d) → IsMismatch c d
  mismatch-unmap c d m =
      ⊎_elim
      (λ one. inl (tested-unmap f c one.0, λ t. one.1 (tested-map f d t)))
      (λ other. inr (λ t. other.0 (tested-map f c t), tested-unmap f d other.1))
      m

  mismatch_at-map : (p r : Tree (PatternCell A)) (q : Position) → MismatchAt p r q →
      MismatchAt (map_pattern f p) (map_pattern f r) q
  mismatch_at-map p r q m = record {
    one = map_pattern f m.one;
    other = map_pattern f m.other;
    one_stands = subtree_at-map (map_cell f) p q m.one m.one_stands;
    other_stands = subtree_at-map (map_cell f) r q m.other m.other_stands;
    differ =
        subst_both (λ c d. IsMismatch c d) (sym (head-map f m.one)) (sym (head-map f m.other))
        (mismatch-map (head_of m.one) (head_of m.other) m.differ);
  }

  mismatch_at-unmap : (p r : Tree (PatternCell A)) (q : Position) →
      MismatchAt (map_pattern f p) (map_pattern f r) q → MismatchAt p r q
  mismatch_at-unmap p r q m =
      let one = subtree_at-unmap (map_cell f) p q m.one m.one_stands in
      let other = subtree_at-unmap (map_cell f) r q m.other m.other_stands in
      let e : head_of m.one ≡ map_cell f (head_of one.0) = sym (ap head_of one.2) ∙ head-map f one.0 in
      let e' : head_of m.other ≡ map_cell f (head_of other.0) =
      sym (ap head_of other.2) ∙ head-map f other.0 in
      record {
        one = one.0;
        other = other.0;
        one_stands = one.1;
        other_stands = other.1;
        differ =
            mismatch-unmap (head_of one.0) (head_of other.0)
            (subst_both (λ c d. IsMismatch c d) e e' m.differ);
      }

  module _ (in_a : Classes A) (in_b : Classes B)
      (keeps : (class : ℕ) (h : A) → in_b class (f h) ≡ in_a class h) where
    agree-map : (p r : Tree (PatternCell A)) (q : Position) → AgreeAt in_a p r q →
        AgreeAt in_b (map_pattern f p) (map_pattern f r) q
    agree-map p r q a = record {
      no_clash = λ clash. a.no_clash (clash_at-unmap f in_a in_b keeps p r q clash);
      no_mismatch = λ m. a.no_mismatch (mismatch_at-unmap p r q m);
    }

    first_mismatch-map : (p r : Tree (PatternCell A)) → HasFirstMismatch in_a p r →
        HasFirstMismatch in_b (map_pattern f p) (map_pattern f r)
    first_mismatch-map p r (at, first) = (
      at,
      record {
        mismatch = mismatch_at-map p r at first.mismatch;
        before = λ q before. agree-map p r q (first.before q before);
      },
    )

    first_mismatch_at-map : (p r : Tree (PatternCell A)) (at : ℕ) → at < size p →
        HasFirstMismatch in_a (nth_subtree p at) r →
        HasFirstMismatch in_b (nth_subtree (map_pattern f p) at) (map_pattern f r)
    first_mismatch_at-map p r at lt first =
        subst (λ s. HasFirstMismatch in_b s (map_pattern f r))
        (sym (nth_subtree-map_heads (map_cell f) p at lt)) (first_mismatch-map (nth_subtree p at) r first)

-- ---- breaks

module _ {A B E D : Type 0} (f : A → B) (g : B → A) (in_a : Classes A) (in_b : Classes B) (rule : E → Rule A)
    (other_rule : D → Rule B) where
  told_alike : (es : List E) (ds : List D) → AreAlike f g in_a in_b rule other_rule es ds → (b : Break) →
      IsToldBefore in_a rule es b → IsToldBefore in_b other_rule ds b
  told_alike es ds alike b t = record {
    told = t.told;
    of_two = of_two_alike f g in_a in_b rule other_rule es ds alike t.told t.of_two;
    first = t.first;
    place = t.place;
    second = t.second;
  }

module _ {A B E D : Type 0} (f : A → B) (g : B → A) (in_a : Classes A) (in_b : Classes B) (rule : E → Rule A)
    (other_rule : D → Rule B) (es : List E) (ds : List D)
    (alike : AreAlike f g in_a in_b rule other_rule es ds) where
  not_sequential_to : (b : Break) → IsNotSequential in_a rule es b → IsNotSequential in_b other_rule ds b
  not_sequential_to b n =
      let d = alike.to b.first n.one n.one_listed.listed in
      let d' = alike.to b.second n.other n.other_listed.listed in
      record {
        restriction = n.restriction;
        one = d.0;
        other = d'.0;
        one_listed = listed_alike f g in_a in_b rule other_rule es ds alike b.first n.one n.one_listed;
        other_listed = listed_alike f g in_a in_b rule other_rule es ds alike b.second n.other n.other_listed;
        order = n.order;
        tested = tested_alike f g in_a in_b rule other_rule es ds alike n.one d.0 b.place d.2 n.tested;
        mismatch =
            subst_both (λ (r r' : Rule B). HasFirstMismatch in_b (nth_subtree r.left b.place) r'.left)
            d.2.to d'.2.to
            (first_mismatch_at-map f in_a in_b alike.classes (rule n.one).left (rule n.other).left b.place
            n.tested.there n.mismatch);
        not_told = λ told.
            n.not_told
            (told_alike g f in_b in_a other_rule rule ds es
            (alike_back f g in_a in_b rule other_rule es ds alike) b told);
      }

  earlier_to : (b : Break) → IsEarlier in_a rule es b → IsEarlier in_b other_rule ds b
  earlier_to b h =
      ⊎_elim
      (λ one. inl (of_one_alike f g in_a in_b rule other_rule es ds alike b one))
      (λ two. inr (of_two_alike f g in_a in_b rule other_rule es ds alike b two))
      h

  -- what the first list breaks, the second one does
  violation_to : (b : Break) → IsViolation in_a rule es b → IsViolation in_b other_rule ds b
  violation_to b v =
      ⊎_elim (λ earlier. inl (earlier_to b earlier)) (λ n. inr (not_sequential_to b n)) v

module _ {A B E D : Type 0} (f : A → B) (g : B → A) (in_a : Classes A) (in_b : Classes B) (rule : E → Rule A)
    (other_rule : D → Rule B) (es : List E) (ds : List D)
    (alike : AreAlike f g in_a in_b rule other_rule es ds) where
  -- equations that are alike break the same
  pub violations_alike : (b : Break) → IsViolation in_a rule es b ↔ IsViolation in_b other_rule ds b
  violations_alike b = (
    λ v. violation_to f g in_a in_b rule other_rule es ds alike b v,
    λ v. violation_to g f in_b in_a other_rule rule ds es
        (alike_back f g in_a in_b rule other_rule es ds alike) b v,
  )

  -- and the lists of what they break are the same
  pub lists_alike : (breaks : List Break) →
      Lists (IsViolation in_a rule es) breaks ↔ Lists (IsViolation in_b other_rule ds) breaks
  lists_alike breaks =
      lists_either (IsViolation in_a rule es) (IsViolation in_b other_rule ds) breaks violations_alike
