-- Equations that are alike break RE1 to RE4 alike: their rules are the same but for their heads.
use Rattle.std.proofs.Common.{◌≡◌, ℕ, inl, inr, List, Some, sym, subst, ⊎_elim}
use Rattle.std.specs.Prelude.{slice_get}
use Rattle.eq_base.specs.Tree.{nth_subtree}
use Rattle.eq_base.specs.Pattern.{Classes}
use Rattle.eq_base.specs.Rewriting.{Rule}
use Rattle.eq_base.specs.Mapping.{map_rule}
use Rattle.regularity.specs.declared.breaks.Break.{Break}
use Rattle.regularity.specs.Common.{HaveCommon}
use Rattle.regularity.specs.Occurrences.{Repeats, IsTestedPlace}
use Rattle.regularity.specs.Restrictions.{HasUnbound, IsSameRight, IsSingle, AreAmbiguous, IsListedSingle, IsRepeated, IsUnboundBreak, IsAmbiguous, IsOverlap, IsOfOne, IsOfTwo}
use Rattle.regularity.proofs.MappedPatterns.{repeats-map, repeats-unmap, has_unbound-map, has_unbound-unmap, tested_place-map, same_right-map, common-map, common_at-map}

-- the rule with its heads mapped is the other one, which can be mapped back
pub record AreSameBut {A B : Type 0} (f : A → B) (g : B → A) (one : Rule A) (other : Rule B) : Type 0 where
  pub to : map_rule f one ≡ other
  pub back : map_rule g other ≡ one

-- the equations of two lists are alike, one by one: their rules are the same but for their heads, which can
-- be mapped there and back, and classes are kept
pub record AreAlike {A B E D : Type 0} (f : A → B) (g : B → A) (in_a : Classes A) (in_b : Classes B)
    (rule : E → Rule A) (other_rule : D → Rule B) (es : List E) (ds : List D) : Type 0 where
  pub classes : (class : ℕ) (h : A) → in_b class (f h) ≡ in_a class h
  pub classes_back : (class : ℕ) (h : B) → in_a class (g h) ≡ in_b class h
  pub to : (k : ℕ) (e : E) → slice_get es k ≡ Some e →
      (d : D) × (slice_get ds k ≡ Some d) × AreSameBut f g (rule e) (other_rule d)
  pub back : (k : ℕ) (d : D) → slice_get ds k ≡ Some d →
      (e : E) × (slice_get es k ≡ Some e) × AreSameBut g f (other_rule d) (rule e)

pub subst_both : {R : Type 0} (P : R → R → Type 0) {a a' b b' : R} → a ≡ a' → b ≡ b' → P a b → P a' b'
subst_both P {a} {a'} {b} {b'} e e' x = subst (λ r. P r b') e (subst (λ r. P a r) e' x)

module _ {A B E D : Type 0} (f : A → B) (g : B → A) (in_a : Classes A) (in_b : Classes B) (rule : E → Rule A)
    (other_rule : D → Rule B) where
  pub alike_back : (es : List E) (ds : List D) → AreAlike f g in_a in_b rule other_rule es ds →
      AreAlike g f in_b in_a other_rule rule ds es
  alike_back es ds alike =
      record { classes = alike.classes_back; classes_back = alike.classes; to = alike.back; back = alike.to }

  single_alike : (e : E) (d : D) → AreSameBut f g (rule e) (other_rule d) → IsSingle rule e →
      IsSingle other_rule d
  single_alike e d same s = record {
    linear = λ at r.
        s.linear at
        (repeats-unmap f (rule e).left at (subst (λ (r : Rule B). Repeats r.left at) (sym same.to) r));
    bound = λ at u.
        s.bound at
        (has_unbound-unmap f (rule e).left (rule e).right at
        (subst (λ (r : Rule B). HasUnbound r.left r.right at) (sym same.to) u));
  }

  module _ (es : List E) (ds : List D) (alike : AreAlike f g in_a in_b rule other_rule es ds) where
    ambiguous_alike : (e e' : E) (d d' : D) → AreSameBut f g (rule e) (other_rule d) →
        AreSameBut f g (rule e') (other_rule d') → AreAmbiguous in_a rule e e' →
        AreAmbiguous in_b other_rule d d'
    ambiguous_alike e e' d d' same same' a = record {
      common =
          subst_both (λ (r r' : Rule B). HaveCommon in_b r.left r'.left) same.to same'.to
          (common-map f in_a in_b alike.classes (rule e).left (rule e').left a.common);
      differ = λ s.
          a.differ
          (subst_both (λ (r r' : Rule A). IsSameRight r.left r'.left r.right r'.right) same.back same'.back
          (same_right-map g (other_rule d).left (other_rule d').left (other_rule d).right (other_rule d').right
          s));
    }

    pub listed_alike : (k : ℕ) (e : E) → (l : IsListedSingle in_a rule es k e) →
        IsListedSingle in_b other_rule ds k (alike.to k e l.listed).0
    listed_alike k e l =
        let d = alike.to k e l.listed in
        record { listed = d.1; single = single_alike e d.0 d.2 l.single }

    -- the part of a left side that is tested
    pub tested_alike : (e : E) (d : D) (at : ℕ) → AreSameBut f g (rule e) (other_rule d) →
        IsTestedPlace (rule e).left at → IsTestedPlace (other_rule d).left at
    tested_alike e d at same t =
        subst (λ (r : Rule B). IsTestedPlace r.left at) same.to (tested_place-map f (rule e).left at t)

    pub of_one_alike : (b : Break) → IsOfOne in_a rule es b → IsOfOne in_b other_rule ds b
    of_one_alike b h = ⊎_elim (λ r. inl (repeated r)) (λ u. inr (unbound u)) h
      where
        repeated : IsRepeated in_a rule es b → IsRepeated in_b other_rule ds b
        repeated r =
            let d = alike.to b.first r.equation r.listed in
            record {
              restriction = r.restriction;
              equation = d.0;
              listed = d.1;
              repeats =
                  subst (λ (s : Rule B). Repeats s.left b.place) d.2.to
                  (repeats-map f (rule r.equation).left b.place r.repeats);
              second = r.second;
            }

        unbound : IsUnboundBreak in_a rule es b → IsUnboundBreak in_b other_rule ds b
        unbound u =
            let d = alike.to b.first u.equation u.listed in
            record {
              restriction = u.restriction;
              equation = d.0;
              listed = d.1;
              unbound =
                  subst (λ (s : Rule B). HasUnbound s.left s.right b.place) d.2.to
                  (has_unbound-map f (rule u.equation).left (rule u.equation).right b.place u.unbound);
              second = u.second;
            }

    pub of_two_alike : (b : Break) → IsOfTwo in_a rule es b → IsOfTwo in_b other_rule ds b
    of_two_alike b h = ⊎_elim (λ a. inl (ambiguous a)) (λ o. inr (overlap o)) h
      where
        ambiguous : IsAmbiguous in_a rule es b → IsAmbiguous in_b other_rule ds b
        ambiguous a =
            let d = alike.to b.first a.one a.one_listed.listed in
            let d' = alike.to b.second a.other a.other_listed.listed in
            record {
              restriction = a.restriction;
              one = d.0;
              other = d'.0;
              one_listed = listed_alike b.first a.one a.one_listed;
              other_listed = listed_alike b.second a.other a.other_listed;
              order = a.order;
              root = a.root;
              ambiguous = ambiguous_alike a.one a.other d.0 d'.0 d.2 d'.2 a.ambiguous;
            }

        overlap : IsOverlap in_a rule es b → IsOverlap in_b other_rule ds b
        overlap o =
            let d = alike.to b.first o.one o.one_listed.listed in
            let d' = alike.to b.second o.other o.other_listed.listed in
            record {
              restriction = o.restriction;
              one = d.0;
              other = d'.0;
              one_listed = listed_alike b.first o.one o.one_listed;
              other_listed = listed_alike b.second o.other o.other_listed;
              below = o.below;
              tested = tested_alike o.one d.0 b.place d.2 o.tested;
              common =
                  subst_both (λ (r r' : Rule B). HaveCommon in_b (nth_subtree r.left b.place) r'.left)
                  d.2.to d'.2.to
                  (common_at-map f in_a in_b alike.classes (rule o.one).left (rule o.other).left b.place
                  o.tested.there o.common);
            }
