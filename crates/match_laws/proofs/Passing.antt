-- What is left of an item set after trees are read: the items whose cells the trees meet.
use Rattle.std.proofs.Common.{◌≡◌, ℕ, zero, suc, ◌+◌, ◌<◌, List, refl, sym, ◌∙◌, ap, subst, arith, ⊎_elim, ◌⊎◌, inl, inr}
use Rattle.std.specs.Prelude.{IsTrue, Contains, Some, slice_get}
use Rattle.std.proofs.lemmas.Bool.{cases_lt}
use Rattle.eq_base.specs.Tree.{Tree, Forest, node, empty, grow, head_of, args_of, size, nth_subtree}
use Rattle.eq_base.specs.Storing.{join}
use Rattle.eq_base.specs.Pattern.{PatternCell, fixed, variable, restricted, Classes, IsTested, Meets}
use Rattle.eq_base.proofs.Scans.{forest_from, forest_from-start, forest_from-node, forest_from-args, forest_from-end}
use Rattle.regularity.specs.Arities.{HasArities, HaveArities}
use Rattle.match_laws.specs.Items.{ItemSet, IsCell, HasCell, Holds, IsPlain, AreFurther, WantsRead, IsUnmixed, IsMet}
use Rattle.match_laws.specs.Reading.{KeepArities, AreAfter}
use Rattle.match_laws.specs.Reachable.{IsReachable, start, by_read, by_skip}
use Rattle.match_laws.proofs.Fronts.{Passed, passed_size, passed_none, passed-node, passed_size-node, node-passed, later-passed, passed-plain, plain-size}

tested_or_not : {H : Type 0} (c : PatternCell H) → IsTested c ⊎ (IsTested c → ⊥)
tested_or_not (fixed g) = inl tt
tested_or_not (variable x) = inr (λ z. z)
tested_or_not (restricted x class) = inl tt

-- a cell that is not tested is a plain variable
pub plain_variable : {H : Type 0} (c : PatternCell H) → (IsTested c → ⊥) → (x : ℕ) × (c ≡ variable x)
plain_variable (fixed g) n = absurd (n tt)
plain_variable (variable x) n = (x, refl)
plain_variable (restricted x class) n = absurd (n tt)

have_arities-join : {H : Type 0} (arity : H → ℕ) (ps rs : Forest (PatternCell H)) → HaveArities arity ps → HaveArities arity rs → HaveArities arity (join ps rs)
have_arities-join arity empty rs a b = b
have_arities-join arity (grow p ps) rs a b = (a.0, have_arities-join arity ps rs a.1 b)

arguments_have_arities : {H : Type 0} (arity : H → ℕ) (p : Tree (PatternCell H)) → HasArities arity p → HaveArities arity (args_of p)
arguments_have_arities arity (node (fixed h) ps) a = a.1
arguments_have_arities arity (node (variable x) ps) a = rw a tt
arguments_have_arities arity (node (restricted x class) ps) a = rw a tt

-- no reachable item set is mixed
abbrev pub AllUnmixed : {H : Type 0} → Classes H → List (Tree (PatternCell H)) → Type 0
AllUnmixed in_class lefts = (items : ItemSet) → IsReachable in_class lefts items → IsUnmixed lefts items

-- what the proofs ask of left sides: fixed numbers of arguments, and tested roots
pub record Suits {H : Type 0} (in_class : Classes H) (lefts : List (Tree (PatternCell H))) (arity : H → ℕ) : Type 0 where
  pub arities : (e : ℕ) (left : Tree (PatternCell H)) → slice_get lefts e ≡ Some left → HasArities arity left
  pub constants : (class : ℕ) (h : H) → IsTrue (in_class class h) → arity h ≡ 0
  pub roots : (e : ℕ) (left : Tree (PatternCell H)) → slice_get lefts e ≡ Some left → IsTested (head_of left)

module _ {H : Type 0} (in_class : Classes H) (lefts : List (Tree (PatternCell H))) where
  -- items below the roots have a cell above 0
  pub reachable-below : {items : ItemSet} → IsReachable in_class lefts items → (e c : ℕ) → Contains items (e, c) → 0 < c
  reachable-below start e c x = absurd (omega (arith, x.1))
  reachable-below (by_read h r n) e c x = let f = (n.exactly e c).0 x in omega (arith, f.further)
  reachable-below (by_skip r n) e c x = let f = (n.exactly e c).0 x in omega (arith, f.further)

  -- what is read from a reachable item set is reachable
  pub after-reachable : (ts : Forest H) (items next : ItemSet) → IsReachable in_class lefts items → AreAfter in_class lefts ts items next → IsReachable in_class lefts next
  after-reachable empty items next r a = subst (IsReachable in_class lefts) a r
  after-reachable (grow (node h vs) ts) items next r (between, inl skipped, after) = after-reachable ts between next (by_skip r skipped.1) after
  after-reachable (grow (node h vs) ts) items next r (between, inr (no_skip, (inner, read, below)), after) = after-reachable ts between next (after-reachable vs inner between (by_read h r read) below) after

  module _ (arity : H → ℕ) (suits : Suits in_class lefts arity) where
    module _ (e : ℕ) (left : Tree (PatternCell H)) (listed : slice_get lefts e ≡ Some left) where
      abbrev pub from : ℕ → Forest (PatternCell H)
      from b = forest_from left b

      abbrev pub part : ℕ → Tree (PatternCell H)
      part b = nth_subtree left b

      same_left : (other : Tree (PatternCell H)) → slice_get lefts e ≡ Some other → other ≡ left
      same_left other l = cc

      pub cell-there : (b : ℕ) (cell : PatternCell H) → IsCell lefts e b cell → b < size left
      cell-there b cell i = subst (λ (z : Tree (PatternCell H)). b < size z) (same_left i.left i.listed) i.there

      pub cell-is : (b : ℕ) (cell : PatternCell H) → IsCell lefts e b cell → head_of (part b) ≡ cell
      cell-is b cell i = subst (λ (z : Tree (PatternCell H)). head_of (nth_subtree z b) ≡ cell) (same_left i.left i.listed) i.stands

      pub is-cell : (b : ℕ) → b < size left → IsCell lefts e b (head_of (part b))
      is-cell b lt = record { left = left; listed = listed; there = lt; stands = refl }

      pub has-cell : (b : ℕ) → b < size left → HasCell lefts e b
      has-cell b lt = (head_of (part b), is-cell b lt)

      pub from-arities : (b : ℕ) → HaveArities arity (from b)
      from-arities zero = rw (forest_from-start left) (suits.arities e left listed, tt)
      from-arities (suc b) =
          ⊎_elim
          (λ lt. let here = subst (HaveArities arity) (forest_from-node left b lt) (from-arities b) in let one : suc b ≡ b + 1 = omega arith in
          rw (one, forest_from-args left b lt) (have_arities-join arity (args_of (part b)) (forest_from left (b + size (part b))) (arguments_have_arities arity (part b) here.0) here.1))
          (λ past. rw (forest_from-end left (suc b) (omega arith)) tt)
          (cases_lt b (size left))

      pub part-arities : (b : ℕ) → b < size left → HasArities arity (part b)
      part-arities b lt = (subst (HaveArities arity) (forest_from-node left b lt) (from-arities b)).0

      -- past the cell b and what stands below it
      pub from-node : (b : ℕ) → b < size left → from b ≡ grow (part b) (from (b + size (part b)))
      from-node b lt = forest_from-node left b lt

      pub from-suc : (b : ℕ) → b < size left → from (suc b) ≡ join (args_of (part b)) (from (b + size (part b)))
      from-suc b lt = let one : suc b ≡ b + 1 = omega arith in rw (one, forest_from-args left b lt) refl

      -- the item that a read or a skip has moved on
      pub not-root : (items : ItemSet) (c : ℕ) → 0 < c → Holds lefts items e c → Contains items (e, c)
      not-root items c more held = ⊎_elim (λ z. absurd (omega arith)) (λ x. x) held.1

      -- the items from which reading the trees leads to the item c
      pub record Pass (items : ItemSet) (ts : Forest H) (c : ℕ) : Type 0 where
        pub b : ℕ
        pub held : Holds lefts items e b
        pub passed : Passed in_class (from b) ts
        pub is : c ≡ b + passed_size in_class (from b) ts
        pub there : c < size left

      -- no item is past the root of a left side that it has passed whole
      root-passes-nothing : (t : Tree H) (ts : Forest H) (c : ℕ) → c ≡ 0 + passed_size in_class (from 0) (grow t ts) → c < size left → ⊥
      root-passes-nothing t ts c is there =
          let whole : passed_size in_class (from 0) (grow t ts) ≡ passed_size in_class (grow left empty) (grow t ts) = ap (λ ps. passed_size in_class ps (grow t ts)) (forest_from-start left) in
          omega (arith, whole, is, there)

      -- where a later item comes from
      pub pass-below : (items : ItemSet) (ts : Forest H) (c : ℕ) → 0 < c → (p : Pass items ts c) → 0 < p.b
      pass-below items empty c more p = let z = p.is in omega arith
      pass-below items (grow t ts) c more p = ⊎_elim (λ lt. lt) (λ le. let z : p.b ≡ 0 = omega arith in absurd (root-passes-nothing t ts c (subst (λ b. c ≡ b + passed_size in_class (from b) (grow t ts)) z p.is) p.there)) (cases_lt 0 p.b)

      pub after-from : (ts : Forest H) (items next : ItemSet) → IsReachable in_class lefts items → KeepArities arity ts → AreAfter in_class lefts ts items next → (c : ℕ) → 0 < c → Holds lefts next e c → Pass items ts c
      after-from empty items next r k a c more held =
          record { b = c; held = subst (λ s. Holds lefts s e c) (sym a) held; passed = passed_none in_class (from c); is = omega arith; there = cell-there c held.0.0 held.0.1 }
      after-from (grow (node h vs) ts) items next r k (between, inl (wants, skip), after) c more held =
          let p = after-from ts between next (by_skip r skip) k.2 after c more held in
          let f = (skip.exactly e p.b).0 (not-root between p.b (pass-below between ts c more p) p.held) in
          let lt = cell-there f.before (variable f.this.x) f.this.is_cell in
          let plain : IsTested (head_of (part f.before)) → ⊥ = λ z. subst IsTested (cell-is f.before (variable f.this.x) f.this.is_cell) z in
          let one = plain-size in_class arity suits.constants (part f.before) (part-arities f.before lt) plain in
          let same : p.b ≡ f.before + size (part f.before) = omega (arith, f.further, one) in
          record {
            b = f.before;
            held = f.this.held;
            passed = rw (from-node f.before lt) (passed-plain in_class arity suits.constants (part f.before) (from (f.before + size (part f.before))) (node h vs) ts plain (subst (λ b. Passed in_class (from b) ts) same p.passed));
            is = rw (from-node f.before lt) (p.is ∙ ap (λ b. b + passed_size in_class (from b) ts) same ∙ omega arith);
            there = p.there;
          }
      after-from (grow (node h vs) ts) items next r k (between, inr (no_skip, (inner, read, below)), after) c more held =
          let r' = by_read h r read in
          let p = after-from ts between next (after-reachable vs inner between r' below) k.2 after c more held in
          let q = after-from vs inner between r' k.1 below p.b (pass-below between ts c more p) p.held in
          let f = (read.exactly e q.b).0 (not-root inner q.b (pass-below inner vs p.b (pass-below between ts c more p) q) q.held) in
          let lt = cell-there f.before f.this.cell f.this.is_cell in
          let is = cell-is f.before f.this.cell f.this.is_cell in
          let tested : IsTested (head_of (part f.before)) = subst IsTested (sym is) f.this.tested in
          let meets : Meets in_class (head_of (part f.before)) h = subst (λ z. Meets in_class z h) (sym is) f.this.meets in
          let inside : Passed in_class (join (args_of (part f.before)) (from (f.before + size (part f.before)))) vs = subst (λ ps. Passed in_class ps vs) (ap from f.further ∙ from-suc f.before lt) q.passed in
          let long = passed_size-node in_class arity suits.constants (part f.before) (from (f.before + size (part f.before))) h vs (part-arities f.before lt) tested meets k.0 in
          let wide : passed_size in_class (from q.b) vs ≡ passed_size in_class (join (args_of (part f.before)) (from (f.before + size (part f.before)))) vs = ap (λ ps. passed_size in_class ps vs) (ap from f.further ∙ from-suc f.before lt) in
          let same : p.b ≡ f.before + size (part f.before) = omega (arith, f.further, long, wide, q.is) in
          record {
            b = f.before;
            held = f.this.held;
            passed = rw (from-node f.before lt) (passed-node in_class arity suits.constants (part f.before) (from (f.before + size (part f.before))) h vs ts (part-arities f.before lt) tested meets k.0 inside (subst (λ b. Passed in_class (from b) ts) same p.passed));
            is = rw (from-node f.before lt) (p.is ∙ ap (λ b. b + passed_size in_class (from b) ts) same ∙ omega arith);
            there = p.there;
          }

      pub held-further : (these : ℕ → ℕ → Type 0) (next : ItemSet) → AreFurther lefts these next → (b : ℕ) → these e b → suc b < size left → Holds lefts next e (suc b)
      held-further these next n b this lt = (has-cell (suc b) lt, inr ((n.exactly e (suc b)).1 (record { before = b; further = refl; this = this; there = has-cell (suc b) lt })))

      -- and each item whose cells the trees pass is there after them
      pub after-to : AllUnmixed in_class lefts → (ts : Forest H) (items next : ItemSet) → IsReachable in_class lefts items → KeepArities arity ts → AreAfter in_class lefts ts items next → (b c : ℕ) → Holds lefts items e b → Passed in_class (from b) ts → c ≡ b + passed_size in_class (from b) ts → c < size left → Holds lefts next e c
      after-to unmixed empty items next r k a b c held passed is there =
          let same : b ≡ c = omega arith in subst (λ s. Holds lefts s e c) a (subst (Holds lefts items e) same held)
      after-to unmixed (grow (node h vs) ts) items next r k (between, skip_or_read, after) b c held passed is there =
          let lt = cell-there b held.0.0 held.0.1 in
          let u = part b in
          let end = b + size u in
          let whole : Passed in_class (grow u (from end)) (grow (node h vs) ts) = subst (λ ps. Passed in_class ps (grow (node h vs) ts)) (from-node b lt) passed in
          let long : passed_size in_class (from b) (grow (node h vs) ts) ≡ size u + passed_size in_class (from end) ts = ap (λ ps. passed_size in_class ps (grow (node h vs) ts)) (from-node b lt) in
          let is' : c ≡ end + passed_size in_class (from end) ts = omega (arith, is, long) in
          let later = later-passed in_class arity suits.constants u (from end) (node h vs) ts whole in
          let some : 0 < size u = positive u in
          let r' = after-reachable (grow (node h vs) empty) items between r (between, skip_or_read, refl) in
          ⊎_elim
          (λ more. after-to unmixed ts between next r' k.2 after end c (moved (λ inner r'' a' b' c' held' passed' is'' there'. after-to unmixed vs inner between r'' k.1 a' b' c' held' passed' is'' there') b lt more held whole end refl (omega arith)) later is' there)
          (λ none. absurd (let z : b ≡ 0 = omega arith in root-passes-nothing (node h vs) ts c (subst (λ k. c ≡ k + passed_size in_class (from k) (grow (node h vs) ts)) z is) there))
          (cases_lt 0 b)
        where
          positive : (u : Tree (PatternCell H)) → 0 < size u
          positive (node g us) = omega arith

          no_read : (b : ℕ) → 0 < b → Holds lefts items e b → IsTested (head_of (part b)) → (WantsRead lefts items → ⊥) → ⊥
          no_read b more held tested none = none (record { e = e; c = b; below = more; waiting = record { held = held; cell = head_of (part b); is_cell = is-cell b (cell-there b held.0.0 held.0.1); tested = tested } })

          plain_at : (b : ℕ) → Holds lefts items e b → (IsTested (head_of (part b)) → ⊥) → IsPlain lefts items e b
          plain_at b held plain =
              let x = plain_variable (head_of (part b)) plain in
              record { held = held; x = x.0; is_cell = subst (IsCell lefts e b) x.1 (is-cell b (cell-there b held.0.0 held.0.1)) }

          moved : ((inner : ItemSet) → IsReachable in_class lefts inner → AreAfter in_class lefts vs inner between → (b c : ℕ) → Holds lefts inner e b → Passed in_class (from b) vs → c ≡ b + passed_size in_class (from b) vs → c < size left → Holds lefts between e c) → (b : ℕ) → b < size left → 0 < b → Holds lefts items e b → Passed in_class (grow (part b) (from (b + size (part b)))) (grow (node h vs) ts) → (end : ℕ) → end ≡ b + size (part b) → end < size left → Holds lefts between e end
          moved below b lt more held whole end is inside =
              let u = part b in
              elim (tested_or_not (head_of u)) [
                | inl tested ↦ elim skip_or_read [
                  | inl skipped ↦ absurd (no_read b more held tested skipped.0.no_read)
                  | inr read ↦
                      let inner = read.1.0 in
                      let n = node-passed in_class arity suits.constants u (from (b + size u)) h vs ts whole (part-arities b lt) tested in
                      let met : IsMet in_class lefts items h e b = record { held = held; cell = head_of u; is_cell = is-cell b lt; tested = tested; meets = n.meets } in
                      let long = passed_size-node in_class arity suits.constants u (from (b + size u)) h vs (part-arities b lt) tested n.meets k.0 in
                      let wide : passed_size in_class (from (suc b)) vs ≡ passed_size in_class (join (args_of u) (from (b + size u))) vs = ap (λ ps. passed_size in_class ps vs) (from-suc b lt) in
                      let further = held-further (IsMet in_class lefts items h) inner read.1.1 b met (omega (arith, long)) in
                      below inner (by_read h r read.1.1) read.1.2 (suc b) end further (subst (λ ps. Passed in_class ps vs) (sym (from-suc b lt)) n.below) (omega (arith, long, wide, is)) inside
                ]
                | inr plain ↦ elim skip_or_read [
                  | inl skipped ↦
                      let one = plain-size in_class arity suits.constants u (part-arities b lt) plain in
                      let same : suc b ≡ end = omega (arith, one, is) in
                      subst (Holds lefts between e) same (held-further (IsPlain lefts items) between skipped.1 b (plain_at b held plain) (omega (arith, one, is)))
                  | inr read ↦
                      let c = not-root items b more held in
                      absurd (read.0 (record { some = omega (arith, c.1); no_read = λ w. unmixed items r e b w.e w.c more w.below (plain_at b held plain) w.waiting }))
                ]
              ]
