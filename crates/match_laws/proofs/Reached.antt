-- What the item set at a position of a term holds.
use Rattle.std.proofs.Common.{◌≡◌, ℕ, zero, suc, ◌+◌, ◌<◌, List, [], ◌∷◌, ◌++◌, refl, sym, ◌∙◌, ap, subst, arith, ⊎_elim, ◌⊎◌, inl, inr}
use Rattle.std.specs.Prelude.{Some, slice_get}
use Rattle.std.proofs.lemmas.Bool.{cases_lt}
use Rattle.eq_base.specs.Tree.{Tree, Forest, node, empty, grow, head_of, args_of, size, Position, subtree_in, number, number_in}
use Rattle.eq_base.specs.Storing.{join}
use Rattle.eq_base.specs.Pattern.{PatternCell, Classes, IsTested, Meets}
use Rattle.eq_base.proofs.Scans.{forest_from-start}
use Rattle.match_laws.specs.Items.{ItemSet, Holds, IsMet, IsRead}
use Rattle.match_laws.specs.Reading.{KeepArities, AreAfter, AreReached}
use Rattle.match_laws.specs.Reachable.{IsReachable, by_read}
use Rattle.match_laws.proofs.Fronts.{Passed, passed_size, passed-join, passed-front, FrontIn, front-first, front-below, below-front}
use Rattle.match_laws.proofs.Passing.{AllUnmixed, Suits, after-reachable, from, part, cell-there, cell-is, is-cell, has-cell, part-arities, from-node, from-suc, not-root, pass-below, after-from, held-further, after-to}

module _ {H : Type 0} (in_class : Classes H) (lefts : List (Tree (PatternCell H))) (arity : H → ℕ) (suits : Suits in_class lefts arity) (e : ℕ) (left : Tree (PatternCell H)) (listed : slice_get lefts e ≡ Some left) where
  abbrev rest : ℕ → Forest (PatternCell H)
  rest b = from in_class lefts arity suits e left listed b

  -- an item that was there before the trees, and that the trees meet before the position
  pub record Outer (items : ItemSet) (ts : Forest H) (i : ℕ) (q : Position) (c : ℕ) : Type 0 where
    pub b : ℕ
    pub below : 0 < b
    pub held : Holds lefts items e b
    pub front : FrontIn in_class (rest b) ts i q
    pub is : c ≡ b + number_in (rest b) i q
    pub there : c < size left

  -- an item that began in one of the trees
  pub record Inner (ts : Forest H) (i : ℕ) (q : Position) (c : ℕ) : Type 0 where
    pub above : Position
    pub below : Position
    pub position : q ≡ above ++ below
    pub subterm : Tree H
    pub stands : subtree_in ts i above ≡ Some subterm
    pub front : FrontIn in_class (grow left empty) (grow subterm empty) zero below
    pub is : c ≡ number left below
    pub there : c < size left

  pub reached-from : (ts : Forest H) (items next : ItemSet) (i : ℕ) (q : Position) → IsReachable in_class lefts items → KeepArities arity ts → AreReached in_class lefts ts items i q next → (c : ℕ) → Holds lefts next e c → Outer items ts i q c ⊎ Inner ts i q c
  reached-from empty items next i q r k a c held = absurd a
  reached-from (grow (node h vs) ts) items next zero [] r k a c held =
      let lt = cell-there in_class lefts arity suits e left listed c held.0.0 held.0.1 in
      elim held.1 [
        | inl root ↦ inr (record { above = []; below = []; position = refl; subterm = node h vs; stands = refl; front = tt; is = root; there = lt })
        | inr deep ↦ ⊎_elim
            (λ more. inl (record {
              b = c;
              below = more;
              held = subst (λ s. Holds lefts s e c) (sym a) held;
              front = rw (from-node in_class lefts arity suits e left listed c lt) tt;
              is = rw (from-node in_class lefts arity suits e left listed c lt) (omega arith);
              there = lt;
            }))
            (λ none. inr (record { above = []; below = []; position = refl; subterm = node h vs; stands = refl; front = tt; is = omega arith; there = lt }))
            (cases_lt 0 c)
      ]
  reached-from (grow (node h vs) ts) items next zero (j ∷ q) r k (inner, read, reached) c held =
      elim (reached-from vs inner next j q (by_read h r read) k.1 reached c held) [
        | inl o ↦
            let f = (read.exactly e o.b).0 (not-root in_class lefts arity suits e left listed inner o.b o.below o.held) in
            let b = f.before in
            let lt = cell-there in_class lefts arity suits e left listed b f.this.cell f.this.is_cell in
            let u = part in_class lefts arity suits e left listed b in
            let is = cell-is in_class lefts arity suits e left listed b f.this.cell f.this.is_cell in
            let tested : IsTested (head_of u) = subst IsTested (sym is) f.this.tested in
            let meets : Meets in_class (head_of u) h = subst (λ z. Meets in_class z h) (sym is) f.this.meets in
            let moved : rest o.b ≡ join (args_of u) (rest (b + size u)) = ap rest f.further ∙ from-suc in_class lefts arity suits e left listed b lt in
            let w = front-below in_class arity suits.constants u (rest (b + size u)) h vs ts j q (part-arities in_class lefts arity suits e left listed b lt) tested meets k.0 (subst (λ ps. FrontIn in_class ps vs j q) moved o.front) in
            let here : FrontIn in_class (rest b) (grow (node h vs) ts) zero (j ∷ q) = subst (λ ps. FrontIn in_class ps (grow (node h vs) ts) zero (j ∷ q)) (sym (from-node in_class lefts arity suits e left listed b lt)) w.0 in
            let n1 : number_in (rest o.b) j q ≡ number_in (join (args_of u) (rest (b + size u))) j q = ap (λ ps. number_in ps j q) moved in
            let n2 : number_in (rest b) zero (j ∷ q) ≡ number_in (grow u (rest (b + size u))) zero (j ∷ q) = ap (λ ps. number_in ps zero (j ∷ q)) (from-node in_class lefts arity suits e left listed b lt) in
            let counted : c ≡ b + number_in (rest b) zero (j ∷ q) = omega (arith, o.is, f.further, n1, n2, w.1) in
            ⊎_elim
            (λ more. inl (record { b = b; below = more; held = f.this.held; front = here; is = counted; there = o.there }))
            (λ none.
            let z : b ≡ 0 = omega arith in
            let whole : rest b ≡ grow left empty = ap rest z ∙ forest_from-start left in
            inr (record {
              above = [];
              below = j ∷ q;
              position = refl;
              subterm = node h vs;
              stands = refl;
              front = front-first in_class left empty empty (node h vs) ts empty (j ∷ q) (subst (λ ps. FrontIn in_class ps (grow (node h vs) ts) zero (j ∷ q)) whole here);
              is = counted ∙ ap (λ n. n + number_in (rest b) zero (j ∷ q)) z ∙ omega (arith, ap (λ ps. number_in ps zero (j ∷ q)) whole);
              there = o.there;
            }))
            (cases_lt 0 b)
        | inr i ↦ inr (record { above = j ∷ i.above; below = i.below; position = ap (λ p. j ∷ p) i.position; subterm = i.subterm; stands = i.stands; front = i.front; is = i.is; there = i.there })
      ]
  reached-from (grow (node h vs) ts) items next (suc i) q r k (between, after, reached) c held =
      let one : AreAfter in_class lefts (grow (node h vs) empty) items between = (between, after, refl) in
      elim (reached-from ts between next i q (after-reachable in_class lefts (grow (node h vs) empty) items between r one) k.2 reached c held) [
        | inl o ↦
            let p = after-from in_class lefts arity suits e left listed (grow (node h vs) empty) items between r (k.0, k.1, tt) one o.b o.below o.held in
            let lt = cell-there in_class lefts arity suits e left listed p.b p.held.0.0 p.held.0.1 in
            let u = part in_class lefts arity suits e left listed p.b in
            let more = rest (p.b + size u) in
            let split = from-node in_class lefts arity suits e left listed p.b lt in
            let passed : Passed in_class (grow u more) (grow (node h vs) empty) = subst (λ ps. Passed in_class ps (grow (node h vs) empty)) split p.passed in
            let long : passed_size in_class (rest p.b) (grow (node h vs) empty) ≡ size u + 0 = ap (λ ps. passed_size in_class ps (grow (node h vs) empty)) split in
            let end : o.b ≡ p.b + size u = omega (arith, p.is, long) in
            let n : number_in (rest p.b) (suc i) q ≡ size u + number_in more i q = ap (λ ps. number_in ps (suc i) q) split in
            let m : number_in (rest o.b) i q ≡ number_in more i q = ap (λ b. number_in (rest b) i q) end in
            inl (record {
              b = p.b;
              below = pass-below in_class lefts arity suits e left listed items (grow (node h vs) empty) o.b o.below p;
              held = p.held;
              front = subst (λ ps. FrontIn in_class ps (grow (node h vs) ts) (suc i) q) (sym split) (passed-front in_class (grow u empty) more (grow (node h vs) empty) refl passed, subst (λ b. FrontIn in_class (rest b) ts i q) end o.front);
              is = omega (arith, o.is, n, m, end);
              there = o.there;
            })
        | inr i ↦ inr (record { above = i.above; below = i.below; position = i.position; subterm = i.subterm; stands = i.stands; front = i.front; is = i.is; there = i.there })
      ]

  -- ---- and the other way

  no_way : (p q : Position) → [] ≡ p ++ q → (p ≡ []) × (q ≡ [])
  no_way [] q e = (refl, sym e)
  no_way (i ∷ p) q e = absurd (cc)

  same_first : (i j : ℕ) (p q : Position) → i ∷ p ≡ j ∷ q → (i ≡ j) × (p ≡ q)
  same_first i j p q e = (cc, cc)

  -- an item whose cell the head meets moves on to the arguments
  pub record Moved (inner : ItemSet) (vs : Forest H) (j : ℕ) (q : Position) (b c : ℕ) : Type 0 where
    pub held : Holds lefts inner e (suc b)
    pub front : FrontIn in_class (rest (suc b)) vs j q
    pub is : c ≡ suc b + number_in (rest (suc b)) j q

  moved-on : (h : H) (vs ts : Forest H) (items inner : ItemSet) (j : ℕ) (q : Position) (b c : ℕ) → IsRead in_class lefts items h inner → Holds lefts items e b → FrontIn in_class (rest b) (grow (node h vs) ts) zero (j ∷ q) → c ≡ b + number_in (rest b) zero (j ∷ q) → c < size left → Moved inner vs j q b c
  moved-on h vs ts items inner j q b c read held front is there =
      let lt = cell-there in_class lefts arity suits e left listed b held.0.0 held.0.1 in
      let u = part in_class lefts arity suits e left listed b in
      let split = from-node in_class lefts arity suits e left listed b lt in
      let next = from-suc in_class lefts arity suits e left listed b lt in
      let w = below-front in_class arity suits.constants u (rest (b + size u)) h vs ts j q (subst (λ ps. FrontIn in_class ps (grow (node h vs) ts) zero (j ∷ q)) split front) in
      let met : IsMet in_class lefts items h e b = record { held = held; cell = head_of u; is_cell = is-cell in_class lefts arity suits e left listed b lt; tested = w.tested; meets = w.meets } in
      let n1 : number_in (rest b) zero (j ∷ q) ≡ number_in (grow u (rest (b + size u))) zero (j ∷ q) = ap (λ ps. number_in ps zero (j ∷ q)) split in
      let n2 : number_in (rest (suc b)) j q ≡ number_in (join (args_of u) (rest (b + size u))) j q = ap (λ ps. number_in ps j q) next in
      let counted : c ≡ suc b + number_in (rest (suc b)) j q = omega (arith, is, n1, n2, w.number_is) in
      record {
        held = held-further in_class lefts arity suits e left listed (IsMet in_class lefts items h) inner read b met (omega (arith, counted, there));
        front = subst (λ ps. FrontIn in_class ps vs j q) (sym next) w.front;
        is = counted;
      }

  pub reached-to : AllUnmixed in_class lefts → (ts : Forest H) (items next : ItemSet) (i : ℕ) (q : Position) → IsReachable in_class lefts items → KeepArities arity ts → AreReached in_class lefts ts items i q next → (c : ℕ) → Outer items ts i q c ⊎ Inner ts i q c → Holds lefts next e c
  reached-to unmixed empty items next i q r k a c x = absurd a
  reached-to unmixed (grow (node h vs) ts) items next zero [] r k a c (inl o) =
      let lt = cell-there in_class lefts arity suits e left listed o.b o.held.0.0 o.held.0.1 in
      let none : number_in (rest o.b) zero [] ≡ 0 = ap (λ ps. number_in ps zero []) (from-node in_class lefts arity suits e left listed o.b lt) in
      let same : o.b ≡ c = omega (arith, o.is, none) in
      subst (λ s. Holds lefts s e c) a (subst (Holds lefts items e) same o.held)
  reached-to unmixed (grow (node h vs) ts) items next zero [] r k a c (inr i) =
      let none = no_way i.above i.below i.position in
      let root : c ≡ 0 = i.is ∙ ap (number left) none.1 ∙ at_root left in
      (has-cell in_class lefts arity suits e left listed c i.there, inl root)
    where
      at_root : (t : Tree (PatternCell H)) → number t [] ≡ 0
      at_root (node c us) = refl
  reached-to unmixed (grow (node h vs) ts) items next zero (j ∷ q) r k (inner, read, reached) c (inl o) =
      let m = moved-on h vs ts items inner j q o.b c read o.held o.front o.is o.there in
      reached-to unmixed vs inner next j q (by_read h r read) k.1 reached c (inl (record { b = suc o.b; below = omega arith; held = m.held; front = m.front; is = m.is; there = o.there }))
  reached-to unmixed (grow (node h vs) ts) items next zero (j ∷ q) r k (inner, read, reached) c (inr i) =
      begun i.above i.below i.position i.subterm i.stands i.front i.is i.there (λ x. reached-to unmixed vs inner next j q (by_read h r read) k.1 reached c x)
    where
      begun : (above below : Position) → j ∷ q ≡ above ++ below → (subterm : Tree H) → subtree_in (grow (node h vs) ts) zero above ≡ Some subterm → FrontIn in_class (grow left empty) (grow subterm empty) zero below → c ≡ number left below → c < size left →
          (Outer inner vs j q c ⊎ Inner vs j q c → Holds lefts next e c) → Holds lefts next e c
      begun [] below position subterm stands front is there further =
          let whole : rest 0 ≡ grow left empty = forest_from-start left in
          let same : subterm ≡ node h vs = cc in
          let here : FrontIn in_class (grow left empty) (grow (node h vs) empty) zero (j ∷ q) = subst (λ s. FrontIn in_class (grow left empty) (grow s empty) zero (j ∷ q)) same (subst (λ p. FrontIn in_class (grow left empty) (grow subterm empty) zero p) (sym position) front) in
          let counted : c ≡ number left (j ∷ q) = is ∙ ap (number left) (sym position) in
          let n : number_in (rest 0) zero (j ∷ q) ≡ number left (j ∷ q) = ap (λ ps. number_in ps zero (j ∷ q)) whole in
          let root : Holds lefts items e 0 = (has-cell in_class lefts arity suits e left listed 0 (omega (arith, there)), inl refl) in
          let m = moved-on h vs ts items inner j q 0 c read root (subst (λ ps. FrontIn in_class ps (grow (node h vs) ts) zero (j ∷ q)) (sym whole) (front-first in_class left empty empty (node h vs) empty ts (j ∷ q) here)) (omega (arith, counted, n)) there in
          further (inl (record { b = 1; below = omega arith; held = m.held; front = m.front; is = m.is; there = there }))
      begun (k' ∷ above) below position subterm stands front is there further =
          let s = same_first j k' q (above ++ below) position in
          further (inr (record { above = above; below = below; position = s.1; subterm = subterm; stands = subst (λ n. subtree_in vs n above ≡ Some subterm) (sym s.0) stands; front = front; is = is; there = there }))
  reached-to unmixed (grow (node h vs) ts) items next (suc i) q r k (between, after, reached) c (inl o) =
      let one : AreAfter in_class lefts (grow (node h vs) empty) items between = (between, after, refl) in
      let lt = cell-there in_class lefts arity suits e left listed o.b o.held.0.0 o.held.0.1 in
      let u = part in_class lefts arity suits e left listed o.b in
      let end = o.b + size u in
      let more = rest end in
      let split = from-node in_class lefts arity suits e left listed o.b lt in
      let f : FrontIn in_class (grow u more) (grow (node h vs) ts) (suc i) q = subst (λ ps. FrontIn in_class ps (grow (node h vs) ts) (suc i) q) split o.front in
      let passed : Passed in_class (grow u more) (grow (node h vs) empty) = passed-join in_class (grow u empty) more (grow (node h vs) empty) refl f.0 in
      let long : passed_size in_class (rest o.b) (grow (node h vs) empty) ≡ size u + 0 = ap (λ ps. passed_size in_class ps (grow (node h vs) empty)) split in
      let n : number_in (rest o.b) (suc i) q ≡ size u + number_in more i q = ap (λ ps. number_in ps (suc i) q) split in
      let counted : c ≡ end + number_in more i q = omega (arith, o.is, n) in
      let held = after-to in_class lefts arity suits e left listed unmixed (grow (node h vs) empty) items between r (k.0, k.1, tt) one o.b end o.held (subst (λ ps. Passed in_class ps (grow (node h vs) empty)) (sym split) passed) (omega (arith, long)) (omega (arith, counted, o.there)) in
      reached-to unmixed ts between next i q (after-reachable in_class lefts (grow (node h vs) empty) items between r one) k.2 reached c (inl (record { b = end; below = omega (arith, o.below); held = held; front = f.1; is = counted; there = o.there }))
  reached-to unmixed (grow (node h vs) ts) items next (suc i) q r k (between, after, reached) c (inr x) =
      let one : AreAfter in_class lefts (grow (node h vs) empty) items between = (between, after, refl) in
      reached-to unmixed ts between next i q (after-reachable in_class lefts (grow (node h vs) empty) items between r one) k.2 reached c (inr (record { above = x.above; below = x.below; position = x.position; subterm = x.subterm; stands = x.stands; front = x.front; is = x.is; there = x.there }))
