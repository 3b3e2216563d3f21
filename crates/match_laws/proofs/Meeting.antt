-- Meeting by structure is meeting at the tested positions.
use Rattle.std.proofs.Common.{◌≡◌, ℕ, zero, suc, ◌<◌, ◌≤◌, [], ◌∷◌, refl, sym, ap, subst, arith, inl, inr}
use Rattle.std.specs.Prelude.{Some}
use Rattle.eq_base.specs.Tree.{Tree, Forest, node, empty, grow, head_of, count, Position, subtree_in, IsBefore}
use Rattle.eq_base.specs.Pattern.{PatternCell, fixed, variable, restricted, Classes, IsTested}
use Rattle.eq_base.specs.Testing.{MeetsRoot}
use Rattle.regularity.specs.Arities.{HaveArities}
use Rattle.match_laws.proofs.Fronts.{Passed, FrontIn}

pub in-count : {A : Type 0} (ts : Forest A) (i : ℕ) (q : Position) (t : Tree A) → subtree_in ts i q ≡ Some t → i < count ts
in-count empty i q t e = absurd (cc)
in-count (grow u ts) zero q t e = omega arith
in-count (grow u ts) (suc i) q t e = omega (arith, in-count ts i q t e)

-- nothing stands below a cell with no arguments
nothing-below : {A : Type 0} (ts : Forest A) (i : ℕ) (q : Position) (t : Tree A) → ts ≡ empty → subtree_in ts i q ≡ Some t → ⊥
nothing-below empty i q t e s = cc
nothing-below (grow u ts) i q t e s = let z : count (grow u ts) ≡ 0 = ap count e in omega arith

module _ {H : Type 0} (in_class : Classes H) where
  -- the tree at a position meets the pattern's root there
  pub record Root (part : Tree (PatternCell H)) (ts : Forest H) (i : ℕ) (q : Position) : Type 0 where
    pub subterm : Tree H
    pub stands : subtree_in ts i q ≡ Some subterm
    pub meets : MeetsRoot in_class part subterm

  module _ (arity : H → ℕ) where
    pub passed-meets : (ps : Forest (PatternCell H)) (ts : Forest H) → HaveArities arity ps → Passed in_class ps ts → (i : ℕ) (q : Position) (part : Tree (PatternCell H)) → i < count ts → subtree_in ps i q ≡ Some part → IsTested (head_of part) → Root part ts i q
    passed-meets empty ts a m i q part lt s t = absurd (cc)
    passed-meets (grow p ps) empty a m i q part lt s t = absurd (omega arith)
    passed-meets (grow (node (fixed g) us) ps) (grow (node h vs) ts) a m zero [] part lt s t =
        let same : node (fixed g) us ≡ part = cc in
        record { subterm = node h vs; stands = refl; meets = subst (λ p. MeetsRoot in_class p (node h vs)) same (m.0, m.1) }
    passed-meets (grow (node (fixed g) us) ps) (grow (node h vs) ts) a m zero (j ∷ q) part lt s t =
        let r = passed-meets us vs a.0.1 m.2 j q part (omega (arith, in-count us j q part s, m.1)) s t in
        record { subterm = r.subterm; stands = r.stands; meets = r.meets }
    passed-meets (grow (node (fixed g) us) ps) (grow (node h vs) ts) a m (suc i) q part lt s t =
        let r = passed-meets ps ts a.1 m.3 i q part (omega arith) s t in
        record { subterm = r.subterm; stands = r.stands; meets = r.meets }
    passed-meets (grow (node (variable x) us) ps) (grow u ts) a m zero [] part lt s t =
        let same : node (variable x) us ≡ part = cc in absurd (subst (λ (p : Tree (PatternCell H)). IsTested (head_of p)) (sym same) t)
    passed-meets (grow (node (variable x) us) ps) (grow u ts) a m zero (j ∷ q) part lt s t = absurd (nothing-below us j q part a.0 s)
    passed-meets (grow (node (variable x) us) ps) (grow u ts) a m (suc i) q part lt s t =
        let r = passed-meets ps ts a.1 m i q part (omega arith) s t in
        record { subterm = r.subterm; stands = r.stands; meets = r.meets }
    passed-meets (grow (node (restricted x class) us) ps) (grow u ts) a m zero [] part lt s t =
        let same : node (restricted x class) us ≡ part = cc in
        record { subterm = u; stands = refl; meets = subst (λ p. MeetsRoot in_class p u) same m.0 }
    passed-meets (grow (node (restricted x class) us) ps) (grow u ts) a m zero (j ∷ q) part lt s t = absurd (nothing-below us j q part a.0 s)
    passed-meets (grow (node (restricted x class) us) ps) (grow u ts) a m (suc i) q part lt s t =
        let r = passed-meets ps ts a.1 m.1 i q part (omega arith) s t in
        record { subterm = r.subterm; stands = r.stands; meets = r.meets }

    -- the first tree meets a head's root
    root-fixed : (g h : H) (us : Forest (PatternCell H)) (vs ts : Forest H) → Root (node (fixed g) us) (grow (node h vs) ts) zero [] → (g ≡ h) × (count us ≡ count vs)
    root-fixed g h us vs ts r = let same : r.subterm ≡ node h vs = let s = r.stands in cc in subst (λ (t : Tree H). MeetsRoot in_class (node (fixed g) us) t) same r.meets

    root-restricted : (x class : ℕ) (us : Forest (PatternCell H)) (t : Tree H) (ts : Forest H) → Root (node (restricted x class) us) (grow t ts) zero [] → MeetsRoot in_class (node (restricted x class) us) t
    root-restricted x class us t ts r = let same : r.subterm ≡ t = let s = r.stands in cc in subst (λ (t : Tree H). MeetsRoot in_class (node (restricted x class) us) t) same r.meets

    root-below : (part : Tree (PatternCell H)) (h : H) (vs ts : Forest H) (j : ℕ) (q : Position) → Root part (grow (node h vs) ts) zero (j ∷ q) → Root part vs j q
    root-below part h vs ts j q r = record { subterm = r.subterm; stands = r.stands; meets = r.meets }

    root-after : (part : Tree (PatternCell H)) (t : Tree H) (ts : Forest H) (i : ℕ) (q : Position) → Root part (grow t ts) (suc i) q → Root part ts i q
    root-after part t ts i q r = record { subterm = r.subterm; stands = r.stands; meets = r.meets }

    pub meets-passed : (ps : Forest (PatternCell H)) (ts : Forest H) → count ts ≤ count ps → ((i : ℕ) (q : Position) (part : Tree (PatternCell H)) → i < count ts → subtree_in ps i q ≡ Some part → IsTested (head_of part) → Root part ts i q) → Passed in_class ps ts
    meets-passed empty empty le each = tt
    meets-passed empty (grow t ts) le each = absurd (omega arith)
    meets-passed (grow p ps) empty le each = tt
    meets-passed (grow (node (fixed g) us) ps) (grow (node h vs) ts) le each =
        let root = root-fixed g h us vs ts (each zero [] (node (fixed g) us) (omega arith) refl tt) in (
          root.0,
          root.1,
          meets-passed us vs (omega (arith, root.1)) (λ j q part lt s t. root-below part h vs ts j q (each zero (j ∷ q) part (omega arith) s t)),
          meets-passed ps ts (omega arith) (λ i q part lt s t. root-after part (node h vs) ts i q (each (suc i) q part (omega arith) s t)),
        )
    meets-passed (grow (node (variable x) us) ps) (grow u ts) le each =
        meets-passed ps ts (omega arith) (λ i q part lt s t. root-after part u ts i q (each (suc i) q part (omega arith) s t))
    meets-passed (grow (node (restricted x class) us) ps) (grow u ts) le each = (
      root-restricted x class us u ts (each zero [] (node (restricted x class) us) (omega arith) refl tt),
      meets-passed ps ts (omega arith) (λ i q part lt s t. root-after part u ts i q (each (suc i) q part (omega arith) s t)),
    )

    -- ---- before a position

    pub front-meets : (ps : Forest (PatternCell H)) (ts : Forest H) (i : ℕ) (q : Position) → HaveArities arity ps → FrontIn in_class ps ts i q → (k : ℕ) (r : Position) (part : Tree (PatternCell H)) → IsBefore (k ∷ r) (i ∷ q) → subtree_in ps k r ≡ Some part → IsTested (head_of part) → Root part ts k r
    front-meets empty ts i q a f k r part b s t = absurd f
    front-meets (grow p ps) empty i q a f k r part b s t = absurd f
    front-meets (grow p ps) (grow u ts) zero [] a f k r part (inl less) s t = absurd (omega arith)
    front-meets (grow p ps) (grow u ts) zero [] a f k [] part (inr same) s t = absurd same.1
    front-meets (grow p ps) (grow u ts) zero [] a f k (m ∷ r) part (inr same) s t = absurd same.1
    front-meets (grow p ps) (grow u ts) zero (j ∷ q) a f k r part (inl less) s t = absurd (omega arith)
    front-meets (grow p ps) (grow u ts) zero (j ∷ q) a f (suc k) r part (inr same) s t = absurd (let z = same.0 in omega arith)
    front-meets (grow (node (fixed g) us) ps) (grow (node h vs) ts) zero (j ∷ q) a f zero [] part (inr same) s t =
        let e : node (fixed g) us ≡ part = cc in
        record { subterm = node h vs; stands = refl; meets = subst (λ p. MeetsRoot in_class p (node h vs)) e (f.0, f.1) }
    front-meets (grow (node (fixed g) us) ps) (grow (node h vs) ts) zero (j ∷ q) a f zero (m ∷ r) part (inr same) s t =
        let x = front-meets us vs j q a.0.1 f.2 m r part same.1 s t in
        record { subterm = x.subterm; stands = x.stands; meets = x.meets }
    front-meets (grow (node (variable x) us) ps) (grow u ts) zero (j ∷ q) a f zero r part (inr same) s t = absurd f
    front-meets (grow (node (restricted x class) us) ps) (grow u ts) zero (j ∷ q) a f zero r part (inr same) s t = absurd f
    front-meets (grow p ps) (grow u ts) (suc i) q a f zero r part b s t =
        let x = passed-meets (grow p empty) (grow u empty) (a.0, tt) f.0 zero r part (omega arith) s t in
        record { subterm = x.subterm; stands = x.stands; meets = x.meets }
    front-meets (grow p ps) (grow u ts) (suc i) q a f (suc k) r part b s t =
        let x = front-meets ps ts i q a.1 f.1 k r part (earlier b) s t in
        record { subterm = x.subterm; stands = x.stands; meets = x.meets }
      where
        earlier : IsBefore (suc k ∷ r) (suc i ∷ q) → IsBefore (k ∷ r) (i ∷ q)
        earlier (inl less) = inl (omega arith)
        earlier (inr same) = inr (let z = same.0 in omega arith, same.1)

    pub front-stands : (ps : Forest (PatternCell H)) (ts : Forest H) (i : ℕ) (q : Position) → FrontIn in_class ps ts i q → (part : Tree (PatternCell H)) × (subtree_in ps i q ≡ Some part)
    front-stands empty ts i q f = absurd f
    front-stands (grow p ps) empty i q f = absurd f
    front-stands (grow (node c us) ps) (grow u ts) zero [] f = (node c us, refl)
    front-stands (grow (node (fixed g) us) ps) (grow (node h vs) ts) zero (j ∷ q) f = let x = front-stands us vs j q f.2 in (x.0, x.1)
    front-stands (grow (node (variable x) us) ps) (grow u ts) zero (j ∷ q) f = absurd f
    front-stands (grow (node (restricted x class) us) ps) (grow u ts) zero (j ∷ q) f = absurd f
    front-stands (grow p ps) (grow u ts) (suc i) q f = let x = front-stands ps ts i q f.1 in (x.0, x.1)

    pub meets-front : (ps : Forest (PatternCell H)) (ts : Forest H) (i : ℕ) (q : Position) → HaveArities arity ps → i < count ts → (at : Tree (PatternCell H)) → subtree_in ps i q ≡ Some at →
        ((k : ℕ) (r : Position) (part : Tree (PatternCell H)) → IsBefore (k ∷ r) (i ∷ q) → subtree_in ps k r ≡ Some part → IsTested (head_of part) → Root part ts k r) → FrontIn in_class ps ts i q
    meets-front empty ts i q a lt at s each = absurd (cc)
    meets-front (grow p ps) empty i q a lt at s each = absurd (omega arith)
    meets-front (grow p ps) (grow u ts) zero [] a lt at s each = tt
    meets-front (grow (node (fixed g) us) ps) (grow (node h vs) ts) zero (j ∷ q) a lt at s each =
        let root = root-fixed g h us vs ts (each zero [] (node (fixed g) us) (inr (refl, tt)) refl tt) in (
          root.0,
          root.1,
          meets-front us vs j q a.0.1 (omega (arith, in-count us j q at s, root.1)) at s (λ k r part b s' t. root-below part h vs ts k r (each zero (k ∷ r) part (inr (refl, b)) s' t)),
        )
    meets-front (grow (node (variable x) us) ps) (grow u ts) zero (j ∷ q) a lt at s each = absurd (nothing-below us j q at a.0 s)
    meets-front (grow (node (restricted x class) us) ps) (grow u ts) zero (j ∷ q) a lt at s each = absurd (nothing-below us j q at a.0 s)
    meets-front (grow p ps) (grow u ts) (suc i) q a lt at s each = (
      meets-passed (grow p empty) (grow u empty) (omega arith) (λ k r part less s' t. first k r part less s' t each),
      meets-front ps ts i q a.1 (omega arith) at s (λ k r part b s' t. root-after part u ts k r (each (suc k) r part (later k r b) s' t)),
    )
      where
        later : (k : ℕ) (r : Position) → IsBefore (k ∷ r) (i ∷ q) → IsBefore (suc k ∷ r) (suc i ∷ q)
        later k r (inl less) = inl (omega arith)
        later k r (inr same) = inr (ap suc same.0, same.1)

        first : (k : ℕ) (r : Position) (part : Tree (PatternCell H)) → k < count (grow u empty) → subtree_in (grow p empty) k r ≡ Some part → IsTested (head_of part) →
            ((k : ℕ) (r : Position) (part : Tree (PatternCell H)) → IsBefore (k ∷ r) (suc i ∷ q) → subtree_in (grow p ps) k r ≡ Some part → IsTested (head_of part) → Root part (grow u ts) k r) → Root part (grow u empty) k r
        first zero r part less s' t each = let x = each zero r part (inl (omega arith)) s' t in record { subterm = x.subterm; stands = x.stands; meets = x.meets }
        first (suc k) r part less s' t each = absurd (omega arith)
