-- A pattern and a term, read side by side: what first fails from a node on is what first fails in the whole.
use Rattle.std.proofs.Common.{◌≡◌, ℕ, suc, ◌+◌, ◌-◌, ◌<◌, ◌≤◌, List, refl, sym, subst, arith}
use Rattle.eq_base.specs.Tree.{Tree, Forest, node, empty, grow, args_of, count, size, total_size, nth_subtree}
use Rattle.eq_base.specs.Storing.{join}
use Rattle.eq_base.specs.Pattern.{PatternCell, fixed, variable, restricted, Classes}
use Rattle.eq_base.specs.Testing.{MeetsRoot}
use Rattle.eq_base.specs.Cells.{root_cell}
use Rattle.eq_base.specs.Meeting.{in_class_of}
use Rattle.eq_base.specs.declared.head.Head as rust
use Rattle.eq_base.specs.declared.head.Cell.TheVariants.{Head}
use Rattle.eq_base.proofs.Scans.{forest_from, forest_from-start, forest_from-node, forest_from-args}
use Rattle.eq_base.proofs.Instances.{Fits, FitAll, FitFront, FitAll-count}
use Rattle.orthogonal_laws.specs.Matching.{Stands, AreMet, none_met, head_met, variable_met, constant_met, IsFirstFailure, here, below, after, FailsAt}

module _ {H : Type 0} (in_class : Classes H) where
  met_more : {p : Tree (PatternCell H)} {t : Tree H} {ps : Forest (PatternCell H)} {ts : Forest H} → AreMet in_class (grow p empty) (grow t empty) → AreMet in_class ps ts → AreMet in_class (grow p ps) (grow t ts)
  met_more (head_met m n) m' = head_met m m'
  met_more (variable_met n) m' = variable_met m'
  met_more (constant_met is n) m' = constant_met is m'

  -- in trees, and in more trees after them
  data Split (us ps : Forest (PatternCell H)) (vs ts : Forest H) (n : ℕ) : Type 0 where
    in_first : IsFirstFailure in_class us vs n → Split us ps vs ts n
    in_later : (k : ℕ) → AreMet in_class us vs → IsFirstFailure in_class ps ts k → n ≡ total_size vs + k → Split us ps vs ts n

  split : (us ps : Forest (PatternCell H)) (vs ts : Forest H) (n : ℕ) → count us ≡ count vs → IsFirstFailure in_class (join us ps) (join vs ts) n → Split us ps vs ts n
  split empty ps empty ts n c m = in_later n none_met m (omega arith)
  split empty ps (grow v vs) ts n c m = absurd (omega arith)
  split (grow u us) ps empty ts n c m = absurd (omega arith)
  split (grow u us) ps (grow v vs) ts n c (here fails e) = in_first (here fails e)
  split (grow u us) ps (grow v vs) ts n c (below c' m e) = in_first (below c' m e)
  split (grow u us) ps (grow v vs) ts n c (after {k = k} met m e) =
      elim (split us ps vs ts k (omega arith) m) [
        | in_first m' ↦ in_first (after met m' e)
        | in_later k' met' m' e' ↦ in_later k' (met_more met met') m' (omega (arith, e, e'))
      ]

  mismatch_below : (h : H) (us ps : Forest (PatternCell H)) (vs ts : Forest H) (n : ℕ) → count us ≡ count vs → IsFirstFailure in_class (join us ps) (join vs ts) n → IsFirstFailure in_class (grow (node (fixed h) us) ps) (grow (node h vs) ts) (suc n)
  mismatch_below h us ps vs ts n c m =
      elim (split us ps vs ts n c m) [
        | in_first m' ↦ below c m' refl
        | in_later k met m' e ↦ after (head_met met none_met) m' (omega (arith, e))
      ]

  fits-meets : (p : Tree (PatternCell H)) (t : Tree H) → Fits in_class p t → MeetsRoot in_class p t
  fits-meets (node (fixed g) us) (node h vs) f = (f.0, FitAll-count in_class us vs f.1)
  fits-meets (node (variable x) us) t f = tt
  fits-meets (node (restricted x class) us) t f = f

  all-front : (ps : Forest (PatternCell H)) (ts : Forest H) → FitAll in_class ps ts → FitFront in_class ps ts
  all-front empty ts f = tt
  all-front (grow p ps) empty f = f
  all-front (grow p ps) (grow t ts) f = (f.0, all-front ps ts f.1)

  -- what fits does not fail
  pub mismatch-fits : {ps : Forest (PatternCell H)} {ts : Forest H} {n : ℕ} → IsFirstFailure in_class ps ts n → FitFront in_class ps ts → ⊥
  mismatch-fits (here {p = p} {t = t} fails e) f = fails (fits-meets p t f.0)
  mismatch-fits (below {us = us} {vs = vs} c m e) f = mismatch-fits m (all-front us vs f.0.1)
  mismatch-fits (after met m e) f = mismatch-fits m f.1

  front_only : (p : Tree (PatternCell H)) (t : Tree H) (ts : Forest H) (n : ℕ) → IsFirstFailure in_class (grow p empty) (grow t ts) n → IsFirstFailure in_class (grow p empty) (grow t empty) n
  front_only p t ts n (here fails e) = here fails e
  front_only (node (fixed h) us) (node k vs) ts n (below c m e) = below c m e
  front_only p t ts n (after met m e) = elim m [ ]

module _ (classes : List (List rust.Head)) where
  meets-stands : (p : Tree (PatternCell rust.Head)) (s : Tree rust.Head) → MeetsRoot (in_class_of classes) p s → Stands classes (root_cell p) s
  meets-stands (node (fixed h) us) (node k vs) m = m
  meets-stands (node (variable x) us) s m = tt
  meets-stands (node (restricted x class) us) s m = m

  -- at a head that stands, the arguments come next
  mismatch_head : (p : Tree (PatternCell rust.Head)) (ps : Forest (PatternCell rust.Head)) (s : Tree rust.Head) (ts : Forest rust.Head) (n : ℕ) (g : rust.Head) (a : ℕ) → root_cell p ≡ Head g a → Stands classes (root_cell p) s →
      IsFirstFailure (in_class_of classes) (join (args_of p) ps) (join (args_of s) ts) n → IsFirstFailure (in_class_of classes) (grow p ps) (grow s ts) (suc n)
  mismatch_head (node (fixed h) us) ps (node k vs) ts n g a e st m = subst (λ z. IsFirstFailure (in_class_of classes) (grow (node (fixed h) us) ps) (grow (node z vs) ts) (suc n)) st.0 (mismatch_below (in_class_of classes) h us ps vs ts n st.1 m)
  mismatch_head (node (variable x) us) ps s ts n g a e st m = cc
  mismatch_head (node (restricted x class) us) ps s ts n g a e st m = cc

  mismatch_other : (p : Tree (PatternCell rust.Head)) (ps : Forest (PatternCell rust.Head)) (s : Tree rust.Head) (ts : Forest rust.Head) (n : ℕ) → ((g : rust.Head) (a : ℕ) → root_cell p ≡ Head g a → ⊥) → Stands classes (root_cell p) s →
      IsFirstFailure (in_class_of classes) ps ts n → IsFirstFailure (in_class_of classes) (grow p ps) (grow s ts) (size s + n)
  mismatch_other (node (fixed h) us) ps s ts n none st m = absurd (none h (count us) refl)
  mismatch_other (node (variable x) us) ps s ts n none st m = after (variable_met none_met) m refl
  mismatch_other (node (restricted x class) us) ps s ts n none st m = after (constant_met st none_met) m refl

  module _ (left : Tree (PatternCell rust.Head)) (term : Tree rust.Head) (at : ℕ) where
    -- what first fails from here on, first fails in the whole
    abbrev pub FailsFrom : ℕ → ℕ → Type 0
    FailsFrom i place = (k : ℕ) → IsFirstFailure (in_class_of classes) (forest_from left i) (forest_from term place) k → FailsAt classes left (nth_subtree term at) (place - at + k)

    pub fails_start : at < size term → FailsFrom 0 at
    fails_start lt k m =
        let m' = subst (λ z. IsFirstFailure (in_class_of classes) z (forest_from term at) k) (forest_from-start left) m in
        let m'' = subst (λ z. IsFirstFailure (in_class_of classes) (grow left empty) z k) (forest_from-node term at lt) m' in
        let e : k ≡ at - at + k = omega arith in
        subst (λ z. FailsAt classes left (nth_subtree term at) z) e (front_only (in_class_of classes) left (nth_subtree term at) _ k m'')

    module _ (i place : ℕ) (from : FailsFrom i place) (past : at ≤ place) (lt : i < size left) (there : place < size term) where
      -- from the cell and the node on
      closed : (k : ℕ) → IsFirstFailure (in_class_of classes) (grow (nth_subtree left i) (forest_from left (i + size (nth_subtree left i)))) (grow (nth_subtree term place) (forest_from term (place + size (nth_subtree term place)))) k → FailsAt classes left (nth_subtree term at) (place - at + k)
      closed k m =
          let m' = subst (λ z. IsFirstFailure (in_class_of classes) z (grow (nth_subtree term place) (forest_from term (place + size (nth_subtree term place)))) k) (sym (forest_from-node left i lt)) m in
          from k (subst (λ z. IsFirstFailure (in_class_of classes) (forest_from left i) z k) (sym (forest_from-node term place there)) m')

      pub fails_here : (Stands classes (root_cell (nth_subtree left i)) (nth_subtree term place) → ⊥) → FailsAt classes left (nth_subtree term at) (place - at)
      fails_here none =
          let e : place - at + 0 ≡ place - at = omega arith in
          subst (λ z. FailsAt classes left (nth_subtree term at) z) e (closed 0 (here (λ m. none (meets-stands (nth_subtree left i) (nth_subtree term place) m)) refl))

      pub fails_head : (g : rust.Head) (a : ℕ) → root_cell (nth_subtree left i) ≡ Head g a → Stands classes (root_cell (nth_subtree left i)) (nth_subtree term place) → FailsFrom (i + 1) (place + 1)
      fails_head g a e st k m =
          let m' = subst (λ z. IsFirstFailure (in_class_of classes) z (forest_from term (place + 1)) k) (forest_from-args left i lt) m in
          let m'' = subst (λ z. IsFirstFailure (in_class_of classes) (join (args_of (nth_subtree left i)) (forest_from left (i + size (nth_subtree left i)))) z k) (forest_from-args term place there) m' in
          let n : place - at + suc k ≡ place + 1 - at + k = omega arith in
          subst (λ z. FailsAt classes left (nth_subtree term at) z) n (closed (suc k) (mismatch_head _ _ _ _ k g a e st m''))

      pub fails_other : ((g : rust.Head) (a : ℕ) → root_cell (nth_subtree left i) ≡ Head g a → ⊥) → Stands classes (root_cell (nth_subtree left i)) (nth_subtree term place) → FailsFrom (i + size (nth_subtree left i)) (place + size (nth_subtree term place))
      fails_other none st k m =
          let n : place - at + (size (nth_subtree term place) + k) ≡ place + size (nth_subtree term place) - at + k = omega arith in
          subst (λ z. FailsAt classes left (nth_subtree term at) z) n (closed (size (nth_subtree term place) + k) (mismatch_other _ _ _ _ k none st m))
