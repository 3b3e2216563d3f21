-- A pattern and a term, read side by side from a node on.
use Rattle.std.proofs.Common.{◌≡◌, ℕ, ◌+◌, ◌<◌, ◌≤◌, List, refl, sym, ap, subst, arith, ⊎_elim}
use Rattle.std.proofs.lemmas.Bool.{cases_lt}
use Rattle.eq_base.specs.Tree.{Tree, Forest, node, empty, grow, args_of, count, size, nth_subtree}
use Rattle.eq_base.specs.Storing.{join}
use Rattle.eq_base.specs.Pattern.{PatternCell, fixed, variable, restricted}
use Rattle.eq_base.specs.Cells.{root_cell}
use Rattle.eq_base.specs.Meeting.{in_class_of}
use Rattle.eq_base.specs.declared.head.Head as rust
use Rattle.eq_base.specs.declared.head.Cell.TheVariants.{Head}
use Rattle.eq_base.proofs.Scans.{forest_from, forest_from-start, forest_from-node, forest_from-args, forest_from-end}
use Rattle.eq_base.proofs.Instances as matching
use Rattle.orthogonal_laws.specs.Matching.{Stands}

module _ (classes : List (List rust.Head)) where
  abbrev pub Fits : Tree (PatternCell rust.Head) → Tree rust.Head → Type 0
  Fits p t = matching.Fits (in_class_of classes) p t

  abbrev pub FitAll : Forest (PatternCell rust.Head) → Forest rust.Head → Type 0
  FitAll ps ts = matching.FitAll (in_class_of classes) ps ts

  abbrev pub FitFront : Forest (PatternCell rust.Head) → Forest rust.Head → Type 0
  FitFront ps ts = matching.FitFront (in_class_of classes) ps ts

  -- what is left of the pattern fits what is left of the term exactly where the whole fits
  pub record SideBySide (ps : Forest (PatternCell rust.Head)) (ts : Forest rust.Head) (whole : Type 0) : Type 0 where
    pub enough : count ps ≤ count ts
    pub fits : FitFront ps ts → whole
    pub fits_only : whole → FitFront ps ts

  abbrev pub IsScanned : Tree (PatternCell rust.Head) → Tree rust.Head → ℕ → ℕ → ℕ → Type 0
  IsScanned left term at i here = SideBySide (forest_from left i) (forest_from term here) (Fits left (nth_subtree term at))

  -- ---- one cell

  fits_stands : (p : Tree (PatternCell rust.Head)) (s : Tree rust.Head) → Fits p s → Stands classes (root_cell p) s
  fits_stands (node (fixed g) ps) (node h ts) f = (f.0, matching.FitAll-count (in_class_of classes) ps ts f.1)
  fits_stands (node (variable x) ps) s f = tt
  fits_stands (node (restricted x class) ps) s f = f

  -- at a head, the arguments come next
  fits_head : (p : Tree (PatternCell rust.Head)) (s : Tree rust.Head) (g : rust.Head) (a : ℕ) → root_cell p ≡ Head g a → Stands classes (root_cell p) s → (count (args_of p) ≡ count (args_of s)) × (FitAll (args_of p) (args_of s) → Fits p s) × (Fits p s → FitAll (args_of p) (args_of s))
  fits_head (node (fixed h) ps) (node k ts) g a e st = (st.1, λ f. (st.0, f), λ f. f.1)
  fits_head (node (variable x) ps) s g a e st = cc
  fits_head (node (restricted x class) ps) s g a e st = cc

  -- at a variable, the whole subtree fits
  fits_other : (p : Tree (PatternCell rust.Head)) (s : Tree rust.Head) → ((g : rust.Head) (a : ℕ) → root_cell p ≡ Head g a → ⊥) → Stands classes (root_cell p) s → Fits p s
  fits_other (node (fixed h) ps) s none st = absurd (none h (count ps) refl)
  fits_other (node (variable x) ps) s none st = tt
  fits_other (node (restricted x class) ps) s none st = st

  -- ---- steps

  count-join : (ps qs : Forest (PatternCell rust.Head)) → count (join ps qs) ≡ count ps + count qs
  count-join empty qs = omega arith
  count-join (grow p ps) qs = omega (arith, count-join ps qs)

  count-join' : (ts us : Forest rust.Head) → count (join ts us) ≡ count ts + count us
  count-join' empty us = omega arith
  count-join' (grow t ts) us = omega (arith, count-join' ts us)

  module _ {whole : Type 0} (p : Tree (PatternCell rust.Head)) (ps : Forest (PatternCell rust.Head)) (t : Tree rust.Head) (ts : Forest rust.Head) (side : SideBySide (grow p ps) (grow t ts) whole) where
    side_head : (g : rust.Head) (a : ℕ) → root_cell p ≡ Head g a → Stands classes (root_cell p) t → SideBySide (join (args_of p) ps) (join (args_of t) ts) whole
    side_head g a e st =
        let h = fits_head p t g a e st in
        record {
          enough = omega (arith, h.0, side.enough, count-join (args_of p) ps, count-join' (args_of t) ts);
          fits = λ f.
              let parts = matching.FitFront-split (in_class_of classes) (args_of p) ps (args_of t) ts h.0 f in
              side.fits (h.1 parts.0, parts.1);
          fits_only = λ w.
              let f = side.fits_only w in
              matching.FitFront-join (in_class_of classes) (args_of p) ps (args_of t) ts (h.2 f.0) f.1;
        }

    side_other : ((g : rust.Head) (a : ℕ) → root_cell p ≡ Head g a → ⊥) → Stands classes (root_cell p) t → SideBySide ps ts whole
    side_other none st = record {
      enough = omega (arith, side.enough);
      fits = λ f. side.fits (fits_other p t none st, f);
      fits_only = λ w. (side.fits_only w).1;
    }

  module _ (left : Tree (PatternCell rust.Head)) (term : Tree rust.Head) (at : ℕ) where
    abbrev pub whole : Type 0
    whole = Fits left (nth_subtree term at)

    -- two equations on what is left
    moved : (ps qs : Forest (PatternCell rust.Head)) (ts us : Forest rust.Head) → ps ≡ qs → ts ≡ us → SideBySide ps ts whole → SideBySide qs us whole
    moved ps qs ts us e f s = subst (λ l. SideBySide qs l whole) f (subst (λ l. SideBySide l ts whole) e s)

    pub scan_start : at < size term → IsScanned left term at 0 at
    scan_start lt =
        moved _ _ _ _ (sym (forest_from-start left)) (sym (forest_from-node term at lt)) (record { enough = omega arith; fits = λ f. f.0; fits_only = λ f. (f, tt) })

    module _ (i here : ℕ) (is : IsScanned left term at i here) where
      pub here_there : i < size left → here < size term
      here_there lt =
          ⊎_elim (λ below. below)
          (λ past. absurd (omega (arith, is.enough, ap count (forest_from-node left i lt), ap count (forest_from-end term here past))))
          (cases_lt here (size term))

      pub scan_end : size left ≤ i → whole
      scan_end past = (moved _ empty _ _ (forest_from-end left i past) refl is).fits tt

      module _ (lt : i < size left) (there : here < size term) where
        opened : SideBySide (grow (nth_subtree left i) (forest_from left (i + size (nth_subtree left i)))) (grow (nth_subtree term here) (forest_from term (here + size (nth_subtree term here)))) whole
        opened = moved _ _ _ _ (forest_from-node left i lt) (forest_from-node term here there) is

        pub scan_head : (g : rust.Head) (a : ℕ) → root_cell (nth_subtree left i) ≡ Head g a → Stands classes (root_cell (nth_subtree left i)) (nth_subtree term here) → IsScanned left term at (i + 1) (here + 1)
        scan_head g a e st =
            moved _ _ _ _ (sym (forest_from-args left i lt)) (sym (forest_from-args term here there)) (side_head _ _ _ _ opened g a e st)

        pub scan_other : ((g : rust.Head) (a : ℕ) → root_cell (nth_subtree left i) ≡ Head g a → ⊥) → Stands classes (root_cell (nth_subtree left i)) (nth_subtree term here) → IsScanned left term at (i + size (nth_subtree left i)) (here + size (nth_subtree term here))
        scan_other none st = side_other _ _ _ _ opened none st
