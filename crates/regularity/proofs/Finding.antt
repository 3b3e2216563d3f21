-- What the variables of a pattern stand for in its merge with another.
use Rattle.std.proofs.Common.{◌≡◌, ℕ, zero, suc, ◌+◌, ◌-◌, ◌<◌, ◌≤◌, true, false, eq-eqb, Option, Some, None, List, refl, sym, ◌∙◌, ap, subst, arith, ⊎_elim}
use Rattle.eq_base.specs.Tree.{Tree, node, empty, grow, head_of, arity_of, count, size, nth_subtree}
use Rattle.eq_base.specs.Pattern.{PatternCell, fixed, variable, restricted, Substitution}
use Rattle.eq_base.specs.Cells.{root_cell, arity_in}
use Rattle.eq_base.specs.Meeting.{in_class_of}
use Rattle.eq_base.specs.declared.head.Head as heads
use Rattle.eq_base.specs.declared.head.Cell as cells
use Rattle.eq_base.specs.declared.head.Cell.TheVariants as cell
use Rattle.eq_base.proofs.Scans.{forest_from-start, forest_from-node}
use Rattle.std.specs.Prelude.{nat_eq}
use Rattle.std.specs.Option.{option_eq}
use Rattle.std.proofs.lemmas.Map.Views.{exact_unsigned_eq}
use Rattle.std.proofs.lemmas.Bool.{cases_lt}
use Rattle.eq_base.proofs.Trees.{end_within, nth_subtree-nth_subtree}
use Rattle.regularity.specs.Arities.{HasArities, HaveArities}
use Rattle.regularity.specs.Occurrences.{variable_of, OccursAt}
use Rattle.regularity.specs.Merge.{merge, merged, named, fill}
use Rattle.regularity.specs.MergedParts.{CanMerge, IsPartOf}
use Rattle.regularity.specs.Facing.{DoClash, IsSameHead}
use Rattle.regularity.proofs.Facings.{HasVariable}
use Rattle.regularity.proofs.Scan.{IsScanned, scan_start, scan_here, scan_down, scan_past, same_heads_same_counts}
use Rattle.regularity.proofs.Clashes.{clash_at}
use Rattle.regularity.proofs.Listed.{part_has_arities}
use Rattle.regularity.proofs.Merging.{named_from, named_opens, named_passes, fill_from, fill_passes, fill_opens, merge_from, merge_passes, merge_opens, open_both, pass_both, firsts_same, left_there, some_left}

abbrev Pattern : Type 0
Pattern = Tree (PatternCell heads.Head)

abbrev Any : PatternCell heads.Head → PatternCell heads.Head → Type 0
Any c d = Unit {0}

-- the patterns are read up to these cells, and the variable does not stand before
pub record IsFinding (left other : Pattern) (x at beside name : ℕ) : Type 0 where
  pub scanned : IsScanned left other Any at beside
  pub filled : (θ : Substitution (PatternCell heads.Head)) → fill θ left ≡ merged left other → fill_from θ left at ≡ merge_from name left other at beside
  pub later : (k : ℕ) → OccursAt left k x → at ≤ k
  pub small : name ≤ at + beside
  pub within : at ≤ size left
  pub within' : beside ≤ size other

pub fill-variable : (θ : Substitution (PatternCell heads.Head)) (p : Pattern) (x : ℕ) → variable_of (head_of p) ≡ Some x → fill θ p ≡ θ x
fill-variable θ (node (fixed h) ps) x e = cc
fill-variable θ (node (variable y) ps) x e = let same : y ≡ x = cc in ap θ same
fill-variable θ (node (restricted y class) ps) x e = let same : y ≡ x = cc in ap θ same

pub variable_no_head : (p : Pattern) (x : ℕ) → variable_of (head_of p) ≡ Some x → (h : heads.Head) → head_of p ≡ fixed h → ⊥
variable_no_head (node (fixed h) ps) x e g f = cc
variable_no_head (node (variable y) ps) x e g f = cc
variable_no_head (node (restricted y class) ps) x e g f = cc

-- beside a cell that is no head, a head's subtree is the merge
merge-left : (s u : Pattern) (h : heads.Head) → head_of s ≡ fixed h → ((g : heads.Head) → head_of u ≡ fixed g → ⊥) → merge s u ≡ s
merge-left (node (fixed k) us) (node (fixed l) vs) h e none = absurd (none l refl)
merge-left (node (fixed k) us) (node (variable x) vs) h e none = refl
merge-left (node (fixed k) us) (node (restricted x class) vs) h e none = refl
merge-left (node (variable y) us) u h e none = cc
merge-left (node (restricted y other) us) u h e none = cc

-- beside a variable, the other subtree is the merge, but for the names of variables
merge-right : (n : ℕ) (s u : Pattern) → ((g : heads.Head) → head_of s ≡ fixed g → ⊥) → named n (merge s u) ≡ named n u
merge-right n (node (fixed k) us) u none = absurd (none k refl)
merge-right n (node (variable x) us) (node (fixed l) vs) none = refl
merge-right n (node (variable x) us) (node (variable y) vs) none = refl
merge-right n (node (variable x) us) (node (restricted y class) vs) none = refl
merge-right n (node (restricted x other) us) (node (fixed l) vs) none = refl
merge-right n (node (restricted x other) us) (node (variable y) vs) none = refl
merge-right n (node (restricted x other) us) (node (restricted y class) vs) none = refl

merge-right_size : (arity : heads.Head → ℕ) (s u : Pattern) → HasArities arity s → HasArities arity u → ((g : heads.Head) → head_of s ≡ fixed g → ⊥) → size (merge s u) ≡ size u
merge-right_size arity (node (fixed k) us) u a b none = absurd (none k refl)
merge-right_size arity (node (variable x) us) (node (fixed l) vs) a b none = refl
merge-right_size arity (node (variable x) us) (node (variable y) vs) a b none = refl
merge-right_size arity (node (variable x) us) (node (restricted y class) vs) a b none = refl
merge-right_size arity (node (restricted x other) us) (node (fixed l) vs) a b none = refl
merge-right_size arity (node (restricted x other) us) (node (variable y) vs) a b none = rw (a, b) refl
merge-right_size arity (node (restricted x other) us) (node (restricted y class) vs) a b none = rw (a, b) refl

pub head_of_root : (p : Pattern) (h : heads.Head) (m : ℕ) → root_cell p ≡ cell.Head h m → head_of p ≡ fixed h
head_of_root (node (fixed k) ps) h m e = let same : k ≡ h = cc in ap (λ g. fixed g) same
head_of_root (node (variable x) ps) h m e = cc
head_of_root (node (restricted x class) ps) h m e = cc

pub no_head : (p : Pattern) → ((h : heads.Head) (m : ℕ) → root_cell p ≡ cell.Head h m → ⊥) → (h : heads.Head) → head_of p ≡ fixed h → ⊥
no_head (node (fixed k) ps) none h e = none k (count ps) refl
no_head (node (variable x) ps) none h e = cc
no_head (node (restricted x class) ps) none h e = cc

own_arity : (arity : heads.Head → ℕ) (p : Pattern) → HasArities arity p → arity_in (root_cell p) ≡ arity_of p
own_arity arity (node (fixed k) ps) a = refl
own_arity arity (node (variable x) ps) a = rw a refl
own_arity arity (node (restricted x class) ps) a = rw a refl

pub no_head_size : (arity : heads.Head → ℕ) (p : Pattern) → HasArities arity p → ((h : heads.Head) → head_of p ≡ fixed h → ⊥) → size p ≡ 1
no_head_size arity (node (fixed k) ps) a none = absurd (none k refl)
no_head_size arity (node (variable x) ps) a none = rw a refl
no_head_size arity (node (restricted x class) ps) a none = rw a refl

named-variable : (n : ℕ) (p : Pattern) (x : ℕ) → variable_of (head_of p) ≡ Some x → named n p ≡ node (variable n) empty
named-variable n (node (fixed h) ps) x e = cc
named-variable n (node (variable y) ps) x e = refl
named-variable n (node (restricted y class) ps) x e = refl

-- a filled head's subtree that is its own named part: each variable stands for its own name
module _ (θ : Substitution (PatternCell heads.Head)) (arity : heads.Head → ℕ) (s : Pattern) (a : HasArities arity s) (n : ℕ) (e : fill θ s ≡ named n s) where
  has_arities_at : (k : ℕ) → k < size s → HasArities arity (nth_subtree s k)
  has_arities_at k lt = part_has_arities arity s k lt a

  own_from : (k : ℕ) → k ≤ size s → fill_from θ s k ≡ named_from n s k
  own_from zero le = let same : n + 0 ≡ n = omega arith in rw (forest_from-start s, same) (ap (λ t. grow t empty) e)
  own_from (suc k) le =
      let lt : k < size s = omega arith in
      let before = own_from k (omega arith) in
      let step : k + 1 ≡ suc k = omega arith in
      subst (λ m. fill_from θ s m ≡ named_from n s m) step (by_cell k lt before (root_cell (nth_subtree s k)) refl)
    where
      leaf : (k : ℕ) → (lt : k < size s) → fill_from θ s k ≡ named_from n s k → ((h : heads.Head) → head_of (nth_subtree s k) ≡ fixed h → ⊥) → fill_from θ s (k + 1) ≡ named_from n s (k + 1)
      leaf k lt before none =
          let one : size (nth_subtree s k) ≡ 1 = no_head_size arity (nth_subtree s k) (has_arities_at k lt) none in
          let first = firsts_same _ _ _ _ _ _ (fill_passes θ s k lt) (named_passes n s k lt) before in
          let rest = (pass_both _ _ _ _ _ _ (fill_passes θ s k lt) (named_passes n s k lt) first).0 before in
          subst (λ m. fill_from θ s (k + m) ≡ named_from n s (k + m)) one rest

      by_cell : (k : ℕ) → (lt : k < size s) → fill_from θ s k ≡ named_from n s k → (c : cells.Cell) → root_cell (nth_subtree s k) ≡ c → fill_from θ s (k + 1) ≡ named_from n s (k + 1)
      by_cell k lt before (cell.Head h m) is =
          let root = head_of_root (nth_subtree s k) h m is in
          let own = own_arity arity (nth_subtree s k) (has_arities_at k lt) in
          let opens = named_opens n s k lt (cell.Head h m) (sym is) (subst (λ c. arity_in c ≡ arity_of (nth_subtree s k)) is own) in
          (open_both _ _ _ _ _ _ _ _ (fill_opens θ s k lt h root) opens refl (sym (subst (λ c. arity_in c ≡ arity_of (nth_subtree s k)) is own))).0 before
      by_cell k lt before (cell.Var x) is = leaf k lt before (no_head (nth_subtree s k) (λ h m f. let z = is in cc))
      by_cell k lt before (cell.Class x class) is = leaf k lt before (no_head (nth_subtree s k) (λ h m f. let z = is in cc))

  pub own_variable : (k x : ℕ) → OccursAt s k x → θ x ≡ node (variable (n + k)) empty
  own_variable k x o =
      let first = firsts_same _ _ _ _ _ _ (fill_passes θ s k o.there) (named_passes n s k o.there) (own_from k (omega (arith, o.there))) in
      sym (fill-variable θ (nth_subtree s k) x o.is) ∙ first ∙ named-variable (n + k) (nth_subtree s k) x o.is

-- ---- the search for a variable, step by step

pub other_no_head : {c d : PatternCell heads.Head} (h : heads.Head) → c ≡ fixed h → HasVariable c d → (g : heads.Head) → d ≡ fixed g → ⊥
other_no_head h root either = ⊎_elim (λ none. absurd (none h root)) (λ none. none) either

named-no_head : (n : ℕ) (p : Pattern) → ((g : heads.Head) → head_of p ≡ fixed g → ⊥) → named n p ≡ node (variable n) empty
named-no_head n (node (fixed h) ps) none = absurd (none h refl)
named-no_head n (node (variable y) ps) none = refl
named-no_head n (node (restricted y class) ps) none = refl

start_filled : (left other : Pattern) (θ : Substitution (PatternCell heads.Head)) → fill θ left ≡ merged left other → fill_from θ left 0 ≡ merge_from 0 left other 0 0
start_filled left other θ e = rw (forest_from-start left, forest_from-start other) (ap (λ t. grow t empty) e)

module _ {classes : List (List heads.Head)} (left other : Pattern) (x : ℕ) (can : CanMerge classes left other) where
  pub find_start : IsFinding left other x 0 0 0
  find_start = record {
    scanned = scan_start left other Any can.arities;
    filled = start_filled left other;
    later = λ k o. omega arith;
    small = omega arith;
    within = omega arith;
    within' = omega arith;
  }

  module _ (at beside name : ℕ) (is : IsFinding left other x at beside name) (lt : at < size left) where
    pub find_there : beside < size other
    find_there = left_there other beside (omega (arith, is.scanned.counts, some_left left at lt))

    pub find_small : name ≤ 510
    find_small = omega (arith, is.small, is.within, is.within', can.left_size, can.other_size)

    abbrev s : Pattern
    s = nth_subtree left at

    abbrev u : Pattern
    u = nth_subtree other beside

    own_have : HasArities is.scanned.arity s
    own_have = (subst (HaveArities is.scanned.arity) (forest_from-node left at lt) is.scanned.one).0

    other_have : HasArities is.scanned.arity u
    other_have = (subst (HaveArities is.scanned.arity) (forest_from-node other beside find_there) is.scanned.other).0

    -- the cells do not clash, where the patterns have a common instance
    pub find_no_clash : DoClash (in_class_of classes) (head_of s) (head_of u) → ⊥
    find_no_clash clash =
        let here = scan_here left other Any at beside is.scanned lt find_there in
        can.common here.at (clash_at (in_class_of classes) left other here.at here.one here.other here.one_stands here.other_stands (rw (here.one_is, here.other_is) clash))

    first_filled : (θ : Substitution (PatternCell heads.Head)) → fill θ left ≡ merged left other → fill θ s ≡ named name (merge s u)
    first_filled θ e = firsts_same _ _ _ _ _ _ (fill_passes θ left at lt) (merge_passes name left other at beside lt find_there) (is.filled θ e)

    -- the variable stands here
    pub find_here : variable_of (head_of s) ≡ Some x → IsPartOf left other x (record { at = beside; name = name })
    find_here own θ e = sym (fill-variable θ s x own) ∙ first_filled θ e ∙ merge-right name s u (variable_no_head s x own)

    -- or in the subtree here, beside a variable
    pub find_inside : (h : heads.Head) → head_of s ≡ fixed h → ((g : heads.Head) → head_of u ≡ fixed g → ⊥) → (k : ℕ) → at ≤ k → k < at + size s → OccursAt left k x → IsPartOf left other x (record { at = beside; name = name + (k - at) })
    find_inside h root none k from below o θ e =
        let own : fill θ s ≡ named name s = first_filled θ e ∙ ap (named name) (merge-left s u h root none) in
        let again : at + (k - at) ≡ k = omega arith in
        let inside : k - at < size s = omega arith in
        let part : nth_subtree left k ≡ nth_subtree s (k - at) = ap (nth_subtree left) (sym again) ∙ nth_subtree-nth_subtree left at (k - at) lt inside in
        let occurs : OccursAt s (k - at) x = record { there = inside; is = ap (λ t. variable_of (head_of t)) (sym part) ∙ o.is } in
        own_variable θ is.scanned.arity s own_have name own (k - at) x occurs ∙ sym (named-no_head (name + (k - at)) u none)

    -- both have the same head
    pub find_down : IsSameHead (head_of s) (head_of u) → (variable_of (head_of s) ≡ Some x → ⊥) → IsFinding left other x (at + 1) (beside + 1) (name + 1)
    find_down same not = record {
      scanned = scan_down left other Any at beside is.scanned lt find_there tt same;
      filled = λ θ e.
          let many = same_heads_same_counts is.scanned.arity s u own_have other_have same in
          (open_both _ _ _ _ _ _ _ _ (fill_opens θ left at lt same.0 same.1) (merge_opens name left other at beside lt find_there same.0 same.0 same.1 same.2 many) refl refl).0 (is.filled θ e);
      later = λ k o. later_one k o not;
      small = omega (arith, is.small);
      within = omega arith;
      within' = omega (arith, find_there);
    }
      where
        later_one : (k : ℕ) → OccursAt left k x → (variable_of (head_of s) ≡ Some x → ⊥) → at + 1 ≤ k
        later_one k o not =
            let before = is.later k o in
            ⊎_elim (λ past. omega arith) (λ here. absurd (not (let same : k ≡ at = omega arith in subst (λ m. variable_of (head_of (nth_subtree left m)) ≡ Some x) same o.is))) (cases_lt at k)

    -- another variable has nothing below it
    pub find_no_variable : ((h : heads.Head) → head_of s ≡ fixed h → ⊥) → (variable_of (head_of s) ≡ Some x → ⊥) → (k : ℕ) → at ≤ k → k < at + size s → OccursAt left k x → ⊥
    find_no_variable none not k from below o =
        let one : size s ≡ 1 = no_head_size is.scanned.arity s own_have none in
        let same : k ≡ at = omega arith in
        not (subst (λ m. variable_of (head_of (nth_subtree left m)) ≡ Some x) same o.is)

    -- what comes next is behind both subtrees
    passed_filled : (n : ℕ) → size (merge s u) ≡ n → (θ : Substitution (PatternCell heads.Head)) → fill θ left ≡ merged left other → fill_from θ left (at + size s) ≡ merge_from (name + n) left other (at + size s) (beside + size u)
    passed_filled n many θ e =
        subst (λ m. fill_from θ left (at + size s) ≡ merge_from (name + m) left other (at + size s) (beside + size u)) many
        ((pass_both _ _ _ _ _ _ (fill_passes θ left at lt) (merge_passes name left other at beside lt find_there) (first_filled θ e)).0 (is.filled θ e))

    module _ (either : HasVariable (head_of s) (head_of u)) (not : (k : ℕ) → at ≤ k → k < at + size s → OccursAt left k x → ⊥) where
      later_all : (k : ℕ) → OccursAt left k x → at + size s ≤ k
      later_all k o = ⊎_elim (λ below. absurd (not k (is.later k o) below o)) (λ past. past) (cases_lt k (at + size s))

      pub find_past_own : (h : heads.Head) → head_of s ≡ fixed h → IsFinding left other x (at + size s) (beside + size u) (name + size s)
      find_past_own h root = record {
        scanned = scan_past left other Any at beside is.scanned lt find_there tt either;
        filled = passed_filled (size s) (ap size (merge-left s u h root (other_no_head h root either)));
        later = later_all;
        small = omega (arith, is.small);
        within = end_within left at lt;
        within' = end_within other beside find_there;
      }

      pub find_past_other : ((h : heads.Head) → head_of s ≡ fixed h → ⊥) → IsFinding left other x (at + size s) (beside + size u) (name + size u)
      find_past_other none = record {
        scanned = scan_past left other Any at beside is.scanned lt find_there tt either;
        filled = passed_filled (size u) (merge-right_size is.scanned.arity s u own_have other_have none);
        later = later_all;
        small = omega (arith, is.small);
        within = end_within left at lt;
        within' = end_within other beside find_there;
      }

-- ---- tests of variables

pub same_variable : (o : Option ℕ) (v : ℕ) → true ≡ option_eq nat_eq o (Some v) → o ≡ Some v
same_variable None v e = cc
same_variable (Some x) v e = ap (λ z. Some z) (exact_unsigned_eq x v (sym e))

pub other_variable : (o : Option ℕ) (v : ℕ) → false ≡ option_eq nat_eq o (Some v) → o ≡ Some v → ⊥
other_variable o v e same =
    let again : false ≡ option_eq nat_eq (Some v) (Some v) = subst (λ q. false ≡ option_eq nat_eq q (Some v)) same e in
    let equal = eq-eqb v v refl in
    cc
