-- After a replacement the trees of a store still agree: a number has one part wherever it stands.
use Rattle.std.proofs.Common.{◌≡◌, ℕ, suc, ◌+◌, ◌==◌, cond, List, [], ◌∷◌, ◌++◌, length, Bool, true, false, Some, refl, sym, ◌∙◌, ap, subst, arith, length-append}
use Rattle.std.specs.Prelude.{Contains, slice_get}
use Rattle.std.specs.List.{AllByRecursion}
use Rattle.std.proofs.lemmas.Bool.{eq-eqb}
use Rattle.std.proofs.lemmas.List.{append-nil, length-map}
use Rattle.eq_base.specs.Tree.{Tree, Forest, node, empty, grow, head_of, size}
use Rattle.eq_base.specs.Pattern.{PatternCell, fixed, variable, restricted, variables, all_variables, Substitution}
use Rattle.eq_base.specs.Rewriting.{RightSide, pattern, operation, System}
use Rattle.eq_base.proofs.Lists.{all_front, all_back, all_both, all_map, all_at, all_contained}
use Rattle.orthogonal_laws.specs.Orthogonal.{IsHead, IsBound, IsWellFormedSystem, IsOrthogonal}
use Rattle.orthogonal_laws.proofs.Members.{get-in, in-contains}
use Rattle.graph_laws.specs.Numbered.{Numbered, plain, root_number, AllParts, AllPartsIn, AreShared, replace_numbered, replace_all_numbered}
use Rattle.graph_laws.specs.Replacing.{MeetsWith, AllMeetWith, head_count, all_head_count, numbered, all_numbered, own_parts, all_own_parts, contractum, new_parts, replace_in_all, replaced_trees, IsReplacement}
use Rattle.graph_laws.specs.Runs.{IsPut, IsReplaced}
use Rattle.graph_laws.proofs.Numbering.{put_nowhere, Only, none_inside, part-here}
use Rattle.graph_laws.proofs.PlainResults.{ReplacesRight}
use Rattle.graph_laws.proofs.ListEntries.{all_get, all_listed, all_mapped, get_left, get_right, get_map}
use Rattle.graph_laws.proofs.Rewriting.{only_one}

module _ {H : Type 0} where
  -- the part is the tree of the node with its number
  abbrev Stands : List (Numbered H) → Numbered H → Type 0
  Stands trees p = slice_get trees (root_number p) ≡ Some p

  -- ---- the value of a right side

  -- these entries stand in a list from a place on
  abbrev StandFrom : List (Numbered H) → ℕ → List (Numbered H) → Type 0
  StandFrom all k xs = (i : ℕ) (x : Numbered H) → slice_get xs i ≡ Some x → slice_get all (k + i) ≡ Some x

  stand-front : (all : List (Numbered H)) (k : ℕ) (xs ys : List (Numbered H)) → StandFrom all k (xs ++ ys) → StandFrom all k xs
  stand-front all k xs ys s = λ i x e. s i x (get_left xs ys i x e)

  stand-back : (all : List (Numbered H)) (k m : ℕ) (xs ys : List (Numbered H)) → m ≡ k + length xs → StandFrom all k (xs ++ ys) → StandFrom all m ys
  stand-back all k m xs ys at s = λ i x e.
      let same : k + (length xs + i) ≡ m + i = omega arith in
      subst (λ j. slice_get all j ≡ Some x) same (s (length xs + i) x (get_right xs ys (length xs + i) i x refl e))

  mutual
    length-own_parts : (σ : Substitution (H × ℕ)) (k : ℕ) (p : Tree (PatternCell H)) → length (own_parts σ k p) ≡ head_count p
    length-own_parts σ k (node (fixed h) ps) = omega (arith, length-all_own_parts σ (suc k) ps)
    length-own_parts σ k (node (variable x) ps) = refl
    length-own_parts σ k (node (restricted x class) ps) = refl

    pub length-all_own_parts : (σ : Substitution (H × ℕ)) (k : ℕ) (ps : Forest (PatternCell H)) → length (all_own_parts σ k ps) ≡ all_head_count ps
    length-all_own_parts σ k empty = refl
    length-all_own_parts σ k (grow p ps) = omega (arith, length-append (own_parts σ k p) (all_own_parts σ (k + head_count p) ps), length-own_parts σ k p, length-all_own_parts σ (k + head_count p) ps)

  module _ (σ : Substitution (H × ℕ)) (all : List (Numbered H)) where
    abbrev ValuesStand : List ℕ → Type 0
    ValuesStand xs = AllByRecursion (λ x. AllParts (Stands all) (σ x)) xs

    mutual
      -- each part of the value stands at its number
      value-stands : (k : ℕ) (p : Tree (PatternCell H)) → ValuesStand (variables p) → StandFrom all k (own_parts σ k p) → AllParts (Stands all) (numbered σ k p)
      value-stands k (node (fixed h) ps) vs s =
          let at : k + 0 ≡ k = omega arith in (
            subst (λ j. slice_get all j ≡ Some (node (h, k) (all_numbered σ (suc k) ps))) at (s 0 (node (h, k) (all_numbered σ (suc k) ps)) refl),
            values-stand (suc k) ps vs (stand-back all k (suc k) (node (h, k) (all_numbered σ (suc k) ps) ∷ []) (all_own_parts σ (suc k) ps) (omega arith) s),
          )
      value-stands k (node (variable x) ps) vs s = vs.0
      value-stands k (node (restricted x class) ps) vs s = vs.0

      values-stand : (k : ℕ) (ps : Forest (PatternCell H)) → ValuesStand (all_variables ps) → StandFrom all k (all_own_parts σ k ps) → AllPartsIn (Stands all) (all_numbered σ k ps)
      values-stand k empty vs s = tt
      values-stand k (grow p ps) vs s =
          let own = own_parts σ k p in
          let more = all_own_parts σ (k + head_count p) ps in (
            value-stands k p (all_front _ (variables p) (all_variables ps) vs) (stand-front all k own more s),
            values-stand (k + head_count p) ps (all_back _ (variables p) (all_variables ps) vs) (stand-back all k (k + head_count p) own more (omega (arith, length-own_parts σ k p)) s),
          )

    mutual
      -- each part of each new tree does
      own-stand : (k : ℕ) (p : Tree (PatternCell H)) → ValuesStand (variables p) → StandFrom all k (own_parts σ k p) → AllByRecursion (AllParts (Stands all)) (own_parts σ k p)
      own-stand k (node (fixed h) ps) vs s = (
        value-stands k (node (fixed h) ps) vs s,
        all_own-stand (suc k) ps vs (stand-back all k (suc k) (node (h, k) (all_numbered σ (suc k) ps) ∷ []) (all_own_parts σ (suc k) ps) (omega arith) s),
      )
      own-stand k (node (variable x) ps) vs s = tt
      own-stand k (node (restricted x class) ps) vs s = tt

      all_own-stand : (k : ℕ) (ps : Forest (PatternCell H)) → ValuesStand (all_variables ps) → StandFrom all k (all_own_parts σ k ps) → AllByRecursion (AllParts (Stands all)) (all_own_parts σ k ps)
      all_own-stand k empty vs s = tt
      all_own-stand k (grow p ps) vs s =
          let own = own_parts σ k p in
          let more = all_own_parts σ (k + head_count p) ps in
          all_both _ own more
          (own-stand k p (all_front _ (variables p) (all_variables ps) vs) (stand-front all k own more s))
          (all_own-stand (k + head_count p) ps (all_back _ (variables p) (all_variables ps) vs) (stand-back all k (k + head_count p) own more (omega (arith, length-own_parts σ k p)) s))

    mutual
      -- what a variable stands for is a part of what its pattern meets
      pub met-parts : (P : Numbered H → Type 0) (p : Tree (PatternCell H)) (t : Numbered H) → MeetsWith σ p t → AllParts P t → AllByRecursion (λ x. AllParts P (σ x)) (variables p)
      met-parts P (node (fixed h) ps) (node l args) m a = all_met-parts P ps args m.1 a.1
      met-parts P (node (variable x) ps) t m a = (subst (λ z. AllParts P z) (sym m) a, tt)
      met-parts P (node (restricted x class) ps) t m a = (subst (λ z. AllParts P z) (sym m) a, tt)

      all_met-parts : (P : Numbered H → Type 0) (ps : Forest (PatternCell H)) (ts : Forest (H × ℕ)) → AllMeetWith σ ps ts → AllPartsIn P ts → AllByRecursion (λ x. AllParts P (σ x)) (all_variables ps)
      all_met-parts P empty empty m a = tt
      all_met-parts P (grow p ps) (grow t ts) m a = all_both _ (variables p) (all_variables ps) (met-parts P p t m.0 a.0) (all_met-parts P ps ts m.1 a.1)
      all_met-parts P empty (grow t ts) m a = absurd m
      all_met-parts P (grow p ps) empty m a = absurd m

  -- ---- one tree in place of a node, and new ones behind

  module _ (n : ℕ) (s : Numbered H) (trees : List (Numbered H)) (shared : AreShared trees) (stands : slice_get trees n ≡ Some s) (own : root_number s ≡ n) (c : Numbered H) (new after : List (Numbered H)) (is : after ≡ replace_in_all n c trees ++ new) where
    then_at : (i : ℕ) (t : Numbered H) → slice_get trees i ≡ Some t → slice_get after i ≡ Some (replace_numbered n c t)
    then_at i t e = subst (λ z. slice_get z i ≡ Some (replace_numbered n c t)) (sym is) (get_left (replace_in_all n c trees) new i (replace_numbered n c t) (get_map (replace_numbered n c) trees i t e))

    new_from : StandFrom after (length trees) new
    new_from i x e =
        let many = length-map trees (replace_numbered n c) in
        subst (λ z. slice_get z (length trees + i) ≡ Some x) (sym is) (get_right (replace_in_all n c trees) new (length trees + i) i x (omega arith) e)

    mutual
      -- where the number is not, nothing changes
      untouched : (t : Numbered H) → AllParts (Stands trees) t → AllParts (λ p. (root_number p == n) ≡ false) t → AllParts (Stands after) t
      untouched (node l args) a none =
          (subst (λ z. slice_get after l.1 ≡ Some z) (put_nowhere n c (node l args) none) (then_at l.1 (node l args) a.0), all_untouched args a.1 none.1)

      all_untouched : (ts : Forest (H × ℕ)) → AllPartsIn (Stands trees) ts → AllPartsIn (λ p. (root_number p == n) ≡ false) ts → AllPartsIn (Stands after) ts
      all_untouched empty a none = tt
      all_untouched (grow t ts) a none = (untouched t a.0 none.0, all_untouched ts a.1 none.1)

    mutual
      -- where it is, the new tree stands
      touched : AllParts (Stands after) c → (t : Numbered H) → AllParts (Stands trees) t → AllParts (Stands after) (replace_numbered n c t)
      touched cs (node l args) a = by_test (all_touched cs args a.1) (then_at l.1 (node l args) a.0) (l.1 == n) refl
        where
          by_test : AllPartsIn (Stands after) (replace_all_numbered n c args) → slice_get after l.1 ≡ Some (cond (l.1 == n) c (node l (replace_all_numbered n c args))) → (b : Bool) → (l.1 == n) ≡ b → AllParts (Stands after) (cond (l.1 == n) c (node l (replace_all_numbered n c args)))
          by_test below here true e = subst (λ b. AllParts (Stands after) (cond b c (node l (replace_all_numbered n c args)))) (sym e) cs
          by_test below here false e =
              let root = subst (λ b. slice_get after l.1 ≡ Some (cond b c (node l (replace_all_numbered n c args)))) e here in
              subst (λ b. AllParts (Stands after) (cond b c (node l (replace_all_numbered n c args)))) (sym e) (root, below)

      all_touched : AllParts (Stands after) c → (ts : Forest (H × ℕ)) → AllPartsIn (Stands trees) ts → AllPartsIn (Stands after) (replace_all_numbered n c ts)
      all_touched cs empty a = tt
      all_touched cs (grow t ts) a = (touched cs t a.0, all_touched cs ts a.1)

    -- if the parts of the new trees stand at their numbers, all do
    all_stand : AllParts (Stands after) c → AllByRecursion (AllParts (Stands after)) new → AreShared after
    all_stand cs news =
        let old = all_mapped (AllParts (Stands after)) (replace_numbered n c) trees (all_listed (λ t. AllParts (Stands after) (replace_numbered n c t)) trees (λ k t e. touched cs t (all_get (AllParts (Stands trees)) trees k t shared e))) in
        let every = all_both (AllParts (Stands after)) (replace_in_all n c trees) new old news in
        λ k d below. all_at (AllParts (Stands after)) after k d below (subst (λ z. AllByRecursion (AllParts (Stands after)) z) (sym is) every)

    -- the new tree stands at the node
    here_after : Stands trees s → slice_get after n ≡ Some c
    here_after e = subst (λ z. slice_get after n ≡ Some z) (of_root s own) (then_at n s stands)
      where
        of_root : (t : Numbered H) → root_number t ≡ n → replace_numbered n c t ≡ c
        of_root (node l args) e = rw (eq-eqb l.1 n e) refl

    -- the parts of the old tree below its root stand still
    below_root : (l : H × ℕ) (args : Forest (H × ℕ)) → s ≡ node l args → AllPartsIn (Stands after) args
    below_root l args e =
        let parts = subst (λ z. AllParts (Stands trees) z) e (all_get (AllParts (Stands trees)) trees n s shared stands) in
        let only = subst (λ z. Only n s z) e (only_one trees n s shared stands n s stands) in
        let x : size s ≡ size (node l args) = ap size e in
        all_untouched args parts.1 (none_inside n s args only.1 (omega arith))

-- ---- a replacement by a rule

module _ {H : Type 0} (system : System H) where
  module _ (trees after : List (Numbered H)) (n : ℕ) (s : Numbered H) (shared : AreShared trees) (stands : slice_get trees n ≡ Some s) (own : root_number s ≡ n) where
    self : Stands trees s
    self = part-here (Stands trees) s (all_get (AllParts (Stands trees)) trees n s shared stands)

    by_constant : (h : H) → IsPut h n trees after → AreShared after
    by_constant h put =
        let is : after ≡ replace_in_all n (node (h, n) empty) trees ++ [] = put ∙ sym (append-nil (replace_in_all n (node (h, n) empty) trees)) in
        all_stand n s trees shared stands own (node (h, n) empty) [] after is (here_after n s trees shared stands own (node (h, n) empty) [] after is self, tt) tt

    module _ (σ : Substitution (H × ℕ)) where
      with_values : (p : Tree (PatternCell H)) → after ≡ replaced_trees σ p n trees → ValuesStand σ after (variables p) → AreShared after
      with_values (node (fixed h) ps) is vs =
          let c = contractum σ n (length trees) (node (fixed h) ps) in
          let new = all_own_parts σ (length trees) ps in
          let from = new_from n s trees shared stands own c new after is in
          all_stand n s trees shared stands own c new after is
          (here_after n s trees shared stands own c new after is self, values-stand σ after (length trees) ps vs from)
          (all_own-stand σ after (length trees) ps vs from)
      with_values (node (variable x) ps) is vs = all_stand n s trees shared stands own (σ x) [] after is vs.0 tt
      with_values (node (restricted x class) ps) is vs = all_stand n s trees shared stands own (σ x) [] after is vs.0 tt

      left-values : (left p : Tree (PatternCell H)) → IsHead (head_of left) → MeetsWith σ left s → after ≡ replaced_trees σ p n trees → ValuesStand σ after (variables left)
      left-values (node (fixed h) ps) p head m is = of_tree s refl m
        where
          of_tree : (t : Numbered H) → s ≡ t → MeetsWith σ (node (fixed h) ps) t → ValuesStand σ after (all_variables ps)
          of_tree (node l args) e m = all_met-parts σ after (Stands after) ps args m.1 (below_root n s trees shared stands own (contractum σ n (length trees) p) (new_parts σ (length trees) p) after is l args e)
      left-values (node (variable x) ps) p head m is = absurd head
      left-values (node (restricted x class) ps) p head m is = absurd head

    by_sides : (left p : Tree (PatternCell H)) → IsHead (head_of left) → AllByRecursion (λ x. Contains (variables left) x) (variables p) → IsReplacement left p n trees after → AreShared after
    by_sides left p head bound m =
        let same : m.tree ≡ s = let x = m.stands in cc in
        let vs = left-values m.substitution left p head (subst (λ z. MeetsWith m.substitution left z) same m.meets) m.result in
        with_values m.substitution p m.result (all_map _ _ (variables p) (λ x inside. all_contained (λ x. AllParts (Stands after) (m.substitution x)) (variables left) x vs inside) bound)

  -- after a replacement the trees agree
  pub stay_shared : IsWellFormedSystem system → IsOrthogonal system → (trees after : List (Numbered H)) (n : ℕ) → AreShared trees → IsReplaced system n trees after → AreShared after
  stay_shared w o trees after n shared x = by_right x.rule.right refl x.replaces
    where
      listed : Contains system.rules x.rule
      listed = in-contains (get-in system.rules x.number x.rule x.listed)

      by_right : (r : RightSide H) → x.rule.right ≡ r → ReplacesRight system x.rule.left r n (plain x.tree) trees after → AreShared after
      by_right (pattern p) e m =
          by_sides trees after n x.tree shared x.stands x.followed x.rule.left p (w.roots x.rule listed) (subst (λ r. IsBound (variables x.rule.left) r) e (o.bound x.rule listed)) m
      by_right (operation op) e m = by_constant trees after n x.tree shared x.stands x.followed m.0 m.2
