-- Other numbers in a store change no graph run.
use Rattle.std.proofs.Common.{◌≡◌, ◌≢◌, ℕ, zero, suc, ◌+◌, ◌<◌, ◌==◌, List, [], ◌∷◌, length, Bool, true, false, Some, refl, sym, ◌∙◌, ap, subst, arith}
use Rattle.std.specs.Prelude.{slice_get}
use Rattle.std.proofs.lemmas.Bool.{eqb-true, eqb-false}
use Rattle.eq_base.specs.Tree.{Tree, Forest, node, empty, grow, map_heads, map_all_heads, Position, subtree_at, subtree_in}
use Rattle.eq_base.specs.Pattern.{PatternCell, fixed, variable, restricted, Substitution}
use Rattle.eq_base.specs.Rewriting.{RightSide, pattern, operation, System, IsRedexBy, IsFirst, IsNormal}
use Rattle.orthogonal_laws.specs.Orthogonal.{IsWellFormedSystem, IsOrthogonal}
use Rattle.orthogonal_laws.specs.Strategy.{IsNext}
use Rattle.graph_laws.specs.Numbered.{Numbered, plain, root_number, AllParts, AllPartsIn, AreShared, replace_numbered, replace_all_numbered}
use Rattle.graph_laws.specs.Replacing.{MeetsWith, AllMeetWith, head_count, all_head_count, new_count, numbered, all_numbered, contractum}
use Rattle.graph_laws.specs.Runs.{IsReplaced, IsNextNode, GraphRun}
use Rattle.graph_laws.specs.Runs as runs
use Rattle.graph_laws.specs.SharedRuns.{GraphEnds}
use Rattle.graph_laws.proofs.Numbering.{part-at, part-here}
use Rattle.graph_laws.proofs.ListEntries.{all_get}
use Rattle.graph_laws.proofs.KeepingShared.{stay_shared}
use Rattle.graph_laws.proofs.OneRun.{one_replacement, one_next_node, none_next}
use Rattle.graph_laws.proofs.Contracts.{MakesRight, Contracts, replaces-from, can_put}
use Rattle.graph_laws.proofs.Crossing.{put_here, put_other}

-- so many new cells get the numbers from another base on
abbrev pub Shifts : (ℕ → ℕ) → ℕ → ℕ → ℕ → Type 0
Shifts ρ many base base' = (i : ℕ) → i < many → ρ (base + i) ≡ base' + i

first-shift : (ρ : ℕ → ℕ) (many base base' : ℕ) → 0 < many → Shifts ρ many base base' → ρ base ≡ base'
first-shift ρ many base base' some shifts = let e : base + 0 ≡ base = omega arith in let e' = shifts 0 some in subst (λ k. ρ k ≡ base') e (let z : base' + 0 ≡ base' = omega arith in e' ∙ z)

later-shifts : (ρ : ℕ → ℕ) (few many base base' : ℕ) → Shifts ρ (few + many) base base' → Shifts ρ many (base + few) (base' + few)
later-shifts ρ few many base base' shifts i less =
    let e : (base + few) + i ≡ base + (few + i) = omega arith in
    let e' : base' + (few + i) ≡ (base' + few) + i = omega arith in
    ap ρ e ∙ (shifts (few + i) (omega arith) ∙ e')

suc-shifts : (ρ : ℕ → ℕ) (many base base' : ℕ) → Shifts ρ (suc many) base base' → Shifts ρ many (suc base) (suc base')
suc-shifts ρ many base base' shifts i less =
    let e : suc base + i ≡ base + suc i = omega arith in
    let e' : base' + suc i ≡ suc base' + i = omega arith in
    ap ρ e ∙ (shifts (suc i) (omega arith) ∙ e')

module _ {H : Type 0} (ρ : ℕ → ℕ) where
  abbrev new_label : H × ℕ → H × ℕ
  new_label l = (l.0, ρ l.1)

  -- the tree with other numbers
  abbrev pub rename : Numbered H → Numbered H
  rename t = map_heads new_label t

  abbrev pub rename_all : Forest (H × ℕ) → Forest (H × ℕ)
  rename_all ts = map_all_heads new_label ts

  pub root-rename : (t : Numbered H) → root_number (rename t) ≡ ρ (root_number t)
  root-rename (node l args) = refl

  mutual
    pub plain-rename : (t : Numbered H) → plain (rename t) ≡ plain t
    plain-rename (node l args) = ap (node l.0) (plain-rename_all args)

    plain-rename_all : (ts : Forest (H × ℕ)) → map_all_heads (λ l. l.0) (rename_all ts) ≡ map_all_heads (λ l. l.0) ts
    plain-rename_all empty = refl
    plain-rename_all (grow t ts) = rw (plain-rename t, plain-rename_all ts) refl

  mutual
    -- where no number changes
    pub rename-same : (t : Numbered H) → AllParts (λ p. ρ (root_number p) ≡ root_number p) t → rename t ≡ t
    rename-same (node l args) a = ap (λ k. node (l.0, k) (rename_all args)) a.0 ∙ ap (node l) (rename-same_all args a.1)

    rename-same_all : (ts : Forest (H × ℕ)) → AllPartsIn (λ p. ρ (root_number p) ≡ root_number p) ts → rename_all ts ≡ ts
    rename-same_all empty a = refl
    rename-same_all (grow t ts) a = rw (rename-same t a.0, rename-same_all ts a.1) refl

  mutual
    rename-at : (t : Numbered H) (q : Position) (p : Numbered H) → subtree_at t q ≡ Some p → subtree_at (rename t) q ≡ Some (rename p)
    rename-at t [] p e = let same : t ≡ p = cc in ap (λ z. Some (rename z)) same
    rename-at (node l args) (i ∷ q) p e = rename-in args i q p e

    rename-in : (ts : Forest (H × ℕ)) (i : ℕ) (q : Position) (p : Numbered H) → subtree_in ts i q ≡ Some p → subtree_in (rename_all ts) i q ≡ Some (rename p)
    rename-in empty i q p e = absurd (cc)
    rename-in (grow t ts) zero q p e = rename-at t q p e
    rename-in (grow t ts) (suc i) q p e = rename-in ts i q p e

  module _ (σ : Substitution (H × ℕ)) where
    abbrev renamed : Substitution (H × ℕ)
    renamed x = rename (σ x)

    mutual
      meets-rename : (p : Tree (PatternCell H)) (t : Numbered H) → MeetsWith σ p t → MeetsWith renamed p (rename t)
      meets-rename (node (fixed h) ps) (node l args) m = (m.0, all_meet-rename ps args m.1)
      meets-rename (node (variable x) ps) t m = ap rename m
      meets-rename (node (restricted x class) ps) t m = ap rename m

      all_meet-rename : (ps : Forest (PatternCell H)) (ts : Forest (H × ℕ)) → AllMeetWith σ ps ts → AllMeetWith renamed ps (rename_all ts)
      all_meet-rename empty empty m = tt
      all_meet-rename (grow p ps) (grow t ts) m = (meets-rename p t m.0, all_meet-rename ps ts m.1)
      all_meet-rename empty (grow t ts) m = absurd m
      all_meet-rename (grow p ps) empty m = absurd m

    mutual
      numbered-rename : (k k' : ℕ) (p : Tree (PatternCell H)) → Shifts ρ (head_count p) k k' → rename (numbered σ k p) ≡ numbered renamed k' p
      numbered-rename k k' (node (fixed h) ps) shifts =
          ap (λ j. node (h, j) (rename_all (all_numbered σ (suc k) ps))) (first-shift ρ (suc (all_head_count ps)) k k' (omega arith) shifts)
          ∙ ap (node (h, k')) (all_numbered-rename (suc k) (suc k') ps (suc-shifts ρ (all_head_count ps) k k' shifts))
      numbered-rename k k' (node (variable x) ps) shifts = refl
      numbered-rename k k' (node (restricted x class) ps) shifts = refl

      all_numbered-rename : (k k' : ℕ) (ps : Forest (PatternCell H)) → Shifts ρ (all_head_count ps) k k' → rename_all (all_numbered σ k ps) ≡ all_numbered renamed k' ps
      all_numbered-rename k k' empty shifts = refl
      all_numbered-rename k k' (grow p ps) shifts =
          rw (
            numbered-rename k k' p (λ i less. shifts i (omega arith)),
            all_numbered-rename (k + head_count p) (k' + head_count p) ps (later-shifts ρ (head_count p) (all_head_count ps) k k' shifts),
          )
          refl

    contractum-rename : (n base base' : ℕ) (p : Tree (PatternCell H)) → Shifts ρ (new_count p) base base' → rename (contractum σ n base p) ≡ contractum renamed (ρ n) base' p
    contractum-rename n base base' (node (fixed h) ps) shifts = ap (node (h, ρ n)) (all_numbered-rename base base' ps shifts)
    contractum-rename n base base' (node (variable x) ps) shifts = refl
    contractum-rename n base base' (node (restricted x class) ps) shifts = refl

  module _ (injective : (a b : ℕ) → ρ a ≡ ρ b → a ≡ b) where
    mutual
      pub rename-put : (n : ℕ) (c t : Numbered H) → rename (replace_numbered n c t) ≡ replace_numbered (ρ n) (rename c) (rename t)
      rename-put n c (node l args) = by_test (rename-put_all n c args) (l.1 == n) refl
        where
          by_test : rename_all (replace_all_numbered n c args) ≡ replace_all_numbered (ρ n) (rename c) (rename_all args) → (b : Bool) → (l.1 == n) ≡ b → rename (replace_numbered n c (node l args)) ≡ replace_numbered (ρ n) (rename c) (rename (node l args))
          by_test below true e =
              let at = eqb-true l.1 n e in
              ap rename (put_here n c l args at) ∙ sym (put_here (ρ n) (rename c) (new_label l) (rename_all args) (ap ρ at))
          by_test below false e =
              let other : ρ l.1 ≢ ρ n = λ x. eqb-false l.1 n e (injective l.1 n x) in
              ap rename (put_other n c l args (eqb-false l.1 n e)) ∙ (ap (node (new_label l)) below ∙ sym (put_other (ρ n) (rename c) (new_label l) (rename_all args) other))

      rename-put_all : (n : ℕ) (c : Numbered H) (ts : Forest (H × ℕ)) → rename_all (replace_all_numbered n c ts) ≡ replace_all_numbered (ρ n) (rename c) (rename_all ts)
      rename-put_all n c empty = refl
      rename-put_all n c (grow t ts) = rw (rename-put n c t, rename-put_all n c ts) refl

  pub contracts-rename : (system : System H) (n base base' : ℕ) (s c : Numbered H) (many : ℕ) → Shifts ρ many base base' → Contracts system n base s c many → Contracts system (ρ n) base' (rename s) (rename c) many
  contracts-rename system n base base' s c many shifts x = record {
    number = x.number;
    rule = x.rule;
    listed = x.listed;
    redex = subst (λ z. IsRedexBy system x.number z) (sym (plain-rename s)) x.redex;
    first = subst (λ z. IsFirst system x.number z) (sym (plain-rename s)) x.first;
    makes = by_right x.rule.right x.makes;
  }
    where
      by_right : (right : RightSide H) → MakesRight system x.rule.left right n base s c many → MakesRight system x.rule.left right (ρ n) base' (rename s) (rename c) many
      by_right (pattern p) m =
          let e = m.3 in
          (renamed m.0, meets-rename m.0 x.rule.left s m.1, ap rename m.2 ∙ contractum-rename m.0 n base base' p (λ i less. shifts i (omega arith)), m.3)
      by_right (operation op) m = (m.0, ap (λ z. system.value_of op z) (plain-rename s) ∙ m.1, ap rename m.2, m.3)

  pub contracts-rename-rule : (system : System H) (n base base' : ℕ) (s c : Numbered H) (many : ℕ) (shifts : Shifts ρ many base base') (x : Contracts system n base s c many) → (contracts-rename system n base base' s c many shifts x).number ≡ x.number
  unfolding contracts-rename
  contracts-rename-rule system n base base' s c many shifts x = refl

-- ---- runs to the end

module _ {H : Type 0} (system : System H) (root : ℕ) where
  -- so many replacements of the graph run lead to a normal form
  pub data Ends : List (Numbered H) → ℕ → Type 0 where
    ended : {trees : List (Numbered H)} (t : Numbered H) → slice_get trees root ≡ Some t → IsNormal system (plain t) → Ends trees 0
    goes : {trees between : List (Numbered H)} {n k : ℕ} → IsNextNode system trees root n → IsReplaced system n trees between → Ends between k → Ends trees (suc k)

  ends_on : {trees : List (Numbered H)} {n : ℕ} {after : List (Numbered H)} → GraphRun system root trees n after → {k : ℕ} → Ends after k → Ends trees (n + k)
  ends_on {trees} runs.start {k} e = let same : k ≡ 0 + k = omega arith in subst (λ j. Ends trees j) same e
  ends_on {trees} (runs.then {k = n} run next x) {k} e = let same : n + suc k ≡ suc n + k = omega arith in subst (λ j. Ends trees j) same (ends_on run (goes next x e))

  pub ends-from : (trees after : List (Numbered H)) (n : ℕ) (v : Tree H) → GraphEnds system root trees n after v → Ends trees n
  ends-from trees after n v e =
      let end : Ends after 0 = ended e.stands.0 e.stands.1 (subst (λ z. IsNormal system z) (sym e.stands.2) e.normal) in
      let same : n + 0 ≡ n = omega arith in
      subst (λ j. Ends trees j) same (ends_on e.run end)

  module _ (w : IsWellFormedSystem system) (o : IsOrthogonal system) where
    -- a run ends after one number of replacements
    pub one_number : {trees : List (Numbered H)} {i j : ℕ} → Ends trees i → Ends trees j → i ≡ j
    one_number (ended t e normal) (ended t' e' normal') = refl
    one_number (ended {trees = trees} t e normal) (goes {n = n} next x rest) = absurd (none_next system w o trees root n (plain t) (t, e, refl) normal next)
    one_number (goes {trees = trees} {n = n} next x rest) (ended t e normal) = absurd (none_next system w o trees root n (plain t) (t, e, refl) normal next)
    one_number (goes {trees = trees} {between = a} {n = n} next x rest) (goes {between = b} {n = n'} {k = k'} next' x' rest') =
        let node = one_next_node system w o trees root n' n next' next in
        let same : b ≡ a = one_replacement system o n trees b a (subst (λ z. IsReplaced system z trees b) node x') x in
        ap suc (one_number rest (subst (λ z. Ends z k') same rest'))

    -- with other numbers the run ends alike
    module _ (ρ : ℕ → ℕ) (injective : (a b : ℕ) → ρ a ≡ ρ b → a ≡ b) where
      pub renamed_ends : {trees : List (Numbered H)} {k : ℕ} → Ends trees k → AreShared trees → (t : Numbered H) → slice_get trees root ≡ Some t → (others : List (Numbered H)) → AreShared others → slice_get others root ≡ Some (rename ρ t) → ((i : ℕ) → ρ (length trees + i) ≡ length others + i) → Ends others k
      renamed_ends (ended t' e' normal) shared t e others shared' there shifts =
          let same : t' ≡ t = cc in
          ended (rename ρ t) there (subst (λ z. IsNormal system z) (sym (plain-rename ρ t)) (subst (λ z. IsNormal system (plain z)) same normal))
      renamed_ends (goes {trees = trees} {between = between} {n = n} next x rest) shared t e others shared' there shifts =
          let r = replaces-from system n trees between x in
          let same : next.tree ≡ t = let a = next.stands in cc in
          let at : subtree_at t next.position ≡ Some next.part = subst (λ z. subtree_at z next.position ≡ Some next.part) same next.there in
          let here = part-here (λ p. slice_get trees (root_number p) ≡ Some p) next.part (part-at _ t next.position next.part (all_get (λ t. AllParts (λ p. slice_get trees (root_number p) ≡ Some p) t) trees root t shared e) at) in
          let part : r.part ≡ next.part = let a = r.stands in let b = subst (λ k. slice_get trees k ≡ Some next.part) next.own here in cc in
          let at' = rename-at ρ t next.position next.part at in
          let own' : root_number (rename ρ next.part) ≡ ρ n = root-rename ρ next.part ∙ ap ρ next.own in
          let here' = part-here (λ p. slice_get others (root_number p) ≡ Some p) (rename ρ next.part) (part-at _ (rename ρ t) next.position (rename ρ next.part) (all_get (λ t. AllParts (λ p. slice_get others (root_number p) ≡ Some p) t) others root (rename ρ t) shared' there) at') in
          let stands' = subst (λ k. slice_get others k ≡ Some (rename ρ next.part)) own' here' in
          let c = contracts-rename ρ system n (length trees) (length others) next.part r.contractum r.many (λ i less. shifts i) (subst (λ z. Contracts system n (length trees) z r.contractum r.many) part r.contracts) in
          let put = can_put system (ρ n) others (rename ρ next.part) (rename ρ r.contractum) r.many stands' own' c in
          let root_after = subst (λ z. slice_get put.after root ≡ Some z) (sym (rename-put ρ injective n r.contractum t)) (put.at root (rename ρ t) there) in
          let next' : IsNextNode system others root (ρ n) = record { tree = rename ρ t; stands = there; position = next.position; next = subst (λ z. IsNext system z next.position) (sym (plain-rename ρ t)) (subst (λ z. IsNext system (plain z) next.position) same next.next); part = rename ρ next.part; there = at'; own = own' } in
          goes {between = put.after} next' put.replaced
          (renamed_ends rest (stay_shared system w o trees between n shared x) (replace_numbered n r.contractum t) (r.at root t e) put.after (stay_shared system w o others put.after (ρ n) shared' put.replaced) root_after (λ i. after_shifts r.many put.after r.long put.long i))
        where
          after_shifts : (many : ℕ) (after : List (Numbered H)) → length between ≡ length trees + many → length after ≡ length others + many → (i : ℕ) → ρ (length between + i) ≡ length after + i
          after_shifts many after l l' i =
              let a : length between + i ≡ length trees + (many + i) = omega arith in
              let b : length others + (many + i) ≡ length after + i = omega arith in
              ap ρ a ∙ (shifts (many + i) ∙ b)
