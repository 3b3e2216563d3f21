-- Two different redexes: each is replaced alike after the other, and both orders give one tree.
use Rattle.std.proofs.Common.{◌≡◌, ◌≢◌, ℕ, zero, suc, ◌+◌, ◌<◌, ◌==◌, List, [], ◌∷◌, ◌++◌, Bool, true, false, Some, refl, sym, ◌∙◌, ap, subst, arith}
use Rattle.std.specs.Prelude.{Contains}
use Rattle.std.specs.List.{AllByRecursion}
use Rattle.std.proofs.lemmas.Bool.{eqb-true, eqb-false, ne_eqb, eq-eqb}
use Rattle.eq_base.specs.Tree.{Tree, Forest, node, empty, grow, head_of, Position, subtree_at, subtree_in}
use Rattle.eq_base.specs.Pattern.{PatternCell, fixed, variable, restricted, IsConstantOf, restrictions, all_restrictions, Substitution, Respects}
use Rattle.eq_base.specs.Rewriting.{RightSide, pattern, operation, Rule, System, RootStep, IsRedexBy, IsRedex}
use Rattle.eq_base.proofs.Lists.{all_front, all_back, all_both}
use Rattle.orthogonal_laws.specs.Orthogonal.{IsHead, IsWellFormedSystem, IsOrthogonal}
use Rattle.orthogonal_laws.proofs.Members.{get-in, in-contains}
use Rattle.orthogonal_laws.proofs.NextLaws.{part_without_demand}
use Rattle.graph_laws.specs.Numbered.{Numbered, plain, root_number, AllParts, replace_numbered, replace_all_numbered}
use Rattle.graph_laws.specs.Replacing.{MeetsWith, AllMeetWith, head_count, all_head_count, new_count, numbered, all_numbered, contractum}
use Rattle.graph_laws.proofs.Numbering.{Only, OnlyIn, put_to, put_nowhere}
use Rattle.graph_laws.proofs.PlainResults.{plain_values, met-value, same-respects}
use Rattle.graph_laws.proofs.Contracts.{MakesRight, Contracts, instance_of}
use Rattle.graph_laws.proofs.FirstFits.{some_meets}
use Rattle.graph_laws.proofs.SameRules.{same_rules}
use Rattle.graph_laws.proofs.PartsStay.{IsClean, AreClean, no_root}
use Rattle.graph_laws.proofs.ManySteps.{replaced_develops}

-- none of so many new cells, numbered from a base on, has this number
abbrev pub IsOff : ℕ → ℕ → ℕ → Type 0
IsOff base many y = (i : ℕ) → i < many → base + i ≡ y → ⊥

module _ {H : Type 0} where
  -- ---- a replacement in a tree

  -- at another number the root stays
  pub put_other : (y : ℕ) (c : Numbered H) (l : H × ℕ) (args : Forest (H × ℕ)) → l.1 ≢ y → replace_numbered y c (node l args) ≡ node l (replace_all_numbered y c args)
  put_other y c l args other = rw (ne_eqb l.1 y other) refl

  pub put_here : (y : ℕ) (c : Numbered H) (l : H × ℕ) (args : Forest (H × ℕ)) → l.1 ≡ y → replace_numbered y c (node l args) ≡ c
  put_here y c l args same = rw (eq-eqb l.1 y same) refl

  module _ (y : ℕ) (c : Numbered H) (σ : Substitution (H × ℕ)) where
    abbrev pub put_values : Substitution (H × ℕ)
    put_values x = replace_numbered y c (σ x)

    mutual
      numbered-put : (k : ℕ) (p : Tree (PatternCell H)) → IsOff k (head_count p) y → replace_numbered y c (numbered σ k p) ≡ numbered put_values k p
      numbered-put k (node (fixed h) ps) off =
          put_other y c (h, k) (all_numbered σ (suc k) ps) (λ e. off 0 (omega arith) (omega arith))
          ∙ ap (node (h, k)) (all_numbered-put (suc k) ps (λ i less e. off (suc i) (omega arith) (omega arith)))
      numbered-put k (node (variable x) ps) off = refl
      numbered-put k (node (restricted x class) ps) off = refl

      all_numbered-put : (k : ℕ) (ps : Forest (PatternCell H)) → IsOff k (all_head_count ps) y → replace_all_numbered y c (all_numbered σ k ps) ≡ all_numbered put_values k ps
      all_numbered-put k empty off = refl
      all_numbered-put k (grow p ps) off =
          rw (
            numbered-put k p (λ i less e. off i (omega arith) e),
            all_numbered-put (k + head_count p) ps (λ i less e. off (head_count p + i) (omega arith) (omega arith)),
          )
          refl

    contractum-put : (x base : ℕ) (p : Tree (PatternCell H)) → x ≢ y → IsOff base (new_count p) y → replace_numbered y c (contractum σ x base p) ≡ contractum put_values x base p
    contractum-put x base (node (fixed h) ps) other off = put_other y c (h, x) (all_numbered σ base ps) other ∙ ap (node (h, x)) (all_numbered-put base ps off)
    contractum-put x base (node (variable v) ps) other off = refl
    contractum-put x base (node (restricted v class) ps) other off = refl

  -- two replacements, where the tree that is put in last does not have the other number
  mutual
    pub put-put : (x y : ℕ) (c d : Numbered H) → x ≢ y → AllParts (λ p. (root_number p == y) ≡ false) c → (t : Numbered H) → replace_numbered x c (replace_numbered y d t) ≡ replace_numbered y (replace_numbered x c d) (replace_numbered x c t)
    put-put x y c d other none (node l args) = by_test (put-put_in x y c d other none args) (l.1 == y) refl (l.1 == x) refl
      where
        by_test : replace_all_numbered x c (replace_all_numbered y d args) ≡ replace_all_numbered y (replace_numbered x c d) (replace_all_numbered x c args) → (a : Bool) → (l.1 == y) ≡ a → (b : Bool) → (l.1 == x) ≡ b →
            replace_numbered x c (replace_numbered y d (node l args)) ≡ replace_numbered y (replace_numbered x c d) (replace_numbered x c (node l args))
        by_test below true e true e' = let at = eqb-true l.1 y e in let at' = eqb-true l.1 x e' in absurd (other (sym at' ∙ at))
        by_test below true e false e' =
            ap (replace_numbered x c) (put_here y d l args (eqb-true l.1 y e))
            ∙ sym (ap (replace_numbered y (replace_numbered x c d)) (put_other x c l args (eqb-false l.1 x e')) ∙ put_here y (replace_numbered x c d) l (replace_all_numbered x c args) (eqb-true l.1 y e))
        by_test below false e true e' =
            ap (replace_numbered x c) (put_other y d l args (eqb-false l.1 y e))
            ∙ (put_here x c l (replace_all_numbered y d args) (eqb-true l.1 x e') ∙ sym (ap (replace_numbered y (replace_numbered x c d)) (put_here x c l args (eqb-true l.1 x e')) ∙ put_nowhere y (replace_numbered x c d) c none))
        by_test below false e false e' =
            ap (replace_numbered x c) (put_other y d l args (eqb-false l.1 y e))
            ∙ (put_other x c l (replace_all_numbered y d args) (eqb-false l.1 x e')
            ∙ (ap (node l) below ∙ sym (ap (replace_numbered y (replace_numbered x c d)) (put_other x c l args (eqb-false l.1 x e')) ∙ put_other y (replace_numbered x c d) l (replace_all_numbered x c args) (eqb-false l.1 y e))))

    put-put_in : (x y : ℕ) (c d : Numbered H) → x ≢ y → AllParts (λ p. (root_number p == y) ≡ false) c → (ts : Forest (H × ℕ)) → replace_all_numbered x c (replace_all_numbered y d ts) ≡ replace_all_numbered y (replace_numbered x c d) (replace_all_numbered x c ts)
    put-put_in x y c d other none empty = refl
    put-put_in x y c d other none (grow t ts) = rw (put-put x y c d other none t, put-put_in x y c d other none ts) refl

  -- where no part on the way has the number, the part at a position is replaced inside
  mutual
    pub part-put : (y : ℕ) (c : Numbered H) (t : Numbered H) (q : Position) (p : Numbered H) → subtree_at t q ≡ Some p → ((r r' : Position) (s : Numbered H) → q ≡ r ++ r' → r' ≢ [] → subtree_at t r ≡ Some s → root_number s ≢ y) → subtree_at (replace_numbered y c t) q ≡ Some (replace_numbered y c p)
    part-put y c t [] p e way = let same : t ≡ p = cc in ap (λ z. Some (replace_numbered y c z)) same
    part-put y c (node l args) (i ∷ q) p e way =
        let below = part-put_in y c args i q p e (λ r r' s at some stands. way (i ∷ r) r' s (ap (λ z. i ∷ z) at) some stands) in
        let other = way [] (i ∷ q) (node l args) refl (λ e. cc) refl in
        subst (λ z. subtree_at z (i ∷ q) ≡ Some (replace_numbered y c p)) (sym (put_other y c l args other)) below

    part-put_in : (y : ℕ) (c : Numbered H) (ts : Forest (H × ℕ)) (i : ℕ) (q : Position) (p : Numbered H) → subtree_in ts i q ≡ Some p → ((r r' : Position) (s : Numbered H) → q ≡ r ++ r' → r' ≢ [] → subtree_in ts i r ≡ Some s → root_number s ≢ y) → subtree_in (replace_all_numbered y c ts) i q ≡ Some (replace_numbered y c p)
    part-put_in y c empty i q p e way = absurd (cc)
    part-put_in y c (grow t ts) zero q p e way = part-put y c t q p e way
    part-put_in y c (grow t ts) (suc i) q p e way = part-put_in y c ts i q p e way

module _ {H : Type 0} (system : System H) where
  -- ---- a redex elsewhere

  module _ (y : ℕ) (s c : Numbered H) (redex : IsRedex system (plain s)) where
    abbrev put : Numbered H → Numbered H
    put t = replace_numbered y c t

    -- a part that is no redex has another number
    other_number : (t : Numbered H) → (root_number t ≡ y → t ≡ s) → (IsRedex system (plain t) → ⊥) → root_number t ≢ y
    other_number t only stuck = λ e. stuck (subst (λ z. IsRedex system (plain z)) (sym (only e)) redex)

    constant_put : (class : ℕ) (t : Numbered H) → IsConstantOf system.in_class class (plain t) → root_number t ≢ y → put t ≡ t
    constant_put class (node l empty) constant other = put_other y c l empty other
    constant_put class (node l (grow t ts)) constant other = absurd constant

    module _ (σ : Substitution (H × ℕ)) where
      -- the restricted variables stand for the same constants
      abbrev pub SameRestricted : List (ℕ × ℕ) → Type 0
      SameRestricted rs = AllByRecursion (λ r. plain (σ r.0) ≡ plain (put (σ r.0))) rs

      mutual
        -- what meets a pattern whose tested parts are no redexes meets it afterwards
        meets-put : (p : Tree (PatternCell H)) (t : Numbered H) → IsClean system p → Respects system.in_class (plain_values σ) p → MeetsWith σ p t → Only y s t → MeetsWith (put_values y c σ) p (put t) × SameRestricted (restrictions p)
        meets-put (node (fixed h) ps) (node l args) clean respects m only =
            let value = met-value σ (node (fixed h) ps) (node l args) m in
            let stuck = clean [] (node (fixed h) ps) refl tt (plain (node l args)) (record { substitution = plain_values σ; respects = respects; applied = value }) in
            let below = all_meet-put ps args (λ i q. clean (i ∷ q)) respects m.1 only.1 in
            (subst (λ z. MeetsWith (put_values y c σ) (node (fixed h) ps) z) (sym (put_other y c l args (other_number (node l args) only.0 stuck))) (m.0, below.0), below.1)
        meets-put (node (variable x) ps) t clean respects m only = (ap put m, tt)
        meets-put (node (restricted x class) ps) t clean respects m only =
            let stuck = clean [] (node (restricted x class) ps) refl tt (plain t) (record { substitution = plain_values σ; respects = respects; applied = ap plain m }) in
            let constant = subst (λ z. IsConstantOf system.in_class class (plain z)) m respects.0 in
            let same = constant_put class t constant (other_number t (only_here t only) stuck) in
            (ap put m, (ap plain (m ∙ (sym same ∙ ap put (sym m))), tt))
          where
            only_here : (t : Numbered H) → Only y s t → root_number t ≡ y → t ≡ s
            only_here (node l args) only = only.0

        all_meet-put : (ps : Forest (PatternCell H)) (ts : Forest (H × ℕ)) → AreClean system ps → AllByRecursion (λ r. IsConstantOf system.in_class r.1 (plain (σ r.0))) (all_restrictions ps) → AllMeetWith σ ps ts → OnlyIn y s ts → AllMeetWith (put_values y c σ) ps (replace_all_numbered y c ts) × SameRestricted (all_restrictions ps)
        all_meet-put empty empty clean respects m only = (tt, tt)
        all_meet-put (grow p ps) (grow t ts) clean respects m only =
            let a = meets-put p t (λ q. clean 0 q) (all_front _ (restrictions p) (all_restrictions ps) respects) m.0 only.0 in
            let b = all_meet-put ps ts (λ i. clean (suc i)) (all_back _ (restrictions p) (all_restrictions ps) respects) m.1 only.1 in
            ((a.0, b.0), all_both _ (restrictions p) (all_restrictions ps) a.1 b.1)
        all_meet-put empty (grow t ts) clean respects m only = absurd m
        all_meet-put (grow p ps) empty clean respects m only = absurd m

    module _ (w : IsWellFormedSystem system) (o : IsOrthogonal system) (step : RootStep system (plain s) (plain c)) where
      clean_below : (rule : Rule H) → Contains system.rules rule → (h : H) (ps : Forest (PatternCell H)) → rule.left ≡ node (fixed h) ps → AreClean system ps
      clean_below rule listed h ps e i q part stands tested t is r =
          no_root system (part_without_demand system w o rule listed (i ∷ q) (λ e. cc) (record { part = part; stands = ap (λ z. subtree_at z (i ∷ q)) e ∙ stands; tested = tested }) t is) r

      left-meets : (rule : Rule H) → Contains system.rules rule → (left : Tree (PatternCell H)) → rule.left ≡ left → IsHead (head_of left) → (σ : Substitution (H × ℕ)) → Respects system.in_class (plain_values σ) left → (t : Numbered H) → MeetsWith σ left t → Only y s t → root_number t ≢ y → MeetsWith (put_values y c σ) left (put t) × SameRestricted σ (restrictions left)
      left-meets rule listed (node (fixed h) ps) e head σ respects (node l args) m only other =
          let below = all_meet-put σ ps args (clean_below rule listed h ps e) respects m.1 only.1 in
          (subst (λ z. MeetsWith (put_values y c σ) (node (fixed h) ps) z) (sym (put_other y c l args other)) (m.0, below.0), below.1)
      left-meets rule listed (node (variable v) ps) e head σ respects t m only other = absurd head
      left-meets rule listed (node (restricted v class) ps) e head σ respects t m only other = absurd head

      -- a redex at another number is replaced alike after the replacement
      pub contracts_after : (x base : ℕ) (t d : Numbered H) (many : ℕ) → root_number t ≡ x → x ≢ y → Only y s t → IsOff base many y → Contracts system x base t d many → Contracts system x base (put t) (put d) many
      contracts_after x base t d many own other only off contracts = record {
        number = contracts.number;
        rule = contracts.rule;
        listed = contracts.listed;
        redex = (same contracts.number).0 contracts.redex;
        first = λ k less fits. contracts.first k less ((same k).1 fits);
        makes = by_right contracts.rule.right refl contracts.makes;
      }
        where
          there : Contains system.rules contracts.rule
          there = in-contains (get-in system.rules contracts.number contracts.rule contracts.listed)

          not_here : root_number t ≢ y
          not_here = λ e. other (sym own ∙ e)

          same : (number : ℕ) → (IsRedexBy system number (plain t) → IsRedexBy system number (plain (put t))) × (IsRedexBy system number (plain (put t)) → IsRedexBy system number (plain t))
          same number =
              let p = put_to y s c t only in
              let e = replaced_develops system (plain s) (plain c) step p.replaced in
              let unmarked = e.exactly [] ∙ (p.exactly [] ∙ ne_eqb (root_number t) y not_here) in
              same_rules system w o (plain t) (plain (put t)) e.weight (contracts.redex.0, (contracts.number, contracts.redex.1)) e.development unmarked number

          met : (σ : Substitution (H × ℕ)) → MeetsWith σ contracts.rule.left t → Respects system.in_class (plain_values σ) contracts.rule.left × MeetsWith (put_values y c σ) contracts.rule.left (put t) × SameRestricted σ (restrictions contracts.rule.left)
          met σ m =
              let i = instance_of system contracts in
              let respects = same-respects system.in_class i.substitution (plain_values σ) contracts.rule.left (i.applied ∙ sym (met-value σ contracts.rule.left t m)) i.respects in
              let x = left-meets contracts.rule there contracts.rule.left refl (w.roots contracts.rule there) σ respects t m only not_here in
              (respects, x.0, x.1)

          by_right : (right : RightSide H) → contracts.rule.right ≡ right → MakesRight system contracts.rule.left right x base t d many → MakesRight system contracts.rule.left right x base (put t) (put d) many
          by_right (pattern p) e m =
              let e' = m.3 in
              (put_values y c m.0, (met m.0 m.1).1, ap put m.2 ∙ contractum-put y c m.0 x base p other (λ i less. off i (omega arith)), m.3)
          by_right (operation op) e m =
              let z = some_meets system.in_class contracts.rule.left t (o.linear contracts.rule there) (instance_of system contracts) in
              let x' = met z.0 z.1 in
              let value = w.values contracts.rule there op e (plain_values z.0) (plain_values (put_values y c z.0)) x'.0 x'.2 in
              let before = ap (λ u. system.value_of op u) (met-value z.0 contracts.rule.left t z.1) in
              let after = ap (λ u. system.value_of op u) (met-value (put_values y c z.0) contracts.rule.left (put t) x'.1) in
              (m.0, sym after ∙ (sym value ∙ (before ∙ m.1)), ap put m.2 ∙ put_other y c (m.0, x) empty other, m.3)

      -- by the same rule
      pub contracts_after-rule : (x base : ℕ) (t d : Numbered H) (many : ℕ) (own : root_number t ≡ x) (other : x ≢ y) (only : Only y s t) (off : IsOff base many y) (contracts : Contracts system x base t d many) → (contracts_after x base t d many own other only off contracts).number ≡ contracts.number
      unfolding contracts_after
      contracts_after-rule x base t d many own other only off contracts = refl
