-- Right sides, read where a left side fits.
use Rattle.std.proofs.Common.{◌≡◌, ℕ, suc, ◌+◌, List, [], ◌∷◌, ◌++◌, map, Bool, true, false, cond, Option, Some, refl, subst}
use Rattle.std.specs.Prelude.{option_map, nat_eq}
use Rattle.std.specs.List.{AllByRecursion}
use Rattle.std.proofs.lemmas.Bool.{eqb-true, eq-eqb}
use Rattle.eq_base.specs.Tree.{Tree, Forest, node, empty, grow, map_heads}
use Rattle.eq_base.specs.Pattern.{PatternCell, fixed, variable, restricted}
use Rattle.eq_base.specs.Rewriting.{RightSide, pattern, operation, System}
use Rattle.orthogonal_laws.proofs.Members.{In, in_first, in_next}

-- lists of one tree
pub only : {A : Type 0} {t u : Tree A} → grow t empty ≡ grow u empty → t ≡ u
only e = cc

module _ {H : Type 0} where
  -- how many plain variables
  abbrev pub count_plain : Forest (PatternCell H) → ℕ
  count_plain empty = 0
  count_plain (grow (node (variable x) ps) rest) = suc (count_plain rest)
  count_plain (grow (node (restricted x class) ps) rest) = count_plain rest
  count_plain (grow (node (fixed h) ps) rest) = count_plain ps + count_plain rest

  -- what the variables of patterns are in trees that meet them: plain ones by their order from n on, restricted ones the constants that they stand for
  abbrev pub readings : Forest (PatternCell H) → Forest H → ℕ → List (ℕ × Tree (PatternCell H))
  readings (grow (node (variable x) ps) rest) (grow t ts) n = (x, node (variable n) empty) ∷ readings rest ts (suc n)
  readings (grow (node (restricted x class) ps) rest) (grow (node h us) ts) n = (x, node (fixed h) empty) ∷ readings rest ts n
  readings (grow (node (fixed g) ps) rest) (grow (node h us) ts) n = readings ps us n ++ readings rest ts (n + count_plain ps)
  readings ps ts n = []

  -- the pattern of a variable, or the variable itself
  abbrev pub lookup_pattern : List (ℕ × Tree (PatternCell H)) → ℕ → Tree (PatternCell H)
  lookup_pattern [] x = node (variable x) empty
  lookup_pattern (b ∷ bs) x = cond (nat_eq b.0 x) b.1 (lookup_pattern bs x)

  -- the pattern with patterns in place of its variables
  abbrev mutual
    pub rename : (ℕ → Tree (PatternCell H)) → Tree (PatternCell H) → Tree (PatternCell H)
    rename θ (node (fixed h) ps) = node (fixed h) (rename_all θ ps)
    rename θ (node (variable x) ps) = θ x
    rename θ (node (restricted x class) ps) = θ x

    pub rename_all : (ℕ → Tree (PatternCell H)) → Forest (PatternCell H) → Forest (PatternCell H)
    rename_all θ empty = empty
    rename_all θ (grow p ps) = grow (rename θ p) (rename_all θ ps)

  -- the right side where the left side is met by t: a pattern over the plain variables of the left side, by their order, or the value
  abbrev pub read_right : System H → Tree (PatternCell H) → Tree H → RightSide H → Option (Tree (PatternCell H))
  read_right system left t (pattern p) = Some (rename (lookup_pattern (readings (grow left empty) (grow t empty) 0)) p)
  read_right system left t (operation op) = option_map (map_heads (λ h. fixed h)) (system.value_of op t)

  -- what holds of each variable with its pattern holds of the pattern that is looked up
  pub lookup_all : (P : ℕ → Tree (PatternCell H) → Type 0) (bs : List (ℕ × Tree (PatternCell H))) (x : ℕ) → AllByRecursion (λ b. P b.0 b.1) bs → In (map (λ b. b.0) bs) x → P x (lookup_pattern bs x)
  lookup_all P [] x h i = elim i [ ]
  lookup_all P (b ∷ bs) x h i = by_test (nat_eq b.0 x) refl (λ j. lookup_all P bs x h.1 j) i
    where
      later : {y : ℕ} → (y ≡ x → ⊥) → In (y ∷ map (λ b. b.0) bs) x → In (map (λ b. b.0) bs) x
      later other in_first = absurd (other refl)
      later other (in_next i) = i

      by_test : (c : Bool) → nat_eq b.0 x ≡ c → (In (map (λ b. b.0) bs) x → P x (lookup_pattern bs x)) → In (b.0 ∷ map (λ b. b.0) bs) x → P x (cond c b.1 (lookup_pattern bs x))
      by_test true e f i = subst (λ y. P y b.1) (eqb-true _ _ e) h.0
      by_test false e f i = f (later (λ e'. let z = eq-eqb _ _ e' in absurd (cc)) i)
