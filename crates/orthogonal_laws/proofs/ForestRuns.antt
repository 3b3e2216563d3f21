-- Plain runs under developments and derivations.
use Rattle.std.proofs.Common.{◌≡◌, ℕ, zero, suc, ◌≤◌, List, ◌∷◌, Bool, true, false, ◌⊎◌, inl, inr, refl, sym, ◌∙◌, ap, subst, arith}
use Rattle.eq_base.specs.Tree.{Forest, node, empty, grow}
use Rattle.orthogonal_laws.proofs.LeftSides.{Label, Compiled}
use Rattle.orthogonal_laws.proofs.ForestSteps.{Step, step_here, step_below, step_after, Normal, Derives, no_step, then_step}
use Rattle.orthogonal_laws.proofs.ForestStrategy.{Next, Plain, plain_end, plain_step}
use Rattle.orthogonal_laws.proofs.ForestDevelopments.{Develops, nil, keep, contract, marks_at, total}
use Rattle.orthogonal_laws.proofs.Matchers.{Matcher, Compiles}
use Rattle.orthogonal_laws.proofs.Sequential.{Sequential}
use Rattle.orthogonal_laws.proofs.Walks.{Advances}
use Rattle.orthogonal_laws.proofs.Advancing.{normal_develops, next_kept, next_marked}
use Rattle.orthogonal_laws.proofs.Existence.{normal_or_next, normal_not_next, next_step, step_unique}
use Rattle.orthogonal_laws.proofs.ReadPositions.{ReadsDemanded}
use Rattle.orthogonal_laws.proofs.Strategies.{advances-next, next-advances, next_unique, next-normal}

true_or_false : (b : Bool) → (b ≡ true) ⊎ (b ≡ false)
true_or_false true = inl refl
true_or_false false = inr refl

module _ {H : Type 0} (rules : List (Compiled H)) where
  -- nothing marked
  pub still : (ts : Forest H) → (ns : List ℕ) × Develops rules ts ts ns
  still empty = (_, nil)
  still (grow (node h args) rest) = (_, keep (still args).1 (still rest).1)

  -- a step is the development that marks its position alone
  pub step_develops : {ts us : Forest H} {p : List ℕ} → Step rules ts p us → (ns : List ℕ) × Develops rules ts us ns
  step_develops (step_here {es = es} {rest = rest} x) = (_, contract x (still es).1 (still rest).1)
  step_develops (step_below {rest = rest} s) = (_, keep (step_develops s).1 (still rest).1)
  step_develops (step_after {t = node h args} s) = (_, keep (still args).1 (step_develops s).1)

module _ {H : Type 0} (rules : List (Compiled H)) (start : Label H → Matcher H) (c : Compiles rules start) (k : ReadsDemanded rules start) (sq : Sequential start) where
  -- every list that develops to one that the step at the next redex of us makes has a plain run to vs
  abbrev IsJoined : Forest H → Forest H → Type 0
  IsJoined us vs = (p : List ℕ) (ts' us' : Forest H) (ms : List ℕ) → Advances rules start us p us' → Develops rules ts' us' ms → (m : ℕ) × Plain rules ts' m vs

  plain_on_from : {ts us vs : Forest H} {p : List ℕ} {n : ℕ} → Advances rules start ts p us → Plain rules us n vs → Plain rules ts (suc n) vs
  plain_on_from a plain = plain_step (advances-next rules start c k a) (next_step rules start c a) plain

  -- by the weight
  descend : (w : ℕ) {ts us vs : Forest H} {n : ℕ} {ns : List ℕ} → Plain rules us n vs → IsJoined us vs → Develops rules ts us ns → total ns ≡ w → (m : ℕ) × Plain rules ts m vs
  descend zero {ts} {us} {vs} {n} plain joined d e =
      elim (normal_or_next rules start c ts) [
        | inl norm ↦ (n, subst (λ x. Plain rules x n vs) (normal_develops rules start c norm d) plain)
        | inr next ↦ elim (true_or_false (marks_at d (next.0 ∷ next.1))) [
          | inl on ↦ absurd (let w = next_marked rules start c next.3 d on in omega (arith, w.2, e))
          | inr off ↦
              let w = next_kept rules start c sq next.3 d off in
              let z = joined _ _ _ _ w.2 w.3 in
              (suc z.0, plain_on_from next.3 z.1)
        ]
      ]
  descend (suc v) {ts} {us} {vs} {n} plain joined d e =
      elim (normal_or_next rules start c ts) [
        | inl norm ↦ (n, subst (λ x. Plain rules x n vs) (normal_develops rules start c norm d) plain)
        | inr next ↦ elim (true_or_false (marks_at d (next.0 ∷ next.1))) [
          | inl on ↦
              let w = next_marked rules start c next.3 d on in
              let z = descend v plain joined w.1 (omega (arith, w.2, e)) in
              (suc z.0, plain_on_from next.3 z.1)
          | inr off ↦
              let w = next_kept rules start c sq next.3 d off in
              let z = joined _ _ _ _ w.2 w.3 in
              (suc z.0, plain_on_from next.3 z.1)
        ]
      ]

  -- two next steps lead to the same
  next_same : {ts us us' : Forest H} {p p' : List ℕ} → Next rules ts p → Step rules ts p us → Advances rules start ts p' us' → us' ≡ us
  next_same {ts} {us} {us'} {p} {p'} n s a =
      step_unique rules start c (subst (λ q. Step rules ts q us') (next_unique rules start c k (advances-next rules start c k a) n) (next_step rules start c a)) s

  -- what develops to a list with a plain run has a plain run to the same normal list
  pub plain_back : {us vs : Forest H} {n : ℕ} → Plain rules us n vs → {ts : Forest H} {ns : List ℕ} → Develops rules ts us ns → (m : ℕ) × Plain rules ts m vs
  plain_back (plain_end norm) d = descend _ (plain_end norm) (λ p ts' us' ms a d'. absurd (normal_not_next rules start c a norm)) d refl
  plain_back (plain_step {vs = vs} n s rest) d =
      descend _ (plain_step n s rest) (λ p ts' us' ms a d'. plain_back rest (subst (λ x. Develops rules ts' x ms) (next_same n s a) d')) d refl

  -- a development has no longer plain run
  pub plain_forth : {ts vs : Forest H} {n : ℕ} → Plain rules ts n vs → {us : Forest H} {ns : List ℕ} → Develops rules ts us ns → (m : ℕ) × Plain rules us m vs × (m ≤ n)
  plain_forth (plain_end {ts = ts} norm) d = (0, subst (λ x. Plain rules x 0 ts) (sym (normal_develops rules start c norm d)) (plain_end norm), omega arith)
  plain_forth (plain_step {p = p} n s rest) d =
      let a = next-advances rules start c k n s in
      elim (true_or_false (marks_at d p)) [
        | inl on ↦
            let w = next_marked rules start c a d on in
            let z = plain_forth rest w.1 in
            (z.0, z.1, omega (arith, z.2))
        | inr off ↦
            let w = next_kept rules start c sq a d off in
            let z = plain_forth rest w.3 in
            (suc z.0, plain_on_from w.2 z.1, omega (arith, z.2))
      ]

  -- a development that marks the next redex has a shorter one
  pub plain_shared : {ts us vs : Forest H} {n : ℕ} {p : List ℕ} → Plain rules ts n vs → Next rules ts p → {ns : List ℕ} (d : Develops rules ts us ns) → marks_at d p ≡ true → (m : ℕ) × Plain rules us m vs × (suc m ≤ n)
  plain_shared (plain_end norm) next d on = absurd (next-normal rules start c k next norm)
  plain_shared (plain_step {p = p} n s rest) next d on =
      let w = next_marked rules start c (next-advances rules start c k n s) d (ap (λ q. marks_at d q) (next_unique rules start c k n next) ∙ on) in
      let z = plain_forth rest w.1 in
      (z.0, z.1, omega (arith, z.2))

  pub plain_found : {ts vs : Forest H} → Derives rules ts vs → Normal rules vs → (m : ℕ) × Plain rules ts m vs
  plain_found no_step norm = (0, plain_end norm)
  plain_found (then_step s d) norm = plain_back (plain_found d norm).1 (step_develops rules s).1

  pub plain_unique : {ts vs vs' : Forest H} {m n : ℕ} → Plain rules ts m vs → Plain rules ts n vs' → (m ≡ n) × (vs ≡ vs')
  plain_unique (plain_end norm) (plain_end norm') = (refl, refl)
  plain_unique (plain_end norm) (plain_step next s rest) = absurd (next-normal rules start c k next norm)
  plain_unique (plain_step next s rest) (plain_end norm) = absurd (next-normal rules start c k next norm)
  plain_unique (plain_step next s rest) (plain_step {vs = vs'} {n = n} next' s' rest') =
      let e = next_same next s (next-advances rules start c k next' s') in
      let z = plain_unique rest (subst (λ x. Plain rules x n vs') e rest') in
      (ap suc z.0, z.1)

  pub plain-normal : {ts vs : Forest H} {n : ℕ} → Plain rules ts n vs → Normal rules vs
  plain-normal (plain_end norm) = norm
  plain-normal (plain_step next s rest) = plain-normal rest

  pub plain-derives : {ts vs : Forest H} {n : ℕ} → Plain rules ts n vs → Derives rules ts vs
  plain-derives (plain_end norm) = no_step
  plain-derives (plain_step next s rest) = then_step s (plain-derives rest)
