-- Two developments of the same trees have a common development; convertible trees have a common reduct.
use Rattle.std.proofs.Common.{◌≡◌, ℕ, zero, suc, ◌+◌, ◌≤◌, List, [], ◌∷◌, ◌⊎◌, inl, inr, refl, sym, subst, arith}
use Rattle.eq_base.specs.Tree.{Tree, Forest, node, empty, grow, count}
use Rattle.eq_base.specs.Pattern.{PatternCell}
use Rattle.orthogonal_laws.proofs.LeftSides.{Label, Compiled, Redex}
use Rattle.orthogonal_laws.proofs.ForestSteps.{Step, step_here, step_below, step_after, Derives, no_step, then_step, Joined, joined_end, joined_forth, joined_back}
use Rattle.orthogonal_laws.proofs.ForestDevelopments.{Develops, nil, keep, contract, total}
use Rattle.orthogonal_laws.proofs.Matchers.{Matcher, Read, Skip, End, Done, Stop, run, parts, Compiles}
use Rattle.orthogonal_laws.proofs.Sequential.{Sequential}
use Rattle.orthogonal_laws.proofs.Advancing.{fill_develops, root_kept, root_marked}
use Rattle.orthogonal_laws.proofs.ForestRuns.{step_develops}

abbrev pub size : {H : Type 0} → Forest H → ℕ
size empty = 0
size (grow (node h args) rest) = suc (size args + size rest)

parts-size : {H : Type 0} (ts : Forest H) (m : Matcher H) (more : Forest H) → size (parts m ts more) ≤ size ts + size more
parts-size empty m more = omega arith
parts-size (grow (node h args) rest) (Read f) more = omega (arith, parts-size args (f (h, count args)) (parts (run (f (h, count args)) args) rest more), parts-size rest (run (f (h, count args)) args) more)
parts-size (grow (node h args) rest) (Skip m) more = omega (arith, parts-size rest m more)
parts-size (grow (node h args) rest) (End m) more = omega arith
parts-size (grow (node h args) rest) (Done r) more = omega arith
parts-size (grow (node h args) rest) Stop more = omega arith

module _ {H : Type 0} (rules : List (Compiled H)) (start : Label H → Matcher H) (c : Compiles rules start) (sq : Sequential start) where
  -- what both develop to
  pub record Meet (us vs : Forest H) : Type 0 where
    pub end : Forest H
    pub left_weights : List ℕ
    pub right_weights : List ℕ
    pub left : Develops rules us end left_weights
    pub right : Develops rules vs end right_weights

  redex-size : {h : H} {args es : Forest H} {r : Tree (PatternCell H)} → Redex rules h args r es → size es ≤ size args
  redex-size {h} {args} {es} {r} x = rw (c.opens h args r es x) (omega (arith, parts-size args (start (h, count args)) empty))

  pub diamond : (n : ℕ) {ts us vs : Forest H} {ns ms : List ℕ} → size ts ≤ n → Develops rules ts us ns → Develops rules ts vs ms → Meet us vs
  diamond n small nil nil = record { end = empty; left_weights = []; right_weights = []; left = nil; right = nil }
  diamond zero small (keep dk dr) d = absurd (omega arith)
  diamond zero small (contract x dk dr) d = absurd (omega arith)
  diamond (suc n) small (keep dk dr) (keep dk' dr') =
      let a = diamond n (omega arith) dk dk' in
      let b = diamond n (omega arith) dr dr' in
      record { end = _; left_weights = _; right_weights = _; left = keep a.left b.left; right = keep a.right b.right }
  diamond (suc n) small (contract {h = h} {r = r} x dk dr) (contract {r = r'} x' dk' dr') =
      let w = root_marked rules start c x x' dk' in
      let a = diamond n (omega (arith, redex-size x)) dk w.1 in
      let b = diamond n (omega arith) dr dr' in
      rw w.0 (record { end = _; left_weights = _; right_weights = _; left = fill_develops rules start c h r a.left b.left; right = fill_develops rules start c h r a.right b.right })
  diamond (suc n) small (contract {h = h} {r = r} x dk dr) (keep dk' dr') =
      let k = root_kept rules start c sq x dk' in
      let a = diamond n (omega (arith, redex-size x)) dk k.3 in
      let b = diamond n (omega arith) dr dr' in
      record { end = _; left_weights = _; right_weights = _; left = fill_develops rules start c h r a.left b.left; right = contract k.2 a.right b.right }
  diamond (suc n) small (keep dk dr) (contract {h = h} {r = r} x dk' dr') =
      let k = root_kept rules start c sq x dk in
      let a = diamond n (omega (arith, redex-size x)) k.3 dk' in
      let b = diamond n (omega arith) dr dr' in
      record { end = _; left_weights = _; right_weights = _; left = contract k.2 a.left b.left; right = fill_develops rules start c h r a.right b.right }

  -- a development makes nothing of a tree, or begins with a step at a marked position
  step_first : {ts us : Forest H} {ns : List ℕ} → Develops rules ts us ns → (us ≡ ts) ⊎ ((p : List ℕ) × (i : ℕ) × (ts' : Forest H) × (ms : List ℕ) × Step rules ts (i ∷ p) ts' × Develops rules ts' us ms × (total ns ≡ suc (total ms)))
  step_first nil = inl refl
  step_first (contract {h = h} {r = r} x dk dr) = inr (_, _, _, _, step_here x, fill_develops rules start c h r dk dr, omega arith)
  step_first (keep {h = h} {args = args} {us = us} {rest = rest} {vs = vs} dk dr) =
      elim (step_first dk) [
        | inr w ↦ inr (_, _, _, _, step_below w.4, keep w.5 dr, omega (arith, w.6))
        | inl e ↦ elim (step_first dr) [
          | inr w ↦ inr (_, _, _, _, step_after w.4, keep dk w.5, omega (arith, w.6))
          | inl e' ↦ inl (let e1 : us ≡ args = e in let e2 : vs ≡ rest = e' in cc)
        ]
      ]

  develops-derives : (w : ℕ) {ts us : Forest H} {ns : List ℕ} → Develops rules ts us ns → total ns ≡ w → Derives rules ts us
  develops-derives zero {ts} d e = elim (step_first d) [ inl same ↦ subst (λ z. Derives rules ts z) (sym same) no_step | inr s ↦ absurd (omega (arith, s.6, e)) ]
  develops-derives (suc w) {ts} d e = elim (step_first d) [ inl same ↦ subst (λ z. Derives rules ts z) (sym same) no_step | inr s ↦ then_step s.4 (develops-derives w s.5 (omega (arith, s.6, e))) ]

  pub derives_on : {ts us vs : Forest H} → Derives rules ts us → Derives rules us vs → Derives rules ts vs
  derives_on no_step d = d
  derives_on (then_step s d) d' = then_step s (derives_on d d')

  -- a development across a derivation
  strip : {ts vs : Forest H} → Derives rules ts vs → {us : Forest H} {ns : List ℕ} → Develops rules ts us ns → (ws : Forest H) × (ms : List ℕ) × Derives rules us ws × Develops rules vs ws ms
  strip no_step d = (_, _, no_step, d)
  strip (then_step {ts = ts} s rest) d =
      let m = diamond (size ts) (omega arith) d (step_develops rules s).1 in
      let w = strip rest m.right in
      (w.0, w.1, derives_on (develops-derives _ m.left refl) w.2, w.3)

  -- convertible trees have a common reduct
  pub common_reduct : {ts us : Forest H} → Joined rules ts us → (ws : Forest H) × Derives rules ts ws × Derives rules us ws
  common_reduct joined_end = (_, no_step, no_step)
  common_reduct (joined_forth s j) = let w = common_reduct j in (w.0, then_step s w.1, w.2)
  common_reduct (joined_back s j) =
      let w = common_reduct j in
      let z = strip w.1 (step_develops rules s).1 in
      (z.0, z.2, derives_on w.2 (develops-derives _ z.3 refl))
