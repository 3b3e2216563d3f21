-- A part of an instance of a left side, at a tested position below its root, has no demanded redex.
use Rattle.std.proofs.Common.{ℕ, List, refl, sym, ◌∙◌, subst}
use Rattle.eq_base.specs.Tree.{Tree, Forest, node, empty, grow, count}
use Rattle.eq_base.specs.Pattern.{PatternCell}
use Rattle.orthogonal_laws.proofs.LeftSides.{Label, Compiled, Redex}
use Rattle.orthogonal_laws.proofs.Matchers.{Matcher, Read, Skip, End, Done, Stop, run, Alive, Compiles}
use Rattle.orthogonal_laws.proofs.Sequential.{Apart, beside_read, beside_skip, beside_end, beside_done, beside_stop_left, beside_stop_right, Guarded, guarded_read, guarded_skip, guarded_end, guarded_done, guarded_stop, Sequential}
use Rattle.orthogonal_laws.proofs.Walks.{Quiet, quiet_read, quiet_skip, quiet_nil, quiet_end, quiet_done, quiet_stop, Leads, leads_here, leads_below, leads_within, leads_after, leads_skip}

pub alive_before : {H : Type 0} (m : Matcher H) (ts : Forest H) → Alive (run m ts) → Alive m
alive_before Stop empty a = a
alive_before Stop (grow (node h args) rest) a = a
alive_before (Read f) ts a = tt
alive_before (Skip m) ts a = tt
alive_before (End m) ts a = tt
alive_before (Done r) ts a = tt

pub apart-done : {H : Type 0} {m : Matcher H} {r : Tree (PatternCell H)} → Apart m (Done r) → Alive m → ⊥
apart-done beside_stop_left a = a
apart-done (beside_done x) a = x

module _ {H : Type 0} (start : Label H → Matcher H) where
  pub guarded-run : (ts : Forest H) → {m : Matcher H} → Guarded start m → Guarded start (run m ts)
  guarded-run empty (guarded_read x gs) = guarded_stop
  guarded-run empty (guarded_skip g) = guarded_stop
  guarded-run empty (guarded_end g) = g
  guarded-run empty guarded_done = guarded_stop
  guarded-run empty guarded_stop = guarded_stop
  guarded-run (grow (node h args) rest) (guarded_read x gs) = guarded-run rest (guarded-run args (gs (h, count args)))
  guarded-run (grow (node h args) rest) (guarded_skip g) = guarded-run rest g
  guarded-run (grow (node h args) rest) (guarded_end g) = guarded_stop
  guarded-run (grow (node h args) rest) guarded_done = guarded_stop
  guarded-run (grow (node h args) rest) guarded_stop = guarded_stop

module _ {H : Type 0} (rules : List (Compiled H)) (start : Label H → Matcher H) (c : Compiles rules start) where
  -- what is read to the end by a matcher that is apart from b has no demanded redex for b
  pub apart_quiet : (ts : Forest H) → {a b : Matcher H} → Guarded start a → Apart a b → Alive (run a ts) → Quiet rules start b ts × Apart (run a ts) (run b ts)
  apart_quiet empty g (beside_read x) alive = absurd alive
  apart_quiet empty g (beside_skip x) alive = absurd alive
  apart_quiet empty g (beside_end x) alive = (quiet_nil, x)
  apart_quiet empty g (beside_done x) alive = absurd x
  apart_quiet empty g beside_stop_left alive = absurd alive
  apart_quiet empty g beside_stop_right alive = (quiet_nil, beside_stop_right)
  apart_quiet (grow (node h args) rest) (guarded_read {f = f} foe gs) (beside_read {g = g} x) alive =
      let alive1 = alive_before (run (f (h, count args)) args) rest alive in
      let below = apart_quiet args (gs (h, count args)) (foe (h, count args)) alive1 in
      let within = apart_quiet args (gs (h, count args)) (x (h, count args)) alive1 in
      let after = apart_quiet rest (guarded-run start args (gs (h, count args))) within.1 alive in
      (quiet_read (λ r es x. apart-done (subst (λ m. Apart (run (f (h, count args)) args) m) (c.finds h args r es x) below.1) alive1) below.0 within.0 refl after.0, after.1)
  apart_quiet (grow (node h args) rest) (guarded_skip g) (beside_skip x) alive =
      let after = apart_quiet rest g x alive in
      (quiet_skip after.0, after.1)
  apart_quiet (grow (node h args) rest) g (beside_end x) alive = absurd alive
  apart_quiet (grow (node h args) rest) g (beside_done x) alive = absurd x
  apart_quiet (grow (node h args) rest) g beside_stop_left alive = absurd alive
  apart_quiet (grow (node h args) rest) g beside_stop_right alive = (quiet_stop, beside_stop_right)

  -- while a left side still fits, there is no demanded redex in what was read below its root
  pub calm : (ts : Forest H) → {m : Matcher H} → Guarded start m → Alive (run m ts) → Quiet rules start m ts
  calm empty g alive = quiet_nil
  calm (grow (node h args) rest) (guarded_read {f = f} foe gs) alive =
      let alive1 = alive_before (run (f (h, count args)) args) rest alive in
      let below = apart_quiet args (gs (h, count args)) (foe (h, count args)) alive1 in
      quiet_read
      (λ r es x. apart-done (subst (λ m. Apart (run (f (h, count args)) args) m) (c.finds h args r es x) below.1) alive1)
      below.0
      (calm args (gs (h, count args)) alive1)
      refl
      (calm rest (guarded-run start args (gs (h, count args))) alive)
  calm (grow (node h args) rest) (guarded_skip g) alive = quiet_skip (calm rest g alive)
  calm (grow (node h args) rest) (guarded_end g) alive = quiet_end
  calm (grow (node h args) rest) guarded_done alive = quiet_done
  calm (grow (node h args) rest) guarded_stop alive = quiet_stop

  pub not_both : {m : Matcher H} {ts us : Forest H} {p : List ℕ} → Quiet rules start m ts → Leads rules start m ts p us → ⊥
  not_both (quiet_read none q1 q2 e q3) (leads_here x) = none _ _ x
  not_both (quiet_read none q1 q2 e q3) (leads_below none' d) = not_both q1 d
  not_both (quiet_read none q1 q2 e q3) (leads_within none' q d) = not_both q2 d
  not_both (quiet_read none q1 q2 e q3) (leads_after {rest = rest} none' q q' e' d) = not_both (subst (λ m. Quiet rules start m rest) (sym e ∙ e') q3) d
  not_both (quiet_skip q) (leads_skip d) = not_both q d
  not_both quiet_nil d = elim d [ ]
  not_both quiet_end d = elim d [ ]
  not_both quiet_done d = elim d [ ]
  not_both quiet_stop d = elim d [ ]

  -- the arguments of a redex hold no demanded redex
  pub redex_quiet : Sequential start → (h : H) (args es : Forest H) (r : Tree (PatternCell H)) → Redex rules h args r es → Quiet rules start (start (h, count args)) args
  redex_quiet s h args es r x = calm args (s (h, count args)) (subst Alive (sym (c.finds h args r es x)) tt)
