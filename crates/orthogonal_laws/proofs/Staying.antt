-- Where there is no demanded redex, developments keep what was read.
use Rattle.std.proofs.Common.{◌≡◌, ℕ, suc, List, refl, sym, ◌∙◌, ap, subst}
use Rattle.eq_base.specs.Tree.{Forest, count}
use Rattle.orthogonal_laws.proofs.LeftSides.{Label, Compiled, NoRedex}
use Rattle.orthogonal_laws.proofs.ForestDevelopments.{Develops, nil, keep, contract}
use Rattle.orthogonal_laws.proofs.Matchers.{Matcher, run, parts, Compiles}
use Rattle.orthogonal_laws.proofs.Walks.{Quiet, quiet_read, quiet_skip, quiet_nil, quiet_end, quiet_done, quiet_stop}

-- a list of trees us that is read as ts is, and leaves parts open that are developments of those of ts
pub record Same {H : Type 0} (rules : List (Compiled H)) (start : Label H → Matcher H) (m : Matcher H) (ts us : Forest H) : Type 0 where
  pub same : run m us ≡ run m ts
  pub quiet : Quiet rules start m us
  pub parts_develop : {more more' : Forest H} {ns : List ℕ} → Develops rules more more' ns → (ms : List ℕ) × Develops rules (parts m ts more) (parts m us more') ms

module _ {H : Type 0} (rules : List (Compiled H)) (start : Label H → Matcher H) (c : Compiles rules start) where
  pub no_redex : (h : H) (args us : Forest H) → count us ≡ count args → run (start (h, count args)) us ≡ run (start (h, count args)) args → NoRedex rules h args → NoRedex rules h us
  no_redex h args us n e none r es x = none r _ (c.redex h args r (sym e ∙ (ap (λ k. run (start (h, k)) us) (sym n) ∙ c.finds h us r es x)))

  pub develops-count : {ts us : Forest H} {ns : List ℕ} → Develops rules ts us ns → count us ≡ count ts
  develops-count nil = refl
  develops-count (keep dk dr) = ap suc (develops-count dr)
  develops-count (contract x dk dr) = ap suc (develops-count dr)

  -- where the matcher finds no demanded redex, a development is read in the same way
  pub stays : {m : Matcher H} {ts us : Forest H} {ns : List ℕ} → Quiet rules start m ts → Develops rules ts us ns → Same rules start m ts us
  stays (quiet_read {f = f} {m = m} {h = h} {args = args} {rest = rest} none q1 q2 e q3) (keep {us = us} {vs = vs} dk dr) =
      let s1 = stays q1 dk in
      let s2 = stays q2 dk in
      let s3 = stays q3 dr in
      let n : count us ≡ count args = develops-count dk in
      let e2 : run (f (h, count us)) us ≡ m = ap (λ k. run (f (h, k)) us) n ∙ (s2.same ∙ e) in
      record {
        same = ap (λ n. run n vs) e2 ∙ s3.same ∙ sym (ap (λ n. run n rest) e);
        quiet = quiet_read (no_redex h args us n s1.same none) (subst (λ k. Quiet rules start (start (h, k)) us) (sym n) s1.quiet) (subst (λ k. Quiet rules start (f (h, k)) us) (sym n) s2.quiet) e2 s3.quiet;
        parts_develop = λ d. let w = s3.parts_develop d in let w2 = s2.parts_develop w.1 in (w2.0, rw (e, e2, n) w2.1);
      }
  stays (quiet_read none q1 q2 e q3) (contract x dk dr) = absurd (none _ _ x)
  stays (quiet_skip q) (keep dk dr) =
      let s = stays q dr in
      record { same = s.same; quiet = quiet_skip s.quiet; parts_develop = λ d. let w = s.parts_develop d in (_, keep dk w.1) }
  stays (quiet_skip q) (contract x dk dr) =
      let s = stays q dr in
      record { same = s.same; quiet = quiet_skip s.quiet; parts_develop = λ d. let w = s.parts_develop d in (_, contract x dk w.1) }
  stays quiet_nil nil = record { same = refl; quiet = quiet_nil; parts_develop = λ d. (_, d) }
  stays quiet_end nil = record { same = refl; quiet = quiet_nil; parts_develop = λ d. (_, d) }
  stays quiet_end (keep dk dr) = record { same = refl; quiet = quiet_end; parts_develop = λ d. (_, d) }
  stays quiet_end (contract x dk dr) = record { same = refl; quiet = quiet_end; parts_develop = λ d. (_, d) }
  stays quiet_done nil = record { same = refl; quiet = quiet_nil; parts_develop = λ d. (_, d) }
  stays quiet_done (keep dk dr) = record { same = refl; quiet = quiet_done; parts_develop = λ d. (_, d) }
  stays quiet_done (contract x dk dr) = record { same = refl; quiet = quiet_done; parts_develop = λ d. (_, d) }
  stays quiet_stop nil = record { same = refl; quiet = quiet_nil; parts_develop = λ d. (_, d) }
  stays quiet_stop (keep dk dr) = record { same = refl; quiet = quiet_stop; parts_develop = λ d. (_, d) }
  stays quiet_stop (contract x dk dr) = record { same = refl; quiet = quiet_stop; parts_develop = λ d. (_, d) }
