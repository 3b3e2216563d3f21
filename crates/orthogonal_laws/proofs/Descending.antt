-- Going down from a node to the argument in which the last left side fails, by the nodes' numbers.
use Rattle.std.proofs.Common.{◌≡◌, ℕ, suc, ◌+◌, ◌-◌, ◌<◌, ◌≤◌, ◌⊎◌, inl, inr, [], ◌∷◌, Some, refl, sym, subst, arith, ⊎_elim, max}
use Rattle.std.proofs.lemmas.Bool.{cases_lt}
use Rattle.eq_base.specs.Tree.{Tree, node, args_of, size, total_size, nth_subtree, subtree_at, subtree_in}
use Rattle.eq_base.specs.Storing.{first_trees}
use Rattle.eq_base.specs.Rewriting.{Rule, IsRedex}
use Rattle.eq_base.specs.Meeting.{in_class_of}
use Rattle.eq_base.specs.RuleList.{RuleList}
use Rattle.eq_base.specs.Rules.{rule_of, system_of}
use Rattle.eq_base.specs.declared.head.Head.{Head}
use Rattle.eq_base.proofs.Instances.{fits_from_instance}
use Rattle.orthogonal_laws.specs.Matching.{IsLastFailure}
use Rattle.orthogonal_laws.specs.Demanded.{IsArgumentToward}
use Rattle.orthogonal_laws.specs.Operations.{Values}
use Rattle.orthogonal_laws.specs.Orthogonal.{IsWellFormedSystem, IsOrthogonal}
use Rattle.orthogonal_laws.specs.Strategy.{HasNoDemandedRedex}
use Rattle.orthogonal_laws.proofs.Members.{get-in, map-in, in-get}
use Rattle.orthogonal_laws.proofs.Reaching.{reaches-bound}
use Rattle.orthogonal_laws.proofs.Failing.{mismatch-fits}
use Rattle.orthogonal_laws.proofs.Failures.{last_reaches}
use Rattle.orthogonal_laws.proofs.Followed.{IsFollowed, followed_step, followed_end}
use Rattle.eq_base.proofs.Arguments.{place_of}

-- where all left sides fail, there is no redex
pub failed_no_redex : (values : Values) (rules : RuleList) (t : Tree Head) (n : ℕ) → IsLastFailure rules t n → IsRedex (system_of values rules) t → ⊥
failed_no_redex values rules t n failed r =
    let by = r.1.1 in
    let x = map-in rule_of rules.equations by.rule (get-in (system_of values rules).rules r.1.0 by.rule by.listed) in
    let y = in-get x.1 in
    let fails = failed.each y.0 x.0 y.1 in
    let i = fits_from_instance (in_class_of rules.classes) by.rule.left t by.is_instance.left in
    let f = subst (λ (rule : Rule Head). Rattle.eq_base.proofs.Instances.Fits (in_class_of rules.classes) rule.left t) (sym x.2) i in
    mismatch-fits (in_class_of rules.classes) fails.1 (f, tt)

pub size_args : {A : Type 0} (t : Tree A) → size t ≡ suc (total_size (args_of t))
size_args (node a args) = refl

pub argument_in : {A : Type 0} (t : Tree A) (i : ℕ) (s : Tree A) → subtree_at t (i ∷ []) ≡ Some s → subtree_in (args_of t) i [] ≡ Some s
argument_in (node a args) i s e = e

pub later_of : (m n k : ℕ) → k ≡ max m n → ((k ≡ m) × (n ≤ m)) ⊎ ((k ≡ n) × (m ≤ n))
later_of m n k e = ⊎_elim (λ below. inr (omega (arith, e), omega arith)) (λ past. inl (omega (arith, e), past)) (cases_lt m n)

module _ (values : Values) (rules : RuleList) (w : IsWellFormedSystem (system_of values rules)) (o : IsOrthogonal (system_of values rules)) (whole t : Tree Head) (place at last failing later : ℕ) (f : IsFollowed (system_of values rules) w o whole (nth_subtree t at) (last - at) place) (failed : IsLastFailure rules (nth_subtree t at) (failing - at)) (low : at ≤ last) (low' : at ≤ failing) (is : later ≡ max last failing) where
  -- the last left side fails within the subterm
  pub fails_within : later < at + size (nth_subtree t at)
  fails_within =
      let a = reaches-bound f.reaches in
      let b = reaches-bound (last_reaches values rules w o (nth_subtree t at) (failing - at) failed) in
      omega (arith, a, b, is, size_args (nth_subtree t at))

  pub follow_end : later ≡ at → HasNoDemandedRedex (system_of values rules) whole
  follow_end e =
      followed_end (system_of values rules) w o whole (nth_subtree t at) (last - at) place (failing - at) f (failed_no_redex values rules _ _ failed) (last_reaches values rules w o (nth_subtree t at) (failing - at) failed)
      (later_of (last - at) (failing - at) 0 (omega (arith, e, is)))

  pub follow_on : (argument : ℕ) → at < later → IsArgumentToward t at later argument → IsFollowed (system_of values rules) w o whole (nth_subtree t argument) (later - argument) (place + (argument - at))
  follow_on argument lt a =
      let s = nth_subtree t at in
      let n = place_of s a.i (nth_subtree t argument) a.stands in
      let off = total_size (first_trees a.i (args_of s)) in
      let x =
      followed_step (system_of values rules) w o whole s (nth_subtree t argument) (last - at) place (failing - at) (later - at - 1) a.i f (failed_no_redex values rules _ _ failed) (last_reaches values rules w o s (failing - at) failed)
      (later_of (last - at) (failing - at) (suc (later - at - 1)) (omega (arith, is))) (argument_in s a.i (nth_subtree t argument) a.stands) (omega (arith, n, a.place, a.before)) (omega (arith, n, a.place, a.within)) in
      let e : later - at - 1 - off ≡ later - argument = omega (arith, n, a.place) in
      let e' : place + suc off ≡ place + (argument - at) = omega (arith, n, a.place) in
      subst (λ z. IsFollowed (system_of values rules) w o whole (nth_subtree t argument) (later - argument) z) e' (subst (λ z. IsFollowed (system_of values rules) w o whole (nth_subtree t argument) z (place + suc off)) e x)
