-- Nodes on a way down that came to no redex have no demanded redex.
use Rattle.std.proofs.Common.{◌≡◌, ℕ, suc, ◌+◌, ◌-◌, ◌<◌, ◌≤◌, [], Some, refl, subst, arith, max}
use Rattle.eq_base.specs.Tree.{Tree, node, args_of, size, total_size, nth_subtree, subtree_in}
use Rattle.eq_base.specs.Storing.{first_trees}
use Rattle.eq_base.specs.declared.head.Head.{Head}
use Rattle.eq_base.specs.RuleList.{RuleList}
use Rattle.orthogonal_laws.specs.Matching.{IsLastFailure}
use Rattle.orthogonal_laws.specs.Demanded.{IsArgumentToward}
use Rattle.orthogonal_laws.specs.Operations.{Values}
use Rattle.eq_base.specs.Rules.{system_of}
use Rattle.orthogonal_laws.specs.Orthogonal.{IsWellFormedSystem, IsOrthogonal}
use Rattle.orthogonal_laws.specs.Strategy.{HasNoDemandedRedex}
use Rattle.orthogonal_laws.proofs.Matchers.{Matcher, Stop, tree}
use Rattle.orthogonal_laws.proofs.Sequential.{Apart, beside_stop_left, Guarded, guarded_stop}
use Rattle.orthogonal_laws.proofs.Walks.{quiet_stop}
use Rattle.orthogonal_laws.proofs.Joins.{join-guarded}
use Rattle.orthogonal_laws.proofs.DecisionTrees.{regular-compiles, regular-sequential}
use Rattle.orthogonal_laws.proofs.ReadPositions.{regular-reads}
use Rattle.orthogonal_laws.proofs.Strategies.{quiet-no_demand, no_demand-quiet}
use Rattle.orthogonal_laws.proofs.Redexes.{compiled}
use Rattle.orthogonal_laws.proofs.Regularity.{orthogonal-regular}
use Rattle.orthogonal_laws.proofs.Stepping.{stands-at}
use Rattle.orthogonal_laws.proofs.NextRedexes.{no_demand-to, no_demand-from}
use Rattle.orthogonal_laws.proofs.Reaching.{Reaches, reaches_none, reaches-bound}
use Rattle.orthogonal_laws.proofs.JoinedWalks.{both_quiet, descend}
use Rattle.orthogonal_laws.proofs.Failures.{last_reaches}
use Rattle.orthogonal_laws.proofs.Followed.{IsLater, IsQuiet, own, later_reaches}
use Rattle.eq_base.proofs.Arguments.{place_of}
use Rattle.orthogonal_laws.proofs.Descending.{size_args, argument_in, later_of}

module _ (values : Values) (rules : RuleList) (w : IsWellFormedSystem (system_of values rules)) (o : IsOrthogonal (system_of values rules)) where
  -- left sides above the node are still met there and fail last at another, and neither they nor those at the node find a redex below
  pub record IsResting (s : Tree Head) (n : ℕ) : Type 0 where
    pub matcher : Matcher Head
    pub reaches : Reaches matcher (args_of s) n
    pub guarded : Guarded (tree (compiled (system_of values rules) w)) matcher
    pub apart : Apart matcher (own (system_of values rules) w o s)
    pub quiet : IsQuiet (system_of values rules) w o matcher (args_of s)
    pub none : HasNoDemandedRedex (system_of values rules) s

  pub resting_start : (s : Tree Head) → HasNoDemandedRedex (system_of values rules) s → IsResting s 0
  resting_start s none = record { matcher = Stop; reaches = reaches_none refl; guarded = guarded_stop; apart = beside_stop_left; quiet = quiet_stop; none = none }

  own_quiet : (s : Tree Head) → HasNoDemandedRedex (system_of values rules) s → IsQuiet (system_of values rules) w o (own (system_of values rules) w o s) (args_of s)
  own_quiet (node h args) none =
      let regular = orthogonal-regular (system_of values rules) w o in
      (no_demand-quiet (compiled (system_of values rules) w) (tree (compiled (system_of values rules) w)) (regular-compiles regular) (regular-reads regular) (no_demand-from (system_of values rules) w o none)).1

  -- the argument in which the last of them fails
  resting_below : (s t : Tree Head) (n m k i : ℕ) → IsResting s n → Reaches (own (system_of values rules) w o s) (args_of s) m → IsLater (system_of values rules) w o n m (suc k) → subtree_in (args_of s) i [] ≡ Some t →
      total_size (first_trees i (args_of s)) ≤ k → k < total_size (first_trees i (args_of s)) + size t → IsResting t (k - total_size (first_trees i (args_of s)))
  resting_below (node h ts) (node g us) n m k i r own_reaches later there low high =
      let system = system_of values rules in
      let regular = orthogonal-regular system w o in
      let rules = compiled system w in
      let d = descend rules (tree rules) (regular-compiles regular) ts (join-guarded (tree rules) r.guarded (regular-sequential regular (h, _))) (later_reaches system w o (node h ts) n m (suc k) r.matcher r.reaches r.apart own_reaches later) i g us (stands-at ts i [] g us there) low high in
      let q = d.quiet_there (both_quiet rules (tree rules) ts r.apart r.quiet (own_quiet (node h ts) r.none)) in
      record {
        matcher = d.matcher;
        reaches = d.reaches;
        guarded = d.guarded;
        apart = d.apart;
        quiet = q.2;
        none = no_demand-to system w o (quiet-no_demand rules (tree rules) (regular-compiles regular) (regular-reads regular) g us q.0 q.1);
      }

  module _ (t : Tree Head) (at last failing later : ℕ) (r : IsResting (nth_subtree t at) (last - at)) (failed : IsLastFailure rules (nth_subtree t at) (failing - at)) (low : at ≤ last) (low' : at ≤ failing) (is : later ≡ max last failing) where
    pub rests_within : later < at + size (nth_subtree t at)
    rests_within =
        let a = reaches-bound r.reaches in
        let b = reaches-bound (last_reaches values rules w o (nth_subtree t at) (failing - at) failed) in
        omega (arith, a, b, is, size_args (nth_subtree t at))

    pub resting_on : (argument : ℕ) → at < later → IsArgumentToward t at later argument → IsResting (nth_subtree t argument) (later - argument)
    resting_on argument lt a =
        let s = nth_subtree t at in
        let n = place_of s a.i (nth_subtree t argument) a.stands in
        let off = total_size (first_trees a.i (args_of s)) in
        let x =
        resting_below s (nth_subtree t argument) (last - at) (failing - at) (later - at - 1) a.i r (last_reaches values rules w o s (failing - at) failed)
        (later_of (last - at) (failing - at) (suc (later - at - 1)) (omega (arith, is))) (argument_in s a.i (nth_subtree t argument) a.stands) (omega (arith, n, a.place, a.before)) (omega (arith, n, a.place, a.within)) in
        let e : later - at - 1 - off ≡ later - argument = omega (arith, n, a.place) in
        subst (λ z. IsResting (nth_subtree t argument) z) e x

  pub rests_same : (t : Tree Head) (a b l m : ℕ) → a ≡ b → l ≡ m → IsResting (nth_subtree t a) (l - a) → IsResting (nth_subtree t b) (m - b)
  rests_same t a b l m e e' r = subst (λ z. IsResting (nth_subtree t b) (z - b)) e' (subst (λ z. IsResting (nth_subtree t z) (l - z)) e r)

  pub rests_alone : (t : Tree Head) (at from : ℕ) → from ≡ at → HasNoDemandedRedex (system_of values rules) (nth_subtree t at) → IsResting (nth_subtree t at) (from - at)
  rests_alone t at from e none = let z : 0 ≡ from - at = omega (arith, e) in subst (λ z. IsResting (nth_subtree t at) z) z (resting_start (nth_subtree t at) none)
