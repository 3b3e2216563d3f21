-- How the counts of equations move.
use Rattle.std.proofs.Common.{◌≡◌, ℕ, zero, suc, ◌<◌, ◌≤◌, List, [], ◌∷◌, length, get_or, set, sym, ap, ◌∙◌, arith}
use Rattle.std.specs.List.{insert}
use Rattle.std.proofs.lemmas.Bool.Decides.{nat_tests}
use Rattle.eq_watch.specs.declared.profile.Used.{Used}
use Rattle.eq_watch.specs.Counting.{sum_up_to_last}
use Rattle.eq_watch.specs.Profiling.{used_again}
use Rattle.eq_watch.specs.Using.{counts_of}

-- an equation that stands at its place is counted once more
pub used_again-set : (all : List Used) (i equation : ℕ) (read was now : Used) → i < length all
    → ((k : ℕ) (d : Used) → k < i → (get_or all k d).equation < equation)
    → read ≡ get_or all i read → read.equation ≡ equation → was ≡ get_or all i was
    → now.equation ≡ equation → now.times ≡ sum_up_to_last was.times 1
    → counts_of (set all i now) ≡ used_again (counts_of all) equation
used_again-set [] i equation read was now within below same found here kept times = absurd (omega arith)
used_again-set (first ∷ rest) zero equation read was now within below same found here kept times =
    let e : first.equation ≡ equation = ap (λ (u : Used). u.equation) (sym same) ∙ found in
    let t : now.times ≡ sum_up_to_last first.times 1 = times ∙ ap (λ (u : Used). sum_up_to_last u.times 1) here in
    grind (arith, nat_tests, e, t, kept)
used_again-set (first ∷ rest) (suc i) equation read was now within below same found here kept times =
    let e : first.equation < equation = below 0 first (omega arith) in
    let more = used_again-set rest i equation read was now (omega arith) (λ k d h. below (suc k) d (omega arith)) same found here kept times in
    grind (arith, nat_tests, e, more)

-- an equation that stands nowhere is counted from its place on
pub used_again-insert : (all : List Used) (i equation : ℕ) (now : Used) → i ≤ length all
    → ((k : ℕ) (d : Used) → k < i → (get_or all k d).equation < equation)
    → ((d : Used) → i < length all → equation < (get_or all i d).equation)
    → now.equation ≡ equation → now.times ≡ 1
    → counts_of (insert all i now) ≡ used_again (counts_of all) equation
used_again-insert [] zero equation now within below above kept times = grind (arith, kept, times)
used_again-insert [] (suc i) equation now within below above kept times = absurd (omega arith)
used_again-insert (first ∷ rest) zero equation now within below above kept times =
    let e : equation < first.equation = above first (omega arith) in
    grind (arith, nat_tests, e, kept, times)
used_again-insert (first ∷ rest) (suc i) equation now within below above kept times =
    let e : first.equation < equation = below 0 first (omega arith) in
    let more = used_again-insert rest i equation now (omega arith) (λ k d h. below (suc k) d (omega arith)) (λ d h. above d (omega arith)) kept times in
    grind (arith, nat_tests, e, more)
