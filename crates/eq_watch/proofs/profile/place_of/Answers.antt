use Rattle.std.proofs.Common.{rules, ℕ, ◌≡◌, ◌<◌, ◌≤◌, nat_lt, true, false, arith}
use Rattle.std.proofs.lemmas.Bool.Decides.{nat_tests}
use Rattle.std.proofs.lemmas.List.Sorted.{IsPartitionPoint-from_clause, IsPartitionedBy-ltb}
use Rattle.eq_watch.specs.declared.profile.Used.{Used}
use Rattle.eq_watch.proofs.profile.place_of.Goals as goal

is_less : (a b : ℕ) → nat_lt a b ≡ true → a < b
is_less a b h = grind (arith, nat_tests)

is_not_less : (a b : ℕ) → nat_lt a b ≡ false → b ≤ a
is_not_less a b h = grind (arith, nat_tests)

pub returns-clause-place : goal.returns-clause-place
returns-clause-place c =
    let parted = IsPartitionedBy-ltb (λ (u : Used). u.equation) c.args.all.now c.args.equation c.requires in
    let point = IsPartitionPoint-from_clause (λ (u : Used). nat_lt u.equation c.args.equation) _ _ c.partition_point.ensures.partitioned parted (λ a r q k. search rules) in
    (λ k d low high. is_less _ _ (point.0 k d low high), λ k d low high. is_not_less _ _ (point.1 k d low high))
