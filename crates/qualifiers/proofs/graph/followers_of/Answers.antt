use Rattle.std.proofs.Common.{ℕ, List, take, sym, subst, arith}
use Rattle.std.specs.Prelude.{nat_eq, Contains, ◌↔◌}
use Rattle.std.specs.List.{flat_map}
use Rattle.std.proofs.lemmas.List.{take_all}
use Rattle.std.proofs.lemmas.Option.{slice_get_within, get_or_from_slice_get}
use Rattle.indexmap.specs.IndexMap.{get}
use Rattle.eq_base.proofs.Lists.{all_contained}
use Rattle.eq_base.specs.Tree.{Tree}
use Rattle.eq_base.specs.Pattern.{PatternCell, variables}
use Rattle.eq_base.specs.Testing.{IsPattern}
use Rattle.eq_base.specs.declared.head.Head.{Head}
use Rattle.def_file.proofs.Pairs.{flat_next}
use Rattle.qualifiers.specs.Leading.{IsPlaceAmong}
use Rattle.qualifiers.proofs.Edges.{listed_at, collected_all}
use Rattle.qualifiers.proofs.graph.followers_of.Goals as goal

pub add_followers-requires : goal.add_followers-requires
add_followers-requires c =
    let a = c.get.result.now in
    all_contained IsPattern c.args.choices.now a c.requires (listed_at c.args.choices.now c.loop-i.i a c.get.ensures)

pub loop-i-preserved : goal.loop-i-preserved
loop-i-preserved c =
    let as' = c.args.choices.now in
    let a = c.get.result.now in
    let i = c.loop-i.i in
    let place = get nat_eq c.args.places.now in
    let new = c.add_followers.new.followers.items in
    let next = flat_next variables as' i a a (sym (get_or_from_slice_get as' i a a c.get.ensures)) (slice_get_within as' i a c.get.ensures) in
    subst (λ (xs : List ℕ). (j : ℕ) → Contains new j ↔ IsPlaceAmong place xs j) (sym next)
    (collected_all place c.loop-i.followers.items new (flat_map variables (take i as')) (variables a) c.loop-i.invariant c.in_ok-add_followers.ensures)

pub returns : goal.returns
returns c =
    let as' = c.args.choices.now in
    subst (λ (l : List (Tree (PatternCell Head))). (j : ℕ) → Contains c.loop-i.followers.items j ↔ IsPlaceAmong (get nat_eq c.args.places.now) (flat_map variables l) j)
    (take_all c.loop-i.i as' (omega (arith, c.loop-i-test.false, c.len-i-end.ensures))) c.loop-i.invariant
