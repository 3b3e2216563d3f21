use Rattle.std.proofs.Common.{sym, arith, length, ◌≤◌}
use Rattle.std.specs.Prelude.{nat_eq}
use Rattle.std.specs.List.{AllByRecursion}
use Rattle.std.proofs.lemmas.Option.{slice_get_within, get_or_from_slice_get}
use Rattle.indexmap.specs.IndexMap.{get}
use Rattle.eq_base.proofs.Lists.{all_contained}
use Rattle.eq_base.specs.Testing.{IsPattern}
use Rattle.def_file.proofs.Pairs.{one_more, related_all, length-related}
use Rattle.def_file.specs.declared.definitions.Qualifier.{Qualifier}
use Rattle.qualifiers.proofs.Edges.{listed_at, HasFollowers, graph_edges}
use Rattle.qualifiers.proofs.graph.graph_of.Goals as goal

pub followers_of-requires : goal.followers_of-requires
followers_of-requires c =
    let q = c.get.result.now in
    all_contained (λ (q : Qualifier). AllByRecursion IsPattern q.choices) c.args.qualifiers.now q c.requires.patterns (listed_at c.args.qualifiers.now c.loop-i.i q c.get.ensures)

pub loop-i-preserved : goal.loop-i-preserved
loop-i-preserved c =
    let qs = c.args.qualifiers.now in
    let q = c.get.result.now in
    let i = c.loop-i.i in
    one_more (HasFollowers (get nat_eq c.args.places.now)) qs i q q (sym (get_or_from_slice_get qs i q q c.get.ensures)) (slice_get_within qs i q c.get.ensures) c.loop-i.graph.items c.push.new.self.items c.in_ok-followers.followers c.in_ok-push.ensures.items c.loop-i.invariant c.in_ok-followers.ensures

pub returns-clause-len : goal.returns-clause-len
returns-clause-len c =
    let R = HasFollowers (get nat_eq c.args.places.now) in
    let qs = c.args.qualifiers.now in
    let le : length qs ≤ c.loop-i.i = omega (arith, c.loop-i-test.false, c.len-i-end.ensures) in
    sym (length-related R qs c.loop-i.graph.items (related_all R qs c.loop-i.i le c.loop-i.graph.items c.loop-i.invariant))

pub returns-clause-edges : goal.returns-clause-edges
returns-clause-edges c =
    let R = HasFollowers (get nat_eq c.args.places.now) in
    let qs = c.args.qualifiers.now in
    let le : length qs ≤ c.loop-i.i = omega (arith, c.loop-i-test.false, c.len-i-end.ensures) in
    graph_edges qs (get nat_eq c.args.places.now) c.loop-i.graph.items c.requires.places (related_all R qs c.loop-i.i le c.loop-i.graph.items c.loop-i.invariant)
