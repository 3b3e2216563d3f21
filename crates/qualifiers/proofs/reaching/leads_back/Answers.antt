use Rattle.std.proofs.Common.{ℕ, List, [], false, ◌≡◌, ◌<◌, ◌∷◌, length, sym, refl, ◌∙◌, subst, arith, rules}
use Rattle.std.specs.Prelude.{All}
use Rattle.std.proofs.lemmas.List.{get_or_default}
use Rattle.qualifiers.specs.Graphs.{Sees}
use Rattle.qualifiers.proofs.Searching.{none_seen, read_at, all_within, popped_within, begun, gone_on, all_reached}
use Rattle.qualifiers.proofs.reaching.leads_back.Goals as goal

pub see-requires : goal.see-requires
see-requires c =
    let at = read_at c.args.graph.now c.args.start c.index-graph-start.result c.index-graph-start.is c.requires.start in
    subst (All (λ (j : ℕ). j < length c.in_ok-vec.field-0.items)) (sym c.deref.ensures.value)
    (all_within c.args.graph.now c.args.start (length c.in_ok-vec.field-0.items) c.index-graph-start.result at c.requires.within (omega (arith, c.in_ok-vec.field-0.ok.0, c.in_ok-vec.ensures.len)))

pub loop-place-init : goal.loop-place-init
loop-place-init c =
    let at = read_at c.args.graph.now c.args.start c.index-graph-start.result c.index-graph-start.is c.requires.start in
    let seen = c.in_ok-vec.field-0.items in
    let new = c.see.new.self.seen.items in
    let later = c.see.new.self.pending.items in
    begun c.args.graph.now c.args.start c.index-graph-start.result seen new c.new.result.items later at (omega (arith, c.in_ok-vec.field-0.ok.0, c.in_ok-vec.ensures.len))
    (none_seen seen (length c.args.graph.now) (c.in_ok-vec.ensures.items_if_clones_equal (λ y e. e)))
    c.new.ensures.items
    (subst (λ (ps : List ℕ). Sees ps seen new c.new.result.items later) c.deref.ensures.value c.in_ok-see.ensures)

pub bounds-graph-place : goal.bounds-graph-place
bounds-graph-place c = popped_within c.args.graph.now c.args.start c.in-Some.place c.loop-place.search.seen.items c.loop-place.search.pending.items c.pop.new.self.items c.requires.within c.loop-place.invariant c.in-Some.ensures.items

pub offset_bounds-graph-place : goal.offset_bounds-graph-place
offset_bounds-graph-place c =
    let below : c.in-Some.place < length c.args.graph.now = popped_within c.args.graph.now c.args.start c.in-Some.place c.loop-place.search.seen.items c.loop-place.search.pending.items c.pop.new.self.items c.requires.within c.loop-place.invariant c.in-Some.ensures.items in
    search rules

pub see-requires-in-Some : goal.see-requires-in-Some
see-requires-in-Some c =
    let graph = c.args.graph.now in
    let seen = c.loop-place.search.seen.items in
    let below = popped_within graph c.args.start c.in-Some.place seen c.loop-place.search.pending.items c.pop.new.self.items c.requires.within c.loop-place.invariant c.in-Some.ensures.items in
    let at = read_at graph c.in-Some.place c.index-graph-place.result c.index-graph-place.is below in
    subst (All (λ (j : ℕ). j < length seen)) (sym c.deref-in-Some.ensures.value)
    (all_within graph c.in-Some.place (length seen) c.index-graph-place.result at c.requires.within c.loop-place.invariant.long)

pub loop-place-preserved : goal.loop-place-preserved
loop-place-preserved c =
    let graph = c.args.graph.now in
    let seen = c.loop-place.search.seen.items in
    let pending = c.loop-place.search.pending.items in
    let rest = c.pop.new.self.items in
    let new = c.see-in-Some.new.self.seen.items in
    let later = c.see-in-Some.new.self.pending.items in
    let below = popped_within graph c.args.start c.in-Some.place seen pending rest c.requires.within c.loop-place.invariant c.in-Some.ensures.items in
    let at = read_at graph c.in-Some.place c.index-graph-place.result c.index-graph-place.is below in
    gone_on graph c.args.start c.in-Some.place c.index-graph-place.result seen new pending rest later c.loop-place.invariant c.in-Some.ensures.items at
    (subst (λ (ps : List ℕ). Sees ps seen new rest later) c.deref-in-Some.ensures.value c.in_ok-see-2.ensures)

no_places : (ps : List ℕ) → length ps ≡ 0 → ps ≡ []
no_places [] e = refl
no_places (p ∷ ps) e = absurd (omega arith)

pub returns : goal.returns
returns c =
    let i = c.loop-place.invariant in
    let seen = c.loop-place.search.seen.items in
    let pending = c.loop-place.search.pending.items in
    let b = c.index.result.now in
    let lt : c.args.start < length seen = omega (arith, i.long, c.requires.start) in
    let empty = no_places pending (omega (arith, c.loop-place.search.pending.ok.0, (rw c.in_default.is at c.pop.ensures.cases).0)) in (
      λ is. i.reached c.args.start (get_or_default seen c.args.start false b lt ∙ sym c.index.ensures ∙ is),
      λ leads. c.index.ensures ∙ get_or_default seen c.args.start b false lt ∙ all_reached c.args.graph.now c.args.start seen pending i empty c.args.start leads,
    )
