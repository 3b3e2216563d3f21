use Rattle.std.proofs.Common.{ℕ, ◌≤◌, refl, sym, ◌∙◌, subst, arith, below_more}
use Rattle.std.specs.Prelude.{All}
use Rattle.std.proofs.lemmas.Bool.{false≢true}
use Rattle.std.proofs.lemmas.Option.{slice_get_within}
use Rattle.qualifiers.specs.Graphs.{Follows, level_at}
use Rattle.qualifiers.proofs.Searching.{read_at}
use Rattle.qualifiers.proofs.Falling.{of_follower, of_followers}
use Rattle.qualifiers.proofs.levels.are_falling.Goals as goal

pub returns-then-not-are_not_higher : goal.returns-then-not-are_not_higher
returns-then-not-are_not_higher c = (
  λ e. absurd (false≢true e),
  λ falling.
      let graph = c.args.graph.now in
      let levels = c.args.levels.now in
      let i = c.loop-place.place in
      let n = c.number_at.result in
      let at = read_at graph i c.index-graph-place.result c.index-graph-place.is (omega arith) in
      let all = of_followers graph levels (λ j. level_at levels j ≤ n) i c.index-graph-place.result at (λ j h. omega (arith, falling i j h, c.number_at.ensures)) in
      absurd (false≢true (sym c.if-not-are_not_higher.true ∙ c.are_not_higher.ensures.1 (subst (All (λ (j : ℕ). level_at levels j ≤ n)) (sym c.deref.ensures.value) all))),
)

pub loop-place-preserved : goal.loop-place-preserved
loop-place-preserved c =
    let graph = c.args.graph.now in
    let levels = c.args.levels.now in
    let i = c.loop-place.place in
    let n = c.number_at.result in
    let at = read_at graph i c.index-graph-place.result c.index-graph-place.is (omega arith) in
    let all = subst (All (λ (j : ℕ). level_at levels j ≤ n)) c.deref.ensures.value (c.are_not_higher.ensures.0 c.if-not-are_not_higher.false) in
    below_more (λ k. (j : ℕ) → Follows graph k j → level_at levels j ≤ level_at levels k) i c.loop-place.invariant
    (λ j h. omega (arith, of_follower graph levels (λ j. level_at levels j ≤ n) i c.index-graph-place.result at all j h, c.number_at.ensures))

pub returns : goal.returns
returns c = (
  λ _ i j h. c.loop-place.invariant i (omega (arith, slice_get_within c.args.graph.now i h.followers h.listed, c.loop-place-test.false)) j h,
  λ _. refl,
)
