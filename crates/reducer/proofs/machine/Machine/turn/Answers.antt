use Rattle.std.proofs.Common.{arith, sym, subst, ◌<◌, ◌≡◌}
use Rattle.std.proofs.lemmas.Result.{on_ok_weaker}
use Rattle.eq_base.specs.Tree.{arity_of}
use Rattle.term_graph.specs.Graph.{term_at}
use Rattle.machine_laws.specs.Places.{turning}
use Rattle.reducer.specs.Standing.{IsTurning}
use Rattle.reducer.specs.Turning.{LeadsOn}
use Rattle.reducer.proofs.Passed.{none_behind, some_behind}
use Rattle.reducer.proofs.machine.Machine.turn.Goals as goal

pub returns-then-passed-arity-clause-turns : goal.returns-then-passed-arity-clause-turns
returns-then-passed-arity-clause-turns c = λ system table sets outer l before behind turns.
    let all : c.args.passed ≡ arity_of (term_at c.args.store.now c.args.number) = omega (arith, c.if-passed-arity.true, c.arity.ensures.value) in
    let none = none_behind c.args.store.now c.args.number c.args.passed l before behind turns.is_among all in
    subst (λ z. LeadsOn system table sets c.args.store.now.trees c.leave.new.self (turning outer l before z)) (sym none)
    (c.leave.ensures.turned system table sets c.args.store.now.trees c.args.passed outer l before
    (subst (λ z. IsTurning c.args.store.now.trees c.args.self.now c.args.number c.args.passed outer l before z) none turns))

pub returns-else-passed-arity-clause-turns : goal.returns-else-passed-arity-clause-turns
returns-else-passed-arity-clause-turns c =
    let lt : c.args.passed < arity_of (term_at c.args.store.now c.args.number) = omega (arith, c.if-passed-arity.false, c.arity.ensures.value, c.requires.passed) in
    on_ok_weaker c.turn_down.result
    (λ leads system table sets outer l before behind turns.
    some_behind c.args.store.now c.args.number c.args.passed l before
    (λ z. IsTurning c.args.store.now.trees c.args.self.now c.args.number c.args.passed outer l before z → LeadsOn system table sets c.args.store.now.trees c.turn_down.new.self (turning outer l before z))
    lt (λ t rest is. leads system table sets outer l before rest t is) behind turns.is_among turns)
    c.turn_down.ensures
