use Rattle.std.proofs.Common.{arith, sym, subst, ◌<◌, ◌≡◌}
use Rattle.std.proofs.lemmas.Result.{on_ok_weaker}
use Rattle.eq_base.specs.Tree.{arity_of}
use Rattle.symbol_table.specs.Reading.{read_system}
use Rattle.term_graph.specs.Graph.{term_at}
use Rattle.match_tables.specs.Answering.{IsWanted}
use Rattle.machine_laws.specs.Places.{among}
use Rattle.reducer.specs.Standing.{IsReadAmong}
use Rattle.reducer.specs.Turning.{LeadsOn}
use Rattle.reducer.proofs.Passed.{none_behind, some_behind}
use Rattle.reducer.proofs.machine.Machine.go_among.Goals as goal

pub returns-then-at-arity : goal.returns-then-at-arity
returns-then-at-arity c = λ table one rules live tabled outer inner l before behind items is.
    let all : c.args.at.next ≡ arity_of (term_at c.args.store.now c.args.at.node) = omega (arith, c.if-at-arity.true, c.arity.ensures.value) in
    let none = none_behind c.args.store.now c.args.at.node c.args.at.next l before behind is.is_among all in
    subst (λ z. LeadsOn (read_system table rules) table c.args.tables.now.sets c.args.store.now.trees c.go_back.new.self (among outer inner l before z items)) (sym none)
    (c.go_back.ensures (read_system table rules) table c.args.tables.now.sets c.args.store.now.trees outer inner l before items
    (subst (λ z. IsReadAmong c.args.store.now.trees c.args.tables.now.sets c.args.self.now c.args.at c.args.state outer inner l before z items) none is))

pub returns-in-Read : goal.returns-in-Read
returns-in-Read c =
    let lt : c.args.at.next < arity_of (term_at c.args.store.now c.args.at.node) = omega (arith, c.if-at-arity.false, c.arity.ensures.value, c.requires.passed) in
    on_ok_weaker c.go_into.result
    (λ leads table one rules live tabled outer inner l before behind items is.
    some_behind c.args.store.now c.args.at.node c.args.at.next l before
    (λ z. IsReadAmong c.args.store.now.trees c.args.tables.now.sets c.args.self.now c.args.at c.args.state outer inner l before z items → LeadsOn (read_system table rules) table c.args.tables.now.sets c.args.store.now.trees c.go_into.new.self (among outer inner l before z items))
    lt (λ t rest here. leads (read_system table rules) table c.args.tables.now.sets outer inner l before rest t items here
    ((c.sets_are_read.ensures.wants_read table one rules live items).0 (subst (IsWanted rules items) c.in-Read.is (c.wants.ensures rules tabled items here.set)))) behind is.is_among is)
    c.go_into.ensures

pub returns-in-Skip : goal.returns-in-Skip
returns-in-Skip c = λ table one rules live tabled outer inner l before behind items is.
    let lt : c.args.at.next < arity_of (term_at c.args.store.now c.args.at.node) = omega (arith, c.if-at-arity.false, c.arity.ensures.value, c.requires.passed) in
    some_behind c.args.store.now c.args.at.node c.args.at.next l before
    (λ z. IsReadAmong c.args.store.now.trees c.args.tables.now.sets c.args.self.now c.args.at c.args.state outer inner l before z items → LeadsOn (read_system table rules) table c.args.tables.now.sets c.args.store.now.trees c.skip.new.self (among outer inner l before z items))
    lt (λ t rest here. c.skip.ensures table one rules live tabled c.args.store.now.trees outer inner l before rest t items here (subst (IsWanted rules items) c.in-Skip.is (c.wants.ensures rules tabled items here.set))) behind is.is_among is

pub returns-in-Nothing : goal.returns-in-Nothing
returns-in-Nothing c = λ table one rules live tabled outer inner l before behind items is.
    c.end_reading.ensures (read_system table rules) table c.args.tables.now.sets c.args.store.now.trees c.args.at c.args.state outer inner l before behind items is
    (subst (IsWanted rules items) c.in-Nothing.is (c.wants.ensures rules tabled items is.set))
