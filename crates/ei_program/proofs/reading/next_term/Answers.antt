use Rattle.std.proofs.Common.{subst}
use Rattle.std.proofs.lemmas.Result.{IfOk-weaker}
use Rattle.symbol_table.specs.Table.{names_of}
use Rattle.ei_program.specs.Reading.{Goes, SkipsTo, IsThing, ComesNext}
use Rattle.ei_program.proofs.Things.{end_behind_gap, thing_behind_gap}
use Rattle.ei_program.proofs.reading.next_term.Goals as goal

pub returns-then-branch-clause-goes : goal.returns-then-branch-clause-goes
returns-then-branch-clause-goes g c =
    let a = g.I.Source.left c.args.input.now in
    let b = g.I.Source.left c.skip_gap.new.input in
    let left = g.I.Source.left c.next_thing.new.input in
    let names = names_of c.args.symbols.now in
    let old = c.args.stream.now in
    let mid = c.skip_gap.new.stream in
    let new = c.next_thing.new.stream in
    let table = c.next_thing.new.symbols in
    let stands = subst (λ s. Goes a b old mid (SkipsTo s old mid)) c.if-branch.true c.in_ok-skip_gap.ensures.goes in
    IfOk-weaker c.next_thing.result (λ next. Goes b left mid new (IsThing c.args.syntax names table mid new next)) (λ next. Goes a left old new (ComesNext c.args.syntax names table old new left next))
    (λ next thing. thing_behind_gap c.args.syntax names c.has_one_number_each.ensures.distinct.names table a b old left mid new c.in_ok-skip_gap.ensures.count.limit c.next_thing.ensures.count.limit stands next thing)
    c.next_thing.ensures.goes

pub returns-else-branch-clause-goes : goal.returns-else-branch-clause-goes
returns-else-branch-clause-goes g c =
    let a = g.I.Source.left c.args.input.now in
    let b = g.I.Source.left c.skip_gap.new.input in
    let old = c.args.stream.now in
    let new = c.skip_gap.new.stream in
    let nothing = subst (λ s. Goes a b old new (SkipsTo s old new)) c.if-branch.false c.in_ok-skip_gap.ensures.goes in
    end_behind_gap c.args.syntax (names_of c.args.symbols.now) c.has_one_number_each.ensures.distinct.names c.args.symbols.now a b old new c.in_ok-skip_gap.ensures.count.limit nothing c.end_behind.result c.end_behind.ensures.whole c.end_behind.ensures.long
