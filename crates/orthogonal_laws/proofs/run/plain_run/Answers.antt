use Rattle.std.proofs.Common.{◌<◌, List, arith, refl, sym, subst}
use Rattle.std.specs.Prelude.{Contains}
use Rattle.eq_base.specs.Tree.{nth_subtree}
use Rattle.eq_base.specs.Rewriting.{IsRedexBy, RootStepBy, IsNormal}
use Rattle.eq_base.specs.declared.meeting.SymbolClass.{SymbolClass}
use Rattle.eq_base.specs.declared.meeting.SymbolClass.TheVariants.{TruthValues}
use Rattle.eq_base.proofs.Trees.{size-map_heads}
use Rattle.symbol_table.specs.Reading.{read, read_head, read_system, AreLive}
use Rattle.symbol_table.proofs.Keeping.{keeps_refl, keeps_trans}
use Rattle.symbol_table.proofs.Rereading.{live_rules_kept, system_kept}
use Rattle.orthogonal_laws.specs.Operations.{AreTruthsKnown}
use Rattle.orthogonal_laws.specs.Next.{IsNextRedex}
use Rattle.orthogonal_laws.specs.Strategy.{PlainRun, start}
use Rattle.orthogonal_laws.specs.Stepping.{IsReadStep}
use Rattle.orthogonal_laws.proofs.FirstDemands.{next_from_one}
use Rattle.orthogonal_laws.proofs.ReadSystems.{read_well_formed, read_orthogonal}
use Rattle.orthogonal_laws.proofs.PlainRuns.{run_more, normal_end, spent_end}
use Rattle.orthogonal_laws.proofs.run.plain_run.Goals as goal

pub loop-term-init : goal.loop-term-init
loop-term-init c = record { keeps = keeps_refl c.args.symbols.now; live = c.requires.live_term; run = start; within = omega arith }

pub plain_next-requires-clause-live : goal.plain_next-requires-clause-live
plain_next-requires-clause-live c = live_rules_kept c.args.symbols.now c.loop-term.symbols c.loop-term.invariant.keeps c.args.regular.now c.requires.live

pub returns-in-Normal-clause-ok : goal.returns-in-Normal-clause-ok
returns-in-Normal-clause-ok c =
    let old = c.args.symbols.now in
    let rules = c.args.regular.now in
    let i = c.loop-term.invariant in
    let one = c.has_one_number_each.ensures.distinct in
    let normal = subst (λ system. IsNormal system (read c.loop-term.symbols c.loop-term.term)) (system_kept old c.loop-term.symbols i.keeps rules c.requires.live) (c.in-Normal.ensures.normal.0 refl) in
    normal_end (read_system old rules) (read_well_formed old one rules c.requires.live c.rules-rules.ensures.regular) (read_orthogonal old one rules c.requires.live c.rules-rules.ensures.regular)
    (read old c.args.term) c.args.budget c.loop-term.symbols c.loop-term.steps c.loop-term.term i.run normal i.within

pub returns-then-steps-budget-clause-ok : goal.returns-then-steps-budget-clause-ok
returns-then-steps-budget-clause-ok c =
    let old = c.args.symbols.now in
    let rules = c.args.regular.now in
    let i = c.loop-term.invariant in
    let one = c.has_one_number_each.ensures.distinct in
    let w = read_well_formed old one rules c.requires.live c.rules-rules.ensures.regular in
    let o = read_orthogonal old one rules c.requires.live c.rules-rules.ensures.regular in
    let here = read c.loop-term.symbols c.loop-term.term in
    let next = subst (λ system. IsNextRedex system here c.in-Redex.at c.in-Redex.equation) (system_kept old c.loop-term.symbols i.keeps rules c.requires.live) ((c.in-Redex.ensures.redex c.in-Redex.at c.in-Redex.equation).0 refl) in
    let run = subst (λ n. PlainRun (read_system old rules) (read old c.args.term) n here) c.if-steps-budget.true i.run in
    spent_end (read_system old rules) w o (read old c.args.term) c.args.budget c.loop-term.symbols c.loop-term.term run (next_from_one (read_system old rules) w o here c.in-Redex.at c.in-Redex.equation next)

pub step-requires-clause-truths : goal.step-requires-clause-truths
step-requires-clause-truths c =
    let known : AreTruthsKnown c.loop-term.symbols c.args.regular.now = λ e there op is compares. subst (λ (classes : List SymbolClass). Contains classes TruthValues) (sym c.loop-term.invariant.keeps.included) (c.requires.truths e there op is compares) in
    subst (λ rules. AreTruthsKnown c.loop-term.symbols rules) (sym c.rules-rules.ensures.value) known

pub step-requires-clause-live : goal.step-requires-clause-live
step-requires-clause-live c =
    subst (λ rules. AreLive c.loop-term.symbols rules) (sym c.rules-rules.ensures.value) (live_rules_kept c.args.symbols.now c.loop-term.symbols c.loop-term.invariant.keeps c.args.regular.now c.requires.live)

pub step-requires-clause-at : goal.step-requires-clause-at
step-requires-clause-at c = subst (λ z. c.in-Redex.at < z) (size-map_heads (read_head c.loop-term.symbols) c.loop-term.term) ((c.in-Redex.ensures.redex c.in-Redex.at c.in-Redex.equation).0 refl).there

pub step-requires-clause-redex : goal.step-requires-clause-redex
step-requires-clause-redex c =
    subst (λ rules. IsRedexBy (read_system c.loop-term.symbols rules) c.in-Redex.equation (nth_subtree (read c.loop-term.symbols c.loop-term.term) c.in-Redex.at)) (sym c.rules-rules.ensures.value)
    ((c.in-Redex.ensures.redex c.in-Redex.at c.in-Redex.equation).0 refl).first.redex

pub loop-term-preserved : goal.loop-term-preserved
loop-term-preserved c =
    let old = c.args.symbols.now in
    let rules = c.args.regular.now in
    let cur = c.loop-term.symbols in
    let new = c.step.new.symbols in
    let i = c.loop-term.invariant in
    let one = c.has_one_number_each.ensures.distinct in
    let here = read cur c.loop-term.term in
    let same = system_kept old cur i.keeps rules c.requires.live in
    let next = subst (λ system. IsNextRedex system here c.in-Redex.at c.in-Redex.equation) same ((c.in-Redex.ensures.redex c.in-Redex.at c.in-Redex.equation).0 refl) in
    let step = subst (λ rules. IsReadStep cur new rules c.loop-term.term c.in-Redex.at c.in-Redex.equation c.in_ok-term-in-Redex.term) c.rules-rules.ensures.value c.in_ok-term-in-Redex.ensures.ok in
    let by = subst (λ system. RootStepBy system c.in-Redex.equation (nth_subtree here c.in-Redex.at) step.contractum) same step.root_step in
    record {
      keeps = keeps_trans old cur new i.keeps c.step.ensures.keeps;
      live = step.live;
      run = run_more (read_system old rules) (read_well_formed old one rules c.requires.live c.rules-rules.ensures.regular) (read_orthogonal old one rules c.requires.live c.rules-rules.ensures.regular)
          (read old c.args.term) c.loop-term.steps c.in-Redex.at c.in-Redex.equation here (read new c.in_ok-term-in-Redex.term) step.contractum i.run next by step.result;
      within = omega arith;
    }
