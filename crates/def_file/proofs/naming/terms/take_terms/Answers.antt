use Rattle.std.proofs.Common.{◌≡◌, ◌∷◌, [], Err, rules, map, ap, get_or, subst, sym, refl}
use Rattle.std.proofs.lemmas.List.{drop_all}
use Rattle.symbol_table.proofs.Keeping.{keeps_refl, keeps_trans}
use Rattle.def_file.specs.Names.{Term}
use Rattle.def_file.specs.Naming.{ArePlaced, knowing}
use Rattle.def_file.specs.Pairs.{AreRelated}
use Rattle.def_file.specs.Taking.{IsSideTaken}
use Rattle.def_file.proofs.Pairs.{one_more, related_all}
use Rattle.def_file.proofs.Namings.{drop-next, none_taken, more_taken, one_refused, all_taken, taking_refused}
use Rattle.def_file.specs.Notations.{notation_of}
use Rattle.def_file.proofs.naming.terms.take_terms.Goals as goal

pub loop-byte-init : goal.loop-byte-init
loop-byte-init c = record { under_way = λ operations. none_taken (notation_of c.args.syntax) c.args.text.now _ _; placed = c.requires.placed; keeps = keeps_refl _; patterns = λ later operations k. subst (AreRelated (IsSideTaken (notation_of c.args.syntax) c.args.text.now (knowing later c.args.listed.now operations) later) []) (sym c.new-patterns.ensures.items) tt }

pub take_term-requires : goal.take_term-requires
take_term-requires c =
    let next = ap (map Term) (drop-next c.args.terms.now c.loop-byte.byte-index 0 c.loop-byte-test.true) in
    record { placed = (subst (ArePlaced c.args.text.now) next c.loop-byte.invariant.placed).0 }

pub returns-in_err-pattern-clause-taking : goal.returns-in_err-pattern-clause-taking
returns-in_err-pattern-clause-taking c = λ operations.
    let same : c.from_residual.result ≡ Err c.in_err-pattern.field-0.0 = search rules in
    let next = ap (map Term) (drop-next c.args.terms.now c.loop-byte.byte-index 0 c.loop-byte-test.true) in
    taking_refused (notation_of c.args.syntax) c.args.text.now _ _ _ _ c.in_err-pattern.field-0.0 same (one_refused (notation_of c.args.syntax) c.args.text.now _ (knowing c.loop-byte.symbols c.args.listed.now operations) _ _ (Term (get_or c.args.terms.now c.loop-byte.byte-index 0) ∷ []) _ next (c.loop-byte.invariant.under_way operations) c.in_err-pattern.field-0.0 (c.in_err-pattern.ensures.taking operations))

pub returns-in_err-pattern-clause-keeps : goal.returns-in_err-pattern-clause-keeps
returns-in_err-pattern-clause-keeps c = keeps_trans _ _ _ c.loop-byte.invariant.keeps c.take_term.ensures.keeps

pub returns-in_err-push-clause-keeps : goal.returns-in_err-push-clause-keeps
returns-in_err-push-clause-keeps c = keeps_trans _ _ _ c.loop-byte.invariant.keeps c.take_term.ensures.keeps

pub loop-byte-preserved : goal.loop-byte-preserved
loop-byte-preserved c =
    let next = ap (map Term) (drop-next c.args.terms.now c.loop-byte.byte-index 0 c.loop-byte-test.true) in
    record {
      under_way = λ operations. more_taken (notation_of c.args.syntax) c.args.text.now _ (knowing c.loop-byte.symbols c.args.listed.now operations) _ _ (Term (get_or c.args.terms.now c.loop-byte.byte-index 0) ∷ []) _ next (c.loop-byte.invariant.under_way operations) _ (c.in_ok-pattern.ensures.taking operations);
      placed = (subst (ArePlaced c.args.text.now) next c.loop-byte.invariant.placed).1;
      keeps = keeps_trans _ _ _ c.loop-byte.invariant.keeps c.take_term.ensures.keeps;
      patterns = λ later operations k. one_more (IsSideTaken (notation_of c.args.syntax) c.args.text.now (knowing later c.args.listed.now operations) later) c.args.terms.now c.loop-byte.byte-index (get_or c.args.terms.now c.loop-byte.byte-index 0) 0 refl c.loop-byte-test.true c.loop-byte.patterns.items c.push.new.self.items c.in_ok-pattern.pattern c.in_ok-push.ensures.items (c.loop-byte.invariant.patterns later operations (keeps_trans _ _ _ c.take_term.ensures.keeps k)) (c.in_ok-pattern.ensures.pattern later operations k);
    }

pub returns-clause-taking : goal.returns-clause-taking
returns-clause-taking c = λ operations. all_taken (notation_of c.args.syntax) c.args.text.now _ _ _ _ (ap (map Term) (drop_all c.loop-byte.byte-index c.args.terms.now c.loop-byte-test.false)) (c.loop-byte.invariant.under_way operations)

pub returns-clause-patterns : goal.returns-clause-patterns
returns-clause-patterns c = λ later operations k. related_all (IsSideTaken (notation_of c.args.syntax) c.args.text.now (knowing later c.args.listed.now operations) later) c.args.terms.now c.loop-byte.byte-index c.loop-byte-test.false c.loop-byte.patterns.items (c.loop-byte.invariant.patterns later operations k)
