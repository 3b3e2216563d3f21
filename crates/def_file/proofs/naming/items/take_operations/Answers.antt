use Rattle.std.proofs.Common.{◌≡◌, ◌∷◌, [], Err, rules, map, drop, ap, get_or, subst, ◌+◌, ℕ, List, sym, refl}
use Rattle.std.proofs.lemmas.List.{drop_all}
use Rattle.eq_base.specs.declared.rules.Op.{Op}
use Rattle.term_lex.specs.declared.token.Token.{Token}
use Rattle.def_file.specs.Names.{Operation, token_bytes}
use Rattle.def_file.specs.Operations.{operation_name}
use Rattle.def_file.specs.Pairs.{AreRelated}
use Rattle.def_file.proofs.Pairs.{one_more, related_all}
use Rattle.def_file.specs.Naming.{ArePlaced, knowing}
use Rattle.def_file.proofs.Namings.{no_token, drop-next, none_taken, more_taken, one_refused, all_taken, taking_refused}
use Rattle.def_file.specs.Notations.{notation_of}
use Rattle.def_file.proofs.naming.items.take_operations.Goals as goal

-- the equation class of a name, and the first byte of the name
abbrev Named : List ℕ → Token → Op × ℕ → Type 0
Named text name o = (token_bytes text name ≡ operation_name o.0) × (o.1 ≡ name.from)

pub loop-name-init : goal.loop-name-init
loop-name-init c = record { under_way = λ syntax variables. none_taken (notation_of syntax) c.args.text.now _ _; operations = subst (AreRelated (Named c.args.text.now) []) (sym c.new-taken.ensures.items) tt; placed = c.requires.placed }

pub take_operation-requires : goal.take_operation-requires
take_operation-requires c =
    let next = ap (map Operation) (drop-next c.args.names.now c.loop-name.name-index no_token c.loop-name-test.true) in
    record { placed = (subst (ArePlaced c.args.text.now) next c.loop-name.invariant.placed).0 }

pub returns-in_err-op-clause-taking : goal.returns-in_err-op-clause-taking
returns-in_err-op-clause-taking c = λ syntax variables.
    let same : c.from_residual.result ≡ Err c.in_err-op.field-0.0 = search rules in
    let next = ap (map Operation) (drop-next c.args.names.now c.loop-name.name-index no_token c.loop-name-test.true) in
    taking_refused (notation_of syntax) c.args.text.now (knowing c.args.symbols.now variables c.args.operations.now.items) (knowing c.args.symbols.now variables c.take_operation.new.operations.items) (map Operation c.args.names.now) c.from_residual.result c.in_err-op.field-0.0 same (one_refused (notation_of syntax) c.args.text.now (knowing c.args.symbols.now variables c.args.operations.now.items) (knowing c.args.symbols.now variables c.loop-name.operations.items) (map Operation c.args.names.now) (map Operation (drop c.loop-name.name-index c.args.names.now)) (Operation (get_or c.args.names.now c.loop-name.name-index no_token) ∷ []) (map Operation (drop (c.loop-name.name-index + 1) c.args.names.now)) next (c.loop-name.invariant.under_way syntax variables) c.in_err-op.field-0.0 (c.in_err-op.ensures.taking syntax variables))

pub loop-name-preserved : goal.loop-name-preserved
loop-name-preserved c =
    let next = ap (map Operation) (drop-next c.args.names.now c.loop-name.name-index no_token c.loop-name-test.true) in
    record {
      under_way = λ syntax variables. more_taken (notation_of syntax) c.args.text.now (knowing c.args.symbols.now variables c.args.operations.now.items) (knowing c.args.symbols.now variables c.loop-name.operations.items) (map Operation c.args.names.now) (map Operation (drop c.loop-name.name-index c.args.names.now)) (Operation (get_or c.args.names.now c.loop-name.name-index no_token) ∷ []) (map Operation (drop (c.loop-name.name-index + 1) c.args.names.now)) next (c.loop-name.invariant.under_way syntax variables) (knowing c.args.symbols.now variables c.take_operation.new.operations.items) (c.in_ok-op.ensures.taking syntax variables);
      operations = one_more (Named c.args.text.now) c.args.names.now c.loop-name.name-index (get_or c.args.names.now c.loop-name.name-index no_token) no_token refl c.loop-name-test.true c.loop-name.taken.items c.push.new.self.items (c.in_ok-op.op, (get_or c.args.names.now c.loop-name.name-index no_token).from) c.in_ok-push.ensures.items c.loop-name.invariant.operations (c.in_ok-op.ensures.named, refl);
      placed = (subst (ArePlaced c.args.text.now) next c.loop-name.invariant.placed).1;
    }

pub returns-clause-taking : goal.returns-clause-taking
returns-clause-taking c = λ syntax variables. all_taken (notation_of syntax) c.args.text.now (knowing c.args.symbols.now variables c.args.operations.now.items) (knowing c.args.symbols.now variables c.loop-name.operations.items) (map Operation c.args.names.now) (map Operation (drop c.loop-name.name-index c.args.names.now)) (ap (map Operation) (drop_all c.loop-name.name-index c.args.names.now c.loop-name-test.false)) (c.loop-name.invariant.under_way syntax variables)

pub returns-clause-operations : goal.returns-clause-operations
returns-clause-operations c = related_all (Named c.args.text.now) c.args.names.now c.loop-name.name-index c.loop-name-test.false c.loop-name.taken.items c.loop-name.invariant.operations
