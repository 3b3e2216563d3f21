use Rattle.std.proofs.Common.{◌≡◌, inl, refl, rules, ◌∙◌, sym}
use Rattle.std.specs.Prelude.{Contains}
use Rattle.def_file.specs.Names.{token_bytes}
use Rattle.def_file.specs.Operations.{operation_name}
use Rattle.def_file.proofs.naming.operations.take_operation.Goals as goal

pub returns-then-contains-clause-taking : goal.returns-then-contains-clause-taking
returns-then-contains-clause-taking c = λ syntax variables.
    let here : Contains c.args.operations.now.items c.in-Some.op = search rules in
    let named : token_bytes c.args.text.now c.args.name ≡ operation_name c.in-Some.op = sym c.bytes_of.ensures ∙ c.in-Some.ensures in
    rw c.refused-then-contains.ensures (inl ((c.in-Some.op, named, here), refl))
