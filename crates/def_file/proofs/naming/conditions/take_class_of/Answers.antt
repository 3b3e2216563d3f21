use Rattle.std.proofs.Common.{inr, refl, subst, ◌-◌}
use Rattle.std.specs.Prelude.{Contains}
use Rattle.def_file.proofs.Namings.{contains_at}
use Rattle.def_file.proofs.naming.conditions.take_class_of.Goals as goal

pub returns-in-Some-number-clause-taking : goal.returns-in-Some-number-clause-taking
returns-in-Some-number-clause-taking c = λ syntax operations.
    let has = contains_at c.args.listed.now.class_names (c.in-Some-number.class - 4) c.bytes_of-bytes.result.now c.in-Some-number.ensures.some.1 in
    (_, (inr (subst (Contains c.args.listed.now.class_names) c.bytes_of-bytes.ensures has), refl), refl)
