use Rattle.std.proofs.Common.{subst}
use Rattle.sequentiality.specs.Regular.{IsRefused}
use Rattle.def_file.specs.Notations.{notation_of}
use Rattle.def_file.proofs.Lawful.{lawful_of}
use Rattle.ei_program.proofs.Loadings.{breaks_of, broken_read, admitted}
use Rattle.ei_program.proofs.FileEquations.{file_well_formed}
use Rattle.ei_program.proofs.loading.admit.Goals as goal

pub admit-requires : goal.admit-requires
admit-requires c =
    let e = c.args.equations in
    let (syntax, file, defines) = c.requires.defined in
    file_well_formed (notation_of syntax) (lawful_of syntax) file defines.read defines.says e.symbols e.rules defines.expansion defines.classes

pub returns-in-Ok-clause-admitted : goal.returns-in-Ok-clause-admitted
returns-in-Ok-clause-admitted c =
    admitted c.args.equations c.in-Ok.regular c.requires.defined.0 c.requires.defined.1 c.requires.defined.2 c.requires.usable c.has_one_number_each.ensures.distinct c.in-Ok.ensures.ok c.in-Ok.ensures.regular

pub returns-in-Err-Broken-clause-admitted : goal.returns-in-Err-Broken-clause-admitted
returns-in-Err-Broken-clause-admitted c =
    let broken = subst (IsRefused c.args.equations.rules) c.in-Err-Broken.field-0-is c.in-Err-Broken.ensures.err in
    broken_read c.args.equations c.in-Err-Broken.rules c.in-Err-Broken.breaks c.requires.usable c.has_one_number_each.ensures.distinct broken

pub returns-in-Err-Broken-clause-told : goal.returns-in-Err-Broken-clause-told
returns-in-Err-Broken-clause-told c = let broken = subst (IsRefused c.args.equations.rules) c.in-Err-Broken.field-0-is c.in-Err-Broken.ensures.err in breaks_of c.args.equations.rules c.in-Err-Broken.rules c.in-Err-Broken.breaks broken.0 broken.1
