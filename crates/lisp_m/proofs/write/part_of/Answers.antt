use Rattle.std.proofs.Common.{◌∙◌, sym, ap, subst}
use Rattle.symbol_table.specs.Reading.{IsLiveHead}
use Rattle.lisp_m.specs.Writing.{AreLists, part_in}
use Rattle.lisp_m.proofs.Lists.{part_by_numbers, part_by_none}
use Rattle.lisp_m.proofs.write.part_of.Goals as goal

pub returns-in-Some : goal.returns-in-Some
returns-in-Some c =
    let table = c.args.symbols.now in
    let lists = subst (AreLists table) c.in-Some.is c.requires.lists in
    let live = subst (IsLiveHead table) c.in-Symbol.is c.requires.live in
    c.symbol_part.ensures ∙ part_by_numbers table c.has_one_number_each.ensures.distinct.names c.in-Some.cons c.in-Some.nil lists c.in-Symbol.number c.args.arity live
    ∙ ap (λ head. part_in table head c.args.arity) (sym c.in-Symbol.is)

pub returns-in-None : goal.returns-in-None
returns-in-None c =
    let table = c.args.symbols.now in
    part_by_none table (subst (AreLists table) c.in-None.is c.requires.lists) c.in-Symbol.number c.args.arity ∙ ap (λ head. part_in table head c.args.arity) (sym c.in-Symbol.is)
