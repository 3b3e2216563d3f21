use Rattle.std.proofs.Common.{◌≡◌, refl, ◌∙◌, ap, sym, subst, map}
use Rattle.std.proofs.lemmas.List.{map_push}
use Rattle.eq_base.specs.Cells.{arity_in, CellTakesArguments}
use Rattle.eq_base.specs.Kinds.{cell_from, cell_of}
use Rattle.eq_base.specs.Vectors.{IsProper}
use Rattle.eq_base.proofs.Lists.{all_push}
use Rattle.eq_base.proofs.Patterns.{missing_of-cells}
use Rattle.eq_base.proofs.pattern.PatternMaker.push_cell.Goals as goal
use Rattle.eq_base.proofs.pattern.PatternMaker.push_cell.Goals.{In_ok-push}

pub push-requires : goal.push-requires
push-requires c = rw (missing_of-cells c.self.inside.begun c.self.invariant, c.self.view_is) c.requires.missing

-- what is stored is the cell
stored : (c : In_ok-push) → cell_from c.of.result c.arity.result ≡ c.args.cell
stored c = ap (cell_from c.of.result) c.arity.ensures ∙ c.of.ensures

pub invariant_of-self-2 : goal.invariant_of-self-2
invariant_of-self-2 c =
    let d = (goal.at.invariant_of-self-2 c).In_ok-push in
    let proper : IsProper (c.of.result, c.arity.result) = record {
      arity = ap arity_in (stored d) ∙ sym c.arity.ensures;
      arguments = subst CellTakesArguments (sym (stored d)) c.requires.taken;
    } in
    rw c.in_ok-push.ensures.ok (all_push IsProper c.self.inside.begun (c.of.result, c.arity.result) c.self.invariant proper)

pub returns-clause-ok : goal.returns-clause-ok
returns-clause-ok c =
    let d = (goal.at.returns-clause-ok c).In_ok-push in
    ap (map cell_of) c.in_ok-push.ensures.ok
    ∙ map_push cell_of c.self.inside.begun (c.of.result, c.arity.result)
    ∙ rw (stored d, c.self.view_is) refl
