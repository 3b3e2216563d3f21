use Rattle.std.proofs.Common.{◌≡◌, ◌∙◌, sym, subst}
use Rattle.eq_base.specs.Building.{missing_of}
use Rattle.eq_base.specs.Vectors.{TakeArguments}
use Rattle.eq_base.specs.declared.head.Head.TheVariants.{Symbol}
use Rattle.eq_base.proofs.flat.FlatMaker.finish.Goals as goal

pub finish-requires : goal.finish-requires
finish-requires c = subst (λ l. missing_of l ≡ 0) (sym c.self.view_is) c.requires

pub invariant_of-result : goal.invariant_of-result
invariant_of-result c = record {
  preorder = c.finish.ensures.whole (Symbol 0);
  arguments = subst TakeArguments (sym c.finish.ensures.labels) c.self.invariant;
}

pub returns : goal.returns
returns c = (c.finish.ensures.whole (Symbol 0)).cells ∙ c.finish.ensures.labels ∙ c.self.view_is
