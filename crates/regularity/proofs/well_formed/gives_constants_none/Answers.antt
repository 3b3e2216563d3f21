use Rattle.std.proofs.Common.{◌≡◌, ◌∙◌, refl, arith}
use Rattle.eq_base.specs.declared.head.Head.TheVariants.{Symbol}
use Rattle.regularity.proofs.Tables.{constants_none, members_none}
use Rattle.regularity.proofs.well_formed.gives_constants_none.Goals as goal
use Rattle.regularity.proofs.well_formed.gives_constants_none.Goals.{then-arity_of-gt0-via-then-arity_of-gt0, then-arity_of-gt0-via-else-arity_of-gt0+then-arity_of-gt0-2}

pub returns-then-arity_of-gt0 : goal.returns-then-arity_of-gt0
returns-then-arity_of-gt0 c = (
  λ yes. cc,
  λ none. elim c.then-arity_of-gt0.branch [
    | then-arity_of-gt0-via-then-arity_of-gt0 w ↦ absurd (omega (arith, c.arity_of.ensures, none 2 (Symbol 0) refl, w.if-arity_of-gt0.true))
    | then-arity_of-gt0-via-else-arity_of-gt0+then-arity_of-gt0-2 w ↦ absurd (omega (arith, w.arity_of-else-arity_of-gt0.ensures, none 2 (Symbol 1) refl, w.if-arity_of-gt0-2.true))
  ],
)

pub returns-then-not-gives_members_none : goal.returns-then-not-gives_members_none
returns-then-not-gives_members_none c = (
  λ yes. cc,
  λ none. let has = c.gives_members_none.ensures.1 (members_none c.args.arities.now c.args.classes.now none _ (omega arith)) in let not = c.if-not-gives_members_none.true in cc,
)

pub returns : goal.returns
returns c = (
  λ yes. constants_none c.args.arities.now c.args.classes.now (let first : 0 ≡ c.arity_of.result = omega (arith, c.if-arity_of-gt0.false) in first ∙ c.arity_of.ensures) (let second : 0 ≡ c.arity_of-else-arity_of-gt0.result = omega (arith, c.if-arity_of-gt0-2.false) in second ∙ c.arity_of-else-arity_of-gt0.ensures)
      (λ k lt. c.loop-number.invariant k (omega arith)),
  λ none. refl,
)
