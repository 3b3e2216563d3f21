use Rattle.regularity.proofs.single.is_single.Goals as goal

pub returns-then-is_linear : goal.returns-then-is_linear
returns-then-is_linear c = (
  λ yes. record { linear = c.is_linear.ensures.0 c.if-is_linear.true; bound = c.is_bound.ensures.0 yes },
  λ single. c.is_bound.ensures.1 single.bound,
)
