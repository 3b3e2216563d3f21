use Rattle.machine_laws.proofs.Completions as laws
use Rattle.machine_laws.proofs.laws.completed_fits_above.Goals as goal

pub returns : goal.returns
returns g c = record {
  fits = λ system lawful arity k frames items h args e height a comes. laws.fits_first_above system lawful.well_formed lawful.orthogonal arity k frames items h args e height comes a;
  comes = λ system inner outer items comes. laws.comes_above system inner outer items comes;
}
