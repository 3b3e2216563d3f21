use Rattle.machine_laws.proofs.GoingFurther as laws
use Rattle.machine_laws.proofs.KeepingArities as keeping
use Rattle.machine_laws.proofs.laws.machine_goes_further.Goals as goal

pub returns : goal.returns
returns g c = λ system lawful constant arity k r root trees t shared keeps stands n now place run. laws.never_stuck system lawful.well_formed lawful.orthogonal arity k (keeping.replacements_keep system arity lawful.orthogonal r) constant root trees t shared keeps stands n now place run
