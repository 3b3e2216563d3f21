use Rattle.machine_laws.proofs.MachineAnswers as laws
use Rattle.machine_laws.proofs.laws.machine_answers.Goals as goal

pub returns : goal.returns
returns g c = record {
  only = λ system lawful arity k r root trees t shared keeps stands n now v run. laws.only_end system lawful arity k r root trees t shared keeps stands n now v run;
  shortest = λ system lawful arity k r root trees t shared keeps stands constant n now v run others ns u l at normal. laws.shortest_end system lawful arity k r root trees t shared keeps stands constant n now v run others ns u l at normal;
  spent = λ system lawful arity k r root trees t shared keeps stands n now place run u at left. laws.redex_left system lawful arity k r root trees t shared keeps stands n now place run u at left;
}
