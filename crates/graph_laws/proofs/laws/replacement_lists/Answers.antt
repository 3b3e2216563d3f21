use Rattle.std.proofs.Common.{refl}
use Rattle.graph_laws.specs.Numbered.{plain}
use Rattle.graph_laws.proofs.ReplacementLists as laws
use Rattle.graph_laws.proofs.laws.replacement_lists.Goals as goal

pub returns : goal.returns
returns g c = record {
  run = λ system trees after root n run. let x = laws.run_listed system run in (x.list, x.entries, laws.length-nodes_of system run);
  one = λ system o trees after others ns l l'. laws.one_list system o l l';
  shared = λ system lawful trees after ns i t shared e l. (laws.list_derives system lawful.well_formed lawful.orthogonal l shared i t e).shared;
  derivable = λ system lawful trees after ns i t shared e l. let x = laws.list_derives system lawful.well_formed lawful.orthogonal l shared i t e in (plain x.tree, (x.tree, x.stands, refl), x.derivable);
}
