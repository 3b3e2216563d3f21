-- The values of operations are constants.
use Rattle.std.proofs.Common.{◌≡◌, ◌∙◌, ap, sym, Option, Some, None, Bool, true, false}
use Rattle.std.specs.Prelude.{if◌then◌else◌}
use Rattle.std.proofs.lemmas.Option.{none-some}
use Rattle.eq_base.specs.Tree.{Tree, node, empty}
use Rattle.eq_base.specs.ReadHead.{ReadHead}
use Rattle.eq_base.specs.Rewriting.{System}
use Rattle.eq_base.specs.Operations.{fits, within, application_value, value_of}
use Rattle.graph_laws.specs.SharedRuns.{HaveConstantValues}

constant_if : (b : Bool) (h : ReadHead) (u : Tree ReadHead) → (if b then Some (node h empty) else None) ≡ Some u → u ≡ node h empty
constant_if true h u e = cc
constant_if false h u e = absurd (none-some u e)

constant_within : (value : Option ReadHead) (u : Tree ReadHead) → within value ≡ Some u → (h : ReadHead) × (u ≡ node h empty)
constant_within None u e = absurd (none-some u e)
constant_within (Some h) u e = (h, constant_if (fits h) h u e)

pub values_constant : (system : System ReadHead) → system.value_of ≡ value_of → HaveConstantValues system
values_constant system same rule listed op e t u value =
    constant_within (application_value op t) u (sym (ap (λ f. f op t) same) ∙ value)
