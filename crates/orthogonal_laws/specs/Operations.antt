-- Operations on right sides, and their values.
use Rattle.std.specs.Prelude.{◌≡◌, Option, IsTrue, Contains}
use Rattle.eq_base.specs.Tree.{Tree}
use Rattle.eq_base.specs.Pattern.{Substitution, apply, Respects}
use Rattle.eq_base.specs.Operations.{compares}
use Rattle.eq_base.specs.Meeting.{in_class_of}
use Rattle.eq_base.specs.RuleList.{RuleList}
use Rattle.eq_base.specs.declared.head.Head.{Head}
use Rattle.eq_base.specs.declared.meeting.SymbolClass.TheVariants.{TruthValues}
use Rattle.eq_base.specs.declared.rules.Op.{Op}
use Rattle.eq_base.specs.declared.rules.Right.TheVariants.{Schema}
use Rattle.eq_base.specs.declared.rules.Equation.{Equation}
use Rattle.symbol_table.specs.Table.{Table, Includes}
use Rattle.orthogonal_laws.specs.Orthogonal.{AgreeOnRestricted}

-- the value that an operation gives its application, if it has one
abbrev pub Values : Type 0
Values = Op → Tree Head → Option (Tree Head)

-- the value that an operation gives its application depends on the constants of its restricted variables
-- alone
abbrev pub ReadConstants : Values → RuleList → Type 0
ReadConstants value_of rules =
    (e : Equation) → Contains rules.equations e → (op : Op) → e.right ≡ Schema op
    → (σ τ : Substitution Head) → Respects (in_class_of rules.classes) σ e.left
    → AgreeOnRestricted e.left σ τ
    → value_of op (apply σ e.left) ≡ value_of op (apply τ e.left)

-- the truth values are declared where the value of an operation is one
abbrev pub AreTruthsKnown : Table → RuleList → Type 0
AreTruthsKnown table rules =
    (e : Equation) → Contains rules.equations e → (op : Op) → e.right ≡ Schema op → IsTrue (compares op)
    → Includes table TruthValues
