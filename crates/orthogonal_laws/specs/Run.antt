-- How a plain run ends with a budget.
use Rattle.std.specs.Prelude.{◌≡◌, ◌↔◌, ℕ, ◌≤◌}
use Rattle.eq_base.specs.Tree.{Tree}
use Rattle.eq_base.specs.Rewriting.{System, IsNormal}
use Rattle.eq_base.specs.ReadHead.{ReadHead}
use Rattle.symbol_table.specs.Table.{Table}
use Rattle.symbol_table.specs.Reading.{read, IsLiveTerm}
use Rattle.orthogonal_laws.specs.Strategy.{PlainRun, HasLength}
use Rattle.orthogonal_laws.specs.declared.run.PlainEnd.{PlainEnd}
use Rattle.orthogonal_laws.specs.declared.run.PlainEnd.TheVariants.{Normal, Spent}

-- the end is a normal form after so many steps, and is read as this term
abbrev pub IsNormalEnd : Table → PlainEnd → Tree ReadHead → ℕ → Type 0
IsNormalEnd table (Normal u m) v n = (read table u ≡ v) × (m ≡ n)
IsNormalEnd table (Spent u) v n = ⊥

-- the budget is spent, and what it led to is read as this term
abbrev pub IsSpentEnd : Table → PlainEnd → Tree ReadHead → Type 0
IsSpentEnd table (Normal u m) v = ⊥
IsSpentEnd table (Spent u) v = read table u ≡ v

-- each number in what the run ends with is live
abbrev pub IsLiveEnd : Table → PlainEnd → Type 0
IsLiveEnd table (Normal u m) = IsLiveTerm table u
IsLiveEnd table (Spent u) = IsLiveTerm table u

-- as the table reads it: it is normal, with its end and its length, exactly where the length is at most the
-- budget; and spent exactly where what the whole budget leads to is not normal
pub record IsEnd (system : System ReadHead) (t : Tree ReadHead) (budget : ℕ) (table : Table)
    (end : PlainEnd) : Type 0 where
  pub normal : (v : Tree ReadHead) (n : ℕ) → IsNormalEnd table end v n
      ↔ (HasLength system t n v × (n ≤ budget))
  pub spent : (u : Tree ReadHead) → IsSpentEnd table end u
      ↔ (PlainRun system t budget u × (IsNormal system u → ⊥))
