-- States that tables have answered.
use Rattle.std.specs.Prelude.{ℕ}
use Rattle.eq_base.specs.RuleList.{RuleList}
use Rattle.match_laws.specs.Items.{ItemSet}
use Rattle.match_tables.specs.Answering.{StandsFor}
use Rattle.match_tables.specs.Tabled.{AreTablesOf}
use Rattle.match_tables.specs.declared.tables.Tables.{Tables}

-- the tables are those of some equations
pub record AreSomeTables (tables : Tables) : Type 0 where
  pub rules : RuleList
  pub are : AreTablesOf rules tables

-- the state is one of the tables of some equations
pub record IsKnown (tables : Tables) (state : ℕ) : Type 0 where
  pub some : AreSomeTables tables
  pub items : ItemSet
  pub stands : StandsFor tables.sets state items
