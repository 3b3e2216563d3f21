-- Regular equations beside the table by which they are read.
use Rattle.eq_base.specs.RuleList.{RuleList}
use Rattle.symbol_table.specs.Table.{Table, HasOneNumberEach}
use Rattle.symbol_table.specs.Reading.{AreLive}
use Rattle.sequentiality.specs.Regular.{AreRegular}

-- the equations keep the restrictions, and their numbers are live in the table, which has one number for each
pub record AreRegularIn (table : Table) (rules : RuleList) : Type 0 where
  pub regular : AreRegular rules
  pub live : AreLive table rules
  pub distinct : HasOneNumberEach table
