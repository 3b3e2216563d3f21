use Rattle.match_tables.proofs.tables.Tables.start.Goals as goal

pub returns : goal.returns
returns c = λ rules t. t.start
