-- The terms that are read again as they were printed.
use Rattle.eq_base.specs.Tree.{Tree}
use Rattle.eq_base.specs.ReadHead.{ReadHead}
use Rattle.symbol_table.specs.Table.{Table}
use Rattle.written_terms.specs.Readable as written
use Rattle.lisp_m.specs.Notation.{lisp_m}
use Rattle.lisp_m.specs.Printing.{print}

-- where a text goes on with the print of the term and a dot, the term is read, whatever comes after
abbrev pub IsReadAgain : Table → Tree ReadHead → Type 0
IsReadAgain table t = written.IsReadAgain lisp_m (print table t) table t
