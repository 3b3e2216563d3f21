-- What is known, and what a term means, while atoms and texts join the table.
use Rattle.std.proofs.Common.{◌≡◌, ℕ, List, refl, ap, sym, subst}
use Rattle.eq_base.specs.Tree.{Tree}
use Rattle.eq_base.specs.Pattern.{PatternCell}
use Rattle.eq_base.specs.declared.head.Head.{Head}
use Rattle.eq_base.specs.declared.rules.Op.{Op}
use Rattle.symbol_table.specs.Table.{Table, Keeps, names_of}
use Rattle.symbol_table.specs.Reading.{read_pattern, IsLivePattern}
use Rattle.symbol_table.proofs.Keeping.{keeps_trans, names_kept}
use Rattle.symbol_table.proofs.Rereading.{pattern_kept, live_pattern_kept}
use Rattle.written_terms.specs.Notation.{Notation}
use Rattle.written_terms.specs.Reading.{ReadsPattern}
use Rattle.def_file.specs.declared.naming.listed.Listed.{Listed}
use Rattle.def_file.specs.Naming.{knowing}
use Rattle.def_file.specs.Taking.{IsSideTaken}

-- what is known stays
pub knowing_kept : (old new : Table) → Keeps old new → (listed : Listed) (operations : List Op)
    → knowing new listed operations ≡ knowing old listed operations
knowing_kept old new k listed operations =
    ap (λ names. record { table = names; class_names = listed.class_names; classes = listed.classes; variables = listed.variables; operations = operations })
    (names_kept old new k)

-- a table keeps what it declares and includes
pub names_keep : (table : Table) → Keeps (names_of table) table
names_keep table = record { declared = refl; included = refl; atoms = (table.atoms, refl); texts = (table.texts, refl) }

-- a pattern that was read is read so in each table that keeps this one
pub taken_later : (notation : Notation) (text : List ℕ) (listed : Listed) (operations : List Op) (old new later : Table)
    → Keeps old new → Keeps new later → (byte : ℕ) (p : Tree (PatternCell Head)) (end : ℕ)
    → ReadsPattern notation (names_of old) listed.variables text byte (read_pattern new p) end → IsLivePattern new p
    → IsSideTaken notation text (knowing later listed operations) later byte p
taken_later notation text listed operations old new later k l byte p end reads live =
    let named = subst (λ (names : Table). ReadsPattern notation names listed.variables text byte (read_pattern new p) end)
    (sym (names_kept old later (keeps_trans old new later k l))) reads in
    record {
      means = (end, subst (λ q. ReadsPattern notation (names_of later) listed.variables text byte q end) (sym (pattern_kept new later l p live)) named);
      live = live_pattern_kept new later l p live;
    }
