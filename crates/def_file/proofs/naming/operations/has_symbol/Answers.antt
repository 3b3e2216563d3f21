use Rattle.std.proofs.Common.{◌≡◌, ℕ, List, Option, Some, None, ap, nat_eq, rules, eq-eqb}
use Rattle.std.specs.Prelude.{◌↔◌, IsTrue}
use Rattle.symbol_table.specs.Table.{Table, IsDeclared}
use Rattle.def_file.proofs.naming.operations.has_symbol.Goals as goal

abbrev some_pair : ℕ → ℕ → Option (ℕ × ℕ)
some_pair n d = Some (n, d)

abbrev second : Option (ℕ × ℕ) → ℕ
second (Some p) = p.1
second None = 0

declared_so : (table : Table) (name : List ℕ) (n d arity : ℕ) → ((number a : ℕ) → (some_pair n d ≡ some_pair number a) ↔ IsDeclared table name number a) → IsTrue (nat_eq d arity) ↔ ((number : ℕ) × IsDeclared table name number arity)
declared_so table name n d arity found = (
  λ yes. let same : d ≡ arity = search rules in (n, (found n arity).0 (ap (λ a. some_pair n a) same)),
  λ (x, is). eq-eqb d arity (ap second ((found x arity).1 is)),
)

pub returns-in-Some : goal.returns-in-Some
returns-in-Some c = rw (← c.symbol_of-arity.ensures.arity, ← c.symbol_of-arity.ensures.name) (declared_so c.args.symbols.now c.symbol_of-arity.result.0.now c.in-Some.field-0-0 c.in-Some.declared c.symbol_of-arity.result.1 c.in-Some.ensures.declared)
