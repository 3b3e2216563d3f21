use Rattle.std.proofs.Common.{rules, ◌≡◌, [], ◌∷◌, ◌++◌, map, length, sym, ap, subst, ◌∙◌, arith}
use Rattle.std.proofs.lemmas.List.{length-map}
use Rattle.symbol_table.specs.Table.{Table, HasName}
use Rattle.symbol_table.specs.Entries.{declared_of, table_of, IsTable}
use Rattle.symbol_table.proofs.Numbers.{symbol}
use Rattle.symbol_table.proofs.LookUps.{declared_of-insert_entry, missing_from}
use Rattle.symbol_table.proofs.Declarations.{has_found}
use Rattle.symbol_table.proofs.Growing.{with_symbol, IsTable-with_symbol}
use Rattle.symbol_table.proofs.symbols.Symbols.declare.Goals as goal
use Rattle.symbol_table.proofs.symbols.Symbols.declare.Goals.{In_ok-insert}

pub returns-then-is_some-clause-refused : goal.returns-then-is_some-clause-refused
returns-then-is_some-clause-refused c =
    has_found c.args.self.now c.args.name.now c.find.result c.find.ensures.declared (sym c.is_some.ensures ∙ c.if-is_some.true)

-- the name is new
fresh : (c : In_ok-insert) → ¬ HasName c.args.self.now c.args.name.now
fresh c = c.find.ensures.none.0 (sym c.is_some.ensures ∙ c.if-is_some.false)

-- so its symbol goes last
lists : (c : In_ok-insert) → map declared_of c.insert.new.self.entries ≡ map declared_of c.self.inside.arities.entries ++ symbol c.args.name.now c.in-Ok.arity ∷ []
lists c =
    ap (map declared_of) c.in_ok-insert.ensures.entries
    ∙ declared_of-insert_entry c.args.name.now c.in_ok-name.name c.in-Ok.arity (c.in_ok-name.ensures.items_if_clones_equal (λ x y same. same)) c.self.inside.arities.entries
    (missing_from c.self.inside.arities.entries c.args.self.now (ap (λ (t : Table). t.declared) c.self.view_is) c.args.name.now (fresh c))

-- and the table has one symbol more
grown : (c : In_ok-insert) → table_of c.insert.new.self.entries c.self.inside.classes.items c.self.inside.atoms c.self.inside.texts ≡ with_symbol c.args.self.now c.args.name.now c.in-Ok.arity
grown c =
    ap (λ declared. record { declared = declared; included = c.self.inside.classes.items; atoms = c.self.inside.atoms; texts = c.self.inside.texts }) (lists c)
    ∙ ap (λ table. with_symbol table c.args.name.now c.in-Ok.arity) c.self.view_is

pub invariant_of-self-2 : goal.invariant_of-self-2
invariant_of-self-2 c =
    subst IsTable (sym (grown c)) (IsTable-with_symbol c.args.self.now c.args.name.now c.in-Ok.arity (subst IsTable c.self.view_is c.self.invariant) (fresh c) c.requires)

pub returns-clause-ok : goal.returns-clause-ok
returns-clause-ok c = record {
  arguments = c.in-Ok.arity;
  counted = search rules;
  fits = search rules;
  fresh = fresh c;
  added = grown c;
  numbered = omega (arith, c.len.ensures.len, length-map c.self.inside.arities.entries declared_of, ap (λ (t : Table). length t.declared) c.self.view_is);
}
