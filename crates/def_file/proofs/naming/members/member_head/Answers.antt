use Rattle.std.proofs.Common.{refl, sym, subst}
use Rattle.std.specs.Prelude.{IsNone}
use Rattle.symbol_table.specs.Table.{names_of, IsDeclared, HasName}
use Rattle.def_file.specs.Names.{token_bytes}
use Rattle.def_file.proofs.naming.members.member_head.Goals as goal

pub returns-in_default-clause-refused : goal.returns-in_default-clause-refused
returns-in_default-clause-refused c =
    let none = subst (λ b. ¬ HasName (names_of c.args.symbols.now) b) c.bytes_of.ensures (c.find.ensures.none.0 (subst IsNone (sym c.in_default.is) refl)) in
    rw c.refused-in_default.ensures ((c.is_numeral.ensures.not c.if-is_numeral.false, none), refl)

pub returns-then-declared-ne0-clause-refused : goal.returns-then-declared-ne0-clause-refused
returns-then-declared-ne0-clause-refused c =
    let is = subst (λ b. IsDeclared (names_of c.args.symbols.now) b c.in-Some.number c.in-Some.declared) c.bytes_of.ensures ((c.in-Some.ensures.declared c.in-Some.number c.in-Some.declared).0 refl) in
    rw c.refused-then-declared-ne0.ensures ((c.is_numeral.ensures.not c.if-is_numeral.false, (c.in-Some.number, is), c.if-declared-ne0.true, refl), refl)

pub returns-clause-head : goal.returns-clause-head
returns-clause-head c =
    let is = subst (λ b. IsDeclared (names_of c.args.symbols.now) b c.in-Some.number c.in-Some.declared) c.bytes_of.ensures ((c.in-Some.ensures.declared c.in-Some.number c.in-Some.declared).0 refl) in
    (c.is_numeral.ensures.not c.if-is_numeral.false, subst (IsDeclared (names_of c.args.symbols.now) (token_bytes c.args.text.now c.args.member) c.in-Some.number) c.if-declared-ne0.false is)

pub returns-clause-live : goal.returns-clause-live
returns-clause-live c = (c.bytes_of.result.now, c.in-Some.declared, (c.in-Some.ensures.declared c.in-Some.number c.in-Some.declared).0 refl)
