use Rattle.std.proofs.Common.{◌≡◌, sym, inl, inr}
use Rattle.std.specs.Prelude.{codes}
use Rattle.symbol_table.specs.Table.{names_of}
use Rattle.written_terms.proofs.Meanings.{nil_part, cons_part}
use Rattle.written_terms.proofs.cells.list_part.Goals as goal

pub returns-in-Some-clause-ok : goal.returns-in-Some-clause-ok
returns-in-Some-clause-ok c = (nil_part (names_of c.args.symbols.now) c.args.mention.args _ _ c.if-mention-eq0.true c.in-Some.ensures.some.0 c.in-Some.ensures.some.1, sym c.if-mention-eq0.true, tt, (codes "nil", 0, c.in-Some.ensures.some.1))

pub returns-in-Some-2-clause-ok : goal.returns-in-Some-2-clause-ok
returns-in-Some-2-clause-ok c =
    let two : c.args.mention.args ≡ 2 = elim c.requires [ inl none ↦ absurd (c.if-mention-eq0.false none) | inr two ↦ two ] in
    (cons_part (names_of c.args.symbols.now) c.args.mention.args _ _ two c.in-Some.ensures.some.0 c.in-Some.ensures.some.1, sym two, tt, (codes "cons", 2, c.in-Some.ensures.some.0))
