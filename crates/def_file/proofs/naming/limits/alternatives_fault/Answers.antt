use Rattle.std.proofs.Common.{◌<◌, ◌≤◌, ◌+◌, [], ◌∷◌, map, take, drop, get_or, sym, subst, arith, inl, refl}
use Rattle.std.proofs.lemmas.List.{take_all}
use Rattle.eq_base.specs.Tree.{size}
use Rattle.eq_base.specs.Mapping.{map_cell}
use Rattle.eq_base.proofs.Trees.{size-map_heads}
use Rattle.symbol_table.specs.Reading.{read_head, read_pattern}
use Rattle.term_lex.specs.declared.fault.Fault.{Fault}
use Rattle.term_lex.specs.declared.fault.FaultKind.TheVariants.{SideLong}
use Rattle.def_file.specs.Sides.{Cells, KeepsAll, PassesFirst}
use Rattle.def_file.specs.Taking.{IsSideTaken}
use Rattle.def_file.proofs.Pairs.{related_at, length-related, map_next, map_around}
use Rattle.def_file.proofs.Limits.{keeps_append, passes_behind}
use Rattle.def_file.specs.Notations.{notation_of}
use Rattle.def_file.proofs.naming.limits.alternatives_fault.Goals as goal

pub loop-i-preserved : goal.loop-i-preserved
loop-i-preserved c = λ syntax text known table related.
    let byte = get_or c.args.terms.now c.loop-i.i 0 in
    let p = read_pattern table c.in-Some.pattern.now in
    let here : IsSideTaken (notation_of syntax) text known table byte c.in-Some.pattern.now = subst (IsSideTaken (notation_of syntax) text known table byte) (sym c.in-Some.ensures.lookup.1) (related_at (IsSideTaken (notation_of syntax) text known table) c.args.terms.now c.args.patterns.now c.loop-i.i 0 c.in-Some.pattern.now c.loop-i-test.true related) in
    let short : size p ≤ 255 = omega (arith, size-map_heads (map_cell (read_head table)) c.in-Some.pattern.now, c.len.ensures, c.if-len-gt-MOST_LEFT_CELLS.false) in
    subst (KeepsAll (notation_of syntax) text known) (sym (map_next (Cells 255) c.args.terms.now c.loop-i.i byte 0 refl c.loop-i-test.true)) (keeps_append (notation_of syntax) text known (map (Cells 255) (take c.loop-i.i c.args.terms.now)) (Cells 255 byte ∷ []) (c.loop-i.invariant syntax text known table related) ((p, here.means, short), tt))

pub returns-in_default : goal.returns-in_default
returns-in_default c = λ syntax text known table related.
    let same = length-related (IsSideTaken (notation_of syntax) text known table) c.args.terms.now c.args.patterns.now related in
    absurd (omega (arith, same, c.in_default.ensures.lookup.3, c.loop-i-test.true))

pub returns-then-len-gt-MOST_LEFT_CELLS : goal.returns-then-len-gt-MOST_LEFT_CELLS
returns-then-len-gt-MOST_LEFT_CELLS c = λ syntax text known table related.
    let byte = get_or c.args.terms.now c.loop-i.i 0 in
    let p = read_pattern table c.in-Some.pattern.now in
    let here : IsSideTaken (notation_of syntax) text known table byte c.in-Some.pattern.now = subst (IsSideTaken (notation_of syntax) text known table byte) (sym c.in-Some.ensures.lookup.1) (related_at (IsSideTaken (notation_of syntax) text known table) c.args.terms.now c.args.patterns.now c.loop-i.i 0 c.in-Some.pattern.now c.loop-i-test.true related) in
    let long : 255 < size p = omega (arith, size-map_heads (map_cell (read_head table)) c.in-Some.pattern.now, c.len.ensures, c.if-len-gt-MOST_LEFT_CELLS.true) in
    let fault : Fault = record { kind = SideLong; byte = byte } in
    subst (λ ls. PassesFirst (notation_of syntax) text known ls fault) (sym (map_around (Cells 255) c.args.terms.now c.loop-i.i byte 0 refl c.loop-i-test.true)) (passes_behind (notation_of syntax) text known (map (Cells 255) (take c.loop-i.i c.args.terms.now)) (Cells 255 byte ∷ map (Cells 255) (drop (c.loop-i.i + 1) c.args.terms.now)) fault (c.loop-i.invariant syntax text known table related) (inl (p, here.means, long, refl)))

pub returns : goal.returns
returns c = λ syntax text known table related. subst (λ l. KeepsAll (notation_of syntax) text known (map (Cells 255) l)) (take_all c.loop-i.i c.args.terms.now c.loop-i-test.false) (c.loop-i.invariant syntax text known table related)
