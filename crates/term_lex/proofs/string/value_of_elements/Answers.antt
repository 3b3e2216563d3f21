use Rattle.std.proofs.Common.{rules, sym, subst}
use Rattle.term_lex.proofs.Strings.{IsRead, left_begins, read_more}
use Rattle.term_lex.proofs.string.value_of_elements.Goals as goal

pub read_element-byte-requires : goal.read_element-byte-requires
read_element-byte-requires c = left_begins c.args.elements.now c.loop-rest.value.items c.loop-rest.rest.now c.loop-rest.invariant (search rules)

pub loop-rest-preserved : goal.loop-rest-preserved
loop-rest-preserved c =
    let elements = c.args.elements.now in
    let b = c.read_element-byte.result.0 in
    let after = c.read_element-byte.result.1.now in
    let (is, here) = c.read_element-byte.ensures in
    let more = read_more elements c.loop-rest.value.items after b (subst (IsRead elements c.loop-rest.value.items) here c.loop-rest.invariant) in
    subst (λ items. IsRead elements items after) (sym c.in_ok-push.ensures.items) more
