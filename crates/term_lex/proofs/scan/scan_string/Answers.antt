use Rattle.std.proofs.Common.{◌≡◌, ◌+◌, ◌-◌, length, length-append, arith, sym, subst, ap, ◌∙◌}
use Rattle.term_lex.specs.Strings.{written}
use Rattle.term_lex.proofs.Elements.{element_begins}
use Rattle.term_lex.proofs.Strings.{HasElements, one_more}
use Rattle.term_lex.proofs.scan.scan_string.Goals as goal

pub read_element-requires : goal.read_element-requires
read_element-requires c = element_begins c.args.from c.loop-used.len c.loop-used.rest.now (sym c.string_end.ensures ∙ c.in_default.is)

pub loop-used-preserved : goal.loop-used-preserved
loop-used-preserved c =
    let bytes = c.args.bytes.now in
    let used = c.loop-used._used in
    let len = c.loop-used.len in
    let b = c.read_element.result.0 in
    let after = c.read_element.result.1.now in
    let (is, here) = c.read_element.ensures in
    let long : length c.loop-used.rest.now - length after ≡ length (written b) = omega (arith, ap length here, length-append (written b) after) in
    let front = subst (λ rest. HasElements bytes rest used len) here c.loop-used.invariant in
    subst (λ n. HasElements bytes after (used + 1) (len + n)) (sym long) (one_more bytes after used len b front is)
