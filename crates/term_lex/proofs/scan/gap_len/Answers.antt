use Rattle.std.proofs.Common.{◌≡◌, Some, arith, sym, ap, subst, slice_get, slice_index_or, ◌∙◌}
use Rattle.std.proofs.lemmas.Option.{slice_get-get_or}
use Rattle.term_lex.proofs.Gaps.{Passed, comment_passed, sign_passed, blank_passed, gap_before}
use Rattle.term_lex.proofs.scan.gap_len.Goals.{then-in_comment, else-in_comment+then-byte-eq37, else-in_comment+else-byte-eq37+else-not-is_blank}
use Rattle.term_lex.proofs.scan.gap_len.Goals as goal

pub loop-byte-preserved : goal.loop-byte-preserved
loop-byte-preserved c =
    let bytes = c.args.bytes.now in
    let i = c.loop-byte.invariant in
    let here = slice_index_or bytes c.loop-byte.byte-index 0 in
    let found : slice_get bytes c.loop-byte.len ≡ Some here = ap (slice_get bytes) i.passed ∙ slice_get-get_or bytes c.loop-byte.byte-index 0 c.loop-byte-test.true in
    record {
      passed = omega (arith, i.passed);
      state = elim c.if-in_comment.branch [
        | then-in_comment w ↦ subst (Passed bytes _) (sym w.in_comment-is) (comment_passed bytes c.loop-byte.len here found (subst (Passed bytes c.loop-byte.len) w.if-in_comment.true i.state))
        | else-in_comment+then-byte-eq37 w ↦ subst (Passed bytes _) (sym w.in_comment-is) (sign_passed bytes c.loop-byte.len (found ∙ ap (λ n. Some n) w.if-byte-eq37.true) (subst (Passed bytes c.loop-byte.len) w.if-in_comment.false i.state))
        | else-in_comment+else-byte-eq37+else-not-is_blank w ↦ subst (Passed bytes _) (sym (w.in_comment-is ∙ w.if-in_comment.false)) (blank_passed bytes c.loop-byte.len here found w.if-byte-eq37.false (sym w.is_blank.ensures ∙ w.if-not-is_blank.false) (subst (Passed bytes c.loop-byte.len) w.if-in_comment.false i.state))
      ];
    }

pub returns-then-not-is_blank : goal.returns-then-not-is_blank
returns-then-not-is_blank c =
    let bytes = c.args.bytes.now in
    let i = c.loop-byte.invariant in
    let here = slice_index_or bytes c.loop-byte.byte-index 0 in
    let found : slice_get bytes c.loop-byte.len ≡ Some here = ap (slice_get bytes) i.passed ∙ slice_get-get_or bytes c.loop-byte.byte-index 0 c.loop-byte-test.true in
    gap_before bytes c.loop-byte.len here found (sym c.is_blank.ensures ∙ c.if-not-is_blank.true) c.if-byte-eq37.false (subst (Passed bytes c.loop-byte.len) c.if-in_comment.false i.state)
