use Rattle.std.proofs.Common.{◌≡◌, ◌+◌, Some, arith, sym, ap, subst, slice_get, slice_index_or, ◌∙◌, refl}
use Rattle.std.proofs.lemmas.Option.{slice_get-get_or}
use Rattle.term_lex.proofs.Gaps.{Passed, comment_passed, sign_passed, blank_passed}
use Rattle.ei_program.proofs.Behind.{get_behind}
use Rattle.ei_program.proofs.gap.skipped.Goals.{then-inside, else-inside+then-byte-eq37, else-inside+else-byte-eq37+else-not-is_blank}
use Rattle.ei_program.proofs.gap.skipped.Goals as goal

pub loop-byte-preserved : goal.loop-byte-preserved
loop-byte-preserved c =
    let bytes = c.args.bytes.now in
    let len = c.loop-byte.len in
    let i = c.loop-byte.invariant in
    let here = slice_index_or bytes c.loop-byte.byte-index 0 in
    let found : slice_get bytes len ≡ Some here = ap (slice_get bytes) i.passed ∙ slice_get-get_or bytes c.loop-byte.byte-index 0 c.loop-byte-test.true in
    record {
      passed = omega (arith, i.passed);
      state = λ text from parts before.
          let there : slice_get text (from + len) ≡ Some here = sym (get_behind text from len (from + len) refl) ∙ ap (λ bs. slice_get bs len) parts ∙ found in
          let p = i.state text from parts before in
          let far : from + len + 1 ≡ from + (len + 1) = omega arith in
          elim c.if-inside.branch [
            | then-inside w ↦ subst (λ n. Passed text n c.if-inside.inside) far (subst (Passed text (from + len + 1)) (sym w.inside-is) (comment_passed text (from + len) here there (subst (Passed text (from + len)) w.if-inside.true p)))
            | else-inside+then-byte-eq37 w ↦ subst (λ n. Passed text n c.if-inside.inside) far (subst (Passed text (from + len + 1)) (sym w.inside-is) (sign_passed text (from + len) (there ∙ ap (λ n. Some n) w.if-byte-eq37.true) (subst (Passed text (from + len)) w.if-inside.false p)))
            | else-inside+else-byte-eq37+else-not-is_blank w ↦ subst (λ n. Passed text n c.if-inside.inside) far (subst (Passed text (from + len + 1)) (sym (w.inside-is ∙ w.if-inside.false)) (blank_passed text (from + len) here there w.if-byte-eq37.false (sym w.is_blank.ensures ∙ w.if-not-is_blank.false) (subst (Passed text (from + len)) w.if-inside.false p)))
          ];
    }
