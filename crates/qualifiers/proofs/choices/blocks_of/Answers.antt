use Rattle.std.proofs.Common.{◌≡◌, ℕ, ◌+◌, ◌/◌, ◌<◌, ◌≤◌, ◌∷◌, length, drop, sym, ap, ◌∙◌, arith}
use Rattle.std.specs.Prelude.{slice_index}
use Rattle.qualifiers.specs.Choices.{choices_of}
use Rattle.qualifiers.specs.Held.{qualifier_held, qualifiers_held}
use Rattle.std.proofs.lemmas.List.{length-map}
use Rattle.qualifiers.proofs.Members.{got_map}
use Rattle.qualifiers.proofs.Numbers.{ways, drop_at_get, length-choices, some_ways, none_offered, next_block}
use Rattle.qualifiers.proofs.Picked.{numbers_more}
use Rattle.qualifiers.proofs.choices.blocks_of.Goals as goal
use Rattle.qualifiers.proofs.choices.blocks_of.Goals.{then-offered-gt0, else-offered-gt0}

pub loop-i-init : goal.loop-i-init
loop-i-init c = record {
  block = c.requires ∙ length-choices (qualifiers_held c.args.qualifiers.now);
  len = ap length c.new-blocks.ensures.items;
  each = λ k lt. absurd (omega arith);
}

pub loop-i-preserved : goal.loop-i-preserved
loop-i-preserved c =
    let i = c.loop-i.i in
    let qs = qualifiers_held c.args.qualifiers.now in
    let q = qualifier_held c.get.result.now in
    let next = drop (i + 1) qs in
    let block = c.loop-i.block in
    let is : block ≡ ways (q ∷ next) = c.loop-i.invariant.block ∙ ap ways (drop_at_get qs i q (got_map qualifier_held c.args.qualifiers.now i _ c.get.ensures)) in
    let lt : 0 < block = rw is (some_ways (q ∷ next)) in
    let here : c.if-offered-gt0.block ≡ ways next = elim c.if-offered-gt0.branch [
      | then-offered-gt0 w ↦ w.block-is ∙ ap (λ n. block / n) c.len-offered.ensures ∙ next_block q next block 0 is lt (omega (arith, c.len-offered.ensures, w.if-offered-gt0.true))
      | else-offered-gt0 w ↦ w.block-is ∙ none_offered q next block 0 is lt (omega (arith, c.len-offered.ensures, w.if-offered-gt0.false))
    ] in
    let more = numbers_more (λ k. length (choices_of (drop (k + 1) qs))) c.loop-i.blocks.items c.if-offered-gt0.block i c.push.new.self.items c.in_ok-push.ensures.items c.loop-i.invariant.len c.loop-i.invariant.each (here ∙ sym (length-choices next)) in
    record { block = here; len = more.0; each = more.1 }

pub returns : goal.returns
returns c =
    let qs = c.args.qualifiers.now in
    record { len = omega (arith, c.loop-i.invariant.len, c.len-i-end.ensures, c.loop-i-test.false, c.loop-i.auto.i-end); each = λ i lt. c.loop-i.invariant.each i (omega (arith, c.len-i-end.ensures, c.loop-i-test.false, lt)) }
