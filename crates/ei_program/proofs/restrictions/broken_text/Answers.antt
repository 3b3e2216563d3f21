use Rattle.std.proofs.Common.{◌≡◌, ◌∙◌, ◌≤◌, ◌<◌, ◌-◌, ◌++◌, take, length, string_bytes, append_assoc, sym, ap, arith, rules}
use Rattle.std.specs.Prelude.{codes, decimal, flat_map}
use Rattle.ei_program.proofs.BrokenTexts.{told_whole, told_in_part}
use Rattle.eq_base.specs.Rules.{rule_of}
use Rattle.ei_program.specs.Restrictions.{origin_of, break_line}
use Rattle.ei_program.proofs.Sums.{flat_next}
use Rattle.ei_program.proofs.BreaksInLists.{break_in_list}
use Rattle.ei_program.proofs.restrictions.broken_text.Goals as goal

pub break_line-requires : goal.break_line-requires
break_line-requires c = break_in_list c.args.rules.now c.args.breaks.now c.get.result c.requires c.loop-i.i c.get.ensures

pub loop-i-preserved : goal.loop-i-preserved
loop-i-preserved c =
    let es = c.args.rules.now.equations in
    let bs = c.args.breaks.now in
    let i = c.loop-i.i in
    let line = string_bytes c.in_ok-line.line in
    let front = flat_map (break_line rule_of origin_of es) (take i bs) in
    let more = flat_next (break_line rule_of origin_of es) bs i c.get.result c.get.ensures in
    let pushed : string_bytes c.push_str.new.self ≡ string_bytes c.loop-i.text ++ line = search rules in
    pushed ∙ ap (λ z. z ++ line) c.loop-i.invariant ∙ append_assoc (string_bytes c.in_ok-text.text) front line
    ∙ ap (λ z. string_bytes c.in_ok-text.text ++ z) (ap (λ z. front ++ z) c.in_ok-line.ensures ∙ sym more)

pub returns-then-more-eq0 : goal.returns-then-more-eq0
returns-then-more-eq0 c =
    let all : c.loop-i.i ≡ length c.args.breaks.now = omega (arith, c.loop-i-test.false, c.loop-i.auto.i-end, c.if-more-eq0.true, c.min-told.ensures, c.len-count.ensures) in
    let few : length c.args.breaks.now ≤ 50 = omega (arith, c.if-more-eq0.true, c.min-told.ensures, c.len-count.ensures) in
    let header : string_bytes c.in_ok-text.text ≡ codes "ei: restrictions broken: " ++ decimal (length c.args.breaks.now) ++ codes "\n" = search rules in
    told_whole c.args.rules.now.equations c.args.breaks.now (string_bytes c.loop-i.text) (string_bytes c.in_ok-text.text) c.loop-i.i header c.loop-i.invariant all few

pub returns : goal.returns
returns c =
    let bs = c.args.breaks.now in
    let header : string_bytes c.in_ok-text.text ≡ codes "ei: restrictions broken: " ++ decimal (length bs) ++ codes "\n" = search rules in
    let cut : c.loop-i.i ≡ 50 = omega (arith, c.loop-i-test.false, c.loop-i.auto.i-end, c.if-more-eq0.false, c.min-told.ensures, c.len-count.ensures) in
    let rest : c.len-count.result - c.min-told.result ≡ length bs - 50 = omega (arith, c.if-more-eq0.false, c.min-told.ensures, c.len-count.ensures) in
    let some : 0 < c.len-count.result - c.min-told.result = omega (arith, c.if-more-eq0.false) in
    told_in_part c.args.rules.now.equations bs (string_bytes c.loop-i.text) (string_bytes c.in_ok-text.text) (string_bytes c.write.new.self) c.loop-i.i (c.len-count.result - c.min-told.result) header c.loop-i.invariant cut rest some (search rules)
