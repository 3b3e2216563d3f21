use Rattle.std.proofs.Common.{sym, ◌∙◌, ap, map}
use Rattle.term_lex.specs.declared.token.TokenKind.TheVariants.{CloseRound}
use Rattle.written_terms.specs.Mentions.{pair_of}
use Rattle.standmath.specs.Mentions.{met_kind}
use Rattle.standmath.proofs.Counting.{popped}
use Rattle.standmath.proofs.mentions.Mentions.take.Goals as goal

pub returns-in-CloseRound : goal.returns-in-CloseRound
returns-in-CloseRound c =
    let t = c.args.token in
    let pop = popped c.self-in-CloseRound.inside.opened.items c.pop.new.self.items _ c.pop.result c.self-in-CloseRound.inside.opened.ok.0 c.pop.ensures.items c.pop.ensures.variant in
    ap (λ ns. record { heads = map pair_of c.self-in-CloseRound.inside.mentions.items; open_heads = ns }) pop
    ∙ ap (met_kind CloseRound t) c.self-in-CloseRound.view_is
    ∙ ap (λ k. met_kind k t c.args.self.now) (sym c.in-CloseRound.is)
