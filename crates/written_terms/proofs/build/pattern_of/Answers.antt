use Rattle.std.proofs.Common.{Err, rules, ◌≡◌, ◌+◌, ◌<◌, take, get_or, length, map, arith, sym, subst}
use Rattle.std.specs.Prelude.{IfErr}
use Rattle.std.proofs.lemmas.List.{length-map, take_all}
use Rattle.eq_base.specs.Mapping.{map_cell}
use Rattle.term_lex.specs.declared.token.TokenKind.TheVariants.{Name}
use Rattle.term_lex.specs.Lexemes.{lexeme}
use Rattle.std.specs.List.{AllByRecursion}
use Rattle.eq_base.specs.Cells.{kind_of}
use Rattle.symbol_table.specs.Table.{Table, names_of}
use Rattle.symbol_table.specs.Reading.{read_head, IsLiveCell}
use Rattle.symbol_table.proofs.Keeping.{keeps_trans, names_kept}
use Rattle.written_terms.specs.declared.mention.Mention.{Mention}
use Rattle.written_terms.specs.Refusing.{RefusesCell, IsFirstRefused}
use Rattle.written_terms.specs.Answering.{IfRefused}
use Rattle.written_terms.specs.Mentions.{seen}
use Rattle.written_terms.specs.Meaning.{MeansCell}
use Rattle.written_terms.specs.Cells.{MeanCells, read_cell}
use Rattle.written_terms.proofs.Answering.{refused_as}
use Rattle.written_terms.proofs.Meanings.{first_refused, more_missing_cells, no_more_cells, one_more_cell, pattern_cells, cells_kept, live_pattern, live_cells_push}
use Rattle.written_terms.proofs.build.pattern_of.Goals as goal

pub push_cell-requires-clause-missing : goal.push_cell-requires-clause-missing
push_cell-requires-clause-missing c =
    let lt : c.loop-mention.mention-index < length (map (seen c.args.text.now) c.args.mentions.now) = omega (arith, length-map c.args.mentions.now (seen c.args.text.now)) in
    more_missing_cells (names_of c.args.symbols.now) c.loop-mention.symbols c.args.variables.now c.requires.outline.0 _ c.requires.outline.1 c.loop-mention.mention-index c.loop-mention.maker c.loop-mention.invariant.means lt

-- what was read stays, and one more lexeme means its cell
pub loop-mention-preserved : goal.loop-mention-preserved
loop-mention-preserved c =
    let first = c.args.symbols.now in
    let old = c.loop-mention.symbols in
    let new = c.cell_of.new.symbols in
    let text = c.args.text.now in
    let mentions = c.args.mentions.now in
    let i = c.loop-mention.mention-index in
    let d : Mention = record { token = record { kind = Name; from = 0; to = 0 }; args = 0 } in
    let m = get_or mentions i d in
    let keeps = c.in_ok-cell.ensures.keeps in
    let ok = c.in_ok-cell.ensures.ok in
    let live = c.loop-mention.invariant.live in
    let taken = take i (map (seen text) mentions) in
    let before = subst (MeanCells (names_of first) c.args.variables.now taken) (sym (cells_kept old new keeps c.loop-mention.maker live)) c.loop-mention.invariant.means in
    let here = subst (λ (names : Table). MeansCell names c.args.variables.now (lexeme text m.token) m.args (map_cell (read_head new) (kind_of c.in_ok-cell.cell))) (names_kept first old c.loop-mention.invariant.keeps) ok.0 in
    let more = one_more_cell (names_of first) new c.args.variables.now text mentions i d c.loop-mention-test.true c.loop-mention.maker c.in_ok-cell.cell before here ok.1 in
    record {
      keeps = keeps_trans first old new c.loop-mention.invariant.keeps keeps;
      live = subst (AllByRecursion (λ x. IsLiveCell new (kind_of x))) (sym c.in_ok-push_cell.ensures.ok) (live_cells_push old new keeps c.loop-mention.maker c.in_ok-cell.cell live ok.3);
      means = subst (λ cs. MeanCells (names_of first) c.args.variables.now (take (i + 1) (map (seen text) mentions)) (map (read_cell new) cs)) (sym c.in_ok-push_cell.ensures.ok) more;
    }

-- all of the mentions have been taken
pub finish-requires : goal.finish-requires
finish-requires c =
    let names = names_of c.args.symbols.now in
    let table = c.loop-mention.symbols in
    let xs = map (seen c.args.text.now) c.args.mentions.now in
    let all = take_all c.loop-mention.mention-index xs (omega (arith, length-map c.args.mentions.now (seen c.args.text.now))) in
    no_more_cells names table c.args.variables.now c.requires.outline.0 xs c.requires.outline.1 c.loop-mention.maker (subst (λ l. MeanCells names c.args.variables.now l (map (read_cell table) c.loop-mention.maker)) all c.loop-mention.invariant.means)

pub returns-clause-ok : goal.returns-clause-ok
returns-clause-ok c =
    let names = names_of c.args.symbols.now in
    let table = c.loop-mention.symbols in
    let xs = map (seen c.args.text.now) c.args.mentions.now in
    let all = take_all c.loop-mention.mention-index xs (omega (arith, length-map c.args.mentions.now (seen c.args.text.now))) in
    let whole = subst (λ l. MeanCells names c.args.variables.now l (map (read_cell table) c.loop-mention.maker)) all c.loop-mention.invariant.means in
    subst (MeanCells names c.args.variables.now xs) (sym (pattern_cells table c.finish.result c.loop-mention.maker c.finish.ensures)) whole

pub returns-clause-live : goal.returns-clause-live
returns-clause-live c = live_pattern c.loop-mention.symbols c.finish.result c.loop-mention.maker c.finish.ensures c.loop-mention.invariant.live

-- the mention at hand is the first that has a fault
pub returns-in_err-cell-clause-refused : goal.returns-in_err-cell-clause-refused
returns-in_err-cell-clause-refused c =
    let first = c.args.symbols.now in
    let old = c.loop-mention.symbols in
    let text = c.args.text.now in
    let mentions = c.args.mentions.now in
    let i = c.loop-mention.mention-index in
    let d : Mention = record { token = record { kind = Name; from = 0; to = 0 }; args = 0 } in
    let m = get_or mentions i d in
    let same : c.from_residual.result ≡ Err c.in_err-cell.field-0.0 = search rules in
    let names = names_kept first old c.loop-mention.invariant.keeps in
    let why = refused_as (λ f. RefusesCell (names_of old) c.args.variables.now (lexeme text m.token) m.args f.kind × (f.byte ≡ m.token.from)) (IsFirstRefused (names_of first) c.args.variables.now (map (seen text) mentions))
    (λ f h. first_refused (names_of first) c.args.variables.now text mentions i d c.loop-mention-test.true (map (read_cell old) c.loop-mention.maker) f c.loop-mention.invariant.means (subst (λ (t : Table). RefusesCell t c.args.variables.now (lexeme text m.token) m.args f.kind) names h.0) h.1)
    c.in_err-cell.field-0.0 c.in_err-cell.ensures.refused in
    subst (λ r. IfErr r (IfRefused (IsFirstRefused (names_of first) c.args.variables.now (map (seen text) mentions)))) (sym same) why

pub returns-in_err-cell-clause-keeps : goal.returns-in_err-cell-clause-keeps
returns-in_err-cell-clause-keeps c = keeps_trans c.args.symbols.now c.loop-mention.symbols c.cell_of.new.symbols c.loop-mention.invariant.keeps c.in_err-cell.ensures.keeps
