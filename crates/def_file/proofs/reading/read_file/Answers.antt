use Rattle.std.proofs.Common.{◌≡◌, Err, rules, refl}
use Rattle.std.proofs.lemmas.Result.{err_from_is_err_and}
use Rattle.std.specs.Prelude.{codes}
use Rattle.term_lex.specs.declared.token.TokenKind.TheVariants.{End}
use Rattle.term_lex.proofs.PlainAnswers.{kind_part, word_part}
use Rattle.def_file.specs.Grammar.{IsFile}
use Rattle.def_file.specs.Views.{file}
use Rattle.def_file.proofs.Readings.{read_refused, lifted_refused, same_read, same_refused, then_read, first_refused, later_refused}
use Rattle.def_file.proofs.Rules.{symbols_part, classes_part, variables_part, items_part, from_symbol_items, from_classes, from_for, from_all, from_variables, from_items, file_to, file_from}
use Rattle.def_file.specs.Notations.{notation_of}
use Rattle.def_file.proofs.Lawful.{lawful_of}
use Rattle.def_file.proofs.WithoutTerms.{kind_never, symbols_never, the_classes_never, the_variables_never, word_never}
use Rattle.def_file.proofs.reading.read_file.Goals as goal

pub returns-in_err-symbols_at : goal.returns-in_err-symbols_at
returns-in_err-symbols_at c =
    let same : c.from_residual.result ≡ Err c.in_err-symbols_at.field-0.0 = search rules in
    read_refused (notation_of c.args.syntax).Misplaced (IsFile (notation_of c.args.syntax)) file c.args.text.now 0 _ c.in_err-symbols_at.field-0.0 same (same_refused (lawful_of c.args.syntax).telling (file_to (lawful_of c.args.syntax)) (file_from (lawful_of c.args.syntax)) c.args.text.now 0 c.in_err-symbols_at.field-0.0 (first_refused (lawful_of c.args.syntax).telling (word_part (codes "Symbols")) (from_symbol_items (lawful_of c.args.syntax)) refl refl c.args.text.now _ c.in_err-symbols_at.field-0.0 (lifted_refused (lawful_of c.args.syntax).telling (word_never (codes "Symbols")) _ _ c.in_err-symbols_at.field-0.0 c.in_err-symbols_at.ensures)))

pub returns-in_err-symbols : goal.returns-in_err-symbols
returns-in_err-symbols c =
    let same : c.from_residual-in_err-symbols.result ≡ Err c.in_err-symbols.field-0.0 = search rules in
    read_refused (notation_of c.args.syntax).Misplaced (IsFile (notation_of c.args.syntax)) file c.args.text.now 0 _ c.in_err-symbols.field-0.0 same (same_refused (lawful_of c.args.syntax).telling (file_to (lawful_of c.args.syntax)) (file_from (lawful_of c.args.syntax)) c.args.text.now 0 c.in_err-symbols.field-0.0 (later_refused (lawful_of c.args.syntax).telling (word_part (codes "Symbols")) (from_symbol_items (lawful_of c.args.syntax)) refl refl c.args.text.now _ c.in_ok-symbols_at.ensures c.in_err-symbols.field-0.0 (first_refused (lawful_of c.args.syntax).telling symbols_part (from_classes (lawful_of c.args.syntax)) refl refl c.args.text.now _ c.in_err-symbols.field-0.0 (lifted_refused (lawful_of c.args.syntax).telling symbols_never _ _ c.in_err-symbols.field-0.0 c.in_err-symbols.ensures))))

pub returns-in_err-classes : goal.returns-in_err-classes
returns-in_err-classes c =
    let same : c.from_residual-in_err-classes.result ≡ Err c.in_err-classes.field-0.0 = search rules in
    read_refused (notation_of c.args.syntax).Misplaced (IsFile (notation_of c.args.syntax)) file c.args.text.now 0 _ c.in_err-classes.field-0.0 same (same_refused (lawful_of c.args.syntax).telling (file_to (lawful_of c.args.syntax)) (file_from (lawful_of c.args.syntax)) c.args.text.now 0 c.in_err-classes.field-0.0 (later_refused (lawful_of c.args.syntax).telling (word_part (codes "Symbols")) (from_symbol_items (lawful_of c.args.syntax)) refl refl c.args.text.now _ c.in_ok-symbols_at.ensures c.in_err-classes.field-0.0 (later_refused (lawful_of c.args.syntax).telling symbols_part (from_classes (lawful_of c.args.syntax)) refl refl c.args.text.now _ c.in_ok-symbols.ensures c.in_err-classes.field-0.0 (first_refused (lawful_of c.args.syntax).telling classes_part (from_for (lawful_of c.args.syntax)) refl refl c.args.text.now _ c.in_err-classes.field-0.0 (lifted_refused (lawful_of c.args.syntax).telling the_classes_never _ _ c.in_err-classes.field-0.0 c.in_err-classes.ensures)))))

pub returns-in_err-all_at : goal.returns-in_err-all_at
returns-in_err-all_at c =
    let same : c.from_residual-in_err-all_at.result ≡ Err c.in_err-all_at.field-0.0 = search rules in
    read_refused (notation_of c.args.syntax).Misplaced (IsFile (notation_of c.args.syntax)) file c.args.text.now 0 _ c.in_err-all_at.field-0.0 same (same_refused (lawful_of c.args.syntax).telling (file_to (lawful_of c.args.syntax)) (file_from (lawful_of c.args.syntax)) c.args.text.now 0 c.in_err-all_at.field-0.0 (later_refused (lawful_of c.args.syntax).telling (word_part (codes "Symbols")) (from_symbol_items (lawful_of c.args.syntax)) refl refl c.args.text.now _ c.in_ok-symbols_at.ensures c.in_err-all_at.field-0.0 (later_refused (lawful_of c.args.syntax).telling symbols_part (from_classes (lawful_of c.args.syntax)) refl refl c.args.text.now _ c.in_ok-symbols.ensures c.in_err-all_at.field-0.0 (later_refused (lawful_of c.args.syntax).telling classes_part (from_for (lawful_of c.args.syntax)) refl refl c.args.text.now _ c.in_ok-classes.ensures c.in_err-all_at.field-0.0 (first_refused (lawful_of c.args.syntax).telling (word_part (codes "For")) (from_all (lawful_of c.args.syntax)) refl refl c.args.text.now _ c.in_err-all_at.field-0.0 (lifted_refused (lawful_of c.args.syntax).telling (word_never (codes "For")) _ _ c.in_err-all_at.field-0.0 c.in_err-all_at.ensures))))))

pub returns-in_err-variables_at : goal.returns-in_err-variables_at
returns-in_err-variables_at c =
    let same : c.from_residual-in_err-variables_at.result ≡ Err c.in_err-variables_at.field-0.0 = search rules in
    read_refused (notation_of c.args.syntax).Misplaced (IsFile (notation_of c.args.syntax)) file c.args.text.now 0 _ c.in_err-variables_at.field-0.0 same (same_refused (lawful_of c.args.syntax).telling (file_to (lawful_of c.args.syntax)) (file_from (lawful_of c.args.syntax)) c.args.text.now 0 c.in_err-variables_at.field-0.0 (later_refused (lawful_of c.args.syntax).telling (word_part (codes "Symbols")) (from_symbol_items (lawful_of c.args.syntax)) refl refl c.args.text.now _ c.in_ok-symbols_at.ensures c.in_err-variables_at.field-0.0 (later_refused (lawful_of c.args.syntax).telling symbols_part (from_classes (lawful_of c.args.syntax)) refl refl c.args.text.now _ c.in_ok-symbols.ensures c.in_err-variables_at.field-0.0 (later_refused (lawful_of c.args.syntax).telling classes_part (from_for (lawful_of c.args.syntax)) refl refl c.args.text.now _ c.in_ok-classes.ensures c.in_err-variables_at.field-0.0 (later_refused (lawful_of c.args.syntax).telling (word_part (codes "For")) (from_all (lawful_of c.args.syntax)) refl refl c.args.text.now _ c.in_ok-all_at.ensures c.in_err-variables_at.field-0.0 (first_refused (lawful_of c.args.syntax).telling (word_part (codes "all")) (from_variables (lawful_of c.args.syntax)) refl refl c.args.text.now _ c.in_err-variables_at.field-0.0 (lifted_refused (lawful_of c.args.syntax).telling (word_never (codes "all")) _ _ c.in_err-variables_at.field-0.0 c.in_err-variables_at.ensures)))))))

pub returns-in_err-variables : goal.returns-in_err-variables
returns-in_err-variables c =
    let p = err_from_is_err_and c.from_residual-in_err-variables.result c.from_residual-in_err-variables.ensures.1 in
    let same : c.from_residual-in_err-variables.result ≡ Err c.in_err-variables.field-0.0 = cc (p.1, p.2) in
    read_refused (notation_of c.args.syntax).Misplaced (IsFile (notation_of c.args.syntax)) file c.args.text.now 0 _ c.in_err-variables.field-0.0 same (same_refused (lawful_of c.args.syntax).telling (file_to (lawful_of c.args.syntax)) (file_from (lawful_of c.args.syntax)) c.args.text.now 0 c.in_err-variables.field-0.0 (later_refused (lawful_of c.args.syntax).telling (word_part (codes "Symbols")) (from_symbol_items (lawful_of c.args.syntax)) refl refl c.args.text.now _ c.in_ok-symbols_at.ensures c.in_err-variables.field-0.0 (later_refused (lawful_of c.args.syntax).telling symbols_part (from_classes (lawful_of c.args.syntax)) refl refl c.args.text.now _ c.in_ok-symbols.ensures c.in_err-variables.field-0.0 (later_refused (lawful_of c.args.syntax).telling classes_part (from_for (lawful_of c.args.syntax)) refl refl c.args.text.now _ c.in_ok-classes.ensures c.in_err-variables.field-0.0 (later_refused (lawful_of c.args.syntax).telling (word_part (codes "For")) (from_all (lawful_of c.args.syntax)) refl refl c.args.text.now _ c.in_ok-all_at.ensures c.in_err-variables.field-0.0 (later_refused (lawful_of c.args.syntax).telling (word_part (codes "all")) (from_variables (lawful_of c.args.syntax)) refl refl c.args.text.now _ c.in_ok-variables_at.ensures c.in_err-variables.field-0.0 (first_refused (lawful_of c.args.syntax).telling variables_part (from_items (lawful_of c.args.syntax)) refl refl c.args.text.now _ c.in_err-variables.field-0.0 (lifted_refused (lawful_of c.args.syntax).telling the_variables_never _ _ c.in_err-variables.field-0.0 c.in_err-variables.ensures))))))))

pub returns-in_err-items : goal.returns-in_err-items
returns-in_err-items c =
    let p = err_from_is_err_and c.from_residual-in_err-items.result c.from_residual-in_err-items.ensures.1 in
    let same : c.from_residual-in_err-items.result ≡ Err c.in_err-items.field-0.0 = cc (p.1, p.2) in
    read_refused (notation_of c.args.syntax).Misplaced (IsFile (notation_of c.args.syntax)) file c.args.text.now 0 _ c.in_err-items.field-0.0 same (same_refused (lawful_of c.args.syntax).telling (file_to (lawful_of c.args.syntax)) (file_from (lawful_of c.args.syntax)) c.args.text.now 0 c.in_err-items.field-0.0 (later_refused (lawful_of c.args.syntax).telling (word_part (codes "Symbols")) (from_symbol_items (lawful_of c.args.syntax)) refl refl c.args.text.now _ c.in_ok-symbols_at.ensures c.in_err-items.field-0.0 (later_refused (lawful_of c.args.syntax).telling symbols_part (from_classes (lawful_of c.args.syntax)) refl refl c.args.text.now _ c.in_ok-symbols.ensures c.in_err-items.field-0.0 (later_refused (lawful_of c.args.syntax).telling classes_part (from_for (lawful_of c.args.syntax)) refl refl c.args.text.now _ c.in_ok-classes.ensures c.in_err-items.field-0.0 (later_refused (lawful_of c.args.syntax).telling (word_part (codes "For")) (from_all (lawful_of c.args.syntax)) refl refl c.args.text.now _ c.in_ok-all_at.ensures c.in_err-items.field-0.0 (later_refused (lawful_of c.args.syntax).telling (word_part (codes "all")) (from_variables (lawful_of c.args.syntax)) refl refl c.args.text.now _ c.in_ok-variables_at.ensures c.in_err-items.field-0.0 (later_refused (lawful_of c.args.syntax).telling variables_part (from_items (lawful_of c.args.syntax)) refl refl c.args.text.now _ c.in_ok-variables.ensures c.in_err-items.field-0.0 (first_refused (lawful_of c.args.syntax).telling (items_part (lawful_of c.args.syntax)) (kind_part End) refl refl c.args.text.now _ c.in_err-items.field-0.0 c.in_err-items.ensures))))))))

pub returns-in_err-end : goal.returns-in_err-end
returns-in_err-end c =
    let p = err_from_is_err_and c.from_residual-in_err-end.result c.from_residual-in_err-end.ensures.1 in
    let same : c.from_residual-in_err-end.result ≡ Err c.in_err-end.field-0.0 = cc (p.1, p.2) in
    read_refused (notation_of c.args.syntax).Misplaced (IsFile (notation_of c.args.syntax)) file c.args.text.now 0 _ c.in_err-end.field-0.0 same (same_refused (lawful_of c.args.syntax).telling (file_to (lawful_of c.args.syntax)) (file_from (lawful_of c.args.syntax)) c.args.text.now 0 c.in_err-end.field-0.0 (later_refused (lawful_of c.args.syntax).telling (word_part (codes "Symbols")) (from_symbol_items (lawful_of c.args.syntax)) refl refl c.args.text.now _ c.in_ok-symbols_at.ensures c.in_err-end.field-0.0 (later_refused (lawful_of c.args.syntax).telling symbols_part (from_classes (lawful_of c.args.syntax)) refl refl c.args.text.now _ c.in_ok-symbols.ensures c.in_err-end.field-0.0 (later_refused (lawful_of c.args.syntax).telling classes_part (from_for (lawful_of c.args.syntax)) refl refl c.args.text.now _ c.in_ok-classes.ensures c.in_err-end.field-0.0 (later_refused (lawful_of c.args.syntax).telling (word_part (codes "For")) (from_all (lawful_of c.args.syntax)) refl refl c.args.text.now _ c.in_ok-all_at.ensures c.in_err-end.field-0.0 (later_refused (lawful_of c.args.syntax).telling (word_part (codes "all")) (from_variables (lawful_of c.args.syntax)) refl refl c.args.text.now _ c.in_ok-variables_at.ensures c.in_err-end.field-0.0 (later_refused (lawful_of c.args.syntax).telling variables_part (from_items (lawful_of c.args.syntax)) refl refl c.args.text.now _ c.in_ok-variables.ensures c.in_err-end.field-0.0 (later_refused (lawful_of c.args.syntax).telling (items_part (lawful_of c.args.syntax)) (kind_part End) refl refl c.args.text.now _ c.in_ok-items.ensures c.in_err-end.field-0.0 (lifted_refused (lawful_of c.args.syntax).telling (kind_never End refl) _ _ c.in_err-end.field-0.0 c.in_err-end.ensures)))))))))

pub returns : goal.returns
returns c = same_read (file_to (lawful_of c.args.syntax)) (file_from (lawful_of c.args.syntax)) c.args.text.now 0 (λ xs s. s) (then_read (word_part (codes "Symbols")) (from_symbol_items (lawful_of c.args.syntax)) refl c.args.text.now _ c.in_ok-symbols_at.ensures (then_read symbols_part (from_classes (lawful_of c.args.syntax)) refl c.args.text.now _ c.in_ok-symbols.ensures (then_read classes_part (from_for (lawful_of c.args.syntax)) refl c.args.text.now _ c.in_ok-classes.ensures (then_read (word_part (codes "For")) (from_all (lawful_of c.args.syntax)) refl c.args.text.now _ c.in_ok-all_at.ensures (then_read (word_part (codes "all")) (from_variables (lawful_of c.args.syntax)) refl c.args.text.now _ c.in_ok-variables_at.ensures (then_read variables_part (from_items (lawful_of c.args.syntax)) refl c.args.text.now _ c.in_ok-variables.ensures (then_read (items_part (lawful_of c.args.syntax)) (kind_part End) refl c.args.text.now _ c.in_ok-items.ensures c.in_ok-end.ensures)))))))
