use Rattle.std.proofs.Common.{◌≡◌, List, ◌++◌, ◌∙◌, Err, rules, map, drop, ap, get_or, subst, ◌+◌, arith, length, ◌<◌, ℕ, sym}
use Rattle.std.specs.List.{flat_map}
use Rattle.def_file.specs.declared.tree.SymbolItem.{SymbolItem}
use Rattle.def_file.specs.Views.{symbol_item}
use Rattle.std.proofs.lemmas.List.{drop_all}
use Rattle.def_file.specs.Names.{Place, symbol_places}
use Rattle.def_file.specs.Naming.{IsPlaced, ArePlaced, only_symbols}
use Rattle.def_file.proofs.Namings.{drop-next, all_split, more_taken, one_refused, all_taken, taking_refused}
use Rattle.def_file.specs.Notations.{notation_of}
use Rattle.def_file.proofs.naming.symbols.take_symbols.Goals as goal

abbrev places_of_items : List SymbolItem → List Place
places_of_items items = flat_map symbol_places (map symbol_item items)

next_item : (items : List SymbolItem) (i : ℕ) (item : SymbolItem) → item ≡ get_or items i item → i < length items → places_of_items (drop i items) ≡ symbol_places (symbol_item item) ++ places_of_items (drop (i + 1) items)
next_item items i item is h = ap places_of_items (drop-next items i item h) ∙ ap (λ x. symbol_places (symbol_item x) ++ places_of_items (drop (i + 1) items)) (sym is)

pub take_item-requires-clause-placed : goal.take_item-requires-clause-placed
take_item-requires-clause-placed c =
    let next = next_item c.args.items.now c.loop-item.item-index c.item-item.result c.item-item.is c.loop-item-test.true in
    (all_split (IsPlaced c.args.text.now) _ _ (subst (ArePlaced c.args.text.now) next c.loop-item.invariant.placed)).0

pub returns-in_err-take_item : goal.returns-in_err-take_item
returns-in_err-take_item c = λ syntax.
    let same : c.from_residual.result ≡ Err c.in_err-take_item.field-0.0 = search rules in
    let next = next_item c.args.items.now c.loop-item.item-index c.item-item.result c.item-item.is c.loop-item-test.true in
    taking_refused (notation_of syntax) c.args.text.now _ _ _ _ c.in_err-take_item.field-0.0 same (one_refused (notation_of syntax) c.args.text.now _ (only_symbols c.loop-item.symbols) _ _ (symbol_places (symbol_item c.item-item.result)) _ next (c.loop-item.invariant.under_way syntax) c.in_err-take_item.field-0.0 (c.in_err-take_item.ensures.taking syntax))

pub loop-item-preserved : goal.loop-item-preserved
loop-item-preserved c =
    let next = next_item c.args.items.now c.loop-item.item-index c.item-item.result c.item-item.is c.loop-item-test.true in
    record {
      under_way = λ syntax. more_taken (notation_of syntax) c.args.text.now _ (only_symbols c.loop-item.symbols) _ _ (symbol_places (symbol_item c.item-item.result)) _ next (c.loop-item.invariant.under_way syntax) _ (c.in_ok-take_item.ensures.taking syntax);
      placed = (all_split (IsPlaced c.args.text.now) _ _ (subst (ArePlaced c.args.text.now) next c.loop-item.invariant.placed)).1;
      few = omega (arith, c.take_item.ensures.few, c.loop-item.invariant.few);
    }

pub returns : goal.returns
returns c = λ syntax. all_taken (notation_of syntax) c.args.text.now _ _ _ _ (ap places_of_items (drop_all c.loop-item.item-index c.args.items.now c.loop-item-test.false)) (c.loop-item.invariant.under_way syntax)
