use Rattle.std.proofs.Common.{◌≡◌, List, ◌++◌, ◌∙◌, Err, rules, map, drop, ap, get_or, subst, ◌+◌, length, ◌<◌, ◌≤◌, ℕ, sym, [], ◌∷◌, refl, take, arith}
use Rattle.std.proofs.lemmas.List.{drop_all, take_all, length-map, length-take}
use Rattle.std.proofs.lemmas.Result.{err_from_is_err_and}
use Rattle.std.specs.List.{flat_map}
use Rattle.def_file.specs.declared.error.FileError.TheVariants.{NoMemory}
use Rattle.symbol_table.proofs.Keeping.{keeps_refl, keeps_trans}
use Rattle.def_file.specs.declared.tree.EquationItem.{EquationItem}
use Rattle.def_file.specs.Views.{equation_item}
use Rattle.def_file.specs.Names.{Place, item_places}
use Rattle.def_file.specs.Naming.{IsPlaced, ArePlaced, knowing}
use Rattle.def_file.specs.declared.naming.items.TakenItem.{TakenItem}
use Rattle.def_file.specs.Trees.{EquationItem as WrittenItem}
use Rattle.def_file.specs.Sides.{equation_of, all_limits, AnswersLimits}
use Rattle.def_file.specs.AsRead.{numbered_read, AreLiveItems}
use Rattle.def_file.specs.Definitions.{MeanItems}
use Rattle.def_file.specs.Taking.{TakesItem, items_behind, equations_behind, fault_behind}
use Rattle.def_file.proofs.Pairs.{map_next}
use Rattle.def_file.proofs.Meant.{item_more, live_more, limits_more, count_more, few_more}
use Rattle.def_file.proofs.Namings.{drop-next, all_split, none_taken, more_taken, one_refused, all_taken, taking_refused}
use Rattle.def_file.specs.Notations.{notation_of}
use Rattle.def_file.proofs.naming.items.take_items.Goals as goal

abbrev places_of_items : List EquationItem → List Place
places_of_items items = flat_map item_places (map equation_item items)

next_item : (items : List EquationItem) (i : ℕ) (item : EquationItem) → item ≡ get_or items i item → i < length items → places_of_items (drop i items) ≡ item_places (equation_item item) ++ places_of_items (drop (i + 1) items)
next_item items i item is h = ap places_of_items (drop-next items i item h) ∙ ap (λ x. item_places (equation_item x) ++ places_of_items (drop (i + 1) items)) (sym is)

abbrev items_before : List EquationItem → ℕ → List WrittenItem
items_before items i = map equation_item (take i items)

number_of : (items : List EquationItem) (i : ℕ) → i < length items → 1 + length (items_before items i) ≡ i + 1
number_of items i lt = omega (arith, length-map (take i items) equation_item, length-take i items, lt)

few_behind : (before i : ℕ) (t : TakenItem) → before ≤ i → equations_behind before t ≤ i + 1
few_behind before i t le = omega (arith, few_more before t, le)

pub loop-i-init : goal.loop-i-init
loop-i-init c = record {
  under_way = none_taken (notation_of c.args.syntax) c.args.text.now _ _;
  placed = c.requires.placed;
  keeps = keeps_refl _;
  few = omega arith;
  equations = refl;
  items = λ later operations k. ap (map (numbered_read later)) c.new.ensures.items;
  live = λ later operations k. subst (AreLiveItems later) (sym c.new.ensures.items) tt;
  limits = λ later operations k. tt;
}

pub take_item-requires : goal.take_item-requires
take_item-requires c = record { placed = (all_split (IsPlaced c.args.text.now) (item_places (equation_item c.index-items-i.result)) (places_of_items (drop (c.loop-i.i + 1) c.args.items.now)) (subst (ArePlaced c.args.text.now) (next_item c.args.items.now c.loop-i.i c.index-items-i.result c.index-items-i.is c.loop-i-test.true) c.loop-i.invariant.placed)).0 }

pub returns-in_err-next-clause-taking : goal.returns-in_err-next-clause-taking
returns-in_err-next-clause-taking c =
    let same : c.from_residual.result ≡ Err c.in_err-next.field-0.0 = search rules in
    taking_refused (notation_of c.args.syntax) c.args.text.now (knowing c.args.symbols.now c.args.listed.now c.args.operations.now.items) (knowing c.take_item.new.symbols c.args.listed.now c.take_item.new.operations.items) (places_of_items c.args.items.now) c.from_residual.result c.in_err-next.field-0.0 same (one_refused (notation_of c.args.syntax) c.args.text.now (knowing c.args.symbols.now c.args.listed.now c.args.operations.now.items) (knowing c.loop-i.symbols c.args.listed.now c.loop-i.operations.items) (places_of_items c.args.items.now) (places_of_items (drop c.loop-i.i c.args.items.now)) (item_places (equation_item c.index-items-i.result)) (places_of_items (drop (c.loop-i.i + 1) c.args.items.now)) (next_item c.args.items.now c.loop-i.i c.index-items-i.result c.index-items-i.is c.loop-i-test.true) c.loop-i.invariant.under_way c.in_err-next.field-0.0 c.in_err-next.ensures.taking)

pub returns-in_err-next-clause-keeps : goal.returns-in_err-next-clause-keeps
returns-in_err-next-clause-keeps c = keeps_trans _ _ _ c.loop-i.invariant.keeps c.take_item.ensures.keeps

pub returns-in_err-push-clause-keeps : goal.returns-in_err-push-clause-keeps
returns-in_err-push-clause-keeps c = keeps_trans _ _ _ c.loop-i.invariant.keeps c.take_item.ensures.keeps

pub loop-i-preserved : goal.loop-i-preserved
loop-i-preserved c = record {
  under_way = more_taken (notation_of c.args.syntax) c.args.text.now (knowing c.args.symbols.now c.args.listed.now c.args.operations.now.items) (knowing c.loop-i.symbols c.args.listed.now c.loop-i.operations.items) (places_of_items c.args.items.now) (places_of_items (drop c.loop-i.i c.args.items.now)) (item_places (equation_item c.index-items-i.result)) (places_of_items (drop (c.loop-i.i + 1) c.args.items.now)) (next_item c.args.items.now c.loop-i.i c.index-items-i.result c.index-items-i.is c.loop-i-test.true) c.loop-i.invariant.under_way (knowing c.take_item.new.symbols c.args.listed.now c.take_item.new.operations.items) c.in_ok-next.ensures.taking;
  placed = (all_split (IsPlaced c.args.text.now) (item_places (equation_item c.index-items-i.result)) (places_of_items (drop (c.loop-i.i + 1) c.args.items.now)) (subst (ArePlaced c.args.text.now) (next_item c.args.items.now c.loop-i.i c.index-items-i.result c.index-items-i.is c.loop-i-test.true) c.loop-i.invariant.placed)).1;
  keeps = keeps_trans _ _ _ c.loop-i.invariant.keeps c.take_item.ensures.keeps;
  few = subst (λ n. n ≤ c.loop-i.i + 1) (sym c.in_ok-push.ensures.equations) (few_behind c.loop-i.taken.equations c.loop-i.i c.in_ok-next.next c.loop-i.invariant.few);
  equations = c.in_ok-push.ensures.equations ∙ count_more (notation_of c.args.syntax) c.args.text.now (knowing c.take_item.new.symbols c.args.listed.now []) c.take_item.new.symbols c.loop-i.taken.equations (items_before c.args.items.now c.loop-i.i) (equation_item c.index-items-i.result) c.in_ok-next.next c.loop-i.invariant.equations (c.in_ok-next.ensures.item c.take_item.new.symbols [] (keeps_refl _)) ∙ ap (λ xs. length (flat_map equation_of xs)) (sym (map_next equation_item c.args.items.now c.loop-i.i c.index-items-i.result c.index-items-i.result c.index-items-i.is c.loop-i-test.true));
  items = λ later operations k.
      let known = knowing later c.args.listed.now operations in
      let taken = c.in_ok-next.ensures.item later operations k in
      let before = c.loop-i.invariant.items later operations (keeps_trans _ _ _ c.take_item.ensures.keeps k) in
      let xs = items_before c.args.items.now c.loop-i.i in
      let more = item_more (notation_of c.args.syntax) c.args.text.now known later 1 c.loop-i.taken.equations xs (equation_item c.index-items-i.result) c.loop-i.taken.items.items c.in_ok-next.next before taken in
      let counted = subst (λ n. MeanItems (notation_of c.args.syntax) c.args.text.now known 1 (xs ++ equation_item c.index-items-i.result ∷ []) (map (numbered_read later) (items_behind n c.loop-i.taken.items.items c.in_ok-next.next))) (number_of c.args.items.now c.loop-i.i c.loop-i-test.true) more in
      let listed = subst (λ ys. MeanItems (notation_of c.args.syntax) c.args.text.now known 1 ys (map (numbered_read later) (items_behind (c.loop-i.i + 1) c.loop-i.taken.items.items c.in_ok-next.next))) (sym (map_next equation_item c.args.items.now c.loop-i.i c.index-items-i.result c.index-items-i.result c.index-items-i.is c.loop-i-test.true)) counted in
      subst (λ is. MeanItems (notation_of c.args.syntax) c.args.text.now known 1 (items_before c.args.items.now (c.loop-i.i + 1)) (map (numbered_read later) is)) (sym c.in_ok-push.ensures.items) listed;
  live = λ later operations k.
      let before = c.loop-i.invariant.live later operations (keeps_trans _ _ _ c.take_item.ensures.keeps k) in
      subst (AreLiveItems later) (sym c.in_ok-push.ensures.items)
      (live_more (notation_of c.args.syntax) c.args.text.now (knowing later c.args.listed.now operations) later (c.loop-i.i + 1) c.loop-i.taken.equations (equation_item c.index-items-i.result) c.loop-i.taken.items.items c.in_ok-next.next before (c.in_ok-next.ensures.item later operations k));
  limits = λ later operations k.
      let known = knowing later c.args.listed.now operations in
      let xs = items_before c.args.items.now c.loop-i.i in
      let x = equation_item c.index-items-i.result in
      let taken = subst (λ n. TakesItem (notation_of c.args.syntax) c.args.text.now known later n x c.in_ok-next.next) c.loop-i.invariant.equations (c.in_ok-next.ensures.item later operations k) in
      let before = c.loop-i.invariant.limits later operations (keeps_trans _ _ _ c.take_item.ensures.keeps k) in
      let more = limits_more (notation_of c.args.syntax) c.args.text.now known later xs x c.loop-i.taken.fault c.in_ok-next.next before taken in
      let listed = subst (λ ys. AnswersLimits (notation_of c.args.syntax) c.args.text.now known (all_limits 0 (flat_map equation_of ys)) (fault_behind c.loop-i.taken.fault c.in_ok-next.next)) (sym (map_next equation_item c.args.items.now c.loop-i.i c.index-items-i.result c.index-items-i.result c.index-items-i.is c.loop-i-test.true)) more in
      subst (AnswersLimits (notation_of c.args.syntax) c.args.text.now known (all_limits 0 (flat_map equation_of (items_before c.args.items.now (c.loop-i.i + 1))))) (sym c.in_ok-push.ensures.fault) listed;
}

pub returns-clause-taking : goal.returns-clause-taking
returns-clause-taking c = all_taken (notation_of c.args.syntax) c.args.text.now (knowing c.args.symbols.now c.args.listed.now c.args.operations.now.items) (knowing c.loop-i.symbols c.args.listed.now c.loop-i.operations.items) (places_of_items c.args.items.now) (places_of_items (drop c.loop-i.i c.args.items.now)) (ap places_of_items (drop_all c.loop-i.i c.args.items.now c.loop-i-test.false)) c.loop-i.invariant.under_way

pub push-requires : goal.push-requires
push-requires c = omega (arith, c.loop-i.invariant.few, c.loop-i-test.true, c.requires.room)

pub returns-in_err-push-clause-taking : goal.returns-in_err-push-clause-taking
returns-in_err-push-clause-taking c =
    let p = err_from_is_err_and c.from_residual-in_err-push.result c.from_residual-in_err-push.ensures.1 in
    let same : c.from_residual-in_err-push.result ≡ Err NoMemory = cc (p.1, p.2) in
    taking_refused (notation_of c.args.syntax) c.args.text.now (knowing c.args.symbols.now c.args.listed.now c.args.operations.now.items) (knowing c.take_item.new.symbols c.args.listed.now c.take_item.new.operations.items) (places_of_items c.args.items.now) c.from_residual-in_err-push.result NoMemory same tt

pub returns-clause-items : goal.returns-clause-items
returns-clause-items c = λ later operations k. subst (λ xs. MeanItems (notation_of c.args.syntax) c.args.text.now (knowing later c.args.listed.now operations) 1 (map equation_item xs) (map (numbered_read later) c.loop-i.taken.items.items)) (take_all c.loop-i.i c.args.items.now c.loop-i-test.false) (c.loop-i.invariant.items later operations k)

pub returns-clause-limits : goal.returns-clause-limits
returns-clause-limits c = λ later operations k. subst (λ xs. AnswersLimits (notation_of c.args.syntax) c.args.text.now (knowing later c.args.listed.now operations) (all_limits 0 (flat_map equation_of (map equation_item xs))) c.loop-i.taken.fault) (take_all c.loop-i.i c.args.items.now c.loop-i-test.false) (c.loop-i.invariant.limits later operations k)
