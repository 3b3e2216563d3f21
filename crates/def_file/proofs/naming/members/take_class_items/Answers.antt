use Rattle.std.proofs.Common.{◌≡◌, ℕ, ◌+◌, ◌<◌, List, ◌++◌, ◌∙◌, Err, rules, map, drop, ap, get_or, subst, sym, length, arith}
use Rattle.std.proofs.lemmas.List.{drop_all}
use Rattle.def_file.specs.declared.tree.ClassItem.{ClassItem}
use Rattle.def_file.specs.Views.{class_item}
use Rattle.def_file.specs.Names.{Place, class_places, classes_places}
use Rattle.def_file.specs.Naming.{IsPlaced, ArePlaced, no_operations}
use Rattle.def_file.proofs.Namings.{drop-next, all_split, more_taken, one_refused, all_taken, taking_refused}
use Rattle.def_file.specs.Notations.{notation_of}
use Rattle.def_file.proofs.naming.members.take_class_items.Goals as goal

-- the places of the classes from a number on
abbrev places_from : List ClassItem → ℕ → List Place
places_from items i = classes_places (4 + i) (map class_item (drop i items))

next_class : (items : List ClassItem) (i k : ℕ) (item : ClassItem) → item ≡ get_or items i item → i < length items → k ≡ i
    → places_from items i ≡ class_places (4 + k) (class_item item) ++ places_from items (i + 1)
next_class items i k item is h same =
    let after : 4 + i + 1 ≡ 4 + (i + 1) = omega arith in
    ap (λ xs. classes_places (4 + i) (map class_item xs)) (drop-next items i item h)
    ∙ ap (λ x. class_places (4 + i) (class_item x) ++ classes_places (4 + i + 1) (map class_item (drop (i + 1) items))) (sym is)
    ∙ ap (λ n. class_places (4 + i) (class_item item) ++ classes_places n (map class_item (drop (i + 1) items))) after
    ∙ ap (λ n. class_places (4 + n) (class_item item) ++ places_from items (i + 1)) (sym same)

pub take_class_item-requires-clause-placed : goal.take_class_item-requires-clause-placed
take_class_item-requires-clause-placed c =
    let next = next_class c.args.items.now c.loop-item.item-index (length c.loop-item.listed.classes) c.item-item.result c.item-item.is c.loop-item-test.true c.loop-item.invariant.len in
    (all_split (IsPlaced c.args.text.now) (class_places (4 + length c.loop-item.listed.classes) (class_item c.item-item.result)) (places_from c.args.items.now (c.loop-item.item-index + 1)) (subst (ArePlaced c.args.text.now) next c.loop-item.invariant.placed)).0

pub returns-in_err-take_class_item-clause-taking : goal.returns-in_err-take_class_item-clause-taking
returns-in_err-take_class_item-clause-taking c = λ syntax.
    let same : c.from_residual.result ≡ Err c.in_err-take_class_item.field-0.0 = search rules in
    let next = next_class c.args.items.now c.loop-item.item-index (length c.loop-item.listed.classes) c.item-item.result c.item-item.is c.loop-item-test.true c.loop-item.invariant.len in
    taking_refused (notation_of syntax) c.args.text.now _ _ _ _ c.in_err-take_class_item.field-0.0 same (one_refused (notation_of syntax) c.args.text.now _ (no_operations c.args.symbols.now c.loop-item.listed) _ _ (class_places (4 + length c.loop-item.listed.classes) (class_item c.item-item.result)) _ next (c.loop-item.invariant.under_way syntax) c.in_err-take_class_item.field-0.0 (c.in_err-take_class_item.ensures.taking syntax))

pub loop-item-preserved : goal.loop-item-preserved
loop-item-preserved c =
    let next = next_class c.args.items.now c.loop-item.item-index (length c.loop-item.listed.classes) c.item-item.result c.item-item.is c.loop-item-test.true c.loop-item.invariant.len in
    record {
      under_way = λ syntax. more_taken (notation_of syntax) c.args.text.now _ (no_operations c.args.symbols.now c.loop-item.listed) _ _ (class_places (4 + length c.loop-item.listed.classes) (class_item c.item-item.result)) _ next (c.loop-item.invariant.under_way syntax) _ (c.in_ok-take_class_item.ensures.taking syntax);
      placed = (all_split (IsPlaced c.args.text.now) (class_places (4 + length c.loop-item.listed.classes) (class_item c.item-item.result)) (places_from c.args.items.now (c.loop-item.item-index + 1)) (subst (ArePlaced c.args.text.now) next c.loop-item.invariant.placed)).1;
      variables = c.take_class_item.ensures.variables ∙ c.loop-item.invariant.variables;
      named = c.in_ok-take_class_item.ensures.named;
      len = omega (arith, c.in_ok-take_class_item.ensures.len, c.loop-item.invariant.len);
      counted = c.in_ok-take_class_item.ensures.counted;
      live = c.in_ok-take_class_item.ensures.live c.loop-item.invariant.live;
    }

pub returns-clause-taking : goal.returns-clause-taking
returns-clause-taking c = λ syntax. all_taken (notation_of syntax) c.args.text.now _ _ _ _ (ap (λ xs. classes_places (4 + c.loop-item.item-index) (map class_item xs)) (drop_all c.loop-item.item-index c.args.items.now c.loop-item-test.false)) (c.loop-item.invariant.under_way syntax)
