-- Each number in the equations of an expansion is live.
use Rattle.std.proofs.Common.{ℕ, List, [], ◌∷◌, map, Result, Ok, Err, sym, subst}
use Rattle.std.specs.Prelude.{Contains, IfOk}
use Rattle.std.specs.List.{AllByRecursion, flat_map}
use Rattle.std.proofs.lemmas.List.Elements.{Contains-append_left, Contains-append_right}
use Rattle.eq_base.specs.Tree.{Tree, Forest, node, empty, grow, AllHeadsIn}
use Rattle.eq_base.specs.Pattern.{PatternCell, fixed, variable, restricted, variables, all_variables}
use Rattle.eq_base.specs.Rules.{right_side}
use Rattle.eq_base.specs.Operations.{application}
use Rattle.eq_base.specs.RuleList.{RuleList}
use Rattle.eq_base.specs.declared.head.Head.{Head}
use Rattle.eq_base.specs.declared.head.Head.TheVariants.{Symbol}
use Rattle.eq_base.specs.declared.rules.Op.{Op}
use Rattle.eq_base.specs.declared.rules.Op.TheVariants.{AddInt, SubInt, MultInt, DivInt, ModInt, EquInt, LessInt, EquAtom, EquStr, ConcatStr, LengthStr}
use Rattle.eq_base.specs.declared.rules.Right.{Right}
use Rattle.eq_base.specs.declared.rules.Right.TheVariants as rights
use Rattle.eq_base.specs.declared.rules.Equation.{Equation}
use Rattle.eq_base.proofs.Lists.{all_both, all_at}
use Rattle.symbol_table.specs.Table.{Table, IsLive, names_of}
use Rattle.symbol_table.specs.Reading.{IsLiveCell, IsLivePattern, IsLiveRight, IsLiveEquation, AreLiveEquations, AreLiveClasses, AreLive}
use Rattle.def_file.specs.declared.definitions.Qualifier.{Qualifier}
use Rattle.def_file.specs.declared.definitions.Item.{Item}
use Rattle.def_file.specs.declared.definitions.Item.TheVariants as item
use Rattle.def_file.specs.declared.definitions.Numbered.{Numbered}
use Rattle.def_file.specs.declared.definitions.Definitions.{Definitions}
use Rattle.def_file.specs.declared.error.FileError.{FileError}
use Rattle.def_file.specs.Errors.{AnswersRight}
use Rattle.def_file.specs.AsRead.{QualifierOf, ItemOf, Equation as WrittenEquation, Class, NumberedOf, IsLiveItem, AreLiveItems}
use Rattle.qualifiers.specs.Replacing.{Replacement, replace, replace_all}
use Rattle.qualifiers.specs.Instances.{parts_of}
use Rattle.qualifiers.specs.Equations.{Unnumbered}
use Rattle.qualifiers.specs.Expansion.{HasNoCircle, Gives, Expands}
use Rattle.qualifiers.specs.Held.{qualifiers_held, item_held, numbered_held, items_held, unnumbered_held}
use Rattle.qualifiers.specs.Counting.{IsExpansionOf}
use Rattle.qualifiers.proofs.Members.{contains_first}
use Rattle.qualifiers.proofs.MappedEquations.{all_mapped, all_unmapped}
use Rattle.qualifiers.proofs.EachEquation.{IsKept, OnRight, OnSides, choices_keep, each_expanded}

module _ (table : Table) where
  -- a replaced pattern is live where what replaces its variables is
  mutual
    live-replace : (θ : Replacement Head) (p : Tree (PatternCell Head)) → IsLivePattern table p → ((x : ℕ) → Contains (variables p) x → IsLivePattern table (θ x)) → IsLivePattern table (replace θ p)
    live-replace θ (node (fixed h) ps) live each = (live.0, all_live-replace θ ps live.1 each)
    live-replace θ (node (variable x) ps) live each = each x (contains_first x [])
    live-replace θ (node (restricted x class) ps) live each = live

    all_live-replace : (θ : Replacement Head) (ps : Forest (PatternCell Head)) → AllHeadsIn (IsLiveCell table) ps → ((x : ℕ) → Contains (all_variables ps) x → IsLivePattern table (θ x)) → AllHeadsIn (IsLiveCell table) (replace_all θ ps)
    all_live-replace θ empty live each = tt
    all_live-replace θ (grow p ps) live each = (
      live-replace θ p live.0 (λ x c. each x (Contains-append_left (variables p) (all_variables ps) x c)),
      all_live-replace θ ps live.1 (λ x c. each x (Contains-append_right (variables p) (all_variables ps) x c)),
    )

  live_kept : IsKept (IsLivePattern table)
  live_kept = record { of_variable = λ x. (tt, tt); of_replaced = live-replace }

  -- ---- equations

  abbrev IsLiveUnnumbered : Unnumbered Head → Type 0
  IsLiveUnnumbered e = OnSides (IsLivePattern table) e

  abbrev IsLiveHeld : ItemOf Head → Type 0
  IsLiveHeld (WrittenEquation w) = AllByRecursion (IsLivePattern table) (parts_of w)
  IsLiveHeld (Class op byte) = Unit {0}

  live_alternatives : (qs : List Qualifier) → AllByRecursion (λ (q : Qualifier). AllByRecursion (IsLivePattern table) q.choices) qs → AllByRecursion (IsLivePattern table) (flat_map (λ (q : QualifierOf Head). q.choices) (qualifiers_held qs))
  live_alternatives [] live = tt
  live_alternatives (q ∷ qs) live =
      all_both (IsLivePattern table) q.choices (flat_map (λ (r : QualifierOf Head). r.choices) (qualifiers_held qs)) live.0 (live_alternatives qs live.1)

  live_held : (i : Item) → IsLiveItem table i → IsLiveHeld (item_held i)
  live_held (item.Equation w) live = (live.left, (live.right, live_alternatives w.qualifiers live.choices))
  live_held (item.Class op byte) live = tt

  live_application : (op : Op) (s : ℕ) → IsLive table s → IsLivePattern table (application op (Symbol s))
  live_application AddInt s live = (live, ((tt, tt), ((tt, tt), tt)))
  live_application SubInt s live = (live, ((tt, tt), ((tt, tt), tt)))
  live_application MultInt s live = (live, ((tt, tt), ((tt, tt), tt)))
  live_application DivInt s live = (live, ((tt, tt), ((tt, tt), tt)))
  live_application ModInt s live = (live, ((tt, tt), ((tt, tt), tt)))
  live_application EquInt s live = (live, ((tt, tt), ((tt, tt), tt)))
  live_application LessInt s live = (live, ((tt, tt), ((tt, tt), tt)))
  live_application EquAtom s live = (live, ((tt, tt), ((tt, tt), tt)))
  live_application EquStr s live = (live, ((tt, tt), ((tt, tt), tt)))
  live_application ConcatStr s live = (live, ((tt, tt), ((tt, tt), tt)))
  live_application LengthStr s live = (live, ((tt, tt), tt))

  live_given : (number : ℕ) (i : ItemOf Head) (es : List (Unnumbered Head)) → IsLiveHeld i → HasNoCircle i → Gives Symbol (names_of table) number i es → AllByRecursion IsLiveUnnumbered es
  live_given number (WrittenEquation w) es live none gives = choices_keep (IsLivePattern table) live_kept w none live number es gives
  live_given number (Class op byte) es live none (e, of, is) =
      let one : IsLiveUnnumbered e = subst IsLiveUnnumbered (sym of.is) (live_application op of.symbol (_, _, of.declared), tt) in
      subst (AllByRecursion IsLiveUnnumbered) (sym is) (one, tt)

  live_expanded : (ns : List Numbered) (es : List (Unnumbered Head)) → AreLiveItems table ns → Expands Symbol (names_of table) [] (items_held ns) es → AllByRecursion IsLiveUnnumbered es
  live_expanded ns es live is =
      let held = all_mapped (λ (n : Numbered). IsLiveItem table n.item) (λ (n : NumberedOf Head). IsLiveHeld n.item) numbered_held (λ n. live_held n.item) ns live in
      each_expanded Symbol (names_of table) IsLiveUnnumbered IsLiveHeld live_given [] (items_held ns) es held is

  live_right : (right : Right) → OnRight (IsLivePattern table) (right_side right) → IsLiveRight table right
  live_right (rights.Tree p) live = live
  live_right (rights.Schema op) live = tt

  live_equation : (e : Equation) → IsLiveUnnumbered (unnumbered_held e) → IsLiveEquation table e
  live_equation e live = record { left = live.0; right = live_right e.right live.1 }

  live_equations : (es : List Equation) → AllByRecursion IsLiveUnnumbered (map unnumbered_held es) → AreLiveEquations table es
  live_equations es live = λ n d lt. all_at (IsLiveEquation table) es n d lt (all_unmapped (IsLiveEquation table) IsLiveUnnumbered unnumbered_held live_equation es live)

pub live_expansion : (d : Definitions) (r : Result RuleList FileError) → AreLiveItems d.symbols d.items → AreLiveClasses d.symbols d.classes → AnswersRight (IsExpansionOf d) r → IfOk r (AreLive d.symbols)
live_expansion d (Ok rules) live members is = record {
  classes = subst (AreLiveClasses d.symbols) (sym is.2) members;
  equations = live_equations d.symbols rules.equations (live_expanded d.symbols d.items (map unnumbered_held rules.equations) live is.0);
}
live_expansion d (Err e) live members is = tt
