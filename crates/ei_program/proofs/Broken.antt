-- What equations break, and how it is told, by their numbers and as they are read.
use Rattle.std.proofs.Common.{◌≡◌, ℕ, ◌-◌, List, [], ◌∷◌, ◌++◌, map, length, take, Bool, true, false, refl, sym, ap, ◌∙◌, Option, Some, None}
use Rattle.std.specs.Prelude.{slice_get, ◌==◌, if◌then◌else◌, flat_map, codes, decimal}
use Rattle.std.specs.Option.{option_map}
use Rattle.std.proofs.lemmas.Option.{slice_get-map}
use Rattle.eq_base.specs.Tree.{Tree, nth_position}
use Rattle.eq_base.specs.Pattern.{PatternCell, Classes}
use Rattle.eq_base.specs.Mapping.{map_cell, map_pattern, map_right, map_rule}
use Rattle.eq_base.specs.Rewriting.{RightSide, pattern, operation, Rule}
use Rattle.eq_base.specs.Rules.{rule_of}
use Rattle.eq_base.specs.RuleList.{RuleList}
use Rattle.eq_base.specs.ReadHead.{ReadHead, in_read_class}
use Rattle.eq_base.specs.declared.rules.Equation.{Equation}
use Rattle.eq_base.proofs.Mapped.{nth_position-map}
use Rattle.symbol_table.specs.Table.{Table, HasOneNumberEach}
use Rattle.symbol_table.specs.Reading.{read_head, read_rule, read_classes, AreLive}
use Rattle.regularity.specs.declared.breaks.Break.{Break}
use Rattle.regularity.specs.Listing.{Lists}
use Rattle.sequentiality.specs.Restrictions.{IsViolation}
use Rattle.sequentiality.specs.Violations as numbered
use Rattle.orthogonal_laws.proofs.ReadRestrictions.{violations_read, violations_mapped, lists_violations_read, lists_violations_mapped}
use Rattle.qualifiers.specs.Expansion.{origin_in}
use Rattle.qualifiers.specs.AsRead.{plain_equation}
use Rattle.ei_program.specs.Definitions.{rule_in}
use Rattle.ei_program.specs.Restrictions.{right_of, broken_side, broken_line, origin_name, position_name, most_told, more_line, line_by, break_line, broken_text, origin_of}

-- ---- how breaks are told

module _ {G H : Type 0} (f : G → H) where
  right-map : (left : Tree (PatternCell G)) (right : RightSide G) → right_of (map_pattern f left) (map_right f right) ≡ map_pattern f (right_of left right)
  right-map left (pattern p) = refl
  right-map left (operation op) = refl

  chosen-map : (two : Bool) (r : Rule G)
      → (if two then right_of (map_pattern f r.left) (map_right f r.right) else map_pattern f r.left) ≡ map_pattern f (if two then right_of r.left r.right else r.left)
  chosen-map true r = right-map r.left r.right
  chosen-map false r = refl

  -- a break stands at the same position, whatever the heads
  place-map : (restriction place : ℕ) (r : Rule G) → nth_position (broken_side restriction (map_rule f r)) place ≡ nth_position (broken_side restriction r) place
  place-map restriction place r = ap (λ p. nth_position p place) (chosen-map (restriction == 2) r) ∙ nth_position-map (map_cell f) (broken_side restriction r) place

module _ (table : Table) where
  line-read : (b : Break) (one other : Option Equation) → line_by rule_in origin_in b (option_map (plain_equation table) one) (option_map (plain_equation table) other) ≡ line_by rule_of origin_of b one other
  line-read b None other = refl
  line-read b (Some e) None = refl
  line-read b (Some e) (Some g) =
      ap (λ q. broken_line b.restriction (origin_name e.origin) (position_name q) (origin_name g.origin)) (place-map (read_head table) b.restriction b.place (rule_of e))

  break_line-read : (es : List Equation) (b : Break) → break_line rule_in origin_in (map (plain_equation table) es) b ≡ break_line rule_of origin_of es b
  break_line-read es b =
      ap (λ one. line_by rule_in origin_in b one (slice_get (map (plain_equation table) es) b.second)) (slice_get-map (plain_equation table) es b.first)
      ∙ ap (line_by rule_in origin_in b (option_map (plain_equation table) (slice_get es b.first))) (slice_get-map (plain_equation table) es b.second)
      ∙ line-read b (slice_get es b.first) (slice_get es b.second)

  lines-read : (es : List Equation) (bs : List Break) → flat_map (break_line rule_in origin_in (map (plain_equation table) es)) bs ≡ flat_map (break_line rule_of origin_of es) bs
  lines-read es [] = refl
  lines-read es (b ∷ bs) = ap (λ l. l ++ flat_map (break_line rule_in origin_in (map (plain_equation table) es)) bs) (break_line-read es b) ∙ ap (λ l. break_line rule_of origin_of es b ++ l) (lines-read es bs)

  -- the text is the same
  pub told_read : (es : List Equation) (bs : List Break) → broken_text rule_of origin_of es bs ≡ broken_text rule_in origin_in (map (plain_equation table) es) bs
  told_read es bs = ap (λ l. codes "ei: restrictions broken: " ++ decimal (length bs) ++ codes "\n" ++ l ++ more_line (length bs - most_told)) (sym (lines-read es (take most_told bs)))

-- ---- what they break

module _ (table : Table) (one : HasOneNumberEach table) (rules : RuleList) (live : AreLive table rules) where
  -- which read heads belong to which class
  abbrev in_read : Classes ReadHead
  in_read = in_read_class (read_classes table rules.classes)

  -- the equations as they are read break this
  abbrev BreaksRead : Break → Type 0
  BreaksRead b = IsViolation in_read rule_in (map (plain_equation table) rules.equations) b

  -- the same restrictions
  pub lists_read : (bs : List Break) → Lists (numbered.IsViolation rules) bs → Lists BreaksRead bs
  lists_read bs lists =
      (lists_violations_mapped in_read (read_rule table) rule_in (plain_equation table) (λ e. refl) rules.equations bs).0
      ((lists_violations_read table one rules live bs).0 lists)

  pub none_read : ((b : Break) → numbered.IsViolation rules b → ⊥) → (b : Break) → BreaksRead b → ⊥
  none_read none b breaks =
      none b ((violations_read table one rules live b).1 ((violations_mapped in_read (read_rule table) rule_in (plain_equation table) (λ e. refl) rules.equations b).1 breaks))
