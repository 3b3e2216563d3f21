-- How breaks of restrictions are told.
use Rattle.std.specs.Prelude.{◌≡◌, ℕ, zero, suc, ◌+◌, ◌-◌, ◌<◌, List, [], ◌∷◌, ◌++◌, flat_map, map, length}
use Rattle.std.specs.Prelude.{take, codes, decimal, slice_get, Option, Some, nat_lt, ◌==◌, if◌then◌else◌}
use Rattle.eq_base.specs.Tree.{Tree, Position, size, nth_position}
use Rattle.eq_base.specs.Pattern.{PatternCell}
use Rattle.eq_base.specs.Rewriting.{RightSide, pattern, operation, Rule}
use Rattle.eq_base.specs.Rules.{rule_of}
use Rattle.eq_base.specs.RuleList.{RuleList}
use Rattle.eq_base.specs.declared.rules.Origin.{Origin}
use Rattle.eq_base.specs.declared.rules.Equation.{Equation}
use Rattle.regularity.specs.declared.breaks.Break.{Break}
use Rattle.regularity.specs.Listing.{Lists}
use Rattle.qualifiers.specs.Expansion.{origin_in}
use Rattle.ei_program.specs.Definitions.{Definitions, rule_in, Breaks}

-- the number of a part, behind a dot, where the item has parts
abbrev pub part_name : ℕ → List ℕ
part_name zero = []
part_name (suc part) = codes "." ++ decimal (suc part)

-- the name of an equation: the number of its item, and of its part
abbrev pub origin_name : Origin → List ℕ
origin_name o = decimal o.item ++ part_name o.part

-- numbers, with a dot before each
abbrev pub behind_dots : List ℕ → List ℕ
behind_dots numbers = flat_map (λ n. codes "." ++ decimal n) numbers

-- numbers with a dot between two, or `root` where there are none
abbrev pub dotted : List ℕ → List ℕ
dotted [] = codes "root"
dotted (n ∷ ns) = decimal n ++ behind_dots ns

-- the name of a position: the numbers of the arguments on the way, counted from 1
abbrev pub position_name : Position → List ℕ
position_name q = dotted (map (λ i. i + 1) q)

-- the right side, where it is a pattern, and else the left side
abbrev pub right_of : {H : Type 0} → Tree (PatternCell H) → RightSide H → Tree (PatternCell H)
right_of left (pattern p) = p
right_of left (operation op) = left

-- where a break of the restriction stands; RE3 stands at the root, which is not told
abbrev pub broken_at : ℕ → List ℕ → List ℕ
broken_at restriction place = if restriction == 3 then [] else codes " at " ++ place

-- with which other equation a break of the restriction is; RE1 and RE2 have one equation
abbrev pub broken_with : ℕ → List ℕ → List ℕ
broken_with restriction other = if nat_lt restriction 3 then [] else codes " with equation " ++ other

-- the line of a break of a restriction, by its parts
abbrev pub joined_line : ℕ → (name at with_other : List ℕ) → List ℕ
joined_line restriction name at with_other =
    codes "RE" ++ decimal restriction ++ codes " equation " ++ name ++ at ++ with_other ++ codes "\n"

-- the line of a break of a restriction by the equation of this name, at this place, and with that other
-- equation
abbrev pub broken_line : ℕ → (name place other : List ℕ) → List ℕ
broken_line restriction name place other =
    joined_line restriction name (broken_at restriction place) (broken_with restriction other)

-- how many breaks are told
abbrev pub most_told : ℕ
most_told = 50

-- the line that tells how many more breaks there are, if there are more
abbrev pub more_line : ℕ → List ℕ
more_line zero = []
more_line (suc n) = codes "ei: " ++ decimal (suc n) ++ codes " more\n"

-- the side at which a break of the restriction stands: the right side for RE2, where it is a pattern, and
-- else the left side
abbrev pub broken_side : {H : Type 0} → ℕ → Rule H → Tree (PatternCell H)
broken_side restriction r = if restriction == 2 then right_of r.left r.right else r.left

-- Equations have rules and origins.
module _ {H E : Type 0} (rule : E → Rule H) (origin : E → Origin) where
  -- the line of a break by two equations
  abbrev pub line_of : Break → E → E → List ℕ
  line_of b one other =
      broken_line b.restriction (origin_name (origin one))
      (position_name (nth_position (broken_side b.restriction (rule one)) b.place))
      (origin_name (origin other))

  -- the same where the two equations are in the list
  abbrev pub line_by : Break → Option E → Option E → List ℕ
  line_by b (Some one) (Some other) = line_of b one other
  line_by b one other = []

  -- the line of a break
  abbrev pub break_line : List E → Break → List ℕ
  break_line equations b = line_by b (slice_get equations b.first) (slice_get equations b.second)

  -- what is told of breaks: how many they are, the first of them, and how many more there are
  abbrev pub broken_text : List E → List Break → List ℕ
  broken_text equations breaks =
      codes "ei: restrictions broken: " ++ decimal (length breaks) ++ codes "\n"
      ++ flat_map (break_line equations) (take most_told breaks)
      ++ more_line (length breaks - most_told)

-- the origin of an equation
abbrev pub origin_of : Equation → Origin
origin_of e = e.origin

-- these are the breaks of the equations, of which there is one at least; the rules that came back tell of
-- them as the equations do
pub record AreBroken (d : Definitions) (breaks : List Break) (rules : RuleList) : Type 0 where
  pub listed : Lists (Breaks d) breaks
  pub some : 0 < length breaks
  pub told : broken_text rule_of origin_of rules.equations breaks
      ≡ broken_text rule_in origin_in d.equations breaks

-- the equations of the break are in the list, and its place is one of the side at which it stands
pub record IsInList (equations : List Equation) (b : Break) : Type 0 where
  pub one : Equation
  pub other : Equation
  pub one_listed : slice_get equations b.first ≡ Some one
  pub other_listed : slice_get equations b.second ≡ Some other
  pub there : b.place < size (broken_side b.restriction (rule_of one))
