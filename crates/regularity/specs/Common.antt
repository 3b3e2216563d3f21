-- Common instances of two patterns.
use Rattle.eq_base.specs.Tree.{Tree, Position}
use Rattle.eq_base.specs.Pattern.{PatternCell, Classes}
use Rattle.eq_base.specs.Testing.{ClashAt}

-- two patterns have a common instance: they clash at no position
abbrev pub HaveCommon : {H : Type 0} → Classes H → Tree (PatternCell H) → Tree (PatternCell H) → Type 0
HaveCommon in_class p r = (q : Position) → ClashAt in_class p r q → ⊥
