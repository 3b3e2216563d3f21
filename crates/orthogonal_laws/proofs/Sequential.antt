-- Which decision trees are those of a regular list of rules.
use Rattle.eq_base.specs.Tree.{Tree}
use Rattle.eq_base.specs.Pattern.{PatternCell}
use Rattle.orthogonal_laws.proofs.LeftSides.{Label}
use Rattle.orthogonal_laws.proofs.Matchers.{Matcher, Read, Skip, End, Done, Stop}

-- read side by side, neither reads a head where the other leaves a part open; and where both come to their end, D holds of their right sides
pub data Beside {H : Type 0} (D : Tree (PatternCell H) → Tree (PatternCell H) → Type 0) : Matcher H → Matcher H → Type 0 where
  beside_read : {f g : Label H → Matcher H} → ((h : Label H) → Beside D (f h) (g h)) → Beside D (Read f) (Read g)
  beside_skip : {a b : Matcher H} → Beside D a b → Beside D (Skip a) (Skip b)
  beside_end : {a b : Matcher H} → Beside D a b → Beside D (End a) (End b)
  beside_done : {r s : Tree (PatternCell H)} → D r s → Beside D (Done r) (Done s)
  beside_stop_left : {b : Matcher H} → Beside D Stop b
  beside_stop_right : {a : Matcher H} → Beside D a Stop

-- no list of trees is read to the end by both
abbrev pub Apart : {H : Type 0} → Matcher H → Matcher H → Type 0
Apart {H} a b = Beside {H = H} (λ r s. ⊥) a b

-- wherever the matcher reads a head, what it may go on with is apart from the left sides with that head
pub data Guarded {H : Type 0} (start : Label H → Matcher H) : Matcher H → Type 0 where
  guarded_read : {f : Label H → Matcher H} → ((h : Label H) → Apart (f h) (start h)) → ((h : Label H) → Guarded start (f h)) → Guarded start (Read f)
  guarded_skip : {m : Matcher H} → Guarded start m → Guarded start (Skip m)
  guarded_end : {m : Matcher H} → Guarded start m → Guarded start (End m)
  guarded_done : {r : Tree (PatternCell H)} → Guarded start (Done r)
  guarded_stop : Guarded start Stop

-- no left side overlaps with another, or with itself, below its root, and all can be told apart from left to right
abbrev pub Sequential : {H : Type 0} → (Label H → Matcher H) → Type 0
Sequential {H} start = (h : Label H) → Guarded start (start h)
