-- The next redex of a tree in which the nodes on a way down are settled is that of the tree below.
use Rattle.std.proofs.Common.{◌≡◌, ℕ, zero, suc, ◌<◌, List, [], ◌∷◌, Some, refl, subst, arith}
use Rattle.eq_base.specs.Tree.{Tree, Forest, node, empty, grow, count, Position, subtree_in}
use Rattle.eq_base.specs.Storing.{join as append}
use Rattle.eq_base.specs.Rewriting.{System, IsRedex, IsNormal}
use Rattle.orthogonal_laws.specs.Orthogonal.{IsWellFormedSystem, IsOrthogonal}
use Rattle.orthogonal_laws.specs.Strategy.{HasNoDemandedRedex, IsNext, demanded, in_argument, none_next}
use Rattle.orthogonal_laws.proofs.Deciding.{normal-no_next_redex, no_next_redex-normal}
use Rattle.match_laws.specs.Items.{ItemSet}
use Rattle.match_laws.specs.Reading.{KeepArities}
use Rattle.match_laws.specs.Demand.{HasFixedArities}
use Rattle.machine_laws.specs.Frames.{Frame, around, plug, way}
use Rattle.machine_laws.specs.Scanning.{ComesTo}
use Rattle.machine_laws.proofs.Coming.{found}
use Rattle.machine_laws.specs.Normalising.{AllTrees, AreSettledAround}

module _ {H : Type 0} where
  gone_into : (ts us : Forest H) (t : Tree H) → subtree_in (append ts (grow t us)) (count ts) [] ≡ Some t
  gone_into empty us t = refl
  gone_into (grow s ts) us t = gone_into ts us t

  among_first : (P : Tree H → Type 0) (ts us : Forest H) → AllTrees P ts → (j : ℕ) (u : Tree H) → j < count ts → subtree_in (append ts us) j [] ≡ Some u → P u
  among_first P empty us a j u l e = absurd (omega arith)
  among_first P (grow s ts) us a zero u l e = let same : s ≡ u = cc in subst P same a.0
  among_first P (grow s ts) us a (suc j) u l e = among_first P ts us a.1 j u (omega arith) e

  among_all : (P : Tree H → Type 0) (ts : Forest H) → AllTrees P ts → (j : ℕ) (u : Tree H) → subtree_in ts j [] ≡ Some u → P u
  among_all P empty a j u e = absurd (cc)
  among_all P (grow s ts) a zero u e = let same : s ≡ u = cc in subst P same a.0
  among_all P (grow s ts) a (suc j) u e = among_all P ts a.1 j u e

module _ {H : Type 0} (system : System H) (w : IsWellFormedSystem system) (o : IsOrthogonal system) where
  pub next_below : (frames : List (Frame H)) (t : Tree H) (q : Position) → AreSettledAround system frames t → IsNext system t q → IsNext system (plug frames t) (way frames q)
  next_below [] t q a n = n
  next_below (f ∷ frames) t q a n =
      next_below frames (around f t) (count f.before ∷ q) a.2
      (in_argument (count f.before) q t a.0 (gone_into f.before f.behind t) n
      (λ j u l e. normal-no_next_redex system w o u (among_first (λ t. IsNormal system t) f.before (grow t f.behind) a.1 j u l e)))

  -- a tree without a demanded redex is normal where its arguments are
  pub normal_node : (h : H) (args : Forest H) → HasNoDemandedRedex system (node h args) → AllTrees (IsNormal system) args → IsNormal system (node h args)
  normal_node h args nothing a =
      no_next_redex-normal system w o (node h args) (none_next nothing (λ j u e. normal-no_next_redex system w o u (among_all (λ t. IsNormal system t) args a j u e)))

  -- a redex to which the reading of a tree below settled nodes comes is the next redex of the whole
  pub next_found : (arity : H → ℕ) → HasFixedArities system arity → (inner outer : List (Frame H)) (items : ItemSet) (t : Tree H) → KeepArities arity (grow (plug inner t) empty) → AreSettledAround system outer (plug inner t) → ComesTo system inner items → IsRedex system t →
      IsNext system (plug outer (plug inner t)) (way outer (way inner []))
  next_found arity k inner outer items t a settled comes r = next_below outer (plug inner t) (way inner []) settled (demanded (found system w o arity k inner items t comes a r))
