-- The last tested cells of all left sides, as they are found.
use Rattle.std.proofs.Common.{◌≡◌, ℕ, ◌+◌, ◌<◌, List, [], ◌∷◌, ◌++◌, length, slice_get, Some, refl, sym, subst, arith, ⊎_elim, length-append}
use Rattle.std.proofs.lemmas.Option.{none-some}
use Rattle.eq_base.specs.Tree.{Tree, head_of, size, nth_subtree}
use Rattle.eq_base.specs.Pattern.{PatternCell, IsTested}
use Rattle.eq_base.specs.RuleList.{RuleList}
use Rattle.eq_base.specs.declared.head.Head.{Head}
use Rattle.eq_base.specs.declared.rules.Equation.{Equation}
use Rattle.regularity.specs.WellFormed.{IsWellFormed, AreWellFormed}
use Rattle.match_laws.specs.Demand.{left_sides_of}
use Rattle.match_tables.specs.Ending.{IsEndOf}
use Rattle.match_tables.specs.Completing.{IsEnd, AreEnds}
use Rattle.match_tables.specs.declared.completed.End.{End}
use Rattle.match_tables.proofs.Places.{contains_from_place, old_or_last}
use Rattle.match_tables.proofs.Moved.{listed-left, cell-of, length-left_sides_of}

module _ (rules : RuleList) where
  -- an equation of the list is well formed
  pub well-formed-at : AreWellFormed rules → (e : ℕ) (equation : Equation) → slice_get rules.equations e ≡ Some equation → IsWellFormed equation
  well-formed-at w e equation listed =
      let x = contains_from_place rules.equations e equation listed in
      subst IsWellFormed x.2 (w.each x.0 equation x.1)

  -- the last tested cell of the left side of an equation
  pub end-is : (e : ℕ) (equation : Equation) (end : End) → slice_get rules.equations e ≡ Some equation → IsEndOf equation.left end → IsEnd rules e end
  end-is e equation end listed is =
      let at : slice_get (left_sides_of rules) e ≡ Some equation.left = listed-left rules e equation listed in
      record {
        cell = head_of (nth_subtree equation.left end.cell);
        is_cell = cell-of rules e equation listed end.cell is.last.there;
        tested = is.last.tested;
        last = λ k cell more i t.
            let same : i.left ≡ equation.left = let l = i.listed in cc in
            let stands : head_of (nth_subtree equation.left k) ≡ cell = subst (λ (p : Tree (PatternCell Head)). head_of (nth_subtree p k) ≡ cell) same i.stands in
            is.last.after k more (subst (λ (p : Tree (PatternCell Head)). k < size p) same i.there) (subst IsTested (sym stands) t);
        depth = record { left = equation.left; listed = at; is = is.depth };
      }

  -- those of the first n left sides
  pub record AreEndsBelow (n : ℕ) (ends : List End) : Type 0 where
    pub long : length ends ≡ n
    pub each : (e : ℕ) (end : End) → slice_get ends e ≡ Some end → IsEnd rules e end

  pub ends-none : (ends : List End) → ends ≡ [] → AreEndsBelow 0 ends
  ends-none ends none = subst (AreEndsBelow 0) (sym none) (record { long = refl; each = λ e end at. absurd (none-some end at) })

  pub ends-push : (n : ℕ) (ends : List End) (end : End) → IsEnd rules n end → AreEndsBelow n ends → AreEndsBelow (n + 1) (ends ++ end ∷ [])
  ends-push n ends end is are = record {
    long = omega (arith, length-append ends (end ∷ []), are.long);
    each = λ e other at.
        ⊎_elim
        (λ old. are.each e other old)
        (λ new. let here : n ≡ e = omega (arith, new.0, are.long) in subst (IsEnd rules e) new.1 (subst (λ k. IsEnd rules k end) here is))
        (old_or_last ends end e other at);
  }

  pub ends-all : (n : ℕ) (ends : List End) → n ≡ length rules.equations → AreEndsBelow n ends → AreEnds rules ends
  ends-all n ends all are = record {
    lengths = omega (arith, are.long, all, length-left_sides_of rules);
    each = are.each;
  }
