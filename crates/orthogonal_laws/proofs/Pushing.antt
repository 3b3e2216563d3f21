-- The cells of a right side under a substitution, one after another.
use Rattle.std.proofs.Common.{◌≡◌, ℕ, suc, ◌+◌, ◌<◌, ◌≤◌, List, [], ◌∷◌, ◌++◌, Some, refl, sym, ◌∙◌, ap, subst, append_assoc}
use Rattle.std.specs.Prelude.{Contains}
use Rattle.std.specs.List.{AllByRecursion}
use Rattle.std.proofs.lemmas.List.{append-nil}
use Rattle.eq_base.specs.Tree.{Tree, Forest, node, empty, grow, args_of, count, size, nth_subtree, cells, all_cells}
use Rattle.eq_base.specs.Pattern.{PatternCell, fixed, variable, restricted, variables, all_variables, Substitution, apply, apply_all}
use Rattle.eq_base.specs.Cells.{root_cell, variable_in}
use Rattle.eq_base.specs.declared.head.Head as rust
use Rattle.eq_base.specs.declared.head.Cell.TheVariants.{Head}
use Rattle.eq_base.proofs.Scans.{forest_from, forest_from-start, forest_from-node, forest_from-args, forest_from-end}
use Rattle.eq_base.proofs.Trees.{all_cells-join}
use Rattle.eq_base.specs.Building.{missing_of}
use Rattle.orthogonal_laws.specs.Replacing.{HasRoom}
use Rattle.orthogonal_laws.proofs.Copying.{room_next, room_moved}
use Rattle.orthogonal_laws.proofs.Binding.{Pattern, apply_all-join, all_variables-join, apply-variable, variables-variable}

abbrev pub Cells : Type 0
Cells = List (rust.Head × ℕ)

-- what is left to push from a cell on
abbrev pub left_from : Substitution rust.Head → Pattern → ℕ → Cells
left_from σ right i = all_cells (apply_all σ (forest_from right i))

count-apply_all : (σ : Substitution rust.Head) (ps : Forest (PatternCell rust.Head)) → count (apply_all σ ps) ≡ count ps
count-apply_all σ empty = refl
count-apply_all σ (grow p ps) = ap suc (count-apply_all σ ps)

cells-apply_head : (σ : Substitution rust.Head) (p : Pattern) (h : rust.Head) (arity : ℕ) → root_cell p ≡ Head h arity → cells (apply σ p) ≡ (h, arity) ∷ all_cells (apply_all σ (args_of p))
cells-apply_head σ (node (fixed g) ps) h arity e =
    let same : g ≡ h = cc in
    let many : count ps ≡ arity = cc in
    rw (count-apply_all σ ps, same, many) refl
cells-apply_head σ (node (variable x) ps) h arity e = cc
cells-apply_head σ (node (restricted x class) ps) h arity e = cc

head_has_variables : (p : Pattern) (h : rust.Head) (arity : ℕ) → root_cell p ≡ Head h arity → variables p ≡ all_variables (args_of p)
head_has_variables (node (fixed g) ps) h arity e = refl
head_has_variables (node (variable x) ps) h arity e = cc
head_has_variables (node (restricted x class) ps) h arity e = cc

module _ (right : Pattern) where
  pub left_from-start : (σ : Substitution rust.Head) → left_from σ right 0 ≡ cells (apply σ right)
  left_from-start σ = ap (λ ps. all_cells (apply_all σ ps)) (forest_from-start right) ∙ append-nil (cells (apply σ right))

  pub left_from-end : (σ : Substitution rust.Head) (i : ℕ) → size right ≤ i → left_from σ right i ≡ []
  left_from-end σ i past = ap (λ ps. all_cells (apply_all σ ps)) (forest_from-end right i past)

  module _ (i : ℕ) (lt : i < size right) where
    abbrev part : Pattern
    part = nth_subtree right i

    abbrev later : Forest (PatternCell rust.Head)
    later = forest_from right (i + size part)

    whole : (σ : Substitution rust.Head) → left_from σ right i ≡ cells (apply σ part) ++ all_cells (apply_all σ later)
    whole σ = ap (λ ps. all_cells (apply_all σ ps)) (forest_from-node right i lt)

    pub left_from-head : (σ : Substitution rust.Head) (h : rust.Head) (arity : ℕ) → root_cell (nth_subtree right i) ≡ Head h arity → left_from σ right i ≡ (h, arity) ∷ left_from σ right (i + 1)
    left_from-head σ h arity e =
        whole σ
        ∙ ap (λ l. l ++ all_cells (apply_all σ later)) (cells-apply_head σ part h arity e)
        ∙ ap (λ l. (h, arity) ∷ l)
        (sym (all_cells-join (apply_all σ (args_of part)) (apply_all σ later)) ∙ ap all_cells (sym (apply_all-join σ (args_of part) later)) ∙ ap (λ ps. all_cells (apply_all σ ps)) (sym (forest_from-args right i lt)))

    pub left_from-variable : (σ : Substitution rust.Head) (x : ℕ) → variable_in (root_cell (nth_subtree right i)) ≡ Some x → left_from σ right i ≡ cells (σ x) ++ left_from σ right (i + size (nth_subtree right i))
    left_from-variable σ x e = whole σ ∙ ap (λ t. cells t ++ all_cells (apply_all σ later)) (apply-variable σ part x e)

    -- ---- the variables that are left

    module _ (xs : List ℕ) (bound : AllByRecursion (λ x. Contains xs x) (all_variables (forest_from right i))) where
      opened : AllByRecursion (λ x. Contains xs x) (variables part ++ all_variables later)
      opened = subst (λ ps. AllByRecursion (λ x. Contains xs x) (all_variables ps)) (forest_from-node right i lt) bound

      pub bound_head : (h : rust.Head) (arity : ℕ) → root_cell (nth_subtree right i) ≡ Head h arity → AllByRecursion (λ x. Contains xs x) (all_variables (forest_from right (i + 1)))
      bound_head h arity e =
          subst (λ ps. AllByRecursion (λ x. Contains xs x) (all_variables ps)) (sym (forest_from-args right i lt))
          (subst (AllByRecursion (λ x. Contains xs x)) (sym (all_variables-join (args_of part) later))
          (subst (λ ys. AllByRecursion (λ x. Contains xs x) (ys ++ all_variables later)) (head_has_variables part h arity e) opened))

      split : (x : ℕ) → variable_in (root_cell part) ≡ Some x → Contains xs x × AllByRecursion (λ x. Contains xs x) (all_variables later)
      split x e = subst (λ ys. AllByRecursion (λ x. Contains xs x) (ys ++ all_variables later)) (variables-variable part x e) opened

      pub bound_variable : (x : ℕ) → variable_in (root_cell (nth_subtree right i)) ≡ Some x → Contains xs x
      bound_variable x e = (split x e).0

      pub bound_after : (x : ℕ) → variable_in (root_cell (nth_subtree right i)) ≡ Some x → AllByRecursion (λ x. Contains xs x) (all_variables (forest_from right (i + size (nth_subtree right i))))
      bound_after x e = (split x e).1

  pub bound_start : (xs : List ℕ) → AllByRecursion (λ x. Contains xs x) (variables right) → AllByRecursion (λ x. Contains xs x) (all_variables (forest_from right 0))
  bound_start xs b =
      subst (λ ps. AllByRecursion (λ x. Contains xs x) (all_variables ps)) (sym (forest_from-start right))
      (subst (AllByRecursion (λ x. Contains xs x)) (sym (append-nil (variables right))) b)

-- what holds while a right side is pushed
pub record IsPushing (right left : Pattern) (part : Tree rust.Head) (first now : Cells) (i : ℕ) : Type 0 where
  pub bound : AllByRecursion (λ x. Contains (variables left) x) (all_variables (forest_from right i))
  pub pushed : (σ : Substitution rust.Head) → apply σ left ≡ part → now ++ left_from σ right i ≡ first ++ cells (apply σ right)

room_front : (before a b : Cells) → HasRoom before (a ++ b) → HasRoom before a
room_front before a b room = record {
  whole = room.whole;
  after = b ++ room.after;
  is = room.is ∙ ap (λ l. before ++ l) (append_assoc a b room.after);
}

module _ (right left : Pattern) (part : Tree rust.Head) (first : Cells) where
  pub push_start : AllByRecursion (λ x. Contains (variables left) x) (variables right) → IsPushing right left part first first 0
  push_start bound = record {
    bound = bound_start right (variables left) bound;
    pushed = λ σ a. ap (λ l. first ++ l) (left_from-start right σ);
  }

  module _ (now : Cells) (i : ℕ) (is : IsPushing right left part first now i) where
    pub push_end : size right ≤ i → (σ : Substitution rust.Head) → apply σ left ≡ part → now ≡ first ++ cells (apply σ right)
    push_end past σ a = sym (append-nil now) ∙ ap (λ l. now ++ l) (sym (left_from-end right σ i past)) ∙ is.pushed σ a

    push_room : (σ : Substitution rust.Head) → apply σ left ≡ part → HasRoom first (cells (apply σ right)) → HasRoom now (left_from σ right i)
    push_room σ a room = room_moved first (cells (apply σ right)) now (left_from σ right i) (sym (is.pushed σ a)) room

    module _ (lt : i < size right) where
      pub push_head_room : (σ : Substitution rust.Head) (h : rust.Head) (arity : ℕ) → apply σ left ≡ part → root_cell (nth_subtree right i) ≡ Head h arity → HasRoom first (cells (apply σ right)) → 0 < missing_of now
      push_head_room σ h arity a e room =
          room_next now (left_from σ right i) (h, arity) (left_from σ right (i + 1)) (push_room σ a room) (left_from-head right i lt σ h arity e)

      pub push_head : (h : rust.Head) (arity : ℕ) (next : Cells) → root_cell (nth_subtree right i) ≡ Head h arity → next ≡ now ++ (h, arity) ∷ [] → IsPushing right left part first next (i + 1)
      push_head h arity next e is_next = record {
        bound = bound_head right i lt (variables left) is.bound h arity e;
        pushed = λ σ a.
            ap (λ l. l ++ left_from σ right (i + 1)) is_next
            ∙ append_assoc now ((h, arity) ∷ []) (left_from σ right (i + 1))
            ∙ ap (λ l. now ++ l) (sym (left_from-head right i lt σ h arity e))
            ∙ is.pushed σ a;
      }

      pub push_variable_room : (σ : Substitution rust.Head) (x : ℕ) → apply σ left ≡ part → variable_in (root_cell (nth_subtree right i)) ≡ Some x → HasRoom first (cells (apply σ right)) → HasRoom now (cells (σ x))
      push_variable_room σ x a e room =
          room_front now (cells (σ x)) (left_from σ right (i + size (nth_subtree right i))) (subst (HasRoom now) (left_from-variable right i lt σ x e) (push_room σ a room))

      pub push_variable : (x : ℕ) (copied next : Cells) → variable_in (root_cell (nth_subtree right i)) ≡ Some x → ((σ : Substitution rust.Head) → apply σ left ≡ part → cells (σ x) ≡ copied) → next ≡ now ++ copied → IsPushing right left part first next (i + size (nth_subtree right i))
      push_variable x copied next e value is_next = record {
        bound = bound_after right i lt (variables left) is.bound x e;
        pushed = λ σ a.
            let rest = left_from σ right (i + size (nth_subtree right i)) in
            ap (λ l. l ++ rest) (is_next ∙ ap (λ l. now ++ l) (sym (value σ a)))
            ∙ append_assoc now (cells (σ x)) rest
            ∙ ap (λ l. now ++ l) (sym (left_from-variable right i lt σ x e))
            ∙ is.pushed σ a;
      }
