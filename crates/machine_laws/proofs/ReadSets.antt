-- Item sets by number are those of the equations as they are read.
use Rattle.std.proofs.Common.{ℕ, List, sym, subst}
use Rattle.std.specs.Prelude.{◌↔◌}
use Rattle.eq_base.specs.Tree.{Tree}
use Rattle.eq_base.specs.Pattern.{PatternCell}
use Rattle.eq_base.specs.Meeting.{in_class_of}
use Rattle.eq_base.specs.ReadHead.{ReadHead}
use Rattle.eq_base.specs.RuleList.{RuleList}
use Rattle.eq_base.specs.declared.head.Head.{Head}
use Rattle.symbol_table.specs.Table.{Table, HasOneNumberEach}
use Rattle.symbol_table.specs.Reading.{read_head, read_system, IsLiveHead, AreLive}
use Rattle.symbol_table.proofs.Numberings.{read_all, head_for, read-head_for, head_for-read, live-read, live-head_for}
use Rattle.orthogonal_laws.proofs.ReadSystems.{number_values, number_system, for_read, from_numbers}
use Rattle.match_laws.specs.Items.{ItemSet, IsRead, IsSkip, IsCompleted, IsFirstCompleted, WantsRead, WantsSkip}
use Rattle.match_laws.specs.Demand.{left_sides, left_sides_of}
use Rattle.match_laws.proofs.SetLaws.{same_lefts}
use Rattle.machine_laws.proofs.Imaged.{read-image, skip-image, completed-image, first_completed-image, wants_read-image, wants_skip-image}

module _ (table : Table) (one : HasOneNumberEach table) (rules : RuleList) (live : AreLive table rules) where
  -- what is said of the left sides by number
  by_number : (P : List (Tree (PatternCell Head)) → Type 0) → P (left_sides (number_system table rules)) ↔ P (left_sides_of rules)
  by_number P = (λ x. subst P (same_lefts (number_values table) rules) x, λ x. subst P (sym (same_lefts (number_values table) rules)) x)

  -- what is said of a head that is live, by number and as it is read
  alike : (P : Head → List (Tree (PatternCell Head)) → Type 0) (Q : ReadHead → Type 0) → ((h : Head) → P h (left_sides (number_system table rules)) → Q (read_all table h)) → ((h : ReadHead) → Q h → P (head_for table h) (left_sides (number_system table rules))) → (h : Head) → IsLiveHead table h → P h (left_sides_of rules) ↔ Q (read_head table h)
  alike P Q to from h is_live = (
    λ x. subst Q (live-read table one h is_live) (to h ((by_number (P h)).1 x)),
    λ y. (by_number (P h)).0 (subst (λ z. P z (left_sides (number_system table rules))) (live-head_for table one h is_live) (from (read_head table h) y)),
  )

  pub reads : (items next : ItemSet) (h : Head) → IsLiveHead table h → IsRead (in_class_of rules.classes) (left_sides_of rules) items h next ↔ IsRead (read_system table rules).in_class (left_sides (read_system table rules)) items (read_head table h) next
  reads items next = alike (λ h lefts. IsRead (in_class_of rules.classes) lefts items h next) (λ h. IsRead (read_system table rules).in_class (left_sides (read_system table rules)) items h next)
      (λ h x. read-image (read_all table) (head_for table) (head_for-read table) (number_system table rules) (read_system table rules) (from_numbers table one rules live) (for_read table one rules live) items next h x)
      (λ h x. read-image (head_for table) (read_all table) (read-head_for table) (read_system table rules) (number_system table rules) (for_read table one rules live) (from_numbers table one rules live) items next h x)

  pub completes : (items : ItemSet) (e c : ℕ) (h : Head) → IsLiveHead table h → IsCompleted (in_class_of rules.classes) (left_sides_of rules) items h e c ↔ IsCompleted (read_system table rules).in_class (left_sides (read_system table rules)) items (read_head table h) e c
  completes items e c = alike (λ h lefts. IsCompleted (in_class_of rules.classes) lefts items h e c) (λ h. IsCompleted (read_system table rules).in_class (left_sides (read_system table rules)) items h e c)
      (λ h x. completed-image (read_all table) (head_for table) (head_for-read table) (number_system table rules) (read_system table rules) (from_numbers table one rules live) (for_read table one rules live) items h e c x)
      (λ h x. completed-image (head_for table) (read_all table) (read-head_for table) (read_system table rules) (number_system table rules) (for_read table one rules live) (from_numbers table one rules live) items h e c x)

  pub completes_first : (items : ItemSet) (e height : ℕ) (h : Head) → IsLiveHead table h → IsFirstCompleted (in_class_of rules.classes) (left_sides_of rules) items h e height ↔ IsFirstCompleted (read_system table rules).in_class (left_sides (read_system table rules)) items (read_head table h) e height
  completes_first items e height = alike (λ h lefts. IsFirstCompleted (in_class_of rules.classes) lefts items h e height) (λ h. IsFirstCompleted (read_system table rules).in_class (left_sides (read_system table rules)) items h e height)
      (λ h x. first_completed-image (read_all table) (head_for table) (head_for-read table) (read-head_for table) (number_system table rules) (read_system table rules) (from_numbers table one rules live) (for_read table one rules live) items h e height x)
      (λ h x. first_completed-image (head_for table) (read_all table) (read-head_for table) (head_for-read table) (read_system table rules) (number_system table rules) (for_read table one rules live) (from_numbers table one rules live) items h e height x)

  pub skips : (items next : ItemSet) → IsSkip (left_sides_of rules) items next ↔ IsSkip (left_sides (read_system table rules)) items next
  skips items next = (
    λ x. skip-image (read_all table) (head_for table) (head_for-read table) (number_system table rules) (read_system table rules) (from_numbers table one rules live) (for_read table one rules live) items next ((by_number (λ lefts. IsSkip lefts items next)).1 x),
    λ x. (by_number (λ lefts. IsSkip lefts items next)).0 (skip-image (head_for table) (read_all table) (read-head_for table) (read_system table rules) (number_system table rules) (for_read table one rules live) (from_numbers table one rules live) items next x),
  )

  pub wants_read : (items : ItemSet) → WantsRead (left_sides_of rules) items ↔ WantsRead (left_sides (read_system table rules)) items
  wants_read items = (
    λ x. wants_read-image (read_all table) (number_system table rules) (read_system table rules) (from_numbers table one rules live) items ((by_number (λ lefts. WantsRead lefts items)).1 x),
    λ x. (by_number (λ lefts. WantsRead lefts items)).0 (wants_read-image (head_for table) (read_system table rules) (number_system table rules) (for_read table one rules live) items x),
  )

  pub wants_skip : (items : ItemSet) → WantsSkip (left_sides_of rules) items ↔ WantsSkip (left_sides (read_system table rules)) items
  wants_skip items = (
    λ x. wants_skip-image (read_all table) (head_for table) (head_for-read table) (number_system table rules) (read_system table rules) (from_numbers table one rules live) (for_read table one rules live) items ((by_number (λ lefts. WantsSkip lefts items)).1 x),
    λ x. (by_number (λ lefts. WantsSkip lefts items)).0 (wants_skip-image (head_for table) (read_all table) (read-head_for table) (read_system table rules) (number_system table rules) (for_read table one rules live) (from_numbers table one rules live) items x),
  )
