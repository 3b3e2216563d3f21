-- The machine is never stuck: where it has not ended a turn leads on, or a redex is replaced.
use Rattle.std.proofs.Common.{◌≡◌, ℕ, suc, List, [], ◌∷◌, ◌⊎◌, inl, inr, Option, Some, None, refl, sym, ◌∙◌, ap, subst}
use Rattle.std.specs.Prelude.{slice_get}
use Rattle.eq_base.specs.Tree.{Tree, Forest, node, empty, grow}
use Rattle.eq_base.specs.Storing.{join as append}
use Rattle.eq_base.specs.Pattern.{IsInstanceOf, apply}
use Rattle.eq_base.specs.Rewriting.{RightSide, pattern, operation, Rule, System, Gives, IsRedexBy}
use Rattle.eq_base.specs.declared.rules.Op.{Op}
use Rattle.orthogonal_laws.specs.Orthogonal.{IsWellFormedSystem, IsOrthogonal}
use Rattle.match_laws.specs.Items.{ItemSet, IsCompleted, IsFirstCompleted, WantsRead, WantsSkip, WantsNothing}
use Rattle.match_laws.specs.Demand.{left_sides, HasFixedArities}
use Rattle.graph_laws.specs.Numbered.{Numbered, plain, root_number, AreShared}
use Rattle.graph_laws.specs.SharedRuns.{HaveConstantValues}
use Rattle.graph_laws.proofs.Existence.{can_replace}
use Rattle.machine_laws.specs.Frames.{Frame, plug}
use Rattle.machine_laws.specs.Places.{Place, arriving, reading, among, turning, ended, Turn, turn_begin, turn_read, turn_skip, turn_into, turn_back, turn_first, turn_over, turn_no_value, turn_down, turn_up, turn_end}
use Rattle.machine_laws.specs.MachineRuns.{KeepAll, ReplacementsKeep, MachineRun, run_replace}
use Rattle.machine_laws.proofs.NextSets.{Decided, read_set, skip_set, wanted, completed_or_none}
use Rattle.machine_laws.proofs.Replacements.{FoundAbove, found_above, replaced_at}
use Rattle.machine_laws.proofs.MachineRuns.{Reached, reaches, part_stands}

root_of : {A : Type 0} (t : Tree A) → (a : A) × (args : Forest A) × (t ≡ node a args)
root_of (node a args) = (a, args, refl)

module _ {H : Type 0} (system : System H) where
  -- whether the rule whose left side fits gives anything
  redex_or_not : (e : ℕ) (rule : Rule H) → slice_get system.rules e ≡ Some rule → (t : Tree H) → IsInstanceOf system.in_class rule.left t → Decided (IsRedexBy system e t)
  redex_or_not e rule listed t fits = by_right rule.right refl
    where
      gives : (right : RightSide H) → rule.right ≡ right → (u : Tree H) → Gives system fits.substitution right t u → IsRedexBy system e t
      gives right same u g = (u, record { rule = rule; listed = listed; is_instance = record { left = fits; right = subst (λ z. Gives system fits.substitution z t u) (sym same) g } })

      no_value : (op : Op) → rule.right ≡ operation op → system.value_of op t ≡ None → IsRedexBy system e t → ⊥
      no_value op same none (u, by) =
          let rule_is : by.rule ≡ rule = let x = by.listed in let y = listed in cc in
          let right : by.rule.right ≡ operation op = ap (λ (r : Rule H). r.right) rule_is ∙ same in
          let value : system.value_of op t ≡ Some u = subst (λ z. Gives system by.is_instance.left.substitution z t u) right by.is_instance.right in
          absurd (cc)

      by_value : (op : Op) → rule.right ≡ operation op → (o : Option (Tree H)) → system.value_of op t ≡ o → Decided (IsRedexBy system e t)
      by_value op same None value = inr (λ r. no_value op same value r)
      by_value op same (Some u) value = inl (gives (operation op) same u value)

      by_right : (right : RightSide H) → rule.right ≡ right → Decided (IsRedexBy system e t)
      by_right (pattern p) same = inl (gives (pattern p) same (apply fits.substitution p) refl)
      by_right (operation op) same = by_value op same (system.value_of op t) refl

  -- it has ended, or a turn leads on, or one more replacement is made
  abbrev pub GoesFurther : List (Numbered H) → Place H → ℕ → Place H → Type 0
  GoesFurther trees first n place = ((v : Numbered H) × (place ≡ ended v)) ⊎ (((next : Place H) × Turn system place next) ⊎ ((after : List (Numbered H)) × (next : Place H) × MachineRun system trees first (suc n) after next))

  module _ (w : IsWellFormedSystem system) (o : IsOrthogonal system) (arity : H → ℕ) (k : HasFixedArities system arity) (stay : ReplacementsKeep system arity) (constant : HaveConstantValues system) (root : ℕ) (trees : List (Numbered H)) (t : Numbered H) where
    abbrev Further : ℕ → Place H → Type 0
    Further n place = GoesFurther trees (arriving [] t) n place

    turns : {n : ℕ} {place next : Place H} → Turn system place next → Further n place
    turns turn = inr (inl (_, turn))

    among_further : (n : ℕ) (outer inner : List (Frame (H × ℕ))) (l : H × ℕ) (before behind : Forest (H × ℕ)) (u : Numbered H) (items : ItemSet) → WantsRead (left_sides system) items ⊎ (WantsSkip (left_sides system) items ⊎ WantsNothing (left_sides system) items) → Further n (among outer inner l before (grow u behind) items)
    among_further n outer inner l before behind u items (inl read) = turns (turn_into read)
    among_further n outer inner l before behind u items (inr (inl skip)) = turns (turn_skip skip (skip_set system w items).1)
    among_further n outer inner l before behind u items (inr (inr nothing)) = turns (turn_over nothing (root_of (plug inner (node l (append before (grow u behind))))).2)

    module _ (n : ℕ) (now : List (Numbered H)) (outer inner : List (Frame (H × ℕ))) (l : H × ℕ) (args : Forest (H × ℕ)) (items : ItemSet) (run : MachineRun system trees (arriving [] t) n now (reading outer inner (node l args) items)) (r : Reached system w o arity k stay root trees n now (reading outer inner (node l args) items)) where
      completed_further : (e height : ℕ) → IsFirstCompleted system.in_class (left_sides system) items l.0 e height → Further n (reading outer inner (node l args) items)
      completed_further e height first = by (redex_or_not e f.rule f.listed (plain s) f.fits)
        where
          f : FoundAbove system w o arity k now root outer inner (node l args) e height
          f = found_above system w o arity k now root outer inner l args items e height r.holds first

          s : Numbered H
          s = plug f.below (node l args)

          by : Decided (IsRedexBy system e (plain s)) → Further n (reading outer inner (node l args) items)
          by (inr none) = turns (turn_no_value (read_set system w items l.0).1 first f.fit (λ x. none (subst (λ z. IsRedexBy system e z) f.node_is x)) (root_of (plug inner (node l args))).2)
          by (inl redex) =
              let m = root_number s in
              let there = part_stands system w o arity k stay root now outer f.above s m r.shared f.holds.0 refl in
              let x = can_replace system w o constant now m s there refl redex.0 (e, redex.1) in
              let after = replaced_at system w o arity k now x.0 root m outer f.above s f.items r.shared x.1 f.holds refl in
              inr (inr (x.0, _, run_replace outer f.below f.above (subst (λ z. MachineRun system trees (arriving [] t) n now (reading outer z (node l args) items)) f.whole run) refl f.holds.3 x.1 after.node))

      read_further : ((e : ℕ) × (height : ℕ) × IsFirstCompleted system.in_class (left_sides system) items l.0 e height) ⊎ ((e c : ℕ) → IsCompleted system.in_class (left_sides system) items l.0 e c → ⊥) → Further n (reading outer inner (node l args) items)
      read_further (inl x) = completed_further x.0 x.1 x.2
      read_further (inr none) = turns (turn_read (read_set system w items l.0).1 none)

    further : (n : ℕ) (now : List (Numbered H)) (place : Place H) → MachineRun system trees (arriving [] t) n now place → Reached system w o arity k stay root trees n now place → Further n place
    further n now (arriving outer u) run r = turns turn_begin
    further n now (reading outer inner (node l args) items) run r = read_further n now outer inner l args items run r (completed_or_none system w items l.0)
    further n now (among outer inner l before (grow u behind) items) run r = among_further n outer inner l before behind u items (wanted system w items)
    further n now (among outer (f ∷ inner) l before empty items) run r = turns turn_back
    further n now (among outer [] l before empty items) run r = turns turn_first
    further n now (turning outer l before (grow u behind)) run r = turns turn_down
    further n now (turning (f ∷ outer) l before empty) run r = turns turn_up
    further n now (turning [] l before empty) run r = turns turn_end
    further n now (ended v) run r = inl (v, refl)

    pub never_stuck : AreShared trees → KeepAll arity trees → slice_get trees root ≡ Some t → (n : ℕ) (now : List (Numbered H)) (place : Place H) → MachineRun system trees (arriving [] t) n now place → Further n place
    never_stuck shared keeps stands n now place run = further n now place run (reaches system w o arity k stay root trees t shared keeps stands run)
