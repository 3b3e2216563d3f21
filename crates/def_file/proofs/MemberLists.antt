-- The classes of a file, as members join them.
use Rattle.std.proofs.Common.{◌≡◌, ℕ, zero, suc, ◌+◌, ◌-◌, ◌<◌, ◌≤◌, Bool, ap, ◌∙◌, List, [], ◌∷◌, ◌++◌, length, refl, arith}
use Rattle.std.specs.Prelude.{All, IsTrue, set, slice_index_or, if◌then◌else◌}
use Rattle.std.proofs.lemmas.List.{length-append}
use Rattle.std.proofs.lemmas.List.Elements.{All-push, All-set}
use Rattle.eq_base.specs.ClassLists.{members_of, with_member}
use Rattle.eq_base.specs.declared.head.Head.{Head}
use Rattle.symbol_table.specs.Table.{Table}
use Rattle.symbol_table.specs.Reading.{IsLiveHead, AreLiveClasses}
use Rattle.def_file.specs.Names.{member_count}

count_more : {A : Type 0} (classes : List (List A)) (place : ℕ) (h : A) → place < length classes
    → member_count (set classes place (slice_index_or classes place [] ++ h ∷ [])) ≡ member_count classes + 1
count_more [] place h lt = absurd (omega arith)
count_more (members ∷ classes) zero h lt = let more = length-append members (h ∷ []) in omega (arith, more)
count_more (members ∷ classes) (suc place) h lt = let rest = count_more classes place h (omega arith) in omega (arith, rest)

-- one member more in a class is one more in all
pub count-with_member : {A : Type 0} (classes : List (List A)) (class : ℕ) (h : A) → 4 ≤ class → class < 4 + length classes
    → member_count (with_member classes class h) ≡ member_count classes + 1
count-with_member classes class h first known = count_more classes (class - 4) h (omega arith)

-- a class that is begun has no members
pub count-begun : {A : Type 0} (classes : List (List A)) → member_count (classes ++ [] ∷ []) ≡ member_count classes
count-begun [] = refl
count-begun (members ∷ classes) = let rest = count-begun classes in omega (arith, rest)

-- a head that was added joins its class
pub was_added : {A : Type 0} (classes new : List (List A)) (class : ℕ) (h : A) (added : Bool) → IsTrue added
    → new ≡ (if added then with_member classes class h else classes) → new ≡ with_member classes class h
was_added classes new class h added is e = e ∙ ap (λ b. if b then with_member classes class h else classes) is

module _ (table : Table) (classes : List (List Head)) (live : AreLiveClasses table classes) where
  -- one live member more
  pub live-with_member : (class : ℕ) (h : Head) → 4 ≤ class → class < 4 + length classes → IsLiveHead table h
      → AreLiveClasses table (with_member classes class h)
  live-with_member class h first known is_live =
      All-set (All (IsLiveHead table)) classes (class - 4) (members_of classes class ++ h ∷ [])
      (All-push (IsLiveHead table) (members_of classes class) h (live (class - 4) [] (omega arith)) is_live) live

  -- a class without members
  pub live-begun : AreLiveClasses table (classes ++ [] ∷ [])
  live-begun = All-push (All (IsLiveHead table)) classes [] live (λ k h lt. absurd (omega arith))
