-- What is looked for in a list, from its front on.
use Rattle.std.proofs.Common.{◌≡◌, ℕ, ◌+◌, ◌<◌, ◌≤◌, List, length, slice_get, Some, ap, ◌∙◌, arith, ⊎_elim, Bool, false, find, sym, true≢false}
use Rattle.std.specs.Prelude.{Contains, ◌↔◌, IsTrue}
use Rattle.std.specs.List.{list_any}
use Rattle.eq_base.specs.declared.head.Head.{Head}
use Rattle.eq_base.proofs.ClassMembers.{any_same}
use Rattle.match_tables.proofs.Keys.{passes_test}
use Rattle.std.proofs.lemmas.Bool.{cases_lt}
use Rattle.std.proofs.lemmas.Option.{slice_get_within}
use Rattle.match_tables.proofs.Places.{place_from_contains}

module _ {X : Type 0} (xs : List X) (x : X) where
  -- none of the first n is the element
  abbrev pub IsNoneOf : ℕ → Type 0
  IsNoneOf n = (k : ℕ) → k < n → slice_get xs k ≡ Some x → ⊥

  pub none-more : (n : ℕ) → IsNoneOf n → (slice_get xs n ≡ Some x → ⊥) → IsNoneOf (n + 1)
  none-more n none not k lt at =
      ⊎_elim (λ less. none k less at) (λ past. let same : k ≡ n = omega arith in not (ap (slice_get xs) (omega (arith, same)) ∙ at)) (cases_lt k n)

  pub none-all : (n : ℕ) → length xs ≤ n → IsNoneOf n → ¬ Contains xs x
  none-all n past none c =
      let at = place_from_contains xs x c in
      none at.0 (let lt = slice_get_within xs at.0 x at.1 in omega (arith, lt)) at.1

-- ---- what is looked up by a test that decides equality

module _ (same : Head → Head → Bool) (decides : (g h : Head) → IsTrue (same g h) ↔ (g ≡ h)) (heads : List Head) (head : Head) where
  pub found-nowhere : list_any (same head) heads ≡ false → ¬ Contains heads head
  found-nowhere none c = let yes = (any_same same decides heads head).1 c in true≢false (sym yes ∙ none)

  pub found-there : (place : ℕ) (key : Head) → slice_get heads place ≡ Some key → find (same head) heads ≡ Some key → slice_get heads place ≡ Some head
  found-there place key at found = at ∙ ap Some (sym ((decides head key).0 (passes_test (same head) heads key found)))
