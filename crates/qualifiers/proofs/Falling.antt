-- Levels that do not grow along edges: what leads back to itself does so on one level.
use Rattle.std.proofs.Common.{◌≡◌, ℕ, ◌<◌, ◌≤◌, List, get_or, Some, arith}
use Rattle.std.specs.Prelude.{All, slice_get}
use Rattle.std.specs.Global.{Vec}
use Rattle.std.proofs.lemmas.List.Elements.{All-contains, Contains-get_or}
use Rattle.qualifiers.specs.Replacing.{one, more}
use Rattle.qualifiers.specs.Graphs.{Follows, LeadsOn, level_at, AreFalling}
use Rattle.qualifiers.proofs.Searching.{among}

module _ (graph : List (Vec ℕ)) (levels : List ℕ) where
  -- what holds of all followers of a place
  pub of_follower : (P : ℕ → Type 0) (i : ℕ) (f : Vec ℕ) → slice_get graph i ≡ Some f → All P f.items → (j : ℕ) → Follows graph i j → P j
  of_follower P i f at all j h = All-contains P f.items j all (among graph i j f at h)

  pub of_followers : (P : ℕ → Type 0) (i : ℕ) (f : Vec ℕ) → slice_get graph i ≡ Some f → ((j : ℕ) → Follows graph i j → P j) → All P f.items
  of_followers P i f at each k d lt = each (get_or f.items k d) (record { followers = f; listed = at; among = Contains-get_or f.items k d lt })

  -- no level grows from place to place
  falls_along : AreFalling graph levels → {i j : ℕ} → LeadsOn graph i j → level_at levels j ≤ level_at levels i
  falls_along falling (one h) = falling _ _ h
  falls_along falling (more h c) = omega (arith, falling _ _ h, falls_along falling c)

  -- a place all of whose followers are on lower levels does not lead back to itself
  pub not_back : AreFalling graph levels → (i : ℕ) → ((j : ℕ) → Follows graph i j → level_at levels j < level_at levels i) → LeadsOn graph i i → ⊥
  not_back falling i lower (one h) = omega (arith, lower _ h)
  not_back falling i lower (more h c) = omega (arith, lower _ h, falls_along falling c)
