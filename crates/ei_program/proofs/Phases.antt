-- Phases of which each comes to one thing at most come to one thing at most together.
use Rattle.std.proofs.Common.{◌≡◌, Result, Ok, Err, inl, inr, sym, subst}
use Rattle.ei_program.specs.Phases.{HasOne, Then}

module _ {E B C : Type 0} (First : Result B E → Type 0) (Second : B → Result C E → Type 0) where
  pub then_one : HasOne First → ((found : B) → First (Ok found) → HasOne (Second found)) → (r s : Result C E) → Then First Second r → Then First Second s → r ≡ s
  then_one first second r s (inl (end, p, is)) (inl (end', q, is')) = let same : ◌≡◌ {A = Result B E} (Err end) (Err end') = first (Err end) (Err end') p q in cc (same, is, is')
  then_one first second r s (inl (end, p, is)) (inr (found, q, more)) = let same : ◌≡◌ {A = Result B E} (Err end) (Ok found) = first (Err end) (Ok found) p q in absurd (apart end found same)
    where
      apart : (e : E) (b : B) → ◌≡◌ {A = Result B E} (Err e) (Ok b) → ⊥
      apart e b same = cc (same)
  then_one first second r s (inr (found, p, more)) (inl (end, q, is)) = let same : ◌≡◌ {A = Result B E} (Ok found) (Err end) = first (Ok found) (Err end) p q in absurd (apart end found same)
    where
      apart : (e : E) (b : B) → ◌≡◌ {A = Result B E} (Ok b) (Err e) → ⊥
      apart e b same = cc (same)
  then_one first second r s (inr (found, p, more)) (inr (found', q, more')) =
      let same : ◌≡◌ {A = Result B E} (Ok found) (Ok found') = first (Ok found) (Ok found') p q in
      second found p r s more (subst (λ b. Second b s) (sym (found_same found found' same)) more')
    where
      found_same : (a b : B) → ◌≡◌ {A = Result B E} (Ok a) (Ok b) → a ≡ b
      found_same a b same = cc (same)
