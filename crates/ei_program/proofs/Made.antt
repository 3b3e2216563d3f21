-- What holds of a text that was made.
use Rattle.std.specs.Prelude.{IfOk, Vec}
use Rattle.std.specs.declared.alloc.Global.{Global}
use Rattle.std.proofs.Common.{◌≡◌, ℕ, List, Result, Ok, Err}

-- what holds of a text that was made
pub made : {E : Type 0} {Q : List ℕ → Type 0} {bytes : List ℕ} (r : Result (Vec ℕ Global) E) → ((text : List ℕ) → text ≡ bytes → Q text) → IfOk r (λ text. text.items ≡ bytes) → IfOk r (λ text. Q text.items)
made (Ok text) each is = each text.items is
made (Err e) each is = tt
