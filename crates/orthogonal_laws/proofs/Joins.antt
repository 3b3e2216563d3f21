-- Both of two matchers at once.
use Rattle.std.proofs.Common.{◌≡◌, refl, sym, ◌∙◌, ap}
use Rattle.eq_base.specs.Tree.{Tree, Forest, node, empty, grow, count}
use Rattle.eq_base.specs.Pattern.{PatternCell}
use Rattle.orthogonal_laws.proofs.LeftSides.{Label}
use Rattle.orthogonal_laws.proofs.Matchers.{Matcher, Read, Skip, End, Done, Stop, run, parts, join, Alive}
use Rattle.orthogonal_laws.proofs.Sequential.{Beside, beside_read, beside_skip, beside_end, beside_done, beside_stop_left, beside_stop_right, Guarded, guarded_read, guarded_skip, guarded_end, guarded_done, guarded_stop}
use Rattle.orthogonal_laws.proofs.TestedParts.{alive_before}

module _ {H : Type 0} where
  pub join-stop : (a : Matcher H) → join a Stop ≡ a
  join-stop (Read f) = refl
  join-stop (Skip a) = refl
  join-stop (End a) = refl
  join-stop (Done r) = refl
  join-stop Stop = refl

  -- what is beside two is beside both at once
  pub beside-join : (D : Tree (PatternCell H) → Tree (PatternCell H) → Type 0) {a b c : Matcher H} → Beside D a b → Beside D a c → Beside D a (join b c)
  beside-join D (beside_read x) (beside_read y) = beside_read (λ h. beside-join D (x h) (y h))
  beside-join D (beside_read x) beside_stop_right = beside_read x
  beside-join D (beside_skip x) (beside_skip y) = beside_skip (beside-join D x y)
  beside-join D (beside_skip x) beside_stop_right = beside_skip x
  beside-join D (beside_end x) (beside_end y) = beside_end (beside-join D x y)
  beside-join D (beside_end x) beside_stop_right = beside_end x
  beside-join D (beside_done x) y = beside_done x
  beside-join D beside_stop_left y = beside_stop_left
  beside-join D beside_stop_right y = y

  -- both at once are beside what each is beside
  pub join-beside : (D : Tree (PatternCell H) → Tree (PatternCell H) → Type 0) {a b c : Matcher H} → Beside D a c → Beside D b c → Beside D (join a b) c
  join-beside D (beside_read x) (beside_read y) = beside_read (λ h. join-beside D (x h) (y h))
  join-beside D (beside_read x) beside_stop_left = beside_read x
  join-beside D (beside_skip x) (beside_skip y) = beside_skip (join-beside D x y)
  join-beside D (beside_skip x) beside_stop_left = beside_skip x
  join-beside D (beside_end x) (beside_end y) = beside_end (join-beside D x y)
  join-beside D (beside_end x) beside_stop_left = beside_end x
  join-beside D (beside_done x) y = beside_done x
  join-beside D beside_stop_left y = y
  join-beside D beside_stop_right y = beside_stop_right

  pub join-guarded : (start : Label H → Matcher H) {a b : Matcher H} → Guarded start a → Guarded start b → Guarded start (join a b)
  join-guarded start (guarded_read x y) (guarded_read x' y') = guarded_read (λ h. join-beside (λ r s. ⊥) (x h) (x' h)) (λ h. join-guarded start (y h) (y' h))
  join-guarded start (guarded_read x y) (guarded_skip g) = guarded_read x y
  join-guarded start (guarded_read x y) (guarded_end g) = guarded_read x y
  join-guarded start (guarded_read x y) guarded_done = guarded_read x y
  join-guarded start (guarded_read x y) guarded_stop = guarded_read x y
  join-guarded start (guarded_skip g) (guarded_skip g') = guarded_skip (join-guarded start g g')
  join-guarded start (guarded_skip g) (guarded_read x y) = guarded_skip g
  join-guarded start (guarded_skip g) (guarded_end g') = guarded_skip g
  join-guarded start (guarded_skip g) guarded_done = guarded_skip g
  join-guarded start (guarded_skip g) guarded_stop = guarded_skip g
  join-guarded start (guarded_end g) (guarded_end g') = guarded_end (join-guarded start g g')
  join-guarded start (guarded_end g) (guarded_read x y) = guarded_end g
  join-guarded start (guarded_end g) (guarded_skip g') = guarded_end g
  join-guarded start (guarded_end g) guarded_done = guarded_end g
  join-guarded start (guarded_end g) guarded_stop = guarded_end g
  join-guarded start guarded_done g = guarded_done
  join-guarded start guarded_stop g = g

  -- what both at once come to
  pub record Joined (a b : Matcher H) (ts : Forest H) : Type 0 where
    pub runs : run (join a b) ts ≡ join (run a ts) (run b ts)
    pub fits : Beside (λ r s. r ≡ s) (run a ts) (run b ts)
    pub left : Alive (run a ts) → (more : Forest H) → parts (join a b) ts more ≡ parts a ts more
    pub right : Alive (run b ts) → (more : Forest H) → parts (join a b) ts more ≡ parts b ts more

  pub joined : (ts : Forest H) {a b : Matcher H} → Beside (λ r s. r ≡ s) a b → Joined a b ts
  joined empty (beside_read x) = record { runs = refl; fits = beside_stop_left; left = λ alive more. refl; right = λ alive more. refl }
  joined empty (beside_skip x) = record { runs = refl; fits = beside_stop_left; left = λ alive more. refl; right = λ alive more. refl }
  joined empty (beside_end x) = record { runs = refl; fits = x; left = λ alive more. refl; right = λ alive more. refl }
  joined empty (beside_done x) = record { runs = refl; fits = beside_stop_left; left = λ alive more. refl; right = λ alive more. refl }
  joined empty beside_stop_left = record { runs = refl; fits = beside_stop_left; left = λ alive more. refl; right = λ alive more. refl }
  joined empty (beside_stop_right {a = a}) = record { runs = ap (λ m. run m empty) (join-stop a) ∙ sym (join-stop (run a empty)); fits = beside_stop_right; left = λ alive more. refl; right = λ alive more. refl }
  joined (grow (node h args) rest) (beside_read {f = f} {g = g} x) =
      let j = joined args (x (h, count args)) in
      let j' = joined rest j.fits in
      record {
        runs = ap (λ m. run m rest) j.runs ∙ j'.runs;
        fits = j'.fits;
        left = λ alive more.
            ap (λ m. parts (join (f (h, count args)) (g (h, count args))) args (parts m rest more)) j.runs
            ∙ (ap (λ z. parts (join (f (h, count args)) (g (h, count args))) args z) (j'.left alive more)
            ∙ j.left (alive_before (run (f (h, count args)) args) rest alive) (parts (run (f (h, count args)) args) rest more));
        right = λ alive more.
            ap (λ m. parts (join (f (h, count args)) (g (h, count args))) args (parts m rest more)) j.runs
            ∙ (ap (λ z. parts (join (f (h, count args)) (g (h, count args))) args z) (j'.right alive more)
            ∙ j.right (alive_before (run (g (h, count args)) args) rest alive) (parts (run (g (h, count args)) args) rest more));
      }
  joined (grow (node h args) rest) (beside_skip x) =
      let j = joined rest x in
      record { runs = j.runs; fits = j.fits; left = λ alive more. ap (λ z. grow (node h args) z) (j.left alive more); right = λ alive more. ap (λ z. grow (node h args) z) (j.right alive more) }
  joined (grow (node h args) rest) (beside_end x) = record { runs = refl; fits = beside_stop_left; left = λ alive more. absurd alive; right = λ alive more. absurd alive }
  joined (grow (node h args) rest) (beside_done x) = record { runs = refl; fits = beside_stop_left; left = λ alive more. absurd alive; right = λ alive more. absurd alive }
  joined (grow (node h args) rest) beside_stop_left = record { runs = refl; fits = beside_stop_left; left = λ alive more. absurd alive; right = λ alive more. refl }
  joined (grow (node h args) rest) (beside_stop_right {a = a}) = record { runs = ap (λ m. run m (grow (node h args) rest)) (join-stop a) ∙ sym (join-stop (run a (grow (node h args) rest))); fits = beside_stop_right; left = λ alive more. ap (λ m. parts m (grow (node h args) rest) more) (join-stop a); right = λ alive more. absurd alive }
