-- How far a matcher comes in a list of trees before it fails.
use Rattle.std.proofs.Common.{◌≡◌, ℕ, suc, ◌+◌, ◌≤◌, List, [], ◌∷◌, ◌⊎◌, inl, inr, refl, sym, ◌∙◌, ap, subst, arith}
use Rattle.eq_base.specs.Tree.{Tree, Forest, node, empty, grow, count, size, total_size}
use Rattle.orthogonal_laws.proofs.LeftSides.{Label, Compiled}
use Rattle.orthogonal_laws.proofs.Matchers.{Matcher, Read, Skip, End, Done, Stop, run, join, rule_tree, tree, Alive}
use Rattle.orthogonal_laws.proofs.Sequential.{Beside, beside_read, beside_skip, beside_end, beside_done, beside_stop_left, beside_stop_right}
use Rattle.orthogonal_laws.proofs.Joins.{join-stop, joined}
use Rattle.orthogonal_laws.proofs.DecisionTrees.{Member, member_first, member_next, Fit, first_fits}

-- the matcher fails at the n-th node that it comes to in the trees, counted from 1 in preorder; at none where it has failed before
pub data Reaches {H : Type 0} : Matcher H → Forest H → ℕ → Type 0 where
  reaches_none : {ts : Forest H} {n : ℕ} → n ≡ 0 → Reaches Stop ts n
  reaches_within : {f : Label H → Matcher H} {h : H} {args rest : Forest H} {n m : ℕ} → Reaches (f (h, count args)) args n → m ≡ suc n → Reaches (Read f) (grow (node h args) rest) m
  reaches_after : {f : Label H → Matcher H} {h : H} {args rest : Forest H} {n m : ℕ} → Alive (run (f (h, count args)) args) → Reaches (run (f (h, count args)) args) rest (suc n) → m ≡ suc (total_size args) + suc n → Reaches (Read f) (grow (node h args) rest) m
  reaches_over : {a : Matcher H} {t : Tree H} {rest : Forest H} {n m : ℕ} → Reaches a rest (suc n) → m ≡ size t + suc n → Reaches (Skip a) (grow t rest) m

either_order : (m n : ℕ) → (m ≤ n) ⊎ (n ≤ m)
either_order m n = grind arith

module _ {H : Type 0} where
  pub run_stop : (ts : Forest H) → run Stop ts ≡ Stop
  run_stop empty = refl
  run_stop (grow t ts) = refl

  pub reaches-bound : {a : Matcher H} {ts : Forest H} {n : ℕ} → Reaches a ts n → n ≤ total_size ts
  reaches-bound (reaches_none e) = omega (arith, e)
  reaches-bound (reaches_within r e) = omega (arith, e, reaches-bound r)
  reaches-bound (reaches_after alive r e) = omega (arith, e, reaches-bound r)
  reaches-bound (reaches_over r e) = omega (arith, e, reaches-bound r)

  -- where it fails, it does not come to the end
  pub reaches-stop : {a : Matcher H} {ts : Forest H} {n : ℕ} → Reaches a ts n → run a ts ≡ Stop
  reaches-stop (reaches_none {ts = ts} e) = run_stop ts
  reaches-stop (reaches_within {rest = rest} r e) = ap (λ m. run m rest) (reaches-stop r) ∙ run_stop rest
  reaches-stop (reaches_after alive r e) = reaches-stop r
  reaches-stop (reaches_over r e) = reaches-stop r

  pub reaches-alive : {a : Matcher H} {ts : Forest H} {n : ℕ} → Reaches a ts (suc n) → Alive a
  reaches-alive (reaches_none e) = absurd (omega (arith, e))
  reaches-alive (reaches_within r e) = tt
  reaches-alive (reaches_after alive r e) = tt
  reaches-alive (reaches_over r e) = tt

  -- there is one such node
  pub reaches-one : {a : Matcher H} {ts : Forest H} {m n : ℕ} → Reaches a ts m → Reaches a ts n → m ≡ n
  reaches-one (reaches_none e) (reaches_none e') = e ∙ sym e'
  reaches-one (reaches_within r e) (reaches_within r' e') = e ∙ ap suc (reaches-one r r') ∙ sym e'
  reaches-one (reaches_within r e) (reaches_after alive r' e') = absurd (subst Alive (reaches-stop r) alive)
  reaches-one (reaches_after alive r e) (reaches_within r' e') = absurd (subst Alive (reaches-stop r') alive)
  reaches-one (reaches_after alive r e) (reaches_after alive' r' e') = let z = reaches-one r r' in omega (arith, e, e', z)
  reaches-one (reaches_over r e) (reaches_over r' e') = let z = reaches-one r r' in omega (arith, e, e', z)

  join-alive : (a b : Matcher H) → Alive a → Alive (join a b)
  join-alive (Read f) (Read g) alive = tt
  join-alive (Read f) (Skip b) alive = tt
  join-alive (Read f) (End b) alive = tt
  join-alive (Read f) (Done r) alive = tt
  join-alive (Read f) Stop alive = tt
  join-alive (Skip a) (Read g) alive = tt
  join-alive (Skip a) (Skip b) alive = tt
  join-alive (Skip a) (End b) alive = tt
  join-alive (Skip a) (Done r) alive = tt
  join-alive (Skip a) Stop alive = tt
  join-alive (End a) (Read g) alive = tt
  join-alive (End a) (Skip b) alive = tt
  join-alive (End a) (End b) alive = tt
  join-alive (End a) (Done r) alive = tt
  join-alive (End a) Stop alive = tt
  join-alive (Done r) b alive = tt
  join-alive Stop b alive = absurd alive

  none_reached : {ts : Forest H} {m : ℕ} → Reaches Stop ts m → m ≡ 0
  none_reached (reaches_none e) = e

  -- two matchers at once fail where the later one fails
  pub join_left : {a b : Matcher H} {ts : Forest H} {m n : ℕ} → Reaches a ts m → Beside (λ r s. r ≡ s) a b → Reaches b ts n → n ≤ m → Reaches (join a b) ts m
  join_left {ts = ts} {m = m} r (beside_stop_right {a = a}) r' le = subst (λ z. Reaches z ts m) (sym (join-stop a)) r
  join_left {b = b} {ts = ts} {m = m} {n = n} r beside_stop_left r' le = let z = none_reached r in let e : n ≡ m = omega (arith, z) in subst (λ k. Reaches b ts k) e r'
  join_left (reaches_within {h = h} {args = args} r e) (beside_read x) (reaches_within r' e') le = reaches_within (join_left r (x (h, count args)) r' (omega (arith, e, e'))) e
  join_left (reaches_within r e) (beside_read x) (reaches_after alive r' e') le = absurd (omega (arith, e, e', reaches-bound r))
  join_left (reaches_after {f = f} {h = h} {args = args} {rest = rest} {n = k} alive r e) (beside_read {g = g} x) (reaches_within r' e') le =
      let j = joined args (x (h, count args)) in
      let s : run (join (f (h, count args)) (g (h, count args))) args ≡ run (f (h, count args)) args = j.runs ∙ ap (λ z. join (run (f (h, count args)) args) z) (reaches-stop r') ∙ join-stop (run (f (h, count args)) args) in
      reaches_after (subst Alive (sym s) alive) (subst (λ z. Reaches z rest (suc k)) (sym s) r) e
  join_left (reaches_after {f = f} {h = h} {args = args} {rest = rest} {n = k} alive r e) (beside_read {g = g} x) (reaches_after alive' r' e') le =
      let j = joined args (x (h, count args)) in
      reaches_after (subst Alive (sym j.runs) (join-alive (run (f (h, count args)) args) (run (g (h, count args)) args) alive)) (subst (λ z. Reaches z rest (suc k)) (sym j.runs) (join_left r j.fits r' (omega (arith, e, e')))) e
  join_left r (beside_end x) r' le = elim r [ ]
  join_left r (beside_done x) r' le = elim r [ ]
  join_left (reaches_over r e) (beside_skip x) (reaches_over r' e') le = reaches_over (join_left r x r' (omega (arith, e, e'))) e

  join-alive_right : (a b : Matcher H) → Beside (λ r s. r ≡ s) a b → Alive b → Alive (join a b)
  join-alive_right (Read f) b x alive = join-alive (Read f) b tt
  join-alive_right (Skip a) b x alive = join-alive (Skip a) b tt
  join-alive_right (End a) b x alive = join-alive (End a) b tt
  join-alive_right (Done r) b x alive = tt
  join-alive_right Stop b x alive = alive

  pub join_right : {a b : Matcher H} {ts : Forest H} {m n : ℕ} → Reaches a ts m → Beside (λ r s. r ≡ s) a b → Reaches b ts n → m ≤ n → Reaches (join a b) ts n
  join_right {ts = ts} {m = m} {n = n} r (beside_stop_right {a = a}) r' le = let z = none_reached r' in let e : m ≡ n = omega (arith, z) in subst (λ z. Reaches z ts n) (sym (join-stop a)) (subst (λ k. Reaches a ts k) e r)
  join_right r beside_stop_left r' le = r'
  join_right (reaches_within {h = h} {args = args} r e) (beside_read x) (reaches_within r' e') le = reaches_within (join_right r (x (h, count args)) r' (omega (arith, e, e'))) e'
  join_right (reaches_after alive r e) (beside_read x) (reaches_within r' e') le = absurd (omega (arith, e, e', reaches-bound r'))
  join_right (reaches_within {f = f} {h = h} {args = args} {rest = rest} r e) (beside_read {g = g} x) (reaches_after {n = k} alive r' e') le =
      let j = joined args (x (h, count args)) in
      let s : run (join (f (h, count args)) (g (h, count args))) args ≡ run (g (h, count args)) args = j.runs ∙ ap (λ z. join z (run (g (h, count args)) args)) (reaches-stop r) in
      reaches_after (subst Alive (sym s) alive) (subst (λ z. Reaches z rest (suc k)) (sym s) r') e'
  join_right (reaches_after {f = f} {h = h} {args = args} {rest = rest} alive r e) (beside_read {g = g} x) (reaches_after {n = k} alive' r' e') le =
      let j = joined args (x (h, count args)) in
      reaches_after (subst Alive (sym j.runs) (join-alive (run (f (h, count args)) args) (run (g (h, count args)) args) alive)) (subst (λ z. Reaches z rest (suc k)) (sym j.runs) (join_right r j.fits r' (omega (arith, e, e')))) e'
  join_right r (beside_end x) r' le = elim r [ ]
  join_right r (beside_done x) r' le = elim r [ ]
  join_right (reaches_over r e) (beside_skip x) (reaches_over r' e') le = reaches_over (join_right r x r' (omega (arith, e, e'))) e'

  -- ---- the decision tree

  -- the last of the nodes at which the rules fail
  pub record Furthest (rules : List (Compiled H)) (h : H) (args : Forest H) : Type 0 where
    pub n : ℕ
    pub reaches : Reaches (tree rules (h, count args)) args n
    pub within : (rule : Compiled H) → Member rules rule → (k : ℕ) → Reaches (rule_tree rule (h, count args)) args k → k ≤ n
    pub some : (n ≡ 0) ⊎ ((rule : Compiled H) × Member rules rule × Reaches (rule_tree rule (h, count args)) args n)

  further : (rule : Compiled H) (rules : List (Compiled H)) (h : H) (args : Forest H) (n : ℕ) → ((other : Compiled H) → Member rules other → (k : ℕ) → Reaches (rule_tree other (h, count args)) args k → k ≤ n) → ((k : ℕ) → Reaches (rule_tree rule (h, count args)) args k → k ≤ n) →
      (other : Compiled H) → Member (rule ∷ rules) other → (k : ℕ) → Reaches (rule_tree other (h, count args)) args k → k ≤ n
  further rule rules h args n each here other member_first k r = here k r
  further rule rules h args n each here other (member_next i) k r = each other i k r

  -- where each rule fails, the decision tree fails with the last of them
  pub furthest : (rules : List (Compiled H)) → Fit rules → (h : H) (args : Forest H) → ((rule : Compiled H) → Member rules rule → (k : ℕ) × Reaches (rule_tree rule (h, count args)) args k) → Furthest rules h args
  furthest [] fit h args each = record { n = 0; reaches = reaches_none refl; within = λ rule i k r. elim i [ ]; some = inl refl }
  furthest (rule ∷ rules) fit h args each =
      let here = each rule member_first in
      let rest = furthest rules (λ a b i i' l. fit a b (member_next i) (member_next i') l) h args (λ a i. each a (member_next i)) in
      let beside = first_fits rule rules fit (h, count args) in
      elim (either_order rest.n here.0) [
        | inl le ↦
            record {
              n = here.0;
              reaches = join_left here.1 beside rest.reaches le;
              within = further rule rules h args here.0 (λ other i k r. let z = rest.within other i k r in omega (arith, z)) (λ k r. let z = reaches-one r here.1 in omega (arith, z));
              some = inr (rule, member_first, here.1);
            }
        | inr le ↦
            record {
              n = rest.n;
              reaches = join_right here.1 beside rest.reaches le;
              within = further rule rules h args rest.n rest.within (λ k r. let z = reaches-one r here.1 in omega (arith, z));
              some = elim rest.some [ inl e ↦ inl e | inr s ↦ inr (s.0, member_next s.1, s.2) ];
            }
      ]
