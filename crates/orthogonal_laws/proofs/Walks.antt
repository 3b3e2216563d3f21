-- The strategy by the decision tree: the demanded redex among the trees that it reads.
use Rattle.std.proofs.Common.{◌≡◌, ℕ, suc, List, [], ◌∷◌}
use Rattle.eq_base.specs.Tree.{Tree, Forest, node, empty, grow, count}
use Rattle.eq_base.specs.Pattern.{PatternCell}
use Rattle.orthogonal_laws.proofs.LeftSides.{Label, fill, Compiled, Redex, NoRedex}
use Rattle.orthogonal_laws.proofs.ForestSteps.{Normal}
use Rattle.orthogonal_laws.proofs.Matchers.{Matcher, Read, Skip, End, Done, Stop, run}

module _ {H : Type 0} (rules : List (Compiled H)) (start : Label H → Matcher H) where
  -- no tree that the matcher reads in this list has a demanded redex
  pub data Quiet : Matcher H → Forest H → Type 0 where
    quiet_read : {f : Label H → Matcher H} {m : Matcher H} {h : H} {args rest : Forest H} → NoRedex rules h args → Quiet (start (h, count args)) args → Quiet (f (h, count args)) args → run (f (h, count args)) args ≡ m → Quiet m rest → Quiet (Read f) (grow (node h args) rest)
    quiet_skip : {m : Matcher H} {t : Tree H} {rest : Forest H} → Quiet m rest → Quiet (Skip m) (grow t rest)
    quiet_nil : {m : Matcher H} → Quiet m empty
    quiet_end : {m : Matcher H} {ts : Forest H} → Quiet (End m) ts
    quiet_done : {r : Tree (PatternCell H)} {ts : Forest H} → Quiet (Done r) ts
    quiet_stop : {ts : Forest H} → Quiet Stop ts

  -- the first demanded redex among the trees that the matcher reads is at p, and its root step leads to us
  pub data Leads : Matcher H → Forest H → List ℕ → Forest H → Type 0 where
    leads_here : {f : Label H → Matcher H} {h : H} {args es rest : Forest H} {r : Tree (PatternCell H)} → Redex rules h args r es → Leads (Read f) (grow (node h args) rest) (0 ∷ []) (grow (fill h r es) rest)
    leads_below : {f : Label H → Matcher H} {h : H} {args us rest : Forest H} {p : List ℕ} → NoRedex rules h args → Leads (start (h, count args)) args p us → Leads (Read f) (grow (node h args) rest) (0 ∷ p) (grow (node h us) rest)
    leads_within : {f : Label H → Matcher H} {h : H} {args us rest : Forest H} {p : List ℕ} → NoRedex rules h args → Quiet (start (h, count args)) args → Leads (f (h, count args)) args p us → Leads (Read f) (grow (node h args) rest) (0 ∷ p) (grow (node h us) rest)
    leads_after : {f : Label H → Matcher H} {m : Matcher H} {h : H} {args rest us : Forest H} {i : ℕ} {p : List ℕ} → NoRedex rules h args → Quiet (start (h, count args)) args → Quiet (f (h, count args)) args → run (f (h, count args)) args ≡ m → Leads m rest (i ∷ p) us → Leads (Read f) (grow (node h args) rest) (suc i ∷ p) (grow (node h args) us)
    leads_skip : {m : Matcher H} {t : Tree H} {rest us : Forest H} {i : ℕ} {p : List ℕ} → Leads m rest (i ∷ p) us → Leads (Skip m) (grow t rest) (suc i ∷ p) (grow t us)

  -- the next redex is at position p, and its step leads to us
  pub data Advances : Forest H → List ℕ → Forest H → Type 0 where
    advances_here : {h : H} {args es rest : Forest H} {r : Tree (PatternCell H)} → Redex rules h args r es → Advances (grow (node h args) rest) (0 ∷ []) (grow (fill h r es) rest)
    advances_demand : {h : H} {args us rest : Forest H} {p : List ℕ} → NoRedex rules h args → Leads (start (h, count args)) args p us → Advances (grow (node h args) rest) (0 ∷ p) (grow (node h us) rest)
    advances_below : {h : H} {args us rest : Forest H} {p : List ℕ} → NoRedex rules h args → Quiet (start (h, count args)) args → Advances args p us → Advances (grow (node h args) rest) (0 ∷ p) (grow (node h us) rest)
    advances_after : {h : H} {args rest us : Forest H} {i : ℕ} {p : List ℕ} → NoRedex rules h args → Normal rules args → Advances rest (i ∷ p) us → Advances (grow (node h args) rest) (suc i ∷ p) (grow (node h args) us)
