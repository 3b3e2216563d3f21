-- Following demands from a node down: what is left to look at.
use Rattle.std.proofs.Common.{◌≡◌, ℕ, suc, ◌+◌, ◌-◌, ◌<◌, ◌≤◌, [], ◌∷◌, ◌++◌, ◌⊎◌, inl, inr, Some, refl, sym, ◌∙◌, subst, arith, append_assoc}
use Rattle.eq_base.specs.Tree.{Tree, Forest, node, head_of, args_of, arity_of, count, size, total_size, Position, subtree_at, subtree_in, number}
use Rattle.eq_base.specs.Storing.{first_trees}
use Rattle.eq_base.specs.Rewriting.{System, IsRedex}
use Rattle.orthogonal_laws.specs.Orthogonal.{IsWellFormedSystem, IsOrthogonal}
use Rattle.orthogonal_laws.specs.Strategy.{IsDemandedRedex, at_root, HasNoDemandedRedex}
use Rattle.orthogonal_laws.proofs.Matchers.{Matcher, Stop, join, tree}
use Rattle.orthogonal_laws.proofs.Sequential.{Apart, beside_stop_left, Guarded, guarded_stop}
use Rattle.orthogonal_laws.proofs.Walks.{Quiet, quiet_stop, Leads}
use Rattle.orthogonal_laws.proofs.Joins.{join-guarded}
use Rattle.orthogonal_laws.proofs.DecisionTrees.{regular-compiles, regular-sequential}
use Rattle.orthogonal_laws.proofs.ReadPositions.{regular-reads}
use Rattle.orthogonal_laws.proofs.Strategies.{leads-demand, quiet-no_demand}
use Rattle.orthogonal_laws.proofs.Redexes.{compiled, step-redex}
use Rattle.orthogonal_laws.proofs.Regularity.{orthogonal-regular}
use Rattle.orthogonal_laws.proofs.Stepping.{stands-at, no_redex-from}
use Rattle.orthogonal_laws.proofs.NextRedexes.{no_demand-to, demand-to}
use Rattle.orthogonal_laws.proofs.Reaching.{Reaches, reaches_none, reaches_within, reaches_after, reaches_over, join_left, join_right}
use Rattle.orthogonal_laws.proofs.JoinedWalks.{apart-beside, quiet_join, by_second, by_first, leads_join, descend}
use Rattle.eq_base.proofs.Numbers.{subtree-append, number-append, number_first}

module _ {H : Type 0} (system : System H) (w : IsWellFormedSystem system) (o : IsOrthogonal system) where
  abbrev pub LeadsTo : Matcher H → Forest H → Position → Forest H → Type 0
  LeadsTo m ts p us = Leads (compiled system w) (tree (compiled system w)) m ts p us

  abbrev pub IsQuiet : Matcher H → Forest H → Type 0
  IsQuiet m ts = Quiet (compiled system w) (tree (compiled system w)) m ts

  -- what reads the arguments of s: the left sides with its head
  abbrev pub own : Tree H → Matcher H
  own s = tree (compiled system w) (head_of s, arity_of s)

  -- s stands in the whole tree at a position with this number; left sides above it are still met there and fail n nodes later; and what they and the left sides at s read decides the demanded redex of the whole
  pub record IsFollowed (whole s : Tree H) (n place : ℕ) : Type 0 where
    pub matcher : Matcher H
    pub reaches : Reaches matcher (args_of s) n
    pub guarded : Guarded (tree (compiled system w)) matcher
    pub apart : Apart matcher (own s)
    pub prefix : Position
    pub there : subtree_at whole prefix ≡ Some s
    pub numbered : number whole prefix ≡ place
    pub redex : IsRedex system s → IsDemandedRedex system whole prefix
    pub leads : (IsRedex system s → ⊥) → (p : Position) (us : Forest H) → LeadsTo (join matcher (own s)) (args_of s) p us → IsDemandedRedex system whole (prefix ++ p)
    pub quiet : (IsRedex system s → ⊥) → IsQuiet (join matcher (own s)) (args_of s) → HasNoDemandedRedex system whole

  -- at the root nothing is read yet
  pub followed_start : (t : Tree H) → IsFollowed t t 0 0
  followed_start (node h args) =
      let regular = orthogonal-regular system w o in
      let rules = compiled system w in
      record {
        matcher = Stop;
        reaches = reaches_none refl;
        guarded = guarded_stop;
        apart = beside_stop_left;
        prefix = [];
        there = refl;
        numbered = refl;
        redex = λ r. at_root r;
        leads = λ none p us d. demand-to system w o (leads-demand rules (tree rules) (regular-compiles regular) (regular-reads regular) (no_redex-from system w o h args none) d);
        quiet = λ none q. no_demand-to system w o (quiet-no_demand rules (tree rules) (regular-compiles regular) (regular-reads regular) h args (no_redex-from system w o h args none) q);
      }

  -- the later of two nodes
  abbrev pub IsLater : ℕ → ℕ → ℕ → Type 0
  IsLater m n k = ((k ≡ m) × (n ≤ m)) ⊎ ((k ≡ n) × (m ≤ n))

  pub later_reaches : (s : Tree H) (n m k : ℕ) (a : Matcher H) → Reaches a (args_of s) n → Apart a (own s) → Reaches (own s) (args_of s) m → IsLater n m k → Reaches (join a (own s)) (args_of s) k
  later_reaches s n m k a r x r' (inl e) = subst (λ z. Reaches (join a (own s)) (args_of s) z) (sym e.0) (join_left r (apart-beside x) r' e.1)
  later_reaches s n m k a r x r' (inr e) = subst (λ z. Reaches (join a (own s)) (args_of s) z) (sym e.0) (join_right r (apart-beside x) r' e.1)

  nothing_reached : {m : Matcher H} {ts : Forest H} → Reaches m ts 0 → IsQuiet m ts
  nothing_reached (reaches_none e) = quiet_stop
  nothing_reached (reaches_within r e) = absurd (omega (arith, e))
  nothing_reached (reaches_after alive r e) = absurd (omega (arith, e))
  nothing_reached (reaches_over r e) = absurd (omega (arith, e))

  -- where nothing fails below s, there is no demanded redex
  pub followed_end : (whole s : Tree H) (n place m : ℕ) → IsFollowed whole s n place → (IsRedex system s → ⊥) → Reaches (own s) (args_of s) m → IsLater n m 0 → HasNoDemandedRedex system whole
  followed_end whole s n place m f none r e = f.quiet none (nothing_reached (later_reaches s n m 0 f.matcher f.reaches f.apart r e))

  -- and else it is enough to look at the argument in which the last left side fails
  pub followed_step : (whole s t : Tree H) (n place m k i : ℕ) → IsFollowed whole s n place → (IsRedex system s → ⊥) → Reaches (own s) (args_of s) m → IsLater n m (suc k) → subtree_in (args_of s) i [] ≡ Some t →
      total_size (first_trees i (args_of s)) ≤ k → k < total_size (first_trees i (args_of s)) + size t → IsFollowed whole t (k - total_size (first_trees i (args_of s))) (place + suc (total_size (first_trees i (args_of s))))
  followed_step whole (node h ts) (node g us) n place m k i f none r later there low high =
      let regular = orthogonal-regular system w o in
      let rules = compiled system w in
      let c = regular-compiles regular in
      let d = descend rules (tree rules) c ts (join-guarded (tree rules) f.guarded (regular-sequential regular (h, count ts))) (later_reaches (node h ts) n m (suc k) f.matcher f.reaches f.apart r later) i g us (stands-at ts i [] g us there) low high in
      record {
        matcher = d.matcher;
        reaches = d.reaches;
        guarded = d.guarded;
        apart = d.apart;
        prefix = f.prefix ++ (i ∷ []);
        there = subtree-append whole f.prefix (i ∷ []) (node h ts) f.there ∙ there;
        numbered = let a = number-append whole f.prefix (i ∷ []) (node h ts) f.there in let b = number_first ts i (node g us) there in omega (arith, a, b, f.numbered);
        redex = λ r.
            let x = step-redex system w o g us r.0 r.1 in
            let l = d.here x.right x.parts x.redex in
            f.leads none (i ∷ []) l.0 l.1;
        leads = λ none' p vs l.
            let not = no_redex-from system w o g us none' in
            rw append_assoc
            (elim (leads_join rules (tree rules) us d.apart l) [
              | by_second l' ↦ let z = d.below not p vs l' in f.leads none (i ∷ p) z.0 z.1
              | by_first q l' e ↦ let z = d.within not q p vs l' in f.leads none (i ∷ p) z.0 z.1
            ]);
        quiet = λ none' q.
            let not = no_redex-from system w o g us none' in
            let x = quiet_join rules (tree rules) us d.apart q in
            f.quiet none (d.quiet not x.1 x.0);
      }
