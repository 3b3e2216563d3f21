-- Two nodes that are redexes can be replaced in either order, and both orders lead to one store but for the numbers of new nodes.
use Rattle.std.proofs.Common.{◌≡◌, ◌≢◌, ℕ, ◌+◌, ◌<◌, ◌≤◌, List, length, Some, refl, sym, ◌∙◌, ap, subst, arith}
use Rattle.std.specs.Prelude.{slice_get}
use Rattle.std.proofs.lemmas.Option.{slice_get_within}
use Rattle.eq_base.specs.Tree.{Forest, node, empty, grow}
use Rattle.eq_base.specs.Rewriting.{System, RootStep, IsRedex}
use Rattle.orthogonal_laws.specs.Orthogonal.{IsWellFormedSystem, IsOrthogonal}
use Rattle.graph_laws.specs.Numbered.{Numbered, plain, root_number, AllParts, AllPartsIn, AreShared, replace_numbered}
use Rattle.graph_laws.specs.Runs.{IsReplaced}
use Rattle.graph_laws.specs.Alike.{renumber, AreAlike}
use Rattle.graph_laws.proofs.Numbering.{parts-map}
use Rattle.graph_laws.proofs.ListEntries.{all_get, get_below}
use Rattle.graph_laws.proofs.Rewriting.{only_one}
use Rattle.graph_laws.proofs.Contracts.{Contracts, contracts-step, Replaces, replaces-from, can_put}
use Rattle.graph_laws.proofs.Crossing.{IsOff, put_other, contracts_after, contracts_after-rule}
use Rattle.graph_laws.proofs.Renaming.{rename, rename_all, Shifts, rename-same, rename-put, contracts-rename, contracts-rename-rule}
use Rattle.graph_laws.proofs.PutNumbers.{Numbers, contracts-numbers}
use Rattle.graph_laws.proofs.OneContraction.{put_crossed}
use Rattle.graph_laws.proofs.Blocks.{moved, moved-same, moved-above}
use Rattle.graph_laws.proofs.Turning.{turned, turned-injective, turned-low, turned-first, turned-second}

module _ {H : Type 0} (ρ τ : ℕ → ℕ) where
  mutual
    -- numbers that change alike
    rename-as : (t : Numbered H) → AllParts (λ p. ρ (root_number p) ≡ τ (root_number p)) t → rename ρ t ≡ rename τ t
    rename-as (node l args) a = ap (λ k. node (l.0, k) (rename_all ρ args)) a.0 ∙ ap (node (l.0, τ l.1)) (rename-as_all args a.1)

    rename-as_all : (ts : Forest (H × ℕ)) → AllPartsIn (λ p. ρ (root_number p) ≡ τ (root_number p)) ts → rename_all ρ ts ≡ rename_all τ ts
    rename-as_all empty a = refl
    rename-as_all (grow t ts) a = rw (rename-as t a.0, rename-as_all ts a.1) refl

  mutual
    rename-rename : (t : Numbered H) → rename ρ (rename τ t) ≡ rename (λ k. ρ (τ k)) t
    rename-rename (node l args) = ap (node (l.0, ρ (τ l.1))) (rename-rename_all args)

    rename-rename_all : (ts : Forest (H × ℕ)) → rename_all ρ (rename_all τ ts) ≡ rename_all (λ k. ρ (τ k)) ts
    rename-rename_all empty = refl
    rename-rename_all (grow t ts) = rw (rename-rename t, rename-rename_all ts) refl

module _ {H : Type 0} (system : System H) (w : IsWellFormedSystem system) (o : IsOrthogonal system) where
  pub no_block : (room : ℕ) → 0 ≤ room
  no_block room = omega arith

  pub at_bottom : (upper : ℕ) → 0 + 0 ≤ upper
  at_bottom upper = omega arith

  -- the numbers from the upper one on go up
  abbrev pub up : (upper room : ℕ) → ℕ → ℕ
  up upper room = moved 0 0 upper room (no_block room) (at_bottom upper)

  up-low : (upper room x : ℕ) → x < upper → up upper room x ≡ x
  up-low upper room x less = moved-same 0 0 upper room (no_block room) (at_bottom upper) x less (λ i none. absurd (omega arith))

  up-high : (upper room i : ℕ) → up upper room (upper + i) ≡ upper + i + room
  up-high upper room i = moved-above 0 0 upper room (no_block room) (at_bottom upper) i

  -- the same contraction with the new numbers further on
  pub record Raised (n base room : ℕ) (s c : Numbered H) (many number : ℕ) : Type 0 where
    pub contracts : Contracts system n (base + room) s (rename (up base room) c) many
    pub same_rule : contracts.number ≡ number

  raised : (n base room : ℕ) (s c : Numbered H) (many : ℕ) (x : Contracts system n base s c many) → n < base → Numbers (λ k. k < base) s → Raised n base room s c many x.number
  raised n base room s c many x below within =
      let ρ = up base room in
      let shifts : Shifts ρ many base (base + room) = λ i less. up-high base room i ∙ (let e : base + i + room ≡ base + room + i = omega arith in e) in
      let y = contracts-rename ρ system n base (base + room) s c many shifts x in
      let same = up-low base room n below in
      let same_s = rename-same ρ s (parts-map (λ p. root_number p < base) (λ p. ρ (root_number p) ≡ root_number p) (λ p less. up-low base room (root_number p) less) s within) in
      let z = subst (λ u. (v : Contracts system n (base + room) u (rename ρ c) many) × (v.number ≡ x.number)) same_s (subst (λ j. (v : Contracts system j (base + room) (rename ρ s) (rename ρ c) many) × (v.number ≡ x.number)) same (y, contracts-rename-rule ρ system n base (base + room) s c many shifts x)) in
      record { contracts = z.0; same_rule = z.1 }

  -- one more replacement, of another node
  pub record Then (trees between : List (Numbered H)) (n m : ℕ) (d c : Numbered H) (few many number : ℕ) : Type 0 where
    pub after : List (Numbered H)
    pub replaced : IsReplaced system m between after
    pub same_rule : replaced.number ≡ number
    pub at : (i : ℕ) (t : Numbered H) → slice_get trees i ≡ Some t → slice_get after i ≡ Some (replace_numbered m (replace_numbered n d (rename (up (length trees) few) c)) (replace_numbered n d t))
    pub long : length after ≡ length trees + few + many

  module _ (trees : List (Numbered H)) (shared : AreShared trees) where
    within : (i : ℕ) (t : Numbered H) → slice_get trees i ≡ Some t → Numbers (λ k. k < length trees) t
    within i t e = parts-map (λ p. slice_get trees (root_number p) ≡ Some p) (λ p. root_number p < length trees) (λ p here. slice_get_within trees (root_number p) p here) t (all_get (λ t. AllParts (λ p. slice_get trees (root_number p) ≡ Some p) t) trees i t shared e)

    module _ (n m : ℕ) (between others : List (Numbered H)) (other : n ≢ m) {number number' : ℕ} (r : Replaces system n trees between number) (q : Replaces system m trees others number') where
      root_kept : (t : Numbered H) → root_number t ≡ m → root_number (replace_numbered n r.contractum t) ≡ m
      root_kept (node l args) e = ap root_number (put_other n r.contractum l args (λ e'. other (sym e' ∙ e))) ∙ e

      then_other : Then trees between n m r.contractum q.contractum r.many q.many q.contracts.number
      then_other =
          let base = length trees in
          let n_below = slice_get_within trees n r.part r.stands in
          let m_below = slice_get_within trees m q.part q.stands in
          let y = raised m base r.many q.part q.contractum q.many q.contracts m_below (within m q.part q.stands) in
          let c = rename (up base r.many) q.contractum in
          let step : RootStep system (plain r.part) (plain r.contractum) = (r.contracts.number, contracts-step system n base r.part r.contractum r.many r.contracts) in
          let redex : IsRedex system (plain r.part) = (plain r.contractum, step) in
          let only = only_one trees n r.part shared r.stands m q.part q.stands in
          let off : IsOff (base + r.many) q.many n = λ i less e. omega arith in
          let x = contracts_after system n r.part r.contractum redex w o step m (base + r.many) q.part c q.many q.own (λ e. other (sym e)) only off y.contracts in
          let rule = contracts_after-rule system n r.part r.contractum redex w o step m (base + r.many) q.part c q.many q.own (λ e. other (sym e)) only off y.contracts in
          let z = subst (λ k. (v : Contracts system m k (replace_numbered n r.contractum q.part) (replace_numbered n r.contractum c) q.many) × (v.number ≡ q.contracts.number)) (sym r.long) (x, rule ∙ y.same_rule) in
          let put = can_put system m between (replace_numbered n r.contractum q.part) (replace_numbered n r.contractum c) q.many (r.at m q.part q.stands) (root_kept q.part q.own) z.0 in
          record {
            after = put.after;
            replaced = put.replaced;
            same_rule = put.same_rule ∙ z.1;
            at = λ i t e. put.at i (replace_numbered n r.contractum t) (r.at i t e);
            long = put.long ∙ ap (λ k. k + q.many) r.long;
          }

    -- the numbers of the two contracta, in one order and in the other
    module _ (n m : ℕ) (between others : List (Numbered H)) {number number' : ℕ} (r : Replaces system n trees between number) (q : Replaces system m trees others number') where
      abbrev turn : ℕ → ℕ
      turn = turned (length trees) r.many q.many

      first-turned : rename turn r.contractum ≡ rename (up (length trees) q.many) r.contractum
      first-turned =
          let base = length trees in
          let low = λ (k : ℕ) (less : k < base). turned-low base r.many q.many k less ∙ sym (up-low base q.many k less) in
          let numbers = contracts-numbers (λ k. turn k ≡ up base q.many k) system o n base r.part r.contractum r.many r.contracts (low n (slice_get_within trees n r.part r.stands)) (λ i less. turned-first base r.many q.many i less ∙ sym (up-high base q.many i)) (parts-map (λ p. root_number p < base) (λ p. turn (root_number p) ≡ up base q.many (root_number p)) (λ p less. low (root_number p) less) r.part (within n r.part r.stands)) in
          rename-as turn (up base q.many) r.contractum numbers

      second-turned : rename turn (rename (up (length trees) r.many) q.contractum) ≡ q.contractum
      second-turned =
          let base = length trees in
          let low = λ (k : ℕ) (less : k < base). ap turn (up-low base r.many k less) ∙ turned-low base r.many q.many k less in
          let numbers = contracts-numbers (λ k. turn (up base r.many k) ≡ k) system o m base q.part q.contractum q.many q.contracts (low m (slice_get_within trees m q.part q.stands)) (λ i less. ap turn (up-high base r.many i) ∙ turned-second base r.many q.many i less) (parts-map (λ p. root_number p < base) (λ p. turn (up base r.many (root_number p)) ≡ root_number p) (λ p less. low (root_number p) less) q.part (within m q.part q.stands)) in
          rename-rename turn (up base r.many) q.contractum ∙ rename-same (λ k. turn (up base r.many k)) q.contractum numbers

      put-turned : (other : n ≢ m) (i : ℕ) (t : Numbered H) → slice_get trees i ≡ Some t → rename turn (replace_numbered m (replace_numbered n r.contractum (rename (up (length trees) r.many) q.contractum)) (replace_numbered n r.contractum t)) ≡ replace_numbered n (replace_numbered m q.contractum (rename (up (length trees) q.many) r.contractum)) (replace_numbered m q.contractum t)
      put-turned other i t e =
          let base = length trees in
          let c_n = r.contractum in
          let c_m = rename (up base r.many) q.contractum in
          let d_n = rename (up base q.many) r.contractum in
          let injective = turned-injective base r.many q.many in
          let n_same = turned-low base r.many q.many n (slice_get_within trees n r.part r.stands) in
          let m_same = turned-low base r.many q.many m (slice_get_within trees m q.part q.stands) in
          let t_same = rename-same turn t (parts-map (λ p. root_number p < base) (λ p. turn (root_number p) ≡ root_number p) (λ p less. turned-low base r.many q.many (root_number p) less) t (within i t e)) in
          let inner = rename-put turn injective n c_n t ∙ (ap (λ j. replace_numbered j (rename turn c_n) (rename turn t)) n_same ∙ (ap (λ z. replace_numbered n z (rename turn t)) first-turned ∙ ap (replace_numbered n d_n) t_same)) in
          let inner' = rename-put turn injective n c_n c_m ∙ (ap (λ j. replace_numbered j (rename turn c_n) (rename turn c_m)) n_same ∙ (ap (λ z. replace_numbered n z (rename turn c_m)) first-turned ∙ ap (replace_numbered n d_n) second-turned)) in
          let outer = rename-put turn injective m (replace_numbered n c_n c_m) (replace_numbered n c_n t) ∙ (ap (λ j. replace_numbered j (rename turn (replace_numbered n c_n c_m)) (rename turn (replace_numbered n c_n t))) m_same ∙ (ap (λ z. replace_numbered m z (rename turn (replace_numbered n c_n t))) inner' ∙ ap (replace_numbered m (replace_numbered n d_n q.contractum)) inner)) in
          let n_below = slice_get_within trees n r.part r.stands in
          let m_below = slice_get_within trees m q.part q.stands in
          let x = raised n base q.many r.part c_n r.many r.contracts n_below (within n r.part r.stands) in
          outer ∙ put_crossed system o n (base + q.many) m base r.part d_n q.part q.contractum r.many q.many other r.own q.own x.contracts q.contracts (only_one trees n r.part shared r.stands m q.part q.stands) (only_one trees m q.part shared q.stands n r.part r.stands) (λ j less e'. omega arith) (λ j less e'. omega arith) t

  -- both orders
  pub record Square (trees between others : List (Numbered H)) (n m : ℕ) (x : IsReplaced system n trees between) (y : IsReplaced system m trees others) : Type 0 where
    pub after : List (Numbered H)
    pub then : IsReplaced system m between after
    pub after' : List (Numbered H)
    pub then' : IsReplaced system n others after'
    pub same_rule : then.number ≡ y.number
    pub same_rule' : then'.number ≡ x.number
    pub alike : AreAlike (length trees) after after'

  pub square : (trees between others : List (Numbered H)) (n m : ℕ) → AreShared trees → n ≢ m → (x : IsReplaced system n trees between) (y : IsReplaced system m trees others) → Square trees between others n m x y
  square trees between others n m shared other x y =
      let r = replaces-from system n trees between x in
      let q = replaces-from system m trees others y in
      let a = then_other trees shared n m between others other r q in
      let b = then_other trees shared m n others between (λ e. other (sym e)) q r in
      record {
        after = a.after;
        then = a.replaced;
        after' = b.after;
        then' = b.replaced;
        same_rule = a.same_rule ∙ q.same_rule;
        same_rule' = b.same_rule ∙ r.same_rule;
        alike = record {
          new = turned (length trees) r.many q.many;
          injective = turned-injective (length trees) r.many q.many;
          below = λ i less. turned-low (length trees) r.many q.many i less;
          alike = λ i t less e. alike_at r q a b i t less e;
          long = b.long ∙ ((let e : length trees + q.many + r.many ≡ length trees + r.many + q.many = omega arith in e) ∙ sym a.long);
        };
      }
    where
      alike_at : (r : Replaces system n trees between x.number) (q : Replaces system m trees others y.number) (a : Then trees between n m r.contractum q.contractum r.many q.many q.contracts.number) (b : Then trees others m n q.contractum r.contractum q.many r.many r.contracts.number) (i : ℕ) (t : Numbered H) → i < length trees → slice_get a.after i ≡ Some t → slice_get b.after i ≡ Some (renumber (turned (length trees) r.many q.many) t)
      alike_at r q a b i t less e =
          let u = get_below trees i less in
          let same : replace_numbered m (replace_numbered n r.contractum (rename (up (length trees) r.many) q.contractum)) (replace_numbered n r.contractum u.0) ≡ t = let z = a.at i u.0 u.1 in cc in
          b.at i u.0 u.1 ∙ ap (λ z. Some z) (sym (put-turned trees shared n m between others r q other i u.0 u.1) ∙ ap (rename (turned (length trees) r.many q.many)) same)
