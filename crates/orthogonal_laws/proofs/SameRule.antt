-- A rule that fits where there is no demanded redex below fits after a development, and no other does.
use Rattle.std.proofs.Common.{◌≡◌, ℕ, List, refl, sym, ◌∙◌, ap, subst}
use Rattle.std.specs.Prelude.{Contains}
use Rattle.eq_base.specs.Tree.{Tree, Forest, node, empty, grow, count}
use Rattle.eq_base.specs.Pattern.{PatternCell}
use Rattle.orthogonal_laws.proofs.LeftSides.{Label, Compiled, open_parts, Fits, Regular}
use Rattle.orthogonal_laws.proofs.ForestDevelopments.{Develops, nil, keep, contract}
use Rattle.orthogonal_laws.proofs.Matchers.{Matcher, Read, Skip, End, Done, Stop, run, join, rule_tree, tree, Compiles}
use Rattle.orthogonal_laws.proofs.Staying.{develops-count}
use Rattle.orthogonal_laws.proofs.Sequential.{Beside, beside_read, beside_skip, beside_end, beside_done, beside_stop_left, beside_stop_right}
use Rattle.orthogonal_laws.proofs.Walks.{Quiet, quiet_read, quiet_skip, quiet_end, quiet_done}
use Rattle.orthogonal_laws.proofs.DecisionTrees.{Member, member_first, member_next, member_of, Fit, first_fits, regular-fit, regular-compiles}
use Rattle.orthogonal_laws.proofs.Paths.{rule-run, run-rule}
use Rattle.orthogonal_laws.proofs.Joins.{join-stop}

-- the second goes on wherever the first does
data Within {H : Type 0} : Matcher H → Matcher H → Type 0 where
  within_read : {f g : Label H → Matcher H} → ((h : Label H) → Within (f h) (g h)) → Within (Read f) (Read g)
  within_skip : {a b : Matcher H} → Within a b → Within (Skip a) (Skip b)
  within_end : {a b : Matcher H} → Within a b → Within (End a) (End b)
  within_done : {r s : Tree (PatternCell H)} → Within (Done r) (Done s)
  within_stop : {b : Matcher H} → Within Stop b

module _ {H : Type 0} where
  within_itself : (a : Matcher H) → Within a a
  within_itself (Read f) = within_read (λ h. within_itself (f h))
  within_itself (Skip a) = within_skip (within_itself a)
  within_itself (End a) = within_end (within_itself a)
  within_itself (Done r) = within_done
  within_itself Stop = within_stop

  within-join : {a b : Matcher H} → Beside (λ r s. r ≡ s) a b → Within a (join a b)
  within-join (beside_read x) = within_read (λ h. within-join (x h))
  within-join (beside_skip x) = within_skip (within-join x)
  within-join (beside_end x) = within_end (within-join x)
  within-join (beside_done x) = within_done
  within-join beside_stop_left = within_stop
  within-join (beside_stop_right {a = a}) = subst (λ m. Within a m) (sym (join-stop a)) (within_itself a)

  within-join_right : {c b : Matcher H} → Within c b → {a : Matcher H} → Beside (λ r s. r ≡ s) a b → Within c (join a b)
  within-join_right (within_read w) (beside_read x) = within_read (λ h. within-join_right (w h) (x h))
  within-join_right (within_read w) beside_stop_left = within_read w
  within-join_right (within_skip w) (beside_skip x) = within_skip (within-join_right w x)
  within-join_right (within_skip w) beside_stop_left = within_skip w
  within-join_right (within_end w) (beside_end x) = within_end (within-join_right w x)
  within-join_right (within_end w) beside_stop_left = within_end w
  within-join_right within_done (beside_done x) = within_done
  within-join_right within_done beside_stop_left = within_done
  within-join_right within_stop x = within_stop

  within-run : (ts : Forest H) {a b : Matcher H} → Within a b → Within (run a ts) (run b ts)
  within-run empty (within_read w) = within_stop
  within-run empty (within_skip w) = within_stop
  within-run empty (within_end w) = w
  within-run empty within_done = within_stop
  within-run empty within_stop = within_stop
  within-run (grow (node h args) rest) (within_read w) = within-run rest (within-run args (w (h, count args)))
  within-run (grow (node h args) rest) (within_skip w) = within-run rest w
  within-run (grow (node h args) rest) (within_end w) = within_stop
  within-run (grow (node h args) rest) within_done = within_stop
  within-run (grow (node h args) rest) within_stop = within_stop

  within-tree : {rules : List (Compiled H)} {rule : Compiled H} → Member rules rule → Fit rules → (h : Label H) → Within (rule_tree rule h) (tree rules h)
  within-tree (member_first {rule = rule} {rules = rules}) fit h = within-join (first_fits rule rules fit h)
  within-tree (member_next {other = other} {rules = rules} i) fit h =
      within-join_right (within-tree i (λ a b i i' h. fit a b (member_next i) (member_next i') h) h) (first_fits other rules fit h)

module _ {H : Type 0} (rules : List (Compiled H)) (start : Label H → Matcher H) (c : Compiles rules start) where
  -- what is read where there is no demanded redex is read the same after a development
  same_within : {ts us : Forest H} {ns : List ℕ} → Develops rules ts us ns → {m : Matcher H} → Quiet rules start m ts → {a : Matcher H} → Within a m → run a us ≡ run a ts
  same_within (keep {us = us} {vs = vs} dk dr) (quiet_read {h = h} {args = args} {rest = rest} none q1 q2 e q3) (within_read {f = f} w) =
      ap (λ k. run (run (f (h, k)) us) vs) (develops-count rules start c dk)
      ∙ ap (λ n. run n vs) (same_within dk q2 (w (h, count args)))
      ∙ same_within dr q3 (subst (λ n. Within (run (f (h, count args)) args) n) e (within-run args (w (h, count args))))
  same_within (contract x dk dr) (quiet_read none q1 q2 e q3) w = absurd (none _ _ x)
  same_within (keep dk dr) (quiet_skip q) (within_skip w) = same_within dr q w
  same_within (contract x dk dr) (quiet_skip q) (within_skip w) = same_within dr q w
  same_within (keep dk dr) quiet_end (within_end w) = refl
  same_within (contract x dk dr) quiet_end (within_end w) = refl
  same_within (keep dk dr) quiet_done within_done = refl
  same_within (contract x dk dr) quiet_done within_done = refl
  same_within nil q w = refl
  same_within (keep dk dr) q within_stop = refl
  same_within (contract x dk dr) q within_stop = refl

module _ {H : Type 0} (rules : List (Compiled H)) (regular : Regular rules) where
  -- the same rules fit
  pub same_rule : (h : H) (args us : Forest H) (ns : List ℕ) → Quiet rules (tree rules) (tree rules (h, count args)) args → Develops rules args us ns → (rule : Compiled H) → Contains rules rule → run (rule_tree rule (h, count us)) us ≡ run (rule_tree rule (h, count args)) args
  same_rule h args us ns q d rule i =
      ap (λ k. run (rule_tree rule (h, k)) us) (develops-count rules (tree rules) (regular-compiles regular) d)
      ∙ same_within rules (tree rules) (regular-compiles regular) d q (within-tree (member_of i) (regular-fit regular) (h, count args))

  pub fits-run : (rule : Compiled H) (h : H) (us es : Forest H) (r : Tree (PatternCell H)) → Fits rule h us r es → run (rule_tree rule (h, count us)) us ≡ Done r
  fits-run rule h us es r f = rule-run rule h us r f.root f.args f.right

  pub run-fits : (rule : Compiled H) (h : H) (us : Forest H) (r : Tree (PatternCell H)) → run (rule_tree rule (h, count us)) us ≡ Done r → Fits rule h us r (open_parts rule.args us empty)
  run-fits rule h us r e = let f = run-rule rule h us r e in record { root = f.root; args = f.args; right = f.right; parts = refl }
