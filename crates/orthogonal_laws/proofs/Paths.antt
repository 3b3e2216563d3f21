-- The decision tree of one rule does what the rule says.
use Rattle.std.proofs.Common.{◌≡◌, Bool, true, false, cond, refl, sym, ◌∙◌, ap, subst, Option, Some, None}
use Rattle.std.specs.Prelude.{IsTrue}
use Rattle.eq_base.specs.Tree.{Tree, Forest, node, empty, grow, count}
use Rattle.eq_base.specs.Pattern.{PatternCell}
use Rattle.orthogonal_laws.proofs.LeftSides.{Label, Patterns, Last, Open, Test, Compiled, Meets, open_parts, skeleton}
use Rattle.orthogonal_laws.proofs.Matchers.{Matcher, Done, Stop, run, parts, path, done, rule_tree, Alive}
use Rattle.orthogonal_laws.proofs.TestedParts.{alive_before}

module _ {H : Type 0} where
  -- a path along patterns that the trees meet
  pub path-run : (f : H) (ps : Patterns H) (ts : Forest H) (k : Forest H → Matcher H) → Meets ps ts → run (path f ps k) ts ≡ k (skeleton f ps ts)
  path-run f Last empty k m = refl
  path-run f Last (grow t more) k m = absurd m
  path-run f (Open ps) empty k m = absurd m
  path-run f (Open ps) (grow t more) k m = path-run f ps more (λ ts. k (grow (node f empty) ts)) m
  path-run f (Test t ps qs) empty k m = absurd m
  path-run f (Test t ps qs) (grow (node h us) more) k m =
      let k' = λ (us : Forest H). path f qs (λ ts. k (grow (node h us) ts)) in
      ap (λ b. run (run (cond b (path f ps k') Stop) us) more) m.0
      ∙ (ap (λ n. run n more) (path-run f ps us k' m.1)
      ∙ path-run f qs more (λ ts. k (grow (node h (skeleton f ps us)) ts)) m.2)

  pub path-parts : (f : H) (ps : Patterns H) (ts : Forest H) (k : Forest H → Matcher H) (others : Forest H) → Meets ps ts → parts (path f ps k) ts others ≡ open_parts ps ts others
  path-parts f Last empty k others m = refl
  path-parts f Last (grow t more) k others m = absurd m
  path-parts f (Open ps) empty k others m = absurd m
  path-parts f (Open ps) (grow t more) k others m = ap (λ z. grow t z) (path-parts f ps more (λ ts. k (grow (node f empty) ts)) others m)
  path-parts f (Test t ps qs) empty k others m = absurd m
  path-parts f (Test t ps qs) (grow (node h us) more) k others m =
      let k' = λ (us : Forest H). path f qs (λ ts. k (grow (node h us) ts)) in
      ap (λ b. parts (cond b (path f ps k') Stop) us (parts (run (cond b (path f ps k') Stop) us) more others)) m.0
      ∙ (ap (λ n. parts (path f ps k') us (parts n more others)) (path-run f ps us k' m.1)
      ∙ (ap (λ z. parts (path f ps k') us z) (path-parts f qs more (λ ts. k (grow (node h (skeleton f ps us)) ts)) others m.2)
      ∙ path-parts f ps us k' (open_parts qs more others) m.1))

  pub cond_alive : (b : Bool) (m : Matcher H) → Alive (cond b m Stop) → b ≡ true
  cond_alive true m alive = refl
  cond_alive false m alive = absurd alive

  pub path-meets : (f : H) (ps : Patterns H) (ts : Forest H) (k : Forest H → Matcher H) → Alive (run (path f ps k) ts) → Meets ps ts
  path-meets f Last empty k alive = tt
  path-meets f Last (grow t more) k alive = alive
  path-meets f (Open ps) empty k alive = alive
  path-meets f (Open ps) (grow t more) k alive = path-meets f ps more (λ ts. k (grow (node f empty) ts)) alive
  path-meets f (Test t ps qs) empty k alive = alive
  path-meets f (Test t ps qs) (grow (node h us) more) k alive =
      let k' = λ (us : Forest H). path f qs (λ ts. k (grow (node h us) ts)) in
      let m = path f ps k' in
      let alive1 = alive_before (run (cond (t (h, count us)) m Stop) us) more alive in
      let e : t (h, count us) ≡ true = cond_alive (t (h, count us)) m (alive_before (cond (t (h, count us)) m Stop) us alive1) in
      let met = path-meets f ps us k' (subst (λ b. Alive (run (cond b m Stop) us)) e alive1) in (
        e,
        met,
        path-meets f qs more (λ ts. k (grow (node h (skeleton f ps us)) ts))
            (subst (λ n. Alive (run n more)) (ap (λ b. run (cond b m Stop) us) e ∙ path-run f ps us k' met) alive),
      )

  -- one rule
  abbrev pub rule_path : Compiled H → Label H → Matcher H
  rule_path rule h = path h.0 rule.args (λ us. done (rule.right (node h.0 us)))

  pub rule-run : (rule : Compiled H) (h : H) (ts : Forest H) (r : Tree (PatternCell H)) → IsTrue (rule.root (h, count ts)) → Meets rule.args ts → rule.right (node h (skeleton h rule.args ts)) ≡ Some r → run (rule_tree rule (h, count ts)) ts ≡ Done r
  rule-run rule h ts r e m e' =
      ap (λ b. run (cond b (rule_path rule (h, count ts)) Stop) ts) e
      ∙ (path-run h rule.args ts (λ us. done (rule.right (node h us))) m
      ∙ ap (λ o. done o) e')

  pub rule-parts : (rule : Compiled H) (h : H) (ts : Forest H) (more : Forest H) → IsTrue (rule.root (h, count ts)) → Meets rule.args ts → parts (rule_tree rule (h, count ts)) ts more ≡ open_parts rule.args ts more
  rule-parts rule h ts more e m =
      ap (λ b. parts (cond b (rule_path rule (h, count ts)) Stop) ts more) e
      ∙ path-parts h rule.args ts (λ us. done (rule.right (node h us))) more m

  pub done-some : (o : Option (Tree (PatternCell H))) (r : Tree (PatternCell H)) → done o ≡ Done r → o ≡ Some r
  done-some None r e = absurd (cc)
  done-some (Some s) r e = let f : s ≡ r = cc in ap (λ x. Some x) f

  pub record Fitted (rule : Compiled H) (h : H) (ts : Forest H) (r : Tree (PatternCell H)) : Type 0 where
    pub root : IsTrue (rule.root (h, count ts))
    pub args : Meets rule.args ts
    pub right : rule.right (node h (skeleton h rule.args ts)) ≡ Some r

  pub run-rule : (rule : Compiled H) (h : H) (ts : Forest H) (r : Tree (PatternCell H)) → run (rule_tree rule (h, count ts)) ts ≡ Done r → Fitted rule h ts r
  run-rule rule h ts r e =
      let alive : Alive (run (rule_tree rule (h, count ts)) ts) = subst Alive (sym e) tt in
      let root : rule.root (h, count ts) ≡ true = cond_alive (rule.root (h, count ts)) (rule_path rule (h, count ts)) (alive_before (rule_tree rule (h, count ts)) ts alive) in
      let same : run (rule_tree rule (h, count ts)) ts ≡ run (rule_path rule (h, count ts)) ts = ap (λ b. run (cond b (rule_path rule (h, count ts)) Stop) ts) root in
      let met = path-meets h rule.args ts (λ us. done (rule.right (node h us))) (subst Alive same alive) in
      record {
        root = root;
        args = met;
        right = done-some _ r (sym (path-run h rule.args ts (λ us. done (rule.right (node h us))) met) ∙ (sym same ∙ e));
      }
