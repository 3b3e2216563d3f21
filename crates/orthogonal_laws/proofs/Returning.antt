-- Developments of lists of trees, as developments of each tree.
use Rattle.std.proofs.Common.{◌≡◌, ℕ, suc, List, [], ◌∷◌, ◌++◌, map, Bool, true, false, cond, Option, Some, None, refl, sym, ◌∙◌, ap, subst, eq-eqb}
use Rattle.std.specs.Prelude.{Contains, nat_eq}
use Rattle.std.specs.List.{AllByRecursion, IsDistinct}
use Rattle.std.proofs.lemmas.Bool.{eqb-true}
use Rattle.std.proofs.lemmas.List.{append-nil, map-append}
use Rattle.eq_base.specs.Tree.{Tree, Forest, node, empty, grow}
use Rattle.eq_base.specs.Pattern.{PatternCell, fixed, variable, restricted, variables, all_variables, all_restrictions, Substitution}
use Rattle.eq_base.specs.Rewriting.{Rule, System, Gives}
use Rattle.orthogonal_laws.specs.Orthogonal.{IsWellFormedSystem, IsOrthogonal}
use Rattle.eq_base.proofs.Instances.{FitAll, all_bindings, Agrees, agrees_front, agrees_back}
use Rattle.orthogonal_laws.specs.Development.{Development, unmarked, marked, Developments, none, more, right_weight}
use Rattle.eq_base.proofs.Lists.{all_both, all_front}
use Rattle.orthogonal_laws.proofs.Members.{contains-in, in-contains, map-in}
use Rattle.orthogonal_laws.proofs.LeftSides.{open_parts, fill, Fits}
use Rattle.orthogonal_laws.proofs.ForestDevelopments.{Develops, nil, keep, contract, total, weight}
use Rattle.orthogonal_laws.proofs.Translation.{tests}
use Rattle.orthogonal_laws.proofs.Redexes.{compile, compiled, root_tested, parts-whole, instance-agrees, instance-fit, fits-instance}
use Rattle.orthogonal_laws.proofs.Moving.{plain_parts, plain_weights, AreStill, rule-moved}
use Rattle.orthogonal_laws.proofs.CleanParts.{gives_some}

module _ {H : Type 0} (system : System H) where
  -- a development of each tree
  abbrev pub Each : Forest H → Forest H → List ℕ → Type 0
  Each empty empty [] = Unit {0}
  Each (grow t ts) (grow u us) (n ∷ ns) = Development system t u n × Each ts us ns
  Each _ _ _ = ⊥

  each-developments : (ts us : Forest H) (ns : List ℕ) → Each ts us ns → Developments system ts us (total ns)
  each-developments empty empty [] e = none
  each-developments (grow t ts) (grow u us) (n ∷ ns) e = more e.0 (each-developments ts us ns e.1)
  each-developments empty empty (n ∷ ns) e = absurd e
  each-developments empty (grow u us) ns e = absurd e
  each-developments (grow t ts) empty ns e = absurd e
  each-developments (grow t ts) (grow u us) [] e = absurd e

  all_itself : (ts : Forest H) → Developments system ts ts 0
  all_itself empty = none
  all_itself (grow (node h us) ts) = more (unmarked (all_itself us)) (all_itself ts)

  -- nothing marked
  pub itself : (t : Tree H) → Development system t t 0
  itself (node h us) = unmarked (all_itself us)

  -- a variable with a development of what it stands for
  record Entry : Type 0 where
    x : ℕ
    before : Tree H
    after : Tree H
    weight : ℕ
    develops : Development system before after weight

  abbrev find : List Entry → ℕ → Option Entry
  find [] x = None
  find (e ∷ es) x = cond (nat_eq e.x x) (Some e) (find es x)

  abbrev after_or : Option Entry → Tree H → Tree H
  after_or None t = t
  after_or (Some e) t = e.after

  abbrev weight_or : Option Entry → ℕ
  weight_or None = 0
  weight_or (Some e) = e.weight

  find-later : (k : ℕ) (e : Entry) (all : List Entry) (es : List Entry) → AllByRecursion (λ y. nat_eq k y ≡ false) (map (λ e. e.x) es) → AllByRecursion (λ f. find all f.x ≡ Some f) es → AllByRecursion (λ f. cond (nat_eq k f.x) (Some e) (find all f.x) ≡ Some f) es
  find-later k e all [] apart a = tt
  find-later k e all (f ∷ es) apart a = (rw apart.0 a.0, find-later k e all es apart.1 a.1)

  find-all : (es : List Entry) → IsDistinct nat_eq (map (λ e. e.x) es) → AllByRecursion (λ f. find es f.x ≡ Some f) es
  unfolding IsDistinct
  find-all [] d = tt
  find-all (e ∷ es) d = (rw (eq-eqb e.x e.x refl) refl, find-later e.x e es es d.0 (find-all es d.1))

  -- what is found is a development of what the variable stands for
  chosen : (σ : Substitution H) (es : List Entry) (x : ℕ) → AllByRecursion (λ e. e.before ≡ σ e.x) es → Development system (σ x) (after_or (find es x) (σ x)) (weight_or (find es x))
  chosen σ [] x a = itself (σ x)
  chosen σ (e ∷ es) x a = by_test (nat_eq e.x x) refl (chosen σ es x a.1)
    where
      by_test : (b : Bool) → nat_eq e.x x ≡ b → Development system (σ x) (after_or (find es x) (σ x)) (weight_or (find es x)) → Development system (σ x) (after_or (cond b (Some e) (find es x)) (σ x)) (weight_or (cond b (Some e) (find es x)))
      by_test true h d = subst (λ t. Development system t e.after e.weight) (a.0 ∙ ap σ (eqb-true _ _ h)) e.develops
      by_test false h d = d

  abbrev Follows : Substitution H → (ℕ → ℕ) → List Entry → Type 0
  Follows τ v es = AllByRecursion (λ e. (τ e.x ≡ e.after) × (v e.x ≡ e.weight)) es

  all_rest : (τ : Substitution H) (v : ℕ → ℕ) (xs ys : List Entry) → Follows τ v (xs ++ ys) → Follows τ v ys
  all_rest τ v [] ys h = h
  all_rest τ v (x ∷ xs) ys h = all_rest τ v xs ys h.1

  -- the developments of the parts at the variables of patterns, and of the others behind them
  record Split (σ : Substitution H) (ps : Forest (PatternCell H)) (others us : Forest H) (ns : List ℕ) : Type 0 where
    list : List Entry
    keys : map (λ e. e.x) list ≡ all_variables ps
    befores : AllByRecursion (λ e. e.before ≡ σ e.x) list
    rest_us : Forest H
    rest_ns : List ℕ
    each : Each others rest_us rest_ns
    parts : (τ : Substitution H) (v : ℕ → ℕ) → Follows τ v list → (plain_parts τ ps rest_us ≡ us) × (plain_weights v ps rest_ns ≡ ns)
    still : (τ : Substitution H) (v : ℕ → ℕ) → Follows τ v list → AreStill σ τ v (all_restrictions ps)

module _ {H : Type 0} (system : System H) (same : H → H → Bool) where
  split : (σ : Substitution H) (ps : Forest (PatternCell H)) (ts : Forest H) → FitAll system.in_class ps ts → Agrees system.in_class σ (all_bindings system.in_class ps ts) → (others us : Forest H) (ns : List ℕ) → Each system (open_parts (tests same system.in_class ps) ts others) us ns → Split system σ ps others us ns
  split σ empty empty x a others us ns e = record { list = []; keys = refl; befores = tt; rest_us = us; rest_ns = ns; each = e; parts = λ τ v f. (refl, refl); still = λ τ v f. tt }
  split σ empty (grow t ts) x a others us ns e = absurd x
  split σ (grow p ps) empty x a others us ns e = absurd x
  split σ (grow (node (variable y) qs) ps) (grow t ts) x a others empty ns e = absurd e
  split σ (grow (node (variable y) qs) ps) (grow t ts) x a others (grow u us) [] e = absurd e
  split σ (grow (node (variable y) qs) ps) (grow t ts) x a others (grow u us) (n ∷ ns) e =
      let s = split σ ps ts x.1 a.1 others us ns e.1 in
      record {
        list = record { x = y; before = t; after = u; weight = n; develops = e.0 } ∷ s.list;
        keys = ap (λ z. y ∷ z) s.keys;
        befores = (sym a.0, s.befores);
        rest_us = s.rest_us;
        rest_ns = s.rest_ns;
        each = s.each;
        parts = λ τ v f. let z = s.parts τ v f.1 in (rw (f.0.0, z.0) refl, rw (f.0.1, z.1) refl);
        still = λ τ v f. s.still τ v f.1;
      }
  split σ (grow (node (restricted y class) qs) ps) (grow (node h empty) ts) x a others us ns e =
      let s = split σ ps ts x.1 a.1 others us ns e in
      record {
        list = record { x = y; before = node h empty; after = node h empty; weight = 0; develops = unmarked none } ∷ s.list;
        keys = ap (λ z. y ∷ z) s.keys;
        befores = (sym a.0, s.befores);
        rest_us = s.rest_us;
        rest_ns = s.rest_ns;
        each = s.each;
        parts = λ τ v f. s.parts τ v f.1;
        still = λ τ v f. ((f.0.0 ∙ sym a.0, f.0.1), s.still τ v f.1);
      }
  split σ (grow (node (restricted y class) qs) ps) (grow (node h (grow u us')) ts) x a others us ns e = absurd x.0
  split σ (grow (node (fixed g) qs) ps) (grow (node h vs) ts) x a others us ns e =
      let c = system.in_class in
      let one = split σ qs vs x.0.1 (agrees_front c σ (all_bindings c qs vs) (all_bindings c ps ts) a) (open_parts (tests same c ps) ts others) us ns e in
      let two = split σ ps ts x.1 (agrees_back c σ (all_bindings c qs vs) (all_bindings c ps ts) a) others one.rest_us one.rest_ns one.each in
      record {
        list = one.list ++ two.list;
        keys = map-append (λ e. e.x) one.list two.list ∙ rw (one.keys, two.keys) refl;
        befores = all_both (λ e. e.before ≡ σ e.x) one.list two.list one.befores two.befores;
        rest_us = two.rest_us;
        rest_ns = two.rest_ns;
        each = two.each;
        parts = λ τ v f.
            let y = two.parts τ v (all_rest system τ v one.list two.list f) in
            let z = one.parts τ v (all_front (λ e. (τ e.x ≡ e.after) × (v e.x ≡ e.weight)) one.list two.list f) in
            (ap (λ k. plain_parts τ qs k) y.0 ∙ z.0, ap (λ k. plain_weights v qs k) y.1 ∙ z.1);
        still = λ τ v f. all_both (λ r. (τ r.0 ≡ σ r.0) × (v r.0 ≡ 0)) (all_restrictions qs) (all_restrictions ps)
            (one.still τ v (all_front (λ e. (τ e.x ≡ e.after) × (v e.x ≡ e.weight)) one.list two.list f))
            (two.still τ v (all_rest system τ v one.list two.list f));
      }

module _ {H : Type 0} (system : System H) (w : IsWellFormedSystem system) (o : IsOrthogonal system) where
  each-none : (us : Forest H) (ns : List ℕ) → Each system empty us ns → (us ≡ empty) × (ns ≡ [])
  each-none empty [] e = (refl, refl)
  each-none empty (n ∷ ns) e = absurd e
  each-none (grow u us) ns e = absurd e

  -- the step at a root, over developments of the parts
  from_mark : (rule : Rule H) → Contains system.rules rule → (h : H) (args es us : Forest H) (r : Tree (PatternCell H)) (ns : List ℕ) → Fits (compile system w rule) h args r es → Each system es us ns → Development system (node h args) (fill h r us) (suc (weight r ns))
  from_mark rule listed h args es us r ns f each =
      let c = system.in_class in
      let inst = fits-instance system w o rule listed h args es r f in
      let i = inst.left in
      let σ = i.substitution in
      let ps = grow rule.left empty in
      let ts = grow (node h args) empty in
      let parts = f.parts ∙ sym (parts-whole system w o rule.left (root_tested system w rule listed) h args) in
      let s = split system w.same σ ps ts (instance-fit system w rule.left (node h args) i) (instance-agrees system w rule.left (node h args) i) empty us ns (subst (λ z. Each system z us ns) parts each) in
      let τ : Substitution H = λ x. after_or system (find system s.list x) (σ x) in
      let v : ℕ → ℕ = λ x. weight_or system (find system s.list x) in
      let distinct = subst (λ z. IsDistinct nat_eq z) (sym (s.keys ∙ append-nil (variables rule.left))) (o.linear rule listed) in
      let follows = found_follows σ s.list s.list (find-all system s.list distinct) in
      let rest = each-none s.rest_us s.rest_ns s.each in
      let p = s.parts τ v follows in
      let same_us : plain_parts τ ps empty ≡ us = ap (λ z. plain_parts τ ps z) (sym rest.0) ∙ p.0 in
      let same_ns : plain_weights v ps [] ≡ ns = ap (λ z. plain_weights v ps z) (sym rest.1) ∙ p.1 in
      let g = gives_some system τ σ rule.right (node h args) (fill h r es) inst.right in
      let mv = rule-moved system w o rule listed rule.right refl h args i r f.right τ v (s.still τ v follows) g.0 g.1 in
      let value : g.0 ≡ fill h r us = sym mv.value ∙ ap (λ z. fill h r z) same_us in
      let weighs : right_weight v rule.right ≡ weight r ns = sym mv.weighs ∙ ap (λ z. weight r z) same_ns in
      subst (λ n. Development system (node h args) (fill h r us) (suc n)) weighs
      (marked rule σ τ v listed i.applied i.respects (λ x. chosen system σ s.list x s.befores) (subst (λ z. Gives system τ rule.right (node h args) z) value g.1))
    where
      found_follows : (σ : Substitution H) (all es : List (Entry system)) → AllByRecursion (λ e. find system all e.x ≡ Some e) es → Follows system (λ x. after_or system (find system all x) (σ x)) (λ x. weight_or system (find system all x)) es
      found_follows σ all [] a = tt
      found_follows σ all (e ∷ es) a = ((ap (λ z. after_or system z (σ e.x)) a.0, ap (λ z. weight_or system z) a.0), found_follows σ all es a.1)

  pub develops-from : {ts us : Forest H} {ns : List ℕ} → Develops (compiled system w) ts us ns → Each system ts us ns
  develops-from nil = tt
  develops-from (keep {args = args} {us = us} {ns = ns} dk dr) = (unmarked (each-developments system args us ns (develops-from dk)), develops-from dr)
  develops-from (contract {h = h} {args = args} {es = es} {us = us} {r = r} {ns = ns} x dk dr) =
      let m = map-in (compile system w) system.rules x.rule (contains-in x.among) in
      (from_mark m.0 (in-contains m.1) h args es us r ns (subst (λ z. Fits z h args r es) (sym m.2) x.fits) (develops-from dk), develops-from dr)

  -- of one tree
  pub record One (t : Tree H) (us : Forest H) (ns : List ℕ) : Type 0 where
    pub tree : Tree H
    pub weight : ℕ
    pub is : us ≡ grow tree empty
    pub weighs : ns ≡ weight ∷ []
    pub develops : Development system t tree weight

  pub develop_one : (t : Tree H) (us : Forest H) (ns : List ℕ) → Develops (compiled system w) (grow t empty) us ns → One t us ns
  develop_one t us ns d = go us ns (develops-from d)
    where
      go : (us : Forest H) (ns : List ℕ) → Each system (grow t empty) us ns → One t us ns
      go empty ns e = absurd e
      go (grow u us) [] e = absurd e
      go (grow u us) (n ∷ ns) e =
          let z = each-none us ns e.1 in
          record { tree = u; weight = n; is = ap (λ k. grow u k) z.0; weighs = ap (λ k. n ∷ k) z.1; develops = e.0 }
