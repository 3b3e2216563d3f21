-- Where the first completed rule has no value, the reading is over.
use Rattle.std.proofs.Common.{◌≡◌, ℕ, zero, suc, ◌<◌, List, [], ◌∷◌, ◌++◌, ◌⊎◌, inl, inr, length, Some, refl, sym, ◌∙◌, ap, subst, arith, ⊎_elim}
use Rattle.std.specs.Prelude.{◌≢◌, Contains, slice_get}
use Rattle.std.proofs.lemmas.Bool.{cases_lt}
use Rattle.eq_base.specs.Tree.{Tree, Forest, node, empty, grow, head_of, count, subtree_at, subtree_in, number}
use Rattle.eq_base.specs.Storing.{join as append}
use Rattle.eq_base.specs.Pattern.{PatternCell, fixed, variable, restricted, Classes, IsTested, Meets, IsConstantOf, IsInstanceOf}
use Rattle.eq_base.specs.Testing.{MeetsRoot, IsTestedAt}
use Rattle.eq_base.specs.Rewriting.{Rule, System, RootStepBy, IsRedexBy, IsRedex, IsFirst}
use Rattle.eq_base.proofs.Numbers.{subtree-append, number_below, nth_subtree-number, number_above}
use Rattle.orthogonal_laws.specs.Orthogonal.{IsWellFormedSystem, IsOrthogonal}
use Rattle.orthogonal_laws.specs.Strategy.{HasNoDemandedRedex}
use Rattle.orthogonal_laws.proofs.Comparing.{tested_or_not}
use Rattle.orthogonal_laws.proofs.LeftSides.{Label}
use Rattle.orthogonal_laws.proofs.Redexes.{root_tested}
use Rattle.match_laws.specs.Items.{ItemSet, IsRead, IsPlain, IsFirstCompleted}
use Rattle.match_laws.specs.Reading.{KeepArities, IsItemAt}
use Rattle.match_laws.specs.Demand.{left_sides, HasFixedArities}
use Rattle.match_laws.proofs.Passing.{plain_variable}
use Rattle.match_laws.proofs.Demanding.{listed_left}
use Rattle.match_laws.proofs.SetLaws.{set_of_term, unmixed, reached_reachable}
use Rattle.machine_laws.specs.Frames.{Frame, around, plug, way, AllAround}
use Rattle.machine_laws.specs.Completions.{FitsFirstAbove}
use Rattle.machine_laws.specs.Scanning.{ComesTo, at_argument}
use Rattle.machine_laws.proofs.Ways.{width-count}
use Rattle.machine_laws.proofs.Represents.{untested_items}
use Rattle.machine_laws.proofs.Simulating.{proper}
use Rattle.machine_laws.proofs.Coming.{arrives, keep_inside, over_all, quiet_closed, closed-run}
use Rattle.machine_laws.proofs.Completions.{plug-append, way-append, way-back, way-length, at_way, reached, comes_above, contains, met_of_instance, head_met, no_clash}
use Rattle.machine_laws.proofs.Untested.{untested_after}

-- one of two cuts of a list comes first
cut_first : {A : Type 0} (xs ys zs ws : List A) → xs ++ ys ≡ zs ++ ws → ((mid : List A) × (zs ≡ xs ++ mid) × (ys ≡ mid ++ ws)) ⊎ ((mid : List A) × (xs ≡ zs ++ mid) × (ws ≡ mid ++ ys))
cut_first [] ys zs ws e = inl (zs, refl, e)
cut_first (x ∷ xs) ys [] ws e = inr (x ∷ xs, refl, sym e)
cut_first (x ∷ xs) ys (z ∷ zs) ws e =
    let head : x ≡ z = cc in
    let rest : xs ++ ys ≡ zs ++ ws = cc in
    elim (cut_first xs ys zs ws rest) [
      | inl c ↦ inl (c.0, (let a = c.1 in cc), c.2)
      | inr c ↦ inr (c.0, (let a = c.1 in cc), c.2)
    ]

argument_at : {A : Type 0} (ps : Forest A) (i : ℕ) → i < count ps → (p : Tree A) × (subtree_in ps i [] ≡ Some p)
argument_at empty i lt = absurd (omega (arith, lt))
argument_at (grow p ps) zero lt = (p, refl)
argument_at (grow p ps) (suc i) lt = argument_at ps i (omega (arith, lt))

-- what holds of the tree below each front of the frames holds all around
all_around : {H : Type 0} (P : Tree H → Type 0) (frames : List (Frame H)) (t : Tree H) → ((inner outer : List (Frame H)) → frames ≡ inner ++ outer → P (plug inner t)) → AllAround P frames t
all_around P [] t each = each [] [] refl
all_around P (f ∷ frames) t each = (each [] (f ∷ frames) refl, all_around P frames (around f t) (λ inner outer is. each (f ∷ inner) outer (ap (λ z. f ∷ z) is)))

module _ {H : Type 0} (in_class : Classes H) where
  no_constant : (class : ℕ) (h : H) (ts us : Forest H) (t : Tree H) → IsConstantOf in_class class (node h (append ts (grow t us))) → ⊥
  no_constant class h empty us t m = m
  no_constant class h (grow s ts) us t m = m

  -- a pattern that is tested, and met by a node with an argument, has that argument
  argument_of : (p : Tree (PatternCell H)) (f : Frame H) (t : Tree H) → IsTested (head_of p) → MeetsRoot in_class p (around f t) → (a : Tree (PatternCell H)) × (subtree_at p (count f.before ∷ []) ≡ Some a)
  argument_of (node (fixed g) ps) f t tested m = argument_at ps (count f.before) (let z = width-count f t in let y = m.1 in omega (arith, z, y))
  argument_of (node (variable x) ps) f t tested m = absurd tested
  argument_of (node (restricted x class) ps) f t tested m = absurd (no_constant class f.head f.before f.behind t m)

module _ {H : Type 0} (system : System H) (w : IsWellFormedSystem system) (o : IsOrthogonal system) (arity : H → ℕ) (k : HasFixedArities system arity) where
  -- where a node below is read, no plain variable waits
  no_plain : (f : Frame H) (frames : List (Frame H)) (items : ItemSet) (t : Tree H) → ComesTo system (f ∷ frames) items → (e c : ℕ) → 0 < c → IsPlain (left_sides system) items e c → ⊥
  no_plain f frames items t (at_argument coming is passed wants) e c more plain =
      let reachable = reached_reachable system (plug (f ∷ frames) t) (way (f ∷ frames) []) items (reached system (at_argument coming is passed wants) t [] items refl) in
      unmixed system w o arity k items reachable e c wants.e wants.c more wants.below plain wants.waiting

  -- a left side that fits a node tests the way from there to each node that is read below
  tests_way : (mid outer : List (Frame H)) (items : ItemSet) (t : Tree H) → ComesTo system (mid ++ outer) items → KeepArities arity (grow (plug (mid ++ outer) t) empty) → (e : ℕ) (rule : Rule H) → slice_get system.rules e ≡ Some rule → IsInstanceOf system.in_class rule.left (plug mid t) → IsTestedAt rule.left (way mid [])
  tests_way [] outer items t comes keeps e rule listed fits = record { part = rule.left; stands = refl; tested = root_tested system w rule (contains system w o arity k e rule listed) }
  tests_way (f ∷ mid) outer items t comes keeps e rule listed fits =
      let left = rule.left in
      let here = contains system w o arity k e rule listed in
      let above = comes_above system (f ∷ []) (mid ++ outer) items comes in
      let up = tests_way mid outer above.0 (around f t) above.1 keeps e rule listed fits in
      let met = met_of_instance system w o arity k rule here (plug mid (around f t)) fits (way mid []) up in
      let part : met.part ≡ up.part = let a = met.part_stands in let b = up.stands in cc in
      let subterm : met.subterm ≡ around f t = let a = met.subterm_stands in let b = at_way mid (around f t) [] in cc in
      let root : MeetsRoot system.in_class up.part (around f t) = subst (λ z. MeetsRoot system.in_class up.part z) subterm (subst (λ z. MeetsRoot system.in_class z met.subterm) part met.meets) in
      let a = argument_of system.in_class up.part f t up.tested root in
      let q = way (f ∷ mid) [] in
      let stands : subtree_at left q ≡ Some a.0 = ap (λ z. subtree_at left z) (way-back mid (count f.before ∷ [])) ∙ (subtree-append left (way mid []) (count f.before ∷ []) up.part up.stands ∙ a.1) in
      elim (tested_or_not (head_of a.0)) [
        | inl tested ↦ record { part = a.0; stands = stands; tested = tested }
        | inr plain ↦ absurd (
            let frames = f ∷ (mid ++ outer) in
            let whole = plug frames t in
            let subtree = plug (f ∷ mid) t in
            let item : IsItemAt system.in_class (left_sides system) whole (way frames []) e (number left q) = record {
              above = way outer [];
              below = q;
              position = way-append (f ∷ mid) outer [] ∙ way-back outer q;
              subterm = subtree;
              stands = ap (λ z. subtree_at z (way outer [])) (plug-append (f ∷ mid) outer t) ∙ at_way outer subtree [];
              left = left;
              listed = listed_left system e rule listed;
              part = a.0;
              part_stands = stands;
              cell = refl;
              met = λ p before tested. met_of_instance system w o arity k rule here subtree fits p tested;
            } in
            let held = (set_of_term system w o arity k whole keeps (way frames []) items (reached system comes t [] items refl) e (number left q)).1 item in
            let x = plain_variable (head_of a.0) plain in
            let below_root : q ≢ [] = λ z. let n = way-length (f ∷ mid) [] in let y = ap length z in omega (arith, n, y) in
            no_plain f (mid ++ outer) items t comes e (number left q) (number_above left q below_root) (record {
              held = held;
              x = x.0;
              is_cell = record { left = left; listed = listed_left system e rule listed; there = number_below left q a.0 stands; stands = ap head_of (nth_subtree-number left q a.0 stands) ∙ x.1 };
            }))
      ]

  -- no left side fits a node that another one tests below its root
  not_below : (mid : List (Frame H)) (t : Tree H) (a b : Rule H) → Contains system.rules a → Contains system.rules b → IsInstanceOf system.in_class a.left (plug mid t) → IsInstanceOf system.in_class b.left t → IsTestedAt a.left (way mid []) → way mid [] ≢ [] → ⊥
  not_below mid t a b in_a in_b fits fits' tested below_root =
      let c = o.parts a b in_a in_b (way mid []) below_root tested in
      let q = way mid [] ++ c.at in
      let one : IsTestedAt a.left q = record { part = c.clashes.one.part; stands = subtree-append a.left (way mid []) c.at tested.part tested.stands ∙ c.clashes.one.stands; tested = c.clashes.one.tested } in
      let m = met_of_instance system w o arity k a in_a (plug mid t) fits q one in
      let m' = met_of_instance system w o arity k b in_b t fits' c.at c.clashes.other in
      let same : m'.subterm ≡ m.subterm = let x = ap (λ z. subtree_at (plug mid t) z) (way-back mid c.at) in let y = at_way mid t c.at in let z = m.subterm_stands in let z' = m'.subterm_stands in cc in
      let x = head_met system w o arity k a (plug mid t) q one.part one.stands m in
      let x' = head_met system w o arity k b t c.at c.clashes.other.part c.clashes.other.stands m' in
      c.clashes.clash (head_of m.subterm) x (subst (λ z. Meets system.in_class (head_of c.clashes.other.part) (head_of z)) same x')

  -- two left sides that fit nodes on the way of a reading fit the same node
  one_node : (mid outer : List (Frame H)) (items : ItemSet) (t : Tree H) → ComesTo system (mid ++ outer) items → KeepArities arity (grow (plug (mid ++ outer) t) empty) → (i j : ℕ) (a b : Rule H) → slice_get system.rules i ≡ Some a → slice_get system.rules j ≡ Some b → IsInstanceOf system.in_class a.left (plug mid t) → IsInstanceOf system.in_class b.left t → mid ≡ []
  one_node [] outer items t comes keeps i j a b l l' fits fits' = refl
  one_node (f ∷ mid) outer items t comes keeps i j a b l l' fits fits' =
      absurd (not_below (f ∷ mid) t a b (contains system w o arity k i a l) (contains system w o arity k j b l') fits fits' (tests_way (f ∷ mid) outer items t comes keeps i a l fits) (λ z. let n = way-length (f ∷ mid) [] in let y = ap length z in omega (arith, n, y)))

  -- a redex that the left side of a rule fits is one by this rule, if by no earlier one
  redex_by : (t : Tree H) (e : ℕ) (rule : Rule H) → slice_get system.rules e ≡ Some rule → IsInstanceOf system.in_class rule.left t → IsFirst system e t → IsRedex system t → IsRedexBy system e t
  redex_by t e rule listed fits first (u, (number, by)) =
      ⊎_elim
      (λ less. absurd (first number less (u, by)))
      (λ le. ⊎_elim
      (λ more. elim (o.roots e number rule by.rule more listed by.listed) [
        | inl clash ↦ absurd (no_clash system w o arity k t (contains system w o arity k e rule listed) (contains system w o arity k number by.rule by.listed) fits by.is_instance.left clash)
        | inr same ↦ (u, record { rule = rule; listed = listed; is_instance = (same.1 t fits by.is_instance.left u).1 by.is_instance })
      ])
      (λ ge. let same : number ≡ e = omega (arith, le, ge) in (u, subst (λ z. RootStepBy system z t u) same by))
      (cases_lt e number))
      (cases_lt number e)

  module _ (frames : List (Frame H)) (items : ItemSet) (h : H) (args : Forest H) (comes : ComesTo system frames items) (keeps : KeepArities arity (grow (plug frames (node h args)) empty))
      (e height : ℕ) (a : FitsFirstAbove system frames (node h args) e height) (none : IsRedexBy system e (plug a.inner (node h args)) → ⊥) where
    abbrev t : Tree H
    t = node h args

    -- the node that the completed rule fits, if it is a redex, is one by this rule
    not_there : IsRedex system (plug a.inner t) → ⊥
    not_there redex = none (redex_by (plug a.inner t) e a.rule a.listed a.fits a.first redex)

    -- no node on the way is a redex
    no_redex_on_way : (inner outer : List (Frame H)) → frames ≡ inner ++ outer → IsRedex system (plug inner t) → ⊥
    no_redex_on_way inner outer is redex =
        let by = redex.1.1 in
        elim (cut_first inner outer a.inner a.outer (sym is ∙ a.whole)) [
          | inl c ↦
              let s : plug a.inner t ≡ plug c.0 (plug inner t) = ap (λ z. plug z t) c.1 ∙ plug-append inner c.0 t in
              let here = comes_above system inner outer items (subst (λ z. ComesTo system z items) is comes) in
              let whole : plug frames t ≡ plug outer (plug inner t) = ap (λ z. plug z t) is ∙ plug-append inner outer t in
              let z = one_node c.0 a.outer here.0 (plug inner t) (subst (λ z. ComesTo system z here.0) c.2 here.1) (subst (λ z. KeepArities arity (grow (plug z (plug inner t)) empty)) c.2 (subst (λ z. KeepArities arity (grow z empty)) whole keeps)) e redex.1.0 a.rule by.rule a.listed by.listed (subst (λ z. IsInstanceOf system.in_class a.rule.left z) s a.fits) by.is_instance.left in
              let same : plug a.inner t ≡ plug inner t = s ∙ ap (λ z. plug z (plug inner t)) z in
              not_there (subst (λ z. IsRedex system z) (sym same) redex)
          | inr c ↦
              let s : plug inner t ≡ plug c.0 (plug a.inner t) = ap (λ z. plug z t) c.1 ∙ plug-append a.inner c.0 t in
              let here = comes_above system a.inner a.outer items (subst (λ z. ComesTo system z items) a.whole comes) in
              let whole : plug frames t ≡ plug a.outer (plug a.inner t) = ap (λ z. plug z t) a.whole ∙ plug-append a.inner a.outer t in
              let z = one_node c.0 outer here.0 (plug a.inner t) (subst (λ z. ComesTo system z here.0) c.2 here.1) (subst (λ z. KeepArities arity (grow (plug z (plug a.inner t)) empty)) c.2 (subst (λ z. KeepArities arity (grow z empty)) whole keeps)) redex.1.0 e by.rule a.rule by.listed a.listed (subst (λ z. IsInstanceOf system.in_class by.rule.left z) s by.is_instance.left) a.fits in
              let same : plug inner t ≡ plug a.inner t = s ∙ ap (λ z. plug z (plug a.inner t)) z in
              not_there (subst (λ z. IsRedex system z) same redex)
        ]

    -- none of the nodes on the way has a demanded redex
    pub no_value_settles : (next : ItemSet) → IsRead system.in_class (left_sides system) items h next → IsFirstCompleted system.in_class (left_sides system) items h e height → AllAround (HasNoDemandedRedex system) frames t
    no_value_settles next is done =
        let at = arrives system w o arity k comes t keeps in
        let here = keep_inside arity frames t keeps in
        let l : Label H = (h, count args) in
        let m = at.reads l in
        let reachable = reached_reachable system (plug frames t) (way frames []) items (reached system comes t [] items refl) in
        let closed = untested_items system.in_class (left_sides system) (proper system w o arity k) m (λ i d x n cell past there tested. untested_after system w o arity k items next h e done.c reachable done.completed is i d x n cell past there tested) (at.shows l here.0 next is) in
        over_all system w o arity k at.comes h args (quiet_closed system w o arity k args closed) (closed-run args closed) (all_around (λ s. IsRedex system s → ⊥) frames t (λ inner outer is redex. no_redex_on_way inner outer is redex))
