-- Which node a completed left side fits: the one so far above as the cell is deep.
use Rattle.std.proofs.Common.{◌≡◌, ℕ, zero, suc, ◌+◌, ◌≤◌, List, [], ◌∷◌, ◌++◌, length, inl, inr, Some, refl, sym, ◌∙◌, ap, subst, arith}
use Rattle.std.specs.Prelude.{Contains, slice_get}
use Rattle.eq_base.specs.Tree.{Tree, Forest, node, empty, grow, head_of, count, Position, subtree_at, subtree_in, number, nth_position}
use Rattle.eq_base.specs.Storing.{join as append}
use Rattle.eq_base.specs.Pattern.{PatternCell, fixed, variable, restricted, IsTested, Meets, IsInstanceOf}
use Rattle.eq_base.specs.Testing.{MeetsRoot, IsTestedAt, MeetsAt}
use Rattle.eq_base.specs.Rewriting.{Rule, System, IsFirst}
use Rattle.eq_base.proofs.Instances.{FitAll, FitAll-count, instance_from_fits, fits_from_instance}
use Rattle.orthogonal_laws.specs.Orthogonal.{IsWellFormedSystem, IsOrthogonal, ClashFirst}
use Rattle.orthogonal_laws.proofs.Members.{get-in, in-contains}
use Rattle.eq_base.proofs.Numbers.{position-number}
use Rattle.match_laws.specs.Items.{ItemSet, IsCompleted, IsFirstCompleted, IsDepth}
use Rattle.match_laws.specs.Reading.{KeepArities, AreAfter, IsReached, AreReached}
use Rattle.match_laws.specs.Demand.{left_sides, HasFixedArities, IsCompletedAt}
use Rattle.match_laws.proofs.Fronts as fronts
use Rattle.match_laws.proofs.Meeting.{Root, meets-passed, passed-meets}
use Rattle.match_laws.proofs.Demanding.{listed_left}
use Rattle.match_laws.proofs.SetLaws.{set_of_term, completed}
use Rattle.machine_laws.specs.Frames.{Frame, around, plug, way}
use Rattle.machine_laws.specs.Completions.{FitsFirstAbove}
use Rattle.machine_laws.specs.Scanning.{Passes, passes_none, passes_over, passes_in, ComesTo, at_root, at_argument}

module _ {H : Type 0} where
  -- ---- the way as a position

  pub plug-append : (inner outer : List (Frame H)) (t : Tree H) → plug (inner ++ outer) t ≡ plug outer (plug inner t)
  plug-append [] outer t = refl
  plug-append (f ∷ inner) outer t = plug-append inner outer (around f t)

  pub way-append : (inner outer : List (Frame H)) (p : Position) → way (inner ++ outer) p ≡ way outer (way inner p)
  way-append [] outer p = refl
  way-append (f ∷ inner) outer p = way-append inner outer (count f.before ∷ p)

  pub way-back : (frames : List (Frame H)) (p : Position) → way frames p ≡ way frames [] ++ p
  way-back [] p = refl
  way-back (f ∷ frames) p =
      way-back frames (count f.before ∷ p) ∙ (append_one (way frames []) (count f.before) p ∙ ap (λ z. z ++ p) (sym (way-back frames (count f.before ∷ []))))
    where
      append_one : (xs : Position) (i : ℕ) (q : Position) → xs ++ (i ∷ q) ≡ (xs ++ (i ∷ [])) ++ q
      append_one [] i q = refl
      append_one (x ∷ xs) i q = ap (λ z. x ∷ z) (append_one xs i q)

  pub way-length : (frames : List (Frame H)) (p : Position) → length (way frames p) ≡ length frames + length p
  way-length [] p = omega arith
  way-length (f ∷ frames) p = let z = way-length frames (count f.before ∷ p) in omega (arith, z)

  at_argument_of : (ts us : Forest H) (t : Tree H) (p : Position) → subtree_in (append ts (grow t us)) (count ts) p ≡ subtree_at t p
  at_argument_of empty us t p = refl
  at_argument_of (grow s ts) us t p = at_argument_of ts us t p

  pub at_way : (frames : List (Frame H)) (t : Tree H) (p : Position) → subtree_at (plug frames t) (way frames p) ≡ subtree_at t p
  at_way [] t p = refl
  at_way (f ∷ frames) t p = at_way frames (around f t) (count f.before ∷ p) ∙ at_argument_of f.before f.behind t p

  -- the first frames and the rest
  pub record Split (frames : List (Frame H)) (n : ℕ) : Type 0 where
    pub inner : List (Frame H)
    pub outer : List (Frame H)
    pub whole : frames ≡ inner ++ outer
    pub long : length inner ≡ n

  pub split : (frames : List (Frame H)) (n : ℕ) → n ≤ length frames → Split frames n
  split frames zero le = record { inner = []; outer = frames; whole = refl; long = refl }
  split [] (suc n) le = absurd (omega arith)
  split (f ∷ frames) (suc n) le = let s = split frames n (omega arith) in record { inner = f ∷ s.inner; outer = s.outer; whole = ap (λ z. f ∷ z) s.whole; long = ap suc s.long }

length-both : (ps bs : Position) → length (ps ++ bs) ≡ length ps + length bs
length-both [] bs = omega arith
length-both (p ∷ ps) bs = let z = length-both ps bs in omega (arith, z)

-- two positions that are the same, cut at the same distance from the end
same_fronts : (ps bs cs ds : Position) → ps ++ bs ≡ cs ++ ds → length bs ≡ length ds → ps ≡ cs
same_fronts [] bs [] ds e n = refl
same_fronts [] bs (c ∷ cs) ds e n = absurd (let x = length-both cs ds in let y = ap length e in omega (arith, x, y, n))
same_fronts (p ∷ ps) bs [] ds e n = absurd (let x = length-both ps bs in let y = ap length e in omega (arith, x, y, n))
same_fronts (p ∷ ps) bs (c ∷ cs) ds e n =
    let head : p ≡ c = cc in
    let rest : ps ++ bs ≡ cs ++ ds = cc in
    let z = same_fronts ps bs cs ds rest n in
    subst (λ y. p ∷ ps ≡ y ∷ cs) head (ap (λ y. p ∷ y) z)

module _ {H : Type 0} (system : System H) where
  -- ---- a reading, as one of positions

  after_passed : {items next : ItemSet} {ts : Forest H} → Passes system items ts next → AreAfter system.in_class (left_sides system) ts items next
  after_passed passes_none = refl
  after_passed (passes_over {between = between} {t = node h us} wants is rest) = (between, inl (wants, is), after_passed rest)
  after_passed (passes_in {inner = inner} {between = between} wants is within none rest) = (between, inr (λ skip. skip.no_read wants, (inner, is, after_passed within)), after_passed rest)

  reached_behind : (ts us : Forest H) (t : Tree H) (q : Position) (items between next : ItemSet) → AreAfter system.in_class (left_sides system) ts items between → IsReached system.in_class (left_sides system) t between q next →
      AreReached system.in_class (left_sides system) (append ts (grow t us)) items (count ts) q next
  reached_behind empty us t q items between next a r = subst (λ z. IsReached system.in_class (left_sides system) t z q next) (sym a) r
  reached_behind (grow s ts) us t q items between next (middle, after, a) r = (middle, after, reached_behind ts us t q middle between next a r)

  pub reached : {frames : List (Frame H)} {items : ItemSet} → ComesTo system frames items → (t : Tree H) (q : Position) (next : ItemSet) → IsReached system.in_class (left_sides system) t items q next → IsReached system.in_class (left_sides system) (plug frames t) [] (way frames q) next
  reached at_root t q next r = r
  reached (at_argument {f = f} {inner = inner} {next = between} comes is passed wants) t q next r =
      reached comes (around f t) (count f.before ∷ q) next (inner, is, reached_behind f.before f.behind t q inner between next (after_passed passed) r)

  -- ---- the node that is completed

  passed-fit : (ps : Forest (PatternCell H)) (ts : Forest H) → count ps ≡ count ts → fronts.Passed system.in_class ps ts → FitAll system.in_class ps ts
  passed-fit empty empty n m = tt
  passed-fit empty (grow t ts) n m = absurd (omega arith)
  passed-fit (grow p ps) empty n m = absurd (omega arith)
  passed-fit (grow (node (fixed g) us) ps) (grow (node h vs) ts) n m = ((m.0, passed-fit us vs m.1 m.2), passed-fit ps ts (omega arith) m.3)
  passed-fit (grow (node (variable x) us) ps) (grow t ts) n m = (tt, passed-fit ps ts (omega arith) m)
  passed-fit (grow (node (restricted x class) us) ps) (grow t ts) n m = (m.0, passed-fit ps ts (omega arith) m.1)

  -- a tree that meets a linear left side wherever it tests is an instance
  pub instance_of_met : (arity : H → ℕ) → IsOrthogonal system → (rule : Rule H) → Contains system.rules rule → (t : Tree H) → ((p : Position) → IsTestedAt rule.left p → MeetsAt system.in_class rule.left t p) → IsInstanceOf system.in_class rule.left t
  instance_of_met arity o rule listed t met =
      instance_from_fits system.in_class rule.left t (o.linear rule listed)
      (passed-fit (grow rule.left empty) (grow t empty) refl (meets-passed system.in_class arity (grow rule.left empty) (grow t empty) (omega arith) (λ i q part lt stands tested. root i q part stands tested))).0
    where
      root : (i : ℕ) (q : Position) (part : Tree (PatternCell H)) → subtree_in (grow rule.left empty) i q ≡ Some part → IsTested (head_of part) → Root system.in_class part (grow t empty) i q
      root zero q part stands tested =
          let m = met q (record { part = part; stands = stands; tested = tested }) in
          let same : m.part ≡ part = let z = m.part_stands in cc in
          record { subterm = m.subterm; stands = m.subterm_stands; meets = subst (λ z. MeetsRoot system.in_class z m.subterm) same m.meets }
      root (suc i) q part stands tested = absurd (cc)

  -- the reading comes to the nodes above as well
  pub comes_above : (inner outer : List (Frame H)) (items : ItemSet) → ComesTo system (inner ++ outer) items → (above : ItemSet) × ComesTo system outer above
  comes_above [] outer items comes = (items, comes)
  comes_above (f ∷ inner) outer items (at_argument {items = before} comes is passed wants) = comes_above inner outer before comes

  module _ (w : IsWellFormedSystem system) (o : IsOrthogonal system) (arity : H → ℕ) (k : HasFixedArities system arity) where
    abbrev number_at : Tree (PatternCell H) → Position → ℕ
    number_at p q = number p q

    pub contains : (e : ℕ) (rule : Rule H) → slice_get system.rules e ≡ Some rule → Contains system.rules rule
    contains e rule listed = in-contains (get-in system.rules e rule listed)

    fit-passed : (ps : Forest (PatternCell H)) (ts : Forest H) → FitAll system.in_class ps ts → fronts.Passed system.in_class ps ts
    fit-passed empty empty f = tt
    fit-passed empty (grow t ts) f = absurd f
    fit-passed (grow p ps) empty f = absurd f
    fit-passed (grow (node (fixed g) us) ps) (grow (node h vs) ts) f = (f.0.0, FitAll-count system.in_class us vs f.0.1, fit-passed us vs f.0.1, fit-passed ps ts f.1)
    fit-passed (grow (node (variable x) us) ps) (grow t ts) f = fit-passed ps ts f.1
    fit-passed (grow (node (restricted x class) us) ps) (grow t ts) f = (f.0, fit-passed ps ts f.1)

    -- an instance meets the left side wherever it tests
    pub met_of_instance : (rule : Rule H) → Contains system.rules rule → (t : Tree H) → IsInstanceOf system.in_class rule.left t → (p : Position) → IsTestedAt rule.left p → MeetsAt system.in_class rule.left t p
    met_of_instance rule listed t is p tested =
        let r = passed-meets system.in_class arity (grow rule.left empty) (grow t empty) (k.lefts rule listed, tt) (fit-passed (grow rule.left empty) (grow t empty) (fits_from_instance system.in_class rule.left t is, tt)) 0 p tested.part (omega arith) tested.stands tested.tested in
        record { part = tested.part; subterm = r.subterm; part_stands = tested.stands; subterm_stands = r.stands; meets = r.meets }

    meets_head : (p : Tree (PatternCell H)) (t : Tree H) → MeetsRoot system.in_class p t → Meets system.in_class (head_of p) (head_of t)
    meets_head (node (fixed g) ps) (node h ts) m = m.0
    meets_head (node (variable x) ps) (node h ts) m = tt
    meets_head (node (restricted x class) ps) (node h empty) m = m
    meets_head (node (restricted x class) ps) (node h (grow t ts)) m = absurd m

    pub head_met : (rule : Rule H) (t : Tree H) (p : Position) (part : Tree (PatternCell H)) → subtree_at rule.left p ≡ Some part → (m : MeetsAt system.in_class rule.left t p) → Meets system.in_class (head_of part) (head_of m.subterm)
    head_met rule t p part stands m =
        let same : m.part ≡ part = let z = m.part_stands in cc in
        subst (λ z. Meets system.in_class (head_of z) (head_of m.subterm)) same (meets_head m.part m.subterm m.meets)

    -- no tree is an instance of two left sides that clash
    pub no_clash : (t : Tree H) {one other : Rule H} → Contains system.rules one → Contains system.rules other → IsInstanceOf system.in_class one.left t → IsInstanceOf system.in_class other.left t → ClashFirst system.in_class one.left other.left → ⊥
    no_clash t {one} {other} listed listed' is is' c =
        let m = met_of_instance one listed t is c.at c.clashes.one in
        let m' = met_of_instance other listed' t is' c.at c.clashes.other in
        let same : m'.subterm ≡ m.subterm = let z = m.subterm_stands in let z' = m'.subterm_stands in cc in
        let x = head_met one t c.at c.clashes.one.part c.clashes.one.stands m in
        let x' = head_met other t c.at c.clashes.other.part c.clashes.other.stands m' in
        c.clashes.clash (head_of m.subterm) x (subst (λ z. Meets system.in_class (head_of c.clashes.other.part) (head_of z)) same x')

    -- the node that a completed left side fits
    pub record FitsAbove (frames : List (Frame H)) (t : Tree H) (e depth : ℕ) : Type 0 where
      pub inner : List (Frame H)
      pub outer : List (Frame H)
      pub whole : frames ≡ inner ++ outer
      pub long : length inner ≡ depth
      pub rule : Rule H
      pub listed : slice_get system.rules e ≡ Some rule
      pub fits : IsInstanceOf system.in_class rule.left (plug inner t)
      pub cell : ℕ
      pub at : IsCompletedAt system (plug frames t) (way frames []) e cell
      pub is_subterm : at.subterm ≡ plug inner t

    pub fits_above : (frames : List (Frame H)) (items : ItemSet) (h : H) (us : Forest H) (e c depth : ℕ) → ComesTo system frames items → KeepArities arity (grow (plug frames (node h us)) empty) → IsCompleted system.in_class (left_sides system) items h e c → IsDepth (left_sides system) e c depth → FitsAbove frames (node h us) e depth
    fits_above frames items h us e c depth comes a done deep =
        let t : Tree H = node h us in
        let whole = plug frames t in
        let r = reached comes t [] items refl in
        let set = set_of_term system w o arity k whole a (way frames []) items r in
        let there : subtree_at whole (way frames []) ≡ Some t = at_way frames t [] in
        let x = (completed system w arity k whole a (way frames []) items set h us there e c).0 done in
        let left : deep.left ≡ x.rule.left = let p = deep.listed in let q = listed_left system e x.rule x.listed in cc in
        let at : nth_position x.rule.left c ≡ x.below = ap (λ i. nth_position x.rule.left i) (sym x.cell) ∙ position-number x.rule.left x.below x.tested.part x.tested.stands in
        let long : length x.below ≡ depth = ap length (sym at) ∙ (ap (λ p. length (nth_position p c)) (sym left) ∙ deep.is) in
        let sum = ap length x.position in
        let s = split frames depth (let p = way-length frames [] in let q = length-both x.above x.below in omega (arith, sum, p, q, long)) in
        let cut : way s.outer [] ++ way s.inner [] ≡ x.above ++ x.below = sym (way-back s.outer (way s.inner [])) ∙ (sym (way-append s.inner s.outer []) ∙ (ap (λ z. way z []) (sym s.whole) ∙ x.position)) in
        let above : way s.outer [] ≡ x.above = same_fronts (way s.outer []) (way s.inner []) x.above x.below cut (let p = way-length s.inner [] in omega (arith, p, long, s.long)) in
        let same_tree : whole ≡ plug s.outer (plug s.inner t) = ap (λ z. plug z t) s.whole ∙ plug-append s.inner s.outer t in
        let stands : subtree_at whole x.above ≡ Some (plug s.inner t) = ap (λ z. subtree_at z x.above) same_tree ∙ (ap (λ z. subtree_at (plug s.outer (plug s.inner t)) z) (sym above) ∙ at_way s.outer (plug s.inner t) []) in
        let subterm : x.subterm ≡ plug s.inner t = let p = x.stands in cc in
        record {
          inner = s.inner;
          outer = s.outer;
          whole = s.whole;
          long = s.long;
          rule = x.rule;
          listed = x.listed;
          fits = instance_of_met arity o x.rule (in-contains (get-in system.rules e x.rule x.listed)) (plug s.inner t) (λ p tested. subst (λ z. MeetsAt system.in_class x.rule.left z p) subterm (x.met p tested));
          cell = c;
          at = x;
          is_subterm = subterm;
        }

    -- no rule before the first completed one fits that node
    pub first_above : (frames : List (Frame H)) (items : ItemSet) (h : H) (us : Forest H) (e depth : ℕ) → ComesTo system frames items → KeepArities arity (grow (plug frames (node h us)) empty) → (f : IsFirstCompleted system.in_class (left_sides system) items h e depth) →
        (a : FitsAbove frames (node h us) e depth) → IsFirst system e (plug a.inner (node h us))
    first_above frames items h us e depth comes keeps f a number lt redex =
        let t : Tree H = node h us in
        let whole = plug frames t in
        let s = plug a.inner t in
        let by = redex.1 in
        let other = by.rule in
        let set = set_of_term system w o arity k whole keeps (way frames []) items (reached comes t [] items refl) in
        let x = a.at in
        elim (o.roots number e other a.rule lt by.listed a.listed) [
          | inl clash ↦ no_clash s (contains number other by.listed) (contains e a.rule a.listed) by.is_instance.left a.fits clash
          | inr same ↦ (
              let there : subtree_at whole (way frames []) ≡ Some t = at_way frames t [] in
              let rule_is : x.rule ≡ a.rule = let p = x.listed in let q = a.listed in cc in
              let tests_too : (p : Position) → IsTestedAt other.left p → IsTestedAt x.rule.left p = λ p z. subst (λ (r : Rule H). IsTestedAt r.left p) (sym rule_is) ((same.0 p).0 z) in
              let tested : IsTestedAt other.left x.below = (same.0 x.below).1 (subst (λ (r : Rule H). IsTestedAt r.left x.below) rule_is x.tested) in
              let fits = met_of_instance other (contains number other by.listed) s by.is_instance.left in
              let done : IsCompletedAt system whole (way frames []) number (number_at other.left x.below) = record {
                above = x.above;
                below = x.below;
                position = x.position;
                subterm = x.subterm;
                stands = x.stands;
                rule = other;
                listed = by.listed;
                tested = tested;
                cell = refl;
                last = λ p z before. x.last p (tests_too p z) before;
                met = λ p z. subst (λ y. MeetsAt system.in_class other.left y p) (sym a.is_subterm) (fits p z);
              } in
              f.first number (number_at other.left x.below) lt ((completed system w arity k whole keeps (way frames []) items set h us there number (number_at other.left x.below)).1 done))
        ]

    -- the first completed rule fits first so many nodes above as its cell is deep
    pub fits_first_above : (frames : List (Frame H)) (items : ItemSet) (h : H) (us : Forest H) (e depth : ℕ) → ComesTo system frames items → KeepArities arity (grow (plug frames (node h us)) empty) → IsFirstCompleted system.in_class (left_sides system) items h e depth → FitsFirstAbove system frames (node h us) e depth
    fits_first_above frames items h us e depth comes keeps f =
        let a = fits_above frames items h us e f.c depth comes keeps f.completed f.is_depth in
        record { inner = a.inner; outer = a.outer; whole = a.whole; long = a.long; rule = a.rule; listed = a.listed; fits = a.fits; first = first_above frames items h us e depth comes keeps f a }
