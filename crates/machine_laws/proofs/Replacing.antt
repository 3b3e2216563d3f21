-- A way down to a node, after that node is replaced.
use Rattle.std.proofs.Common.{◌≡◌, ℕ, ◌+◌, ◌≤◌, ◌==◌, List, [], ◌∷◌, false, cond, refl, sym, ◌∙◌, ap, subst, arith}
use Rattle.std.proofs.lemmas.Bool.{ne_eqb}
use Rattle.eq_base.specs.Tree.{Tree, Forest, node, empty, grow, size, total_size}
use Rattle.eq_base.specs.Storing.{join as append}
use Rattle.eq_base.specs.Rewriting.{System, RootStep, Step, Derivation, start, then, IsNormal}
use Rattle.orthogonal_laws.specs.Orthogonal.{IsWellFormedSystem, IsOrthogonal}
use Rattle.orthogonal_laws.specs.Development.{Development, unmarked, Developments, none, more}
use Rattle.orthogonal_laws.proofs.NextLaws.{no_demand_stays}
use Rattle.graph_laws.specs.Numbered.{Numbered, plain, root_number, AllParts, AllPartsIn, replace_numbered, replace_all_numbered}
use Rattle.graph_laws.proofs.ManySteps.{replaced_develops, replaced_derives}
use Rattle.graph_laws.proofs.Numbering.{part-here, Only, OnlyIn, put_to}
use Rattle.machine_laws.specs.Frames.{Frame, around, plug}
use Rattle.machine_laws.specs.Normalising.{AllTrees, AreSettledAround, DevelopBeside, no_more, one_more}
use Rattle.machine_laws.specs.Ways.{plain_all, plain_frames, put_frames}

module _ {H : Type 0} where
  pub plain-append : (ts us : Forest (H × ℕ)) → plain_all (append ts us) ≡ append (plain_all ts) (plain_all us)
  plain-append empty us = refl
  plain-append (grow t ts) us = ap (λ z. grow (plain t) z) (plain-append ts us)

  pub plain-plug : (frames : List (Frame (H × ℕ))) (t : Numbered H) → plain (plug frames t) ≡ plug (plain_frames frames) (plain t)
  plain-plug [] t = refl
  plain-plug (f ∷ frames) t = plain-plug frames (around f t) ∙ ap (λ z. plug (plain_frames frames) (node f.head.0 z)) (plain-append f.before (grow t f.behind))

  put-append : (n : ℕ) (u : Numbered H) (ts us : Forest (H × ℕ)) → replace_all_numbered n u (append ts us) ≡ append (replace_all_numbered n u ts) (replace_all_numbered n u us)
  put-append n u empty us = refl
  put-append n u (grow t ts) us = ap (λ z. grow (replace_numbered n u t) z) (put-append n u ts us)

  -- none of the nodes above has the number
  abbrev pub AreOthers : ℕ → List (Frame (H × ℕ)) → Type 0
  AreOthers n [] = Unit {0}
  AreOthers n (f ∷ frames) = ((f.head.1 == n) ≡ false) × AreOthers n frames

  put-around : (n : ℕ) (u : Numbered H) (l : H × ℕ) (ts us : Forest (H × ℕ)) (t : Numbered H) → (l.1 == n) ≡ false → replace_numbered n u (node l (append ts (grow t us))) ≡ node l (append (replace_all_numbered n u ts) (grow (replace_numbered n u t) (replace_all_numbered n u us)))
  put-around n u l ts us t e = ap (λ b. cond b u (node l (replace_all_numbered n u (append ts (grow t us))))) e ∙ ap (λ z. node l z) (put-append n u ts (grow t us))

  pub put-plug : (n : ℕ) (u : Numbered H) (frames : List (Frame (H × ℕ))) (t : Numbered H) → AreOthers n frames → replace_numbered n u (plug frames t) ≡ plug (put_frames n u frames) (replace_numbered n u t)
  put-plug n u [] t others = refl
  put-plug n u (f ∷ frames) t others = put-plug n u frames (around f t) others.1 ∙ ap (λ z. plug (put_frames n u frames) z) (put-around n u f.head f.before f.behind t others.0)

  -- ---- parts

  parts_behind : (P : Numbered H → Type 0) (ts us : Forest (H × ℕ)) → AllPartsIn P (append ts us) → AllPartsIn P us
  parts_behind P empty us a = a
  parts_behind P (grow t ts) us a = parts_behind P ts us a.1

  parts_before : (P : Numbered H → Type 0) (ts us : Forest (H × ℕ)) → AllPartsIn P (append ts us) → AllPartsIn P ts
  parts_before P empty us a = tt
  parts_before P (grow t ts) us a = (a.0, parts_before P ts us a.1)

  pub parts_below : (P : Numbered H → Type 0) (frames : List (Frame (H × ℕ))) (t : Numbered H) → AllParts P (plug frames t) → AllParts P t
  parts_below P [] t a = a
  parts_below P (f ∷ frames) t a = (parts_behind P f.before (grow t f.behind) (parts_below P frames (around f t) a).1).0

  pub size-inside : (ts us : Forest (H × ℕ)) (t : Numbered H) → size t ≤ total_size (append ts (grow t us))
  size-inside empty us t = omega arith
  size-inside (grow s ts) us t = let z = size-inside ts us t in omega (arith, z)

  -- a tree is no part of what is smaller, so none of the nodes above it has its number
  pub others_above : (n : ℕ) (s : Numbered H) (frames : List (Frame (H × ℕ))) (t : Numbered H) → Only n s (plug frames t) → size s ≤ size t → AreOthers n frames
  others_above n s [] t only le = tt
  others_above n s (f ∷ frames) t only le =
      let z = size-inside f.before f.behind t in
      let here = part-here (λ p. root_number p ≡ n → p ≡ s) (around f t) (parts_below (λ p. root_number p ≡ n → p ≡ s) frames (around f t) only) in (
        ne_eqb f.head.1 n (λ e. let same : size (around f t) ≡ size s = ap size (here e) in omega (arith, z, le, same)),
        others_above n s frames (around f t) only (omega (arith, z, le)),
      )

module _ {H : Type 0} (system : System H) (n : ℕ) (s u : Numbered H) (step : RootStep system (plain s) (plain u)) where
  pub tree_develops : (t : Numbered H) → Only n s t → (weight : ℕ) × Development system (plain t) (plain (replace_numbered n u t)) weight
  tree_develops t only = let d = replaced_develops system (plain s) (plain u) step (put_to n s u t only).replaced in (d.weight, d.development)

  trees_develop : (ts : Forest (H × ℕ)) → OnlyIn n s ts → (weight : ℕ) × Developments system (plain_all ts) (plain_all (replace_all_numbered n u ts)) weight
  trees_develop empty only = (0, none)
  trees_develop (grow t ts) only =
      let d = tree_develops t only.0 in
      let ds = trees_develop ts only.1 in
      (d.0 + ds.0, more d.1 ds.1)

  -- what stands beside the way develops
  pub frames_develop : (frames : List (Frame (H × ℕ))) (t : Numbered H) → Only n s (plug frames t) → DevelopBeside system (plain_frames frames) (plain_frames (put_frames n u frames))
  frames_develop [] t only = no_more
  frames_develop (f ∷ frames) t only =
      let below = (parts_below (λ p. root_number p ≡ n → p ≡ s) frames (around f t) only).1 in
      let d = trees_develop f.before (parts_before _ f.before (grow t f.behind) below) in
      let d' = trees_develop f.behind (parts_behind _ f.before (grow t f.behind) below).1 in
      one_more (record { head = refl; before_weight = d.0; before = d.1; behind_weight = d'.0; behind = d'.1 }) (frames_develop frames (around f t) only)

  -- ---- the settled part

  normal_end : (t : Tree H) → IsNormal system t → {k : ℕ} {v : Tree H} → Derivation system t k v → t ≡ v
  normal_end t normal start = refl
  normal_end t normal (then {v = v} d step) = let same = normal_end t normal d in absurd (normal v (subst (λ z. Step system z v) (sym same) step))

  normal_stays : (t : Numbered H) → Only n s t → IsNormal system (plain t) → IsNormal system (plain (replace_numbered n u t))
  normal_stays t only normal =
      let d = replaced_derives system step (put_to n s u t only).replaced in
      subst (λ z. IsNormal system z) (normal_end (plain t) normal d.1) normal

  all_stay_normal : (ts : Forest (H × ℕ)) → OnlyIn n s ts → AllTrees (IsNormal system) (plain_all ts) → AllTrees (IsNormal system) (plain_all (replace_all_numbered n u ts))
  all_stay_normal empty only a = tt
  all_stay_normal (grow t ts) only a = (normal_stays t only.0 a.0, all_stay_normal ts only.1 a.1)

  developments_around : {ts ts' us us' : Forest H} {t t' : Tree H} {i j k : ℕ} → Developments system ts ts' i → Development system t t' j → Developments system us us' k → (weight : ℕ) × Developments system (append ts (grow t us)) (append ts' (grow t' us')) weight
  developments_around none d ds = (_, more d ds)
  developments_around (more e es) d ds = let x = developments_around es d ds in (_, more e x.1)

  -- nodes above without a demanded redex, over normal arguments before the way, stay so
  pub settled_stays : IsWellFormedSystem system → IsOrthogonal system → (frames : List (Frame (H × ℕ))) (t t' : Numbered H) (k : ℕ) → Only n s (plug frames t) → Development system (plain t) (plain t') k → AreSettledAround system (plain_frames frames) (plain t) → AreSettledAround system (plain_frames (put_frames n u frames)) (plain t')
  settled_stays w o [] t t' k only d a = tt
  settled_stays w o (f ∷ frames) t t' k only d a =
      let below = (parts_below (λ p. root_number p ≡ n → p ≡ s) frames (around f t) only).1 in
      let before_only = parts_before _ f.before (grow t f.behind) below in
      let before = trees_develop f.before before_only in
      let behind = trees_develop f.behind (parts_behind _ f.before (grow t f.behind) below).1 in
      let g : Frame (H × ℕ) = record { head = f.head; before = replace_all_numbered n u f.before; behind = replace_all_numbered n u f.behind } in
      let ds = developments_around before.1 d behind.1 in
      let whole : Development system (node f.head.0 (append (plain_all f.before) (grow (plain t) (plain_all f.behind)))) (node f.head.0 (append (plain_all g.before) (grow (plain t') (plain_all g.behind)))) ds.0 = unmarked ds.1 in
      let is : plain (around f t) ≡ node f.head.0 (append (plain_all f.before) (grow (plain t) (plain_all f.behind))) = ap (λ z. node f.head.0 z) (plain-append f.before (grow t f.behind)) in
      let is' : plain (around g t') ≡ node f.head.0 (append (plain_all g.before) (grow (plain t') (plain_all g.behind))) = ap (λ z. node f.head.0 z) (plain-append g.before (grow t' g.behind)) in
      let above = settled_stays w o frames (around f t) (around g t') ds.0 only
      (subst (λ z. Development system (plain (around f t)) z ds.0) (sym is') (subst (λ z. Development system z (node f.head.0 (append (plain_all g.before) (grow (plain t') (plain_all g.behind)))) ds.0) (sym is) whole))
      (subst (λ z. AreSettledAround system (plain_frames frames) z) (sym is) a.2) in
      ((no_demand_stays system w o _ _ ds.0 a.0 whole).1, all_stay_normal f.before before_only a.1, subst (λ z. AreSettledAround system (plain_frames (put_frames n u frames)) z) is' above)
