-- The found node is the next one of the graph run, and after its replacement the machine may go on.
use Rattle.std.proofs.Common.{◌≡◌, ℕ, suc, ◌≤◌, List, [], ◌∷◌, Some, refl, sym, ◌∙◌, ap, subst, arith}
use Rattle.std.proofs.lemmas.Bool.{eq-eqb}
use Rattle.eq_base.specs.Tree.{Forest, node, empty, grow, size, count, Position}
use Rattle.eq_base.specs.Rewriting.{System, IsRedex}
use Rattle.orthogonal_laws.specs.Orthogonal.{IsWellFormedSystem, IsOrthogonal}
use Rattle.orthogonal_laws.specs.Strategy.{IsNext}
use Rattle.match_laws.specs.Items.{ItemSet}
use Rattle.match_laws.specs.Reading.{KeepArities}
use Rattle.match_laws.specs.Demand.{HasFixedArities}
use Rattle.graph_laws.specs.Numbered.{Numbered, plain, root_number, AreShared, replace_numbered}
use Rattle.graph_laws.specs.Runs.{IsReplaced, IsNextNode}
use Rattle.graph_laws.proofs.Numbering.{part-here, Only}
use Rattle.graph_laws.proofs.PlainResults.{comes}
use Rattle.graph_laws.proofs.Rewriting.{only_one}
use Rattle.graph_laws.proofs.ScannedNodes.{tree_after}
use Rattle.machine_laws.specs.Frames.{Frame, around, plug, way}
use Rattle.machine_laws.specs.Normalising.{AreSettledAround}
use Rattle.machine_laws.specs.Scanning.{ComesTo}
use Rattle.machine_laws.specs.Ways.{plain_all, plain_frames, put_frames}
use Rattle.machine_laws.specs.Going.{IsWay, GoesOn}
use Rattle.machine_laws.proofs.Completions.{at_way}
use Rattle.machine_laws.proofs.Normalising.{next_found}
use Rattle.machine_laws.proofs.Replacing.{plain-plug, put-plug, parts_below, size-inside, others_above, tree_develops, frames_develop, settled_stays}

module _ {H : Type 0} where
  size-plug : (frames : List (Frame (H × ℕ))) (t : Numbered H) → size t ≤ size (plug frames t)
  size-plug [] t = omega arith
  size-plug (f ∷ frames) t = let y = size-plug frames (around f t) in let z = size-inside f.before f.behind t in omega (arith, y, z)

  replaced_here : (n : ℕ) (u t : Numbered H) → root_number t ≡ n → replace_numbered n u t ≡ u
  replaced_here n u (node l args) e = rw (eq-eqb l.1 n e) refl

  count-plain : (ts : Forest (H × ℕ)) → count (plain_all ts) ≡ count ts
  count-plain empty = refl
  count-plain (grow t ts) = ap suc (count-plain ts)

  -- the way as a position is the same with and without numbers
  way-plain : (frames : List (Frame (H × ℕ))) (p : Position) → way (plain_frames frames) p ≡ way frames p
  way-plain [] p = refl
  way-plain (f ∷ frames) p = way-plain frames (count (plain_all f.before) ∷ p) ∙ ap (λ i. way frames (i ∷ p)) (count-plain f.before)

module _ {H : Type 0} (system : System H) (w : IsWellFormedSystem system) (o : IsOrthogonal system) where
  pub goes_on : (trees after : List (Numbered H)) (root n : ℕ) (outer inner : List (Frame (H × ℕ))) (t : Numbered H) → AreShared trees → IsReplaced system n trees after → IsWay trees root outer inner t → root_number t ≡ n → GoesOn system after root n outer inner t
  goes_on trees after root n outer inner t shared x stands own =
      let c = comes system n trees after x in
      let u = c.contractum in
      let s = x.tree in
      let only = only_one trees n s shared x.stands root (plug outer (plug inner t)) stands in
      let only_inner : Only n s (plug inner t) = parts_below (λ p. root_number p ≡ n → p ≡ s) outer (plug inner t) only in
      let same : t ≡ s = part-here (λ p. root_number p ≡ n → p ≡ s) t (parts_below (λ p. root_number p ≡ n → p ≡ s) inner t only_inner) own in
      let sizes : size t ≡ size s = ap size same in
      let inner_put : replace_numbered n u (plug inner t) ≡ plug (put_frames n u inner) u = put-plug n u inner t (others_above n s inner t only_inner (omega (arith, sizes))) ∙ ap (λ z. plug (put_frames n u inner) z) (replaced_here n u t own) in
      let outer_put : replace_numbered n u (plug outer (plug inner t)) ≡ plug (put_frames n u outer) (plug (put_frames n u inner) u) =
      put-plug n u outer (plug inner t) (others_above n s outer (plug inner t) only (let z = size-plug inner t in omega (arith, sizes, z))) ∙ ap (λ z. plug (put_frames n u outer) z) inner_put in
      let d = tree_develops system n s u (x.number, c.root_step) (plug inner t) only_inner in
      record {
        new = u;
        node = tree_after system trees after n shared x n s x.stands ∙ ap (λ z. Some z) (replaced_here n u s x.followed);
        way = tree_after system trees after n shared x root (plug outer (plug inner t)) stands ∙ ap (λ z. Some z) outer_put;
        beside = frames_develop system n s u (x.number, c.root_step) inner t only_inner;
        settled = λ a. subst (λ z. AreSettledAround system (plain_frames (put_frames n u outer)) (plain z)) inner_put (settled_stays system n s u (x.number, c.root_step) w o outer (plug inner t) (replace_numbered n u (plug inner t)) d.0 only d.1 a);
      }

  -- the node to which the reading comes, if it is a redex, is the next node of the graph run
  pub next_node : (arity : H → ℕ) → HasFixedArities system arity → (trees : List (Numbered H)) (root n : ℕ) (outer inner : List (Frame (H × ℕ))) (t : Numbered H) (items : ItemSet) → IsWay trees root outer inner t → root_number t ≡ n → KeepArities arity (grow (plain (plug inner t)) empty) →
      AreSettledAround system (plain_frames outer) (plain (plug inner t)) → ComesTo system (plain_frames inner) items → IsRedex system (plain t) → IsNextNode system trees root n
  next_node arity k trees root n outer inner t items stands own a settled reading redex =
      let inner_is = plain-plug inner t in
      let outer_is = plain-plug outer (plug inner t) in
      let next = next_found system w o arity k (plain_frames inner) (plain_frames outer) items (plain t) (subst (λ z. KeepArities arity (grow z empty)) inner_is a) (subst (λ z. AreSettledAround system (plain_frames outer) z) inner_is settled) reading redex in
      let whole : plug (plain_frames outer) (plug (plain_frames inner) (plain t)) ≡ plain (plug outer (plug inner t)) = ap (λ z. plug (plain_frames outer) z) (sym inner_is) ∙ sym outer_is in
      let at : way (plain_frames outer) (way (plain_frames inner) []) ≡ way outer (way inner []) = ap (λ z. way (plain_frames outer) z) (way-plain inner []) ∙ way-plain outer (way inner []) in
      record {
        tree = plug outer (plug inner t);
        stands = stands;
        position = way outer (way inner []);
        next = subst (λ z. IsNext system z (way outer (way inner []))) whole (subst (λ z. IsNext system (plug (plain_frames outer) (plug (plain_frames inner) (plain t))) z) at next);
        part = t;
        there = at_way outer (plug inner t) (way inner []) ∙ at_way inner t [];
        own = own;
      }
