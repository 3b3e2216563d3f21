-- Item sets of a system and of its image are the same.
use Rattle.std.proofs.Common.{◌≡◌, ℕ, ◌<◌, length, Some, sym, ◌∙◌, ap, subst}
use Rattle.std.specs.Prelude.{◌↔◌, slice_get}
use Rattle.eq_base.specs.Tree.{Tree, head_of, nth_subtree}
use Rattle.eq_base.specs.Pattern.{PatternCell, fixed, variable, restricted, Meets}
use Rattle.eq_base.specs.Rewriting.{System}
use Rattle.eq_base.specs.Mapping.{map_cell, map_pattern, map_rule}
use Rattle.eq_base.proofs.Trees.{size-map_heads, nth_subtree-map_heads}
use Rattle.eq_base.proofs.Mapped.{tested-map, head-map, nth_position-map}
use Rattle.orthogonal_laws.proofs.Images.{IsImage, listed-image}
use Rattle.match_laws.specs.Items.{ItemSet, IsCell, HasCell, Holds, IsPlain, IsFurther, AreFurther, IsSkip, IsLastTested, IsDepth, WantsRead, WantsSkip, IsMet, IsRead, IsCompleted, IsFirstCompleted}
use Rattle.match_laws.specs.Demand.{left_sides}
use Rattle.match_laws.proofs.Demanding.{behind, listed_left}

module _ {A B : Type 0} (f : A → B) (S : System A) (T : System B) (image : IsImage f S T) where
  left-image : (e : ℕ) (left : Tree (PatternCell A)) → slice_get (left_sides S) e ≡ Some left → slice_get (left_sides T) e ≡ Some (map_pattern f left)
  left-image e left listed =
      let b = behind S e left listed in
      listed_left T e (map_rule f b.rule) (listed-image f S T image e b.rule b.listed) ∙ ap (λ z. Some (map_pattern f z)) b.is

  pub cell-image : (e c : ℕ) (cell : PatternCell A) → IsCell (left_sides S) e c cell → IsCell (left_sides T) e c (map_cell f cell)
  cell-image e c cell x = record {
    left = map_pattern f x.left;
    listed = left-image e x.left x.listed;
    there = subst (λ n. c < n) (sym (size-map_heads (map_cell f) x.left)) x.there;
    stands = ap head_of (nth_subtree-map_heads (map_cell f) x.left c x.there) ∙ (head-map f (nth_subtree x.left c) ∙ ap (map_cell f) x.stands);
  }

  has_cell-image : (e c : ℕ) → HasCell (left_sides S) e c → HasCell (left_sides T) e c
  has_cell-image e c x = (map_cell f x.0, cell-image e c x.0 x.1)

  held-image : (items : ItemSet) (e c : ℕ) → Holds (left_sides S) items e c → Holds (left_sides T) items e c
  held-image items e c x = (has_cell-image e c x.0, x.1)

  meets-image : (cell : PatternCell A) (h : A) → Meets S.in_class cell h → Meets T.in_class (map_cell f cell) (f h)
  meets-image (fixed g) h m = ap f m
  meets-image (variable x) h m = tt
  meets-image (restricted x class) h m = image.classes class h ∙ m

  met-image : (items : ItemSet) (h : A) (e c : ℕ) → IsMet S.in_class (left_sides S) items h e c → IsMet T.in_class (left_sides T) items (f h) e c
  met-image items h e c m = record {
    held = held-image items e c m.held;
    cell = map_cell f m.cell;
    is_cell = cell-image e c m.cell m.is_cell;
    tested = tested-map f m.cell m.tested;
    meets = meets-image m.cell h m.meets;
  }

  plain-image : (items : ItemSet) (e c : ℕ) → IsPlain (left_sides S) items e c → IsPlain (left_sides T) items e c
  plain-image items e c p = record { held = held-image items e c p.held; x = p.x; is_cell = cell-image e c (variable p.x) p.is_cell }

  further-image : (these those : ℕ → ℕ → Type 0) → ((e c : ℕ) → these e c → those e c) → (e c : ℕ) → IsFurther (left_sides S) these e c → IsFurther (left_sides T) those e c
  further-image these those maps e c x = record { before = x.before; further = x.further; this = maps e x.before x.this; there = has_cell-image e c x.there }

  depth-image : (e c depth : ℕ) → IsDepth (left_sides S) e c depth → IsDepth (left_sides T) e c depth
  depth-image e c depth d = record { left = map_pattern f d.left; listed = left-image e d.left d.listed; is = ap length (nth_position-map (map_cell f) d.left c) ∙ d.is }

  pub wants_read-image : (items : ItemSet) → WantsRead (left_sides S) items → WantsRead (left_sides T) items
  wants_read-image items r = record {
    e = r.e;
    c = r.c;
    below = r.below;
    waiting = record {
      held = held-image items r.e r.c r.waiting.held;
      cell = map_cell f r.waiting.cell;
      is_cell = cell-image r.e r.c r.waiting.cell r.waiting.is_cell;
      tested = tested-map f r.waiting.cell r.waiting.tested;
    };
  }

-- where the image can be mapped back
module _ {A B : Type 0} (f : A → B) (g : B → A) (back : (a : A) → g (f a) ≡ a) (S : System A) (T : System B) (image : IsImage f S T) (returns : IsImage g T S) where
  met-back : (items : ItemSet) (h : A) (e c : ℕ) → IsMet T.in_class (left_sides T) items (f h) e c → IsMet S.in_class (left_sides S) items h e c
  met-back items h e c m = subst (λ z. IsMet S.in_class (left_sides S) items z e c) (back h) (met-image g T S returns items (f h) e c m)

  furthers-image : (these those : ℕ → ℕ → Type 0) → ((e c : ℕ) → these e c ↔ those e c) → (next : ItemSet) → AreFurther (left_sides S) these next → AreFurther (left_sides T) those next
  furthers-image these those same next x = record {
    ordered = x.ordered;
    exactly = λ e c. (
      λ i. further-image f S T image these those (λ e c. (same e c).0) e c ((x.exactly e c).0 i),
      λ y. (x.exactly e c).1 (further-image g T S returns those these (λ e c. (same e c).1) e c y),
    );
  }

  pub read-image : (items next : ItemSet) (h : A) → IsRead S.in_class (left_sides S) items h next → IsRead T.in_class (left_sides T) items (f h) next
  read-image items next h x = furthers-image (IsMet S.in_class (left_sides S) items h) (IsMet T.in_class (left_sides T) items (f h)) (λ e c. (met-image f S T image items h e c, met-back items h e c)) next x

  pub skip-image : (items next : ItemSet) → IsSkip (left_sides S) items next → IsSkip (left_sides T) items next
  skip-image items next x = furthers-image (IsPlain (left_sides S) items) (IsPlain (left_sides T) items) (λ e c. (plain-image f S T image items e c, plain-image g T S returns items e c)) next x

  last-image : (e c : ℕ) → IsLastTested (left_sides S) e c → IsLastTested (left_sides T) e c
  last-image e c last n cell more there tested = last n (map_cell g cell) more (cell-image g T S returns e n cell there) (tested-map g cell tested)

  pub completed-image : (items : ItemSet) (h : A) (e c : ℕ) → IsCompleted S.in_class (left_sides S) items h e c → IsCompleted T.in_class (left_sides T) items (f h) e c
  completed-image items h e c x = record { met = met-image f S T image items h e c x.met; last = last-image e c x.last }

  pub wants_skip-image : (items : ItemSet) → WantsSkip (left_sides S) items → WantsSkip (left_sides T) items
  wants_skip-image items x = record { some = x.some; no_read = λ r. x.no_read (wants_read-image g T S returns items r) }

module _ {A B : Type 0} (f : A → B) (g : B → A) (back : (a : A) → g (f a) ≡ a) (forth : (b : B) → f (g b) ≡ b) (S : System A) (T : System B) (image : IsImage f S T) (returns : IsImage g T S) where
  pub first_completed-image : (items : ItemSet) (h : A) (e depth : ℕ) → IsFirstCompleted S.in_class (left_sides S) items h e depth → IsFirstCompleted T.in_class (left_sides T) items (f h) e depth
  first_completed-image items h e depth x = record {
    c = x.c;
    completed = completed-image f g back S T image returns items h e x.c x.completed;
    is_depth = depth-image f S T image e x.c depth x.is_depth;
    first = λ n b less y. x.first n b less (subst (λ z. IsCompleted S.in_class (left_sides S) items z n b) (back h) (completed-image g f forth T S returns image items (f h) n b y));
  }
