-- Ways down in numbered trees, and what one replacement makes of them.
use Rattle.std.specs.Prelude.{ℕ, List, [], ◌∷◌}
use Rattle.eq_base.specs.Tree.{Forest, map_all_heads}
use Rattle.graph_laws.specs.Numbered.{Numbered, replace_all_numbered}
use Rattle.machine_laws.specs.Frames.{Frame}

module _ {H : Type 0} where
  -- the trees without their numbers
  abbrev pub plain_all : Forest (H × ℕ) → Forest H
  plain_all ts = map_all_heads (λ l. l.0) ts

  -- the nodes above without their numbers
  abbrev pub plain_frames : List (Frame (H × ℕ)) → List (Frame H)
  plain_frames [] = []
  plain_frames (f ∷ frames) =
      record {
        head = f.head.0;
        before = plain_all f.before;
        behind = plain_all f.behind;
      } ∷ plain_frames frames

  -- the nodes above with another tree in place of each part of their other arguments that has the number
  abbrev pub put_frames : ℕ → Numbered H → List (Frame (H × ℕ)) → List (Frame (H × ℕ))
  put_frames n u [] = []
  put_frames n u (f ∷ frames) =
      record {
        head = f.head;
        before = replace_all_numbered n u f.before;
        behind = replace_all_numbered n u f.behind;
      } ∷ put_frames n u frames
