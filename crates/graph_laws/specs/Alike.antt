-- Stores that are the same but for the numbers of some nodes.
use Rattle.std.specs.Prelude.{◌≡◌, ℕ, ◌<◌, List, length, Some, slice_get}
use Rattle.eq_base.specs.Tree.{map_heads}
use Rattle.graph_laws.specs.Numbered.{Numbered}

module _ {H : Type 0} where
  -- the tree with other numbers
  abbrev pub renumber : (ℕ → ℕ) → Numbered H → Numbered H
  renumber new t = map_heads (λ l. (l.0, new l.1)) t

  -- two stores of one length in which the first so many nodes have the same trees, but for the numbers from
  -- there on, which change one for one
  pub record AreAlike (many : ℕ) (trees others : List (Numbered H)) : Type 0 where
    pub new : ℕ → ℕ
    pub injective : (a b : ℕ) → new a ≡ new b → a ≡ b
    pub below : (i : ℕ) → i < many → new i ≡ i
    pub alike : (i : ℕ) (t : Numbered H) → i < many → slice_get trees i ≡ Some t
        → slice_get others i ≡ Some (renumber new t)
    pub long : length others ≡ length trees
