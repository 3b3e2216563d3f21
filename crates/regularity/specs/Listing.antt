-- Lists of breaks in their order.
use Rattle.std.specs.Prelude.{◌≡◌, ◌⊎◌, ◌<◌, ℕ, List, [], ◌∷◌, Contains}
use Rattle.std.specs.List.{AllByRecursion}
use Rattle.regularity.specs.declared.breaks.Break.{Break}

-- b comes before c: by restriction, then first equation, then place, then second equation
abbrev pub Precedes : Break → Break → Type 0
Precedes b c =
    (b.restriction < c.restriction)
    ⊎ ((b.restriction ≡ c.restriction) × ((b.first < c.first)
    ⊎ ((b.first ≡ c.first) × ((b.place < c.place)
    ⊎ ((b.place ≡ c.place) × (b.second < c.second))))))

-- each break comes before those behind it
abbrev pub IsOrdered : List Break → Type 0
IsOrdered [] = Unit {0}
IsOrdered (b ∷ breaks) = AllByRecursion (λ c. Precedes b c) breaks × IsOrdered breaks

-- the list is exactly that of the breaks with the property, in their order, each once
pub record Lists (P : Break → Type 0) (breaks : List Break) : Type 0 where
  pub only : (b : Break) → Contains breaks b → P b
  pub all : (b : Break) → P b → Contains breaks b
  pub ordered : IsOrdered breaks

-- the break of a restriction, by these equations, at this place
abbrev pub break_at : (restriction first place second : ℕ) → Break
break_at r f p s = record { restriction = r; first = f; place = p; second = s }
