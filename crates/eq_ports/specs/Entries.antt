-- The files in memory, as names and bytes.
use Rattle.std.specs.Prelude.{◌<◌, ◌≤◌, ℕ, List, [], length, drop, map, get_or, string_bytes, String, Vec}
use Rattle.std.specs.declared.option.Option.{Option}
use Rattle.std.specs.declared.option.Option.TheVariants.{None, Some}
use Rattle.std.specs.Option.{option_map}
use Rattle.std.specs.declared.alloc.Global.{Global}
use Rattle.eq_ports.specs.declared.memory_files.Place.{Place}

-- a file's name and bytes
abbrev pub entry : String Global × Vec ℕ Global → List ℕ × List ℕ
entry file = (string_bytes file.0, file.1.items)

-- each file's name and bytes, in order
abbrev pub entries : List (String Global × Vec ℕ Global) → List (List ℕ × List ℕ)
entries files = map entry files

-- the bytes of a file by its index
abbrev pub bytes_at : List (List ℕ × List ℕ) → ℕ → List ℕ
bytes_at files i = (get_or files i ([], [])).1

-- what is left where the reading stands at the place
abbrev pub rest_from : List (List ℕ × List ℕ) → Option Place → Option (List ℕ)
rest_from files place = option_map (λ p. drop p.at (bytes_at files p.file)) place

-- the place, where there is one, is in a file that is there
abbrev pub IsPlace : List (List ℕ × List ℕ) → Option Place → Type 0
IsPlace files None = Unit {0}
IsPlace files (Some p) = (p.file < length files) × (p.at ≤ length (bytes_at files p.file))
