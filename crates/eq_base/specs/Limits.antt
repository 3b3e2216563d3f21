-- The limits on equations, symbols and values.
use Rattle.std.specs.Prelude.{ℕ}

-- the most equations
abbrev pub most_equations : ℕ
most_equations = 2048

-- the most cells of a left side
abbrev pub most_left_cells : ℕ
most_left_cells = 255

-- the most cells of a right side
abbrev pub most_right_cells : ℕ
most_right_cells = 65535

-- the most arguments of a symbol
abbrev pub most_arguments : ℕ
most_arguments = 255

-- the most bytes of a string
abbrev pub most_text_bytes : ℕ
most_text_bytes = 65535
