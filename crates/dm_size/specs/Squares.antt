-- A square of modules, row by row from the top left, as contracts see a mapping matrix (ISO/IEC 16022:2006, Annex F)
-- and a whole symbol (clause 5.8).
use Rattle.std.specs.Prelude.{ℕ, ◌≡◌, ◌+◌, ◌*◌, Bool, false, not, List, length, get_or, set, replicate}

pub record Square : Type 0 where
  pub side : ℕ
  pub modules : List Bool

-- a square has all its modules
abbrev pub IsWhole : Square → Type 0
IsWhole m = length m.modules ≡ m.side * m.side

-- whether the module of a row and a column is dark
abbrev pub module_at : Square → ℕ → ℕ → Bool
module_at m r c = get_or m.modules (r * m.side + c) false

-- all modules light
abbrev pub light_square : ℕ → Square
light_square n = record { side = n; modules = replicate (n * n) false }

-- one module made dark or light
abbrev pub with_module : Square → ℕ → ℕ → Bool → Square
with_module m r c dark = record { side = m.side; modules = set m.modules (r * m.side + c) dark }

-- one module flipped, dark to light or light to dark
abbrev pub with_flipped : Square → ℕ → ℕ → Square
with_flipped m r c = with_module m r c (not (module_at m r c))
