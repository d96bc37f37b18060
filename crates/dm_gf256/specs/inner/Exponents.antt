-- The exponents by which the code multiplies: a nonzero element of the field is a power of 2, and the sum of two
-- exponents is the exponent of the product.
use Rattle.std.specs.Prelude.{◌≡◌, ℕ, ◌<◌, ◌⊎◌}
use Rattle.dm_gf256.specs.Field.{power}

-- e is the exponent of the element a: 2 to the power e is a. Zero is no power of 2; its exponent is set to 510.
abbrev pub IsExponent : ℕ → ℕ → Type 0
IsExponent a e = ((e < 255) × (power 2 e ≡ a)) ⊎ ((e ≡ 510) × (a ≡ 0))
