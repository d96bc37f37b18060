-- Eight pixels that are gathered by one multiplication.
use Rattle.std.proofs.Common.{arith, ◌≡◌, ◌==◌, ℕ, zero, suc, ◌*◌, ◌/◌, ◌%◌, Bool, true, false, ◌&&◌, List, [], ◌∷◌, get_or, length, map, refl, ◌∙◌}
use Rattle.std.proofs.lemmas.Bool.{and_parts, eqb-true}
use Rattle.std.specs.Int.{from_le_bytes, w64}
use mir.Val.{bool_byte}
use Rattle.dm_pbm_io.specs.Image.{number_of_first}
use Rattle.dm_pbm_io.proofs.Written.{number_step}

-- the number that eight bytes are gathered to
abbrev pub gathered : List ℕ → ℕ
gathered bytes = from_le_bytes w64 bytes * 9241421688590303745 % 18446744073709551616 / 72057594037927936

-- whether a test holds of each row of so many pixels
unfoldable pub holds_of_all : ℕ → (List Bool → Bool) → Bool
holds_of_all zero test = test []
holds_of_all (suc n) test = holds_of_all n (λ row. test (true ∷ row)) && holds_of_all n (λ row. test (false ∷ row))

pub holds_of_one : (n : ℕ) (test : List Bool → Bool) (row : List Bool) → length row ≡ n → holds_of_all n test ≡ true
    → test row ≡ true
unfolding holds_of_all
holds_of_one zero test [] count all = all
holds_of_one zero test (p ∷ row) count all = absurd (omega (arith, count))
holds_of_one (suc n) test [] count all = absurd (omega (arith, count))
holds_of_one (suc n) test (true ∷ row) count all =
    holds_of_one n (λ later. test (true ∷ later)) row (omega (arith, count)) (and_parts _ _ all).0
holds_of_one (suc n) test (false ∷ row) count all =
    holds_of_one n (λ later. test (false ∷ later)) row (omega (arith, count)) (and_parts _ _ all).1

-- whether the bytes of a row of eight pixels are gathered to their number
agrees : List Bool → Bool
agrees row = gathered (map bool_byte row) == number_of_first 0 row 8

-- they are, in each of the 256 cases
all_agree : holds_of_all 8 agrees ≡ true
unfolding holds_of_all agrees
all_agree = refl

gathered_is : (row : List Bool) → length row ≡ 8 → gathered (map bool_byte row) ≡ number_of_first 0 row 8
unfolding agrees
gathered_is row count = eqb-true _ _ (holds_of_one 8 agrees row count all_agree)

-- the first eight pixels of a row, one by one
first_eight : (row : List Bool)
    → number_of_first 0 row 8 ≡ number_of_first 0 (get_or row 0 false ∷ get_or row 1 false ∷ get_or row 2 false
    ∷ get_or row 3 false ∷ get_or row 4 false ∷ get_or row 5 false ∷ get_or row 6 false ∷ get_or row 7 false ∷ []) 8
first_eight row =
    number_step 0 0 7 row ∙ number_step _ 1 6 row ∙ number_step _ 2 5 row ∙ number_step _ 3 4 row
    ∙ number_step _ 4 3 row ∙ number_step _ 5 2 row ∙ number_step _ 6 1 row ∙ number_step _ 7 0 row

-- the bytes of the first eight pixels of a row are gathered to its first byte
pub gathers_row : (row : List Bool) (a b c d e f g h : ℕ) → a ≡ bool_byte (get_or row 0 false)
    → b ≡ bool_byte (get_or row 1 false) → c ≡ bool_byte (get_or row 2 false) → d ≡ bool_byte (get_or row 3 false)
    → e ≡ bool_byte (get_or row 4 false) → f ≡ bool_byte (get_or row 5 false) → g ≡ bool_byte (get_or row 6 false)
    → h ≡ bool_byte (get_or row 7 false)
    → gathered (a ∷ b ∷ c ∷ d ∷ e ∷ f ∷ g ∷ h ∷ []) ≡ number_of_first 0 row 8
gathers_row row a b c d e f g h pa pb pc pd pe pf pg ph = grind (
  arith,
  gathered_is (get_or row 0 false ∷ get_or row 1 false
      ∷ get_or row 2 false ∷ get_or row 3 false ∷ get_or row 4 false ∷ get_or row 5 false ∷ get_or row 6 false
      ∷ get_or row 7 false ∷ []) refl,
  first_eight,
)
