-- The greatest prefix that fits, found byte by byte.
use Rattle.std.proofs.Common.{ℕ, ◌*◌, ◌<◌, ◌≤◌, List, length, take, arith}
use Rattle.std.proofs.lemmas.List.{take-take, length-take-le}
use Rattle.dm_encodation.specs.{declared.scheme.Scheme.Scheme, Written.need_of, Written.IsGreatestPrefix}
use Rattle.dm_encodation.proofs.Counters.{need-nil, need_near}

-- The first k of i bytes fit the room, and no longer prefix of these does.
pub record FitsSoFar (scheme : Scheme) (room : ℕ) (bytes : List ℕ) (i k : ℕ) : Type 0 where
  pub within : k ≤ i
  pub fits : need_of scheme (take k bytes) ≤ room
  pub greatest : (j : ℕ) → j ≤ i → need_of scheme (take j bytes) ≤ room → j ≤ k

-- before the first byte
pub fits_none : (scheme : Scheme) (room : ℕ) (bytes : List ℕ) → FitsSoFar scheme room bytes 0 0
fits_none scheme room bytes = grind (arith, need-nil)

-- a text that is cut off behind two bytes for each codeword of the room
pub fits_front : (scheme : Scheme) (room most : ℕ) (bytes : List ℕ) (k : ℕ) → most ≤ length bytes →
    (most < length bytes → 2 * room ≤ most)
    → IsGreatestPrefix scheme room (take most bytes) k → IsGreatestPrefix scheme room bytes k
fits_front scheme room most bytes k le enough g =
    grind (arith, take-take, length-take-le, need_near, enough, g.within, g.fits, g.greatest)
