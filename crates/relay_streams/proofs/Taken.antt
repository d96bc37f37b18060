-- When the bytes that were taken are the first of those that were left.
use Rattle.std.proofs.Common.{◌≡◌, ℕ, ◌≤◌, inl, inr, List, ◌++◌, length, take, Option, Some, None, sym, ap, ◌∙◌, append-nil, arith}
use Rattle.std.proofs.{lemmas.List.take_at, lemmas.List.take_all, lemmas.List.length-take-le, lemmas.Bool.cases_lt}
use Rattle.std.specs.{Io.KnownBytes.Consumes, Io.KnownBytes.IsAtEnd, Prelude.IfSome}
use Rattle.relay_streams.specs.Streams.{Fills, TakesFirst}

-- as many as were asked for
first_of_limit : (old new : Option (List ℕ)) (limit : ℕ) (bytes : List ℕ) → Consumes old new bytes →
    length bytes ≡ limit
    → IfSome old (λ left. bytes ≡ take limit left)
first_of_limit None new limit bytes taken size = tt
first_of_limit (Some left) None limit bytes taken size = absurd taken
first_of_limit (Some left) (Some rest) limit bytes taken size =
    sym (ap (take limit) taken ∙ take_at bytes rest limit size)

-- all that were left
first_of_all : (old new : Option (List ℕ)) (limit : ℕ) (bytes : List ℕ) → Consumes old new bytes → IsAtEnd new →
    length bytes ≤ limit
    → IfSome old (λ left. bytes ≡ take limit left)
first_of_all None new limit bytes taken end bound = tt
first_of_all (Some left) None limit bytes taken end bound = absurd taken
first_of_all (Some left) (Some rest) limit bytes taken end bound =
    let whole : left ≡ bytes = taken ∙ ap (λ more. bytes ++ more) end ∙ append-nil bytes in
    sym (ap (take limit) whole ∙ take_all limit bytes bound)

-- a buffer was filled: to its end, or to the end of what was left
pub filled_first : (old new : Option (List ℕ)) (buffer : List ℕ) (count : ℕ) → Fills old new buffer count →
    TakesFirst old new (length buffer) (take count buffer)
filled_first old new buffer count filled =
    let size : length (take count buffer) ≡ count = length-take-le count buffer filled.bound in
    let bound : length (take count buffer) ≤ length buffer = omega (arith, size, filled.bound) in
    record {
      first = elim (cases_lt count (length buffer)) [
        | inl less ↦ first_of_all old new (length buffer) (take count buffer) filled.consumed (filled.ended less) bound
        | inr full ↦ first_of_limit old new (length buffer) (take count buffer) filled.consumed
            (omega (arith, size, filled.bound, full))
      ];
      consumed = filled.consumed;
      bound = bound;
    }
