-- A turn of a loop over the codewords, and its end.
use Rattle.std.proofs.Common.{◌≡◌, ℕ, ◌+◌, ◌<◌, ◌≤◌, List, ◌++◌, length, get_or, drop, Result, Ok, Err, sym, ap, ◌∙◌, arith}
use Rattle.std.proofs.lemmas.List.{append-nil, drop_more, drop_all}
use Rattle.dm_encodation.specs.declared.{mode.Mode.Mode, mode.Mode.TheVariants.Padded, fault.DecodeFault.DecodeFault}
use Rattle.dm_encodation.specs.inner.Reading.{prepend, step, finish, reading}
use Rattle.dm_encodation.proofs.ReadsToReading.{reading_step, prepend-prepend, padded_read}

-- a step that succeeds
pub goes_on : (m next : Mode) (at : ℕ) (words front bs : List ℕ) (total : Result (List ℕ) DecodeFault) →
    at < length words → Ok (next, bs) ≡ step m (at + 1) (get_or words at 0)
    → prepend front (reading m (at + 1) (drop at words)) ≡ total →
    prepend (front ++ bs) (reading next (at + 1 + 1) (drop (at + 1) words)) ≡ total
goes_on m next at words front bs total lt e so_far =
    grind (arith, drop_more, prepend-prepend front bs (reading next (at + 1 + 1) (drop (at + 1) words)), reading_step)

-- a step that fails
pub fails_at : (m : Mode) (at : ℕ) (words front : List ℕ) (f : DecodeFault) (total : Result (List ℕ) DecodeFault) →
    at < length words → Err f ≡ step m (at + 1) (get_or words at 0)
    → prepend front (reading m (at + 1) (drop at words)) ≡ total → total ≡ Err f
unfolding reading
fails_at m at words front f total lt e so_far = grind (arith, drop_more)

-- after the last codeword only the end is left
at_last : (m : Mode) (at : ℕ) (words : List ℕ) → length words ≤ at → at ≤ length words →
    reading m (at + 1) (drop at words) ≡ finish m (length words + 1)
unfolding reading
at_last m at words le ge = grind (arith, drop_all)

-- an end that succeeds
pub finishes : (m : Mode) (at : ℕ) (words front bs : List ℕ) (total : Result (List ℕ) DecodeFault) → length words ≤ at →
    at ≤ length words → Ok bs ≡ finish m (length words + 1)
    → prepend front (reading m (at + 1) (drop at words)) ≡ total → total ≡ Ok (front ++ bs)
finishes m at words front bs total le ge e so_far = sym so_far ∙ ap (prepend front) (at_last m at words le ge ∙ sym e)

-- an end that fails
pub fails_last : (m : Mode) (at : ℕ) (words front : List ℕ) (f : DecodeFault) (total : Result (List ℕ) DecodeFault) →
    length words ≤ at → at ≤ length words → Err f ≡ finish m (length words + 1)
    → prepend front (reading m (at + 1) (drop at words)) ≡ total → total ≡ Err f
fails_last m at words front f total le ge e so_far = sym so_far ∙ ap (prepend front) (at_last m at words le ge ∙ sym e)

-- pads end what is read
pub padded_so : (p : ℕ) (words front : List ℕ) (total : Result (List ℕ) DecodeFault)
    → prepend front (reading Padded p words) ≡ total → total ≡ Ok front
padded_so p words front total so_far = grind (arith, padded_read, append-nil)
