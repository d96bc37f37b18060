-- The outcomes of one step, by cases.
use Rattle.std.proofs.Common.{◌≡◌, ℕ, ◌+◌, ◌*◌, ◌<◌, ◌≤◌, ◌⊎◌, [], ◌∷◌, Ok, Err, arith}
use Rattle.dm_encodation.specs.{declared.letters.Letters.Letters, Grammar.latch, Grammar.IsUnsupported}
use Rattle.dm_encodation.specs.declared.mode.Mode.TheVariants.{Ascii, Upper, Run, Length, Padded}
use Rattle.dm_encodation.specs.declared.fault.DecodeFault.TheVariants.{Unsupported, Reserved}
use Rattle.dm_encodation.specs.inner.Reading.{Stepped, no_pending, ascii_step}

pub data AsciiStep : ℕ → ℕ → Stepped → Type 0 where
  nothing : {p w : ℕ} → (w ≡ 0) ⊎ (242 ≤ w) → AsciiStep p w (Err (Reserved p w))
  unsupported : {p w : ℕ} → IsUnsupported w → AsciiStep p w (Err (Unsupported p w))
  character : {p w : ℕ} (b : ℕ) → b < 128 → w ≡ b + 1 → AsciiStep p w (Ok (Ascii, b ∷ []))
  digits : {p w : ℕ} (m n : ℕ) → m < 10 → n < 10 → w ≡ 130 + (10 * m + n) →
      AsciiStep p w (Ok (Ascii, (48 + m) ∷ (48 + n) ∷ []))
  pad : {p w : ℕ} → w ≡ 129 → AsciiStep p w (Ok (Padded, []))
  to_run : {p w : ℕ} (t : Letters) → w ≡ latch t → AsciiStep p w (Ok (Run t no_pending, []))
  to_bytes : {p w : ℕ} → w ≡ 231 → AsciiStep p w (Ok (Length, []))
  to_upper : {p w : ℕ} → w ≡ 235 → AsciiStep p w (Ok (Upper, []))

-- each step in ASCII is one of these cases
pub ascii_view : (p w : ℕ) → AsciiStep p w (ascii_step p w)
unfolding ascii_step
ascii_view p w = grind (
  arith,
  AsciiStep.nothing,
  AsciiStep.character,
  AsciiStep.pad,
  AsciiStep.digits,
  AsciiStep.to_run,
  AsciiStep.to_bytes,
  AsciiStep.to_upper,
  AsciiStep.unsupported,
)
