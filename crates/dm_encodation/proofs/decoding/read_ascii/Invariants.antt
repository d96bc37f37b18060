use Rattle.std.proofs.Common.{◌≡◌, ◌+◌, List, ℕ, drop, length, Some}
use Rattle.dm_encodation.specs.inner.Reading.{prepend, reading, Holds}
use Rattle.dm_encodation.specs.declared.mode.Mode.TheVariants.{Ascii}
use Rattle.dm_encodation.proofs.decoding.read_ascii.Given as goal

abbrev pub invariant-loop-at : goal.invariant-loop-at
invariant-loop-at l = record {
  so_far : (bytes : List ℕ) × (prepend bytes (reading Ascii (l.at + 1) (drop l.at l.words)) ≡ reading Ascii
      (l.fn.from + 1) (drop l.fn.from l.words)) × Holds l.room (Some l.count) bytes;
  same : length l.room ≡ length l.fn.room;
}
