use Rattle.std.proofs.Common.{ℕ, ◌+◌, ◌*◌}
use Rattle.dm_size.specs.{declared.size.Size.Size, Sizes.mapping}
use Rattle.dm_placement.specs.inner.Places.{AreOfWord, HasBits, HasPlaced}
use Rattle.dm_placement.proofs.placing.PlacingTaker.take.Given as goal

abbrev pub invariant-loop-b : goal.invariant-loop-b
invariant-loop-b g l = (s : Size) (k : ℕ) → HasPlaced s l.fn.self.words.now k l.fn.self.placed l.fn.self.matrix
    → AreOfWord s k l.places → HasBits (mapping s) l.fn.self.words.now l.matrix (8 * k + l.b)
