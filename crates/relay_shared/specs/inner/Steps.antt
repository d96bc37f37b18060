-- One step over images, as it was answered.
use Rattle.std.specs.Prelude.{◌≡◌, ◌⊎◌, ℕ, true, false, Bool}
use Rattle.std.specs.Io.KnownBytes.{Appends}
use Rattle.relay_streams.specs.Streams.{AppendsPart}
use Rattle.relay_shared.specs.Command.{EndsImages, ImageCommand, IsOfFailedRead, Progress, Said, TakesImage}
use Rattle.relay_shared.specs.declared.images.Answered.{Answered}

-- the next line was written, or the input has ended; if a read has failed, the line is the last, and says so
pub record TakesStep (c : ImageCommand) (count : ℕ) (old : Progress c) (answered : Answered) (new : Progress c)
    : Type 0 where
  pub said : Said
  pub same : answered.refused ≡ said.refused
  pub whole : (new.input.has_failed ≡ old.input.has_failed) ⊎ ((answered.last ≡ true) × IsOfFailedRead said)
  pub appended : Appends old.output.contents new.output.contents said.line
  pub goes_on : answered.last ≡ false → TakesImage c count old said false new
  pub ends : answered.last ≡ true → EndsImages c count old said new

-- the output has failed, and a part of the next line is out
pub record StopsStep (c : ImageCommand) (count : ℕ) (old new : Progress c) : Type 0 where
  pub said : Said
  pub last : Bool
  pub takes : TakesImage c count old said last new
  pub failed : new.output.has_failed ≡ true
  pub part : AppendsPart old.output.contents new.output.contents said.line
