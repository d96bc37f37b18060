-- From the steps over images to all of them.
use Rattle.std.specs.Prelude.{◌≡◌, ◌⊎◌, ℕ, ◌+◌, ◌≤◌, Bool, true, false, ◌||◌, if◌then◌else◌, List}
use Rattle.std.specs.Io.KnownBytes.{Appends, Consumes, IsAtEnd, Keeps}
use Rattle.std.proofs.Common.{inl, inr, ⊎_elim, refl, sym, subst, ◌∙◌}
use Rattle.std.proofs.{KnownBytes.Appends-nil, lemmas.Bool.or_parts, lemmas.Bool.or_right}
use Rattle.relay_streams.specs.Streams.{InputView, OutputView}
use Rattle.relay_shared.specs.Command.{AnswersImages, ImageComes, ImageCommand, IsOfFailedRead, Progress, Said, TakesImage, TellsImages, progress_at, refusal_of, TellsRefusal, AnswersImages.another, ImageComes.image, ImageComes.unread, ImageComes.too_many, EndsImages.no_image, EndsImages.last_line, TellsImages.ended, TellsImages.stopped}
use Rattle.relay_shared.specs.declared.images.{TheConstants.MOST_IMAGES, Answered.Answered}
use Rattle.relay_shared.specs.inner.Steps.{StopsStep, TakesStep}

-- what has come was answered, and its line was written
pub took : (c : ImageCommand) (count : ℕ) (old : Progress c) (answer : Answered) (new : Progress c) (said : Said)
    {bytes : List ℕ} → Consumes old.input.remaining new.input.remaining bytes → answer.refused ≡ said.refused
    → (new.input.has_failed ≡ old.input.has_failed) ⊎ ((answer.last ≡ true) × IsOfFailedRead said)
    → ImageComes c count old.state bytes new.input said answer.last new.state
    → Appends old.output.contents new.output.contents said.line → TakesStep c count old answer new
took c count old answer new said {bytes} consumed same whole comes appended = record {
  said = said;
  same = same;
  whole = whole;
  appended = appended;
  goes_on = λ is. takes is;
  ends = λ is. last_line (takes is);
}
  where
    takes : {last : Bool} → answer.last ≡ last → TakesImage c count old said last new
    takes {last} is = record {
      bytes = bytes;
      consumed = consumed;
      comes = subst (λ (b : Bool). ImageComes c count old.state bytes new.input said b new.state) is comes;
    }

-- the input has ended, and nothing was taken or written
pub at_end : (c : ImageCommand) (count : ℕ) (now : c.State) (output : OutputView) {input rest : InputView}
    → count ≤ MOST_IMAGES → Keeps input.remaining rest.remaining × IsAtEnd rest.remaining
    → rest.has_failed ≡ input.has_failed
    → TakesStep c count (progress_at now input output) (record { refused = false; last = true })
    (progress_at now rest output)
at_end c count now output few is whole = record {
  said = _;
  same = refl;
  whole = inl whole;
  appended = Appends-nil _;
  goes_on = λ same. cc;
  ends = λ same. no_image few is.0 is.1;
}

-- after an image that another may follow the command reads on
reads_on : (c : ImageCommand) {count : ℕ} {now after : c.State} {bytes : List ℕ} {rest : InputView} {said : Said}
    {last : Bool} → ImageComes c count now bytes rest said last after → last ≡ false → c.has_ended after ≡ false
reads_on c {after = after} (image p few spelled answers is) goes_on =
    (or_parts p.plain (c.has_ended after) (sym is ∙ goes_on)).1
reads_on c (unread fault few is seen) goes_on = cc
reads_on c (too_many most is) goes_on = cc

module _ (c : ImageCommand) (count : ℕ) (start now after : Progress c) (refused : Bool)
    (so_far : AnswersImages c start count refused now) where
  -- one image more, that others may follow
  pub one_more : (answer : Answered) → TakesStep c count now answer after → answer.last ≡ false
      → AnswersImages c start (count + 1) (refused || answer.refused) after × (c.has_ended after.state ≡ false)
  one_more answer step goes_on =
      let takes = step.goes_on goes_on in
      let whole = ⊎_elim (λ same. same) (λ last. cc (goes_on, last.0)) step.whole in
      (rw step.same (another step.said so_far takes whole step.appended), reads_on c takes.comes refl)

  -- the end of the images
  pub at_last : (answer : Answered) (status : ℕ) → TakesStep c count now answer after → answer.last ≡ true
      → status ≡ (if refused || answer.refused then 1 else 0) → TellsImages c start status after
  at_last answer status step last is =
      ended step.said so_far (step.ends last) (⊎_elim (λ same. inl same) (λ of_read. inr of_read.1) step.whole)
      step.appended (rw step.same at is)

  -- the output has failed
  pub at_failure : StopsStep c count now after → TellsImages c start 1 after
  at_failure step = stopped step.said so_far step.takes step.failed step.part refl

  -- what has come is refused, and nothing is read after it
  pub refused_last : (name : List ℕ) {bytes : List ℕ} {status : ℕ}
      → Consumes now.input.remaining after.input.remaining bytes
      → ImageComes c count now.state bytes after.input (refusal_of name) true after.state
      → IsOfFailedRead (refusal_of name) → TellsRefusal name now.output status after.output
      → TellsImages c start status after
  refused_last name consumed comes of_read (inl told) =
      at_last (record { refused = true; last = true }) _
      (took c count now _ after _ consumed refl (inr (refl, of_read)) comes told.0) refl
      (rw (or_right refused true refl) told.1)
  refused_last name consumed comes of_read (inr failed) =
      stopped _ so_far (record { bytes = _; consumed = consumed; comes = comes }) failed.0 failed.1 failed.2
