use Rattle.std.proofs.Common.{◌≡◌, ◌⊎◌, ◌||◌, inl, inr, Bool, Ok, Err, ap, arith, refl, true}
use Rattle.std.specs.Prelude.{IsErrOf}
use Rattle.std.proofs.lemmas.Result.{err_from_is_err_and}
use Rattle.dm_pbm_io.specs.{Image.picture, FaultNames.pbm_fault_name, declared.fault.PbmFault.PbmFault}
use Rattle.dm_pbm_io.specs.declared.fault.PbmFault.TheVariants as image_faults
use Rattle.relay_shared.specs.Command.{IsOfFailedRead, refusal_of, ImageComes.image, ImageComes.unread}
use Rattle.relay_shared.proofs.ImageLoop.{at_end, took}
use Rattle.relay_shared.proofs.images.next_image.Goals as goal

-- what was read without a fault
was_whole : {T : Type 0} (found : T) (fault : PbmFault) {old new : Bool}
    → IsErrOf {T = T} (Ok found) fault ⊎ (new ≡ old) → new ≡ old
was_whole found fault (inl is) = cc is
was_whole found fault (inr same) = same

-- what was read with a fault: a read has failed, or it is another fault
was_failed : {T : Type 0} (new old : Bool) (fault : PbmFault)
    → IsErrOf {T = T} (Err fault) image_faults.Read ⊎ (new ≡ old)
    → (new ≡ old) ⊎ ((true ≡ true) × IsOfFailedRead (refusal_of (pbm_fault_name fault)))
was_failed new old fault (inl is) =
    let read : fault ≡ image_faults.Read = cc in
    inr (refl, inl (ap (λ (f : PbmFault). refusal_of (pbm_fault_name f)) read))
was_failed new old fault (inr same) = inl same

pub returns-in-Ok-None-clause-step : goal.returns-in-Ok-None-clause-step
returns-in-Ok-None-clause-step g c =
    at_end _ _ _ _ (omega arith) (rw c.in-Ok-None.field-0-is at c.in-Ok-None.ensures.read)
    (was_whole _ _ c.in-Ok-None.ensures.kept)

pub returns-in_ok-answered-in-Ok-Some-clause-step : goal.returns-in_ok-answered-in-Ok-Some-clause-step
returns-in_ok-answered-in-Ok-Some-clause-step g c =
    let read = rw c.in-Ok-Some.field-0-is at c.in-Ok-Some.ensures.read in
    let answer = c.in_ok-answered-in-Ok-Some.ensures.answer in
    let p = picture c.in-Ok-Some.image in
    took _ _ _ _ _ answer.said read.1 answer.told.1 (inl (was_whole _ _ c.in-Ok-Some.ensures.kept))
    (image p (omega arith) read.2 answer.answers (ap (λ (b : Bool). p.plain || b) answer.told.2)) answer.told.0

pub returns-in_ok-put_refusal-in-Err-clause-step : goal.returns-in_ok-put_refusal-in-Err-clause-step
returns-in_ok-put_refusal-in-Err-clause-step g c =
    let read = c.in-Err.ensures.read in
    took _ _ _ _ _ _ read.1 refl (was_failed _ _ c.in-Err.fault c.in-Err.ensures.kept)
    (unread c.in-Err.fault (omega arith)
    (record { refused = read.2; failed = λ e. c.in-Err.ensures.failed (ap (λ (f : PbmFault). Err f) e) })
    (rw c.name-name.ensures at c.see_unread.ensures.seen))
    (rw c.name-name.ensures at c.in_ok-put_refusal-in-Err.ensures.written)

pub returns-in_err-answered-in-Ok-Some-clause-step : goal.returns-in_err-answered-in-Ok-Some-clause-step
returns-in_err-answered-in-Ok-Some-clause-step g c =
    let p = err_from_is_err_and c.from_residual.result c.from_residual.ensures.1 in
    let read = rw c.in-Ok-Some.field-0-is at c.in-Ok-Some.ensures.read in
    let answer = c.in_err-answered-in-Ok-Some.ensures.answer in
    rw p.1 record {
      said = answer.said;
      last = _;
      takes = record {
        bytes = read.0;
        consumed = read.1;
        comes = image (picture c.in-Ok-Some.image) (omega arith) read.2 answer.answers refl;
      };
      failed = answer.told.1;
      part = answer.told.0;
    }

pub returns-in_err-put_refusal-in-Err-clause-step : goal.returns-in_err-put_refusal-in-Err-clause-step
returns-in_err-put_refusal-in-Err-clause-step g c =
    let last = c.from_residual-in_err-put_refusal-in-Err in
    let p = err_from_is_err_and last.result last.ensures.1 in
    let read = c.in-Err.ensures.read in
    rw p.1 record {
      said = _;
      last = true;
      takes = record {
        bytes = read.0;
        consumed = read.1;
        comes = unread c.in-Err.fault (omega arith)
            (record { refused = read.2; failed = λ e. c.in-Err.ensures.failed (ap (λ (f : PbmFault). Err f) e) })
            (rw c.name-name.ensures at c.see_unread.ensures.seen);
      };
      failed = c.in_err-put_refusal-in-Err.ensures.failed;
      part = rw c.name-name.ensures at c.put_refusal.ensures.part;
    }
