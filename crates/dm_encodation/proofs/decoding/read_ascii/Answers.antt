use Rattle.std.proofs.Common.{[], ◌++◌, ◌+◌, ◌∙◌, refl, arith}
use Rattle.dm_encodation.specs.declared.mode.Mode.TheVariants.{Ascii}
use Rattle.dm_encodation.proofs.{DecodeLoopSteps.goes_on, ReadsToReading.prepend-nil}
use Rattle.dm_encodation.proofs.decoding.read_ascii.Goals as goal

pub loop-at-init : goal.loop-at-init
loop-at-init c = record { so_far = ([], prepend-nil _, (omega arith, refl)); same = refl }

pub loop-at-preserved : goal.loop-at-preserved
loop-at-preserved c =
    let so_far = c.loop-at.invariant.so_far in
    let more = c.in-Some.ensures.put (c.loop-at.at + 1) so_far.0 so_far.2 in
    record {
      so_far = (
        so_far.0 ++ more.0,
        goes_on Ascii Ascii c.loop-at.at c.args.words.now so_far.0 more.0 _ c.loop-at-test.true more.1 so_far.1,
        more.2,
      );
      same = c.put_ascii.ensures.same ∙ c.loop-at.invariant.same;
    }
