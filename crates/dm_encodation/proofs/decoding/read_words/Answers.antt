use Rattle.std.proofs.Common.{◌++◌, drop, ◌+◌, ◌∙◌, arith}
use Rattle.std.proofs.lemmas.{Result.err_from_is_err_and}
use Rattle.dm_encodation.specs.{inner.Reading.bytes_of, inner.Reading.reading, declared.mode.Mode.TheVariants.Ascii}
use Rattle.dm_encodation.proofs.DecodeLoopSteps.{goes_on, fails_at, finishes, fails_last, padded_so}
use Rattle.dm_encodation.proofs.decoding.read_words.Goals as goal

pub loop-at-init : goal.loop-at-init
loop-at-init c =
    record { mode = tt; so_far = c.read_ascii-start.ensures.read; same = c.read_ascii-start.ensures.same }

pub returns-in-Padded-clause-collects : goal.returns-in-Padded-clause-collects
returns-in-Padded-clause-collects c =
    let so_far = c.loop-at.invariant.so_far in
    let total = reading Ascii (c.args.from + 1) (drop c.args.from c.args.words.now) in (
      so_far.0,
      padded_so (c.loop-at.at + 1) (drop c.loop-at.at c.args.words.now) so_far.0 total (rw c.in-Padded.is at so_far.1),
      so_far.2,
    )

pub returns-in_err-next-clause-collects : goal.returns-in_err-next-clause-collects
returns-in_err-next-clause-collects c =
    let p = err_from_is_err_and c.from_residual.result c.from_residual.ensures.1 in
    let total = reading Ascii (c.args.from + 1) (drop c.args.from c.args.words.now) in
    let so_far = c.loop-at.invariant.so_far in
    rw (p.1, p.2) (fails_at c.loop-at.mode c.loop-at.at c.args.words.now so_far.0 c.in_err-next.field-0.0 total
    c.loop-at-test.true c.in_err-next.ensures.step so_far.1)

pub loop-at-preserved : goal.loop-at-preserved
loop-at-preserved c =
    let total = reading Ascii (c.args.from + 1) (drop c.args.from c.args.words.now) in
    let so_far = c.loop-at.invariant.so_far in
    let bs = bytes_of c.in_ok-next.output in
    record {
      mode = c.in_ok-next.ensures.next;
      so_far = (
        so_far.0 ++ bs,
        goes_on c.loop-at.mode c.in_ok-next.next c.loop-at.at c.args.words.now so_far.0 bs total
            c.loop-at-test.true c.in_ok-next.ensures.step so_far.1,
        c.put_output-count.ensures.put so_far.0 so_far.2,
      );
      same = c.put_output-count.ensures.same ∙ c.loop-at.invariant.same;
    }

pub returns-in_err-output-clause-collects : goal.returns-in_err-output-clause-collects
returns-in_err-output-clause-collects c =
    let last = c.from_residual-in_err-output in
    let p = err_from_is_err_and last.result last.ensures.1 in
    let total = reading Ascii (c.args.from + 1) (drop c.args.from c.args.words.now) in
    let so_far = c.loop-at.invariant.so_far in
    rw (p.1, p.2) (fails_last c.loop-at.mode c.loop-at.at c.args.words.now so_far.0 c.in_err-output.field-0.0 total
    c.loop-at-test.false (omega arith) c.in_err-output.ensures so_far.1)

pub returns-clause-collects : goal.returns-clause-collects
returns-clause-collects c =
    let total = reading Ascii (c.args.from + 1) (drop c.args.from c.args.words.now) in
    let so_far = c.loop-at.invariant.so_far in
    let bs = bytes_of c.in_ok-output.output in (
      so_far.0 ++ bs,
      finishes c.loop-at.mode c.loop-at.at c.args.words.now so_far.0 bs total c.loop-at-test.false
          (omega arith) c.in_ok-output.ensures so_far.1,
      c.put_output.ensures.put so_far.0 so_far.2,
    )
