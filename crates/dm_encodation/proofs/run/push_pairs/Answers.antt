use Rattle.dm_encodation.proofs.RunLoop.{run_done}
use Rattle.dm_encodation.proofs.run.push_pairs.Goals as goal

pub returns : goal.returns
returns g c = run_done c.args.letters c.loop-byte.held c.loop-byte.out.items c.args.out.now.items c.args.bytes.now
    c.loop-byte.byte-index c.loop-byte-test.false c.loop-byte.invariant.done
