use Rattle.std.proofs.{Common.refl, Common.sym}
use Rattle.dm_encodation.proofs.RunWords.{run_length-nil}
use Rattle.dm_encodation.proofs.run.run_bytes.Goals as goal

pub loop-index-init : goal.loop-index-init
loop-index-init c = record { over = refl; whole = sym (run_length-nil c.args.letters) }
