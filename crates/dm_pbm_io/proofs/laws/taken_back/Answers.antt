use Rattle.dm_pbm_io.proofs.TakenBack as Law
use Rattle.dm_pbm_io.proofs.laws.taken_back.Goals as goal

pub returns : goal.returns
returns c = Law.taken_back
