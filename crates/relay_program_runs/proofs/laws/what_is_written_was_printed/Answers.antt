use Rattle.std.proofs.Common.{inl, inr}
use Rattle.relay_program_runs.specs.{Law.writes, Law.writes_nothing, Written.WhatIsWrittenWasPrinted}
use Rattle.relay_program_runs.proofs.laws.what_is_written_was_printed.Goals as goal

either : (A : Type 0) → WhatIsWrittenWasPrinted A
either A earlier text ran (writes_nothing nothing) = inl nothing
either A earlier text ran (writes id document is printed part) = inr (id, document, is, printed, part.0, part.1)

pub returns : goal.returns
returns g c = either _
