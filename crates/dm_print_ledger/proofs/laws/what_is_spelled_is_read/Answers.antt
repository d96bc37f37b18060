use Rattle.dm_print_ledger.proofs.SpelledLaws.{reads_what_is_spelled}
use Rattle.dm_print_ledger.proofs.laws.what_is_spelled_is_read.Goals as goal

pub returns : goal.returns
returns c = reads_what_is_spelled
