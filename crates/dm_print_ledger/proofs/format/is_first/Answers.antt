use Rattle.std.proofs.Common.{sym}
use Rattle.dm_print_ledger.proofs.ReadLaws.{not_first}
use Rattle.dm_print_ledger.proofs.format.is_first.Goals as goal

pub returns-then-bytes-ne13-clause-value : goal.returns-then-bytes-ne13-clause-value
returns-then-bytes-ne13-clause-value c = sym (not_first c.args.bytes.now c.if-bytes-ne13.true)
