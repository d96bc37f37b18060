use Rattle.relay_printer_commands.proofs.CheckWords.{changed_is_refused}
use Rattle.relay_printer_commands.proofs.laws.changed_bytes_are_refused.Goals as goal

pub returns : goal.returns
returns c = changed_is_refused
