use Rattle.relay_printer_commands.proofs.CheckWords.{check_text_reads}
use Rattle.relay_printer_commands.proofs.laws.check_text_is_read.Goals as goal

pub returns : goal.returns
returns c = check_text_reads
