use Rattle.std.proofs.Common.{◌<◌}
use Rattle.std.proofs.lemmas.List.Elements.{All-from_get_or}
use Rattle.relay_printer_commands.proofs.tickets.bytes_are_words.Goals as goal

pub returns : goal.returns
returns c = All-from_get_or (λ word. word < 256) c.args.bytes.now 0 (λ i below. (c.type_inv.bytes i).fits)
