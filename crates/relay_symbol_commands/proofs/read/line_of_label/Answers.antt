use Rattle.std.proofs.Common.{append_assoc, rules}
use Rattle.hex.specs.Hex.{encode_with}
use Rattle.relay_symbol_commands.proofs.read.line_of_label.Goals as goal

pub returns : goal.returns
unfolding encode_with
returns g c = search (rules, append_assoc)
