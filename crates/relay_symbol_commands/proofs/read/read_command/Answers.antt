use Rattle.relay_symbol_commands.proofs.read.read_command.Goals as goal

pub returns : goal.returns
returns g c = rw (← c.streams.view_is) c.each_input.ensures.told
