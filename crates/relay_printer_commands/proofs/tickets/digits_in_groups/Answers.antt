use Rattle.std.proofs.Common.{◌+◌, ◌/◌, get_or, rules}
use Rattle.std.proofs.lemmas.List.FromFn.{fill_by_all}
use Rattle.relay_printer_commands.specs.Printers.{digits_in_groups}
use Rattle.relay_printer_commands.proofs.tickets.digits_in_groups.Goals as goal

pub returns : goal.returns
unfolding digits_in_groups
returns c =
    fill_by_all (λ k. get_or c.args.text.now (k + k / 4) 0) c.loop-k.digits 24 0 c.loop-k.invariant.0 (search rules)
