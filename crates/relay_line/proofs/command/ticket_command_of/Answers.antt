use Rattle.std.proofs.Common.{codes, refl, arith}
use Rattle.clap.specs.Words.{found_of, rows_of}
use Rattle.relay_line.proofs.Commands.{differs, rules_kept}
use Rattle.relay_line.specs.{Listed.doing_commands, Listed.the_commands, Rules.keeps_rules_in}
use Rattle.relay_line.specs.declared.options.Values.TheVariants.{Path, Text}
use Rattle.relay_line.proofs.command.ticket_command_of.Goals as goal

pub returns-in-ticket : goal.returns-in-ticket
unfolding the_commands doing_commands
returns-in-ticket c =
    let kept = (rules_kept (rows_of (found_of c.args.options.now)) _ (codes "ticket") _ _ c.in-ticket.is c.requires refl).0 in
    (c.in-ticket.is, (c.text_of.ensures Text (kept 0)).0)

pub returns-in-take : goal.returns-in-take
unfolding the_commands doing_commands
returns-in-take c =
    let kept = (rules_kept (rows_of (found_of c.args.options.now)) _ (codes "take") _ _ c.in-take.is c.requires refl).0 in
    (c.in-take.is, ((c.text_of-in-take.ensures Path (kept 0)).0, (c.number_of.ensures 0 65535 (omega arith) (kept 1)).2, (c.text_of-in-take-2.ensures Text (kept 2)).0))

pub returns-in-left : goal.returns-in-left
unfolding the_commands doing_commands
returns-in-left c =
    let kept = (rules_kept (rows_of (found_of c.args.options.now)) _ (codes "left") _ _ c.in-left.is c.requires refl).0 in
    (c.in-left.is, (c.text_of-in-left.ensures Path (kept 0)).0)

pub desk_command_of-requires : goal.desk_command_of-requires
unfolding keeps_rules_in the_commands doing_commands
desk_command_of-requires c = rw (differs _ c.in_default.not-ticket, differs _ c.in_default.not-take, differs _ c.in_default.not-left, differs _ c.in_default.not-audit) at c.requires
