use Rattle.std.proofs.Common.{codes, refl, arith}
use Rattle.clap.specs.Words.{found_of, rows_of}
use Rattle.relay_line.proofs.Commands.{differs, rules_kept}
use Rattle.relay_line.proofs.Kept.{flag_read}
use Rattle.relay_line.specs.{Listed.doing_commands, Listed.the_commands, Rules.keeps_rules_in}
use Rattle.relay_line.proofs.command.command_of.Goals as goal

pub returns-in-words : goal.returns-in-words
unfolding the_commands doing_commands
returns-in-words c =
    let kept = (rules_kept (rows_of (found_of c.args.options.now)) _ (codes "words") _ _ c.in-words.is c.requires refl).0 in
    (c.in-words.is, (c.number_of.ensures 10 132 (omega arith) (kept 0), c.encodation_of.ensures (kept 1)))

pub returns-in-draw : goal.returns-in-draw
unfolding the_commands doing_commands
returns-in-draw c =
    let kept = (rules_kept (rows_of (found_of c.args.options.now)) _ (codes "draw") _ _ c.in-draw.is c.requires refl).0 in
    (c.in-draw.is, (c.number_of-side.ensures 10 132 (omega arith) (kept 0), c.encodation_of-scheme.ensures (kept 1), flag_read (rows_of (found_of c.args.options.now)) (codes "plain") (kept 2) _ c.is_set.ensures))

pub printer_command_of-requires : goal.printer_command_of-requires
unfolding keeps_rules_in the_commands doing_commands
printer_command_of-requires c = rw (differs _ c.in_default.not-words, differs _ c.in_default.not-draw, differs _ c.in_default.not-read) at c.requires
