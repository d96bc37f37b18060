use Rattle.std.proofs.Common.{◌≡◌, ℕ, List, true, codes, drop, refl, subst, sym, arith}
use Rattle.clap.specs.Words.{found_of, rows_of}
use Rattle.relay_line.proofs.Commands.{differs, rules_kept}
use Rattle.relay_line.specs.{Line.IsCommandOf, Listed.doing_commands, Listed.the_commands, Rules.keeps_rules_in}
use Rattle.relay_line.specs.declared.options.Values.TheVariants.{Path}
use Rattle.relay_line.proofs.command.printer_command_of.Goals as goal

pub returns-in-ledger : goal.returns-in-ledger
unfolding the_commands doing_commands
returns-in-ledger c =
    let kept = (rules_kept (rows_of (found_of c.args.options.now)) _ (codes "ledger") _ _ c.in-ledger.is c.requires refl).0 in
    (c.in-ledger.is, ((c.text_of-file.ensures Path (kept 0)).0, (c.number_of-number.ensures 0 65535 (omega arith) (kept 3)).2, (c.number_of.ensures 0 65535 (omega arith) (kept 1)).2, (c.number_of-in-ledger.ensures 0 65535 (omega arith) (kept 2)).2))

pub returns-in-plan : goal.returns-in-plan
unfolding the_commands doing_commands
returns-in-plan c =
    let kept = (rules_kept (rows_of (found_of c.args.options.now)) _ (codes "plan") _ _ c.in-plan.is c.requires refl).0 in
    (c.in-plan.is, c.encodation_of.ensures (kept 0))

pub labels_of-requires : goal.labels_of-requires
unfolding keeps_rules_in the_commands doing_commands
labels_of-requires c = subst (λ (n : List ℕ). keeps_rules_in (drop 3 doing_commands) n (rows_of (found_of c.args.options.now)) ≡ true) c.in-print.is c.requires

pub returns-in-print : goal.returns-in-print
unfolding the_commands doing_commands
returns-in-print c =
    let kept = (rules_kept (rows_of (found_of c.args.options.now)) _ (codes "print") _ _ c.in-print.is c.requires refl).0 in
    (c.in-print.is, ((c.text_of-file.ensures Path (kept 0)).0, (c.number_of-number.ensures 0 65535 (omega arith) (kept 4)).2, c.labels_of.ensures, c.encodation_of-in-print.ensures (kept 3)))

pub give_of-requires : goal.give_of-requires
unfolding keeps_rules_in the_commands doing_commands
give_of-requires c = subst (λ (n : List ℕ). keeps_rules_in (drop 3 doing_commands) n (rows_of (found_of c.args.options.now)) ≡ true) c.in-give.is c.requires

pub returns-in-give : goal.returns-in-give
returns-in-give c = subst (λ (n : List ℕ). IsCommandOf (rows_of (found_of c.args.options.now)) n c.give_of.result) (sym c.in-give.is) c.give_of.ensures

pub ticket_command_of-requires : goal.ticket_command_of-requires
unfolding keeps_rules_in the_commands doing_commands
ticket_command_of-requires c = rw (differs _ c.in_default.not-ledger, differs _ c.in_default.not-plan, differs _ c.in_default.not-print, differs _ c.in_default.not-give) at c.requires
