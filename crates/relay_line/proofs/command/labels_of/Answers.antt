use Rattle.std.proofs.Common.{◌∙◌, arith, codes, refl, sym}
use Rattle.clap.specs.Words.{found_of, rows_of}
use Rattle.relay_line.proofs.Commands.{all_of_two, other_one, rules_kept}
use Rattle.relay_line.specs.Listed.{the_commands}
use Rattle.relay_line.proofs.command.labels_of.Goals as goal

pub returns-then-has : goal.returns-then-has
unfolding the_commands
returns-then-has c =
    let kept = rules_kept (rows_of (found_of c.args.options.now)) _ (codes "print") _ _ refl c.requires refl in
    c.number_of.ensures 2 16 (omega arith) (all_of_two _ _ (sym c.has.ensures ∙ c.if-has.true) (kept.0 2))

pub returns-else-has : goal.returns-else-has
unfolding the_commands
returns-else-has c =
    let kept = rules_kept (rows_of (found_of c.args.options.now)) _ (codes "print") _ _ refl c.requires refl in
    c.number_of-else-has.ensures 10 132 (omega arith)
    (all_of_two _ _ (other_one _ _ kept.1 (sym c.has.ensures ∙ c.if-has.false)) (kept.0 1))
