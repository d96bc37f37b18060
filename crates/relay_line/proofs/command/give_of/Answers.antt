use Rattle.std.proofs.Common.{◌∙◌, arith, codes, refl, sym}
use Rattle.clap.specs.Words.{found_of, rows_of}
use Rattle.relay_line.proofs.Commands.{all_of_two, both_ends, rules_kept}
use Rattle.relay_line.specs.Listed.{the_commands}
use Rattle.relay_line.specs.declared.options.Values.TheVariants.{Path}
use Rattle.relay_line.proofs.command.give_of.Goals as goal

pub returns-then-has : goal.returns-then-has
unfolding the_commands
returns-then-has c =
    let kept = (rules_kept (rows_of (found_of c.args.options.now)) _ (codes "give") _ _ refl c.requires refl).0 in (
      refl,
      (
        (c.text_of-file.ensures Path (kept 0)).0,
        (c.number_of-number.ensures 0 65535 (omega arith) (kept 1)).2,
        (c.number_of-to.ensures 0 65535 (omega arith) (kept 2)).2,
        (c.number_of.ensures 1 64516 (omega arith) (all_of_two _ _ (sym c.has.ensures ∙ c.if-has.true) (kept 5))).2,
      ),
    )

pub returns-else-has : goal.returns-else-has
unfolding the_commands
returns-else-has c =
    let rules = rules_kept (rows_of (found_of c.args.options.now)) _ (codes "give") _ _ refl c.requires refl in
    let kept = rules.0 in
    let ends = both_ends _ _ _ rules.1 (sym c.has.ensures ∙ c.if-has.false) in (
      refl,
      (
        (c.text_of-file.ensures Path (kept 0)).0,
        (c.number_of-number.ensures 0 65535 (omega arith) (kept 1)).2,
        (c.number_of-to.ensures 0 65535 (omega arith) (kept 2)).2,
        (c.number_of-else-has.ensures 0 65535 (omega arith) (all_of_two _ _ ends.0 (kept 3))).2,
        (c.number_of-else-has-2.ensures 0 65535 (omega arith) (all_of_two _ _ ends.1 (kept 4))).2,
      ),
    )
