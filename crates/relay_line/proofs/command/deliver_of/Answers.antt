use Rattle.std.proofs.Common.{ap, codes, is_some, refl, sym}
use Rattle.clap.specs.Words.{found_of, rows_of}
use Rattle.clap.proofs.WalkLemmas.{both}
use Rattle.relay_line.proofs.Commands.{all_of_two, one_or_all, rules_kept}
use Rattle.relay_line.proofs.Kept.{flag_read}
use Rattle.relay_line.specs.Listed.{the_commands}
use Rattle.relay_line.specs.declared.options.Values.TheVariants.{NoDash, Path}
use Rattle.relay_line.proofs.command.deliver_of.Goals as goal

pub returns-in-Some : goal.returns-in-Some
unfolding the_commands
returns-in-Some c =
    let kept = (rules_kept (rows_of (found_of c.args.options.now)) _ (codes "deliver") _ _ refl c.requires refl).0 in
    (refl, ((c.text_of-file.ensures Path (kept 0)).0, sym c.in-Some.ensures))

pub returns-in-None : goal.returns-in-None
unfolding the_commands
returns-in-None c =
    let rules = rules_kept (rows_of (found_of c.args.options.now)) _ (codes "deliver") _ _ refl c.requires refl in
    let is_all = one_or_all _ _ _ (both _ _ rules.1).0 (ap is_some (sym c.in-None.ensures)) in
    (refl, ((c.text_of-file.ensures Path (rules.0 0)).0, (c.text_of.ensures NoDash (all_of_two _ _ is_all (rules.0 3))).0, flag_read (rows_of (found_of c.args.options.now)) (codes "forget") (rules.0 4) _ c.is_set.ensures))
