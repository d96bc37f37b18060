use Rattle.std.proofs.Common.{◌≡◌, ℕ, List, true, codes, drop, refl, subst, sym, arith}
use Rattle.clap.specs.Words.{found_of, rows_of}
use Rattle.relay_line.proofs.Commands.{differs, last_one, rules_kept}
use Rattle.relay_line.proofs.Kept.{flag_read}
use Rattle.relay_line.specs.{Line.IsCommandOf, Listed.doing_commands, Listed.the_commands, Rules.keeps_rules_in}
use Rattle.relay_line.specs.declared.options.Values.TheVariants.{Path, Text}
use Rattle.relay_line.proofs.command.desk_command_of.Goals as goal

pub returns-in-scan : goal.returns-in-scan
unfolding the_commands doing_commands
returns-in-scan c =
    let kept = (rules_kept (rows_of (found_of c.args.options.now)) _ (codes "scan") _ _ c.in-scan.is c.requires refl).0 in
    (c.in-scan.is, ((c.text_of-file.ensures Path (kept 0)).0, (c.number_of.ensures 0 65535 (omega arith) (kept 1)).2))

pub deliver_of-requires : goal.deliver_of-requires
unfolding keeps_rules_in the_commands doing_commands
deliver_of-requires c = subst (λ (n : List ℕ). keeps_rules_in (drop 11 doing_commands) n (rows_of (found_of c.args.options.now)) ≡ true) c.in-deliver.is c.requires

pub returns-in-deliver : goal.returns-in-deliver
returns-in-deliver c = subst (λ (n : List ℕ). IsCommandOf (rows_of (found_of c.args.options.now)) n c.deliver_of.result) (sym c.in-deliver.is) c.deliver_of.ensures

pub returns-in-forget : goal.returns-in-forget
unfolding the_commands doing_commands
returns-in-forget c =
    let kept = (rules_kept (rows_of (found_of c.args.options.now)) _ (codes "forget") _ _ c.in-forget.is c.requires refl).0 in
    (c.in-forget.is, ((c.text_of-file.ensures Path (kept 0)).0, (c.text_of.ensures Text (kept 1)).0))

pub export_of-requires : goal.export_of-requires
unfolding keeps_rules_in the_commands doing_commands
export_of-requires c = subst (λ (n : List ℕ). keeps_rules_in (drop 11 doing_commands) n (rows_of (found_of c.args.options.now)) ≡ true) c.in-export.is c.requires

pub returns-in-export : goal.returns-in-export
returns-in-export c = subst (λ (n : List ℕ). IsCommandOf (rows_of (found_of c.args.options.now)) n c.export_of.result) (sym c.in-export.is) c.export_of.ensures

pub returns-in-import : goal.returns-in-import
unfolding the_commands doing_commands
returns-in-import c =
    let kept = (rules_kept (rows_of (found_of c.args.options.now)) _ (codes "import") _ _ c.in-import.is c.requires refl).0 in
    (c.in-import.is, ((c.text_of-file.ensures Path (kept 0)).0, (c.number_of-in-import.ensures 0 65535 (omega arith) (kept 1)).2))

pub returns-in-held : goal.returns-in-held
unfolding the_commands doing_commands
returns-in-held c =
    let kept = (rules_kept (rows_of (found_of c.args.options.now)) _ (codes "held") _ _ c.in-held.is c.requires refl).0 in
    (c.in-held.is, ((c.text_of-file.ensures Path (kept 0)).0, sym c.some_text_of.ensures, flag_read (rows_of (found_of c.args.options.now)) (codes "long") (kept 2) _ c.is_set.ensures))

pub returns-in-copy : goal.returns-in-copy
unfolding the_commands doing_commands
returns-in-copy c =
    let kept = (rules_kept (rows_of (found_of c.args.options.now)) _ (codes "copy") _ _ c.in-copy.is c.requires refl).0 in (
      c.in-copy.is,
      let page = c.number_of-page.ensures 1 16 (omega arith) (kept 2) in (
        (c.text_of-file.ensures Path (kept 0)).0,
        (c.text_of-id.ensures Text (kept 1)).0,
        c.number_of-side.ensures 10 132 (omega arith) (kept 3),
        page.0,
        page.1,
        page.2,
        c.encodation_of.ensures (kept 4),
      ),
    )

pub returns-in_default : goal.returns-in_default
unfolding keeps_rules_in the_commands doing_commands
returns-in_default c =
    let kept = rw (differs _ c.in_default.not-scan, differs _ c.in_default.not-deliver, differs _ c.in_default.not-forget, differs _ c.in_default.not-export, differs _ c.in_default.not-import, differs _ c.in_default.not-held, differs _ c.in_default.not-copy) at c.requires in
    (last_one _ _ _ kept, tt)
