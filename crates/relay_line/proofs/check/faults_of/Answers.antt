use Rattle.std.proofs.Common.{◌∙◌, ◌&&◌, ◌<◌, [], List, ap, get_or, length, sym}
use Rattle.std.proofs.lemmas.List.{take_all}
use Rattle.std.proofs.lemmas.List.Folds.{list_all-map, list_all_more}
use Rattle.std.specs.List.{list_all}
use Rattle.clap.specs.Words.{found_of, rows_of}
use Rattle.relay_line.specs.Parsed.{argument_of}
use Rattle.relay_line.specs.Rules.{has_form, is_kept}
use Rattle.relay_line.specs.declared.options.Kind.TheVariants as kinds
use Rattle.relay_line.specs.declared.options.Values.TheVariants as values
use Rattle.relay_line.specs.declared.options.Row.{Row}
use Rattle.relay_line.proofs.check.faults_of.Goals as goal

abbrev some_row : Row
some_row = record {
  0 = record { ref_ptr = (0, 0); now = [] };
  1 = kinds.Optional;
  2 = values.Text;
}

pub loop-at-preserved : goal.loop-at-preserved
loop-at-preserved c =
    let rows = c.args.rows.now in
    let found = rows_of (found_of c.args.options.now) in
    let there : c.loop-at.at < length rows = c.loop-at-test.true in
    c.in_ok-add_argument.ensures ∙ (ap (λ b. b && is_kept found (argument_of (get_or rows c.loop-at.at some_row))) c.loop-at.invariant
    ∙ sym (list_all_more (λ row. is_kept found (argument_of row)) rows c.loop-at.at some_row there))

pub returns : goal.returns
returns c =
    let found = (rows_of (found_of c.args.options.now)) in
    c.in_ok-add_form.ensures ∙ ap (λ b. b && has_form found c.args.command.now)
    (c.loop-at.invariant ∙ (ap (λ (rows : List Row). list_all (λ row. is_kept found (argument_of row)) rows)
    (take_all c.loop-at.at c.args.rows.now c.loop-at-test.false)
    ∙ sym (list_all-map (is_kept found) argument_of c.args.rows.now)))
