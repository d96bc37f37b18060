use Rattle.std.proofs.Common.{refl, rules, sym, ◌∙◌}
use Rattle.relay_program_runs.proofs.WorkedLines.{worked}
use Rattle.relay_program_runs.proofs.worked_lines.lines_over.Goals as goal

pub returns : goal.returns
returns g c = λ well.
    let so = c.end_so.ensures (search rules) in
    worked c.line_done-one.ensures c.line_done-two.ensures c.line_done-three.ensures c.line_done-four.ensures
    c.line_done-five.ensures c.line_done-six.ensures c.line_done-seven.ensures c.line_done-eight.ensures
    c.line_done-nine.ensures (c.are_worked.ensures well) so.0 (sym c.deref-3.ensures.value ∙ so.1)
    (sym c.deref-4.ensures.value ∙ so.2) so.3 c.save_new-saved.ensures c.deref.ensures.value c.deref-2.ensures.value
    c.requires refl c.what_lines_run_in_turn_find_what_was_left.ensures c.what_lines_let_out_is_the_document.ensures
