use Rattle.relay_program_runs.proofs.LinesOut.{what_lines_let_out_is_the_document}
use Rattle.relay_program_runs.proofs.laws.what_lines_let_out_is_the_document.Goals as goal

pub returns : goal.returns
returns g c = what_lines_let_out_is_the_document _ c.each_grid_carries_its_words.ensures
