use Rattle.relay_program_runs.proofs.LinePaths.{each_id_of_lines_has_one_document}
use Rattle.relay_program_runs.proofs.laws.each_id_of_lines_has_one_document.Goals as goal

pub returns : goal.returns
returns g c = each_id_of_lines_has_one_document _ c.each_grid_carries_its_words.ensures
