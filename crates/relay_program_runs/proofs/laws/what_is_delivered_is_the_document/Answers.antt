use Rattle.relay_program_runs.proofs.OneDocument.{what_is_delivered_is_the_document}
use Rattle.relay_program_runs.proofs.laws.what_is_delivered_is_the_document.Goals as goal

pub returns : goal.returns
returns g c = what_is_delivered_is_the_document _ c.each_grid_carries_its_words.ensures
