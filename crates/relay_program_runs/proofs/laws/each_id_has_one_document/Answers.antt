use Rattle.relay_program_runs.proofs.OneDocument.{each_id_has_one_document, each_print_has_a_document}
use Rattle.relay_program_runs.proofs.laws.each_id_has_one_document.Goals as goal

pub returns : goal.returns
returns g c = record {
  one = each_id_has_one_document _ c.each_grid_carries_its_words.ensures;
  some = each_print_has_a_document _;
}
