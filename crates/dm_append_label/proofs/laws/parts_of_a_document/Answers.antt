use Rattle.dm_append_label.proofs.CutParts.{each_cut_is, one_cut}
use Rattle.dm_append_label.proofs.laws.parts_of_a_document.Goals as goal

pub returns-clause-one : goal.returns-clause-one
returns-clause-one c = one_cut

pub returns-clause-cut : goal.returns-clause-cut
returns-clause-cut c = each_cut_is
