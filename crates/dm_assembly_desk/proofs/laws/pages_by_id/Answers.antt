use Rattle.dm_assembly_desk.proofs.AddLaws.{page_given, page_elsewhere}
use Rattle.dm_assembly_desk.proofs.laws.pages_by_id.Goals as goal

pub returns-clause-here : goal.returns-clause-here
returns-clause-here c = λ held id m pages. page_given held id pages m

pub returns-clause-others : goal.returns-clause-others
returns-clause-others c = λ held id other m pages differs. page_elsewhere held id pages other m differs
