use Rattle.dm_assembly_desk.proofs.{Masks.names_missing, AddFacts.names_added, AddFacts.page_merged, AddFacts.agreed}
use Rattle.dm_assembly_desk.proofs.LonePages.{lone_here, lone_else}
use Rattle.dm_assembly_desk.proofs.laws.pages_by_number.Goals as goal

pub returns-clause-missing : goal.returns-clause-missing
returns-clause-missing c = names_missing

pub returns-clause-added : goal.returns-clause-added
returns-clause-added c = names_added

pub returns-clause-union : goal.returns-clause-union
returns-clause-union c = page_merged

pub returns-clause-agree : goal.returns-clause-agree
returns-clause-agree c = agreed

pub returns-clause-lone : goal.returns-clause-lone
returns-clause-lone c = lone_here

pub returns-clause-alone : goal.returns-clause-alone
returns-clause-alone c = lone_else
