use Rattle.relay_desk_commands.proofs.AllDocuments.{is_text}
use Rattle.relay_desk_commands.proofs.all_documents.GivenDocument.id_text.Goals as goal

pub returns-clause-of_id : goal.returns-clause-of_id
returns-clause-of_id g c = is_text _ c.words-first.ensures.below
