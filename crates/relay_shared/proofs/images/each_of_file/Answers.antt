use Rattle.std.proofs.Common.{◌∙◌, refl}
use Rattle.relay_shared.specs.Command.{progress_at, TellsFile.not_opened}
use Rattle.relay_shared.proofs.Files.{was_opened}
use Rattle.relay_shared.proofs.images.each_of_file.Goals as goal

pub returns-in-Err-clause-told : goal.returns-in-Err-clause-told
returns-in-Err-clause-told g c = not_opened c.in-Err.fault c.in-Err.ensures.refused refl (rw c.name.ensures at c.refuse.ensures)

pub returns-clause-told : goal.returns-clause-told
returns-clause-told g c = was_opened _ _ _ _ _ (progress_at _ _ _) (c.new-input.ensures.remaining ∙ c.in-Ok.ensures.opened)
    c.new-input.ensures.whole c.each_image-status.ensures.told
