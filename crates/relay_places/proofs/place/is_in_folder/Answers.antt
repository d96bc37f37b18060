use Rattle.relay_places.proofs.Own.{begins_in_folder, strips}
use Rattle.relay_places.proofs.place.is_in_folder.Goals as goal

pub returns-in-Some : goal.returns-in-Some
returns-in-Some c = λ begins.
    let name = c.args.name.now in let folder = c.args.folder.now in let rest = c.in-Some.rest.now in
    begins_in_folder folder name rest (strips folder name rest c.in-Some.ensures.cases) (rw begins at c.starts_with.ensures.cases)
