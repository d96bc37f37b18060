use Rattle.std.proofs.Common.{◌≡◌, [], arith}
use Rattle.std.proofs.lemmas.List.{nil_from_length}
use Rattle.relay_shared.proofs.Files.{over_files}
use Rattle.relay_shared.specs.Command.TellsInputs.{of_input}
use Rattle.relay_shared.proofs.images.each_input.Goals as goal

pub returns-then-is_empty-clause-told : goal.returns-then-is_empty-clause-told
returns-then-is_empty-clause-told g c =
    let none : c.args.files.now ≡ [] = nil_from_length c.args.files.now (grind (arith, c.is_empty.ensures)) in
    rw none (of_input c.each_image.ensures.told)

pub returns-clause-told : goal.returns-clause-told
returns-clause-told g c = over_files _ _ _ _ _ _ _ _ _ (λ none. (grind (arith, none, c.is_empty.ensures))) c.each_file.ensures.told
