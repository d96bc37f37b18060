use Rattle.std.proofs.Common.{◌≡◌, false}
use Rattle.relay_shared.specs.Command.{TellsFile, at_image, has_stopped}
use Rattle.relay_shared.proofs.Files.{Before}
use Rattle.relay_shared.proofs.images.each_file.Given as goal

abbrev pub invariant-loop-file : goal.invariant-loop-file
invariant-loop-file g l = record {
  told : Before (TellsFile g.C.OnImages.command) (has_stopped g.C.OnImages.command) g.F.NamedFile.known l.files
      (at_image (g.C.OnImages.state l.initial.command l.initial.errors) l.initial.output) l.file-index l.status
      (at_image (g.C.OnImages.state l.command l.errors) l.output);
  running : g.C.OnImages.command.has_ended (g.C.OnImages.state l.command l.errors) ≡ false;
  kept : g.C.OnImages.keeps l.initial.command l.initial.errors l.command l.errors;
}
