use Rattle.std.proofs.Common.{◌≡◌, ◌||◌, false}
use Rattle.dm_assembly_desk.specs.Documents.{KeepsPages}
use Rattle.relay_shared.proofs.Files.{Before}
use Rattle.relay_desk_commands.specs.Desks.{ImportsFile}
use Rattle.relay_desk_commands.specs.declared.import.TheConstants.{IMPORT_BYTES}
use Rattle.relay_desk_commands.proofs.import.import_command.Given as goal

abbrev pub invariant-loop-file : goal.invariant-loop-file
invariant-loop-file g l = record {
  does : Before ImportsFile (λ at. at.1.has_failed || at.0.is_failed) g.F.NamedFile.known l.files
      (l.initial.desk, l.initial.output) l.file-index l.status (l.desk, l.output);
  running : l.desk.is_failed ≡ false;
  kept : KeepsPages l.initial.desk.held l.desk.held;
  room : l.room.len ≡ IMPORT_BYTES;
}
