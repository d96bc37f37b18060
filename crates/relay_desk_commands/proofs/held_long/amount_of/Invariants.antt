use Rattle.std.proofs.Common.{◌≡◌, ◌≤◌, ◌*◌, length, take}
use Rattle.std.specs.{Prelude.is_some, List.count_by}
use Rattle.dm_assembly_desk.specs.Documents.{document_of}
use Rattle.relay_desk_commands.proofs.held_long.amount_of.Given as goal

-- what is held of the pages before
abbrev pub invariant-loop-place : goal.invariant-loop-place
invariant-loop-place g l = record {
  labels : l.labels ≡ count_by is_some (take l.place l.pages);
  bytes : l.bytes ≡ length (document_of (take l.place l.pages));
  few : l.labels ≤ l.place;
  short : l.bytes ≤ l.place * 2600;
}
