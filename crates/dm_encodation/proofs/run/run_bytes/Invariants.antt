use Rattle.std.proofs.Common.{◌≡◌, ◌%◌, length, take}
use Rattle.std.specs.List.{flat_map}
use Rattle.dm_encodation.specs.{Grammar.values_of, Written.run_length}
use Rattle.dm_encodation.proofs.run.run_bytes.Given as goal

abbrev pub invariant-loop-index : goal.invariant-loop-index
invariant-loop-index l = record {
  over : l.over ≡ length (flat_map (values_of l.letters) (take l.index l.bytes)) % 3;
  whole : l.whole ≡ run_length l.letters (take l.index l.bytes);
}
