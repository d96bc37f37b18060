use Rattle.std.proofs.Common.{◌≡◌, ◌<◌, ◌≤◌, ◌^◌, false, get_or, map}
use Rattle.std.specs.List.{range_with_len}
use Rattle.dm_placement.specs.Placement.{number_of}
use Rattle.dm_placement.proofs.lifting.word_at.Given as goal

abbrev pub invariant-loop-b : goal.invariant-loop-b
invariant-loop-b l = record {
  count : l.b ≤ 8;
  below : l.word < 2 ^ l.b;
  value : l.word ≡ number_of (map (λ i. get_or l.modules (get_or l.places i 0) false)
      (range_with_len 0 l.b));
}
