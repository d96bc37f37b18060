use Rattle.std.proofs.Common.{take}
use Rattle.std.specs.List.{flat_map}
use Rattle.dm_encodation.specs.{Grammar.values_of, inner.Counting.AreValues, inner.Counting.WritesValues}
use Rattle.dm_encodation.specs.declared.run.Held.TheVariants.{Nothing}
use Rattle.dm_encodation.proofs.run.push_pairs.Given as goal

abbrev pub invariant-loop-byte : goal.invariant-loop-byte
invariant-loop-byte g l = record {
  low : AreValues l.held;
  done : WritesValues l.fn.out.items Nothing (flat_map (values_of l.letters) (take l.byte-index l.bytes)) l.out.items
      l.held;
}
