use Rattle.std.proofs.Common.{◌≡◌, ◌-◌, ◌^◌, length}
use Rattle.std.specs.Io.KnownBytes.{Keeps}
use Rattle.relay_streams.proofs.input.read_some.Given as goal

abbrev pub invariant-loop-tries : goal.invariant-loop-tries
invariant-loop-tries g l = record {
  kept : Keeps (g.R.Read.remaining l.initial.reader) (g.R.Read.remaining l.reader);
  room : length l.buffer ≡ length l.initial.buffer;
}

abbrev pub decreases-loop-tries : goal.decreases-loop-tries
decreases-loop-tries g l = 2 ^ 64 - l.tries
