use Rattle.std.proofs.Common.{◌≡◌, ◌++◌, List, ℕ, length}
use Rattle.std.specs.Io.KnownBytes.{Appends}
use Rattle.relay_streams.proofs.output.put_to.Given as goal

-- what is gone from `rest` was appended
abbrev pub invariant-loop-rest : goal.invariant-loop-rest
invariant-loop-rest g l = record {
  done : List ℕ;
  split : l.text ≡ done ++ l.rest;
  appended : Appends (g.W.Write.contents l.initial.writer) (g.W.Write.contents l.writer) done;
}

abbrev pub decreases-loop-rest : goal.decreases-loop-rest
decreases-loop-rest g l = length l.rest
