use Rattle.std.proofs.Common.{◌≡◌, take}
use Rattle.std.specs.{List.flat_map, Io.KnownBytes.Appends}
use Rattle.relay_streams.proofs.output.Output.put_all.Given as goal

-- the pieces so far were written, and no write has failed
abbrev pub invariant-loop-piece : goal.invariant-loop-piece
invariant-loop-piece g l = record {
  written : Appends l.initial.self.contents l.self.contents
      (flat_map (λ piece. piece.now) (take l.piece-index l.pieces));
  kept : l.self.has_failed ≡ l.initial.self.has_failed;
}
