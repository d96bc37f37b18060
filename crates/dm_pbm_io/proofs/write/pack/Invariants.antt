use Rattle.std.proofs.Common.{◌≡◌, ◌-◌, ◌*◌, ◌++◌, drop, length, take}
use Rattle.dm_pbm_io.specs.{Header.stride, Image.packed}
use Rattle.dm_pbm_io.proofs.write.pack.Given as goal

abbrev pub invariant-loop-at : goal.invariant-loop-at
invariant-loop-at l =
    packed (stride (length l.piece)) l.piece
    ≡ take l.at l.bytes ++ packed (stride (length l.piece) - l.at) (drop (8 * l.at) l.piece)
