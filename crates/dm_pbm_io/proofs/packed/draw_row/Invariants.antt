use Rattle.std.proofs.Common.{◌≡◌, ◌*◌, take, flat_map}
use Rattle.dm_placement.specs.Placement.{byte_bits}
use Rattle.dm_pbm_io.proofs.packed.draw_row.Given as goal

-- the pixels of the first bytes are drawn
abbrev pub invariant-loop-at : goal.invariant-loop-at
invariant-loop-at l = take (8 * l.at) l.pixels ≡ flat_map byte_bits (take l.at l.row)
