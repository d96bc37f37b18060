use Rattle.std.proofs.Common.{◌≡◌, map}
use Rattle.std.specs.List.{range_with_len}
use Rattle.dm_pbm_io.specs.Image.{picture}
use Rattle.relay_shared.specs.Command.{module_after}
use Rattle.relay_shared.proofs.cure.symbol_after.Given as goal

abbrev pub invariant-loop-i : goal.invariant-loop-i
invariant-loop-i g l =
    l.modules.items ≡ map (module_after l.cure (picture l.image) l.side) (range_with_len 0 l.i)
