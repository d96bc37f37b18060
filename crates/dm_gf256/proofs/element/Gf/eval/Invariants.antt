use Rattle.std.proofs.Common.{◌≡◌, take}
use Rattle.dm_gf256.specs.Field.{value, numbers}
use Rattle.dm_gf256.proofs.element.Gf.eval.Given as goal

abbrev pub invariant-loop-c : goal.invariant-loop-c
invariant-loop-c l = l.sum.0 ≡ value (numbers (take l.c-index l.poly)) l.x.0
