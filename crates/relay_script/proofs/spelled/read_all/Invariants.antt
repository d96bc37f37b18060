use Rattle.std.proofs.Common.{◌≡◌, List, map, false}
use Rattle.std.specs.List.{AllZip}
use Rattle.relay_script.proofs.spelled.read_all.Given as goal

abbrev pub invariant-loop-part : goal.invariant-loop-part
invariant-loop-part g l = (goal.iterator-loop-part g).can_next l.part-iterator
    × (goal.iterator-loop-part g).is_finite l.part-iterator
    × (read : List _) × AllZip g.T.Spelled.spells (map (λ part. part.now) l.yielded) read
    × (l.refused ≡ false → l.items.items ≡ read)
