use Rattle.std.proofs.Common.{map, arith}
use Rattle.std.proofs.lemmas.{List.get_or-map, List.Kept.AllPairs-from_increasing, Map.Keys.IsStrictlyIncreasing-from_sorted}
use Rattle.dm_size.specs.Sizes.{side}
use Rattle.dm_size.proofs.Listed.{sizes, place, is_there, sorted}
use Rattle.dm_size.proofs.size.Size.all.Goals as goal

pub returns-clause-each : goal.returns-clause-each
unfolding sizes
returns-clause-each c = λ size. (place (side size), (is_there size).0, (is_there size).1)

pub returns-clause-rising : goal.returns-clause-rising
unfolding sizes
returns-clause-rising c = λ i j d less last.
    let numbers = AllPairs-from_increasing (map side sizes) (IsStrictlyIncreasing-from_sorted (map side sizes) sorted) i j
    (side d) less last in
    rw (get_or-map side sizes i d (side d) (omega arith), get_or-map side sizes j d (side d) last) at numbers
