use Rattle.std.specs.Prelude.{◌≡◌, ◌-◌, ◌≤◌, ◌++◌, take, length}
use Rattle.std.specs.FinMap as map
use Rattle.std.specs.Map.{keys_of}
use Rattle.dm_store.proofs.key_map.KeyMap.first_keys.Given as goal

abbrev pub invariant-loop-key : goal.invariant-loop-key
invariant-loop-key g l =
    (l.keys.items ++ take (l.count - length l.keys.items) (keys_of l.key-iterator) ≡ take l.count (map.keys l.self))
    × (length l.keys.items ≤ l.count)
