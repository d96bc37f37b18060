use Rattle.std.specs.Prelude.{◌≡◌, ◌-◌, ◌++◌, ℕ, List, Some, IsTrue}
use Rattle.dm_assembly_desk.specs.{Documents.Pages, Desk.AreSound, inner.Reading.entries_at}
use Rattle.dm_assembly_desk.proofs.moving.look_at_each.Given as goal

abbrev pub invariant-loop : goal.invariant-loop
invariant-loop g l =
    (all : List (ℕ × Pages)) × (entries_at l.count 0 l.entries ≡ Some all)
    × (next : ℕ) × (left : List (ℕ × Pages)) × (entries_at (l.count - l.counter) next l.rest ≡ Some left)
    × (done : List (ℕ × Pages)) × (all ≡ done ++ left)
    × (g.S.StoreSet.state l.set ≡ g.S.StoreSet.state l.fn.set)
    × (IsTrue (g.S.StoreSet.state l.fn.set).is_honest → AreSound (g.S.StoreSet.state l.fn.set).content done)
