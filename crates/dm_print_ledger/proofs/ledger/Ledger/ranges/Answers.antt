use Rattle.std.proofs.Common.{◌≡◌, rules}
use Rattle.dm_print_ledger.proofs.{FormatLaws.view_of, Rising.each_is_range, Rising.rise_fact, Rising.sound_ranges}
use Rattle.dm_print_ledger.proofs.ledger.Ledger.ranges.Goals as goal

pub returns-clause-each : goal.returns-clause-each
returns-clause-each c =
    let same : c.as_slice.result.now ≡ c.self.inside.free.items = search rules in
    rw same (each_is_range 0 _ (rise_fact 0 c.self.inside.free.items (sound_ranges
    (view_of c.self.inside.number c.self.inside.next_serial c.self.inside.free.items c.self.inside.givers.items)
    c.self.invariant)))
