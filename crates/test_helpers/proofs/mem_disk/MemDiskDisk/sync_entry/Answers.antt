use Rattle.std.proofs.Common.{refl}
use Rattle.test_helpers.proofs.Noted.{left_before, noted_entry, noted_kept}
use Rattle.test_helpers.proofs.mem_disk.MemDiskDisk.sync_entry.Goals as goal

pub returns-clause-syncs : goal.returns-clause-syncs
returns-clause-syncs g c = λ _. noted_entry _ _ _ _ c.note.result c.in_ok-synced.ensures.ok c.note.ensures.ok

pub returns-clause-kept : goal.returns-clause-kept
returns-clause-kept g c = λ each. noted_kept _ _ _ each c.note.result
    (record { seen = refl; named = λ keeps. keeps; synced = λ on. on; left = left_before _ c.args.self.now.calls.items each })
    c.note.ensures.ok c.note.ensures.err
