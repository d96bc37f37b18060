use Rattle.std.specs.Prelude.{◌≡◌}
use Rattle.dm_disk.specs.Disk.{found_in, held_below}
use Rattle.test_helpers.specs.DiskCalls.{disk_after}
use Rattle.test_helpers.proofs.mem_folder.MemDiskFolders.keys.Given as goal

abbrev pub invariant-loop-key : goal.invariant-loop-key
invariant-loop-key g l = l.held ≡ held_below (found_in (disk_after l.self.calls.items) l.folder) l.key
