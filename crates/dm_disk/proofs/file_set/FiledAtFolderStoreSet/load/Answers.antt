use Rattle.std.proofs.Common.{◌∙◌, ap}
use Rattle.dm_disk.specs.Disk.{key_path}
use Rattle.dm_disk.proofs.InFolder.{set_loads}
use Rattle.dm_disk.proofs.file_set.FiledAtFolderStoreSet.load.Goals as goal

pub returns-clause-loads : goal.returns-clause-loads
returns-clause-loads g c =
    let path = c.as_str-2.ensures.value ∙ c.in_ok-path.ensures.path
    ∙ ap (λ folder. key_path folder c.args.key) c.as_str.ensures.value in
    rw (← c.self.view_is) (set_loads _ _ _ c.read.ensures.honesty _ _ _ _ c.ranges.key.fits
    c.read.ensures.kept (rw path at c.read.ensures.reads))

pub returns-clause-kept : goal.returns-clause-kept
returns-clause-kept g c = rw (← c.self.view_is) c.read.ensures.kept
