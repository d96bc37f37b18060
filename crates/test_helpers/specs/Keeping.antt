-- A disk over another that keeps all names: no rename takes the place of a file.
use Rattle.std.specs.Prelude.{⊤}
use Rattle.dm_disk.specs.Disk.{DiskState}

abbrev pub keeping_names : DiskState → DiskState
keeping_names disk = record disk { keeps_name = λ name. ⊤ }
