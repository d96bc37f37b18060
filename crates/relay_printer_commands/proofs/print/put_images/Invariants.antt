use Rattle.std.proofs.Common.{◌≡◌, List, ◌++◌, length}
use Rattle.std.specs.Io.KnownBytes.{Appends}
use Rattle.dm_finder_frame.specs.Frame.{GridView}
use Rattle.relay_printer_commands.specs.Printers.{images_of}
use Rattle.relay_printer_commands.proofs.print.put_images.Given as goal

-- the images of the labels that were taken are out
abbrev pub invariant-loop-grid : goal.invariant-loop-grid
invariant-loop-grid g l =
    (done : List GridView) × (l.initial.job.labels ≡ done ++ l.job.labels)
    × Appends l.initial.output.contents l.output.contents (images_of done)

abbrev pub decreases-loop-grid : goal.decreases-loop-grid
decreases-loop-grid g l = length l.job.labels
