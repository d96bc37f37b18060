use Rattle.std.proofs.Common.{ℕ, ◌<◌, slice_index_or}
use Rattle.dm_size.specs.declared.size.Size.{Size}
use Rattle.relay_printer_commands.specs.Printers.{Suits}
use Rattle.relay_printer_commands.proofs.print.chosen.Given as goal

-- no size so far suits the document
abbrev pub invariant-loop-size : goal.invariant-loop-size
invariant-loop-size l =
    (k : ℕ) (d : Size) → k < l.size-index → ¬ Suits l.labels l.scheme l.document (slice_index_or l.size-items k d)
