use Rattle.std.proofs.Common.{ℕ, List, map}
use Rattle.std.specs.Prelude.{option_map}
use Rattle.relay_printer_commands.specs.Printers.{HasGathered}
use Rattle.relay_printer_commands.proofs.audit.gather_files.Given as goal

abbrev pub invariant-loop-i : goal.invariant-loop-i
invariant-loop-i g l = (lines : List (List ℕ))
    → HasGathered (map g.F.NamedFile.known l.files) lines l.i 0 (option_map (λ some. some.items) l.sound) l.initial.output l.told l.output
