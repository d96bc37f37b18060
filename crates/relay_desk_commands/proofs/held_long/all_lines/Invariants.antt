use Rattle.std.proofs.Common.{◌≡◌, string_bytes, take}
use Rattle.std.specs.{FinMap.entries, List.flat_map}
use Rattle.relay_desk_commands.specs.Desks.{long_line}
use Rattle.relay_desk_commands.proofs.held_long.all_lines.Given as goal

-- the lines of the documents before
abbrev pub invariant-loop-held : goal.invariant-loop-held
invariant-loop-held g l = string_bytes l.text ≡ flat_map long_line (take l.held-index (entries l.desk.held))
