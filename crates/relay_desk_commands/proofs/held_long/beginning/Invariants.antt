use Rattle.std.proofs.Common.{◌≡◌, ◌++◌, codes, take, string_bytes}
use Rattle.std.specs.List.{flat_map}
use Rattle.relay_desk_commands.specs.Desks.{shown_byte}
use Rattle.relay_desk_commands.proofs.held_long.beginning.Given as goal

-- the bytes before are shown
abbrev pub invariant-loop-byte : goal.invariant-loop-byte
invariant-loop-byte g l = string_bytes l.text ≡ codes ", \"" ++ flat_map shown_byte (take l.byte-index l.byte-items)
