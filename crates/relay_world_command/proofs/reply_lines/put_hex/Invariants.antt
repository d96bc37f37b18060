use Rattle.std.proofs.Common.{take}
use Rattle.std.specs.Io.KnownBytes.{Appends}
use Rattle.hex.specs.Hex.{encode_lower}
use Rattle.relay_world_command.proofs.reply_lines.put_hex.Given as goal

-- the bytes so far were written
abbrev pub invariant-loop-byte : goal.invariant-loop-byte
invariant-loop-byte g l = Appends l.initial.output.contents l.output.contents (encode_lower (take l.byte-index l.bytes))
