use Rattle.std.proofs.Common.{◌≡◌, ◌+◌, ◌/◌, ◌<◌, ℕ, get_or, length}
use Rattle.relay_printer_commands.proofs.tickets.digits_in_groups.Given as goal

-- the digits so far stand where they are to
abbrev pub invariant-loop-k : goal.invariant-loop-k
invariant-loop-k l = (length l.digits ≡ 24) × ((i : ℕ) → i < l.k → get_or l.digits i 0 ≡ get_or l.text (i + i / 4) 0)
