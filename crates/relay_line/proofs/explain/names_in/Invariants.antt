use Rattle.std.proofs.Common.{◌≡◌, take, string_bytes}
use Rattle.relay_line.specs.Explaining.{name_lines}
use Rattle.relay_line.proofs.explain.names_in.Given as goal

-- the names so far
abbrev pub invariant-loop-text : goal.invariant-loop-text
invariant-loop-text l = string_bytes l.listed ≡ name_lines (take l.text-index l.table)
