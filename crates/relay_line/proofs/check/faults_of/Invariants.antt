use Rattle.std.proofs.Common.{◌≡◌, ◌==◌, take, string_len}
use Rattle.std.specs.List.{list_all}
use Rattle.clap.specs.Words.{found_of, rows_of}
use Rattle.relay_line.specs.Parsed.{argument_of}
use Rattle.relay_line.specs.Rules.{is_kept}
use Rattle.relay_line.proofs.check.faults_of.Given as goal

-- the arguments so far
abbrev pub invariant-loop-at : goal.invariant-loop-at
invariant-loop-at l = (string_len l.faults == 0)
    ≡ list_all (λ row. is_kept (rows_of (found_of l.options)) (argument_of row)) (take l.at l.rows)
