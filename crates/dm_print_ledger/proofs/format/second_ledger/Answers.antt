use Rattle.std.proofs.Common.{arith}
use Rattle.std.specs.Cmp.Lexicographic.{pointwise}
use Rattle.dm_print_ledger.proofs.FormatLaws.{view_of}
use Rattle.dm_print_ledger.proofs.ReadLaws.{no_size, not_ranges, not_givers, not_same, numbers_are, read_as}
use Rattle.dm_print_ledger.proofs.format.second_ledger.Goals as goal
use Rattle.dm_print_ledger.proofs.format.second_ledger.Goals.{then-ranges-gt-MOST_RANGES-via-then-ranges-gt-MOST_RANGES, then-ranges-gt-MOST_RANGES-via-else-ranges-gt-MOST_RANGES+then-bytes-ranges, then-givers-gt-MOST_GIVERS-via-then-givers-gt-MOST_GIVERS, then-givers-gt-MOST_GIVERS-via-else-givers-gt-MOST_GIVERS+then-bytes-ranges-2}

pub returns-then-bytes-lt13-clause-none : goal.returns-then-bytes-lt13-clause-none
returns-then-bytes-lt13-clause-none c = no_size c.args.bytes.now (λ has. let size = has.size in omega arith)

pub returns-then-ranges-gt-MOST_RANGES-clause-none : goal.returns-then-ranges-gt-MOST_RANGES-clause-none
returns-then-ranges-gt-MOST_RANGES-clause-none c =
    grind (
      arith,
      no_size,
      then-ranges-gt-MOST_RANGES-via-then-ranges-gt-MOST_RANGES,
      then-ranges-gt-MOST_RANGES-via-else-ranges-gt-MOST_RANGES+then-bytes-ranges,
    )

pub returns-then-givers-gt-MOST_GIVERS-clause-none : goal.returns-then-givers-gt-MOST_GIVERS-clause-none
returns-then-givers-gt-MOST_GIVERS-clause-none c =
    grind (
      arith,
      no_size,
      then-givers-gt-MOST_GIVERS-via-then-givers-gt-MOST_GIVERS,
      then-givers-gt-MOST_GIVERS-via-else-givers-gt-MOST_GIVERS+then-bytes-ranges-2,
    )

pub returns-then-not-are_ranges-clause-none : goal.returns-then-not-are_ranges-clause-none
returns-then-not-are_ranges-clause-none c = grind (arith, not_ranges)

pub returns-then-not-are_givers-clause-none : goal.returns-then-not-are_givers-clause-none
returns-then-not-are_givers-clause-none c = grind (arith, not_givers, view_of, numbers_are)

pub returns-then-eq-clause-some : goal.returns-then-eq-clause-some
returns-then-eq-clause-some c = grind (arith, view_of, read_as, numbers_are, pointwise)

pub returns-else-eq-clause-none : goal.returns-else-eq-clause-none
returns-else-eq-clause-none c = grind (arith, not_same, view_of, numbers_are, pointwise)
