use Rattle.std.proofs.Common.{◌≡◌, ℕ, List, length}
use Rattle.std.specs.{Iterator.AlwaysYields, Prelude.option_map}
use Rattle.relay_printer_commands.specs.Printers.{HasGathered}
use Rattle.relay_printer_commands.specs.inner.Kept.{with_tickets, without_end}
use Rattle.relay_shared.specs.Command.{FileView}
use Rattle.relay_streams.specs.Streams.{OutputView}
use Rattle.relay_printer_commands.proofs.audit.gather_lines.Given as goal

-- the lines before are gathered
abbrev pub invariant-loop-line : goal.invariant-loop-line
invariant-loop-line g l = (goal.iterator-loop-line g).can_next l.line-iterator
    × (goal.iterator-loop-line g).is_finite l.line-iterator
    × (l.place ≡ length l.yielded) × ((files : List FileView) (all : List (List ℕ)) (old : OutputView)
    → HasGathered files all (length files) 0 (with_tickets (option_map (λ some. some.items) l.fn.ledgers)
    (option_map (λ some. some.items) l.initial.tickets)) old l.fn.told l.initial.output
    → AlwaysYields g.I.Iterator.next_gives (λ line. without_end line.now) l.fn.lines all
    → HasGathered files all (length files) l.place (with_tickets (option_map (λ some. some.items) l.fn.ledgers)
    (option_map (λ some. some.items) l.tickets)) old l.told l.output)
