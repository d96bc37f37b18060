use Rattle.dm_event_world.proofs.world.World.step.Goals as goal
use Rattle.dm_event_history.specs.declared.{event.Event.Event, reply.Reply.Reply}
use Rattle.dm_event_history.proofs.Headline.{each_run_is_sound}
use Rattle.dm_event_world.specs.{Shows.WorldView, Shows.GoesOn, inner.Events.StepsEach}

-- Each step of a world is one of the relay that it shows.
step_stands : {A : Type 0} (old new : WorldView A) (event : Event A) (reply : Reply A) →
    StepsEach old event reply new → GoesOn old event reply new
step_stands {A} old new event reply steps ranges capacities h s =
    let sound = (each_run_is_sound A ranges capacities h s.relay s.disjoint s.run).0 in
    let one = steps s.relay sound.order s.shows in
    record {
      are_ranges = s.are_ranges;
      disjoint = s.disjoint;
      are_capacities = s.are_capacities;
      relay = one.next;
      run = (s.run, one.step);
      shows = one.shows;
    }

pub returns-in-Print : goal.returns-in-Print
returns-in-Print g c =
    record { stands = step_stands _ _ _ _ (rw (c.in-Print.is, ← c.as_slice.ensures) c.print.ensures) }

pub returns-in-Scan : goal.returns-in-Scan
returns-in-Scan g c =
    record { stands = step_stands _ _ _ _ (rw (c.in-Scan.is, ← c.as_slice-in-Scan.ensures) c.scan.ensures) }

pub returns-in-RestartPrinter : goal.returns-in-RestartPrinter
returns-in-RestartPrinter g c =
    record { stands = step_stands _ _ _ _ (rw c.in-RestartPrinter.is c.restart_printer.ensures) }

pub returns-in-RestartDesk : goal.returns-in-RestartDesk
returns-in-RestartDesk g c = record { stands = step_stands _ _ _ _ (rw c.in-RestartDesk.is c.restart_desk.ensures) }

pub returns-in-Ask : goal.returns-in-Ask
returns-in-Ask g c = record { stands = step_stands _ _ _ _ (rw c.in-Ask.is c.ask.ensures) }

pub returns-in-Forget : goal.returns-in-Forget
returns-in-Forget g c = record { stands = step_stands _ _ _ _ (rw c.in-Forget.is c.forget.ensures) }

pub returns-in-Give : goal.returns-in-Give
returns-in-Give g c = record { stands = step_stands _ _ _ _ (rw c.in-Give.is c.give.ensures) }

pub returns-in-Take : goal.returns-in-Take
returns-in-Take g c = record { stands = step_stands _ _ _ _ (rw c.in-Take.is c.take.ensures) }

pub returns-in-Export : goal.returns-in-Export
returns-in-Export g c = record { stands = step_stands _ _ _ _ (rw c.in-Export.is c.export.ensures) }

pub returns-in-Import : goal.returns-in-Import
returns-in-Import g c = record { stands = step_stands _ _ _ _ (rw c.in-Import.is c.import.ensures) }
