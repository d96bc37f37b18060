-- A printer is opened over its store and called: what the proofs of worlds ask of a printer that runs in memory.
use Rattle.std.proofs.Common.{◌≡◌, arith}
use Rattle.dm_store.specs.Saved.{Saved}
use Rattle.dm_print_ledger.specs.Ledger.{LedgerView, PrinterView, running}
use Rattle.dm_event_history.specs.declared.{reply.Reply.Reply, stop.Stop.Stop}
use Rattle.dm_event_history.specs.Relay.{Actor, Running, Failed, Down, stored_of}
use Rattle.dm_event_world.specs.{declared.actor.PrinterActor.PrinterActor, Shows.ShowsPrinter}
use Rattle.dm_event_world.specs.declared.actor.PrinterActor.TheVariants as actors
use Rattle.dm_event_world.specs.inner.Calls.{down_printer, state_after, ended_reply}
use Rattle.relay_runs.specs.Runs.{KeepsLedger}
use Rattle.relay_runs.proofs.{Plans.IsMet, Plans.fine_printer, Files.HoldsFile, Files.file_of, Files.holds}

-- it is shown as a printer in memory that runs
pub shows_opened : (A : Type 0) (saved : Saved) (actor : Actor LedgerView) → KeepsLedger saved actor →
    ShowsPrinter {A = A} (actors.Running (fine_printer (running saved (stored_of actor)))) (Running (stored_of actor))
shows_opened A saved actor keeps = grind (arith, holds)

-- what is shown so is kept
pub keeps_shown : (A : Type 0) (view : PrinterView) (shown : Actor LedgerView) → HoldsFile view.saved →
    ShowsPrinter {A = A} (actors.Running (fine_printer view)) shown → KeepsLedger view.saved shown
keeps_shown A view (Running held) file s = file_of view.saved (Running held) s.0.ready.honest file s.0.holds
keeps_shown A view (Failed held stored) file s = file_of view.saved (Failed held stored) s.0.ready.honest file s.0.holds
keeps_shown A view (Down stored) file s = absurd s

-- what a command may meet does not end its call
pub met_reply : {A : Type 0} (stop : Stop) (reply : Reply A) → IsMet stop → reply ≡ ended_reply stop reply
met_reply stop reply met = grind arith

pub met_ended : {A : Type 0} (stop : Stop) (reply : Reply A) (actor : PrinterActor A) → IsMet stop →
    actor ≡ state_after down_printer stop reply actor
met_ended stop reply actor met = grind arith
