-- Each print over an honest store is a run.
use Rattle.std.proofs.Common.{◌≡◌, inl, ℕ, List, Some, None, Result, Ok, Err, length, slice_get, refl, sym, subst, arith}
use Rattle.std.specs.{Result.result_ok}
use Rattle.dm_size.specs.declared.size.Size.{Size}
use Rattle.dm_encodation.specs.declared.scheme.Scheme.{Scheme}
use Rattle.dm_print_ledger.specs.{declared.fault.PrintFault.PrintFault, Verdicts.Prints}
use Rattle.dm_print_ledger.specs.Ledger.{JobView, LedgerView, PrinterView, running}
use Rattle.dm_event_history.specs.declared.event.Event.TheVariants.{Print}
use Rattle.dm_event_history.specs.Relay.{Actor, Goods, Label, Relay, stored_of}
use Rattle.dm_event_world.specs.inner.Calls.{print_reply}
use Rattle.relay_command.specs.declared.command.Labels.{Labels}
use Rattle.relay_streams.specs.Streams.{InputView}
use Rattle.relay_shared.specs.Command.{ReadsDocument}
use Rattle.relay_printer_commands.specs.Printers.{EndsPrint, PrintsDocument, OnLedger}
use Rattle.relay_printer_commands.specs.Printers.EndsPrint.{no_side, not_read, too_long, read as was_read}
use Rattle.relay_printer_commands.specs.Printers.PrintsDocument.{opened as was_opened, not_opened}
use Rattle.relay_runs.specs.Runs.{job_ended, job_printed, EachPrintIsARun, FollowsRun, IsOfJob, KeepsLedger, grids_in, grids_of}
use Rattle.relay_runs.proofs.Places.{called, restarted, still_within}
use Rattle.relay_runs.proofs.{Files.holds_file, Files.opened, Calling.shows_opened, Uncalled.none_there, Uncalled.uncalled}
use Rattle.relay_runs.proofs.Printing.{AreCutFrom, none_mapped, printed_so}

answered_ok : (answer : Result JobView PrintFault) (job : JobView) → result_ok answer ≡ Some job → answer ≡ Ok job
answered_ok answer job is = grind arith

-- the labels that leave are of the job, if there is one
job_from : (document : List ℕ) (input rest : InputView) (goods : Goods) → ReadsDocument input rest document →
    (answer : Result JobView PrintFault) → grids_of goods.labels ≡ grids_in (result_ok answer) →
    ((job : JobView) → answer ≡ Ok job → AreCutFrom job.id document goods) → (i : ℕ) (label : Label) →
    slice_get goods.labels i ≡ Some label → IsOfJob input (result_ok answer) label
job_from document input rest goods read (Ok job) grids_are cut i label there =
    let its = (cut job refl).labels i label there in
    record {
      it = job;
      job_is = refl;
      id_is = its.id_is;
      rest = rest;
      read = subst (λ (d : List ℕ). ReadsDocument input rest d) (sym its.document_is) read;
    }
job_from document input rest goods read (Err fault) grids_are cut i label there =
    absurd (none_there goods.labels i label (none_mapped (λ (l : Label). l.grid) goods.labels grids_are) there)

module _ (A : Type 0) (relay : Relay) (place : ℕ) (actor : Actor LedgerView) (labels : Labels) (scheme : Scheme)
    (number : ℕ) (old new : OnLedger) (status : ℕ) (was : slice_get relay.printers place ≡ Some actor)
    (keeps : KeepsLedger old.saved actor) where
  by_document : (size : Size) (document : List ℕ) (rest : InputView) →
      ReadsDocument old.streams.input rest document → (prints : PrintsDocument number size scheme document
      (record old { streams = record old.streams { input = rest } }) status new) →
      FollowsRun A relay place old.streams.input new.saved (job_printed prints) None
  by_document size document rest is_read (not_opened fault opens same told) =
      uncalled _ _ _ _ _ _ _ was keeps same
  by_document size document rest is_read (was_opened before after answer opens prints same told) =
      let does = subst (λ (v : PrinterView). Prints v size scheme document answer after)
      (opened old.saved actor number before keeps opens).1 prints in
      let p = printed_so A (restarted relay place (stored_of actor)).labels document size scheme
      (running old.saved (stored_of actor)) after (stored_of actor) answer refl keeps.honest
      (shows_opened A old.saved actor keeps) does in
      called A relay place actor was old.streams.input new.saved after (Print place document size scheme p.stop)
      (print_reply (length (restarted relay place (stored_of actor)).labels) answer) (result_ok answer) None p.ends same
      (holds_file _ _ _ _ (running old.saved (stored_of actor)) after actor answer refl keeps does.carries)
      (λ next goes. inl (still_within A relay place actor was, goes)) p.ends.lets.0
      (job_from document old.streams.input rest p.ends.end.goods is_read answer p.ends.lets.0 p.cut) p.ends.lets.1
      (λ job is. (p.cut job (answered_ok answer job is)).moves)

  print_by : (ends : EndsPrint number labels scheme old status new) →
      FollowsRun A relay place old.streams.input new.saved (job_ended ends) None
  print_by (no_side side same told) = uncalled _ _ _ _ _ _ _ was keeps same
  print_by (not_read fault rest side failed same told) = uncalled _ _ _ _ _ _ _ was keeps same
  print_by (too_long document rest side is_read long same told) = uncalled _ _ _ _ _ _ _ was keeps same
  print_by (was_read size document rest is_read chosen prints) = by_document size document rest is_read prints

pub print_follows : (A : Type 0) → EachPrintIsARun A
print_follows = print_by
