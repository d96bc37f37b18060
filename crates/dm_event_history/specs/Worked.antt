-- Worked runs, and what is no run. A document of four digits is printed on two labels of side 12.
use Rattle.std.specs.Prelude.{ℕ, List, [], ◌∷◌}
use Rattle.dm_size.specs.declared.size.Size.TheVariants.{Side12}
use Rattle.dm_encodation.specs.declared.scheme.Scheme.TheVariants.{Ascii}
use Rattle.dm_store.specs.declared.fuse.Kept.TheVariants.{Old}
use Rattle.dm_print_ledger.specs.{declared.range.Range.Range, Ledger.TicketView}
use Rattle.dm_print_ledger.specs.declared.fault.TakeFault.TheVariants as take_fault
use Rattle.dm_assembly_desk.specs.declared.reply.Kind.{Kind, TheVariants.New, TheVariants.Again, TheVariants.Complete}
use Rattle.dm_assembly_desk.specs.declared.reply.Accepted.{Accepted}
use Rattle.dm_assembly_desk.specs.declared.fault.AskFault.TheVariants as ask_fault
use Rattle.dm_event_history.specs.{declared.event.Event.Event, declared.stop.Stop.Stop, Relay.Relay, Relay.start}
use Rattle.dm_event_history.specs.declared.event.Event.TheVariants.{Print, Scan, RestartPrinter, Ask, Give, Take}
use Rattle.dm_event_history.specs.declared.reply.Reply.TheVariants.{Printed, Scanned, Document, AskRefused, Given, Taken, TakeRefused, Restarted, Stopped, Down, NoSuch}
use Rattle.dm_event_history.specs.declared.stop.Stop.TheVariants.{None, InSave, AfterLabels}
use Rattle.dm_event_history.specs.Steps.{EventAndReply, said, MaySay}

abbrev pub digits : List ℕ
digits = 49 ∷ 50 ∷ 51 ∷ 52 ∷ []

abbrev pub range : ℕ → ℕ → Range
range first last = record { first = first; last = last }

abbrev pub first_ticket : TicketView
first_ticket = record { giver = 0; serial = 0; receiver = 1; range = range 5 9 }

abbrev pub print : {A : Type 0} → ℕ → Stop → Event A
print printer stop = Print printer digits Side12 Ascii stop

abbrev pub scan : {A : Type 0} → ℕ → Event A
scan label = Scan 0 label [] None

abbrev pub accepted_page : ℕ → Kind → Accepted
accepted_page m kind = record { id = 0; m = m; n = 2; kind = kind }

-- one printer, of 0 to 9, and two desks
abbrev pub one_printer : Relay
one_printer = start (range 0 9 ∷ []) (4 ∷ 4 ∷ [])

-- two printers, of 0 to 9 and of 10 to 19, and a desk
abbrev pub two_printers : Relay
two_printers = start (range 0 9 ∷ range 10 19 ∷ []) (4 ∷ [])

-- a document is gathered at one desk and not at the other
abbrev pub gathered : (A : Type 0) → List (EventAndReply A)
gathered A =
    said (print 0 None) (Printed 0 0 2) ∷
    said (scan 1) (Scanned (accepted_page 2 New)) ∷
    said (scan 1) (Scanned (accepted_page 2 Again)) ∷
    said (scan 0) (Scanned (accepted_page 1 Complete)) ∷
    said (Ask 0 0) (Document digits) ∷
    said (Ask 1 0) (AskRefused ask_fault.NotHeld) ∷ []

-- a print is stopped, and after a restart the next one uses this number
abbrev pub stopped : {A : Type 0} → Stop → ℕ → List (EventAndReply A)
stopped stop id =
    said (print 0 stop) Stopped ∷
    said (print 0 None) Down ∷
    said (RestartPrinter 0) Restarted ∷
    said (print 0 None) (Printed id 0 2) ∷ []

-- a range moves, and its ticket is not taken twice; of another range, which was lost, nothing is left
abbrev pub range_moved : (A : Type 0) → List (EventAndReply A)
range_moved A =
    said (Give 0 1 (range 5 9) None) (Given 0 first_ticket) ∷
    said (Take 1 0 None) Taken ∷
    said (Take 1 0 None) (TakeRefused take_fault.Old) ∷
    said (print 1 None) (Printed 5 0 2) ∷
    said (Give 0 1 (range 0 1) (AfterLabels 0)) Stopped ∷
    said (RestartPrinter 0) Restarted ∷
    said (Take 1 1 None) NoSuch ∷ []

abbrev pub taken_twice : (A : Type 0) → List (EventAndReply A)
taken_twice A =
    said (Give 0 1 (range 5 9) None) (Given 0 first_ticket) ∷
    said (Take 1 0 None) Taken ∷
    said (Take 1 0 None) Taken ∷ []

-- these are runs
pub record AreRuns (A : Type 0) : Type 0 where
  pub gathered_is : MaySay one_printer (gathered A)
  pub after_is : MaySay one_printer (stopped {A = A} (AfterLabels 0) 1)
  pub before_is : MaySay one_printer (stopped {A = A} (InSave Old) 0)
  pub moved_is : MaySay two_printers (range_moved A)

-- and these are none: an ID is used by a save that was done, and by no other
pub record AreNone (A : Type 0) : Type 0 where
  pub not_used : ¬ MaySay one_printer (stopped {A = A} (AfterLabels 0) 0)
  pub used : ¬ MaySay one_printer (stopped {A = A} (InSave Old) 1)
  pub taken : ¬ MaySay two_printers (taken_twice A)
