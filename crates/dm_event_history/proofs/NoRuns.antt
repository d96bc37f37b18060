-- What is said in place of what is said of a known run is no run, since nothing is open but memory.
use Rattle.std.proofs.Common.{◌≡◌, inl, inr, List, [], ◌∷◌, ◌++◌, refl, sym, subst}
use Rattle.dm_event_history.specs.{declared.event.Event.Event, declared.reply.Reply.Reply, Relay.Relay, Told.IsOfMemory}
use Rattle.dm_event_history.specs.declared.event.Event.TheVariants.{Give, RestartPrinter, Take}
use Rattle.dm_event_history.specs.declared.reply.Reply.TheVariants.{Down, Given, NoSuch, Printed, Restarted, Stopped, Taken, TakeRefused}
use Rattle.dm_event_history.specs.declared.stop.Stop.TheVariants.{AfterLabels, InSave, None}
use Rattle.dm_store.specs.declared.fuse.Kept.TheVariants.{Old}
use Rattle.dm_event_history.specs.Worked.{first_ticket, range, AreNone, one_printer, print, two_printers}
use Rattle.dm_print_ledger.specs.declared.fault.TakeFault.TheVariants as take_fault
use Rattle.dm_event_history.specs.Steps.{EventAndReply, MaySay, said}
use Rattle.dm_event_history.proofs.{OneStep.only_memory, WorkedRuns.after_is, WorkedRuns.before_is, WorkedRuns.moved_is}

-- After the same was said, the same event is answered alike, memory aside.
alike : {A : Type 0} (from : Relay) (earlier : List (EventAndReply A)) (event : Event A) (reply answer : Reply A)
    (more others : List (EventAndReply A)) → ¬ IsOfMemory reply → ¬ IsOfMemory answer →
    MaySay from (earlier ++ said event reply ∷ more) → MaySay from (earlier ++ said event answer ∷ others) →
    reply ≡ answer
alike {A} from [] event reply answer more others mine its p q =
    elim (only_memory A from p.0 q.0 event reply answer p.1 q.1).0 [
      | inl same ↦ same.0
      | inr memory ↦ elim memory [ inl first ↦ absurd (mine first) | inr second ↦ absurd (its second) ]
    ]
alike {A} from (one ∷ earlier) event reply answer more others mine its p q =
    let same = (only_memory A from p.0 q.0 one.event one.reply one.reply p.1 q.1).1 refl in
    alike p.0 earlier event reply answer more others mine its p.2
    (subst (λ (r : Relay). MaySay r (earlier ++ said event answer ∷ others)) (sym same) q.2)

abbrev earlier_after : {A : Type 0} → List (EventAndReply A)
earlier_after =
    said (print 0 (AfterLabels 0)) Stopped ∷ said (print 0 None) Down ∷ said (RestartPrinter 0) Restarted ∷ []

abbrev earlier_before : {A : Type 0} → List (EventAndReply A)
earlier_before =
    said (print 0 (InSave Old)) Stopped ∷ said (print 0 None) Down ∷ said (RestartPrinter 0) Restarted ∷ []

abbrev earlier_taken : {A : Type 0} → List (EventAndReply A)
earlier_taken = said (Give 0 1 (range 5 9) None) (Given 0 first_ticket) ∷ said (Take 1 0 None) Taken ∷ []

-- what is said after the ticket was refused
abbrev later_moved : {A : Type 0} → List (EventAndReply A)
later_moved =
    said (print 1 None) (Printed 5 0 2) ∷
    said (Give 0 1 (range 0 1) (AfterLabels 0)) Stopped ∷
    said (RestartPrinter 0) Restarted ∷
    said (Take 1 1 None) NoSuch ∷ []

none : ¬ ⊥
none x = x

pub are_none : (A : Type 0) → AreNone A
are_none A = record {
  not_used = λ told. (let same : ◌≡◌ {A = Reply A} (Printed 1 0 2) (Printed 0 0 2) =
      alike one_printer earlier_after (print 0 None) (Printed 1 0 2) (Printed 0 0 2) [] []
      none none (after_is A) told in
      absurd (cc (same)));
  used = λ told. (let same : ◌≡◌ {A = Reply A} (Printed 0 0 2) (Printed 1 0 2) =
      alike one_printer earlier_before (print 0 None) (Printed 0 0 2) (Printed 1 0 2) [] []
      none none (before_is A) told in
      absurd (cc (same)));
  taken = λ told. (let same : ◌≡◌ {A = Reply A} (TakeRefused take_fault.Old) Taken =
      alike two_printers earlier_taken (Take 1 0 None) (TakeRefused take_fault.Old) Taken later_moved []
      none none (moved_is A) told in
      absurd (cc (same)));
}
