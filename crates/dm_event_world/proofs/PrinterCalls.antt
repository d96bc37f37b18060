-- A call of a printer, as a world makes it, is one of the relay that it shows.
use Rattle.std.proofs.Common.{arith, ◌≡◌, ◌⊎◌, inl, inr, ℕ, true, false, List, Option, Some, Result, Ok, Err, refl, sym, ap, subst, ◌∙◌}
use Rattle.std.specs.Prelude.{IsOk, IsTrue}
use Rattle.dm_store.specs.Saved.{Done, Faulted, PlanAllows, HeldAfterFault, Replaces, save_plan_of}
use Rattle.dm_store.specs.declared.fuse.Kept.{Kept, TheVariants.Old, TheVariants.New}
use Rattle.dm_store.specs.declared.store.StoreFault.TheVariants as replacing
use Rattle.dm_store.specs.declared.mem_store.NextSave.{NextSave}
use Rattle.dm_store.specs.declared.mem_store.NextSave.TheVariants as next_save
use Rattle.dm_print_ledger.specs.Verdicts.{CarriesOut, SavesLedger, HoldsLedger, open_verdict}
use Rattle.dm_print_ledger.specs.Ledger.{is_sound, ledger_bytes, LedgerView, PrinterView}
use Rattle.dm_print_ledger.proofs.ReadLaws.{held_by}
use Rattle.dm_event_history.specs.declared.{reply.Reply.Reply, stop.Stop.Stop}
use Rattle.dm_event_history.specs.declared.stop.Stop.TheVariants as stops
use Rattle.dm_event_history.specs.declared.stop.Stop.TheVariants.{BeforeSave, InSave, SaveFault, AfterLabels}
use Rattle.dm_event_history.specs.Relay.{Actor, Running, Failed, Down, stored_of, Goods}
use Rattle.dm_event_history.specs.Steps.{Answers, Calls, Course, Faults, LacksMemory, Saves, ends, IsCourse}
use Rattle.dm_event_world.specs.{declared.actor.PrinterActor.PrinterActor, Shows.ShowsPrinter, Shows.StoresLedger, Shows.IsReady, inner.Calls.planned}
use Rattle.dm_event_world.specs.declared.actor.PrinterActor.TheVariants as actors
use Rattle.dm_event_world.specs.inner.Calls.{next_save_of, stops_before, EndsSo, state_after, ended_reply, lacks_memory, down_printer, planned}
use Rattle.dm_event_world.proofs.Endings.{Ends, IsEmpty, TellsMemory, answers_end, lacks_end, failed_empty, finish, plain, reaches, unsaved_empty}
use Rattle.dm_store.specs.{Saved.Replaces, declared.store.StoreFault.StoreFault, declared.mem_store.NextSave.NextSave}

-- Plans of stores and sets that are set for one call, and fine again.

-- a store is ready after a save, however it ended
ready_after : (view mid : PrinterView) (plan : NextSave) (bytes : List ℕ)
    (answer : Result (Unit {0}) StoreFault) → IsReady view.saved.is_honest view.saved.load_plan view.saved.save_plan →
    Replaces (planned view plan).saved bytes answer mid.saved →
    (let saved = (planned mid next_save.Fine).saved in IsReady saved.is_honest saved.load_plan saved.save_plan)
ready_after view mid plan bytes answer ready replaced = grind arith

pub down_shows : {A : Type 0} (actor : PrinterActor A) (shown : Actor LedgerView) → ShowsPrinter actor shown →
    ShowsPrinter (down_printer actor) (Down (stored_of shown))
down_shows actor shown s = grind arith

-- what is shown of a printer whose call saved nothing
same_again : (A : Type 0) (view mid : PrinterView) (plan : NextSave) (shown : Actor LedgerView) →
    ShowsPrinter {A = A} (actors.Running view) shown → StoresLedger view.saved (stored_of shown) →
    mid ≡ planned view plan → ShowsPrinter {A = A} (actors.Running (planned mid next_save.Fine)) shown
same_again A view mid plan shown s store same = grind arith

-- What leaves by a call that saves, and its reply; `Gives` says how the goods come of the answer.
pub record Lets {A X F : Type 0} (Leaves : Goods → Reply A → Type 0) (Gives : X → Goods → Type 0) (tell : X → Reply A)
    (answer : Result X F) : Type 0 where
  pub goods : Goods
  pub reply : Reply A
  pub leaves : Leaves goods reply
  pub tells : lacks_memory reply ≡ false
  pub given : (x : X) → answer ≡ Ok x → (tell x ≡ reply) × Gives x goods

module _ {A X F may_lack : Type 0} (failed memory save : F) (refuses : F → Reply A) (tell : X → Reply A)
    (verdict : Result LedgerView F) (Leaves : Goods → Reply A → Type 0) (Gives : X → Goods → Type 0)
    (memory_told : lacks_memory (refuses memory) ≡ true) (failed_told : lacks_memory (refuses failed) ≡ false)
    (others_told : (fault : F) → verdict ≡ Err fault → lacks_memory (refuses fault) ≡ false)
    (stop : Stop) (made : stops_before stop ≡ false) (view mid : PrinterView) (answer : Result X F)
    (carries : CarriesOut failed memory save may_lack verdict (planned view (next_save_of stop)) answer mid)
    (lets : ((x : X) × (answer ≡ Ok x)) ⊎ (answer ≡ Err save) → Lets Leaves Gives tell answer) where
  abbrev faults : Faults A
  faults = record { failed = refuses failed; save = refuses save; memory = refuses memory }

  abbrev told : Result X F → Reply A
  told (Ok x) = tell x
  told (Err fault) = refuses fault

  -- what leaves, by the answer
  abbrev LeavesBy : Course A LedgerView → Actor LedgerView → Result X F → Type 0
  LeavesBy course old (Ok x) = (next : LedgerView) × (goods : Goods) × (reply : Reply A)
      × (course ≡ Saves next goods reply) × Gives x goods × (plain stop ≡ stops.None)
  LeavesBy course old (Err fault) = IsEmpty (ends faults stop course old).goods

  -- a running printer that has not failed, before and after a call
  record Carried (given : Result X F) : Type 0 where
    pub course : Course A LedgerView
    pub comes : IsCourse refuses verdict Leaves course
    pub tells : TellsMemory faults course
    pub ends_so : Ends (ShowsPrinter {A = A}) faults (plain stop) course (Running view.ledger) (told given)
        (actors.Running (planned mid next_save.Fine))
    pub leaves : LeavesBy course (Running view.ledger) given

  carried : StoresLedger view.saved view.ledger → view.is_failed ≡ false → Carried answer
  carried store fine = by_verdict verdict refl
    where
      again : mid ≡ planned view (next_save_of stop) →
          ShowsPrinter {A = A} (actors.Running (planned mid next_save.Fine)) (Running view.ledger)
      again same = same_again A view mid (next_save_of stop) (Running view.ledger) (store, fine, refl) store same

      saved : (next : LedgerView) → verdict ≡ Ok next → (x : X) → answer ≡ Ok x →
          IsTrue (is_sound next) → SavesLedger {X = X} {F = F} may_lack memory save next (planned view (next_save_of stop)) (Ok x) mid →
          (l : Lets Leaves Gives tell answer) → Carried (Ok x)
      saved next is x at sound does l = by_stop stop refl
        where
          shows : ShowsPrinter {A = A} (actors.Running (planned mid next_save.Fine)) (Running next)
          shows = (
            record {
              ready = ready_after view mid (next_save_of stop) (ledger_bytes next) (Ok tt) store.ready does.0;
              holds = λ honest. held_by next mid.saved.content (ledger_bytes next) sound refl
                  (does.0.done refl store.ready.honest);
            },
            ap (λ (v : PrinterView). v.is_failed) does.1 ∙ fine,
            ap (λ (v : PrinterView). v.ledger) does.1,
          )

          with_plain : plain stop ≡ stops.None → Carried (Ok x)
          with_plain p = record {
            course = Saves next l.goods l.reply;
            comes = (is, l.leaves);
            tells = l.tells;
            ends_so = subst (λ (s : Stop). Ends (ShowsPrinter {A = A}) faults s (Saves next l.goods l.reply)
                (Running view.ledger) (tell x) (actors.Running (planned mid next_save.Fine))) (sym p)
                (record { reply_is = (l.given x at).0; shows = shows });
            leaves = (next, l.goods, l.reply, refl, (l.given x at).1, p);
          }

          fault_old : stop ≡ SaveFault Old → ⊥
          fault_old is_stop = (subst (λ (s : Stop). PlanAllows (save_plan_of (next_save_of s)) Done mid.saved.save_plan)
              is_stop does.0.follows)

          fault_new : stop ≡ SaveFault New → ⊥
          fault_new is_stop = (subst (λ (s : Stop). PlanAllows (save_plan_of (next_save_of s)) Done mid.saved.save_plan)
              is_stop does.0.follows)

          by_stop : (s : Stop) → stop ≡ s → Carried (Ok x)
          by_stop stops.None at_stop = with_plain (ap plain at_stop)
          by_stop BeforeSave at_stop = with_plain (ap plain at_stop)
          by_stop (InSave kept) at_stop = with_plain (ap plain at_stop)
          by_stop (AfterLabels most) at_stop = with_plain (ap plain at_stop)
          by_stop (SaveFault Old) at_stop = absurd (fault_old at_stop)
          by_stop (SaveFault New) at_stop = absurd (fault_new at_stop)

      lost : (next : LedgerView) → verdict ≡ Ok next → IsTrue (is_sound next) →
          Replaces (planned view (next_save_of stop)).saved (ledger_bytes next) (Err replacing.Device) mid.saved →
          mid ≡ record (planned view (next_save_of stop)) { saved = mid.saved; is_failed = true } →
          Lets Leaves Gives tell answer → Carried (Err save)
      lost next is sound replaced mid_is l = by_stop stop refl
        where
          as_stored : (stored : LedgerView) → HoldsLedger (planned mid next_save.Fine).saved stored →
              ShowsPrinter {A = A} (actors.Running (planned mid next_save.Fine)) (Failed view.ledger stored)
          as_stored stored holds = (
            record {
              ready = ready_after view mid (next_save_of stop) (ledger_bytes next) (Err replacing.Device) store.ready
                  replaced;
              holds = holds;
            },
            ap (λ (v : PrinterView). v.is_failed) mid_is,
            ap (λ (v : PrinterView). v.ledger) mid_is,
          )

          with_kept : (kept : Kept) → stop ≡ SaveFault kept →
              Ends (ShowsPrinter {A = A}) faults (SaveFault kept) (Saves next l.goods l.reply) (Running view.ledger)
              (refuses save) (actors.Running (planned mid next_save.Fine)) → Carried (Err save)
          with_kept kept at_stop e = record {
            course = Saves next l.goods l.reply;
            comes = (is, l.leaves);
            tells = l.tells;
            ends_so = subst (λ (s : Stop). Ends (ShowsPrinter {A = A}) faults (plain s) (Saves next l.goods l.reply)
                (Running view.ledger) (refuses save) (actors.Running (planned mid next_save.Fine))) (sym at_stop) e;
            leaves = subst (λ (s : Stop). IsEmpty (ends faults s (Saves next l.goods l.reply) (Running view.ledger)).goods)
                (sym at_stop) (failed_empty faults kept next l.goods l.reply (Running view.ledger));
          }

          faulted : (s : Stop) → stop ≡ s →
              HeldAfterFault (save_plan_of (next_save_of s)) view.saved.content (Some (ledger_bytes next)) mid.saved.content
          faulted s at_stop = subst (λ (s : Stop). HeldAfterFault (save_plan_of (next_save_of s)) view.saved.content
              (Some (ledger_bytes next)) mid.saved.content) at_stop (replaced.faulted refl store.ready.honest)

          never : (s : Stop) → stop ≡ s → PlanAllows (save_plan_of (next_save_of s)) Faulted mid.saved.save_plan
          never s at_stop = subst (λ (s : Stop). PlanAllows (save_plan_of (next_save_of s)) Faulted mid.saved.save_plan)
              at_stop replaced.follows

          by_stop : (s : Stop) → stop ≡ s → Carried (Err save)
          by_stop stops.None at_stop = absurd (never stops.None at_stop)
          by_stop BeforeSave at_stop = absurd (never BeforeSave at_stop)
          by_stop (InSave kept) at_stop = absurd (never (InSave kept) at_stop)
          by_stop (AfterLabels most) at_stop = absurd (never (AfterLabels most) at_stop)
          by_stop (SaveFault Old) at_stop =
              let content : mid.saved.content ≡ view.saved.content = faulted (SaveFault Old) at_stop in
              with_kept Old at_stop (record {
                reply_is = refl;
                shows = as_stored view.ledger (λ honest.
                    ap (λ (c : Option (List ℕ)). open_verdict c view.ledger.number) content
                    ∙ store.holds store.ready.honest);
              })
          by_stop (SaveFault New) at_stop =
              let content : mid.saved.content ≡ Some (ledger_bytes next) = faulted (SaveFault New) at_stop in
              with_kept New at_stop (record {
                reply_is = refl;
                shows = as_stored next (λ honest. held_by next mid.saved.content (ledger_bytes next) sound refl content);
              })

      by_verdict : (v : Result LedgerView F) → verdict ≡ v → Carried answer
      by_verdict (Err fault) is =
          let r = carries.refused fine fault is in
          subst Carried (sym r.0) (record {
            course = Answers (refuses fault);
            comes = (fault, is, refl);
            tells = others_told fault is;
            ends_so = answers_end (ShowsPrinter {A = A}) faults stop (Running view.ledger) (refuses fault)
                (actors.Running (planned mid next_save.Fine)) (again r.1);
            leaves = unsaved_empty faults stop (Answers (refuses fault)) (Running view.ledger) tt;
          })
      by_verdict (Ok next) is =
          let does = carries.saves fine next is in by_answer answer refl does.0 does.1
        where
          by_answer : (a : Result X F) → answer ≡ a → IsTrue (is_sound next) →
              SavesLedger may_lack memory save next (planned view (next_save_of stop)) a mid → Carried answer
          by_answer (Ok x) at sound does =
              subst Carried (sym at) (saved next is x at sound does (lets (inl (x, at))))
          by_answer (Err fault) at sound (inl lack) =
              subst Carried (sym (at ∙ ap (λ (f : F). Err f) lack.0)) (record {
                course = LacksMemory;
                comes = subst IsOk (sym is) refl;
                tells = memory_told;
                ends_so = lacks_end (ShowsPrinter {A = A}) faults stop (Running view.ledger)
                    (actors.Running (planned mid next_save.Fine)) (again lack.2);
                leaves = unsaved_empty faults stop LacksMemory (Running view.ledger) tt;
              })
          by_answer (Err fault) at sound (inr fails) =
              let err : answer ≡ Err save = at ∙ ap (λ (f : F). Err f) fails.0 in
              subst Carried (sym err) (lost next is sound fails.1 fails.2 (lets (inr err)))

  -- The call ends as one of the relay, where what it comes to is said of the ledger that is shown.
  module _ (CallComes : LedgerView → Course A LedgerView → Type 0) (Q : Goods → Type 0)
      (comes_so : view.is_failed ≡ false → (course : Course A LedgerView) → IsCourse refuses verdict Leaves course →
      CallComes view.ledger course)
      (nothing_so : (fault : F) (goods : Goods) → answer ≡ Err fault → IsEmpty goods → Q goods)
      (goods_so : (x : X) (next : LedgerView) (goods : Goods) (reply : Reply A) → answer ≡ Ok x → Gives x goods →
      plain stop ≡ stops.None → Q (ends faults stop (Saves next goods reply) (Running view.ledger)).goods) where
    abbrev After : PrinterActor A
    After = state_after down_printer stop (told answer) (actors.Running (planned mid next_save.Fine))

    running_ends : StoresLedger view.saved view.ledger → view.is_failed ≡ false →
        EndsSo ShowsPrinter (Calls faults stop CallComes) Q (Running view.ledger) (ended_reply stop (told answer)) After
    running_ends store fine =
        let c = carried store fine in
        let e = finish ShowsPrinter down_printer down_shows faults stop c.course (Running view.ledger) (told answer)
        (actors.Running (planned mid next_save.Fine)) made c.tells c.ends_so in
        record {
          end = ends faults stop c.course (Running view.ledger);
          acts = (c.course, reaches stop _ made (comes_so fine c.course c.comes), refl);
          reply_is = e.reply_is;
          shows = e.shows;
          lets = by_answer answer refl c.course c.leaves;
        }
      where
        by_answer : (a : Result X F) → answer ≡ a → (course : Course A LedgerView) →
            LeavesBy course (Running view.ledger) a → Q (ends faults stop course (Running view.ledger)).goods
        by_answer (Ok x) at course l = subst
            (λ (k : Course A LedgerView). Q (ends faults stop k (Running view.ledger)).goods) (sym l.3)
            (goods_so x l.0 l.1 l.2 at l.4 l.5)
        by_answer (Err fault) at course l = nothing_so fault _ at l

    failed_ends : (stored : LedgerView) → StoresLedger view.saved stored → view.is_failed ≡ true →
        EndsSo ShowsPrinter (Calls faults stop CallComes) Q (Failed view.ledger stored) (ended_reply stop (told answer))
        After
    failed_ends stored store is_failed =
        let f = carries.failed is_failed in
        let reply : told answer ≡ refuses failed = ap told f.0 in
        let e = finish ShowsPrinter down_printer down_shows faults stop (Answers (refuses failed))
        (Failed view.ledger stored) (refuses failed) (actors.Running (planned mid next_save.Fine)) made failed_told
        (answers_end (ShowsPrinter {A = A}) faults stop (Failed view.ledger stored) (refuses failed)
        (actors.Running (planned mid next_save.Fine))
        (same_again A view mid (next_save_of stop) (Failed view.ledger stored) (store, is_failed, refl) store f.1)) in
        record {
          end = ends faults stop (Answers (refuses failed)) (Failed view.ledger stored);
          acts = refl;
          reply_is = ap (λ (r : Reply A). ended_reply stop r) reply ∙ e.reply_is;
          shows = subst (λ (r : Reply A). ShowsPrinter {A = A}
              (state_after down_printer stop r (actors.Running (planned mid next_save.Fine)))
              (ends faults stop (Answers (refuses failed)) (Failed view.ledger stored)).actor) (sym reply) e.shows;
          lets = nothing_so failed _ f.0
              (unsaved_empty faults stop (Answers (refuses failed)) (Failed view.ledger stored) tt);
        }

    -- whatever the printer shows
    pub call_ends : (shown : Actor LedgerView) → ShowsPrinter {A = A} (actors.Running view) shown →
        EndsSo ShowsPrinter (Calls faults stop CallComes) Q shown (ended_reply stop (told answer)) After
    call_ends (Running held) s =
        subst (λ (l : LedgerView). EndsSo ShowsPrinter (Calls faults stop CallComes) Q (Running l)
        (ended_reply stop (told answer)) After) s.2
        (running_ends (subst (λ (l : LedgerView). StoresLedger view.saved l) (sym s.2) s.0) s.1)
    call_ends (Failed held stored) s =
        subst (λ (l : LedgerView). EndsSo ShowsPrinter (Calls faults stop CallComes) Q (Failed l stored)
        (ended_reply stop (told answer)) After) s.2 (failed_ends stored s.0 s.1)
    call_ends (Down stored) s = absurd s
