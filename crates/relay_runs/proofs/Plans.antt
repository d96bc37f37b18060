-- A call under any plan is one under the plan of a stop.
use Rattle.std.proofs.Common.{◌≡◌, ◌⊎◌, inl, inr, true, false, ℕ, List, Some, Result, Ok, Err, refl, sym, ap, subst, ◌∙◌, arith}
use Rattle.std.specs.Prelude.{IsTrue}
use Rattle.dm_store.specs.declared.{fuse.Kept.TheVariants.Old, fuse.Kept.TheVariants.New, mem_store.NextSave.NextSave}
use Rattle.dm_store.specs.declared.store.StoreFault.TheVariants as replacing
use Rattle.dm_store.specs.declared.mem_store.NextSave.TheVariants as next_save
use Rattle.dm_store.specs.Saved.{Saved, SavePlan, LoadsFine, SavesFine, HeldAfterFault, Replaces, save_plan_of}
use Rattle.dm_print_ledger.specs.Ledger.{LedgerView, PrinterView, is_sound, ledger_bytes}
use Rattle.dm_print_ledger.specs.Verdicts.{CarriesOut, PrinterIsInOrder}
use Rattle.dm_print_ledger.specs.Verdicts as verdicts
use Rattle.dm_event_history.specs.declared.stop.Stop.{Stop}
use Rattle.dm_event_history.specs.declared.stop.Stop.TheVariants as stops
use Rattle.dm_event_history.specs.declared.stop.Stop.TheVariants.{BeforeSave, InSave, SaveFault, AfterLabels}
use Rattle.dm_event_world.specs.inner.Calls.{next_save_of, planned, stops_before}

-- what a command may meet: its save is done, or not asked for, or meets a device fault
abbrev pub IsMet : Stop → Type 0
IsMet stops.None = Unit {0}
IsMet (SaveFault kept) = Unit {0}
IsMet BeforeSave = ⊥
IsMet (InSave kept) = ⊥
IsMet (AfterLabels most) = ⊥

-- the store as it is, with nothing that is to fail
abbrev pub fine : Saved → Saved
fine saved = record saved { load_plan = LoadsFine; save_plan = SavesFine }

-- and with this plan for its next save
abbrev pub under : Saved → NextSave → Saved
under saved next = record (fine saved) { save_plan = save_plan_of next }

-- what is held after a device fault is what was held, or what was to be
pub old_or_new : {X : Type 0} (plan : SavePlan) (old new held : X) → HeldAfterFault plan old new held →
    (held ≡ old) ⊎ (held ≡ new)
old_or_new plan old new held after = grind arith

-- a save that was done is one under a fine plan
pub saves_fine : (old new : Saved) (bytes : List ℕ) → Replaces old bytes (Ok tt) new →
    Replaces (under old next_save.Fine) bytes (Ok tt) (fine new)
saves_fine old new bytes saves = grind arith

-- a save of an honest store that met a fault is one under the plan of this fault
pub saves_old : (old new : Saved) (bytes : List ℕ) → Replaces old bytes (Err replacing.Device) new →
    new.content ≡ old.content →
    Replaces (under old next_save.FaultOld) bytes (Err replacing.Device) (fine new)
saves_old old new bytes saves is_old = grind arith

pub saves_new : (old new : Saved) (bytes : List ℕ) → Replaces old bytes (Err replacing.Device) new →
    new.content ≡ Some bytes →
    Replaces (under old next_save.FaultNew) bytes (Err replacing.Device) (fine new)
saves_new old new bytes saves is_new = grind arith

-- the printer over its store with nothing that is to fail
abbrev pub fine_printer : PrinterView → PrinterView
fine_printer view = record view { saved = fine view.saved }

-- A call of a printer that runs, made under the plan of a stop that a command can meet: it is none where it is answered.
pub record IsUnder {X F : Type 0} (failed memory save : F) (may_lack : Type 0) (verdict : Result LedgerView F)
    (old : PrinterView) (answer : Result X F) (new : PrinterView) : Type 0 where
  pub stop : Stop
  pub met : IsMet stop
  pub made : stops_before stop ≡ false
  pub carries : CarriesOut failed memory save may_lack verdict (planned (fine_printer old) (next_save_of stop)) answer
      (fine_printer new)
  pub answered : (x : X) → answer ≡ Ok x → stop ≡ stops.None

module _ {X F may_lack : Type 0} (failed memory save : F) (verdict : Result LedgerView F) (old new : PrinterView)
    (answer : Result X F) (runs : old.is_failed ≡ false) (honest : IsTrue old.saved.is_honest)
    (carries : CarriesOut failed memory save may_lack verdict old answer new) where
  in_order : (next : NextSave) → PrinterIsInOrder (planned (fine_printer old) next)
  in_order next = record { sound = carries.in_order.sound; held = carries.in_order.held }

  never_failed : (next : NextSave) → (planned (fine_printer old) next).is_failed ≡ true →
      (answer ≡ Err failed) × (fine_printer new ≡ planned (fine_printer old) next)
  never_failed next is = absurd (cc (is, runs))

  abbrev Is : Type 0
  Is = IsUnder failed memory save may_lack verdict old answer new

  -- nothing was saved, and the verdict is a refusal
  refused_under : (fault : F) → verdict ≡ Err fault → Is
  refused_under fault is = record {
    stop = stops.None;
    met = tt;
    made = refl;
    carries = record {
      in_order = in_order next_save.Fine;
      failed = never_failed next_save.Fine;
      refused = λ fine other at. let r = carries.refused runs other at in (r.0, ap fine_printer r.1);
      saves = λ fine next at. cc (at, is);
    };
    answered = λ x at. refl;
  }

  abbrev SavesSo : LedgerView → NextSave → Result X F → Type 0
  SavesSo next plan a = verdicts.SavesLedger may_lack memory save next (planned (fine_printer old) plan) a
      (fine_printer new)

  -- it is saved so under this stop
  saved_under : (stop : Stop) (next : LedgerView) → IsMet stop → stops_before stop ≡ false → verdict ≡ Ok next →
      IsTrue (is_sound next) → SavesSo next (next_save_of stop) answer →
      ((x : X) → answer ≡ Ok x → stop ≡ stops.None) → Is
  saved_under stop next met made is sound does answered = record {
    stop = stop;
    met = met;
    made = made;
    carries = record {
      in_order = in_order (next_save_of stop);
      failed = never_failed (next_save_of stop);
      refused = λ fine fault at. cc (at, is);
      saves = λ fine other at.
          let same : next ≡ other = cc (at, is) in
          subst (λ (l : LedgerView). IsTrue (is_sound l) × SavesSo l (next_save_of stop) answer) same (sound, does);
    };
    answered = answered;
  }

  -- the save met a fault
  fault_under : (next : LedgerView) → verdict ≡ Ok next → IsTrue (is_sound next) → answer ≡ Err save →
      Replaces old.saved (ledger_bytes next) (Err replacing.Device) new.saved →
      new ≡ record old { saved = new.saved; is_failed = true } → Is
  fault_under next is sound at replaced new_is =
      elim (old_or_new old.saved.save_plan old.saved.content (Some (ledger_bytes next)) new.saved.content
      (replaced.faulted refl honest)) [
        | inl is_old ↦ saved_under (SaveFault Old) next tt refl is sound
            (subst (SavesSo next next_save.FaultOld) (sym at)
            (inr (refl, saves_old old.saved new.saved (ledger_bytes next) replaced is_old, ap fine_printer new_is)))
            (λ x ok. cc (ok, at))
        | inr is_new ↦ saved_under (SaveFault New) next tt refl is sound
            (subst (SavesSo next next_save.FaultNew) (sym at)
            (inr (refl, saves_new old.saved new.saved (ledger_bytes next) replaced is_new, ap fine_printer new_is)))
            (λ x ok. cc (ok, at))
      ]

  by_answer : (next : LedgerView) → verdict ≡ Ok next → IsTrue (is_sound next) → (a : Result X F) → answer ≡ a →
      verdicts.SavesLedger may_lack memory save next old a new → Is
  by_answer next is sound (Ok x) at does = saved_under stops.None next tt refl is sound
      (subst (SavesSo next next_save.Fine) (sym at)
      (saves_fine old.saved new.saved (ledger_bytes next) does.0, ap fine_printer does.1))
      (λ y ok. refl)
  by_answer next is sound (Err fault) at (inl lack) = saved_under stops.None next tt refl is sound
      (subst (SavesSo next next_save.Fine) (sym at) (inl (lack.0, lack.1, ap fine_printer lack.2))) (λ y ok. refl)
  by_answer next is sound (Err fault) at (inr fails) =
      fault_under next is sound (at ∙ ap (λ (f : F). Err f) fails.0) fails.1 fails.2

  pub under_stop : Is
  under_stop = by_verdict verdict refl
    where
      by_verdict : (v : Result LedgerView F) → verdict ≡ v → Is
      by_verdict (Err fault) is = refused_under fault is
      by_verdict (Ok next) is =
          let does = carries.saves runs next is in by_answer next is does.0 answer refl does.1
