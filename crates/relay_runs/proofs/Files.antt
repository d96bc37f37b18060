-- What a store that holds the file of a ledger opens as, and what it holds after a call.
use Rattle.std.proofs.Common.{◌≡◌, ◌⊎◌, inl, inr, true, false, ℕ, List, Option, Some, Result, Ok, Err, refl, sym, ap, ◌∙◌, arith}
use Rattle.std.specs.Prelude.{IsTrue}
use Rattle.std.proofs.lemmas.Bool.Decides.{nat_tests}
use Rattle.dm_store.specs.Saved.{Saved}
use Rattle.dm_print_ledger.specs.declared.fault.OpenFault.{OpenFault}
use Rattle.dm_print_ledger.specs.declared.fault.OpenFault.TheVariants.{Device, Memory}
use Rattle.dm_print_ledger.specs.Ledger.{LedgerView, PrinterView, is_sound, ledger_bytes, running, shown_of}
use Rattle.dm_print_ledger.specs.Verdicts.{CarriesOut, HoldsLedger, PrinterOpens, numbered, open_verdict}
use Rattle.dm_print_ledger.specs.Verdicts as verdicts
use Rattle.dm_print_ledger.proofs.ReadLaws.{held_by, ledger_read}
use Rattle.dm_event_history.specs.Relay.{Actor, stored_of}
use Rattle.relay_runs.specs.Runs.{KeepsLedger}
use Rattle.relay_runs.proofs.Plans.{old_or_new}

-- ---- opened

-- a ledger opens for its own number alone
pub opens_own : (l ledger : LedgerView) (number : ℕ) → numbered number (Ok (shown_of l)) ≡ Ok ledger →
    (number ≡ l.number) × (ledger ≡ l)
opens_own l ledger number is = grind (arith, nat_tests)

-- the file of a sound ledger opens as that
pub file_opens : (content : Option (List ℕ)) (l : LedgerView) (number : ℕ) → is_sound l ≡ true →
    content ≡ Some (ledger_bytes l) → open_verdict content number ≡ numbered number (Ok (shown_of l))
file_opens content l number sound is =
    ap (λ (c : Option (List ℕ)). open_verdict c number) is ∙ ap (numbered number) (ledger_read l sound)

pub holds : (saved : Saved) (actor : Actor LedgerView) → KeepsLedger saved actor → HoldsLedger saved (stored_of actor)
holds saved actor keeps honest =
    held_by (stored_of actor) saved.content (ledger_bytes (stored_of actor)) keeps.sound refl keeps.content

pub ok_of : (ledger : LedgerView) (verdict : Result LedgerView OpenFault) →
    (Ok ledger ≡ verdict) ⊎ ((Ok ledger ≡ Err Device) ⊎ (Ok ledger ≡ Err Memory)) → Ok ledger ≡ verdict
ok_of ledger verdict answered = grind arith

-- a printer was opened: the number is its own, and it goes on with what is stored
pub opened : (saved : Saved) (actor : Actor LedgerView) (number : ℕ) (before : PrinterView) → KeepsLedger saved actor →
    PrinterOpens saved number (Ok before) →
    (number ≡ (stored_of actor).number) × (before ≡ running saved (stored_of actor))
opened saved actor number before keeps opens =
    let own = opens_own (stored_of actor) before.ledger number
    (sym (ok_of before.ledger (open_verdict saved.content number) (opens.0.answer keeps.honest)
    ∙ file_opens saved.content (stored_of actor) number keeps.sound keeps.content)) in
    (own.0, opens.1 ∙ ap (running saved) own.1)

-- ---- after a call

-- the store holds the file of a sound ledger
pub record HoldsFile (saved : Saved) : Type 0 where
  pub ledger : LedgerView
  pub sound : is_sound ledger ≡ true
  pub content : saved.content ≡ Some (ledger_bytes ledger)

module _ {X F may_lack : Type 0} (failed memory save : F) (verdict : Result LedgerView F) (old new : PrinterView)
    (actor : Actor LedgerView) (answer : Result X F) (runs : old.is_failed ≡ false) (keeps : KeepsLedger old.saved actor)
    (carries : CarriesOut failed memory save may_lack verdict old answer new) where
  still : (saved : Saved) → saved.content ≡ old.saved.content → HoldsFile saved
  still saved same = record { ledger = stored_of actor; sound = keeps.sound; content = same ∙ keeps.content }

  saved_file : (next : LedgerView) → is_sound next ≡ true → (a : Result X F) →
      verdicts.SavesLedger may_lack memory save next old a new → HoldsFile new.saved
  saved_file next sound (Ok x) does =
      record { ledger = next; sound = sound; content = does.0.done refl keeps.honest }
  saved_file next sound (Err fault) (inl lack) = still new.saved (ap (λ (v : PrinterView). v.saved.content) lack.2)
  saved_file next sound (Err fault) (inr fails) =
      elim (old_or_new old.saved.save_plan old.saved.content (Some (ledger_bytes next)) new.saved.content
      (fails.1.faulted refl keeps.honest)) [
        | inl is_old ↦ still new.saved is_old
        | inr is_new ↦ record { ledger = next; sound = sound; content = is_new }
      ]

  pub holds_file : HoldsFile new.saved
  holds_file = by_verdict verdict refl
    where
      by_verdict : (v : Result LedgerView F) → verdict ≡ v → HoldsFile new.saved
      by_verdict (Err fault) is =
          still new.saved (ap (λ (v : PrinterView). v.saved.content) (carries.refused runs fault is).1)
      by_verdict (Ok next) is = let does = carries.saves runs next is in saved_file next does.0 answer does.1

-- a file from which a ledger is opened is that ledger's
pub file_of : (saved : Saved) (actor : Actor LedgerView) → IsTrue saved.is_honest → HoldsFile saved →
    HoldsLedger saved (stored_of actor) → KeepsLedger saved actor
file_of saved actor honest file is =
    let own = opens_own file.ledger (stored_of actor) (stored_of actor).number
    (sym (file_opens saved.content file.ledger (stored_of actor).number file.sound file.content) ∙ is honest) in
    record {
      honest = honest;
      sound = ap is_sound own.1 ∙ file.sound;
      content = file.content ∙ ap (λ (l : LedgerView). Some (ledger_bytes l)) (sym own.1);
    }
