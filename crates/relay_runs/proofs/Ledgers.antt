-- How a ledger is made, and what commands of a printer do where there is none.
use Rattle.std.proofs.Common.{◌≡◌, ◌⊎◌, inl, inr, true, false, ℕ, Bool, List, None, Some, Result, Ok, Err, refl, sym, subst, ◌∙◌, arith}
use Rattle.std.specs.Prelude.{IsTrue, MatchBool}
use Rattle.dm_store.specs.Saved.{Saved}
use Rattle.dm_encodation.specs.declared.scheme.Scheme.{Scheme}
use Rattle.dm_print_ledger.specs.declared.{fault.CreateFault.CreateFault, range.Range.Range}
use Rattle.dm_print_ledger.specs.declared.fault.CreateFault.TheVariants as create_fault
use Rattle.dm_print_ledger.specs.Verdicts.{Creates, SavesFirst, opening, PrinterOpens, open_verdict}
use Rattle.dm_print_ledger.specs.Ledger.{LedgerView, PrinterView, is_range, ledger_bytes}
use Rattle.dm_event_history.specs.Relay.{Actor}
use Rattle.relay_command.specs.declared.command.Labels.{Labels}
use Rattle.relay_printer_commands.specs.Printers.{EndsPrint, EndsGive, EndsGiveLast, EndsLeft, EndsLedger, EndsTake, OnLedger, EndsGiveLast.gave, EndsGiveLast.too_few, EndsGiveLast.unopened}
use Rattle.relay_printer_commands.specs.Printers.EndsPrint.{no_side, not_read, too_long, read as was_read}
use Rattle.relay_printer_commands.specs.Printers.PrintsDocument.{opened as print_opened, not_opened as print_not_opened}
use Rattle.relay_printer_commands.specs.Printers.EndsGive.{opened as give_opened, not_opened as give_not_opened}
use Rattle.relay_printer_commands.specs.Printers.EndsTake.{no_ticket, opened as take_opened, not_opened as take_not_opened}
use Rattle.relay_printer_commands.specs.Printers.EndsLedger.{created, refused as not_created}
use Rattle.relay_printer_commands.specs.Printers.EndsLeft.{shown as was_shown, refused as not_shown}
use Rattle.relay_runs.specs.Runs.{job_ended, ticket_given, ticket_given_last, KeepsLedger}
use Rattle.relay_runs.proofs.{Files.ok_of, Plans.old_or_new}

-- ---- `ledger` makes none where one is held

-- a first ledger is saved where the range is one
pub first_saved : (number : ℕ) (range : Range) (old new : Saved) (answer : Result PrinterView CreateFault) →
    Creates old number range answer new → (IsTrue (is_range range) × SavesFirst old (opening number range) answer new)
    ⊎ ((answer ≡ Err create_fault.Range) × (new ≡ old))
first_saved number range old new answer creates = by_range (is_range range) refl creates.saves
  where
    by_range : (b : Bool) → is_range range ≡ b → MatchBool b (SavesFirst old (opening number range) answer new)
        ((answer ≡ Err create_fault.Range) × (new ≡ old)) →
        (IsTrue (is_range range) × SavesFirst old (opening number range) answer new)
        ⊎ ((answer ≡ Err create_fault.Range) × (new ≡ old))
    by_range true is saves = inl (is, saves)
    by_range false is no_range = inr no_range

held_none : (saved : Saved) (actor : Actor LedgerView) → KeepsLedger saved actor →
    (IsTrue saved.is_honest → saved.content ≡ None) → ⊥
held_none saved actor keeps none = cc (none keeps.honest, keeps.content)

first_same : (old new : Saved) (actor : Actor LedgerView) (ledger : LedgerView) (fault : CreateFault) →
    KeepsLedger old actor → SavesFirst {X = PrinterView} old ledger (Err fault) new → new ≡ old
first_same old new actor ledger fault keeps saves = grind (arith, keeps.honest, keeps.content)

pub made_same : (number : ℕ) (range : Range) (old new : OnLedger) (status : ℕ) (actor : Actor LedgerView) →
    KeepsLedger old.saved actor → EndsLedger number range old status new → new.saved ≡ old.saved
made_same number range old new status actor keeps (created printer creates told) =
    elim (first_saved number range old.saved new.saved (Ok printer) creates) [
      | inl saves ↦ absurd (held_none old.saved actor keeps saves.1.0)
      | inr none ↦ none.1
    ]
made_same number range old new status actor keeps (not_created fault creates told) =
    elim (first_saved number range old.saved new.saved (Err fault) creates) [
      | inl saves ↦ first_same old.saved new.saved actor (opening number range) fault keeps saves.1
      | inr none ↦ none.1
    ]

-- ---- where none is held it makes one, or none

-- the store is honest, and holds nothing, or a first ledger
pub record IsMade (number : ℕ) (range : Range) (saved : Saved) : Type 0 where
  pub honest : IsTrue saved.is_honest
  pub content : (saved.content ≡ None)
      ⊎ (IsTrue (is_range range) × (saved.content ≡ Some (ledger_bytes (opening number range))))

module _ (number : ℕ) (range : Range) (old new : Saved) (honest : IsTrue old.is_honest) (none : old.content ≡ None) where
  none_made : new ≡ old → IsMade number range new
  none_made same = subst (IsMade number range) (sym same) (record { honest = honest; content = inl none })

  first_made : IsTrue (is_range range) → (answer : Result PrinterView CreateFault) →
      SavesFirst old (opening number range) answer new → IsMade number range new
  first_made ranged (Ok printer) saves =
      record { honest = saves.1.same_honesty ∙ honest; content = inr (ranged, saves.1.done refl honest) }
  first_made ranged (Err create_fault.Exists) saves = none_made saves.1
  first_made ranged (Err create_fault.Device) (inl opens) = none_made opens.1
  first_made ranged (Err create_fault.Device) (inr fails) = record {
    honest = fails.1.same_honesty ∙ honest;
    content = elim (old_or_new old.save_plan old.content (Some (ledger_bytes (opening number range))) new.content
        (fails.1.faulted refl honest)) [
          | inl is_old ↦ inl (is_old ∙ none)
          | inr is_new ↦ inr (ranged, is_new)
        ];
  }
  first_made ranged (Err create_fault.Memory) saves = none_made saves.0
  first_made ranged (Err create_fault.Range) saves = absurd saves

  by_answer : (answer : Result PrinterView CreateFault) → Creates old number range answer new → IsMade number range new
  by_answer answer creates = elim (first_saved number range old new answer creates) [
    | inl saves ↦ first_made saves.0 answer saves.1
    | inr no_range ↦ none_made no_range.1
  ]

pub is_made : (number : ℕ) (range : Range) (old new : OnLedger) (status : ℕ) → IsTrue old.saved.is_honest →
    old.saved.content ≡ None → EndsLedger number range old status new → IsMade number range new.saved
is_made number range old new status honest none (created printer creates told) =
    by_answer number range old.saved new.saved honest none (Ok printer) creates
is_made number range old new status honest none (not_created fault creates told) =
    by_answer number range old.saved new.saved honest none (Err fault) creates

-- ---- `left` changes nothing

pub shown_same : (old new : OnLedger) (status : ℕ) → EndsLeft old status new → new.saved ≡ old.saved
shown_same old new status (was_shown shown loads same told) = same
shown_same old new status (not_shown fault loads same told) = same

-- ---- where there is no ledger nothing is done

absent : (saved : Saved) (number : ℕ) (before : PrinterView) → IsTrue saved.is_honest → saved.content ≡ None →
    PrinterOpens saved number (Ok before) → ⊥
absent saved number before honest none opens =
    cc (ok_of before.ledger (open_verdict saved.content number) (opens.0.answer honest), none)

module _ (number : ℕ) (old new : OnLedger) (status : ℕ) (honest : IsTrue old.saved.is_honest)
    (none : old.saved.content ≡ None) where
  pub print_idle : (labels : Labels) (scheme : Scheme) (ends : EndsPrint number labels scheme old status new) →
      (new.saved ≡ old.saved) × (job_ended ends ≡ None)
  print_idle labels scheme (no_side side same told) = (same, refl)
  print_idle labels scheme (not_read fault rest side failed same told) = (same, refl)
  print_idle labels scheme (too_long document rest side is_read long same told) = (same, refl)
  print_idle labels scheme (was_read size document rest is_read chosen (print_not_opened fault opens same told)) =
      (same, refl)
  print_idle labels scheme
      (was_read size document rest is_read chosen (print_opened before after answer opens prints same told)) =
      absurd (absent old.saved number before honest none opens)

  pub give_idle : (to : ℕ) (range : Range) (ends : EndsGive number to range old status new) →
      (new.saved ≡ old.saved) × (ticket_given ends ≡ None)
  give_idle to range (give_not_opened fault opens same told) = (same, refl)
  give_idle to range (give_opened before after answer opens gives same told only) =
      absurd (absent old.saved number before honest none opens)

  pub give_last_idle : (to count : ℕ) (ends : EndsGiveLast number to count old status new) →
      (new.saved ≡ old.saved) × (ticket_given_last ends ≡ None)
  give_last_idle to count (unopened fault opens same told) = (same, refl)
  give_last_idle to count (too_few before most put opens longest less same told notes reads) = (same, refl)
  give_last_idle to count (gave range before after answer last opens gives same told only) =
      absurd (absent old.saved number before honest none opens)

  pub take_idle : (text : List ℕ) → EndsTake number text old status new → new.saved ≡ old.saved
  take_idle text (no_ticket has same told) = same
  take_idle text (take_not_opened fault has opens same told) = same
  take_idle text (take_opened ticket before after answer has is opens takes same told only) =
      absurd (absent old.saved number before honest none opens)
