-- A verdict carried out, step by step.
use Rattle.std.proofs.Common.{arith, ◌≡◌, ℕ, List, false, Some, Result, Ok, Err, inl, inr, length, refl, true}
use Rattle.std.specs.Prelude.{◌==◌, IfOk}
use Rattle.std.proofs.lemmas.Bool.{cond-true, eq-eqb}
use Rattle.dm_size.specs.declared.size.Size.{Size}
use Rattle.dm_encodation.specs.declared.scheme.Scheme.{Scheme}
use Rattle.dm_append_label.specs.Labels.{AreEnds, parts_from}
use Rattle.dm_print_ledger.specs.declared.fault.PrintFault.{PrintFault}
use Rattle.dm_print_ledger.specs.declared.fault.PrintFault.TheVariants as printing
use Rattle.dm_print_ledger.specs.Verdicts.{CarriesOut, PrinterIsInOrder, MayLack, SavesLedger, least, IsJobOf, IsMade, Prints, print_verdict}
use Rattle.dm_print_ledger.specs.Ledger.{is_sound, JobView, LedgerView, PrinterView}

-- a running printer refuses
pub refuses : {X F : Type 0} (failed memory save : F) (may_lack : Type 0) (verdict : Result LedgerView F)
    (old : PrinterView) (fault : F) → old.is_failed ≡ false → PrinterIsInOrder old → verdict ≡ Err fault →
    (let result : Result X F = Err fault in CarriesOut failed memory save may_lack verdict old result old)
refuses failed memory save may_lack verdict old fault running order e = grind arith

-- a document with parts, where no number is free
pub none_free : (old : LedgerView) → length old.free ≡ 0 →
    print_verdict old true ≡ Err printing.Exhausted
none_free old none = cond-true (length old.free == 0) _ _ (eq-eqb _ _ none)

-- the job was made, with the ends and the ID as the code has them
pub made_by : (ledger : LedgerView) (size : Size) (scheme : Scheme) (id : ℕ) (document given ends : List ℕ)
    (job : JobView) → given ≡ ends → id ≡ least ledger.free →
    IsJobOf size scheme id (parts_from document 0 given) job → IsMade ledger size scheme document (Some ends) job
made_by ledger size scheme id document given ends job e is made = grind arith

-- what may lack memory where the store may, may lack it
pub may_lack : {X F : Type 0} (memory save : F) (next : LedgerView) (old : PrinterView) (result : Result X F)
    (new : PrinterView) → SavesLedger (MayLack old) memory save next old result new
    → SavesLedger (Unit {0}) memory save next old result new
may_lack memory save next old (Ok x) new saves = saves
may_lack memory save next old (Err fault) new (inl lacked) = inl (lacked.0, tt, lacked.2)
may_lack memory save next old (Err fault) new (inr failed) = inr failed

-- the job of a document was made, and the save of its ID as used has ended so
pub prints : (old : PrinterView) (size : Size) (scheme : Scheme) (document ends : List ℕ) (next : LedgerView)
    (result : Result JobView PrintFault) (new : PrinterView) → old.is_failed ≡ false → PrinterIsInOrder old →
    AreEnds size scheme document ends → Ok next ≡ print_verdict old.ledger true → is_sound next ≡ true →
    SavesLedger (Unit {0}) printing.Memory printing.Save next old result new →
    IfOk result (IsMade old.ledger size scheme document (Some ends)) →
    (result ≡ Err printing.Save → (job : JobView) × IsMade old.ledger size scheme document (Some ends) job) →
    Prints old size scheme document result new
prints old size scheme document ends next result new running order are verdict sound saves made lost = grind arith

-- a refusal that is not that of the save changes nothing
pub unchanged : {X F may_lack : Type 0} (failed memory save : F) (verdict : Result LedgerView F) (old new : PrinterView)
    (fault : F) → old.is_failed ≡ false → (fault ≡ save → ⊥)
    → CarriesOut {X = X} failed memory save may_lack verdict old (Err fault) new → new ≡ old
unchanged {X} {F} {may_lack} failed memory save verdict old new fault runs isnt carries = by_verdict verdict refl
  where
    by_saves : (next : LedgerView) → SavesLedger {X = X} may_lack memory save next old (Err fault) new →
        new ≡ old
    by_saves next (inl lack) = lack.2
    by_saves next (inr fails) = absurd (isnt fails.0)

    by_verdict : (v : Result LedgerView F) → verdict ≡ v → new ≡ old
    by_verdict (Err other) is = (carries.refused runs other is).1
    by_verdict (Ok next) is = by_saves next (carries.saves runs next is).1
