-- What could not be settled is a fault of the load.
use Rattle.std.proofs.Common.{arith, Result, Err, inl, inr, refl}
use Rattle.dm_store.specs.Saved.{Saved, MayNotSettle}
use Rattle.dm_store.specs.declared.store.StoreFault.{StoreFault, TheVariants.Device, TheVariants.Memory}
use Rattle.dm_print_ledger.specs.Verdicts.{LoadsLedger, open_fault_of}
use Rattle.dm_print_ledger.specs.declared.fault.OpenFault.{OpenFault}

pub not_settled : {X : Type 0} (saved : Saved) (verdict : Result X OpenFault) (why : StoreFault) → MayNotSettle saved why →
    LoadsLedger saved verdict (Err (open_fault_of why))
not_settled saved verdict Device may =
    record { answer = λ _. inr (inl refl); device = λ _. may; memory = λ is. absurd (grind (arith, is)) }
not_settled saved verdict Memory may =
    record { answer = λ _. inr (inr refl); device = λ is. absurd (grind (arith, is)); memory = λ _. may }
