-- What could not be settled is a fault of the desk, of the same name.
use Rattle.std.specs.Prelude.{◌≡◌, ℕ, Err}
use Rattle.std.proofs.Common.{inl, refl}
use Rattle.dm_store.specs.Saved.{SavedSet, MayNotSettle}
use Rattle.dm_store.specs.declared.store.StoreFault.{StoreFault, TheVariants.Device, TheVariants.Memory}
use Rattle.dm_assembly_desk.specs.Documents.{IsCapacity}
use Rattle.dm_assembly_desk.specs.Desk.{HasDeskFault, desk_fault_name, move_fault_name, move_fault_of}
use Rattle.dm_assembly_desk.specs.declared.fault.DeskFault.{DeskFault}
use Rattle.dm_assembly_desk.specs.declared.fault.DeskFault.TheVariants as faults

pub desk_fault : (set : SavedSet) (capacity : ℕ) (why : StoreFault) → IsCapacity capacity → MayNotSettle set why
    → (fault : DeskFault) × HasDeskFault set capacity fault × (move_fault_name (move_fault_of why) ≡ desk_fault_name fault)
desk_fault set capacity Device is may = (faults.Device, (is, may), refl)
desk_fault set capacity Memory is may = (faults.Memory, (is, inl may), refl)
