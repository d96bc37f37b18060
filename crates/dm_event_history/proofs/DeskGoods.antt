-- Nothing leaves by the calls of desks that save, nor by an ask.
use Rattle.std.proofs.Common.{arith, ℕ}
use Rattle.dm_event_history.specs.{declared.stop.Stop.Stop, Relay.Goods, Relay.Label, Relay.Move, Relay.no_goods}
use Rattle.dm_finder_frame.specs.Frame.{GridView}
use Rattle.dm_event_history.specs.Relay as relays
use Rattle.dm_event_history.specs.Steps.{Calls, Faults, Looks, MayLackFirst, AskTells, ForgetComes, ImportComes, ScanComes}
use Rattle.dm_event_history.proofs.LeavingGoods.{IsClosed, Leaves}

pub scan_leaves : {A : Type 0} (P : Goods → Type 0) → IsClosed P → (faults : Faults A) (stop : Stop) (capacity : ℕ)
    (grid : GridView) → Leaves P (MayLackFirst (Calls faults stop (ScanComes capacity grid)))
scan_leaves P p faults stop capacity grid = grind arith

pub forget_leaves : {A : Type 0} (P : Goods → Type 0) → IsClosed P → (faults : Faults A) (stop : Stop) (id : ℕ) →
    Leaves P (Calls faults stop (ForgetComes id))
forget_leaves {A} P p faults stop id = grind arith

pub import_leaves : {A : Type 0} (P : Goods → Type 0) → IsClosed P → (faults : Faults A) (stop : Stop) (capacity : ℕ)
    (export : relays.Export) → Leaves P (Calls faults stop (ImportComes capacity export))
import_leaves {A} P p faults stop capacity export = grind arith

pub ask_leaves : {A : Type 0} (P : Goods → Type 0) → IsClosed P → (id : ℕ) → Leaves P (Looks (AskTells {A = A} id))
ask_leaves {A} P p id = grind arith
