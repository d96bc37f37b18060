-- No label, no ticket and no number leaves a desk.
use Rattle.std.proofs.Common.{arith, ◌≡◌, ℕ, List, [], length, take}
use Rattle.dm_assembly_desk.specs.Documents.{Documents}
use Rattle.dm_event_history.specs.declared.{event.Event.Event, reply.Reply.Reply, stop.Stop.Stop}
use Rattle.dm_event_history.specs.declared.event.Event.TheVariants.{Scan, RestartDesk, Ask, Forget, Export, Import}
use Rattle.dm_finder_frame.specs.Frame.{GridView, flipped}
use Rattle.dm_event_history.specs.Relay.{Actor, Desk, Goods, Relay, with_desk}
use Rattle.dm_event_history.specs.Relay as relays
use Rattle.dm_event_history.specs.Steps.{Calls, Ending, Faults, Looks, MayLackFirst, Restarts, AskTells, ExportTells, ForgetComes, ImportComes, ScanComes, Acts, DeskGoes, DeskAt, Named, PrinterAt, actor_of}
use Rattle.dm_event_history.proofs.LeavingGoods.{IsClosed, Leaves, restarts_leave}
use Rattle.dm_event_history.proofs.DeskGoods.{ask_leaves, forget_leaves, import_leaves, scan_leaves}

pub record IsQuiet (goods : Goods) : Type 0 where
  pub labels : goods.labels ≡ []
  pub tickets : goods.tickets ≡ []
  pub moves : goods.moves ≡ []

pub take_none : {X : Type 0} (k : ℕ) → (let none : List X = [] in take k none ≡ none)
take_none k = grind arith

pub quiet_closed : IsClosed IsQuiet
quiet_closed = grind arith

pub scan_quiet : {A : Type 0} (faults : Faults A) (stop : Stop) (capacity : ℕ) (grid : GridView) →
    Leaves IsQuiet (MayLackFirst (Calls faults stop (ScanComes capacity grid)))
scan_quiet faults stop capacity grid = scan_leaves IsQuiet quiet_closed faults stop capacity grid

pub forget_is_quiet : {A : Type 0} (faults : Faults A) (stop : Stop) (id : ℕ) →
    Leaves IsQuiet (Calls faults stop (ForgetComes id))
forget_is_quiet faults stop id = forget_leaves IsQuiet quiet_closed faults stop id

pub import_is_quiet : {A : Type 0} (faults : Faults A) (stop : Stop) (capacity : ℕ) (export : relays.Export) →
    Leaves IsQuiet (Calls faults stop (ImportComes capacity export))
import_is_quiet faults stop capacity export = import_leaves IsQuiet quiet_closed faults stop capacity export

pub ask_quiet : {A : Type 0} (id : ℕ) → Leaves IsQuiet (Looks (AskTells {A = A} id))
ask_quiet id = ask_leaves IsQuiet quiet_closed id

pub export_is_quiet : {A : Type 0} (before id : ℕ) →
    Leaves IsQuiet (MayLackFirst (Looks (ExportTells {A = A} before id)))
export_is_quiet {A} before id = grind arith

pub restart_quiet : {A : Type 0} (refused : Reply A) →
    Leaves IsQuiet (Restarts {A = A} {C = Documents} refused)
restart_quiet refused = restarts_leave IsQuiet quiet_closed refused

-- ---- steps

-- a desk changes, and what leaves is quiet
pub record ChangesDesk (old new : Relay) : Type 0 where
  pub number : ℕ
  pub desk : Desk
  pub goods : Goods
  pub quiet : IsQuiet goods
  pub new_is : new ≡ with_desk old number desk goods

desk_changes : {A : Type 0} (old new : Relay) (number : ℕ) (Acts : ℕ → Actor Documents → Ending A Documents → Type 0)
    (reply : Reply A) → ((capacity : ℕ) → Leaves IsQuiet (Acts capacity)) → DeskGoes old number Acts reply new →
    ChangesDesk old new
desk_changes old new number Acts reply each g = record {
  number = number;
  desk = record { capacity = g.desk.capacity; actor = g.end.actor };
  goods = g.end.goods;
  quiet = each g.desk.capacity g.desk.actor g.end g.acts;
  new_is = g.new_is;
}

abbrev pub IsDesk : Named → Type 0
IsDesk (PrinterAt number) = ⊥
IsDesk (DeskAt number) = Unit {0}

-- so it is by each event of a desk
pub quiet_desks : {A : Type 0} (old new : Relay) (event : Event A) (reply : Reply A) → IsDesk (actor_of event) →
    Acts old event reply new → ChangesDesk old new
quiet_desks old new (Scan desk number flips stop) reply is acts =
    desk_changes old new desk _ reply (λ capacity. scan_quiet _ stop capacity (flipped acts.0.grid flips)) acts.2
quiet_desks old new (Forget desk id stop) reply is acts =
    desk_changes old new desk _ reply (λ capacity. forget_is_quiet _ stop id) acts
quiet_desks old new (Import desk number stop) reply is acts =
    desk_changes old new desk _ reply (λ capacity. import_is_quiet _ stop capacity acts.0) acts.2
quiet_desks old new (Ask desk id) reply is acts = desk_changes old new desk _ reply (λ capacity. ask_quiet id) acts
quiet_desks old new (Export desk id) reply is acts =
    desk_changes old new desk _ reply (λ capacity. export_is_quiet (length old.exports) id) acts
quiet_desks old new (RestartDesk desk) reply is acts = desk_changes old new desk _ reply (λ capacity. restart_quiet _) acts
quiet_desks old new event reply is acts = absurd is
