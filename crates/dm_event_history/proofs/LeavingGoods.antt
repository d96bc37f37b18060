-- What is so of all goods that leave by a call: it is so of none, and of those that are cut off.
use Rattle.std.proofs.Common.{arith, ◌≡◌, ℕ, sym, subst}
use Rattle.dm_store.specs.declared.fuse.Kept.TheVariants.{Old, New}
use Rattle.dm_event_history.specs.declared.{reply.Reply.Reply, stop.Stop.Stop}
use Rattle.dm_event_history.specs.declared.stop.Stop.TheVariants as stops
use Rattle.dm_event_history.specs.declared.stop.Stop.TheVariants.{InSave, SaveFault, AfterLabels}
use Rattle.dm_event_history.specs.Relay.{Actor, Running, Failed, Down, Goods, no_goods}
use Rattle.dm_event_history.specs.Steps.{Answers, Calls, Course, Ending, Faults, LacksMemory, MayLackFirst, Reaches, Restarts, Saves, cut_off, ends}
use Rattle.dm_event_history.proofs.Reaching.{reached, reaches}

-- so of the goods of a course
abbrev pub OfCourse : {A C : Type 0} → (Goods → Type 0) → Course A C → Type 0
OfCourse P (Saves next goods reply) = P goods
OfCourse P (Answers reply) = Unit {0}
OfCourse P LacksMemory = Unit {0}

pub record IsClosed (P : Goods → Type 0) : Type 0 where
  pub none : P no_goods
  pub cut : (most : ℕ) (goods : Goods) → P goods → P (cut_off most goods)

abbrev pub Leaves : {A C : Type 0} → (Goods → Type 0) → (Actor C → Ending A C → Type 0) → Type 0
Leaves {A} {C} P Acts = (actor : Actor C) (end : Ending A C) → Acts actor end → P end.goods

pub ends_leave : {A C : Type 0} (P : Goods → Type 0) → IsClosed P → (faults : Faults A) (stop : Stop) (course : Course A C)
    (old : Actor C) → Reaches stop (OfCourse P course) → P (ends faults stop course old).goods
ends_leave P p faults stops.None (Saves next goods reply) old c = c
ends_leave P p faults (SaveFault New) (Saves next goods reply) old c = p.cut 0 goods c
ends_leave P p faults (InSave New) (Saves next goods reply) old c = p.cut 0 goods c
ends_leave P p faults (AfterLabels most) (Saves next goods reply) old c = p.cut most goods c
ends_leave P p faults (SaveFault Old) (Saves next goods reply) old c = p.none
ends_leave P p faults stop course old c = p.none

pub as_known : {A C : Type 0} (P : Goods → Type 0) (end known : Ending A C) → end ≡ known → P known.goods → P end.goods
as_known {A} {C} P end known is p = subst (λ (e : Ending A C). P e.goods) (sym is) p

pub calls_leave : {A C : Type 0} (P : Goods → Type 0) → IsClosed P → (faults : Faults A) (stop : Stop)
    (Comes : C → Course A C → Type 0) →
    ((held : C) (course : Course A C) → Comes held course → OfCourse P course) → Leaves P (Calls faults stop Comes)
calls_leave P p faults stop Comes each (Running held) end acts =
    as_known P end _ acts.2 (ends_leave P p faults stop acts.0 (Running held) (reaches stop (each held acts.0) acts.1))
calls_leave P p faults stop Comes each (Failed shown stored) end acts = grind (arith, as_known, ends_leave, reached)
calls_leave P p faults stop Comes each (Down stored) end acts = as_known P end _ acts p.none

pub may_lack_leaves : {A C : Type 0} (P : Goods → Type 0) → IsClosed P → (Acts : Actor C → Ending A C → Type 0) →
    Leaves P Acts → Leaves P (MayLackFirst Acts)
may_lack_leaves P p Acts each held end acts = grind arith

pub restarts_leave : {A C : Type 0} (P : Goods → Type 0) → IsClosed P → (refused : Reply A) →
    Leaves P (Restarts {A = A} {C = C} refused)
restarts_leave P p refused actor end is = grind arith

pub known_goods : (P : Goods → Type 0) (goods known : Goods) → goods ≡ known → P known → P goods
known_goods P goods known is p = subst P (sym is) p
