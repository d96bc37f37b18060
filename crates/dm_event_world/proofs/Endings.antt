-- A call that was made ends as the table of calls says, whatever the stop.
use Rattle.std.proofs.Common.{arith, ◌≡◌, ◌++◌, inl, true, false, List, [], None, map, slice_get, refl, sym, ap, ◌∙◌}
use Rattle.std.proofs.lemmas.List.{append-nil}
use Rattle.dm_store.specs.declared.fuse.Kept.{Kept, TheVariants.Old, TheVariants.New}
use Rattle.dm_print_ledger.specs.Ledger.{TicketView}
use Rattle.dm_event_history.specs.declared.{reply.Reply.Reply, stop.Stop.Stop}
use Rattle.dm_event_history.specs.declared.reply.Reply.TheVariants as replies
use Rattle.dm_event_history.specs.declared.stop.Stop.TheVariants as stops
use Rattle.dm_event_history.specs.declared.stop.Stop.TheVariants.{BeforeSave, InSave, SaveFault, AfterLabels}
use Rattle.dm_event_history.specs.Relay.{Actor, Running, Failed, Down, stored_of, Export, Goods, Label, no_goods}
use Rattle.dm_event_world.specs.declared.actor.{LeftLabel.LeftLabel, LeftExport.LeftExport}
use Rattle.dm_event_world.specs.Shows.{left_export, left_label}
use Rattle.dm_event_history.specs.Steps.{Answers, Calls, Course, Ending, Faults, LacksMemory, MayLackFirst, Reaches, Saves, ending, ends}
use Rattle.dm_event_world.specs.inner.Calls.{stops_before, EndsSo, Left, state_after, ended_reply, lacks_memory}

-- the stop without its early end: its plan for the save is left
abbrev pub plain : Stop → Stop
plain (SaveFault kept) = SaveFault kept
plain other = stops.None

-- what a call comes to tells whether its memory was refused
abbrev pub TellsMemory : {A C : Type 0} → Faults A → Course A C → Type 0
TellsMemory faults (Saves next goods reply) = lacks_memory reply ≡ false
TellsMemory faults (Answers reply) = lacks_memory reply ≡ false
TellsMemory faults LacksMemory = lacks_memory faults.memory ≡ true

-- a call that comes to this ends so under the stop
pub record Ends {A C S : Type 0} (Shows : S → Actor C → Type 0) (faults : Faults A) (stop : Stop) (course : Course A C)
    (old : Actor C) (reply : Reply A) (state : S) : Type 0 where
  pub reply_is : reply ≡ (ends faults stop course old).reply
  pub shows : Shows state (ends faults stop course old).actor

-- a call that answers without a save, under any plan
pub answers_end : {A C S : Type 0} (Shows : S → Actor C → Type 0) (faults : Faults A) (stop : Stop) (old : Actor C)
    (reply : Reply A) (state : S) → Shows state old → Ends Shows faults (plain stop) (Answers reply) old reply state
answers_end Shows faults stop old reply state s = grind arith

-- one whose memory is refused
pub lacks_end : {A C S : Type 0} (Shows : S → Actor C → Type 0) (faults : Faults A) (stop : Stop) (old : Actor C)
    (state : S) → Shows state old → Ends Shows faults (plain stop) LacksMemory old faults.memory state
lacks_end Shows faults stop old state s = grind arith

module _ {A C S : Type 0} (Shows : S → Actor C → Type 0) (down : S → S)
    (down_shows : (state : S) (actor : Actor C) → Shows state actor → Shows (down state) (Down (stored_of actor)))
    (faults : Faults A) where
  pub finish : (stop : Stop) (course : Course A C) (old : Actor C) (told : Reply A) (state : S) →
      stops_before stop ≡ false → TellsMemory faults course → Ends Shows faults (plain stop) course old told state →
      Ends Shows faults stop course old (ended_reply stop told) (state_after down stop told state)
  finish stop course old told state made tells e = grind arith

-- ---- what reaches a call

pub reaches : (stop : Stop) (Came : Type 0) → stops_before stop ≡ false → Came → Reaches stop Came
reaches stop Came made came = grind arith

-- memory for what the relay keeps was not refused
pub not_first : {A C : Type 0} (Acts : Actor C → Ending A C → Type 0) (shown : Actor C) (end : Ending A C) →
    Acts shown end → MayLackFirst Acts shown end
not_first Acts shown end acts = grind arith

-- ---- calls that are stopped before their save

-- nothing leaves
pub record IsEmpty (goods : Goods) : Type 0 where
  pub labels : goods.labels ≡ []
  pub tickets : goods.tickets ≡ []
  pub exports : goods.exports ≡ []

pub empty : IsEmpty no_goods
empty = record { labels = refl; tickets = refl; exports = refl }

module _ {A C S : Type 0} (Shows : S → Actor C → Type 0) (down : S → S)
    (down_shows : (state : S) (actor : Actor C) → Shows state actor → Shows (down state) (Down (stored_of actor)))
    (faults : Faults A) (Comes : C → Course A C → Type 0) (state : S) (up : (stored : C) → Shows state (Down stored) → ⊥)
  where
    pub stopped_before : (stop : Stop) (shown : Actor C) → stops_before stop ≡ true → Shows state shown →
        EndsSo Shows (Calls faults stop Comes) IsEmpty shown replies.Stopped (down state)
    stopped_before BeforeSave (Running held) before shows = record {
      end = ending replies.Stopped (Down held) no_goods;
      acts = (LacksMemory, tt, refl);
      reply_is = refl;
      shows = down_shows state (Running held) shows;
      lets = empty;
    }
    stopped_before BeforeSave (Failed held stored) before shows = record {
      end = ending replies.Stopped (Down stored) no_goods;
      acts = refl;
      reply_is = refl;
      shows = down_shows state (Failed held stored) shows;
      lets = empty;
    }
    stopped_before (InSave Old) (Running held) before shows = record {
      end = ending replies.Stopped (Down held) no_goods;
      acts = (LacksMemory, tt, refl);
      reply_is = refl;
      shows = down_shows state (Running held) shows;
      lets = empty;
    }
    stopped_before (InSave Old) (Failed held stored) before shows = record {
      end = ending replies.Stopped (Down stored) no_goods;
      acts = refl;
      reply_is = refl;
      shows = down_shows state (Failed held stored) shows;
      lets = empty;
    }
    stopped_before stop (Down stored) before shows = absurd (up stored shows)
    stopped_before (InSave New) shown before shows = cc (before)
    stopped_before stops.None shown before shows = cc (before)
    stopped_before (SaveFault kept) shown before shows = cc (before)
    stopped_before (AfterLabels most) shown before shows = cc (before)

-- memory for what the relay keeps is refused first
pub lacks_first : {A C S : Type 0} (Shows : S → Actor C → Type 0) (Acts : Actor C → Ending A C → Type 0) (state : S) →
    ((stored : C) → Shows state (Down stored) → ⊥) → (shown : Actor C) → Shows state shown →
    EndsSo Shows (MayLackFirst Acts) IsEmpty shown replies.Memory state
lacks_first Shows Acts state up (Running held) shows = record {
  end = ending replies.Memory (Running held) no_goods;
  acts = inl refl;
  reply_is = refl;
  shows = shows;
  lets = empty;
}
lacks_first Shows Acts state up (Failed held stored) shows = record {
  end = ending replies.Memory (Failed held stored) no_goods;
  acts = inl refl;
  reply_is = refl;
  shows = shows;
  lets = empty;
}
lacks_first Shows Acts state up (Down stored) shows = absurd (up stored shows)

-- ---- what leaves

pub with_goods : {A C S : Type 0} (Shows : S → Actor C → Type 0) (Acts Others : Actor C → Ending A C → Type 0)
    (P Q : Goods → Type 0) (shown : Actor C) (reply : Reply A) (state : S) →
    ((end : Ending A C) → Acts shown end → Others shown end) → ((goods : Goods) → P goods → Q goods) →
    EndsSo Shows Acts P shown reply state → EndsSo Shows Others Q shown reply state
with_goods Shows Acts Others P Q shown reply state acts lets e = search arith

pub lets_as : {A C S : Type 0} (Shown : S → Actor C → Type 0) (Acts : Actor C → Ending A C → Type 0)
    (Lets Leaves : Goods → Type 0) (shown : Actor C) (reply : Reply A) (new : S) →
    ((goods : Goods) → Lets goods → Leaves goods) →
    EndsSo {A = A} Shown Acts Lets shown reply new → EndsSo {A = A} Shown Acts Leaves shown reply new
lets_as Shown Acts Lets Leaves shown reply new lets e = search arith

-- what was made, and is answered so
pub made_so : {A C S : Type 0} (Shows : S → Actor C → Type 0) (down : S → S) (Acts : Actor C → Ending A C → Type 0)
    (Q : Goods → Type 0) (stop : Stop) (told reply result : Reply A) (shown : Actor C) (running new : S) →
    told ≡ reply → result ≡ ended_reply stop reply → new ≡ state_after down stop reply running →
    EndsSo Shows Acts Q shown (ended_reply stop told) (state_after down stop told running) →
    EndsSo Shows Acts Q shown result new
made_so Shows down Acts Q stop told reply result shown running new told_is result_is new_is e = grind arith

-- where nothing leaves, all is as it was
pub none_left : {A : Type 0} (labels : List (LeftLabel A)) (tickets : List TicketView) (exports : List (LeftExport A))
    (goods : Goods) → IsEmpty goods → Left labels tickets exports goods labels tickets exports
none_left {A} labels tickets exports goods none = record {
  labels_are = sym (append-nil labels) ∙ ap (λ (ls : List Label). labels ++ map (left_label {A = A}) ls) (sym none.labels);
  tickets_are = sym (append-nil tickets) ∙ ap (λ (ts : List TicketView). tickets ++ ts) (sym none.tickets);
  exports_are = sym (append-nil exports) ∙ ap (λ (es : List Export). exports ++ map (left_export {A = A}) es) (sym none.exports);
  entries = λ number export is.
      let gone : slice_get goods.exports number ≡ None = ap (λ (es : List Export). slice_get es number) none.exports in
      cc (gone, is);
}

-- ---- of what is not saved nothing leaves

abbrev pub SavesNothing : {A C : Type 0} → Course A C → Type 0
SavesNothing (Saves next goods reply) = ⊥
SavesNothing (Answers reply) = Unit {0}
SavesNothing LacksMemory = Unit {0}

pub unsaved_empty : {A C : Type 0} (faults : Faults A) (stop : Stop) (course : Course A C) (old : Actor C) →
    SavesNothing course → IsEmpty (ends faults stop course old).goods
unsaved_empty faults stop course old none = grind arith

-- nor of a save that failed
pub failed_empty : {A C : Type 0} (faults : Faults A) (kept : Kept) (next : C) (goods : Goods) (reply : Reply A)
    (old : Actor C) → IsEmpty (ends faults (SaveFault kept) (Saves next goods reply) old).goods
failed_empty faults kept next goods reply old = grind arith
