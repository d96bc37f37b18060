-- Desks that are asked, that export, and that are opened again: each ends as one of the relay that the desk shows.
use Rattle.std.proofs.Common.{arith, ◌≡◌, ◌++◌, ◌∷◌, inl, inr, ℕ, zero, suc, List, [], Option, Some, None, Result, Ok, Err, length, slice_get, refl, sym, ap, subst, ◌∙◌}
use Rattle.std.specs.Prelude.{IsTrue}
use Rattle.std.specs.FinMap as finite
use Rattle.dm_store.specs.Saved.{SavedSet}
use Rattle.dm_assembly_desk.specs.declared.fault.{AskFault.AskFault, DeskFault.DeskFault, ExportFault.ExportFault}
use Rattle.dm_assembly_desk.specs.declared.fault.AskFault.TheVariants as ask_fault
use Rattle.dm_assembly_desk.specs.declared.fault.DeskFault.TheVariants as desk_fault
use Rattle.dm_assembly_desk.specs.declared.fault.ExportFault.TheVariants as export_fault
use Rattle.dm_assembly_desk.specs.Desk.{Asks, Exports, GivesByVerdict, HasDeskFault, DeskOpens}
use Rattle.dm_assembly_desk.specs.Documents.{Documents, HoldsFiles, IsEntry, file, Pages, mask, DeskView, DeskIsInOrder}
use Rattle.dm_event_history.specs.declared.reply.Reply.{Reply}
use Rattle.dm_event_history.specs.declared.reply.Reply.TheVariants as replies
use Rattle.dm_event_history.specs.Relay.{Actor, Running, Failed, Down, stored_of, Export, Goods, no_goods}
use Rattle.dm_event_history.specs.Steps.{Looks, MayLackFirst, Restarts, ending, AskTells, ExportTells, ExportsHeld, ask_reply}
use Rattle.dm_event_world.specs.declared.actor.{DeskState.DeskState, LeftExport.LeftExport}
use Rattle.dm_event_world.specs.declared.actor.DeskState.TheVariants as desks
use Rattle.dm_event_world.specs.{Shows.ShowsDesk, Shows.StoresDocuments, inner.Desks.desk_saved}
use Rattle.dm_event_world.specs.inner.Calls.{EndsEach, EndsSo, Left}
use Rattle.dm_event_world.proofs.Endings.{empty, none_left, not_first, with_goods}
use Rattle.dm_assembly_desk.proofs.StoredFiles.{only_memory}

-- what is shown answers, and lets these goods out
pub looks_so : {A : Type 0} (capacity : ℕ) (Tells : Documents → Reply A → Goods → Type 0) (Q : Goods → Type 0)
    (state : DeskState A) (view : DeskView) (reply : Reply A) (goods : Goods) → state ≡ desks.Running view →
    Tells view.held reply goods → Q goods → EndsEach (ShowsDesk capacity) (Looks Tells) Q state reply state
looks_so {A} capacity Tells Q state view reply goods is tells q shown s =
    by_shown shown (subst (λ (a : DeskState A). ShowsDesk capacity a shown) is s) s
  where
    by_shown : (shown : Actor Documents) → ShowsDesk {A = A} capacity (desks.Running view) shown → ShowsDesk capacity state shown →
        EndsSo (ShowsDesk capacity) (Looks Tells) Q shown reply state
    by_shown (Running held) t s = record {
      end = ending reply (Running held) goods;
      acts = (subst (λ (d : Documents). Tells d reply goods) t.held_is tells, refl);
      reply_is = refl;
      shows = s;
      lets = q;
    }
    by_shown (Failed held stored) t s = record {
      end = ending reply (Failed held stored) goods;
      acts = (subst (λ (d : Documents). Tells d reply goods) t.held_is tells, refl);
      reply_is = refl;
      shows = s;
      lets = q;
    }
    by_shown (Down stored) t s = absurd t

-- ---- asks

pub given_so : {X : Type 0} (list : X → List ℕ) (verdict : Result (List ℕ) AskFault) (given : X) →
    GivesByVerdict list ask_fault.Memory verdict (Ok given) →
    GivesByVerdict (λ bytes. bytes) ask_fault.Memory verdict (Ok (list given))
given_so list verdict given g = grind arith

pub refused_so : (X : Type 0) (list : X → List ℕ) (verdict : Result (List ℕ) AskFault) (fault : AskFault) →
    GivesByVerdict {X = X} list ask_fault.Memory verdict (Err fault) →
    GivesByVerdict (λ (bytes : List ℕ). bytes) ask_fault.Memory verdict (Err fault)
refused_so X list verdict fault g = grind arith

pub asked : {A : Type 0} (capacity id : ℕ) (state : DeskState A) (view : DeskView) (answer : Result (List ℕ) AskFault) →
    state ≡ desks.Running view → Asks (λ bytes. bytes) (finite.get view.held id) answer →
    EndsEach {A = A} (ShowsDesk capacity) (Looks (AskTells id)) (λ goods. Left {A = A} [] [] [] goods [] [] []) state
    (ask_reply answer) state
asked {A} capacity id state view answer is asks =
    looks_so capacity (AskTells {A = A} id) _ state view (ask_reply answer) no_goods is (answer, asks, refl, refl)
    (none_left [] [] [] no_goods empty)

-- ---- exports

export_so : {A : Type 0} (capacity before id : ℕ) (exports all : List (LeftExport A)) (state : DeskState A) (view : DeskView)
    (reply : Reply A) (goods : Goods) → state ≡ desks.Running view →
    ExportsHeld before id (finite.get view.held id) reply goods → Left [] [] exports goods [] [] all →
    EndsEach {A = A} (ShowsDesk capacity) (MayLackFirst (Looks (ExportTells before id)))
    (λ goods. Left [] [] exports goods [] [] all) state reply state
export_so {A} capacity before id exports all state view reply goods is tells left shown s =
    with_goods (ShowsDesk capacity) (Looks (ExportTells before id)) (MayLackFirst (Looks (ExportTells before id))) _ _ shown
    reply state (not_first (Looks (ExportTells before id)) shown) (λ g q. q)
    (looks_so capacity (ExportTells before id) (λ g. Left [] [] exports g [] [] all) state view reply goods is tells left shown
    s)

pub not_held : {A : Type 0} (capacity before id : ℕ) (exports : List (LeftExport A)) (state : DeskState A) (view : DeskView) →
    state ≡ desks.Running view → finite.get view.held id ≡ None →
    EndsEach {A = A} (ShowsDesk capacity) (MayLackFirst (Looks (ExportTells before id)))
    (λ goods. Left [] [] exports goods [] [] exports) state (replies.ExportRefused export_fault.NotHeld) state
not_held {A} capacity before id exports state view is none =
    export_so capacity before id exports exports state view (replies.ExportRefused export_fault.NotHeld) no_goods is
    (subst (λ (o : Option Pages). ExportsHeld {A = A} before id o (replies.ExportRefused export_fault.NotHeld) no_goods)
    (sym none) (refl, refl)) (none_left [] [] exports no_goods empty)

pub no_bytes : {A X : Type 0} (list : X → List ℕ) (capacity before id : ℕ) (exports : List (LeftExport A))
    (state : DeskState A) (view : DeskView) (pages : Pages) (fault : ExportFault) → state ≡ desks.Running view →
    finite.get view.held id ≡ Some pages → Exports {X = X} list id (finite.get view.held id) (Err fault) →
    EndsEach {A = A} (ShowsDesk capacity) (MayLackFirst (Looks (ExportTells before id)))
    (λ goods. Left [] [] exports goods [] [] exports) state (replies.ExportRefused fault) state
no_bytes {A} {X} list capacity before id exports state view pages fault is at refused =
    export_so capacity before id exports exports state view (replies.ExportRefused fault) no_goods is
    (subst (λ (o : Option Pages). ExportsHeld {A = A} before id o (replies.ExportRefused fault) no_goods) (sym at)
    (inr (ap (λ (f : ExportFault). refusal f) memory, refl))) (none_left [] [] exports no_goods empty)
  where
    refusal : ExportFault → Reply A
    refusal f = replies.ExportRefused f

    memory : fault ≡ export_fault.Memory
    memory = subst (λ (o : Option Pages). Exports {X = X} list id o (Err fault)) at refused

pub exported : {A : Type 0} (capacity id : ℕ) (exports all : List (LeftExport A)) (state : DeskState A) (view : DeskView)
    (pages : Pages) (bytes : List ℕ) (index n bits : ℕ) → state ≡ desks.Running view → DeskIsInOrder view →
    finite.get view.held id ≡ Some pages → bytes ≡ file id pages → index ≡ length exports → n ≡ length pages →
    bits ≡ mask pages → all ≡ exports ++ record { bytes = bytes; id = id; count = n; mask = bits } ∷ [] →
    EndsEach {A = A} (ShowsDesk capacity) (MayLackFirst (Looks (ExportTells (length exports) id)))
    (λ goods. Left [] [] exports goods [] [] all) state (replies.Exported index id n bits) state
exported {A} capacity id exports all state view pages bytes index n bits is order at bytes_are index_is n_is bits_are all_is =
    export_so capacity (length exports) id exports all state view (replies.Exported index id n bits) goods is
    (subst (λ (o : Option Pages). ExportsHeld {A = A} (length exports) id o (replies.Exported index id n bits) goods)
    (sym at) (inl (told, refl)))
    (record {
      labels_are = refl;
      tickets_are = refl;
      exports_are = all_is ∙ ap (λ (x : LeftExport A). exports ++ x ∷ []) left;
      entries = entries;
    })
  where
    export : Export
    export = record { id = id; pages = pages }

    goods : Goods
    goods = record { labels = []; tickets = []; exports = record { id = id; pages = pages } ∷ []; moves = [] }

    as_left : List ℕ → ℕ → ℕ → LeftExport A
    as_left b k m = record { bytes = b; id = id; count = k; mask = m }

    left : as_left bytes n bits ≡ as_left (file id pages) (length pages) (mask pages)
    left = ap (λ (b : List ℕ). as_left b n bits) bytes_are ∙ ap (λ (k : ℕ). as_left (file id pages) k bits) n_is ∙
        ap (λ (m : ℕ). as_left (file id pages) (length pages) m) bits_are

    reply_of : ℕ → ℕ → ℕ → Reply A
    reply_of i k m = replies.Exported i id k m

    told : reply_of index n bits ≡ reply_of (length exports) (length pages) (mask pages)
    told = ap (λ (i : ℕ). reply_of i n bits) index_is ∙ ap (λ (k : ℕ). reply_of (length exports) k bits) n_is ∙
        ap (λ (m : ℕ). reply_of (length exports) (length pages) m) bits_are

    entries : (number : ℕ) (e : Export) → slice_get goods.exports number ≡ Some e → IsEntry e.id e.pages
    entries zero e there =
        let same : record { id = id; pages = pages } ≡ e = cc (there) in
        subst (λ (x : Export). IsEntry x.id x.pages) same (order.entries id pages at)
    entries (suc n) e there = absurd (cc (there))

-- ---- restarts

stored_store : {A : Type 0} (capacity : ℕ) (state : DeskState A) (shown : Actor Documents) → ShowsDesk capacity state shown →
    StoresDocuments (desk_saved state) capacity (stored_of shown)
stored_store capacity state shown s = grind arith

pub restarted : {A : Type 0} (capacity : ℕ) (state : DeskState A) (saved : SavedSet) (view : DeskView) →
    saved ≡ desk_saved state → DeskOpens saved capacity view →
    ((held : Documents) → IsTrue saved.is_honest → HoldsFiles saved.content held → view.held ≡ held) →
    EndsEach {A = A} (ShowsDesk capacity) (Restarts (replies.DeskRefused desk_fault.Memory))
    (λ goods. Left {A = A} [] [] [] goods [] [] []) state replies.Restarted (desks.Running view)
restarted {A} capacity state saved view is opens found shown s =
    let store : StoresDocuments saved capacity (stored_of shown) =
    subst (λ (x : SavedSet). StoresDocuments x capacity (stored_of shown)) (sym is) (stored_store capacity state shown s) in
    record {
      end = ending replies.Restarted (Running (stored_of shown)) no_goods;
      acts = inl refl;
      reply_is = refl;
      shows = record {
        store = subst (λ (x : SavedSet). StoresDocuments x capacity (stored_of shown)) (sym opens.same) store;
        capacity_is = opens.capacity_is;
        failed = opens.running;
        held_is = found (stored_of shown) store.ready.honest store.holds;
      };
      lets = none_left [] [] [] no_goods empty;
    }

pub restart_refused : {A : Type 0} (capacity : ℕ) (state : DeskState A) (saved back : SavedSet) (fault : DeskFault) →
    saved ≡ desk_saved state → HasDeskFault saved capacity fault → back ≡ saved →
    EndsEach {A = A} (ShowsDesk capacity) (Restarts (replies.DeskRefused desk_fault.Memory))
    (λ goods. Left {A = A} [] [] [] goods [] [] []) state (replies.DeskRefused fault) (desks.Down back)
restart_refused {A} capacity state saved back fault is refused back_is shown s =
    let store : StoresDocuments saved capacity (stored_of shown) =
    subst (λ (x : SavedSet). StoresDocuments x capacity (stored_of shown)) (sym is) (stored_store capacity state shown s) in
    record {
      end = ending (replies.DeskRefused desk_fault.Memory) (Down (stored_of shown)) no_goods;
      acts = inr refl;
      reply_is = ap refusal (only_memory saved capacity (stored_of shown) store.ready.honest store.holds store.is_capacity store.few
          store.ready.loads_fine fault refused);
      shows = subst (λ (x : SavedSet). StoresDocuments x capacity (stored_of shown)) (sym back_is) store;
      lets = none_left [] [] [] no_goods empty;
    }
  where
    refusal : DeskFault → Reply A
    refusal f = replies.DeskRefused f
