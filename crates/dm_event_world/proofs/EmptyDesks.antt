-- Desks that are opened on sets that hold nothing, one after another.
use Rattle.std.proofs.Common.{◌≡◌, ◌<◌, ◌≤◌, ◌+◌, ◌++◌, inl, inr, ℕ, true, List, [], ◌∷◌, Some, length, get_or, slice_get, refl, sym, ◌∙◌, ap, subst, arith}
use Rattle.std.specs.{Prelude.IsTrue, Prelude.option_map, FinMap.get-empty, FinMap.len-empty, Ordering.nat_cmp}
use Rattle.std.specs.FinMap as map
use Rattle.std.proofs.lemmas.{List.length-append, Option.slice_get-get_or}
use Rattle.dm_store.specs.Saved.{LoadsFine, SavesFine, SavedSet, Contents}
use Rattle.dm_assembly_desk.specs.Documents.{Pages, file, Documents, AreEntries, HoldsFiles, DeskView}
use Rattle.dm_assembly_desk.specs.Desk.{DeskOpens}
use Rattle.dm_event_world.specs.declared.actor.{DeskActor.DeskActor, DeskState.DeskState, DeskState.TheVariants.Running}
use Rattle.dm_event_history.specs.Relay as actors
use Rattle.dm_event_world.specs.{Shows.IsReady, Shows.ShowsDesk, inner.Desks.AreEmpty}
use Rattle.dm_event_world.proofs.FreshPrinters.{get_pushed}

-- the desk is empty, and has this room
abbrev pub IsEmptyDesk : {A : Type 0} → ℕ → DeskState A → Type 0
IsEmptyDesk capacity state = ShowsDesk capacity state (actors.Running map.empty)

-- a set that holds nothing
abbrev pub empty_set : SavedSet
empty_set = record {
  content = map.empty;
  is_honest = true;
  may_lack_memory = true;
  load_plan = LoadsFine;
  save_plan = SavesFine;
}

no_entries : AreEntries map.empty
no_entries id pages is = let none = get-empty {X = Pages} nat_cmp id in absurd cc

no_files : HoldsFiles map.empty map.empty
no_files = record {
  entries = no_entries;
  files = λ id. get-empty nat_cmp id ∙ sym (ap (option_map (file id)) (get-empty nat_cmp id));
}

-- a desk that was opened on it holds nothing
pub opened_empty : (A : Type 0) (set : SavedSet) (capacity : ℕ) (view : DeskView) → set ≡ empty_set →
    DeskOpens set capacity view →
    ((held : Documents) → IsTrue set.is_honest → HoldsFiles set.content held → view.held ≡ held) →
    (let state : DeskState A = Running view in IsEmptyDesk capacity state)
opened_empty A set capacity view is opens found =
    let set_is : view.saved ≡ empty_set = opens.same ∙ is in
    let content : set.content ≡ map.empty = ap (λ (s : SavedSet). s.content) is in
    let nothing : Documents = map.empty in
    let few : map.len nothing ≤ capacity = (let l = len-empty nat_cmp Pages in omega arith) in
    record {
      store = record {
        ready = subst (λ (s : SavedSet). IsReady s.is_honest s.load_plan s.save_plan) (sym set_is) (record { honest = refl; loads_fine = refl; saves_fine = refl });
        holds = subst (λ (s : SavedSet). HoldsFiles s.content map.empty) (sym set_is) no_files;
        is_capacity = opens.is_capacity;
        few = few;
      };
      capacity_is = opens.capacity_is;
      failed = opens.running;
      held_is = found map.empty (ap (λ (s : SavedSet). s.is_honest) is)
          (subst (λ (c : Contents). HoldsFiles c map.empty) (sym content) no_files);
    }

-- there is an empty desk for each of the first capacities, that many
pub record AreOpened {A : Type 0} (capacities : List ℕ) (count : ℕ) (desks : List (DeskActor A)) : Type 0 where
  pub count_is : length desks ≡ count
  pub each : (desk capacity : ℕ) (actor : DeskActor A) →
      slice_get capacities desk ≡ Some capacity → slice_get desks desk ≡ Some actor →
      (actor.capacity ≡ capacity) × IsEmptyDesk capacity actor.state

pub one_more_opened : {A : Type 0} (capacities : List ℕ) (count capacity : ℕ) (desks all : List (DeskActor A))
    (actor : DeskActor A) → count < length capacities → capacity ≡ get_or capacities count 0 →
    actor.capacity ≡ capacity → IsEmptyDesk capacity actor.state →
    all ≡ desks ++ actor ∷ [] → AreOpened capacities count desks → AreOpened capacities (count + 1) all
one_more_opened {A} capacities count capacity desks all actor there is same empty all_is opened =
    subst (λ (l : List (DeskActor A)). AreOpened capacities (count + 1) l) (sym all_is) (record {
      count_is = length-append desks (actor ∷ []) ∙ ap (λ n. n + 1) opened.count_is;
      each = λ desk other one here at. elim (get_pushed desks actor one desk at) [
        | inl before ↦ opened.each desk other one here before
        | inr last ↦ new desk other one here last.0 last.1
      ];
    })
  where
    new : (desk other : ℕ) (one : DeskActor A) → slice_get capacities desk ≡ Some other → desk ≡ length desks →
        actor ≡ one → (one.capacity ≡ other) × IsEmptyDesk other one.state
    new desk other one here last same_actor =
        let at_count : slice_get capacities count ≡ Some capacity =
        slice_get-get_or capacities count 0 there ∙ ap Some (sym is) in
        let place : desk ≡ count = last ∙ opened.count_is in
        let at_other : slice_get capacities count ≡ Some other =
        subst (λ n. slice_get capacities n ≡ Some other) place here in
        let e : capacity ≡ other = cc in
        subst (λ (n : ℕ). (one.capacity ≡ n) × IsEmptyDesk n one.state) e
        (subst (λ (x : DeskActor A). (x.capacity ≡ capacity) × IsEmptyDesk capacity x.state)
        same_actor (same, empty))

pub all_opened : {A : Type 0} (capacities : List ℕ) (count : ℕ) (desks : List (DeskActor A)) →
    count ≡ length capacities → AreOpened capacities count desks → AreEmpty capacities desks
all_opened capacities count desks whole opened = record { count = opened.count_is ∙ whole; each = opened.each }
