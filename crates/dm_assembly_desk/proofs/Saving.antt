-- What a desk and its set hold after a save, done or failed.
use Rattle.std.proofs.Common.{◌≡◌, ◌⊎◌, ℕ, ◌+◌, ◌<◌, ◌≤◌, Bool, true, false, cond, List, Option, Some, None, Result, Ok, Err, inl, inr, refl, sym, ap, subst, ◌∙◌, arith}
use Rattle.std.specs.{Prelude.option_map, Prelude.IsTrue, Prelude.IsSome, Prelude.is_some, Cmp.nat_cmp_total}
use Rattle.std.specs.Ordering.{nat_cmp, eq_by_cmp}
use Rattle.std.specs.FinMap.{get, insert, remove, len, get-insert, get-remove, len-insert, len-remove}
use Rattle.dm_store.specs.Saved.{SavePlan, SavesFine, FaultOld, FaultNew, SavesOpen, Outcome, Done, Faulted, Refused, HeldAfterFault, outcome_of, SavesIn, SavedSet, Contents, SavesKey, RemovesKey}
use Rattle.dm_store.specs.declared.store.StoreFault.{StoreFault}
use Rattle.dm_store.specs.declared.store.StoreFault.TheVariants as removing
use Rattle.dm_assembly_desk.specs.Documents.{Pages, IsEntry, file, Documents, AreEntries, HoldsFiles, DeskView, DeskIsInOrder}
use Rattle.dm_assembly_desk.specs.Desk.{SavesDocument, shown, SaveEnds}
use Rattle.dm_assembly_desk.proofs.{Loading.itself, Loading.same_key, Loading.entries_insert, Undoing.get_here}

-- ---- files of what is held

pub files_insert : (content : Contents) (held : Documents) (id : ℕ) (pages : Pages) → HoldsFiles content held →
    IsEntry id pages → HoldsFiles (insert content id (file id pages)) (insert held id pages)
files_insert content held id pages h sound = record {
  entries = entries_insert held id pages h.entries sound;
  files = λ q.
      get-insert nat_cmp_total content id (file id pages) q
      ∙ chosen q
      ∙ sym (ap (option_map (file q)) (get-insert nat_cmp_total held id pages q));
}
  where
    chosen : (q : ℕ) → cond (eq_by_cmp nat_cmp q id) (Some (file id pages)) (get content q) ≡ option_map (file q)
        (cond (eq_by_cmp nat_cmp q id) (Some pages) (get held q))
    chosen q = elim (eq_by_cmp nat_cmp q id) as (λ b. eq_by_cmp nat_cmp q id ≡ b →
        cond b (Some (file id pages)) (get content q) ≡ option_map (file q) (cond b (Some pages) (get held q))) [
          | true ↦ λ e. ap (λ (k : ℕ). Some (file k pages)) (sym (same_key q id e))
          | false ↦ λ e. h.files q
        ] refl

pub entries_remove : (held : Documents) (id : ℕ) → AreEntries held → AreEntries (remove held id)
entries_remove held id sound q pages is =
    elim (eq_by_cmp nat_cmp q id) as (λ b. cond b None (get held q) ≡ Some pages → IsEntry q pages) [
      | true ↦ λ found. absurd cc
      | false ↦ λ found. sound q pages found
    ] (sym (get-remove nat_cmp_total held id q) ∙ is)

pub files_remove : (content : Contents) (held : Documents) (id : ℕ) → HoldsFiles content held →
    HoldsFiles (remove content id) (remove held id)
files_remove content held id h = record {
  entries = entries_remove held id h.entries;
  files = λ q. get-remove nat_cmp_total content id q ∙ chosen q ∙
      sym (ap (option_map (file q)) (get-remove nat_cmp_total held id q));
}
  where
    chosen : (q : ℕ) → cond (eq_by_cmp nat_cmp q id) None (get content q) ≡ option_map (file q)
        (cond (eq_by_cmp nat_cmp q id) None (get held q))
    chosen q = elim (eq_by_cmp nat_cmp q id) as (λ b. cond b None (get content q) ≡ option_map (file q)
        (cond b None (get held q))) [
          | true ↦ refl
          | false ↦ h.files q
        ]

less_or_same : (b : Bool) (n : ℕ) → cond b (Rattle.std.proofs.Common.◌-◌ n 1) n ≤ n
less_or_same b n = grind arith

pub few_remove : (held : Documents) (id capacity : ℕ) → len held ≤ capacity → len (remove held id) ≤ capacity
few_remove held id capacity le =
    omega (arith, len-remove nat_cmp_total held id, less_or_same (is_some (get held id)) (len held))

-- ---- what a set holds after a fault

pub kept_after : (plan : SavePlan) (old new content : Contents) (held after : Documents) → HoldsFiles old held →
    HoldsFiles new after → HeldAfterFault plan old new content
    → (kept : Documents) × HeldAfterFault plan held after kept × HoldsFiles content kept
kept_after FaultOld old new content held after h n is =
    (held, refl, subst (λ (c : Contents). HoldsFiles c held) (sym is) h)
kept_after FaultNew old new content held after h n is =
    (after, refl, subst (λ (c : Contents). HoldsFiles c after) (sym is) n)
kept_after SavesFine old new content held after h n (inl is) =
    (held, inl refl, subst (λ (c : Contents). HoldsFiles c held) (sym is) h)
kept_after SavesFine old new content held after h n (inr is) =
    (after, inr refl, subst (λ (c : Contents). HoldsFiles c after) (sym is) n)
kept_after SavesOpen old new content held after h n (inl is) =
    (held, inl refl, subst (λ (c : Contents). HoldsFiles c held) (sym is) h)
kept_after SavesOpen old new content held after h n (inr is) =
    (after, inr refl, subst (λ (c : Contents). HoldsFiles c after) (sym is) n)

-- ---- a desk after a save of this

-- what is saved, and what is held where it is done
pub record IsToSave (old : DeskView) (content : Contents) (held : Documents) : Type 0 where
  pub order : DeskIsInOrder old
  pub running : old.is_failed ≡ false
  pub few : len held ≤ old.capacity
  pub entries : AreEntries held
  pub files : IsTrue old.saved.is_honest → HoldsFiles content held

module _ (old : DeskView) (id : ℕ) (content : Contents) (held : Documents) (set : SavedSet)
    (t : IsToSave old content held) where
  holds_now : SavesIn old.saved content Done set → IsTrue old.saved.is_honest → HoldsFiles set.content held
  holds_now s honest = subst (λ (c : Contents). HoldsFiles c held) (sym (s.done refl honest)) (t.files honest)

  pub ends : (outcome : Outcome) → (outcome ≡ Refused → set ≡ old.saved) →
      SavesDocument old.saved id (get held id) outcome set →
      (IsTrue old.saved.is_honest → SavesIn old.saved content outcome set) →
      SaveEnds id held outcome old (shown held outcome old set)
  ends Done refused document saves = record {
    shows = refl;
    saved = document;
    keeps = λ honest. (held, refl, holds_now (saves honest) honest);
  }
  ends Faulted refused document saves = record {
    shows = refl;
    saved = document;
    keeps = λ honest. kept_after old.saved.save_plan old.saved.content content set.content old.held held
        (t.order.saved t.running honest) (t.files honest) ((saves honest).faulted refl honest);
  }
  ends Refused refused document saves = record {
    shows = refl;
    saved = subst (λ (s : SavedSet). SavesDocument old.saved id (get held id) Refused s) (refused refl) document;
    keeps = λ honest. (old.held, refl, t.order.saved t.running honest);
  }

  pub ordered : (outcome : Outcome) → set.is_honest ≡ old.saved.is_honest →
      (IsTrue old.saved.is_honest → SavesIn old.saved content outcome set) → DeskIsInOrder (shown held outcome old set)
  ordered Done same saves = grind arith
  ordered Faulted same saves = grind arith
  ordered Refused same saves = t.order

-- ---- pages that are held

few_insert : (o : Option Pages) (n capacity : ℕ) → n ≤ capacity → (o ≡ None → n < capacity) →
    cond (is_some o) n (n + 1) ≤ capacity
few_insert o n capacity le room = grind arith

module _ (old : DeskView) (id : ℕ) (pages : Pages) (set : SavedSet) (order : DeskIsInOrder old)
    (running : old.is_failed ≡ false) (entry : IsEntry id pages)
    (room : get old.held id ≡ None → len old.held < old.capacity) where
  to_hold : IsToSave old (insert old.saved.content id (file id pages)) (insert old.held id pages)
  to_hold = record {
    order = order;
    running = running;
    few = rw (len-insert nat_cmp_total old.held id pages)
        (few_insert (get old.held id) (len old.held) old.capacity order.few room);
    entries = entries_insert old.held id pages order.entries entry;
    files = λ honest. files_insert old.saved.content old.held id pages (order.saved running honest) entry;
  }

  pub held_ends : (answer : Result (Unit {0}) StoreFault) → SavesKey old.saved id (file id pages) answer set →
      SaveEnds id (insert old.held id pages) (outcome_of answer) old
      (shown (insert old.held id pages) (outcome_of answer) old set)
  held_ends answer s = search (arith, ends, to_hold, get_here)

  pub held_order : (answer : Result (Unit {0}) StoreFault) → SavesKey old.saved id (file id pages) answer set →
      DeskIsInOrder (shown (insert old.held id pages) (outcome_of answer) old set)
  held_order answer s = ordered old id (insert old.saved.content id (file id pages)) (insert old.held id pages) set
      to_hold (outcome_of answer) s.same_honesty (λ _. s)

-- a save that is refused before it is begun
pub not_begun : (s : SavedSet) (content : Contents) → SavesIn s content Refused s
not_begun s content = grind arith

-- ---- a document that is let go

is_there : (content : Contents) (held : Documents) (id : ℕ) → HoldsFiles content held → IsSome (get held id) →
    IsSome (get content id)
is_there content held id h some = grind arith

pub same_honesty : (old : SavedSet) (id : ℕ) (answer : Result (Unit {0}) StoreFault) (set : SavedSet) →
    RemovesKey old id answer set → set.is_honest ≡ old.is_honest
same_honesty old id answer set r = grind arith

pub refused_same : (old : SavedSet) (id : ℕ) (set : SavedSet) → RemovesKey old id (Err removing.Memory) set → set ≡ old
refused_same old id set r = grind arith

refused_to_remove : (old : SavedSet) (id : ℕ) (set : SavedSet) (answer : Result (Unit {0}) StoreFault) →
    RemovesKey old id answer set → outcome_of answer ≡ Refused → set ≡ old
refused_to_remove old id set answer r e = grind arith

gone_here : (held : Documents) (id : ℕ) → get (remove held id) id ≡ None
gone_here held id = get-remove nat_cmp_total held id id ∙ ap (λ b. cond b None (get held id)) (itself id)

module _ (old : DeskView) (id : ℕ) (set : SavedSet) (order : DeskIsInOrder old) (running : old.is_failed ≡ false)
    (some : IsSome (get old.held id)) (answer : Result (Unit {0}) StoreFault)
    (removes : RemovesKey old.saved id answer set) where
  to_let_go : IsToSave old (remove old.saved.content id) (remove old.held id)
  to_let_go = record {
    order = order;
    running = running;
    few = few_remove old.held id old.capacity order.few;
    entries = entries_remove old.held id order.entries;
    files = λ honest. files_remove old.saved.content old.held id (order.saved running honest);
  }

  removed : IsTrue old.saved.is_honest → SavesIn old.saved (remove old.saved.content id) (outcome_of answer) set
  removed honest = removes.there (is_there old.saved.content old.held id (order.saved running honest) some)

  pub gone_ends : SaveEnds id (remove old.held id) (outcome_of answer) old
      (shown (remove old.held id) (outcome_of answer) old set)
  gone_ends = search (arith, ends, to_let_go, refused_to_remove, gone_here, removed)

  pub gone_order : DeskIsInOrder (shown (remove old.held id) (outcome_of answer) old set)
  gone_order = search (arith, ordered, to_let_go, same_honesty, removed)
