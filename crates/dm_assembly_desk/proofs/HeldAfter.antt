-- What is held of pages that were added, and of a document that was let go.
use Rattle.std.proofs.Common.{arith, ◌≡◌, ℕ, ◌&&◌, Bool, cond, List, [], Option, Some, None, Result, Ok, Err, false, true, refl, sym, ap, subst, ◌∙◌}
use Rattle.std.specs.Prelude.{is_none, is_some, unwrap_or, IfSome, IsSome, if◌then◌else◌}
use Rattle.dm_append_label.specs.Labels.{PageView}
use Rattle.std.specs.{Option.option_or, Ordering.nat_cmp, Cmp.nat_cmp_total, FinMap.get, FinMap.remove, FinMap.get-remove}
use Rattle.dm_store.specs.Saved.{Outcome, Done, Faulted, Refused}
use Rattle.dm_assembly_desk.specs.Documents.{Pages, page, names, Documents, DeskView, own_pages, page_at, added_mask, agree, SpellsFile}
use Rattle.dm_assembly_desk.specs.Desk.{Adds, DeskCarriesOut, SaveEnds, Imports, ImportsBytes, Forgets, Stays, Becomes, add_kind, answer_by, lone, reply_of, verdict_by, with_pages}
use Rattle.dm_assembly_desk.specs.declared.reply.Kind.{Kind, TheVariants.New, TheVariants.Again, TheVariants.Complete}
use Rattle.dm_assembly_desk.specs.declared.{reply.Imported.Imported, adding.AddFault.AddFault, fault.ForgetFault.ForgetFault}
use Rattle.dm_assembly_desk.specs.declared.adding.AddFault.TheVariants as adds
use Rattle.dm_assembly_desk.specs.declared.fault.ForgetFault.TheVariants as forgets
use Rattle.dm_assembly_desk.proofs.{Loading.itself, Masks.none_named, AddFacts.names_added, AddFacts.agreed, AddLaws.kind_says, AddLaws.page_given}

-- ---- pages that were added

module _ (capacity : ℕ) (held : Documents) (id : ℕ) (given : Pages) (kind : Kind)
    (judged : add_kind capacity held id given ≡ Ok kind) (m : ℕ) (bytes : List ℕ) (is : page given m ≡ Some bytes) where
  all_agree : IfSome (get held id) (λ own. agree own given ≡ true)
  all_agree = grind arith

  same_of : (o : Option Pages) → IfSome o (λ own. agree own given ≡ true) → (own : List ℕ) →
      page (unwrap_or o []) m ≡ Some own → own ≡ bytes
  same_of None agrees own was = by_number m was
    where
      by_number : (k : ℕ) → page [] k ≡ Some own → own ≡ bytes
      by_number k e = absurd (grind (arith, e))
  same_of (Some pages) agrees own was = agreed pages given m own bytes agrees was is

  -- a page of it that was held has the bytes that are given
  same_as : (own : List ℕ) → page_at held id m ≡ Some own → own ≡ bytes
  same_as = same_of (get held id) all_agree

  with_given : (o g : Option (List ℕ)) → g ≡ Some bytes → ((own : List ℕ) → o ≡ Some own → own ≡ bytes) →
      option_or o g ≡ Some bytes
  with_given None g e same = e
  with_given (Some own) g e same = ap (λ (b : List ℕ). Some b) (same own refl)

  held_then : page_at (with_pages held id given) id m ≡ Some bytes
  held_then = page_given held id given m ∙ with_given (page_at held id m) (page given m) is same_as

  was_held : (o g : Option (List ℕ)) → (is_none o && is_some g) ≡ false → g ≡ Some bytes →
      ((own : List ℕ) → o ≡ Some own → own ≡ bytes) → o ≡ Some bytes
  was_held None g none e same = absurd (grind (arith, none, e))
  was_held (Some own) g none e same = ap (λ (b : List ℕ). Some b) (same own refl)

  held_before : kind ≡ Again → page_at held id m ≡ Some bytes
  held_before again = was_held (page_at held id m) (page given m)
      (sym (names_added (own_pages held id) given m)
      ∙ ap (λ (bits : ℕ). names bits m)
      (kind_says capacity held id given Again (judged ∙ ap (λ (k : Kind). Ok k) again))
      ∙ none_named m) is same_as

module _ (old new : DeskView) (id : ℕ) (given : Pages) (reply : Imported) (m : ℕ) (bytes : List ℕ)
    (is : page given m ≡ Some bytes) where
  by_end : (kind : Kind) → add_kind old.capacity old.held id given ≡ Ok kind → (outcome : Outcome) →
      Ok reply ≡ answer_by (Ok (reply_of old.held id given kind)) (Err adds.Memory) (Err adds.Save) outcome →
      SaveEnds id (with_pages old.held id given) outcome old new → page_at new.held id m ≡ Some bytes
  by_end kind e Done so ends = ap (λ (d : DeskView). page_at d.held id m) ends.shows
      ∙ held_then old.capacity old.held id given kind e m bytes is
  by_end kind e Faulted so ends = absurd (grind (arith, so))
  by_end kind e Refused so ends = absurd (grind (arith, so))

  by_judged : (judged : Result Kind AddFault) → add_kind old.capacity old.held id given ≡ judged →
      DeskCarriesOut (Err adds.Memory) (Err adds.Save) id (verdict_by old.held id given judged) old (Ok reply) new →
      page_at new.held id m ≡ Some bytes
  by_judged (Err fault) e does = absurd (grind (arith, does))
  by_judged (Ok Again) e does =
      ap (λ (d : DeskView). page_at d.held id m) does.1 ∙ held_before old.capacity old.held id given Again e m bytes is refl
  by_judged (Ok New) e (outcome, so, ends) = by_end New e outcome so ends
  by_judged (Ok Complete) e (outcome, so, ends) = by_end Complete e outcome so ends

  -- each page that is given is held, once the pages were added
  pub held_once_added : Adds id given old (Ok reply) new → page_at new.held id m ≡ Some bytes
  held_once_added does = by_judged (add_kind old.capacity old.held id given) refl does

-- the page of a label is held, once it was added
pub held_once_accepted : (p : PageView) (old : DeskView) (reply : Imported) (new : DeskView) → page (lone p) p.m ≡ Some p.bytes
    → Adds p.id (lone p) old (Ok reply) new → IsSome (page_at new.held p.id p.m)
held_once_accepted p old reply new is does = grind (arith, held_once_added old new p.id (lone p) reply p.m p.bytes is does)

-- each page that a file has is held, once it was imported
pub held_once_imported : (spelled : List ℕ) (old : DeskView) (reply : Imported) (new : DeskView) →
    ImportsBytes spelled old (Ok reply) new → (id : ℕ) (pages : Pages) (m : ℕ) (bytes : List ℕ) →
    SpellsFile id spelled pages → page pages m ≡ Some bytes → page_at new.held id m ≡ Some bytes
held_once_imported spelled old reply new imports id pages m bytes spells is = by_added (imports.spelled id pages spells)
  where
    by_added : Imports id pages old (Ok reply) new → page_at new.held id m ≡ Some bytes
    by_added (Ok given, so, does) = held_once_added old new id pages given m bytes is does
    by_added (Err fault, so, does) = absurd (grind (arith, so))

-- ---- a document that was let go

pub gone_once_forgotten : (id : ℕ) (old new : DeskView) → Forgets id old (Ok tt) new → get new.held id ≡ None
gone_once_forgotten id old new = by_test (is_none (get old.held id))
  where
    by_test : (b : Bool) → DeskCarriesOut {R = Result (Unit {0}) ForgetFault} (Err forgets.Memory) (Err forgets.Save) id
        (if b then Stays (Err forgets.NotHeld) else Becomes (remove old.held id) (Ok tt)) old (Ok tt) new →
        get new.held id ≡ None
    by_test true does = absurd (grind (arith, does))
    by_test false (Done, so, ends) = ap (λ (d : DeskView). get d.held id) ends.shows
        ∙ get-remove nat_cmp_total old.held id id ∙ ap (λ (b : Bool). cond b None (get old.held id)) (itself id)
    by_test false (Faulted, so, ends) = absurd (grind (arith, so))
    by_test false (Refused, so, ends) = absurd (grind (arith, so))
