-- What a desk shows and stores after a save, however that ended.
use Rattle.std.proofs.Common.{◌≡◌, ◌⊎◌, inl, inr, ℕ, List, IsSome, Option, None, Some, Result, Ok, Err, refl, sym, ap, subst, ◌∙◌, arith}
use Rattle.std.specs.FinMap as finite
use Rattle.dm_store.specs.Saved.{Done, Faulted, HeldAfterFault, Outcome, Refused, SavePlan, SavedSet}
use Rattle.dm_assembly_desk.specs.Desk.{Becomes, DeskCarriesOut, SaveEnds, SavesDocument, Stays, Verdict, add_kind, add_verdict, answer_by, forget_verdict, shown as shown_then, verdict_by}
use Rattle.dm_assembly_desk.specs.{Documents.DeskView, Documents.Documents, Documents.Pages, declared.reply.Kind.Kind}
use Rattle.dm_assembly_desk.specs.declared.{adding.AddFault.AddFault, fault.ForgetFault.ForgetFault}
use Rattle.dm_assembly_desk.specs.declared.adding.AddFault.TheVariants as adds
use Rattle.dm_assembly_desk.specs.declared.fault.ForgetFault.TheVariants as forgets
use Rattle.dm_assembly_desk.specs.declared.reply.Imported.{Imported}
use Rattle.dm_assembly_desk.specs.declared.reply.Kind.TheVariants.{New, Again, Complete}
use Rattle.dm_event_history.specs.{Relay.Label, Headline.ArePrinted, Headline.HaveLeft, Headline.IsCleanExport}
use Rattle.relay_desk_runs.specs.Answered.{HoldsPrinted}
use Rattle.relay_desk_runs.proofs.OneDesk.{added, let_go}

-- what is held after a device fault is what was held, or what was to be
old_or_new : (plan : SavePlan) (old new held : Documents) → HeldAfterFault plan old new held →
    (held ≡ old) ⊎ (held ≡ new)
old_or_new plan old new held after = grind arith

-- a save keeps the honesty of its set
still_honest : (old new : SavedSet) (id : ℕ) (pages : Option Pages) (outcome : Outcome) →
    SavesDocument old id pages outcome new → new.is_honest ≡ old.is_honest
still_honest old new id (Some pages) outcome saves = saves.same_honesty
still_honest old new id None outcome (answer, is, removes) = by_content (finite.get old.content id) refl
  where
    by_content : (o : Option (List ℕ)) → finite.get old.content id ≡ o → new.is_honest ≡ old.is_honest
    by_content None at = ap (λ (s : SavedSet). s.is_honest) (removes.absent at)
    by_content (Some bytes) at =
        (removes.there (subst (λ (o : Option (List ℕ)). IsSome o) (sym at) refl)).same_honesty

-- a desk shows pages of printed labels alone, and so does its set
pub record ShowsPrinted (labels : List Label) (view : DeskView) : Type 0 where
  pub set : HoldsPrinted labels view.saved
  pub shown : HaveLeft labels view.held

-- they were added, or may have been, since the save failed
abbrev pub MayBeAdded : Result Imported AddFault → Type 0
MayBeAdded (Ok reply) = Unit {0}
MayBeAdded (Err adds.Save) = Unit {0}
MayBeAdded (Err fault) = ⊥

module _ (labels : List Label) (old new : DeskView) (clean : ShowsPrinted labels old) where
  unchanged : new ≡ old → ShowsPrinted labels new
  unchanged same = subst (ShowsPrinted labels) (sym same) clean

  -- what is kept then, and what is shown
  saved_so : (id : ℕ) (held : Documents) (outcome : Outcome) (ends : SaveEnds id held outcome old new) →
      HaveLeft labels (ends.keeps clean.set.honest).0 → HaveLeft labels (shown_then held outcome old new.saved).held →
      ShowsPrinted labels new
  saved_so id held outcome ends printed shown =
      let kept = ends.keeps clean.set.honest in
      record {
        set = record {
          honest = still_honest old.saved new.saved id (finite.get held id) outcome ends.saved ∙ clean.set.honest;
          held = kept.0;
          files = kept.2;
          printed = printed;
        };
        shown = subst (HaveLeft labels) (sym (ap (λ (v : DeskView). v.held) ends.shows)) shown;
      }

  -- a save ended; if anything may have been saved, it was so
  ended : (id : ℕ) (held : Documents) (outcome : Outcome) → ((outcome ≡ Refused → ⊥) → HaveLeft labels held) →
      SaveEnds id held outcome old new → ShowsPrinted labels new
  ended id held Done next ends =
      let to_be = next (λ e. cc (e)) in
      saved_so id held Done ends (subst (HaveLeft labels) (sym (ends.keeps clean.set.honest).1) to_be) to_be
  ended id held Faulted next ends =
      let kept = ends.keeps clean.set.honest in
      saved_so id held Faulted ends (elim (old_or_new old.saved.save_plan old.held held kept.0 kept.1) [
        | inl is_old ↦ subst (HaveLeft labels) (sym is_old) clean.shown
        | inr is_new ↦ subst (HaveLeft labels) (sym is_new) (next (λ e. cc (e)))
      ]) clean.shown
  ended id held Refused next ends = unchanged ends.shows

  module _ (printed : ArePrinted labels) where
    -- ---- pages are added

    module _ (id : ℕ) (pages : Pages) (answer : Result Imported AddFault)
        (sent : MayBeAdded answer → IsCleanExport labels (record { id = id; pages = pages })) where
      -- the answer to a save tells whether it may have been done
      may_be : (reply : Imported) (outcome : Outcome) → (outcome ≡ Refused → ⊥) →
          answer ≡ answer_by (Ok reply) (Err adds.Memory) (Err adds.Save) outcome →
          MayBeAdded answer
      may_be reply Done isnt is = subst MayBeAdded (sym is) tt
      may_be reply Faulted isnt is = subst MayBeAdded (sym is) tt
      may_be reply Refused isnt is = absurd (isnt refl)

      becomes : (held : Documents) (reply : Imported) →
          add_verdict old.capacity old.held id pages ≡ Becomes held (Ok reply) →
          DeskCarriesOut (Err adds.Memory) (Err adds.Save) id (Becomes held (Ok reply)) old answer new →
          ShowsPrinted labels new
      becomes held reply verdict (outcome, is, ends) =
          ended id held outcome (λ isnt. added labels printed old.capacity old.held clean.shown
          (record { id = id; pages = pages }) (sent (may_be reply outcome isnt is)) held (Ok reply) verdict) ends

      by_kind : (kind : Result Kind AddFault) → add_kind old.capacity old.held id pages ≡ kind →
          DeskCarriesOut (Err adds.Memory) (Err adds.Save) id (verdict_by old.held id pages kind) old answer new →
          ShowsPrinted labels new
      by_kind (Err fault) is carries = unchanged carries.1
      by_kind (Ok Again) is carries = unchanged carries.1
      by_kind (Ok New) is carries = becomes _ _ (ap (verdict_by old.held id pages) is) carries
      by_kind (Ok Complete) is carries = becomes _ _ (ap (verdict_by old.held id pages) is) carries

      pub adding : DeskCarriesOut (Err adds.Memory) (Err adds.Save) id (add_verdict old.capacity old.held id pages)
          old answer new → ShowsPrinted labels new
      adding carries = by_kind (add_kind old.capacity old.held id pages) refl carries

    -- ---- a document is forgotten

    pub forgetting : (id : ℕ) (answer : Result (Unit {0}) ForgetFault) →
        DeskCarriesOut (Err forgets.Memory) (Err forgets.Save) id (forget_verdict old.held id) old answer new →
        ShowsPrinted labels new
    forgetting id answer carries = by_verdict (forget_verdict old.held id) refl carries
      where
        by_verdict : (v : Verdict (Result (Unit {0}) ForgetFault)) → forget_verdict old.held id ≡ v →
            DeskCarriesOut (Err forgets.Memory) (Err forgets.Save) id v old answer new → ShowsPrinted labels new
        by_verdict (Stays told) is does = unchanged does.1
        by_verdict (Becomes held told) is (outcome, told_is, ends) =
            ended id held outcome (λ isnt. let_go labels printed old.capacity old.held clean.shown id held told is) ends
