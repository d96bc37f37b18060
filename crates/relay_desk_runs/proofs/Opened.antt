-- A command opens a desk that holds pages of printed labels alone: the desk shows them, and the files stay.
use Rattle.std.proofs.Common.{◌≡◌, ℕ, false, List, None, Option, Some, Result, sym, ap, subst}
use Rattle.dm_store.specs.Saved.{Saved, SavedSet}
use Rattle.dm_assembly_desk.specs.{Documents.DeskView, Documents.HoldsFiles, declared.fault.MoveFault.MoveFault}
use Rattle.dm_assembly_desk.specs.Desk.{EndsMove, early, at_key, at_last}
use Rattle.dm_assembly_desk.specs.declared.limits.TheConstants.{MOST_CAPACITY}
use Rattle.dm_assembly_desk.proofs.Reopening.{one_held}
use Rattle.dm_event_history.specs.{Relay.Label, Headline.HaveLeft}
use Rattle.relay_shared.specs.Command.{FileView, StreamsView}
use Rattle.relay_shared.specs.Files.{DeskFiles}
use Rattle.relay_desk_commands.specs.Desks.{EndsCopy, EndsCopyOf, EndsHeld, EndsHeldLong, EndsAtDesk, EndsImport, EndsOnId, HasNoDesk, OnDesk, OpensDesk, EndsCopyOf.no_side, EndsCopyOf.of_side, EndsOnId.no_id, EndsOnId.of_id, EndsImport.not_read, EndsImport.read, EndsImport.read_files, EndsAtDesk.no_desk, EndsAtDesk.opened, HasNoDesk.not_moved, HasNoDesk.not_opened}
use Rattle.relay_desk_commands.specs.declared.copy.CopyOptions.{CopyOptions}
use Rattle.relay_desk_runs.specs.Answered.{HasNoDocuments, HoldsPrinted, HasPrinted}
use Rattle.relay_desk_runs.proofs.Saving.{ShowsPrinted}

-- nothing is moved
pub unmoved : (old : Saved) (set : SavedSet) (result : Result ℕ MoveFault) (old_after : Saved) (set_after : SavedSet) →
    HasNoDocuments old → EndsMove old set result old_after set_after → (old_after ≡ old) × (set_after ≡ set)
unmoved old set result old_after set_after none (early ends same_old same_set) = (same_old, same_set)
unmoved old set result old_after set_after none (at_key held k now next fault reaches is saves same result_is) =
    absurd (none.none held (reaches.joint none.honest) reaches.some)
unmoved old set result old_after set_after none (at_last held k answer reaches is replaced memory result_is) =
    absurd (none.none held (reaches.joint none.honest) reaches.some)

-- the files are as they were
pub record AreSame (old new : DeskFiles) : Type 0 where
  pub joint : new.joint ≡ old.joint
  pub set : new.set ≡ old.set

pub as_they_were : (old new : DeskFiles) → new ≡ old → AreSame old new
as_they_were old new same =
    record { joint = ap (λ (f : DeskFiles). f.joint) same; set = ap (λ (f : DeskFiles). f.set) same }

-- there is no desk
pub unopened : (old new : DeskFiles) (capacity : ℕ) (name : List ℕ) → HasNoDocuments old.joint →
    HasNoDesk old capacity name new → AreSame old new
unopened old new capacity name none (not_moved fault moves is) =
    let same = unmoved _ _ _ _ _ none moves.ends in record { joint = same.0; set = same.1 }
unopened old new capacity name none (not_opened fault moves has is) =
    let same = unmoved _ _ _ _ _ none moves.1.ends in record { joint = same.0; set = same.1 }

pub still_clean : (labels : List Label) (old new : OnDesk) → HasPrinted labels old → AreSame old.files new.files →
    HasPrinted labels new
still_clean labels old new clean same = record {
  set = subst (HoldsPrinted labels) (sym same.set) clean.set;
  joint = subst HasNoDocuments (sym same.joint) clean.joint;
}

-- the desk that is opened runs, and shows what the set holds
pub record IsOpened (labels : List Label) (set : SavedSet) (desk : DeskView) : Type 0 where
  pub shows : ShowsPrinted labels desk
  pub running : desk.is_failed ≡ false
  pub set_is : desk.saved ≡ set
  pub files : HoldsFiles desk.saved.content desk.held

pub is_opened : (labels : List Label) (files : DeskFiles) (capacity : ℕ) (joint : Saved) (desk : DeskView) →
    HoldsPrinted labels files.set → HasNoDocuments files.joint → OpensDesk files capacity joint desk →
    IsOpened labels files.set desk × (joint ≡ files.joint)
is_opened labels files capacity joint desk printed none o =
    let same = unmoved _ _ _ _ _ none o.moves.1.ends in
    let set : HoldsPrinted labels desk.saved = subst (HoldsPrinted labels) (sym same.1) printed in
    let found : HoldsFiles desk.saved.content desk.held = o.opens.found set.honest in
    let one : desk.held ≡ set.held = one_held desk.saved.content desk.held set.held found set.files in (
      record {
        shows = record { set = set; shown = subst (HaveLeft labels) (sym one) set.printed };
        running = o.opens.running;
        set_is = same.1;
        files = found;
      },
      same.0,
    )

-- ---- commands

module _ (labels : List Label) (capacity : ℕ) (old new : OnDesk) (clean : HasPrinted labels old) where
  pub unopened_keeps : (name : List ℕ) → HasNoDesk old.files capacity name new.files → HasPrinted labels new
  unopened_keeps name has =
      still_clean labels old new clean (unopened old.files new.files capacity name clean.joint has)

  pub opened_keeps : (desk : DeskView) → OpensDesk old.files capacity new.files.joint desk →
      (IsOpened labels old.files.set desk → HoldsPrinted labels new.files.set) → HasPrinted labels new
  opened_keeps desk opens keeps =
      let o = is_opened labels old.files capacity new.files.joint desk clean.set clean.joint opens in
      record { set = keeps o.0; joint = subst HasNoDocuments (sym o.1) clean.joint }

pub at_desk_keeps : {Refuses : List ℕ → StreamsView → ℕ → StreamsView → Type 0}
    {Rest : DeskView → StreamsView → ℕ → OnDesk → Type 0} (labels : List Label) (capacity : ℕ) (old : OnDesk) (status : ℕ)
    (new : OnDesk) → HasPrinted labels old → ((desk : DeskView) → IsOpened labels old.files.set desk →
    Rest desk old.streams status new → HoldsPrinted labels new.files.set) →
    EndsAtDesk Refuses capacity Rest old status new → HasPrinted labels new
at_desk_keeps labels capacity old status new clean keeps (no_desk name has refuses) =
    unopened_keeps labels capacity old new clean name has
at_desk_keeps labels capacity old status new clean keeps (opened desk opens rest) =
    opened_keeps labels capacity old new clean desk opens (λ o. keeps desk o rest)

pub on_id_keeps : {Refuses : List ℕ → StreamsView → ℕ → StreamsView → Type 0} {Ends : ℕ → OnDesk → ℕ → OnDesk → Type 0}
    (labels : List Label) (text : List ℕ) (old : OnDesk) (status : ℕ) (new : OnDesk) → HasPrinted labels old →
    ((id : ℕ) → Ends id old status new → HasPrinted labels new) → EndsOnId Refuses text Ends old status new →
    HasPrinted labels new
on_id_keeps labels text old status new clean each (no_id isnt same refuses) =
    still_clean labels old new clean (as_they_were old.files new.files same)
on_id_keeps labels text old status new clean each (of_id id text_is rest) = each id rest

-- ---- the store beside any set stays

pub at_desk_joint : {Refuses : List ℕ → StreamsView → ℕ → StreamsView → Type 0}
    {Rest : DeskView → StreamsView → ℕ → OnDesk → Type 0} (capacity : ℕ) (old : OnDesk) (status : ℕ) (new : OnDesk) →
    HasNoDocuments old.files.joint → EndsAtDesk Refuses capacity Rest old status new →
    new.files.joint ≡ old.files.joint
at_desk_joint capacity old status new none (no_desk name has refuses) =
    (unopened old.files new.files capacity name none has).joint
at_desk_joint capacity old status new none (opened desk opens rest) = (unmoved _ _ _ _ _ none opens.moves.1.ends).0

pub on_id_joint : {Refuses : List ℕ → StreamsView → ℕ → StreamsView → Type 0} {Ends : ℕ → OnDesk → ℕ → OnDesk → Type 0}
    (text : List ℕ) (old : OnDesk) (status : ℕ) (new : OnDesk) →
    ((id : ℕ) → Ends id old status new → new.files.joint ≡ old.files.joint) →
    EndsOnId Refuses text Ends old status new → new.files.joint ≡ old.files.joint
on_id_joint text old status new each (no_id isnt same refuses) = ap (λ (f : DeskFiles). f.joint) same
on_id_joint text old status new each (of_id id text_is rest) = each id rest

pub import_joint : (capacity : ℕ) {files : List FileView} (old : OnDesk) (status : ℕ) (new : OnDesk) →
    HasNoDocuments old.files.joint → EndsImport capacity files old status new → new.files.joint ≡ old.files.joint
import_joint capacity old status new none (not_read fault has same told leaves) = ap (λ (f : DeskFiles). f.joint) same
import_joint capacity old status new none (read bytes reads rest leaves) =
    at_desk_joint capacity old status new none rest
import_joint capacity old status new none (read_files rest) = at_desk_joint capacity old status new none rest

-- what is held is looked at, and nothing else
pub held_same : (text : Option (List ℕ)) (old : OnDesk) (status : ℕ) (new : OnDesk) → EndsHeld text old status new →
    new.files ≡ old.files
held_same None old status new ends = ends.same
held_same (Some text) old status new (no_id isnt same refuses) = same
held_same (Some text) old status new (of_id id text_is rest) = rest.same

-- what is held is told at length by a desk that is opened for that
pub held_long_joint : (text : Option (List ℕ)) (old : OnDesk) (status : ℕ) (new : OnDesk) → HasNoDocuments old.files.joint →
    EndsHeldLong text old status new → new.files.joint ≡ old.files.joint
held_long_joint None old status new none ends = at_desk_joint MOST_CAPACITY old status new none ends
held_long_joint (Some text) old status new none ends =
    on_id_joint text old status new (λ id at. at_desk_joint MOST_CAPACITY old status new none at) ends

pub held_long_keeps : (labels : List Label) (text : Option (List ℕ)) (old : OnDesk) (status : ℕ) (new : OnDesk) →
    HasPrinted labels old → EndsHeldLong text old status new → HasPrinted labels new
held_long_keeps labels None old status new clean ends = at_desk_keeps labels MOST_CAPACITY old status new clean
    (λ desk o rest. subst (HoldsPrinted labels) (sym rest.2) o.shows.set) ends
held_long_keeps labels (Some text) old status new clean ends = on_id_keeps labels text old status new clean
    (λ id at. at_desk_keeps labels MOST_CAPACITY old status new clean
    (λ desk o rest. subst (HoldsPrinted labels) (sym rest.2) o.shows.set) at) ends

pub copy_joint : (options : CopyOptions) (old : OnDesk) (status : ℕ) (new : OnDesk) → HasNoDocuments old.files.joint →
    EndsCopy options old status new → new.files.joint ≡ old.files.joint
copy_joint options old status new none ends = on_id_joint options.id.now old status new by_side ends
  where
    by_side : (id : ℕ) → EndsCopyOf options id old status new → new.files.joint ≡ old.files.joint
    by_side id (no_side isnt same refuses) = ap (λ (f : DeskFiles). f.joint) same
    by_side id (of_side size is at) = at_desk_joint MOST_CAPACITY old status new none at
