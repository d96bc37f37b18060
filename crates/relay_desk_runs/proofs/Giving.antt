-- What a desk gives out: an export, a copy, and what is delivered.
use Rattle.std.proofs.Common.{◌≡◌, inl, inr, ℕ, Option, None, Some, List, [], Result, Ok, Err, length, refl, sym, ap, subst, ◌∙◌, arith}
use Rattle.std.specs.Prelude.{IfSome, MatchResult, unwrap_or}
use Rattle.std.specs.FinMap as finite
use Rattle.std.specs.Result.{result_ok}
use Rattle.dm_append_label.specs.Labels.{Carries, PageView}
use Rattle.dm_size.specs.declared.size.Size.{Size}
use Rattle.dm_encodation.specs.declared.scheme.Scheme.{Scheme}
use Rattle.dm_store.specs.Saved.{SavedSet}
use Rattle.dm_assembly_desk.specs.Desk.{Asks, Exports, ask_fault_name, export_fault_name}
use Rattle.dm_assembly_desk.specs.Documents.{DeskView, Documents, Pages, page as held_page}
use Rattle.dm_assembly_desk.specs.declared.limits.TheConstants.{MOST_CAPACITY}
use Rattle.dm_event_history.specs.Relay.{CutDocument, Label}
use Rattle.dm_event_history.specs.Headline.{AreOfOneDocument, ArePrinted, HaveLeft, IsCleanExport, IsTheDocument}
use Rattle.dm_event_history.proofs.{Stays.page_in, Told.page_none}
use Rattle.relay_streams.specs.Streams.{OutputView, write_fault_name}
use Rattle.relay_streams.specs.declared.fault.WriteFault.TheVariants.{Write}
use Rattle.relay_streams.proofs.Parts.{part_whole}
use Rattle.relay_shared.specs.Command.{RefusesOnErrors, StreamsView, TellsBytes, TellsRefusal, refusal_name}
use Rattle.relay_shared.specs.declared.command.Refusal.TheVariants as refusals
use Rattle.relay_desk_commands.specs.Desks.{EndsCopy, EndsCopyOf, GivesCopy, IsPageHeld, ByName, EndsDeliver, EndsExport, IsTextOfId, OnDesk, EndsCopyOf.no_side, EndsCopyOf.of_side, EndsOnId.no_id, EndsOnId.of_id, EndsAtDesk.no_desk, EndsAtDesk.opened}
use Rattle.relay_desk_runs.specs.Answered.{file_exported, if_copied, label_copied, EachCopyIsPrinted, EachDeliverIsPrinted, EachExportIsPrinted, GivesPrinted, HoldsPrinted, HasPrinted, IsOfLabel, IsPrintedFile, document, nothing}
use Rattle.relay_desk_runs.proofs.OneDesk.{asked}
use Rattle.relay_desk_runs.proofs.Opened.{IsOpened, as_they_were, at_desk_keeps, is_opened, on_id_keeps, still_clean}

-- ---- exports

pub export_clean : (labels : List Label) (held : Documents) (id : ℕ) (pages : Pages) → HaveLeft labels held →
    finite.get held id ≡ Some pages → IsCleanExport labels (record { id = id; pages = pages })
export_clean labels held id pages left there = record {
  pages = λ m bytes is. left.pages id m bytes (page_in held id m pages there ∙ is);
  count = left.counts id pages there;
  some = left.some id pages there;
}

module _ (labels : List Label) (set : SavedSet) (desk : DeskView) (o : IsOpened labels set desk) (id : ℕ) where
  exported : (found : Option Pages) → finite.get desk.held id ≡ found → (given : Result (List ℕ) (List ℕ)) →
      ByName export_fault_name (Exports (λ (bytes : List ℕ). bytes) id found) given →
      IfSome (result_ok given) (IsPrintedFile labels)
  exported None there (Ok bytes) gives = absurd (cc (gives))
  exported (Some pages) there (Ok bytes) gives = record {
    id = id;
    pages = pages;
    sound = o.files.entries id pages there;
    is_file = gives;
    clean = export_clean labels desk.held id pages o.shows.shown there;
  }
  exported found there (Err name) gives = tt

pub each_export_is_printed : EachExportIsPrinted
each_export_is_printed labels text old status new clean how = (
  on_id_keeps labels text old status new clean (λ id at. at_desk_keeps labels MOST_CAPACITY old status new clean
      (λ desk o rest. subst (HoldsPrinted labels) (sym rest.3) o.shows.set) at) how,
  by_ends how,
)
  where
    by_ends : (ends : EndsExport text old status new) → IfSome (file_exported ends) (IsPrintedFile labels)
    by_ends (no_id isnt same refuses) = tt
    by_ends (of_id id text_is (no_desk name has refuses)) = tt
    by_ends (of_id id text_is (opened desk opens rest)) =
        let o = is_opened labels old.files MOST_CAPACITY new.files.joint desk clean.set clean.joint opens in
        exported labels old.files.set desk o.0 id (finite.get desk.held id) refl rest.0 rest.1

-- ---- copies

page_by_parts : (one other : PageView) → one.id ≡ other.id → one.m ≡ other.m → one.n ≡ other.n →
    one.bytes ≡ other.bytes → one ≡ other
page_by_parts one other id m n bytes = λ i. record { id = id i; m = m i; n = n i; bytes = bytes i }

module _ (labels : List Label) (printed : ArePrinted labels) (one : AreOfOneDocument labels) (held : Documents)
    (left : HaveLeft labels held) (id m : ℕ) where
  of_pages : (page : PageView) → IsPageHeld held id m page → (found : Option Pages) → finite.get held id ≡ found →
      IsOfLabel labels page
  of_pages page is None there =
      let gone = ap (λ (o : Option Pages). held_page (unwrap_or o []) m) there ∙ page_none m in
      absurd (cc (gone, is.bytes_are))
  of_pages page is (Some pages) there =
      let h = left.pages id m page.bytes is.bytes_are in
      let c = left.counts id pages there in
      let same : h.label.cut ≡ c.label.cut = one h.number c.number h.label c.label h.there c.there (h.id_is ∙ sym c.id_is) in
      let count : page.n ≡ length pages = is.n_is ∙ ap (λ (o : Option Pages). length (unwrap_or o [])) there in
      let n : h.label.page.n ≡ page.n = (printed h.number h.label h.there).n_is
      ∙ ap (λ (cut : CutDocument). length cut.parts) same ∙ sym (printed c.number c.label c.there).n_is
      ∙ c.n_is ∙ sym count in
      record {
        number = h.number;
        label = h.label;
        there = h.there;
        page_is = page_by_parts h.label.page page (h.id_is ∙ sym is.id_is) (h.m_is ∙ sym is.m_is) n h.bytes_are;
      }

  copied : (size : Size) (scheme : Scheme) (given : Result (List ℕ) (List ℕ))
      (gives : GivesCopy id m size scheme held given) →
      IfSome (if_copied id m size scheme held given gives) (λ grid. (page : PageView) × Carries page grid × IsOfLabel labels page)
  copied size scheme (Ok bytes) (grid, copies, is) =
      (copies.page, copies.carries, of_pages copies.page copies.is_held (finite.get held id) refl)
  copied size scheme (Err name) gives = tt

pub each_copy_is_printed : EachCopyIsPrinted
each_copy_is_printed labels options old status new printed one clean how =
    (on_id_keeps labels options.id.now old status new clean keeps how, by_ends how)
  where
    keeps : (id : ℕ) → EndsCopyOf options id old status new → HasPrinted labels new
    keeps id (no_side isnt same refuses) = still_clean labels old new clean (as_they_were old.files new.files same)
    keeps id (of_side size is at) = at_desk_keeps labels MOST_CAPACITY old status new clean
        (λ desk o rest. subst (HoldsPrinted labels) (sym rest.3) o.shows.set) at

    by_ends : (ends : EndsCopy options old status new) →
        IfSome (label_copied ends) (λ grid. (page : PageView) × Carries page grid × IsOfLabel labels page)
    by_ends (no_id isnt same refuses) = tt
    by_ends (of_id id text_is (no_side isnt same refuses)) = tt
    by_ends (of_id id text_is (of_side size is (no_desk name has refuses))) = tt
    by_ends (of_id id text_is (of_side size is (opened desk opens rest))) =
        let o = is_opened labels old.files MOST_CAPACITY new.files.joint desk clean.set clean.joint opens in
        copied labels printed one desk.held o.0.shows.shown id options.page size options.scheme rest.0 rest.1

-- ---- what is delivered

refused_status : (name : List ℕ) (old new : OutputView) (status : ℕ) → TellsRefusal name old status new → status ≡ 1
refused_status name old new status (inl told) = told.1
refused_status name old new status (inr failed) = failed.2

module _ (labels : List Label) (text : List ℕ) (old : OnDesk) (status : ℕ) (new : OnDesk) where
  refused : (name : List ℕ) → RefusesOnErrors name old.streams status new.streams → GivesPrinted labels text old status new
  refused name told = nothing (ap (λ (s : StreamsView). s.output) told.1)
      (refused_status name old.streams.errors new.streams.errors status told.0)

  by_bytes : (id : ℕ) (bytes : List ℕ) → IsTextOfId text id → IsTheDocument labels id bytes →
      TellsBytes bytes old.streams status new.streams → GivesPrinted labels text old status new
  by_bytes id bytes text_is the (inl told) =
      document id bytes text_is the (part_whole _ _ bytes told.0) (λ none. told.0)
  by_bytes id bytes text_is the (inr told) = document id bytes text_is the told.1
      (λ none. absurd (omega (arith, refused_status (write_fault_name Write) old.streams.errors new.streams.errors status told.3)))

  module _ (printed : ArePrinted labels) (one : AreOfOneDocument labels) (set : SavedSet) (desk : DeskView)
      (o : IsOpened labels set desk) (id : ℕ) (text_is : IsTextOfId text id) where
    by_given : (given : Result (List ℕ) (List ℕ)) →
        ByName ask_fault_name (Asks (λ (bytes : List ℕ). bytes) (finite.get desk.held id)) given →
        MatchResult given (λ bytes. TellsBytes bytes old.streams status new.streams)
        (λ name. RefusesOnErrors name old.streams status new.streams) → GivesPrinted labels text old status new
    by_given (Ok bytes) asks told =
        by_bytes id bytes text_is (asked labels printed MOST_CAPACITY desk.held o.shows.shown one id bytes asks) told
    by_given (Err name) asks told = refused name told

pub each_deliver_is_printed : EachDeliverIsPrinted
each_deliver_is_printed labels text old status new printed one clean how = (
  on_id_keeps labels text old status new clean (λ id at. at_desk_keeps labels MOST_CAPACITY old status new clean
      (λ desk o rest. subst (HoldsPrinted labels) (sym rest.3) o.shows.set) at) how,
  by_ends how,
)
  where
    by_ends : EndsDeliver text old status new → GivesPrinted labels text old status new
    by_ends (no_id isnt same refuses) = refused labels text old status new (refusal_name refusals.FileId) refuses
    by_ends (of_id id text_is (no_desk name has refuses)) = refused labels text old status new name refuses
    by_ends (of_id id text_is (opened desk opens rest)) =
        let o = is_opened labels old.files MOST_CAPACITY new.files.joint desk clean.set clean.joint opens in
        by_given labels text old status new printed one old.files.set desk o.0 id text_is rest.0 rest.1 rest.2
