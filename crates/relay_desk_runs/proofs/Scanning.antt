-- A scan keeps a desk so.
use Rattle.std.proofs.Common.{◌++◌, ℕ, Bool, List, [], ◌∷◌, Result, Ok, Err, sym, subst, ◌∙◌}
use Rattle.std.specs.List.{AllByRecursion}
use Rattle.dm_finder_frame.specs.Frame.{GridView}
use Rattle.dm_append_label.specs.{Labels.PageView, Opening.LabelOpens, declared.fault.LabelFault.LabelFault}
use Rattle.dm_pbm_io.specs.Image.{Picture}
use Rattle.dm_assembly_desk.specs.{Desk.Scans, Desk.lone, Desk.scan_of, Documents.DeskView}
use Rattle.dm_assembly_desk.specs.declared.{adding.AddFault.AddFault, reply.Accepted.Accepted, reply.Imported.Imported}
use Rattle.dm_assembly_desk.specs.declared.adding.AddFault.TheVariants as adds
use Rattle.dm_assembly_desk.specs.declared.fault.ScanFault.{ScanFault}
use Rattle.dm_assembly_desk.specs.declared.fault.ScanFault.TheVariants as scan_fault
use Rattle.dm_event_history.specs.{Relay.Label, Headline.ArePrinted, Headline.IsCleanExport}
use Rattle.dm_event_history.proofs.Stays.{lone_clean, lone_export}
use Rattle.relay_streams.specs.Streams.{InputView}
use Rattle.relay_shared.specs.Command.{AnswersImages, AtImage, FileView, ImageComes, EndsImages, Progress, Said, TellsFile, TellsFiles, TellsImages, TellsInputs, ImageComes.image, ImageComes.unread, ImageComes.too_many, AnswersImages.none, AnswersImages.another, EndsImages.no_image, EndsImages.last_line, TellsImages.ended, TellsImages.stopped, TellsFiles.last_file, TellsFiles.next_file, TellsFiles.no_file, TellsInputs.of_files, TellsInputs.of_input}
use Rattle.relay_shared.specs.Command.TellsFile.{not_opened, opened as was_opened}
use Rattle.relay_desk_commands.specs.Desks.{AtDesk, EndsScan, ScansPicture, scan_images, ScansPicture.accepted, ScansPicture.refused, ScansPicture.unsettled, ScansPicture.no_grid, EndsAtDesk.no_desk, EndsAtDesk.opened}
use Rattle.relay_desk_runs.specs.Answered.{grids_at_end, grids_before, grids_of_bytes, grids_of_file, grids_of_images, grids_of_inputs, grids_of_picture, grids_scanned, if_saved, of_each_file, EachScanKeeps, HoldsPrinted, HasPrinted, IsNearPrinted, IsOfLabel}
use Rattle.relay_desk_runs.proofs.Saving.{MayBeAdded, ShowsPrinted, adding}
use Rattle.relay_desk_runs.proofs.Opened.{opened_keeps, unopened_keeps}

-- what is so of two lists joined is so of each
parts_so : {X : Type 0} (P : X → Type 0) (xs ys : List X) → AllByRecursion P (xs ++ ys) →
    AllByRecursion P xs × AllByRecursion P ys
parts_so P [] ys all = (tt, all)
parts_so P (x ∷ xs) ys all = let rest = parts_so P xs ys all.1 in ((all.0, rest.0), rest.1)

-- what one file keeps, so do all
pub each_file_keeps : {S X : Type 0} {Tells : FileView → S → ℕ → S → Type 0} {has_stopped : S → Bool}
    (of_one : (file : FileView) (old : S) (status : ℕ) (new : S) → Tells file old status new → List X)
    (P : S → Type 0) (Q : X → Type 0) → ((file : FileView) (old : S) (status : ℕ) (new : S)
    (tells : Tells file old status new) → P old → AllByRecursion Q (of_one file old status new tells) → P new) →
    {files : List FileView} {old new : S} {status : ℕ} (tells : TellsFiles Tells has_stopped files old status new) →
    P old → AllByRecursion Q (of_each_file of_one tells) → P new
each_file_keeps of_one P Q keeps no_file so all = so
each_file_keeps of_one P Q keeps (last_file tells is_last) so all = keeps _ _ _ _ tells so all
each_file_keeps of_one P Q keeps (next_file tells goes_on others) so all =
    let parts = parts_so Q (of_one _ _ _ _ tells) (of_each_file of_one others) all in
    each_file_keeps of_one P Q keeps others (keeps _ _ _ _ tells so parts.0) parts.1

-- the page of a label that left, alone
page_clean : (labels : List Label) (page : PageView) → ArePrinted labels → IsOfLabel labels page →
    IsCleanExport labels (lone_export page)
page_clean labels page printed l = subst (λ (p : PageView). IsCleanExport labels (lone_export p)) l.page_is
    (lone_clean labels l.number l.label l.there (printed l.number l.label l.there))

module _ (labels : List Label) (printed : ArePrinted labels) where
  -- ---- one grid

  -- it was taken in, or may have been
  abbrev MayBeIn : Result Accepted ScanFault → Type 0
  MayBeIn (Ok reply) = Unit {0}
  MayBeIn (Err scan_fault.Save) = Unit {0}
  MayBeIn (Err fault) = ⊥

  may_be_in : (page : PageView) (added : Result Imported AddFault) → MayBeAdded added → MayBeIn (scan_of page added)
  may_be_in page (Ok reply) may = tt
  may_be_in page (Err adds.Save) may = tt
  may_be_in page (Err fault) may = absurd may

  near_page : (grid : GridView) (read : PageView) → LabelOpens grid (Ok read) → IsNearPrinted labels grid →
      IsOfLabel labels read
  near_page grid read label n = record {
    number = n.of_label.number;
    label = n.of_label.label;
    there = n.of_label.there;
    page_is = n.of_label.page_is ∙ sym (label.near n.own n.page n.carries n.near);
  }

  by_read : (grid : GridView) (old new : DeskView) (answer : Result Accepted ScanFault)
      (read : Result PageView LabelFault) → LabelOpens grid read → ShowsPrinted labels old →
      (MayBeIn answer → IsNearPrinted labels grid) → Scans read old answer new → ShowsPrinted labels new
  by_read grid old new answer (Ok read) label clean near (added, is, does) =
      adding labels old new clean printed read.id (lone read) added
      (λ may. page_clean labels read printed (near_page grid read label
      (near (subst MayBeIn (sym is) (may_be_in read added may))))) does
  by_read grid old new answer (Err fault) label clean near (is, same) = subst (ShowsPrinted labels) (sym same) clean

  if_in : (grid : GridView) (fault : ScanFault) → AllByRecursion (IsNearPrinted labels) (if_saved fault grid) →
      MayBeIn (Err fault) → IsNearPrinted labels grid
  if_in grid scan_fault.Save all may = all.0
  if_in grid fault all may = absurd may

  -- ---- one picture, and what comes on an input

  abbrev Near : List GridView → Type 0
  Near grids = AllByRecursion (IsNearPrinted labels) grids

  picture : {number : ℕ} {p : Picture} {before after : AtDesk} {said : Said} (scans : ScansPicture number p before said after) →
      ShowsPrinted labels before.desk → Near (grids_of_picture scans) → ShowsPrinted labels after.desk
  picture {before = before} (accepted {desk} grid reply shape inside does) clean near =
      by_read grid before.desk desk (Ok reply) does.opened does.label clean (λ may. near.0) does.scans
  picture {before = before} {after = after} (refused grid fault id shape inside does is notes) clean near =
      by_read grid before.desk after.desk (Err fault) does.opened does.label clean (if_in grid fault near) does.scans
  picture (unsettled grid why shape inside is notes) clean near = clean
  picture (no_grid has notes) clean near = clean

  come : {count : ℕ} {now after : AtDesk} {bytes : List ℕ} {rest : InputView} {said : Said} {last : Bool}
      (comes : ImageComes scan_images count now bytes rest said last after) → ShowsPrinted labels now.desk →
      Near (grids_of_bytes comes) → ShowsPrinted labels after.desk
  come (image p few spells answers last_is) clean near = picture answers clean near
  come (unread fault few is sees) clean near = subst (ShowsPrinted labels) (sym sees.0) clean
  come (too_many all is) clean near = clean

  before : {start now : Progress scan_images} {count : ℕ} {any : Bool}
      (all : AnswersImages scan_images start count any now) → ShowsPrinted labels start.state.desk →
      Near (grids_before all) → ShowsPrinted labels now.state.desk
  before none clean near = clean
  before (another one answers takes whole appends) clean near =
      let near = parts_so _ (grids_before answers) (grids_of_bytes takes.comes) near in
      come takes.comes (before answers clean near.0) near.1

  at_end : {count : ℕ} {old new : Progress scan_images} {said : Said}
      (last : EndsImages scan_images count old said new) → ShowsPrinted labels old.state.desk →
      Near (grids_at_end last) → ShowsPrinted labels new.state.desk
  at_end (no_image few keeps ends) clean near = clean
  at_end (last_line takes) clean near = come takes.comes clean near

  images : {start new : Progress scan_images} {status : ℕ} (tells : TellsImages scan_images start status new) →
      ShowsPrinted labels start.state.desk → Near (grids_of_images tells) → ShowsPrinted labels new.state.desk
  images (ended said answers last reads appends is) clean near =
      let near = parts_so _ (grids_before answers) (grids_at_end last) near in
      at_end last (before answers clean near.0) near.1
  images (stopped said answers takes failed part is) clean near =
      let near = parts_so _ (grids_before answers) (grids_of_bytes takes.comes) near in
      come takes.comes (before answers clean near.0) near.1

  file : (file : FileView) (old : AtImage scan_images) (status : ℕ) (new : AtImage scan_images)
      (tells : TellsFile scan_images file old status new) → ShowsPrinted labels old.state.desk →
      Near (grids_of_file file old status new tells) → ShowsPrinted labels new.state.desk
  file bytes old status new (was_opened rest tells) clean near = images tells clean near
  file bytes old status new (not_opened fault may same told) clean near =
      subst (λ (at : AtDesk). ShowsPrinted labels at.desk) (sym same) clean

  inputs : {all : List FileView} {start new : Progress scan_images} {status : ℕ}
      (tells : TellsInputs scan_images all start status new) → ShowsPrinted labels start.state.desk →
      Near (grids_of_inputs tells) → ShowsPrinted labels new.state.desk
  inputs (of_input tells) clean near = images tells clean near
  inputs (of_files same tells) clean near = each_file_keeps grids_of_file
      (λ (at : AtImage scan_images). ShowsPrinted labels at.state.desk) (IsNearPrinted labels) file tells clean near

-- ---- the command

pub each_scan_keeps : EachScanKeeps
each_scan_keeps labels capacity images old status new printed clean how near = by_desk how near
  where
    by_desk : (ends : EndsScan capacity images old status new) →
        AllByRecursion (IsNearPrinted labels) (grids_scanned ends) → HasPrinted labels new
    by_desk (no_desk name has refuses) near = unopened_keeps labels capacity old new clean name has
    by_desk (opened desk opens rest) near = opened_keeps labels capacity old new clean desk opens
        (λ o. subst (HoldsPrinted labels) (sym rest.4) (inputs labels printed rest.1 o.shows near).set)
