-- An import keeps a desk so, and so does a forget.
use Rattle.std.proofs.Common.{◌≡◌, ℕ, List, Result, Ok, Err, sym, subst}
use Rattle.std.specs.List.{AllByRecursion}
use Rattle.dm_assembly_desk.specs.Desk.{Imports, ImportsBytes, IsFileReadAs, import_of}
use Rattle.dm_assembly_desk.specs.Documents.{DeskView, Pages, SpellsFile}
use Rattle.dm_assembly_desk.specs.declared.{adding.AddFault.AddFault, fault.ImportFault.ImportFault}
use Rattle.dm_assembly_desk.specs.declared.adding.AddFault.TheVariants as adds
use Rattle.dm_assembly_desk.specs.declared.{limits.TheConstants.MOST_CAPACITY, reply.Imported.Imported}
use Rattle.dm_assembly_desk.proofs.AnyFile.{one_spelled}
use Rattle.dm_event_history.specs.{Relay.Label, Headline.ArePrinted, Headline.IsCleanExport}
use Rattle.relay_desk_commands.specs.Desks.{EndsImport, EndsAtDesk.no_desk, EndsAtDesk.opened, ImportsFile, EndsImport.not_read, EndsImport.read, EndsImport.read_files, ImportsFile.file_not_read, ImportsFile.file_read}
use Rattle.relay_streams.specs.Streams.{OutputView}
use Rattle.relay_desk_runs.specs.Answered.{bytes_of_file, files_imported, if_imported, EachForgetKeeps, EachImportKeeps, HoldsPrinted, HasPrinted, IsPrintedFile}
use Rattle.relay_desk_runs.proofs.Saving.{MayBeAdded, ShowsPrinted, adding, forgetting}
use Rattle.relay_desk_runs.proofs.Scanning.{each_file_keeps}
use Rattle.relay_desk_runs.proofs.Opened.{as_they_were, at_desk_keeps, on_id_keeps, opened_keeps, still_clean, unopened_keeps}
use Rattle.relay_shared.specs.Command.{FileView}

module _ (labels : List Label) (printed : ArePrinted labels) (bytes : List ℕ) (old new : DeskView)
    (answer : Result Imported ImportFault) (clean : ShowsPrinted labels old)
    (near : AllByRecursion (IsPrintedFile labels) (if_imported answer bytes)) where
  by_added : (added : Result Imported AddFault) → MayBeAdded added →
      AllByRecursion (IsPrintedFile labels) (if_imported (import_of added) bytes) → IsPrintedFile labels bytes
  by_added (Ok reply) may file = file.0
  by_added (Err adds.Save) may file = file.0
  by_added (Err fault) may file = absurd may

  sent : (id : ℕ) (pages : Pages) → SpellsFile id bytes pages → IsPrintedFile labels bytes →
      IsCleanExport labels (record { id = id; pages = pages })
  sent id pages spells f =
      let read = one_spelled bytes f.id f.pages id pages (record { sound = f.sound; spelled = f.is_file }) spells in
      let same : ◌≡◌ {A = ℕ × Pages} (f.id, f.pages) (id, pages) = cc (read) in
      subst (λ (e : ℕ × Pages). IsCleanExport labels (record { id = e.0; pages = e.1 })) same f.clean

  imports : (id : ℕ) (pages : Pages) → SpellsFile id bytes pages → Imports id pages old answer new →
      ShowsPrinted labels new
  imports id pages spells (added, is, does) = adding labels old new clean printed id pages added
      (λ may. sent id pages spells (by_added added may
      (subst (λ (a : Result Imported ImportFault). AllByRecursion (IsPrintedFile labels) (if_imported a bytes)) is near))) does

  pub imported : ImportsBytes bytes old answer new → ShowsPrinted labels new
  imported call = elim (call.read) as (λ what. IsFileReadAs bytes what → ShowsPrinted labels new) [
    | Ok e ↦ λ spells. imports e.0 e.1 spells (call.spelled e.0 e.1 spells)
    | Err fault ↦ λ none. subst (ShowsPrinted labels) (sym (call.faulty fault none).1) clean
  ] call.is_read

pub each_import_keeps : EachImportKeeps
each_import_keeps labels capacity images old status new printed clean how near = by_input how near
  where
    one : (file : FileView) (old : DeskView × OutputView) (status : ℕ) (new : DeskView × OutputView)
        (does : ImportsFile file old status new) → ShowsPrinted labels old.0 →
        AllByRecursion (IsPrintedFile labels) (bytes_of_file file old status new does) → ShowsPrinted labels new.0
    one file old status new (file_not_read fault may told) clean near = clean
    one file old status new (file_read {desk} {after} bytes reply first imports told) clean near =
        imported labels printed bytes desk after reply clean near imports

    by_input : {files : List FileView} (ends : EndsImport capacity files old status new) →
        AllByRecursion (IsPrintedFile labels) (files_imported ends) → HasPrinted labels new
    by_input (not_read fault has same told leaves) near =
        still_clean labels old new clean (as_they_were old.files new.files same)
    by_input (read bytes reads (no_desk name has refuses) leaves) near =
        unopened_keeps labels capacity old new clean name has
    by_input (read bytes reads (opened desk opens rest) leaves) near =
        opened_keeps labels capacity old new clean desk opens (λ o. subst (HoldsPrinted labels) (sym rest.3)
        (imported labels printed bytes desk rest.0 rest.1 o.shows near rest.2).set)
    by_input (read_files (no_desk name has refuses)) near = unopened_keeps labels capacity old new clean name has
    by_input (read_files (opened desk opens rest)) near =
        opened_keeps labels capacity old new clean desk opens (λ o. subst (HoldsPrinted labels) (sym rest.5)
        (each_file_keeps bytes_of_file (λ (at : DeskView × OutputView). ShowsPrinted labels at.0) (IsPrintedFile labels) one
        rest.1 o.shows near).set)

pub each_forget_keeps : EachForgetKeeps
each_forget_keeps labels text old status new printed clean how = on_id_keeps labels text old status new clean
    (λ id at. at_desk_keeps labels MOST_CAPACITY old status new clean
    (λ desk o rest. subst (HoldsPrinted labels) (sym rest.1.3)
    (forgetting labels desk rest.1.0 o.shows printed id rest.1.1 rest.1.2).set) at) how
