-- What commands that ended well did, over streams whose bytes are known.
use Rattle.std.proofs.Common.{◌≡◌, ◌⊎◌, ◌≤◌, ◌+◌, inl, inr, false, ℕ, suc, List, [], ◌∷◌, None, Option, Some, Result, Ok, Err, length, slice_get, take, refl, sym, ap, subst, ◌∙◌, append-nil, arith}
use Rattle.std.specs.{Prelude.IfSome, Prelude.IsTrue, Borrow.Bor, List.AllByRecursion}
use Rattle.std.specs.Io.KnownBytes.{Appends}
use Rattle.std.proofs.lemmas.List.{take_all}
use Rattle.dm_size.specs.{Sizes.row, Sizes.side, declared.size.Size.Size, declared.size.Size.TheVariants.Side12}
use Rattle.dm_size.proofs.Listed.{same_size}
use Rattle.dm_assembly_desk.specs.declared.{fault.ImportFault.ImportFault, reply.Imported.Imported}
use Rattle.dm_assembly_desk.specs.declared.fault.ImportFault.TheVariants as import_fault
use Rattle.relay_desk_commands.specs.declared.import.TheConstants.{IMPORT_BYTES}
use Rattle.dm_encodation.specs.declared.scheme.Scheme.{Scheme, TheVariants.Ascii}
use Rattle.dm_finder_frame.specs.Frame.{GridView, IsWholeGrid}
use Rattle.dm_finder_frame.proofs.FramedGrids.{grid_is_whole}
use Rattle.dm_pbm_io.specs.Image.{p4}
use Rattle.dm_store.specs.Saved.{Saved}
use Rattle.dm_print_ledger.proofs.LedgerLaws.{opening_sound}
use Rattle.dm_print_ledger.specs.Verdicts.{opening, AreLabels, CarriesOut, IsJobOf, IsMade, TakesTicket, giver_of, least, take_verdict, ticket_of, union_with_range}
use Rattle.dm_print_ledger.specs.declared.range.Range.{Range}
use Rattle.dm_print_ledger.specs.declared.fault.TakeFault.TheVariants as take_fault
use Rattle.dm_print_ledger.specs.Ledger.{JobView, LedgerView, PrinterView, TicketView, givers_with, is_range, ledger_bytes, running}
use Rattle.dm_event_history.specs.Relay.{Running}
use Rattle.relay_command.specs.declared.command.Command.TheVariants.{Copy, Export, Give, Ledger, Print, Take}
use Rattle.relay_command.specs.declared.command.Labels.TheVariants.{OfSide}
use Rattle.relay_shared.specs.Command.{StreamsView}
use Rattle.relay_printer_commands.specs.Printers.{IsTextOf, EndsPrint, PrintsLabels, images_of, EndsGive, EndsLedger, EndsTake, OnLedger, ledger_at, PrintsLabels.no_line, PrintsLabels.all, PrintsLabels.lost}
use Rattle.relay_printer_commands.specs.Printers.EndsPrint.{no_side, not_read, too_long, read as was_read}
use Rattle.relay_printer_commands.specs.Printers.PrintsDocument.{opened as print_opened, not_opened as print_not_opened}
use Rattle.relay_printer_commands.specs.Printers.EndsGive.{opened as give_opened, not_opened as give_not_opened}
use Rattle.relay_printer_commands.specs.Printers.EndsLedger.{created, refused as not_created}
use Rattle.relay_printer_commands.specs.Printers.EndsTake.{no_ticket, not_opened as take_not_opened, opened as take_opened}
use Rattle.relay_shared.specs.Files.{DeskFiles}
use Rattle.relay_desk_commands.specs.Desks.{EndsExport, EndsImport, OnDesk, EndsCopy, EndsAtDesk.no_desk, EndsAtDesk.opened, EndsOnId.no_id, EndsOnId.of_id, EndsImport.not_read, EndsImport.read}
use Rattle.relay_desk_commands.specs.Desks.EndsCopyOf.{no_side as no_size, of_side as of_size}
use Rattle.relay_runs.proofs.{Files.opened as open_as, Ledgers.first_saved, TicketTexts.text_once}
use Rattle.relay_runs.specs.Runs.{job_ended, ticket_given, ticket_taken, KeepsLedger}
use Rattle.relay_desk_runs.specs.Answered.{file_exported, files_imported, if_imported, label_copied}
use Rattle.relay_program_runs.specs.{Law.IsBlank, Law.passed, Passed.Made, Passed.made_where}
use Rattle.relay_program_runs.specs.Worked.{IsDone, two_files, given, no_files, streams_of_input}
use Rattle.relay_program_runs.proofs.{Images.Is12, Steps.PrintsId, Steps.ran}

-- a refusal has the status 1
abbrev pub IsOne : ℕ → Type 0
IsOne status = status ≡ 1

pub refused_one : {X Y Z : Type 0} → (X × IsOne 0) ⊎ (Y × Z × IsOne 0) → ⊥
refused_one (inl told) = omega (arith, told.1)
refused_one (inr failed) = omega (arith, failed.2)

-- what was written to an output that had nothing is all that it has
pub all_out : (new : Option (List ℕ)) (out text : List ℕ) → new ≡ Some out → Appends (Some []) new text → out ≡ text
all_out None out text some appends = cc (some)
all_out (Some xs) out text some appends = (let same : out ≡ xs = cc (some) in same ∙ appends)

-- ---- `ledger`

-- the files of a ledger of which nothing was used
abbrev pub fresh : ℕ → Range → DeskFiles
fresh number range = two_files (record no_files.joint { content = Some (ledger_bytes (opening number range)) })
    no_files.set

abbrev pub range_of : ℕ → ℕ → Range
range_of first last = record { first = first; last = last }

made_well : (number : ℕ) (range : Range) (streams : StreamsView) (new : OnLedger) →
    EndsLedger number range (ledger_at no_files.joint streams) 0 new →
    IsTrue (is_range range) × (new.saved ≡ (fresh number range).joint)
made_well number range streams new (not_created fault creates told) = absurd (refused_one told.0)
made_well number range streams new (created printer creates told) =
    elim (first_saved number range no_files.joint new.saved (Ok printer) creates) [
      | inl saves ↦ (
        saves.0,
        λ i. record {
          content = saves.1.1.done refl refl i;
          is_honest = saves.1.1.same_honesty i;
          may_lack_memory = saves.1.1.same_memory i;
          load_plan = saves.1.1.same_load_plan i;
          save_plan = saves.1.1.follows i;
        },
      )
      | inr no_range ↦ absurd (cc (no_range.0))
    ]

pub made_keeps : {number : ℕ} {range : Range} {old : Saved} {streams : StreamsView} {new : OnLedger} → IsBlank None old →
    EndsLedger number range (ledger_at old streams) 0 new → KeepsLedger new.saved (Running (opening number range))
made_keeps blank (not_created fault creates told) = absurd (refused_one told.0)
made_keeps {number} {range} {old} {new = new} blank (created printer creates told) =
    elim (first_saved number range old new.saved (Ok printer) creates) [
      | inl saves ↦ record {
        honest = saves.1.1.same_honesty ∙ blank.honest;
        sound = opening_sound number range saves.0;
        content = saves.1.1.done refl blank.honest;
      }
      | inr no_range ↦ absurd (cc (no_range.0))
    ]

module _ {A : Type 0} {f : Bor (List ℕ)} {number first last : ℕ} {y : DeskFiles} {input o : List ℕ}
    (r : IsDone A (Ledger f number first last) no_files input 0 y o) where
  well : IsTrue (is_range (range_of first last)) × (r.after.files.joint ≡ (fresh number (range_of first last)).joint)
  well = made_well number (range_of first last) (streams_of_input input)
      (ledger_at r.after.files.joint r.after.streams) r.does.0

  made : r.after.files ≡ fresh number (range_of first last)
  made = λ i. record { joint = well.1 i; set = r.does.1 i }

  pub left_fresh : y ≡ fresh number (range_of first last)
  left_fresh = sym r.files_are ∙ made

  pub keeps_fresh : KeepsLedger y.joint (Running (opening number (range_of first last)))
  keeps_fresh = subst (λ (d : DeskFiles). KeepsLedger d.joint (Running (opening number (range_of first last))))
      (sym left_fresh)
      (record { honest = refl; sound = opening_sound number (range_of first last) well.0; content = refl })

  abbrev pub its_made : Made
  its_made = record { number = number; range = range_of first last }

  pub one_made : made_where None r.after.files.joint.content its_made ≡ its_made ∷ []
  one_made = ap (λ (d : DeskFiles). made_where None d.joint.content its_made) made

-- ---- `print`

abbrev pub IsIn : List GridView → GridView → Type 0
IsIn labels grid = (i : ℕ) × (slice_get labels i ≡ Some grid)

-- each label of the job is of the size, and so
labels_12 : (Q : GridView → Type 0) (size : Size) (scheme : Scheme) (id n m : ℕ) (parts : List (List ℕ))
    (labels : List GridView) → ((grid : GridView) → IsIn labels grid → Q grid) → size ≡ Side12 →
    AreLabels size scheme id n m parts labels → AllByRecursion (Is12 Q) labels
labels_12 Q size scheme id n m [] [] so is are = tt
labels_12 Q size scheme id n m [] (grid ∷ labels) so is are = absurd are
labels_12 Q size scheme id n m (part ∷ parts) [] so is are = absurd are
labels_12 Q size scheme id n m (part ∷ parts) (grid ∷ labels) so is are = (
  record {
    size = are.0.size_is ∙ is;
    whole = subst IsWholeGrid (sym are.0.carries.drawn) (grid_is_whole grid.size _);
    so = so grid (0, refl);
  },
  labels_12 Q size scheme id n (m + 1) parts labels (λ other at. so other (suc at.0, at.1)) is are.1,
)

-- a print that ended well has a job, of the least ID that was free, and its labels are all that was written
pub record PrintedWell (saved : Saved) (job : Option JobView) (out : Option (List ℕ)) : Type 0 where
  pub it : JobView
  pub job_is : job ≡ Some it
  pub id_is : (ledger : LedgerView) → KeepsLedger saved (Running ledger) → it.id ≡ least ledger.free
  pub written : Appends (Some []) out (images_of it.labels)
  pub labels : AllByRecursion (Is12 (IsIn it.labels)) it.labels

made_job : (ledger : LedgerView) (size : Size) (scheme : Scheme) (document : List ℕ) (cutting : Option (List ℕ))
    (job : JobView) → IsMade ledger size scheme document cutting job →
    (parts : List (List ℕ)) × IsJobOf size scheme (least ledger.free) parts job
made_job ledger size scheme document None job made = absurd made
made_job ledger size scheme document (Some ends) job made = (_, made)

images_out : (labels : List GridView) (line : List ℕ) (old new : StreamsView) →
    PrintsLabels labels line old 0 new → Appends old.output.contents new.output.contents (images_of labels)
images_out labels line old new (no_line failed part same is) = absurd (omega (arith, is))
images_out labels line old new (all out images is) = images
images_out labels line old new (lost errors refusal out loses told) = absurd (refused_one told)

is_12 : (size : Size) → side size ≡ 12 → side size ≡ side Side12
unfolding row
is_12 size is = is

pub printed_well : {saved : Saved} {number : ℕ} {input : List ℕ} (new : OnLedger)
    (ends : EndsPrint number (OfSide 12) Ascii (ledger_at saved (streams_of_input input)) 0 new) →
    PrintedWell saved (job_ended ends) new.streams.output.contents
printed_well new (no_side isnt same told) = absurd (refused_one told.0)
printed_well new (not_read fault rest suits failed same told) = absurd (refused_one told.0)
printed_well new (too_long document rest suits is_read long same told) = absurd (refused_one told.0)
printed_well new (was_read size document rest is_read chosen (print_not_opened fault opens same told)) =
    absurd (refused_one told.0)
printed_well new (was_read size document rest is_read chosen (print_opened before after (Err fault) opens prints same told)) =
    absurd (refused_one told.0)
printed_well {saved} {number} {input} new
    (was_read size document rest is_read chosen (print_opened before after (Ok job) opens prints same told)) =
    let made = made_job before.ledger size Ascii document prints.cutting job prints.made in
    record {
      it = job;
      job_is = refl;
      id_is = λ ledger keeps. made.1.id_is
          ∙ ap (λ (v : PrinterView). least v.ledger.free) (open_as saved (Running ledger) number before keeps opens).1;
      written = images_out job.labels _ (record (streams_of_input input) { input = rest }) new.streams told.0;
      labels = labels_12 (IsIn job.labels) size Ascii _ _ 1 made.0 job.labels (λ grid at. at)
          (same_size size Side12 (is_12 size chosen.suits)) made.1.labels;
    }

pub print_done : {A : Type 0} {f : Bor (List ℕ)} {number : ℕ} {x y : DeskFiles} {input o : List ℕ}
    (r : IsDone A (Print f number (OfSide 12) Ascii) x input 0 y o) → PrintedWell x.joint (passed (ran r)).printed (Some o)
print_done {x} r = subst (PrintedWell x.joint (passed (ran r)).printed) r.output_is
    (printed_well (ledger_at r.after.files.joint r.after.streams) r.does.0.0)

pub prints_id : {A : Type 0} {f : Bor (List ℕ)} {number : ℕ} {x y : DeskFiles} {input o : List ℕ} {ledger : LedgerView} →
    KeepsLedger x.joint (Running ledger) → (r : IsDone A (Print f number (OfSide 12) Ascii) x input 0 y o) →
    PrintsId (least ledger.free) (ran r)
prints_id {ledger = ledger} keeps r =
    let p = print_done r in record { job = p.it; job_is = p.job_is; id_is = p.id_is ledger keeps }

-- ---- `give` and `take`

-- what a call saved that was answered
answered_next : {X F may_lack : Type 0} (failed memory save : F) (verdict : Result LedgerView F) (old new : PrinterView)
    (x : X) → old.is_failed ≡ false → IsTrue old.saved.is_honest →
    CarriesOut failed memory save may_lack verdict old (Ok x) new → (next : LedgerView) → verdict ≡ Ok next →
    KeepsLedger new.saved (Running next)
answered_next failed memory save verdict old new x runs honest carries next is =
    let does = carries.saves runs next is in
    record { honest = does.1.0.same_honesty ∙ honest; sound = does.0; content = does.1.0.done refl honest }

pub given_well : {saved : Saved} {number to first last : ℕ} {input : List ℕ} {ledger : LedgerView} {new : OnLedger} →
    KeepsLedger saved (Running ledger) →
    (ends : EndsGive number to (range_of first last) (ledger_at saved (streams_of_input input)) 0 new) →
    ticket_given ends ≡ Some (ticket_of ledger to (range_of first last))
given_well keeps (give_not_opened fault opens same told) = absurd (refused_one told.0)
given_well keeps (give_opened before after (Err fault) opens gives same told only) = absurd (refused_one told)
given_well {saved} {number} {to} {first} {last} {ledger = ledger} keeps
    (give_opened before after (Ok ticket) opens gives same told only) =
    ap Some (gives.1 ∙ ap (λ (v : PrinterView). ticket_of v.ledger to (range_of first last))
    (open_as saved (Running ledger) number before keeps opens).1)

pub gave : {A : Type 0} {f : Bor (List ℕ)} {number to first last : ℕ} {x y : DeskFiles} {input o : List ℕ}
    {ledger : LedgerView} → KeepsLedger x.joint (Running ledger) →
    (r : IsDone A (Give f number to first last) x input 0 y o) →
    (passed (ran r)).given ≡ Some (ticket_of ledger to (range_of first last))
gave keeps r = given_well keeps r.does.0

-- the ledger after a ticket was taken
abbrev pub with_ticket : LedgerView → TicketView → LedgerView
with_ticket ledger ticket = record ledger {
  free = union_with_range ledger.free ticket.range;
  givers = givers_with ledger.givers (giver_of ticket);
}

-- the ticket was taken in, and the printer goes on so
abbrev pub Took : Option TicketView → TicketView → Saved → LedgerView → Type 0
Took taken ticket saved ledger = (taken ≡ Some ticket) × KeepsLedger saved (Running (with_ticket ledger ticket))

module _ {saved : Saved} {text input : List ℕ} {number : ℕ} {ledger : LedgerView} (ticket : TicketView)
    (is : IsTextOf text ticket) (verdict : take_verdict ledger ticket ≡ Ok (with_ticket ledger ticket))
    (keeps : KeepsLedger saved (Running ledger)) where
  pub took_well : {new : OnLedger} (ends : EndsTake number text (ledger_at saved (streams_of_input input)) 0 new) →
      Took (ticket_taken ends) ticket new.saved ledger
  took_well (no_ticket has same told) = absurd (refused_one told.0)
  took_well (take_not_opened fault has opens same told) = absurd (refused_one told.0)
  took_well (take_opened other before after (Err fault) has is_other opens takes same told only) =
      absurd (refused_one told)
  took_well (take_opened other before after (Ok done) has is_other opens takes same told only) =
      let one : other ≡ ticket = text_once text other ticket is_other is in (
        ap Some one,
        subst (λ (s : Saved). KeepsLedger s (Running (with_ticket ledger ticket))) (sym same)
            (answered_next take_fault.Failed take_fault.Memory take_fault.Save (take_verdict ledger ticket)
            (running saved ledger) after done refl keeps.honest
            (subst (λ (u : TicketView). TakesTicket (running saved ledger) u (Ok done) after) one
            (subst (λ (v : PrinterView). TakesTicket v other (Ok done) after)
            (open_as saved (Running ledger) number before keeps opens).1 takes)) (with_ticket ledger ticket) verdict),
      )

pub took : {A : Type 0} {f t : Bor (List ℕ)} {number : ℕ} {x y : DeskFiles} {input o : List ℕ} {ledger : LedgerView}
    (ticket : TicketView) → IsTextOf t.now ticket → take_verdict ledger ticket ≡ Ok (with_ticket ledger ticket) →
    KeepsLedger x.joint (Running ledger) → (r : IsDone A (Take f number t) x input 0 y o) →
    Took (passed (ran r)).taken ticket y.joint ledger
took {ledger = ledger} ticket is verdict keeps r =
    let well = took_well ticket is verdict keeps r.does.0 in
    (well.0, subst (λ (d : DeskFiles). KeepsLedger d.joint (Running (with_ticket ledger ticket))) r.files_are well.1)

-- ---- `export` and `import`

pub export_done : {A : Type 0} {f i : Bor (List ℕ)} {x y : DeskFiles} {input o : List ℕ}
    (r : IsDone A (Export f i) x input 0 y o) → (passed (ran r)).exported ≡ Some o
export_done {i = i} {x} {input = input} {o} r = by_ends r.after r.output_is r.does
  where
    by_ends : (new : OnDesk) → new.streams.output.contents ≡ Some o → (ends : EndsExport i.now (given x input) 0 new) →
        file_exported ends ≡ Some o
    by_ends new some (no_id isnt same refuses) = absurd (refused_one refuses.0)
    by_ends new some (of_id id text_is (no_desk name has refuses)) = absurd (refused_one refuses.0)
    by_ends new some (of_id id text_is (opened desk opens (Err name, gives, refuses, same))) = absurd (refused_one refuses.0)
    by_ends new some (of_id id text_is (opened desk opens (Ok bytes, gives, inl told, same))) =
        ap Some (sym (all_out new.streams.output.contents o bytes some told.0))
    by_ends new some (of_id id text_is (opened desk opens (Ok bytes, gives, inr told, same))) = absurd (refused_one told.3)

-- a copy that ended well wrote the image of its grid
pub copy_done : {A : Type 0} {f i : Bor (List ℕ)} {page : ℕ} {x y : DeskFiles} {input o : List ℕ}
    (r : IsDone A (Copy f i page 12 Ascii) x input 0 y o) → (grid : GridView) × ((passed (ran r)).copied ≡ Some grid)
    × Is12 (λ g. g ≡ grid) grid × (o ≡ images_of (grid ∷ []))
copy_done {A} {i = i} {page} {x} {input = input} {o} r = by_ends r.after r.output_is r.does
  where
    by_ends : (new : OnDesk) → new.streams.output.contents ≡ Some o →
        (ends : EndsCopy (record { id = i; page = page; side = 12; scheme = Ascii }) (given x input) 0 new) →
        (grid : GridView) × (label_copied ends ≡ Some grid) × Is12 (λ g. g ≡ grid) grid × (o ≡ images_of (grid ∷ []))
    by_ends new some (no_id isnt same refuses) = absurd (refused_one refuses.0)
    by_ends new some (of_id id text_is (no_size isnt same refuses)) = absurd (refused_one refuses.0)
    by_ends new some (of_id id text_is (of_size size is (no_desk name has refuses))) = absurd (refused_one refuses.0)
    by_ends new some (of_id id text_is (of_size size is (opened desk opens (Err name, gives, refuses, same)))) =
        absurd (refused_one refuses.0)
    by_ends new some (of_id id text_is (of_size size is (opened desk opens (Ok bytes, gives, inr told, same)))) =
        absurd (refused_one told.3)
    by_ends new some (of_id id text_is (of_size size is (opened desk opens (Ok bytes, (grid, copies, image), inl told, same)))) =
        let its : grid.size ≡ size = ap (λ (g : GridView). g.size) copies.sealed.drawn in (
          grid,
          refl,
          record {
            size = its ∙ same_size size Side12 (is_12 size is);
            whole = subst IsWholeGrid (sym copies.carries.drawn) (grid_is_whole grid.size _);
            so = refl;
          },
          all_out new.streams.output.contents o bytes some told.0 ∙ image ∙ sym (append-nil (p4 grid)),
        )

pub import_of_all : (P : List ℕ → Type 0) (capacity : ℕ) (old : OnDesk) (status : ℕ) (new : OnDesk) (input : List ℕ) →
    old.streams.input.remaining ≡ Some input → length input ≤ 1000 →
    (ends : EndsImport capacity [] old status new) → P input → AllByRecursion P (files_imported ends)
import_of_all P capacity old status new input known short (not_read fault has same told leaves) so = tt
import_of_all P capacity old status new input known short (read bytes reads (no_desk name has refuses) leaves) so = tt
import_of_all P capacity old status new input known short (read bytes reads (opened desk opens rest) leaves) so =
    by_answer rest.1 (subst P (sym whole) so)
  where
    first : (o : Option (List ℕ)) → o ≡ Some input → IfSome o (λ left. bytes ≡ take IMPORT_BYTES left) → bytes ≡ take IMPORT_BYTES input
    first None is taken = cc (is)
    first (Some xs) is taken = (let same : xs ≡ input = cc (is) in taken ∙ ap (take IMPORT_BYTES) same)

    whole : bytes ≡ input
    whole = first old.streams.input.remaining known reads.taken.first ∙ take_all IMPORT_BYTES input (omega (arith, short))

    by_answer : (answer : Result Imported ImportFault) → P bytes → AllByRecursion P (if_imported answer bytes)
    by_answer (Ok reply) is = (is, tt)
    by_answer (Err import_fault.Save) is = (is, tt)
    by_answer (Err fault) is = tt
