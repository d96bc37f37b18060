-- What a print lets out: a first part of the images of its labels.
use Rattle.std.proofs.Common.{◌≡◌, ℕ, List, ◌∷◌, Some, Ok, Err, sym, ap, subst, ◌∙◌}
use Rattle.std.proofs.lemmas.Grind.{flat_map-append}
use Rattle.dm_pbm_io.specs.Image.{p4}
use Rattle.dm_finder_frame.specs.Frame.{GridView}
use Rattle.dm_print_ledger.specs.Ledger.{JobView}
use Rattle.relay_streams.specs.Streams.{AppendsPart, OutputView}
use Rattle.relay_shared.specs.Command.{StreamsView}
use Rattle.relay_printer_commands.specs.Printers.{LosesImages, PrintsLabels, images_of, EndsPrint, OnLedger, LosesImages.memory, LosesImages.write, PrintsLabels.no_line, PrintsLabels.all, PrintsLabels.lost}
use Rattle.relay_printer_commands.specs.Printers.EndsPrint.{no_side, not_read, too_long, read as was_read}
use Rattle.relay_printer_commands.specs.Printers.PrintsDocument.{opened as was_opened, not_opened}
use Rattle.relay_command.specs.declared.command.Labels.{Labels}
use Rattle.relay_streams.proofs.Parts.{part_none, part_whole}
use Rattle.dm_encodation.specs.declared.scheme.Scheme.{Scheme}
use Rattle.relay_runs.specs.Runs.{job_ended}

lost_part : (labels : List GridView) (old new : OutputView) (refusal : _) → LosesImages labels old new refusal →
    AppendsPart old.contents new.contents (images_of labels)
lost_part labels old new _ (memory done next rest is out) =
    (images_of done, (images_of (next ∷ rest), ap images_of is ∙ flat_map-append p4 done (next ∷ rest)), out)
lost_part labels old new _ (write fault failed part) = part

labels_part : (labels : List GridView) (line : List ℕ) (old new : StreamsView) (status : ℕ) →
    PrintsLabels labels line old status new → AppendsPart old.output.contents new.output.contents (images_of labels)
labels_part labels line old new status (no_line failed part same is) =
    subst (λ (o : OutputView). AppendsPart old.output.contents o.contents (images_of labels)) (sym same)
    (part_none old.output.contents (images_of labels))
labels_part labels line old new status (all out images is) = part_whole _ _ _ images
labels_part labels line old new status (lost errors refusal out loses told) = lost_part labels _ _ refusal loses

-- a first part of the images of a job is out
pub print_out : {number : ℕ} {labels : Labels} {scheme : Scheme} (old new : OnLedger) (status : ℕ)
    (ends : EndsPrint number labels scheme old status new) (job : JobView) → job_ended ends ≡ Some job →
    AppendsPart old.streams.output.contents new.streams.output.contents (images_of job.labels)
print_out old new status (no_side side same told) job is = cc (is)
print_out old new status (not_read fault rest side failed same told) job is = cc (is)
print_out old new status (too_long document rest side is_read long same told) job is = cc (is)
print_out old new status (was_read size document rest is_read chosen (not_opened fault opens same told)) job is = cc (is)
print_out old new status
    (was_read size document rest is_read chosen (was_opened before after (Err fault) opens prints same told)) job is = cc (is)
print_out old new status
    (was_read size document rest is_read chosen (was_opened before after (Ok it) opens prints same told)) job is =
    let its : it ≡ job = cc (is) in
    subst (λ (j : JobView). AppendsPart old.streams.output.contents new.streams.output.contents (images_of j.labels)) its
    (labels_part it.labels _ _ new.streams status told.0)
