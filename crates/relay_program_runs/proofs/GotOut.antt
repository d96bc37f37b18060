-- What a command wrote is of what counts as let out.
use Rattle.std.proofs.Common.{◌≡◌, ◌⊎◌, inl, inr, ℕ, List, None, Option, Some, Result, Ok, Err, refl, ap, subst, arith}
use Rattle.std.specs.{Prelude.IfSome, Prelude.MatchResult, Prelude.option_map, Io.KnownBytes.Appends, Result.result_ok}
use Rattle.dm_size.specs.declared.size.Size.{Size}
use Rattle.dm_encodation.specs.declared.scheme.Scheme.{Scheme}
use Rattle.dm_finder_frame.specs.Frame.{GridView}
use Rattle.dm_pbm_io.specs.Image.{p4}
use Rattle.dm_assembly_desk.specs.Documents.{Documents}
use Rattle.dm_print_ledger.specs.{declared.fault.GiveFault.GiveFault, declared.range.Range.Range, Ledger.JobView, Ledger.TicketView, Verdicts.give_fault_name, Verdicts.open_fault_name, declared.fault.GiveFault.TheVariants.NotFree}
use Rattle.relay_command.specs.declared.command.Command.{Command}
use Rattle.relay_command.specs.declared.command.Command.TheVariants.{Copy, Export, Give, GiveLast, Print}
use Rattle.relay_command.specs.declared.command.Labels.{Labels}
use Rattle.relay_streams.specs.Streams.{AppendsPart, refused_line}
use Rattle.relay_streams.proofs.Parts.{part_whole}
use Rattle.relay_shared.specs.Command.{FileView, RefusesOnErrors, StreamsView, Tells, TellsAnswer, TellsBytes, TellsRefusal}
use Rattle.relay_printer_commands.specs.Printers.{EndsGive, EndsGiveLast, EndsPrint, OnLedger, PrintsLabels, images_of, ledger_at, ticket_line, PrintsLabels.no_line, PrintsLabels.all, PrintsLabels.lost}
use Rattle.relay_printer_commands.specs.Printers.EndsPrint.{no_side as no_print_side, not_read, too_long, read as was_read}
use Rattle.relay_printer_commands.specs.Printers.PrintsDocument.{opened as was_opened, not_opened}
use Rattle.relay_printer_commands.specs.Printers.EndsGive.{opened as give_opened, not_opened as give_not_opened}
use Rattle.relay_printer_commands.specs.Printers.{EndsGiveLast.gave, EndsGiveLast.too_few, EndsGiveLast.unopened}
use Rattle.relay_desk_commands.specs.Desks.{EndsCopy, EndsExport, GivesCopy, OnDesk, EndsCopyOf.no_side, EndsCopyOf.of_side, EndsOnId.no_id, EndsOnId.of_id, EndsAtDesk.no_desk, EndsAtDesk.opened}
use Rattle.relay_desk_commands.specs.declared.copy.CopyOptions.{CopyOptions}
use Rattle.relay_runs.specs.Runs.{job_ended, ticket_given, ticket_given_last}
use Rattle.relay_runs.proofs.PrintTold.{print_out}
use Rattle.relay_desk_runs.specs.Answered.{file_exported, if_copied, label_copied}
use Rattle.relay.specs.Program.{Does}
use Rattle.relay_program_runs.specs.Passed.{Passed, passed_by}
use Rattle.relay_program_runs.specs.Law.{Halts, Ran, WritesPart, cut_short, exited, passed_at, status_of}
use Rattle.relay_program_runs.specs.Written.{IsCounted, WhatIsOutCounts, WritesOf, WritesTicket}

-- ---- by the status that it exited with, or would have

abbrev PartBy : List ℕ → StreamsView → ℕ → StreamsView → Type 0
PartBy bytes old status new = AppendsPart old.output.contents new.output.contents bytes
    × (status ≡ 0 → Appends old.output.contents new.output.contents bytes)

abbrev OfBy : Option (List ℕ) → StreamsView → ℕ → StreamsView → Type 0
OfBy (Some bytes) old status new = PartBy bytes old status new
OfBy None old status new = (new.output ≡ old.output) × (status ≡ 1)

abbrev TicketBy : Option TicketView → StreamsView → ℕ → StreamsView → Type 0
TicketBy (Some ticket) old status new = PartBy (ticket_line ticket) old status new
TicketBy None old status new = (name : List ℕ) × PartBy (refused_line name) old status new × (status ≡ 1)

-- ---- lines

one_not_zero : {X : Type 0} {status : ℕ} → status ≡ 1 → status ≡ 0 → X
one_not_zero one zero = absurd (omega arith)

pub refused_one : {X Y Z : Type 0} {status : ℕ} → (X × (status ≡ 1)) ⊎ (Y × Z × (status ≡ 1)) → status ≡ 1
refused_one (inl told) = told.1
refused_one (inr told) = told.2

told_on_errors : {X Y Z : Type 0} {status : ℕ} {mid new : StreamsView} →
    ((X × (status ≡ 1)) ⊎ (Y × Z × (status ≡ 1))) × (new ≡ mid) → (new.output ≡ mid.output) × (status ≡ 1)
told_on_errors told = (ap (λ (s : StreamsView). s.output) told.1, refused_one told.0)

told_part : (line : List ℕ) (wanted : ℕ) (old new : StreamsView) (status : ℕ) →
    Tells line wanted old.output status new.output → PartBy line old status new
told_part line wanted old new status (inl told) = (part_whole _ _ line told.0, λ zero. told.0)
told_part line wanted old new status (inr told) = (told.1, λ zero. one_not_zero told.2 zero)

told_refusal : (name : List ℕ) (old new : StreamsView) (status : ℕ) → TellsRefusal name old.output status new.output →
    TicketBy None old status new
told_refusal name old new status told = (name, told_part (refused_line name) 1 old new status told, refused_one told)

-- ---- each command

labels_all : (labels : List GridView) (line : List ℕ) (old new : StreamsView) (status : ℕ) →
    PrintsLabels labels line old status new → status ≡ 0 →
    Appends old.output.contents new.output.contents (images_of labels)
labels_all labels line old new status (no_line failed part same is) zero = one_not_zero is zero
labels_all labels line old new status (all out images is) zero = images
labels_all labels line old new status (lost errors refusal out loses told) zero = one_not_zero (refused_one told) zero

print_counts : {number : ℕ} {labels : Labels} {scheme : Scheme} (old new : OnLedger) (status : ℕ)
    (ends : EndsPrint number labels scheme old status new) →
    OfBy (option_map (λ (job : JobView). images_of job.labels) (job_ended ends)) old.streams status new.streams
print_counts old new status (no_print_side side same told) = told_on_errors told
print_counts old new status (not_read fault rest side failed same told) = told_on_errors told
print_counts old new status (too_long document rest side is_read long same told) = told_on_errors told
print_counts old new status (was_read size document rest is_read chosen (not_opened fault opens same told)) =
    told_on_errors told
print_counts old new status
    (was_read size document rest is_read chosen (was_opened before after (Err fault) opens prints same told)) =
    told_on_errors told
print_counts old new status
    (was_read size document rest is_read chosen (was_opened before after (Ok it) opens prints same told)) = (
      print_out old new status
          (was_read size document rest is_read chosen (was_opened before after (Ok it) opens prints same told)) it refl,
      labels_all it.labels _ _ new.streams status told.0,
    )

given_counts : (given : Result (List ℕ) (List ℕ)) (old new : StreamsView) (status : ℕ) →
    MatchResult given (λ bytes. TellsBytes bytes old status new) (λ name. RefusesOnErrors name old status new) →
    OfBy (result_ok given) old status new
given_counts (Ok bytes) old new status (inl told) = (part_whole _ _ bytes told.0, λ zero. told.0)
given_counts (Ok bytes) old new status (inr told) =
    (told.1, λ zero. one_not_zero (refused_one told.3) zero)
given_counts (Err name) old new status told = told_on_errors told

export_counts : {text : List ℕ} (old new : OnDesk) (status : ℕ) (ends : EndsExport text old status new) →
    OfBy (file_exported ends) old.streams status new.streams
export_counts old new status (no_id isnt same refuses) = told_on_errors refuses
export_counts old new status (of_id id text_is (no_desk name has refuses)) = told_on_errors refuses
export_counts old new status (of_id id text_is (opened desk opens rest)) =
    given_counts rest.0 old.streams new.streams status rest.2

copied_counts : (id m : ℕ) (size : Size) (scheme : Scheme) (held : Documents) (given : Result (List ℕ) (List ℕ))
    (gives : GivesCopy id m size scheme held given) (old new : StreamsView) (status : ℕ) →
    OfBy (result_ok given) old status new → OfBy (option_map p4 (if_copied id m size scheme held given gives)) old status new
copied_counts id m size scheme held (Ok bytes) gives old new status of =
    subst (λ (b : List ℕ). PartBy b old status new) gives.2 of
copied_counts id m size scheme held (Err name) gives old new status of = of

copy_counts : (options : CopyOptions) (old new : OnDesk) (status : ℕ) (ends : EndsCopy options old status new) →
    OfBy (option_map p4 (label_copied ends)) old.streams status new.streams
copy_counts options old new status (no_id isnt same refuses) = told_on_errors refuses
copy_counts options old new status (of_id id text_is (no_side isnt same refuses)) = told_on_errors refuses
copy_counts options old new status (of_id id text_is (of_side size is (no_desk name has refuses))) = told_on_errors refuses
copy_counts options old new status (of_id id text_is (of_side size is (opened desk opens rest))) =
    copied_counts id options.page size options.scheme desk.held rest.0 rest.1 old.streams new.streams status
    (given_counts rest.0 old.streams new.streams status rest.2)

answer_counts : (answer : Result TicketView GiveFault) (old new : StreamsView) (status : ℕ) →
    TellsAnswer ticket_line give_fault_name answer old.output status new.output →
    TicketBy (result_ok answer) old status new
answer_counts (Ok ticket) old new status told = told_part (ticket_line ticket) 0 old new status told
answer_counts (Err fault) old new status told = told_refusal (give_fault_name fault) old new status told

give_counts : {number to : ℕ} {range : Range} (old new : OnLedger) (status : ℕ)
    (ends : EndsGive number to range old status new) → TicketBy (ticket_given ends) old.streams status new.streams
give_counts old new status (give_opened before after answer opens gives same told only) =
    answer_counts answer old.streams new.streams status told
give_counts old new status (give_not_opened fault opens same told) =
    told_refusal (open_fault_name fault) old.streams new.streams status told.0

give_last_counts : {number to count : ℕ} (old new : OnLedger) (status : ℕ)
    (ends : EndsGiveLast number to count old status new) → TicketBy (ticket_given_last ends) old.streams status new.streams
give_last_counts old new status (gave range before after answer last opens gives same told only) =
    answer_counts answer old.streams new.streams status told
give_last_counts old new status (too_few before most put opens longest less same told notes reads) =
    told_refusal (give_fault_name NotFree) old.streams new.streams status told
give_last_counts old new status (unopened fault opens same told) =
    told_refusal (open_fault_name fault) old.streams new.streams status told.0

-- ---- however it ended

module _ (A : Type 0) where
  abbrev CountsBy : Command → Passed → OnDesk → ℕ → OnDesk → Type 0
  CountsBy (Print file number labels scheme) p before status after =
      OfBy (option_map (λ (job : JobView). images_of job.labels) p.printed) before.streams status after.streams
  CountsBy (Copy file id page side scheme) p before status after =
      OfBy (option_map p4 p.copied) before.streams status after.streams
  CountsBy (Export file id) p before status after = OfBy p.exported before.streams status after.streams
  CountsBy (Give file number to first last) p before status after = TicketBy p.given before.streams status after.streams
  CountsBy (GiveLast file number to count) p before status after = TicketBy p.given before.streams status after.streams
  CountsBy other p before status after = Unit {0}

  by_does : (command : Command) (inputs : List FileView) (before : OnDesk) (status : ℕ) (after : OnDesk)
      (does : Does A command inputs before status after) →
      CountsBy command (passed_by A command inputs before status after does) before status after
  by_does (Print file number labels scheme) inputs before status after does =
      print_counts (ledger_at before.files.joint before.streams) (ledger_at after.files.joint after.streams) status does.0.0
  by_does (Copy file id page side scheme) inputs before status after does =
      copy_counts (record { id = id; page = page; side = side; scheme = scheme }) before after status does
  by_does (Export file id) inputs before status after does = export_counts before after status does
  by_does (Give file number to first last) inputs before status after does =
      give_counts (ledger_at before.files.joint before.streams) (ledger_at after.files.joint after.streams) status does.0
  by_does (GiveLast file number to count) inputs before status after does =
      give_last_counts (ledger_at before.files.joint before.streams) (ledger_at after.files.joint after.streams) status does.0
  by_does other inputs before status after does = tt

  -- if nobody saw the status, less is said
  module _ (ran : Ran A) (status : ℕ) (seen : (P : ℕ → Type 0) → P status → IfSome (status_of ran.ends) P) where
    part_so : (bytes : List ℕ) → PartBy bytes ran.before.streams status ran.after.streams → WritesPart bytes ran
    part_so bytes so = (
      so.0,
      seen (λ s. s ≡ 0 → Appends ran.before.streams.output.contents
          ran.after.streams.output.contents bytes) so.1,
    )

    of_so : (o : Option (List ℕ)) → OfBy o ran.before.streams status ran.after.streams → WritesOf o ran
    of_so (Some bytes) so = part_so bytes so
    of_so None (same, is) = (same, seen (λ s. s ≡ 1) is)

    ticket_so : (o : Option TicketView) → TicketBy o ran.before.streams status ran.after.streams → WritesTicket o ran
    ticket_so (Some ticket) so = part_so (ticket_line ticket) so
    ticket_so None (name, part, is) = (name, part_so (refused_line name) part, seen (λ s. s ≡ 1) is)

    counts_so : (command : Command) → CountsBy command (passed_at ran.ends) ran.before status ran.after → IsCounted command ran
    counts_so (Print file number labels scheme) so = of_so _ so
    counts_so (Copy file id page side scheme) so = of_so _ so
    counts_so (Export file id) so = of_so _ so
    counts_so (Give file number to first last) so = ticket_so _ so
    counts_so (GiveLast file number to count) so = ticket_so _ so
    counts_so other so = tt

  by_end : (command : Command) (inputs : List FileView) (before after : OnDesk)
      (ends : Halts A command inputs before after) → let ran : Ran A =
      record { command = command; inputs = inputs; before = before; after = after; ends = ends } in IsCounted command ran
  by_end command inputs before after (exited status does) =
      let ran : Ran A = record {
        command = command;
        inputs = inputs;
        before = before;
        after = after;
        ends = exited status does;
      } in
      counts_so ran status (λ P so. so) command (by_does command inputs before status after does)
  by_end command inputs before after (cut_short status does) =
      let ran : Ran A = record {
        command = command;
        inputs = inputs;
        before = before;
        after = after;
        ends = cut_short status does;
      } in
      counts_so ran status (λ P so. tt) command (by_does command inputs before status after does)

  pub what_is_out_counts : WhatIsOutCounts A
  what_is_out_counts ran = by_end ran.command ran.inputs ran.before ran.after ran.ends
