use Rattle.std.proofs.Common.{◌≡◌, ◌∙◌, ◌<◌, ◌≤◌, ◌||◌, ◌==◌, ℕ, List, [], ◌∷◌, length, map, true, false, refl, sym, arith}
use Rattle.std.proofs.{KnownBytes.Consumes-nil, lemmas.Bool.or_parts, lemmas.List.nil_from_length}
use Rattle.dm_assembly_desk.specs.Documents.{DeskView}
use Rattle.relay_streams.specs.Streams.{InputView, OutputView}
use Rattle.relay_streams.specs.declared.fault.InputFault.TheVariants as input_faults
use Rattle.relay_shared.specs.Command.{FileView, HasInputFault, TellsFiles}
use Rattle.relay_shared.proofs.Files.{at_last_file, at_no_file, one_more_file}
use Rattle.relay_desk_commands.specs.Desks.{EndsAtDesk.no_desk, EndsAtDesk.opened, EndsImport.not_read, EndsImport.read_files, ImportsFile}
use Rattle.relay_desk_commands.proofs.import.import_command.Goals as goal

no_file : {F : Type 0} (files : List F) → (length files == 0) ≡ true → files ≡ []
no_file files is = nil_from_length files (grind (arith, is))

some_file : {F : Type 0} (known : F → FileView) (files : List F) → (length files == 0) ≡ false →
    (file : FileView) × (later : List FileView) × (map known files ≡ file ∷ later)
some_file known [] is = cc (is)
some_file known (file ∷ later) is = (known file, map known later, refl)

no_room : (input : InputView) → HasInputFault input input input_faults.Memory
no_room input = record { read = λ e. cc (e); memory = λ e. refl }

abbrev Told : List FileView → DeskView × OutputView → ℕ → DeskView × OutputView → Type 0
Told = TellsFiles ImportsFile (λ at. at.1.has_failed || at.0.is_failed)

pub returns-then-is_empty-clause-ends : goal.returns-then-is_empty-clause-ends
returns-then-is_empty-clause-ends g c =
    rw (no_file c.args.files.now (sym c.is_empty.ensures ∙ c.if-is_empty.true)) c.import_input.ensures.ends

pub returns-in_default-clause-part : goal.returns-in_default-clause-part
returns-in_default-clause-part g c = rw (← c.streams.view_is) ([], Consumes-nil _, omega arith)

pub returns-in_default-clause-ends : goal.returns-in_default-clause-ends
returns-in_default-clause-ends g c =
    rw (← c.streams.view_is) (not_read input_faults.Memory (no_room _) refl
    (rw c.name.ensures at c.refuse.ensures) refl)

pub returns-in-Err-clause-part : goal.returns-in-Err-clause-part
returns-in-Err-clause-part g c = rw (← c.streams.view_is) ([], Consumes-nil _, omega arith)

pub returns-in-Err-clause-ends : goal.returns-in-Err-clause-ends
returns-in-Err-clause-ends g c =
    let none = c.in-Err.ensures in
    let f = some_file g.F.NamedFile.known c.args.files.now (sym c.is_empty.ensures ∙ c.if-is_empty.false) in
    rw (f.2, ← c.streams.view_is) (read_files (no_desk none.0 none.1 (none.2, refl)))

pub loop-file-preserved : goal.loop-file-preserved
loop-file-preserved g c =
    let there : c.loop-file.file-index < length c.args.files.now = omega arith in
    let goes_on = rw (c.has_failed.ensures, c.has_failed-in-loop-file.ensures) at c.if-has_failed.false in
    record {
      does = rw c.greater-status.ensures (one_more_file _ _ _ _ _ _ _ _ c.file-item.result _ _ there c.file-item.is
          c.loop-file.invariant.does c.import_file.ensures.does goes_on);
      running = (or_parts _ _ goes_on).1;
      kept = λ id m bytes held. c.import_file.ensures.kept id m bytes (c.loop-file.invariant.kept id m bytes held);
      room = c.loop-file.invariant.room;
    }

pub returns-then-has_failed-clause-part : goal.returns-then-has_failed-clause-part
returns-then-has_failed-clause-part g c = rw (← c.streams.view_is) ([], Consumes-nil _, omega arith)

pub returns-then-has_failed-clause-ends : goal.returns-then-has_failed-clause-ends
returns-then-has_failed-clause-ends g c =
    let opens = c.in-Ok-open_settled.ensures in
    let there : c.loop-file.file-index < length c.args.files.now = omega arith in
    let stops = rw (c.has_failed.ensures, c.has_failed-in-loop-file.ensures) at c.if-has_failed.true in
    let told : Told (map g.F.NamedFile.known c.args.files.now) (c.in-Ok-open_settled.opened.0.desk, c.open_settled.new.output)
    c.greater-status.result (c.import_file.new.desk, c.import_file.new.output) = rw c.greater-status.ensures
    (at_last_file _ _ _ _ _ _ _ _ c.file-item.result _ _ there c.file-item.is c.loop-file.invariant.does
    c.import_file.ensures.does stops) in
    let f = some_file g.F.NamedFile.known c.args.files.now (sym c.is_empty.ensures ∙ c.if-is_empty.false) in
    let all = rw (opens.1, f.2) at told in
    rw (f.2, ← c.streams.view_is) (read_files (opened c.in-Ok-open_settled.opened.0.desk opens.0 (
      c.import_file.new.desk,
      all,
      refl,
      (λ id m bytes held. c.import_file.ensures.kept id m bytes (c.loop-file.invariant.kept id m bytes held)),
      c.close.ensures.order,
      c.close.ensures.state,
    )))

pub returns-clause-part : goal.returns-clause-part
returns-clause-part g c = rw (← c.streams.view_is) ([], Consumes-nil _, omega arith)

pub returns-clause-ends : goal.returns-clause-ends
returns-clause-ends g c =
    let opens = c.in-Ok-open_settled.ensures in
    let ended : length c.args.files.now ≤ c.loop-file.file-index = omega arith in
    let told : Told (map g.F.NamedFile.known c.args.files.now) (c.in-Ok-open_settled.opened.0.desk, c.open_settled.new.output)
    c.loop-file.status (c.loop-file.desk, c.loop-file.output) =
    at_no_file _ _ _ _ _ _ _ _ ended c.loop-file.invariant.does in
    let f = some_file g.F.NamedFile.known c.args.files.now (sym c.is_empty.ensures ∙ c.if-is_empty.false) in
    let all = rw (opens.1, f.2) at told in
    rw (f.2, ← c.streams.view_is) (read_files (opened c.in-Ok-open_settled.opened.0.desk opens.0
    (c.loop-file.desk, all, refl, c.loop-file.invariant.kept, c.close-2.ensures.order, c.close-2.ensures.state)))
