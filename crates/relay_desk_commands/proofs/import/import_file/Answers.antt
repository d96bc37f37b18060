use Rattle.std.proofs.Common.{◌∙◌, inl, inr, refl, take}
use Rattle.relay_shared.proofs.Files.{first_of_file, read_named}
use Rattle.relay_streams.specs.declared.fault.InputFault.TheVariants as input_faults
use Rattle.relay_desk_commands.specs.Desks.ImportsFile.{file_not_read, file_read}
use Rattle.relay_desk_commands.proofs.import.import_file.Goals.{in-Ok-fill, in-Err-fill}
use Rattle.relay_desk_commands.proofs.import.import_file.Goals as goal

pub returns-in-Err-clause-does : goal.returns-in-Err-clause-does
returns-in-Err-clause-does g c = file_not_read c.in-Err.fault (inl c.in-Err.ensures.refused)
    (rw c.name.ensures at c.refuse.ensures)

pub returns-clause-does : goal.returns-clause-does
returns-clause-does g c = elim c.match-fill.branch [
  | in-Ok-fill w ↦
      let first = first_of_file (c.new-input.ensures.remaining ∙ c.in-Ok.ensures.opened)
      (c.fill.auto.buffer ∙ c.requires.room) w.in-Ok-fill.ensures.filled in
      rw (w.desk-is, w.output-is, w.status-is) (file_read (take w.in-Ok-fill.count c.fill.new.buffer) w.import.result first
      (w.import.ensures.imported c.requires.running) w.tell.ensures)
  | in-Err-fill w ↦
      rw (w.desk-is, w.output-is, w.status-is) (file_not_read input_faults.Read (inr refl)
      (rw (w.name-in-Err-fill.ensures, read_named w.in-Err-fill.fault) at w.refuse-in-Err-fill.ensures))
]

pub returns-clause-kept : goal.returns-clause-kept
returns-clause-kept g c = elim c.match-fill.branch [
  | in-Ok-fill w ↦ rw w.desk-is w.import.ensures.kept
  | in-Err-fill w ↦ rw w.desk-is (λ id m bytes held. held)
]
