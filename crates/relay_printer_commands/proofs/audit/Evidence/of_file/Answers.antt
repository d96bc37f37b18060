use Rattle.std.proofs.Common.{◌∙◌, inl, inr, refl, sym, take}
use Rattle.relay_shared.proofs.Files.{first_of_file, read_named}
use Rattle.relay_streams.specs.declared.fault.InputFault.TheVariants as input_faults
use Rattle.relay_printer_commands.specs.Printers.ShowsFile.{not_read, read, refused}
use Rattle.relay_printer_commands.proofs.audit.Evidence.of_file.Goals as goal

pub returns-in-Err : goal.returns-in-Err
returns-in-Err g c = rw c.name.ensures (not_read c.in-Err.fault (inl c.in-Err.ensures.refused))

pub returns-in-Err-fill : goal.returns-in-Err-fill
returns-in-Err-fill g c =
    rw (c.name-name.ensures, read_named c.in-Err-fill.fault) (not_read input_faults.Read (inr refl))

pub returns-in-Ok-read : goal.returns-in-Ok-read
returns-in-Ok-read g c =
    let first = first_of_file (c.new-input.ensures.remaining ∙ c.in-Ok.ensures.opened) c.fill.auto.buffer
    c.in-Ok-fill.ensures.filled in
    (refl, read (take c.in-Ok-fill.count c.fill.new.buffer) c.in-Ok-read.shown first (sym c.read.ensures ∙ c.in-Ok-read.is))

pub returns : goal.returns
returns g c =
    let first = first_of_file (c.new-input.ensures.remaining ∙ c.in-Ok.ensures.opened) c.fill.auto.buffer
    c.in-Ok-fill.ensures.filled in
    rw c.name-in-Err-read.ensures (refused (take c.in-Ok-fill.count c.fill.new.buffer) c.in-Err-read.fault first
    (sym c.read.ensures ∙ c.in-Err-read.is))
