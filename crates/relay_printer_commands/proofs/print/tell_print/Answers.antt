use Rattle.std.proofs.Common.{refl}
use Rattle.relay_printer_commands.specs.Printers.PrintsLabels.{lost}
use Rattle.relay_printer_commands.proofs.print.tell_print.Goals as goal

pub returns-in-Err-put_images-clause-told : goal.returns-in-Err-put_images-clause-told
returns-in-Err-put_images-clause-told g c =
    rw (c.in-Ok.is, ← c.streams.view_is) (
      lost c.put_printed.new.output c.in-Err-put_images.refusal
          (rw (c.id.ensures, c.count.ensures) at c.in-Ok-put_printed.ensures.written) c.in-Err-put_images.ensures
          (rw c.name-in-Err-put_images.ensures at c.refuse-in-Err-put_images.ensures),
      refl,
    )
