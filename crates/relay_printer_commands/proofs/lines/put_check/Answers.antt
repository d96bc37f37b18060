-- The groups are pieces of the digits, and the last is what is left of them.
use Rattle.std.proofs.Common.{◌≡◌, append_assoc, arith, take, drop}
use Rattle.std.proofs.lemmas.List.{drop-drop, length-drop, take_all}
use Rattle.relay_printer_commands.specs.Printers.{grouped}
use Rattle.relay_printer_commands.proofs.lines.put_check.Goals as goal

pub returns : goal.returns
unfolding grouped
returns g c =
    let digits = c.encode_to_slice.new.output in
    let last : take 4 (drop 20 digits) ≡ drop 20 digits =
    take_all 4 _ (omega (arith, length-drop 20 digits, c.encode_to_slice.auto.output)) in
    rw (← c.in-Ok.ensures.written) (simp (drop-drop, append_assoc) (rw (← last) record {
      written = c.put_all.ensures.written;
      part = c.put_all.ensures.part;
      failed = c.put_all.ensures.failed;
    }))
