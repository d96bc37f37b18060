use Rattle.std.proofs.Common.{◌<◌, ap, arith, of_calls, refl, length, map, rules, tests}
use Rattle.std.specs.{Str.Lines.lines as lines_of}
use Rattle.relay_printer_commands.proofs.AuditSteps.{no_ticket_yet, said_after}
use Rattle.relay_printer_commands.proofs.LineEnds.{few_lines, lines_with_ends}
use Rattle.relay_printer_commands.proofs.audit.audit.Goals as goal

pub gather_lines-told-requires : goal.gather_lines-told-requires
gather_lines-told-requires g c = λ k.
    let few : length (lines_of c.args.bytes.now) < 18446744073709551616 = omega (arith, few_lines c.args.bytes.now, c.split_inclusive-lines.type_inv, ap length c.split_inclusive-lines.ensures.rest) in (
      (refl, tt),
      (
        (search of_calls, tt),
        (
          lines_of c.args.bytes.now,
          lines_with_ends c.split_inclusive-lines.result _ c.args.bytes.now c.split_inclusive-lines.ensures.rest c.split_inclusive-lines.ensures.closure
              (λ x r q k. search (rules, tests)),
          few,
        ),
      ),
    )

pub returns : goal.returns
returns g c =
    let files = map g.F.NamedFile.known c.args.files.now in
    let lines = lines_of c.args.bytes.now in
    let ledgers = c.gather_files-told.ensures lines in
    said_after files lines _ c.args.output.now _ _ (c.gather_lines-told.ensures lines
    (lines_with_ends c.split_inclusive-lines.result _ c.args.bytes.now c.split_inclusive-lines.ensures.rest
    c.split_inclusive-lines.ensures.closure (λ x r q k. search (rules, tests))) files c.args.output.now
    (rw c.new-2.ensures.items (no_ticket_yet files lines _ 0 _ c.args.output.now _ ledgers))) c.tell_kept.ensures
