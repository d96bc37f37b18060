use Rattle.std.proofs.Common.{◌≡◌, arith, length, map, refl}
use Rattle.std.proofs.lemmas.{List.length-map}
use Rattle.std.specs.Prelude.{option_map}
use Rattle.relay_printer_commands.specs.Printers.{Gathers.begun}
use Rattle.relay_printer_commands.proofs.AuditSteps.{nothing, one_more_file}
use Rattle.relay_printer_commands.proofs.audit.gather_files.Goals as goal

pub loop-i-init : goal.loop-i-init
loop-i-init g c = λ lines. (_, begun, rw c.requires refl, nothing c.args.output.now)

pub loop-i-preserved : goal.loop-i-preserved
loop-i-preserved g c = λ lines. one_more_file g.F.NamedFile.known c.args.files.now lines c.loop-i.i
    c.index-files-i.result c.of_file-seen.result _ (option_map (λ some. some.items) c.gather-told.new.sound) _ _ _ _ _ c.loop-i-test.true c.index-files-i.is
    (c.loop-i.invariant lines) c.of_file-seen.ensures c.gather-told.ensures

pub returns : goal.returns
returns g c = λ lines.
    let all : c.loop-i.i ≡ length (map g.F.NamedFile.known c.args.files.now) = omega (arith, length-map c.args.files.now g.F.NamedFile.known) in
    rw all at (c.loop-i.invariant lines)
