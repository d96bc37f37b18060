use Rattle.std.proofs.Common.{◌≡◌, false}
use Rattle.relay_shared.specs.Command.{AnswersImages}
use Rattle.relay_shared.proofs.images.each_image.Given as goal

abbrev pub invariant-loop-count : goal.invariant-loop-count
invariant-loop-count g l = record {
  written : AnswersImages g.C.OnImages.command (record {
    state = g.C.OnImages.state l.initial.command l.initial.errors;
    input = l.initial.input;
    output = l.initial.output;
  }) l.count l.refused (record { state = g.C.OnImages.state l.command l.errors; input = l.input; output = l.output });
  running : g.C.OnImages.command.has_ended (g.C.OnImages.state l.command l.errors) ≡ false;
  kept : g.C.OnImages.keeps l.initial.command l.initial.errors l.command l.errors;
}
