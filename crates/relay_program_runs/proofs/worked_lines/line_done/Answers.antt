use Rattle.std.proofs.Common.{ap, refl, rules, sym}
use Rattle.relay.specs.Program.{StandardView}
use Rattle.relay_program_runs.proofs.worked_lines.line_done.Goals as goal

pub returns : goal.returns
returns g c = λ small.
    let named = c.names_only.ensures (search rules) in
    let done = rw c.new-3.ensures.items at (rw c.new-2.ensures.items at c.do_line-status.ensures) in
    record {
      line = c.in-Ok.line;
      right = c.in-Ok.ensures.right;
      is = c.in-Ok.ensures.line;
      command_is = refl;
      no_images = named.0;
      saved_is = named.1;
      standard = c.do_line-status.result.1.standard;
      does = done;
      output_is = ap (λ (s : StandardView). s.output) (sym c.standard.view_is);
    }
