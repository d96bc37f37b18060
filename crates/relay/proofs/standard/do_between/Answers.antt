use Rattle.std.proofs.Common.{rules, sym}
use Rattle.relay.proofs.standard.do_between.Goals as goal

pub returns : goal.returns
returns g c = record {
  ended = c.do_command-ended.result.status;
  wrote = c.do_command-ended.new.streams;
  does = rw (sym c.standard.view_is)
      (rw c.new-errors.ensures at (rw c.output_of-output.ensures at (rw c.new.ensures at (rw c.streams_of-streams.ensures at c.do_command-ended.ensures))));
  out = rw (sym c.streams.view_is) (rw (sym c.into_writer.ensures) c.let_out-status.ensures);
  left = search rules;
}
