use Rattle.std.proofs.Common.{sym, refl, inl, inr}
use Rattle.relay.specs.Program.{system_at}
use Rattle.relay.proofs.NotBegun.{not_begun}
use Rattle.relay.proofs.system.System.do_saved.Goals as goal

-- a command that was not begun: its refusal, and that all is as it was
pub returns-in_default : goal.returns-in_default
returns-in_default g c =
    let none = rw c.in_default.is at c.do_kept-ended.ensures.does in (
      none.0,
      not_begun (system_at c.args.self.standard (g.P.Places.state c.args.self.places))
          (system_at c.do_kept-ended.result.2.standard (g.P.Places.state c.do_kept-ended.result.2.places))
          c.do_kept-ended.result.1.items none.1 c.do_kept-ended.ensures.output,
    )

pub returns-then-status-ne0 : goal.returns-then-status-ne0
returns-then-status-ne0 g c = record {
  ended = c.in-Ok.status;
  bytes = c.do_kept-ended.result.1.items;
  done = _;
  does = rw c.in-Ok.is at c.do_kept-ended.ensures.does;
  output = c.do_kept-ended.ensures.output;
  saves = inl (c.if-status-ne0.true, refl, refl);
}

pub returns : goal.returns
returns g c = record {
  ended = c.in-Ok.status;
  bytes = c.do_kept-ended.result.1.items;
  done = _;
  does = rw c.in-Ok.is at c.do_kept-ended.ensures.does;
  output = c.do_kept-ended.ensures.output;
  saves = inr (c.if-status-ne0.false, rw (sym c.as_slice.ensures.value) c.save_output-status.ensures.saves);
}
