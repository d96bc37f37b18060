use Rattle.std.proofs.Common.{refl, sym}
use Rattle.relay.proofs.standard.StandardStreams.show_on_errors.Goals as goal

pub returns : goal.returns
returns g c = rw (sym c.self.view_is) (refl, refl, c.show-errors.ensures.part)
