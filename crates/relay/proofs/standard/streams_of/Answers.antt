use Rattle.std.proofs.Common.{rules}
use Rattle.relay.proofs.EmptyBuffers.{begun}
use Rattle.relay.proofs.standard.streams_of.Goals as goal

pub returns : goal.returns
returns g c = begun c.new.result (g.I.Read.remaining c.args.input.reader) c.args.output.out c.args.errors.out (search rules) (search rules)
    (search rules)
