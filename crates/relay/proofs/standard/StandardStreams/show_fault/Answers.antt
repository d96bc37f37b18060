use Rattle.std.proofs.Common.{inl, sym, rules}
use Rattle.relay.proofs.standard.StandardStreams.show_fault.Goals as goal

pub returns-in-Line-default-eq0 : goal.returns-in-Line-default-eq0
returns-in-Line-default-eq0 g c =
    rw c.in-Line-default-eq0.is (inl (rw (sym c.as_str.ensures.value) c.show_help.ensures, search rules))
