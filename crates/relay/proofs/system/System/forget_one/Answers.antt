use Rattle.std.proofs.Common.{refl, ◌∙◌}
use Rattle.relay.specs.Program.{forgets_it}
use Rattle.relay.proofs.system.System.forget_one.Goals as goal

pub returns-in-Ok-ended : goal.returns-in-Ok-ended
returns-in-Ok-ended g c =
    let does = rw c.in-Ok-ended.is at c.do_here-ended.ensures.does in
    forgets_it c.args.file c.as_str.result refl (c.as_str.ensures.value ∙ c.in-Ok.ensures.text) does
