use Rattle.std.proofs.Common.{◌∙◌, sym, arith}
use Rattle.relay_line.proofs.Kept.{in_range, out_of_range}
use Rattle.relay_line.proofs.check.is_number.Goals as goal

pub returns-in-Ok : goal.returns-in-Ok
returns-in-Ok c = c.is_between.ensures ∙ in_range c.args.text.now c.args.least c.args.most c.in-Ok.number c.in-Ok.ensures.value.0.0 c.in-Ok.ensures.value.0.1

pub returns-in-Err : goal.returns-in-Err
returns-in-Err c = sym (out_of_range c.args.text.now c.args.least c.args.most (omega arith) c.in-Err.ensures.value.0)
