use Rattle.std.proofs.Common.{arith}
use Rattle.dm_gf256.proofs.Tables.{exponent_table, exponent_most}
use Rattle.dm_gf256.proofs.powers.exponent_of.Goals as goal

pub returns : goal.returns
returns c =
    let e = exponent_table c.args.a (omega arith) in
    record { exponent = e; most = exponent_most c.args.a _ e }
