use Rattle.dm_gf256.proofs.Tables.{product_table}
use Rattle.dm_gf256.proofs.element.Gf.mul.Goals as goal

pub returns : goal.returns
returns c =
    product_table c.args.self.0 c.args.other.0 _ _ c.exponent_of.ensures.exponent c.exponent_of-2.ensures.exponent
