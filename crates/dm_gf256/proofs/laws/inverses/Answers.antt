use Rattle.dm_gf256.proofs.Ring.{inverse, inverse_byte, product-inverse}
use Rattle.dm_gf256.proofs.laws.inverses.Goals as goal

pub returns : goal.returns
returns c = λ a p q. (inverse a, inverse_byte a q, product-inverse a p q)
