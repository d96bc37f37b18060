use Rattle.std.proofs.Common.{◌≡◌, leb-true, le-leb, arith}
use Rattle.std.proofs.lemmas.Bool.{false≢true}
use Rattle.relay_printer_commands.proofs.print.suits.Goals as goal

pub returns-in-Some : goal.returns-in-Some
returns-in-Some c = rw c.in-AtMost.is (
  λ few. (c.in-Some.count, c.in-Some.ensures.some, omega (arith, leb-true _ _ few, c.from.ensures)),
  λ fits.
      let exact = c.in-Some.ensures.exact fits.0 fits.1 in
      let same : c.in-Some.count ≡ fits.0 = cc in
      le-leb _ _ (omega (arith, same, fits.2, c.from.ensures)),
)

pub returns-in-None : goal.returns-in-None
returns-in-None c = rw c.in-AtMost.is (
  λ no. absurd (false≢true no),
  λ fits. let wrong = c.in-None.ensures.exact fits.0 fits.1 in cc,
)
