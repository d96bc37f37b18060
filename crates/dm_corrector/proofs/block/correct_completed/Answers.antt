use Rattle.std.proofs.Common.{sym, arith, length-take}
use Rattle.dm_gf256.proofs.OneBlockWord.{differ-self}
use Rattle.dm_corrector.specs.Symbols.{Corrects}
use Rattle.dm_corrector.proofs.Corrected.{itself, one_correction}
use Rattle.dm_corrector.proofs.block.correct_completed.Goals as goal

pub returns-then-is_zero : goal.returns-then-is_zero
returns-then-is_zero g c =
    let block = c.args.block.now in
    let word = c.write_remainder.ensures.remainder.clean.0 (c.is_zero.ensures.0 c.if-is_zero.true) in
    let same : Corrects c.args.checks block block =
    itself c.args.checks block c.write_remainder.ensures.bytes (λ k p q. word k p (simp length-take (omega arith))) in
    record {
      near = same;
      changed = sym (differ-self block);
      only = λ w r. one_correction c.args.checks block block w c.requires.fits same r;
      none = tt;
      unchanged = tt;
    }
