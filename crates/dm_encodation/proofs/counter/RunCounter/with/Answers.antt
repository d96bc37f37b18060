use Rattle.std.proofs.Common.{refl, ap, ◌+◌, ℕ}
use Rattle.dm_encodation.proofs.RunWords.{counts_run_whole, counts_run_open}
use Rattle.dm_encodation.proofs.counter.RunCounter.with.Goals as goal

pub returns-then-values-eq0 : goal.returns-then-values-eq0
returns-then-values-eq0 c = counts_run_whole c.args.letters c.args.self _ c.args.byte
    (ap (λ (n : ℕ). c.args.self.values + n) c.values_in.ensures.exact) c.if-values-eq0.true refl c.start.ensures

pub returns : goal.returns
returns c = counts_run_open c.args.letters c.args.self _ c.args.byte
    (ap (λ (n : ℕ). c.args.self.values + n) c.values_in.ensures.exact) c.if-values-eq0.false refl c.with.ensures
