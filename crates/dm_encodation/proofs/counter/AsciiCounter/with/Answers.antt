use Rattle.std.proofs.Common.{refl, sym, ap, ◌∙◌, ◌+◌, ℕ}
use Rattle.dm_encodation.proofs.AsciiWords.{counts_shared, counts_alone, not_both}
use Rattle.dm_encodation.proofs.counter.AsciiCounter.with.Goals as goal

pub returns-then-is_digit : goal.returns-then-is_digit
returns-then-is_digit c = counts_shared c.args.self _ c.args.byte c.if-self.true
    (sym c.is_ascii_digit-is_digit.ensures.value ∙ c.if-is_digit.true) refl refl

pub returns : goal.returns
returns c =
    let digit = c.is_ascii_digit-is_digit.ensures.value in
    counts_alone c.args.self _ c.args.byte (not_both _ _ _ digit c.else-self.either)
    (ap (λ (n : ℕ). c.args.self.words + n) c.words_of_byte.ensures.exact) digit
