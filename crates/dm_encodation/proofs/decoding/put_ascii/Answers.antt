use Rattle.std.proofs.Common.{◌≡◌, ◌+◌, ◌-◌, ◌/◌, ◌%◌, ◌++◌, [], ◌∷◌, ℕ, List, Option, Some, None, Ok, arith}
use Rattle.std.specs.Option.{IfSome}
use Rattle.dm_encodation.specs.inner.Reading.{Holds, ascii_step, step}
use Rattle.dm_encodation.specs.declared.mode.Mode.TheVariants.{Ascii}
use Rattle.dm_encodation.proofs.decoding.put_ascii.Goals as goal

-- the bytes that a codeword reads as were put, if they were
were_put : (result : Option ℕ) (old new : List ℕ) (count word : ℕ) (bytes : List ℕ)
    → ((position : ℕ) → Ok (Ascii, bytes) ≡ step Ascii position word)
    → ((before : List ℕ) → Holds old (Some count) before → Holds new result (before ++ bytes))
    → IfSome result (λ n. (position : ℕ) (before : List ℕ) → Holds old (Some count) before
    → (bytes : List ℕ) × (Ok (Ascii, bytes) ≡ step Ascii position word) × Holds new (Some n) (before ++ bytes))
were_put (Some n) old new count word bytes read put = λ position before held. (bytes, read position, put before held)
were_put None old new count word bytes read put = tt

pub returns-in-1-to-128-clause-put : goal.returns-in-1-to-128-clause-put
unfolding step ascii_step
returns-in-1-to-128-clause-put c =
    were_put _ _ _ _ c.args.word ((c.args.word - 1) ∷ []) (λ p. grind arith) c.put.ensures.put

pub returns-in-130-to-229-clause-put : goal.returns-in-130-to-229-clause-put
unfolding step ascii_step
returns-in-130-to-229-clause-put c =
    let n = c.args.word - 130 in
    were_put _ _ _ _ c.args.word ((48 + n / 10) ∷ (48 + n % 10) ∷ []) (λ p. grind arith) c.put-in-130-to-229.ensures.put
