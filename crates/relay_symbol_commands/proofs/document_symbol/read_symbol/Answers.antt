use Rattle.std.proofs.{Common.inl, Common.inr, Common.arith, Common.ℕ, Common.◌<◌, Common.◌≤◌, Common.ap, Common.Err, lemmas.Bool.cases_lt}
use Rattle.relay_symbol_commands.proofs.document_symbol.read_symbol.Goals as goal

-- it fits where it is not too long
fits : (room need : ℕ) → (room < need → ⊥) → need ≤ room
fits room need short = elim (cases_lt room need) [
  | inl below ↦ absurd (short below)
  | inr all ↦ all
]

pub returns-in-Err-Memory-clause-symbol : goal.returns-in-Err-Memory-clause-symbol
returns-in-Err-Memory-clause-symbol g c = ((_, c.in-Some.ensures.found), inl (c.in-Err-Memory.ensures.unread (ap Err c.in-Err-Memory.field-0-is)))

pub returns-in-Err-Memory-encode-clause-symbol : goal.returns-in-Err-Memory-encode-clause-symbol
returns-in-Err-Memory-encode-clause-symbol g c =
    let document = c.in-Ok.document.items in
    let too_long = rw c.deref.ensures.value at c.in-Err-Memory-encode.ensures.too_long in (
      (_, c.in-Some.ensures.found),
      inr (
        c.in-Some.size,
        document,
        c.in-Some.ensures.found,
        c.in-Ok.ensures.taken,
        fits _ _ (λ below. cc (too_long.1 (omega (arith, below)))),
      ),
    )

pub returns-in-Ok-complete-clause-symbol : goal.returns-in-Ok-complete-clause-symbol
returns-in-Ok-complete-clause-symbol g c =
    let document = c.in-Ok.document.items in
    let too_long = rw c.deref.ensures.value at c.in-Ok-encode.ensures.too_long in
    let filled = rw c.deref.ensures.value at c.in-Ok-encode.ensures.filled in (
      document,
      c.in-Ok.ensures.taken,
      record {
        is_side = c.in-Some.ensures.found;
        fits = fits _ _ (λ below. cc (too_long.1 (omega (arith, below))));
        completed = rw (c.deref-2.ensures.value, filled) at c.in-Ok-complete.ensures.completed;
      },
    )

pub returns-clause-symbol : goal.returns-clause-symbol
returns-clause-symbol g c =
    let document = c.in-Ok.document.items in
    let too_long = rw c.deref.ensures.value at c.in-Ok-encode.ensures.too_long in (
      (_, c.in-Some.ensures.found),
      inr (
        c.in-Some.size,
        document,
        c.in-Some.ensures.found,
        c.in-Ok.ensures.taken,
        fits _ _ (λ below. cc (too_long.1 (omega (arith, below)))),
      ),
    )
