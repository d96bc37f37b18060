use Rattle.std.proofs.Common.{ℕ, ◌+◌, drop, Option, subst, arith}
use Rattle.std.proofs.lemmas.{List.length-drop}
use Rattle.dm_encodation.specs.inner.Reading.{Holds}
use Rattle.dm_encodation.proofs.Lengths.{reads_short}
use Rattle.dm_encodation.proofs.Reread.{decided, bytes_from}
use Rattle.dm_encodation.proofs.decoding.decode_to_slice.Goals as goal

pub unreachable-requires : goal.unreachable-requires
unreachable-requires c =
    let read = c.in_ok-count.ensures.collects in
    let short = subst (λ (n : Option ℕ). Holds c.read_words.new.room n read.0) c.in-None.is read.2 in
    let whole = decided (c.args.from + 1) (drop c.args.from c.args.words.now) read.0
    (bytes_from c.args.from c.args.words.now (λ i. omega (arith, c.type_inv.words i))) read.1 in
    omega (arith, length-drop c.args.from c.args.words.now, reads_short whole.reads, short, c.in_ok-count.ensures.same, c.requires.wide)

pub returns-clause-read : goal.returns-clause-read
returns-clause-read c =
    let read = c.in_ok-count.ensures.collects in
    let held = subst (λ (n : Option ℕ). Holds c.read_words.new.room n read.0) c.in-Some.is read.2 in
    rw (held.1) (
      held.0,
      decided (c.args.from + 1) (drop c.args.from c.args.words.now) read.0
          (bytes_from c.args.from c.args.words.now (λ i. omega (arith, c.type_inv.words i))) read.1,
    )
