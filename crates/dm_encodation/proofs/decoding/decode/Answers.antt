use Rattle.std.proofs.Common.{◌+◌, drop, arith}
use Rattle.dm_encodation.proofs.Reread.{decided, bytes_from}
use Rattle.dm_encodation.proofs.decoding.decode.Goals as goal

pub returns-in_default-clause-memory : goal.returns-in_default-clause-memory
returns-in_default-clause-memory g c = λ _.
    let read = c.in_ok-read_words.ensures.collects in (
      read.0,
      decided (c.args.from + 1) (drop c.args.from c.args.words.now) read.0
          (bytes_from c.args.from c.args.words.now (λ i. omega (arith, c.type_inv.words i))) read.1,
    )
