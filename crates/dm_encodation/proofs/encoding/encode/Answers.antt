use Rattle.std.proofs.Common.{rules, ◌≡◌, ◌≤◌, arith}
use Rattle.dm_size.specs.Sizes.{data_words}
use Rattle.dm_encodation.specs.Written.{filled, need_of}
use Rattle.dm_encodation.proofs.{Counters.need_near, Filled.length-filled, Filled.take-filled, Filled.filled_read, Reread.below_256}
use Rattle.dm_encodation.proofs.encoding.encode.Goals as goal

pub returns-then-bytes-room-clause-too_long : goal.returns-then-bytes-room-clause-too_long
returns-then-bytes-room-clause-too_long g c = grind (arith, need_near c.args.scheme c.args.bytes.now)

pub returns-clause-whole : goal.returns-clause-whole
returns-clause-whole g c = grind (arith, length-filled)

pub returns-clause-head : goal.returns-clause-head
returns-clause-head g c = grind (arith, take-filled)

pub returns-clause-reads : goal.returns-clause-reads
returns-clause-reads g c =
    let filled_so : c.in_ok-fill.field-0.items ≡ filled c.args.scheme c.args.head.now c.args.bytes.now
    (data_words c.args.size) = search rules in
    let bytes = below_256 c.args.bytes.now (λ i. omega (arith, c.type_inv.bytes i)) in
    let short : need_of c.args.scheme c.args.bytes.now ≤ 1304 =
    omega (
      arith,
      c.data_words-capacity.ensures.value,
      c.word_count.ensures,
      c.data_words-capacity.ensures.sound.most_data,
    ) in grind (arith, filled_read c.args.scheme c.args.head.now c.args.bytes.now (data_words c.args.size) bytes short)
