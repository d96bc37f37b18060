use Rattle.std.proofs.Common.{◌≡◌, true, ap, arith, length, nat_lt, vec_len}
use Rattle.dm_assembly_desk.specs.Documents.{summaries}
use Rattle.relay_desk_commands.proofs.lines.room_text.Goals as goal

pub returns : goal.returns
returns g c =
    let count : c.len-count.result ≡ length (summaries c.args.desk.now.held) =
    grind (arith, vec_len, ap length c.in_ok-held.ensures.list) in
    let more : nat_lt (length (summaries c.args.desk.now.held)) 1024 ≡ true = grind (arith, count, c.if-count.false) in
    rw (more, ← count) c.format-2.ensures.ok
