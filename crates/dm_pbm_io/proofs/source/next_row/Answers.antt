use Rattle.std.proofs.Common.{take, refl, rules, arith}
use Rattle.dm_pbm_io.specs.Header.HasNoByte.{ended, failed}
use Rattle.dm_pbm_io.proofs.Streaming.{remembers-other}
use Rattle.dm_pbm_io.proofs.source.next_row.Goals as goal

pub returns-in-Ok : goal.returns-in-Ok
returns-in-Ok g c =
    let front = c.in-Ok.ensures.taken in (
      take c.in-Ok.count c.fill_buffer.new.buffer,
      record { consumed = front.filled.consumed; remembers = remembers-other _ _ _ front.kept (λ e. cc) },
      search rules,
      ended (front.filled.ended (omega arith)),
    )

pub returns-in-Err-Read : goal.returns-in-Err-Read
returns-in-Err-Read g c =
    let part = c.in-Err-Read.ensures.part in (
      part.0,
      record {
        consumed = part.1;
        remembers = record { failed = λ _. c.in-Err-Read.ensures.failed; kept = λ n. absurd (n refl) };
      },
      part.2,
      failed,
    )
