use Rattle.std.proofs.Common.{◌≡◌, arith, rules}
use Rattle.std.specs.Io.BufRead.{strip_last}
use Rattle.relay_script.specs.Scripts.{AreLinesOf, IsScript}
use Rattle.relay_script.specs.Words.{cut_at}
use Rattle.relay_script.proofs.Refused.{read_so}
use Rattle.relay_script.proofs.script.read_script.Goals as goal

pub returns : goal.returns
returns g c =
    let same : cut_at 10 c.without_end.result.now ≡ cut_at 10 (strip_last 10 c.args.bytes.now) = search rules in
    let read = rw same at c.read_lines.ensures in
    read_so c.read_lines.result (AreLinesOf (cut_at 10 (strip_last 10 c.args.bytes.now))) (IsScript c.args.bytes.now)
    (λ script lines. record { short = omega arith; is_text = search rules; lines = lines }) (λ script is. is.lines) read
