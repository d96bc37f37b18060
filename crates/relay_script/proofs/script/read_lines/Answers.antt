use Rattle.std.proofs.Common.{◌+◌, ◌≤◌, drop, length, lit<, arith}
use Rattle.std.proofs.lemmas.{Iterator.Adapters.YieldsList-from_skip, Iterator.Consumers.YieldsList-at}
use Rattle.std.proofs.lemmas.{Iterator.Splits.YieldsList-from_str_split, Iterator.YieldsList-from_take, List.length-drop}
use Rattle.relay_script.specs.Words.{cut_at}
use Rattle.relay_script.proofs.Parts.{script_read}
use Rattle.relay_script.proofs.script.read_lines.Goals as goal

pub returns : goal.returns
returns g c =
    let lines = cut_at 10 c.args.text.now in
    let n = c.in-Some.printers in
    let few : length (drop (n + 1) lines) ≤ 10000 = omega (arith, length-drop (n + 1) lines, c.line_count.ensures) in
    let ranges = c.read_all-ranges.ensures _ (YieldsList-from_take n (YieldsList-at c.take.ensures.source
    (YieldsList-from_str_split 10 c.args.text.now (lit< tt) c.split.ensures.text c.split.ensures.has_more
    c.split.ensures.pattern)) c.take.ensures.count).runs in
    let events = c.read_all-events.ensures _ (YieldsList-from_skip (n + 1) (YieldsList-at c.skip.ensures.source
    (YieldsList-from_str_split 10 c.args.text.now (lit< tt) c.split-2.ensures.text c.split-2.ensures.has_more
    c.split-2.ensures.pattern)) c.skip.ensures.count).runs in
    script_read c.args.alloc lines c.read_all-ranges.result c.read_desks-capacities.result c.read_all-events.result
    c.script_of.result (omega arith) (omega arith) (rw c.in-Some.ensures.0 at few) c.script_of.ensures.read
    c.script_of.ensures.refused (rw c.in-Some.ensures.0 at ranges)
    (rw (c.line_at.ensures, c.in-Some.ensures.0) at c.read_desks-capacities.ensures) (rw c.in-Some.ensures.0 at events)
