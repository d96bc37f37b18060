use Rattle.std.proofs.Common.{◌≤◌, [], length, arith}
use Rattle.std.proofs.lemmas.List.{append-nil, drop_all}
use Rattle.dm_print_ledger.proofs.job.labels_by.Goals as goal

pub returns : goal.returns
returns g c =
    let past : length c.args.ends.now ≤ c.loop-end.end-index = omega arith in
    let done = rw (drop_all c.loop-end.end-index c.args.ends.now past) at (c.loop-end.invariant.so_far []) in
    rw (append-nil c.loop-end.labels.items) at (done tt)
