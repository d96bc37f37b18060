use Rattle.std.proofs.Common.{◌≡◌, ◌≤◌, ◌+◌, ◌-◌, ◌++◌, length, take, vec_len, vec_capacity}
use Rattle.dm_event_world.specs.inner.Calls.{left_labels}
use Rattle.dm_event_world.proofs.printer_act.let_out.Given as goal

abbrev pub invariant-loop-before : goal.invariant-loop-before
invariant-loop-before g l = record {
  room : vec_len l.labels + length l.job.labels ≤ vec_capacity l.labels;
  out : l.labels.items ++ left_labels l.id l.count (l.before + 1) (take (l.most - l.before) l.job.labels) ≡
      l.initial.labels.items ++ left_labels l.id l.count 1 (take l.most l.initial.job.labels);
}
