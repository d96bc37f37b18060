use Rattle.std.proofs.Common.{◌≡◌, ◌≤◌, ◌+◌, ◌++◌, List, drop, length}
use Rattle.dm_finder_frame.specs.Frame.{GridView}
use Rattle.dm_append_label.specs.Labels.{PartsFit, parts_from}
use Rattle.dm_print_ledger.specs.Verdicts.{AreLabels}
use Rattle.dm_print_ledger.proofs.job.labels_by.Given as goal

abbrev pub invariant-loop-end : goal.invariant-loop-end
invariant-loop-end g l = record {
  m_is : l.m ≡ l.end-index + 1;
  least : 2 ≤ length l.ends;
  most : length l.ends ≤ 16;
  n_is : l.n ≡ length l.ends;
  rest : PartsFit l.size l.scheme l.document l.from (drop l.end-index l.ends);
  -- whatever completes the labels of the rest completes all
  so_far : (tail : List GridView) →
      AreLabels l.size l.scheme l.id (length l.ends) l.m
      (parts_from l.document l.from (drop l.end-index l.ends)) tail →
      AreLabels l.size l.scheme l.id (length l.ends) 1 (parts_from l.document 0 l.ends) (l.labels.items ++ tail);
}
