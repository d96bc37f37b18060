use Rattle.std.proofs.Common.{ap, ◌∙◌, Some, inl}
use Rattle.dm_print_ledger.proofs.ReadLaws.{read_cut}
use Rattle.dm_print_ledger.proofs.shown.Shown.load.Goals as goal

pub returns-in-Some-clause-loads : goal.returns-in-Some-clause-loads
returns-in-Some-clause-loads g c = record {
  answer = λ honest. inl (c.shown_in.ensures.value
      ∙ read_cut _ c.as_slice.result.now (ap Some c.as_slice.ensures.value
      ∙ (rw c.in-Some.is at (c.in_ok-load.ensures.loads.saved honest))));
  device = λ is. absurd (c.shown_in.ensures.loaded.0 is);
  memory = λ is. absurd (c.shown_in.ensures.loaded.1 is);
}
