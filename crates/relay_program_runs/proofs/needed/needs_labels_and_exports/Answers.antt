use Rattle.std.proofs.Common.{refl, sym, ◌∙◌}
use Rattle.std.specs.Prelude.{IsTrue}
use Rattle.relay_program_runs.specs.Worked.{NeedsExports, NeedsFolders, NeedsLabels}
use Rattle.relay_program_runs.proofs.{Steps.done_so, ShortLists.taken_in_needed}
use Rattle.relay_program_runs.proofs.needed.needs_labels_and_exports.Goals as goal

pub returns : goal.returns
returns g c =
    let all : IsTrue c.are_documents.result → NeedsLabels _ × NeedsExports _ × NeedsFolders _ = λ well.
    taken_in_needed (done_so c.nothing-2.ensures refl refl c.done-scan.ensures) c.done-here.ensures
    (done_so c.nothing-3.ensures refl refl c.done-import.ensures) c.done-there.ensures refl refl refl refl
    (sym c.deref-3.ensures.value ∙ (c.are_documents.ensures well).0)
    (sym c.deref-4.ensures.value ∙ (c.are_documents.ensures well).1) in
    record { labels = λ well. (all well).0; exports = λ well. (all well).1; folders = λ well. (all well).2 }
