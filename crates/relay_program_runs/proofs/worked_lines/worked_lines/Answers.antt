use Rattle.std.proofs.Common.{◌∙◌, ap, refl, sym, subst}
use Rattle.std.specs.{Prelude.string_bytes, Str.bytes_eq}
use Rattle.dm_store.specs.Saved.{Saved, SavedSet}
use Rattle.relay.specs.Places.{files_of, kept_at}
use Rattle.relay_program_runs.specs.WorkedLines.{AreBlank}
use Rattle.relay_program_runs.proofs.WorkedLines.{blank_or}
use Rattle.relay_program_runs.proofs.worked_lines.worked_lines.Goals as goal

pub lines_over-requires : goal.lines_over-requires
lines_over-requires c = λ path.
    blank_or (bytes_eq (string_bytes c.in-Ok.path) path) (files_of c.set_next.new.self c.new.result)
    (kept_at c.new-2.result.items path) (
      record {
        honest = ap (λ (s : Saved). s.is_honest) (c.set_next.ensures) ∙ ap (λ (s : Saved). s.is_honest) c.new-store.ensures;
        empty = ap (λ (s : Saved). s.content) (c.set_next.ensures) ∙ ap (λ (s : Saved). s.content) c.new-store.ensures;
      },
      record {
        honest = ap (λ (s : SavedSet). s.is_honest) c.new.ensures;
        empty = ap (λ (s : SavedSet). s.content) c.new.ensures;
      },
    )
    (subst (λ kept. AreBlank (kept_at kept path)) (sym c.new-2.ensures.items)
    (record { honest = refl; empty = refl }, record { honest = refl; empty = refl }))
