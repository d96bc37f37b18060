use Rattle.std.proofs.Common.{sym, subst}
use Rattle.std.specs.Prelude.{string_bytes}
use Rattle.relay_places.specs.Notes.{IsNote}
use Rattle.relay_places.proofs.NoteLines.{append_note}
use Rattle.relay_places.proofs.note.Note.then.Goals as goal

pub invariant_of-result : goal.invariant_of-result
invariant_of-result c =
    let both = append_note (string_bytes c.self.inside.lines) (string_bytes c.other.inside.lines) c.self.invariant c.other.invariant in
    subst IsNote (sym c.in-Ok.ensures) (rw (c.as_str.ensures.value, c.as_str-2.ensures.value) both)
