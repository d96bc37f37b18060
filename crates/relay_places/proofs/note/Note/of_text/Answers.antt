use Rattle.std.proofs.Common.{◌∙◌, sym, subst}
use Rattle.relay_places.specs.Notes.{IsNote}
use Rattle.relay_places.proofs.NoteLines.{note_of_line}
use Rattle.relay_places.proofs.note.Note.of_text.Goals as goal

pub invariant_of-result : goal.invariant_of-result
invariant_of-result c =
    let none = rw c.as_bytes.ensures.value at (sym c.contains.ensures.value ∙ c.if-contains.false) in
    subst IsNote (sym c.in-Ok.ensures) (note_of_line c.args.text.now none)
