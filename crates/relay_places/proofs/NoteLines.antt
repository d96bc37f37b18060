-- Lines of notes, and notes one after another.
use Rattle.std.proofs.Common.{◌++◌, ◌==◌, List, [], ℕ, sym, subst, append_assoc, append-nil}
use Rattle.std.specs.{List.list_any, Prelude.IsFalse}
use Rattle.relay_places.specs.Notes.{IsNote, note_line, no_line, next_line}

-- a line of a text that has no end is a note
pub note_of_line : (text : List ℕ) → IsFalse (list_any (λ byte. byte == 10) text) → IsNote (note_line text)
note_of_line text has_none = subst IsNote (append-nil (note_line text)) (next_line text [] has_none no_line)

-- two notes are one
pub append_note : (first second : List ℕ) → IsNote first → IsNote second → IsNote (first ++ second)
append_note first second no_line later = later
append_note first second (next_line text rest has_none more) later =
    subst IsNote (sym (append_assoc (note_line text) rest second))
    (next_line text (rest ++ second) has_none (append_note rest second more later))
