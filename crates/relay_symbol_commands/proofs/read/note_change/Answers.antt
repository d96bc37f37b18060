use Rattle.std.proofs.Common.{arith, inl, inr}
use Rattle.relay_symbol_commands.proofs.read.note_change.Goals as goal

pub returns : goal.returns
returns g c = elim c.note_ending-ending.ensures [
  | inl none ↦ absurd (grind arith)
  | inr change ↦ inr (
    rw c.is_of_image.ensures at change.0,
    change.1,
    change.2,
    rw (c.name.ensures, c.deref.ensures, change.3) at c.put_image_note.ensures,
  )
]
