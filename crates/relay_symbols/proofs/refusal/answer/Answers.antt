use Rattle.std.proofs.Common.{rules, refl, arith, ◌∙◌}
use Rattle.std.proofs.lemmas.Int.{ints, to_z-of_z}
use mir.Syntax.{w64}
use Rattle.relay_symbols.specs.Symbols.AnswersCode.{found, no_room, refused}
use Rattle.relay_symbols.proofs.refusal.answer.Goals as goal

pub returns-in-Err : goal.returns-in-Err
returns-in-Err g c =
    refused c.in-Err.refusal (search rules) refl (to_z-of_z w64 _ (search rules) ∙ c.code.ensures)

pub returns-then-count-out : goal.returns-then-count-out
returns-then-count-out g c =
    no_room c.in-Ok.bytes.items (search rules) (search rules) refl
    (to_z-of_z w64 _ (search rules) ∙ c.code-then-count-out.ensures)

pub returns : goal.returns
returns g c = found c.in-Ok.bytes.items (search rules) (search rules) (search rules) (omega (arith, ints))
