use Rattle.std.proofs.lemmas.Result.{MatchResult-weaker}
use Rattle.relay_symbol_commands.specs.Symbols.RefusesPicture.{shape, grid}
use Rattle.relay_symbol_commands.proofs.read.line_of_image.Goals as goal

pub returns-in-Some : goal.returns-in-Some
returns-in-Some g c =
    let inside = c.in-Some.ensures in
    MatchResult-weaker c.line_of_grid.result c.line_of_grid.ensures (λ line has. (c.in-Some.grid, inside.0, inside.1, has))
    (λ refusal. grid c.in-Some.grid inside.0 inside.1)

pub returns-in-None : goal.returns-in-None
returns-in-None g c = shape c.in-None.ensures
