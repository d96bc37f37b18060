use Rattle.std.proofs.Common.{◌∙◌, sym}
use Rattle.relay_desk_commands.proofs.held_long.long_text.Goals as goal

pub line_of-requires : goal.line_of-requires
line_of-requires g c = c.pages.ensures.order.entries _ _ (sym c.pages.ensures.held ∙ c.in-Some-pages.is)
