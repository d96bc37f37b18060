use Rattle.std.proofs.Common.{rules}
use Rattle.relay_symbols.specs.Symbols.{DrawsText}
use Rattle.relay_symbols.proofs.Answered.{answered}
use Rattle.relay_symbols.proofs.symbols.relay_symbol_from_text.Goals as goal

pub returns : goal.returns
returns c =
    answered (DrawsText c.args.side c.args.text.now) c.text_image.result c.text_image.ensures c.answer.ensures (search rules)
