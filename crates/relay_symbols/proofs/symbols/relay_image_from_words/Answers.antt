use Rattle.std.proofs.Common.{rules}
use Rattle.relay_symbols.specs.Symbols.{DrawsWords}
use Rattle.relay_symbols.proofs.Answered.{answered}
use Rattle.relay_symbols.proofs.symbols.relay_image_from_words.Goals as goal

pub returns : goal.returns
returns c =
    answered (DrawsWords c.args.side c.args.words.now) c.words_image.result c.words_image.ensures c.answer.ensures (search rules)
