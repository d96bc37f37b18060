use Rattle.std.proofs.Common.{rules}
use Rattle.relay_symbols.specs.Symbols.{ReadsText}
use Rattle.relay_symbols.proofs.Answered.{answered}
use Rattle.relay_symbols.proofs.symbols.relay_text_from_image.Goals as goal

pub returns : goal.returns
returns c =
    answered (ReadsText c.args.image.now) c.text_of.result c.text_of.ensures c.answer.ensures (search rules)
