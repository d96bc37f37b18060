use Rattle.std.proofs.Common.{rules}
use Rattle.relay_symbols.specs.Symbols.{DrawsLabel}
use Rattle.relay_symbols.proofs.Answered.{answered}
use Rattle.relay_symbols.proofs.labels.relay_label_from_text.Goals as goal

pub returns : goal.returns
returns c =
    answered (DrawsLabel c.args.side _) c.label_image.result c.label_image.ensures c.answer.ensures (search rules)
