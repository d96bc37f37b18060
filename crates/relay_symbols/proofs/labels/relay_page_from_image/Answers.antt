use Rattle.std.proofs.Common.{rules}
use Rattle.relay_symbols.specs.Symbols.{BeginsWithPage}
use Rattle.relay_symbols.proofs.Answered.{answered}
use Rattle.relay_symbols.proofs.labels.relay_page_from_image.Goals as goal

pub returns : goal.returns
returns c =
    answered (BeginsWithPage c.args.image.now) c.page_bytes.result c.page_bytes.ensures c.answer.ensures (search rules)
