use Rattle.std.proofs.Common.{arith, ◌∙◌}
use Rattle.dm_corrector.proofs.SymbolBlocks.{is_block}
use Rattle.dm_corrector.proofs.symbol.gather.Goals as goal

pub returns : goal.returns
returns c = is_block c.args.size c.args.number c.blocks-blocks.result c.args.words.now c.loop-k.block
    c.blocks-blocks.ensures.value (c.loop-k.auto.block ∙ c.requires.long) (λ i h. c.loop-k.invariant i (omega arith))
