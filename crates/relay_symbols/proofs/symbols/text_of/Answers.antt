use Rattle.std.proofs.Common.{Err, ap, ◌∙◌, inl, inr, rules}
use Rattle.dm_symbol.specs.{Correction.CorrectsGrid, declared.fault.SymbolFault.SymbolFault}
use Rattle.dm_symbol.specs.declared.fault.SymbolFault.TheVariants.{Border, Block}
use Rattle.dm_size.specs.Sizes.{data_words}
use Rattle.dm_finder_frame.specs.Frame.{GridView}
use Rattle.relay_symbols.specs.Symbols.{IsTooWrong}
use Rattle.relay_symbols.proofs.symbols.text_of.Goals as goal

too_wrong : (grid : GridView) (fault : SymbolFault) → CorrectsGrid grid (Err fault) → IsTooWrong grid
too_wrong grid (Border wrong) is = inl (wrong, is)
too_wrong grid (Block block) is = inr (block, is)

pub returns-in_default : goal.returns-in_default
returns-in_default g c =
    let shows = rw c.in_ok-grid.was at (c.lent_grid.ensures c.args.image.now c.in_ok-image.ensures) in
    (c.in_ok-grid.grid, shows, too_wrong c.in_ok-grid.grid c.in_default.field-0 c.in_default.ensures)

pub returns-in-Ok-decode : goal.returns-in-Ok-decode
returns-in-Ok-decode g c =
    let shows = rw c.in_ok-grid.was at (c.lent_grid.ensures c.args.image.now c.in_ok-image.ensures) in
    let count = c.data_words.ensures.value ∙ ap data_words c.size-2.ensures in
    (c.in_ok-grid.grid, shows, (c.correct_words.new.words, c.in-Ok.ensures.read, rw count at c.in-Ok-decode.ensures.read))

pub returns : goal.returns
returns g c =
    let shows = rw c.in_ok-grid.was at (c.lent_grid.ensures c.args.image.now c.in_ok-image.ensures) in
    let count = c.data_words.ensures.value ∙ ap data_words c.size-2.ensures in
    let stuck = c.in-Err.ensures.stuck (λ e. search rules) in
    (c.in_ok-grid.grid, shows, (c.correct_words.new.words, c.in-Ok.ensures.read, c.in-Err.field-0, rw count at stuck))
