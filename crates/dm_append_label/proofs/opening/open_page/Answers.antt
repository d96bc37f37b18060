use Rattle.dm_append_label.proofs.Near.{found_opens}
use Rattle.dm_append_label.proofs.opening.open_page.Goals as goal

pub returns-clause-opens : goal.returns-clause-opens
returns-clause-opens c = found_opens c.args.grid.now c.in_ok-symbol.symbol c.find_page.new.room c.find_page.result
    c.in_ok-symbol.ensures.corrects c.in_ok-symbol.ensures.near c.find_page.ensures.page c.find_page.ensures.bounds
