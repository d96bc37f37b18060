use Rattle.relay_desk_commands.proofs.CopiedPages.{opens_as_held, opens_as_no_other}
use Rattle.relay_desk_commands.proofs.laws.copies_open_as_the_page_held.Goals as goal

pub returns-clause-itself : goal.returns-clause-itself
returns-clause-itself g c = λ held id m size scheme copies.
    opens_as_held c.args.grid.now _ copies
    (rw c.size-size.ensures.same at c.grid_carries_its_words.ensures)
    (rw c.size-size.ensures.same at c.unframe_undoes_frame.ensures.wrong)
    c.open_label.ensures

pub returns-clause-near : goal.returns-clause-near
returns-clause-near g c = λ held id m size scheme copy copies near.
    opens_as_no_other c.args.grid.now copy _ copies near c.open_label.ensures
