use Rattle.relay_script.specs.{Scripts.SpellsEvent, Words.FitsWhereFound}
use Rattle.relay_script.proofs.Texts.{by_words}
use Rattle.relay_script.proofs.event_lines.plain_event.Goals as goal

pub returns-in-restart : goal.returns-in-restart
returns-in-restart g c =
    let in_line = c.in-restart in
    by_words (λ words. FitsWhereFound c.restart.result (SpellsEvent words)) c.args.words.now 2 _ in_line.len_at_least
    in_line.len_below in_line.is-restart c.restart.ensures

pub returns-in-ask : goal.returns-in-ask
returns-in-ask g c =
    let in_line = c.in-ask in
    by_words (λ words. FitsWhereFound c.ask.result (SpellsEvent words)) c.args.words.now 2 _ in_line.len_at_least
    in_line.len_below in_line.is-ask c.ask.ensures

pub returns-in-forget : goal.returns-in-forget
returns-in-forget g c =
    let in_line = c.in-forget in
    by_words (λ words. FitsWhereFound c.forget.result (SpellsEvent words)) c.args.words.now 3 _ in_line.len_at_least
    in_line.len_below in_line.is-forget c.forget.ensures

pub returns-in-give : goal.returns-in-give
returns-in-give g c =
    let in_line = c.in-give in
    by_words (λ words. FitsWhereFound c.give.result (SpellsEvent words)) c.args.words.now 5 _ in_line.len_at_least
    in_line.len_below in_line.is-give c.give.ensures

pub returns-in-take : goal.returns-in-take
returns-in-take g c =
    let in_line = c.in-take in
    by_words (λ words. FitsWhereFound c.take.result (SpellsEvent words)) c.args.words.now 3 _ in_line.len_at_least
    in_line.len_below in_line.is-take c.take.ensures

pub returns-in-export : goal.returns-in-export
returns-in-export g c =
    let in_line = c.in-export in
    by_words (λ words. FitsWhereFound c.export.result (SpellsEvent words)) c.args.words.now 2 _ in_line.len_at_least
    in_line.len_below in_line.is-export c.export.ensures

pub returns-in-import : goal.returns-in-import
returns-in-import g c =
    let in_line = c.in-import in
    by_words (λ words. FitsWhereFound c.import.result (SpellsEvent words)) c.args.words.now 3 _ in_line.len_at_least
    in_line.len_below in_line.is-import c.import.ensures
