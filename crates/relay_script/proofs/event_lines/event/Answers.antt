use Rattle.relay_script.specs.{Scripts.SpellsEvent, Words.IsRead}
use Rattle.relay_script.proofs.Texts.{by_words}
use Rattle.relay_script.proofs.event_lines.event.Goals as goal

pub returns-in-print : goal.returns-in-print
returns-in-print g c =
    let in_line = c.in-print in
    by_words (λ words. IsRead c.print.result (SpellsEvent words)) c.args.words.now 5 _ in_line.len_at_least
    in_line.len_below in_line.is-print c.print.ensures

pub returns-in-scan : goal.returns-in-scan
returns-in-scan g c =
    let in_line = c.in-scan in
    by_words (λ words. IsRead c.scan.result (SpellsEvent words)) c.args.words.now 4 _ in_line.len_at_least
    in_line.len_below in_line.is-scan c.scan.ensures
