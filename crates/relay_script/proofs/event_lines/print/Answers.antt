use Rattle.std.proofs.{Common.arith, Common.[], Common.◌∷◌, lemmas.Grind.common_steps}
use Rattle.dm_event_history.specs.declared.event.Event.TheVariants.{Print}
use Rattle.relay_script.proofs.{Names.no_print, Refused.refused_with}
use Rattle.relay_script.proofs.event_lines.print.Goals as goal

pub returns-in_err-bytes : goal.returns-in_err-bytes
returns-in_err-bytes g c =
    let words = c.args in
    let read = c.in-Some-Some-Some-Some in
    refused_with _ _ _ _ c.in_err-bytes.field-0.0 c.from_residual.ensures.1 c.in_err-bytes.ensures
    (λ none. no_print (words.printer.now ∷ words.side.now ∷ words.scheme.now ∷ words.document.now ∷ words.end.now ∷ [])
    (λ _ document _ _ _ is. none document is.4))
    (λ document fits. (Print read.printer document read.size read.scheme read.stop, grind (arith, common_steps, fits)))
