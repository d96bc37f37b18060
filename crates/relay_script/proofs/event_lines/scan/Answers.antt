use Rattle.std.proofs.{Common.arith, Common.[], Common.◌∷◌, lemmas.Grind.common_steps}
use Rattle.dm_event_history.specs.declared.event.Event.TheVariants.{Scan}
use Rattle.relay_script.proofs.{Names.no_scan, Refused.refused_with}
use Rattle.relay_script.proofs.event_lines.scan.Goals as goal

pub returns-in_err-flips : goal.returns-in_err-flips
returns-in_err-flips g c =
    let words = c.args in
    let read = c.in-Some-Some-Some in
    refused_with _ _ _ _ c.in_err-flips.field-0.0 c.from_residual.ensures.1 c.in_err-flips.ensures
    (λ none. no_scan (words.desk.now ∷ words.label.now ∷ words.end.now ∷ words.modules.now ∷ [])
    (λ _ _ flips _ is. none flips is.4))
    (λ flips fits. (Scan read.desk read.label flips read.stop, grind (arith, common_steps, fits)))
