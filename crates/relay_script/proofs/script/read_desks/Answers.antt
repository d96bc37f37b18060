use Rattle.std.proofs.{Common.arith, Common.replicate, lemmas.Grind.common_steps}
use Rattle.relay_script.specs.{Scripts.AreDesks, declared.words.ScriptFault.TheVariants.Memory}
use Rattle.relay_script.proofs.Refused.{refused_with}
use Rattle.relay_script.proofs.script.read_desks.Goals as goal

pub returns-in_err-vec : goal.returns-in_err-vec
returns-in_err-vec g c =
    refused_with _ _ _ (AreDesks c.args.line.now) Memory c.from_residual-in_err-vec.ensures.1
    (replicate c.in-Some-Some.count c.in-Some-Some.capacity, grind (arith, common_steps)) (λ none. none)
    (λ capacities fits. (capacities, fits))
