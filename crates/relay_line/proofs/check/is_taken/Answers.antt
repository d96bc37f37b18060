use Rattle.std.proofs.Common.{◌∙◌, ap, sym}
use Rattle.relay_line.specs.Rules.{takes}
use Rattle.relay_line.specs.declared.options.Values.{Values}
use Rattle.relay_line.proofs.Kept.{scheme_taken}
use Rattle.relay_line.proofs.check.is_taken.Goals as goal

pub returns-in-Scheme : goal.returns-in-Scheme
returns-in-Scheme c = c.is_some.ensures ∙ (scheme_taken c.args.value.now c.scheme_of.result c.scheme_of.ensures
    ∙ ap (λ (v : Values). takes v c.args.value.now) (sym c.in-Scheme.is))
