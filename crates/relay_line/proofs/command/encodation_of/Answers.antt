use Rattle.std.proofs.Common.{◌∙◌, ℕ, List, Some, ap, sym}
use Rattle.std.proofs.lemmas.Bool.{true≢false}
use Rattle.relay_line.proofs.Kept.{no_scheme}
use Rattle.relay_line.specs.declared.options.Values.TheVariants.{Scheme}
use Rattle.relay_line.proofs.command.encodation_of.Goals as goal

pub returns-in-Some : goal.returns-in-Some
returns-in-Some c = λ kept. (c.text_of.ensures Scheme kept).0 ∙ ap (λ (t : List ℕ). Some t) c.in-Some.ensures

pub returns-in-None : goal.returns-in-None
returns-in-None c = λ kept. absurd (true≢false (sym (c.text_of.ensures Scheme kept).1 ∙ no_scheme _ c.in-None.ensures))
