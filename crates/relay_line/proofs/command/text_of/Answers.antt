use Rattle.std.proofs.Common.{◌∙◌, ap, is_some, sym}
use Rattle.std.proofs.lemmas.Bool.{true≢false}
use Rattle.clap.specs.Words.{found_of, rows_of}
use Rattle.clap.proofs.WalkLemmas.{both}
use Rattle.relay_line.proofs.Kept.{first_taken}
use Rattle.relay_line.proofs.command.text_of.Goals as goal

pub returns-in-Some : goal.returns-in-Some
returns-in-Some c = λ values kept. (
  sym c.in-Some.ensures,
  first_taken (rows_of (found_of c.args.options.now)) c.args.name.now values _ c.in-Some.ensures kept,
)

pub returns-in-None : goal.returns-in-None
returns-in-None c = λ values kept. absurd (true≢false (sym (both _ _ kept).0 ∙ ap is_some (sym c.in-None.ensures)))
