use Rattle.std.proofs.Common.{◌∙◌, ap, subst, sym}
use Rattle.clap.specs.Words.{found_of, rows_of}
use Rattle.relay_line.proofs.Commands.{is_doing, not_listed, rules_told}
use Rattle.relay_line.specs.Line.{EndsAmong}
use Rattle.relay_line.specs.Rules.{endings_kept}
use Rattle.relay_line.proofs.parse.line_of_name.Goals as goal

pub returns-in_default : goal.returns-in_default
returns-in_default c = subst (λ b. EndsAmong (endings_kept b) c.unknown.result)
    (sym (not_listed _ _ (rows_of (found_of c.args.options.now)) c.all_commands.ensures c.in_default.ensures)) c.unknown.ensures

pub line_of-requires : goal.line_of-requires
line_of-requires c = is_doing _ _ (rules_told _ _ _ _ _ c.all_commands.ensures c.in-Some.ensures c.in_ok-faults.ensures
    ∙ (sym c.is_empty.ensures ∙ c.if-is_empty.true)) c.requires.no_explain c.requires.no_version

pub returns-then-is_empty : goal.returns-then-is_empty
returns-then-is_empty c =
    let kept = rules_told _ _ _ _ _ c.all_commands.ensures c.in-Some.ensures c.in_ok-faults.ensures ∙ (sym c.is_empty.ensures ∙ c.if-is_empty.true) in
    (ap endings_kept kept, (c.in_ok-line_of.ensures.command, c.in_ok-line_of.ensures.files))

pub returns : goal.returns
returns c =
    let wrong = rules_told _ _ _ _ _ c.all_commands.ensures c.in-Some.ensures c.in_ok-faults.ensures ∙ (sym c.is_empty.ensures ∙ c.if-is_empty.false) in
    subst (λ b. EndsAmong (endings_kept b) c.shown.result) (sym wrong) c.shown.ensures
