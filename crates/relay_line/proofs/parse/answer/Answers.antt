use Rattle.std.proofs.Common.{ℕ, List, Some, subst, sym}
use Rattle.clap.specs.Words.{found_of, rows_of}
use Rattle.relay_line.proofs.Endings.{explain_ends, other_endings, version_ends}
use Rattle.relay_line.specs.Line.{Gives, IsLineMet}
use Rattle.relay_line.proofs.parse.answer.Goals as goal

pub returns-in-version : goal.returns-in-version
returns-in-version c = version_ends c.args.name.now (rows_of (found_of c.args.options.now)) c.shown.result c.in-version.is c.shown.ensures

pub returns-in-explain : goal.returns-in-explain
returns-in-explain c = explain_ends c.args.name.now (rows_of (found_of c.args.options.now)) c.explanation_of.result c.some_text_of-refusal.result _ c.in-explain.is
    c.some_text_of-refusal.ensures c.explanation_of.ensures

pub returns-in_default : goal.returns-in_default
returns-in_default c = subst (λ (statuses : List ℕ). Gives statuses (IsLineMet (Some (c.args.name.now, (rows_of (found_of c.args.options.now))))) c.line_of_name.result)
    (sym (other_endings c.args.name.now (rows_of (found_of c.args.options.now)) c.in_default.not-version c.in_default.not-explain)) c.line_of_name.ensures
