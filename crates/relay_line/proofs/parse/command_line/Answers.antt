use Rattle.std.proofs.Common.{◌∙◌, map}
use Rattle.clap.specs.declared.parser.matches.ArgMatches.TheViews.{out-ArgMatches}
use Rattle.relay_line.proofs.Lines.{given_parts, gives_same, met_by_table, met_is, refused_ends, taken_endings}
use Rattle.relay_line.proofs.parse.command_line.Goals as goal

pub returns-in-Err-clause-wrong : goal.returns-in-Err-clause-wrong
returns-in-Err-clause-wrong g c = refused_ends _ c.in_ok-program.ensures (map g.S.AsStr.text c.args.words.now) c.in-Err.error
    c.fault_of.result c.in-Err.ensures.kinds c.fault_of.ensures.ends c.fault_of.ensures.memory

pub returns : goal.returns
returns g c =
    let words = map g.S.AsStr.text c.args.words.now in
    let matches = c.in-Ok.matches in
    let is = c.in_ok-program.ensures in
    let met =
    met_is c.subcommand.result (out-ArgMatches matches).subcommand c.subcommand.ensures.variant c.subcommand.ensures.name c.subcommand.ensures.rows
    ∙ met_by_table _ is words matches c.in-Ok.ensures.matches in
    let ends = taken_endings _ is words _ _ c.in-Ok.ensures.kinds c.word_of-word.ensures met in
    let parts = given_parts _ _ _ (gives_same _ _ _ _ _ ends met c.line_met.ensures) in
    record { right = parts.0; line = parts.1; wrong = parts.2 }
