use Rattle.std.proofs.Common.{◌≡◌, map, take, [], false}
use Rattle.clap.specs.Words.{app_of}
use Rattle.clap.specs.Simple.{new_shape}
use Rattle.clap.specs.declared.Command.TheViews.{out-Command}
use Rattle.relay_line.specs.Parsed.{argument_of, rule_of_argument}
use Rattle.relay_line.proofs.options.subcommand.Given as goal

-- the arguments so far
abbrev pub invariant-loop-at : goal.invariant-loop-at
invariant-loop-at l = record {
  app : app_of l.command ≡ record {
    top = record (new_shape l.listed.name.now) { rules = map (λ row. rule_of_argument (argument_of row)) (take l.at l.listed.rows.now) };
    subs = [];
  };
  local : (out-Command l.command).has_globals ≡ false;
}
