use Rattle.std.proofs.Common.{◌∙◌, [], List, ap, ap₂, ◌<◌, length, ◌||◌, sym, map}
use Rattle.std.proofs.lemmas.List.{map_more, take_all}
use Rattle.std.proofs.lemmas.Simd.{map-map}
use Rattle.clap.specs.Words.{App, Rule, with_rule}
use Rattle.clap.specs.Simple.{new_shape}
use Rattle.relay_line.specs.Parsed.{argument_of, rule_of_argument}
use Rattle.relay_line.specs.declared.options.Kind.TheVariants as kinds
use Rattle.relay_line.specs.declared.options.Values.TheVariants as values
use Rattle.relay_line.specs.declared.options.Row.{Row}
use Rattle.relay_line.proofs.options.subcommand.Goals as goal

abbrev some_row : Row
some_row = record {
  0 = record { ref_ptr = (0, 0); now = [] };
  1 = kinds.Optional;
  2 = values.Text;
}

abbrev rule_of_row : Row → Rule
rule_of_row row = rule_of_argument (argument_of row)

pub loop-at-preserved : goal.loop-at-preserved
loop-at-preserved c =
    let there : c.loop-at.at < length c.args.listed.now.rows.now = c.loop-at-test.true in
    let more = map_more rule_of_row c.args.listed.now.rows.now c.loop-at.at some_row there in
    record {
      app = c.in_ok-command.ensures.shape c.argument.ensures.local ∙ (ap₂ with_rule c.loop-at.invariant.app c.argument.ensures.rule
          ∙ ap (λ (rules : List Rule). record { top = record (new_shape c.args.listed.now.name.now) { rules = rules }; subs = [] }) (sym more));
      local = c.in_ok-command.ensures.globals ∙ ap₂ ◌||◌ c.loop-at.invariant.local c.argument.ensures.local;
    }

pub returns : goal.returns
returns c =
    let rows = c.args.listed.now.rows.now in
    record {
      shape = ap (λ (a : App). a.top) c.loop-at.invariant.app
          ∙ ap (λ (rules : List Rule). record (new_shape c.args.listed.now.name.now) { rules = rules })
          (ap (map rule_of_row) (take_all c.loop-at.at rows c.loop-at-test.false) ∙ sym (map-map rule_of_argument argument_of rows));
      local = c.loop-at.invariant.local;
    }
