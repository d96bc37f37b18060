use Rattle.std.proofs.{Common.lit<, Common.rules, Common.tests, lemmas.Iterator.Search.position_from_yields_List}
use Rattle.std.proofs.lemmas.{Iterator.Splits.YieldsList-from_str_split, Str.Pattern.starts_text}
use Rattle.std.specs.{Prelude.codes, Prelude.nat_eq, List.starts_with}
use Rattle.relay_script.proofs.Lines.{place_found}
use Rattle.relay_script.proofs.script.desks_line.Goals as goal

pub returns : goal.returns
returns c =
    place_found _ _ c.position.result
    (position_from_yields_List (λ line. starts_with nat_eq line (codes "desks")) _ _ c.position.result
    c.position.ensures.ran (YieldsList-from_str_split 10 c.args.text.now (lit< tt) c.split.ensures.text
    c.split.ensures.has_more c.split.ensures.pattern) (λ x b q k. search (rules, tests, starts_text)))
