use Rattle.std.proofs.{Common.lit<, Common.refl, lemmas.Iterator.Consumers.nth_from_yields_List}
use Rattle.std.proofs.lemmas.Iterator.Splits.{YieldsList-from_str_split}
use Rattle.relay_script.proofs.Parts.{text_at}
use Rattle.relay_script.proofs.script.line_at.Goals as goal

pub returns : goal.returns
returns c =
    rw c.unwrap_or.ensures
    (text_at _ c.args.place c.nth.result _ (nth_from_yields_List _ _ c.args.place c.nth.ensures.ran
    (YieldsList-from_str_split 10 c.args.text.now (lit< tt) c.split.ensures.text c.split.ensures.has_more
    c.split.ensures.pattern)) refl)
