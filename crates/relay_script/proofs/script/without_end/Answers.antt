use Rattle.std.proofs.Common.{lit<}
use Rattle.std.proofs.lemmas.Str.Pattern.{strip_suffix_char}
use Rattle.relay_script.proofs.Lines.{stripped}
use Rattle.relay_script.proofs.script.without_end.Goals as goal

pub returns : goal.returns
returns c =
    rw c.unwrap_or.ensures
    (stripped _ _ (strip_suffix_char 10 _ c.strip_suffix.result c.strip_suffix.ensures.cases (lit< tt)))
