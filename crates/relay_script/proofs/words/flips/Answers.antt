use Rattle.std.proofs.Common.{◌≢◌, arith, codes, inr, lit<, ⊎_elim}
use Rattle.std.proofs.lemmas.{Grind.common_steps, Iterator.Splits.YieldsList-from_str_split}
use Rattle.relay_script.proofs.Refused.{refused_with}
use Rattle.relay_script.specs.Words.{AreFlipsOf}
use Rattle.relay_script.proofs.words.flips.Goals as goal

pub returns-in_err-read_all : goal.returns-in_err-read_all
unfolding AreFlipsOf
returns-in_err-read_all g c =
    let no_dash : c.args.word.now ≢ codes "-" = grind (arith, common_steps) in
    refused_with _ _ _ _ c.in_err-read_all.field-0.0 c.from_residual.ensures.1
    (c.in_err-read_all.ensures _ (YieldsList-from_str_split 59 c.args.word.now (lit< tt) c.split.ensures.text
    c.split.ensures.has_more c.split.ensures.pattern).runs)
    (λ none flips. ⊎_elim (λ dash. no_dash dash.0) (none flips)) (λ flips fits. (flips, inr fits))

pub returns : goal.returns
unfolding AreFlipsOf
returns g c =
    inr (c.in_ok-read_all.ensures _ (YieldsList-from_str_split 59 c.args.word.now (lit< tt) c.split.ensures.text
    c.split.ensures.has_more c.split.ensures.pattern).runs)
