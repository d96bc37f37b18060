use Rattle.std.proofs.Common.{◌≡◌, length, lit<, ap, arith}
use Rattle.std.proofs.lemmas.{Grind.common_steps, Iterator.Consumers.YieldsList-at, Iterator.Consumers.YieldsList-end}
use Rattle.std.proofs.lemmas.Iterator.{Consumers.YieldsList-turn, Splits.YieldsList-from_str_split}
use Rattle.relay_script.proofs.spelled.words.Goals as goal

pub returns-then-is_full : goal.returns-then-is_full
returns-then-is_full c =
    let turn = YieldsList-turn (YieldsList-at c.into_iter-word-iterator.ensures.into_iter_gives
    (YieldsList-from_str_split 32 c.args.line.now (lit< tt) c.split-word-items.ensures.text
    c.split-word-items.ensures.has_more c.split-word-items.ensures.pattern))
    c.loop-word.yielded _ c.loop-word.yielded_by _ _ _ c.in-Some.is c.next.ensures.steps in
    let long : length c.loop-word.words.items ≡ length c.loop-word.yielded = ap length c.loop-word.invariant in
    grind (arith, common_steps, turn.0, long)

pub returns : goal.returns
returns c =
    let end = YieldsList-end (YieldsList-at c.into_iter-word-iterator.ensures.into_iter_gives
    (YieldsList-from_str_split 32 c.args.line.now (lit< tt) c.split-word-items.ensures.text
    c.split-word-items.ensures.has_more c.split-word-items.ensures.pattern))
    c.loop-word.yielded _ c.loop-word.yielded_by _ _ c.in-None.is c.next.ensures.steps in
    rw c.loop-word.invariant end.0
