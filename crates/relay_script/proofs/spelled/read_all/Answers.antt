use Rattle.std.proofs.Common.{◌∷◌, ◌++◌, [], Bor, List, ℕ, length, arith, rules}
use Rattle.std.proofs.lemmas.Iterator.{YieldsList}
use Rattle.std.proofs.lemmas.{Grind.common_steps, Iterator.Consumers.YieldsList-at, Iterator.Consumers.YieldsList-end}
use Rattle.std.proofs.lemmas.{Iterator.Consumers.YieldsList-turn}
use Rattle.relay_script.proofs.Lines.{none_at, one_more}
use Rattle.relay_script.proofs.spelled.read_all.Goals as goal

pub loop-part-preserved-in-Ok : goal.loop-part-preserved-in-Ok
loop-part-preserved-in-Ok g c =
    let (can, finite, read, zip, kept) = c.loop-part.invariant in (
      search rules,
      search rules,
      read ++ c.in-Ok.item ∷ [],
      one_more g.T.Spelled.spells c.loop-part.yielded read c.in-Some.part c.in-Ok.item zip c.in-Ok.ensures,
      λ none. grind (arith, common_steps, kept, none),
    )

pub loop-part-preserved : goal.loop-part-preserved
loop-part-preserved g c =
    let (can, finite, read, zip, kept) = c.loop-part.invariant in
    let (item, fits) = rw c.in-Err-Memory.field-0-is at c.in-Err-Memory.ensures in (
      search rules,
      search rules,
      read ++ item ∷ [],
      one_more g.T.Spelled.spells c.loop-part.yielded read c.in-Some.part item zip fits,
      λ none. cc none,
    )

pub returns-in-Err-Script : goal.returns-in-Err-Script
returns-in-Err-Script g c = λ all yields items.
    let text : Bor (List ℕ) → List ℕ = λ part. part.now in
    let road : YieldsList g.I.Iterator.next_gives text c.into_iter-part-iterator.result all =
    YieldsList-at c.into_iter-part-iterator.ensures.into_iter_gives (record { runs = yields }) in
    let turn =
    YieldsList-turn road c.loop-part.yielded _ c.loop-part.yielded_by _ _ _ c.in-Some.is c.next.ensures.steps in
    none_at g.T.Spelled.spells all items (length c.loop-part.yielded) c.in-Some.part.now turn.0 turn.1
    (rw c.in-Err-Script.field-0-is at c.in-Err-Script.ensures)

pub returns-then-refused : goal.returns-then-refused
returns-then-refused g c = λ all yields.
    let text : Bor (List ℕ) → List ℕ = λ part. part.now in
    let road : YieldsList g.I.Iterator.next_gives text c.into_iter-part-iterator.result all =
    YieldsList-at c.into_iter-part-iterator.ensures.into_iter_gives (record { runs = yields }) in
    let end = YieldsList-end road c.loop-part.yielded _ c.loop-part.yielded_by _ _ c.in-None.is c.next.ensures.steps in
    let (can, finite, read, zip, kept) = c.loop-part.invariant in (read, rw end.0 at zip)

pub returns : goal.returns
returns g c = λ all yields.
    let text : Bor (List ℕ) → List ℕ = λ part. part.now in
    let road : YieldsList g.I.Iterator.next_gives text c.into_iter-part-iterator.result all =
    YieldsList-at c.into_iter-part-iterator.ensures.into_iter_gives (record { runs = yields }) in
    let end = YieldsList-end road c.loop-part.yielded _ c.loop-part.yielded_by _ _ c.in-None.is c.next.ensures.steps in
    let (can, finite, read, zip, kept) = c.loop-part.invariant in rw (kept c.if-refused.false) (rw end.0 at zip)
