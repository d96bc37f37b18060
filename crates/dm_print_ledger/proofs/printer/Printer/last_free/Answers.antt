use Rattle.std.proofs.Common.{◌≤◌, ◌∙◌, arith, sym}
use Rattle.std.proofs.lemmas.Option.{MatchOption-at_none, MatchOption-at_some}
use Rattle.dm_print_ledger.proofs.{LastLaws.last_is_found, Rising.sound_ranges}
use Rattle.dm_print_ledger.proofs.printer.Printer.last_free.Goals as goal

pub returns-then-count-eq0 : goal.returns-then-count-eq0
returns-then-count-eq0 g c =
    let ledger = c.self.inside.ledger in
    let found = last_is_found ledger.free 1 (sound_ranges ledger c.self.invariant.sound) (let one : 1 ≤ 1 = omega arith in one) in
    let most = rw c.ranges-then-count-eq0.ensures.same at c.longest.ensures in
    rw (← c.self.view_is) (rw most (found.0, (λ some. absurd (omega arith))))

pub returns-in-Some : goal.returns-in-Some
returns-in-Some g c =
    let ledger = c.self.inside.ledger in
    let some : 1 ≤ c.args.count = omega arith in
    let found = last_is_found ledger.free c.args.count (sound_ranges ledger c.self.invariant.sound) some in
    rw (← c.self.view_is) (MatchOption-at_some _ _ c.in-Some.range
    (sym (rw c.ranges-2.ensures.same at c.last_of.ensures) ∙ c.in-Some.is) found.1)

pub returns-in-None : goal.returns-in-None
returns-in-None g c =
    let ledger = c.self.inside.ledger in
    let some : 1 ≤ c.args.count = omega arith in
    let found = last_is_found ledger.free c.args.count (sound_ranges ledger c.self.invariant.sound) some in
    let most = rw c.ranges-in-None.ensures.same at c.longest-in-None.ensures in
    rw (← c.self.view_is) (rw most (
      found.0,
      (λ some. MatchOption-at_none _ _
          (sym (rw c.ranges-2.ensures.same at c.last_of.ensures) ∙ c.in-None.is) found.1),
    ))
