use Rattle.std.proofs.Common.{◌≡◌, ◌<◌, ◌∙◌, ℕ, Bor, List, Option, Some, ap, arith, length, rules, sym}
use Rattle.std.proofs.lemmas.{Grind.common_steps, Iterator.Consumers.YieldsList-at, Iterator.Consumers.YieldsList-end, Iterator.Consumers.YieldsList-turn}
use Rattle.std.proofs.lemmas.{Option.slice_get-get_or, Bool.eqb-false, Bool.eqb-true}
use Rattle.std.specs.{Prelude.option_map, Prelude.slice_get, Iterator.AlwaysYields, Iterator.Yields}
use Rattle.relay_printer_commands.specs.Printers.{Gathers.empty}
use Rattle.relay_printer_commands.specs.inner.Kept.{without_end}
use Rattle.relay_printer_commands.proofs.AuditSteps.{one_more_line}
use Rattle.relay_printer_commands.proofs.audit.gather_lines.Goals as goal

-- where the next line stands
line_at : {S : Type 0} (steps : S → Option (Bor (List ℕ)) → S → Type 0) (all : List (List ℕ)) {start first now next : S}
    {item : Option (Bor (List ℕ))} {line : Bor (List ℕ)} (yielded : List (Bor (List ℕ))) →
    AlwaysYields steps (λ line. without_end line.now) start all → first ≡ start → Yields steps first yielded now → item ≡ Some line →
    steps now item next → (length yielded < length all) × (slice_get all (length yielded) ≡ Some (without_end line.now))
line_at steps all yielded yields same so_far is step =
    let turn = YieldsList-turn {steps = steps} {v = λ line. without_end line.now} (YieldsList-at same (record { runs = yields })) yielded _ so_far _ _ _ is step in
    (turn.0, slice_get-get_or all (length yielded) _ turn.0 ∙ ap (λ x. Some x) (sym turn.1))

pub overflow_add-place : goal.overflow_add-place
overflow_add-place g c =
    let (all, yields, few) = c.requires.few in
    let (can, finite, place, so_far) = c.loop-line.invariant in
    let at = line_at g.I.Iterator.next_gives all c.loop-line.yielded yields c.into_iter-line-iterator.ensures.into_iter_gives c.loop-line.yielded_by c.in-Some.is c.next.ensures.steps in
    omega (arith, place, at.0, few)

pub loop-line-preserved-then-not-is_empty : goal.loop-line-preserved-then-not-is_empty
loop-line-preserved-then-not-is_empty g c =
    let (can, finite, place, so_far) = c.loop-line.invariant in (
      search rules,
      search rules,
      grind (arith, common_steps, place),
      λ files all old gathered yields.
          let at = line_at g.I.Iterator.next_gives all c.loop-line.yielded yields c.into_iter-line-iterator.ensures.into_iter_gives c.loop-line.yielded_by c.in-Some.is c.next.ensures.steps in
          one_more_line files all c.loop-line.place (without_end c.in-Some.line.now) c.of_line-seen.result c.kept_in-before.result.now
          (option_map (λ some. some.items) c.args.ledgers.now) _ (option_map (λ some. some.items) c.gather-told.new.sound) _ _ _ _ _
          (rw (← place) at at.1) (eqb-false _ _ (sym (rw c.without_end-text.ensures at c.is_empty.ensures) ∙ c.if-not-is_empty.true)) c.kept_in-before.ensures (so_far files all old gathered yields)
          (rw c.without_end-text.ensures at c.of_line-seen.ensures) c.gather-told.ensures,
    )

pub loop-line-preserved : goal.loop-line-preserved
loop-line-preserved g c =
    let (can, finite, place, so_far) = c.loop-line.invariant in (
      search rules,
      search rules,
      grind (arith, common_steps, place),
      λ files all old gathered yields.
          let at = line_at g.I.Iterator.next_gives all c.loop-line.yielded yields c.into_iter-line-iterator.ensures.into_iter_gives c.loop-line.yielded_by c.in-Some.is c.next.ensures.steps in
          let kept = so_far files all old gathered yields in
          (kept.0, empty (without_end c.in-Some.line.now) kept.1 (rw (← place) at at.1) (eqb-true _ _ (sym (rw c.without_end-text.ensures at c.if-not-is_empty.ensures))), kept.2, kept.3),
    )

pub returns : goal.returns
returns g c = λ all yields files old gathered.
    let (can, finite, place, so_far) = c.loop-line.invariant in
    let end = YieldsList-end {steps = g.I.Iterator.next_gives} {v = λ line. without_end line.now} (YieldsList-at c.into_iter-line-iterator.ensures.into_iter_gives (record { runs = yields })) c.loop-line.yielded _ c.loop-line.yielded_by _ _ c.in-None.is c.next.ensures.steps in
    rw (place, end.1) at (so_far files all old gathered yields)
