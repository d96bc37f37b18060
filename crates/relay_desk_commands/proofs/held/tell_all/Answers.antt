use mir.Val.{bool_byte}
use Rattle.std.proofs.Common.{◌≡◌, ◌++◌, ◌∙◌, ℕ, List, Result, Ok, Err, true, ap, arith, refl, sym}
use Rattle.std.specs.Prelude.{MatchResult, is_err}
use Rattle.relay_desk_commands.specs.Desks.{joint_line, seen_line, Lists.begun, Lists.further, Says.all, Says.no_keys}
use Rattle.relay_desk_commands.specs.inner.Gathered.GathersHeld.{cut_off, whole}
use Rattle.relay_shared.proofs.Telling.{told, told_else}
use Rattle.relay_shared.specs.Command.{PutsText}
use Rattle.relay_streams.specs.{Streams.OutputView, declared.fault.WriteFault.WriteFault}
use Rattle.relay_desk_commands.proofs.held.tell_all.Goals.{then-unsound, else-unsound}
use Rattle.relay_desk_commands.proofs.held.tell_all.Goals as goal

pub loop-number-init : goal.loop-number-init
loop-number-init g c = record {
  text = joint_line c.args.joint.now;
  lists = rw c.is_err-unsound.ensures.value begun;
  puts = c.put_joint-put.ensures;
  same = c.keys.ensures.lists.same;
  first = c.first_from-first.ensures.first;
  count = c.first_from-first.ensures.count;
}

pub loop-number-preserved : goal.loop-number-preserved
loop-number-preserved g c =
    let i = c.loop-number.invariant in
    let seen = c.seen_at-seen.result in
    let sees = rw i.same at (c.seen_at-seen.ensures.sees c.args.joint.now i.first) in record {
      text = i.text ++ seen_line c.loop-number.number seen;
      lists = rw c.is_err-in-loop-number.ensures.value (further seen i.lists sees);
      puts = c.put_seen-put.ensures i.text c.args.output.now i.puts;
      same = c.seen_at-seen.ensures.same ∙ i.same;
      first = c.next_from-first.ensures.first;
      count = c.next_from-first.ensures.count;
    }

pub returns-in-Err-clause-tells : goal.returns-in-Err-clause-tells
returns-in-Err-clause-tells g c =
    let lists = c.in-Err.ensures.lists in
    let none = no_keys c.in-Err.fault
    record { same = refl; saved = λ _. tt; device = λ e. lists.device cc; memory = λ e. lists.memory cc } in
    whole _ _ none (rw (c.name.ensures, c.from.ensures) at c.refuse.ensures)

-- the output has refused a line
failed_by : {text : List ℕ} {old new : OutputView} (put : Result (Unit {0}) WriteFault) → is_err put ≡ true
    → PutsText text old put new → new.has_failed ≡ true
failed_by (Ok x) is puts = cc
failed_by (Err e) is puts = puts.failed

pub returns-then-is_err-clause-tells : goal.returns-then-is_err-clause-tells
returns-then-is_err-clause-tells g c =
    let i = c.loop-number.invariant in
    cut_off (failed_by c.loop-number.put (sym c.is_err.ensures.value ∙ c.if-is_err.true) i.puts)

-- the status says whether the lines were written
by_put : (put : Result (Unit {0}) WriteFault) (status : ℕ) → status ≡ bool_byte (is_err put)
    → MatchResult put (λ _. status ≡ 0) (λ _. status ≡ 1)
by_put (Ok x) status is = is
by_put (Err e) status is = is

pub returns-clause-tells : goal.returns-clause-tells
returns-clause-tells g c =
    let i = c.loop-number.invariant in
    let end : c.loop-number.number ≡ 65536 = omega arith in
    let lists = rw end at i.lists in elim c.if-unsound.branch [
      | then-unsound w ↦
          let status = rw (w.from-is, w.if-unsound.true) at c.from-2.ensures in
          whole _ 1 (rw w.if-unsound.true at (all lists)) (rw status (told_else _ i.puts))
      | else-unsound w ↦
          let status = c.from-2.ensures ∙ ap bool_byte (w.from-is ∙ w.is_err-else-unsound.ensures.value) in
          whole _ 0 (rw w.if-unsound.false at (all lists)) (told _ i.puts (by_put _ _ status))
    ]
