use denote.Enum.Bare.{same_false}
use Rattle.dm_assembly_desk.specs.contracts.fault.ForgetFault.{the_type}
use Rattle.std.proofs.Common.{◌≡◌, ℕ, Bool, true, false, Ok, Err, inl, inr, refl, rules, sym, ◌∙◌}
use Rattle.std.specs.Prelude.{if◌then◌else◌}
use Rattle.std.specs.FinMap.{remove}
use Rattle.dm_store.specs.Saved.{Done, Faulted, Refused}
use Rattle.dm_assembly_desk.specs.Documents.{DeskView}
use Rattle.dm_assembly_desk.specs.Desk.{DeskCarriesOut, Forgets, Stays, Becomes}
use Rattle.dm_assembly_desk.specs.declared.fault.ForgetFault.TheVariants as forgets
use Rattle.relay_shared.proofs.Telling.{told}
use Rattle.relay_desk_commands.specs.Desks.{EndsAtDesk.no_desk, EndsAtDesk.opened, EndsOnId.no_id, EndsOnId.of_id}
use Rattle.relay_desk_commands.proofs.documents.forget_command.Goals.{in-Ok-forget, in-Err-forget+else-eq}
use Rattle.relay_desk_commands.proofs.documents.forget_command.Goals as goal

pub returns-in_default-clause-ends : goal.returns-in_default-clause-ends
returns-in_default-clause-ends g c =
    rw (← c.streams.view_is) (no_id c.in_default.ensures refl (rw c.name.ensures at c.refuse-status.ensures, refl))

pub returns-in_default-clause-settled : goal.returns-in_default-clause-settled
returns-in_default-clause-settled g c = inr (rw (← c.streams.view_is)
    (no_id c.in_default.ensures refl (rw c.name.ensures at c.refuse-status.ensures, refl)))

pub returns-in-Err-clause-ends : goal.returns-in-Err-clause-ends
returns-in-Err-clause-ends g c = rw (← c.streams.view_is) (of_id c.in-Some.id c.in-Some.ensures
    (no_desk c.in-Err.ensures.0 c.in-Err.ensures.1 (c.in-Err.ensures.2, refl)))

pub returns-in-Err-clause-settled : goal.returns-in-Err-clause-settled
returns-in-Err-clause-settled g c = inr (rw (← c.streams.view_is) (of_id c.in-Some.id c.in-Some.ensures
    (no_desk c.in-Err.ensures.0 c.in-Err.ensures.1 (c.in-Err.ensures.2, refl))))

-- what is not held is not forgotten
by_test : (is_absent : Bool) (old new : DeskView) (id : ℕ) →
    DeskCarriesOut (Err forgets.Memory) (Err forgets.Save) id (if is_absent then Stays (Err forgets.NotHeld) else Becomes (remove old.held id) (Ok (tt {0}))) old (Err forgets.NotHeld) new → new ≡ old
by_test true old new id did = did.1
by_test false old new id (Done, is, ends) = absurd cc
by_test false old new id (Faulted, is, ends) = absurd cc
by_test false old new id (Refused, is, ends) = absurd cc

pub returns-then-eq-clause-ends : goal.returns-then-eq-clause-ends
returns-then-eq-clause-ends g c =
    let opens = c.in-Ok.ensures in
    let desk : DeskView = c.in-Ok.opened.desk in
    let after : DeskView = c.forget.new.self in
    let did : Forgets c.in-Some.id desk (Err forgets.NotHeld) after =
    rw (let is : c.in-Err-forget.fault ≡ forgets.NotHeld = search rules in is) at (c.in-Err-forget.ensures.forgotten opens.0.opens.running) in
    let same : after ≡ desk = by_test _ desk after c.in-Some.id did in
    rw (← c.streams.view_is) (of_id c.in-Some.id c.in-Some.ensures (elim c.refuse_not_held.ensures [
      | inl told ↦
          opened desk (rw told.0 opens.0) (refl, (after, Err forgets.NotHeld, did, told.1, rw opens.1 at told.2))
      | inr none ↦
          no_desk none.0 (none.2 _ _ (rw same opens.0)) (rw opens.1 at none.1, refl)
    ]))

pub returns-clause-ends : goal.returns-clause-ends
returns-clause-ends g c =
    let opens = c.in-Ok.ensures in
    let running = opens.0.opens.running in
    rw (c.end.ensures.status, c.end.ensures.store, c.end.ensures.set, ← c.streams.view_is)
    (of_id c.in-Some.id c.in-Some.ensures (opened c.in-Ok.opened.desk opens.0 (elim c.match-forget.branch [
      | in-Ok-forget w ↦
          let says = rw opens.1 at (told _ w.put_forgotten.ensures w.status_after-status.ensures) in
          let did = w.in-Ok-forget.ensures.forgotten running in
          rw (w.streams-is, w.status-is) (refl, (_, Ok tt, did, refl, says))
      | in-Err-forget+else-eq w ↦
          let says = rw (opens.1, w.name-in-Err-forget.ensures) at w.refuse-status-in-Err-forget.ensures in
          let did = w.in-Err-forget.ensures.forgotten running in
          rw (w.streams-is, w.status-is) (refl, (_, Err w.in-Err-forget.fault, did, refl, says))
    ])))

pub returns-then-eq-clause-settled : goal.returns-then-eq-clause-settled
returns-then-eq-clause-settled g c =
    let opens = c.in-Ok.ensures in
    let desk : DeskView = c.in-Ok.opened.desk in
    let after : DeskView = c.forget.new.self in
    let did : Forgets c.in-Some.id desk (Err forgets.NotHeld) after =
    rw (let is : c.in-Err-forget.fault ≡ forgets.NotHeld = search rules in is) at (c.in-Err-forget.ensures.forgotten opens.0.opens.running) in
    let same : after ≡ desk = by_test _ desk after c.in-Some.id did in
    elim c.refuse_not_held.ensures [
      | inl told ↦ inl told.3
      | inr none ↦ inr (rw (← c.streams.view_is) (of_id c.in-Some.id c.in-Some.ensures
          (no_desk none.0 (none.2 _ _ (rw same opens.0)) (rw opens.1 at none.1, refl))))
    ]

pub returns-clause-settled : goal.returns-clause-settled
returns-clause-settled g c =
    let opens = c.in-Ok.ensures in
    inr (rw (c.end.ensures.status, c.end.ensures.store, c.end.ensures.set, ← c.streams.view_is)
    (of_id c.in-Some.id c.in-Some.ensures (opened c.in-Ok.opened.desk opens.0 (elim c.match-forget.branch [
      | in-Ok-forget w ↦
          let says = rw opens.1 at (told _ w.put_forgotten.ensures w.status_after-status.ensures) in
          rw (w.streams-is, w.status-is) (Ok tt, (λ is. cc (is)), says)
      | in-Err-forget+else-eq w ↦
          let says = rw (opens.1, w.name-in-Err-forget.ensures) at w.refuse-status-in-Err-forget.ensures in
          rw (w.streams-is, w.status-is) (Err w.in-Err-forget.fault, (λ is. same_false the_type w.in-Err-forget.fault forgets.NotHeld (sym w.eq.ensures ∙ w.if-eq.false) (cc (is))), says)
    ]))))
