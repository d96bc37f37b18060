use Rattle.std.proofs.Common.{refl}
use Rattle.relay_desk_commands.specs.Desks.HasNoDesk.{not_opened}
use Rattle.relay_desk_commands.proofs.AllDocuments.{lacks_memory}
use Rattle.relay_desk_commands.proofs.all_documents.give_all.Goals.{in-Ok-given_of_each, in-Err-given_of_each}
use Rattle.relay_desk_commands.proofs.all_documents.give_all.Goals as goal
use Rattle.dm_assembly_desk.specs.declared.fault.DeskFault.TheVariants as faults

pub returns-in-Ok-close-clause-ends : goal.returns-in-Ok-close-clause-ends
returns-in-Ok-close-clause-ends g c =
    let opens = c.in-Ok.ensures in
    let closed = c.in-Ok-close.ensures in
    rw (closed.0, closed.1) (elim c.match-given_of_each.branch [
      | in-Ok-given_of_each w ↦ rw w.answer-is (_, opens.0, refl, w.in-Ok-given_of_each.ensures)
      | in-Err-given_of_each w ↦
          rw w.answer-is (not_opened faults.Memory opens.0.moves (lacks_memory _ _ opens.0.opens opens.1) w.name.ensures)
    ])

pub returns-in-Err-close-clause-ends : goal.returns-in-Err-close-clause-ends
returns-in-Err-close-clause-ends g c =
    let opens = c.in-Ok.ensures in
    let none = c.without_desk-in-Err-close.ensures in
    rw (none.answer, none.store, none.set) (c.in-Err-close.ensures _ _ opens.0)
