use Rattle.std.proofs.Common.{arith, ◌≡◌, ℕ, false, true, Result, Ok, Err, refl, sym, subst, rules}
use Rattle.std.specs.{Prelude.IsSome, FinMap.get, FinMap.remove}
use Rattle.dm_store.specs.Saved.{Refused, SavedSet, RemovesKey, outcome_of}
use Rattle.dm_store.specs.declared.store.StoreFault.{StoreFault}
use Rattle.dm_store.specs.declared.store.StoreFault.TheVariants as removing
use Rattle.dm_assembly_desk.specs.Documents.{Documents, DeskView, DeskIsInOrder}
use Rattle.dm_assembly_desk.specs.{Desk.answer_by, Desk.SaveEnds, Desk.Forgets, declared.fault.ForgetFault.ForgetFault}
use Rattle.dm_assembly_desk.specs.declared.fault.ForgetFault.TheVariants as forgets
use Rattle.dm_assembly_desk.proofs.{HeldAfter.gone_once_forgotten, DeskViews.desk_of, Saving.gone_ends, Saving.gone_order, Saving.refused_same}
use Rattle.dm_assembly_desk.proofs.desk.Desk.forget.Goals as goal

-- a document that is held is let go, and the remove has ended so
lets_go : (old : DeskView) (id : ℕ) (answer : Result (Unit {0}) StoreFault) (result : Result (Unit {0}) ForgetFault)
    (new : DeskView) → IsSome (get old.held id) →
    result ≡ answer_by (Ok tt) (Err forgets.Memory) (Err forgets.Save) (outcome_of answer) →
    SaveEnds id (remove old.held id) (outcome_of answer) old new → Forgets id old result new
lets_go old id answer result new some is ends = search rules

-- a desk is to let a document go that it holds, and its set is this one after the remove
module _ {view : DeskView} (old : DeskView) (is : old ≡ view) (id : ℕ) (set : SavedSet) (order : DeskIsInOrder old)
    (running : old.is_failed ≡ false) (some : IsSome (get old.held id)) where
  done_order : (held : Documents) → held ≡ remove old.held id → RemovesKey old.saved id (Ok tt) set →
      DeskIsInOrder (desk_of set held old.capacity old.is_failed)
  done_order held same removes = subst (λ (d : Documents). DeskIsInOrder (desk_of set d old.capacity old.is_failed))
      (sym same) (gone_order old id set order running some (Ok tt) removes)

  module _ {i : ℕ} (number : id ≡ i) where
    of_number : (answer : Result (Unit {0}) StoreFault) (result : Result (Unit {0}) ForgetFault) (new : DeskView) →
        result ≡ answer_by (Ok tt) (Err forgets.Memory) (Err forgets.Save) (outcome_of answer) →
        SaveEnds id (remove old.held id) (outcome_of answer) old new → Forgets i view result new
    of_number answer result new so ends = subst (λ (i : ℕ). Forgets i view result new) number
        (subst (λ (before : DeskView). Forgets id before result new) is (lets_go old id answer result new some so ends))

    done : (held : Documents) → held ≡ remove old.held id → RemovesKey old.saved id (Ok tt) set →
        Forgets i view (Ok tt) (desk_of set held old.capacity old.is_failed)
    done held same removes = of_number (Ok tt) (Ok tt) (desk_of set held old.capacity old.is_failed) refl
        (subst (λ (d : Documents). SaveEnds id (remove old.held id) (outcome_of (Ok tt)) old
        (desk_of set d old.capacity old.is_failed)) (sym same) (gone_ends old id set order running some (Ok tt) removes))

    faulted : RemovesKey old.saved id (Err removing.Device) set →
        Forgets i view (Err forgets.Save) (desk_of set old.held old.capacity true)
    faulted removes = of_number (Err removing.Device) (Err forgets.Save) (desk_of set old.held old.capacity true) refl
        (gone_ends old id set order running some (Err removing.Device) removes)

    refused : RemovesKey old.saved id (Err removing.Memory) set →
        Forgets i view (Err forgets.Memory) (desk_of set old.held old.capacity old.is_failed)
    refused removes =
        of_number (Err removing.Memory) (Err forgets.Memory) (desk_of set old.held old.capacity old.is_failed) refl
        (subst (λ (s : SavedSet). SaveEnds id (remove old.held id) Refused old (desk_of s old.held old.capacity old.is_failed))
        (sym (refused_same old.saved id set removes)) (gone_ends old id set order running some (Err removing.Memory) removes))

pub invariant_of-self : goal.invariant_of-self
invariant_of-self g c = done_order _ c.self.view_is c.number-id.result _ c.self.invariant c.if-self.false (search rules)
    _ c.remove-in-Ok.ensures.after c.in-Ok.ensures.removes

pub returns-in-Ok-clause-after : goal.returns-in-Ok-clause-after
returns-in-Ok-clause-after g c = done_order _ c.self.view_is c.number-id.result _ c.self.invariant c.if-self.false
    (search rules) _ c.remove-in-Ok.ensures.after c.in-Ok.ensures.removes

pub returns-in-Ok-clause-forgotten : goal.returns-in-Ok-clause-forgotten
returns-in-Ok-clause-forgotten g c = λ _. done _ c.self.view_is c.number-id.result _ c.self.invariant c.if-self.false
    (search rules) c.number-id.ensures.same _ c.remove-in-Ok.ensures.after c.in-Ok.ensures.removes

pub invariant_of-self-in-Err-Device : goal.invariant_of-self-in-Err-Device
invariant_of-self-in-Err-Device g c = grind (arith, desk_of, gone_order)

pub returns-in-Err-Device-clause-forgotten : goal.returns-in-Err-Device-clause-forgotten
returns-in-Err-Device-clause-forgotten g c = λ _. faulted _ c.self.view_is c.number-id.result _ c.self.invariant
    c.if-self.false (search rules) c.number-id.ensures.same
    (rw c.in-Err-Device.field-0-is at c.in-Err-Device.ensures.removes)

pub returns-in-Err-Memory-clause-forgotten : goal.returns-in-Err-Memory-clause-forgotten
returns-in-Err-Memory-clause-forgotten g c = λ _. refused _ c.self.view_is c.number-id.result _ c.self.invariant
    c.if-self.false (search rules) c.number-id.ensures.same
    (rw c.in-Err-Memory.field-0-is at c.in-Err-Memory.ensures.removes)

pub returns-in-Ok-clause-gone : goal.returns-in-Ok-clause-gone
returns-in-Ok-clause-gone g c = λ _. gone_once_forgotten _ _ _ (done _ c.self.view_is c.number-id.result _ c.self.invariant
    c.if-self.false (search rules) c.number-id.ensures.same _ c.remove-in-Ok.ensures.after c.in-Ok.ensures.removes)
