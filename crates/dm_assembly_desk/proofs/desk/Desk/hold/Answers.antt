use Rattle.std.proofs.Common.{arith, ◌≡◌, ◌∙◌, ◌<◌, ℕ, false, true, None, Ok, Err, refl, ap, sym, subst, rules}
use Rattle.std.specs.FinMap.{get, insert, len}
use Rattle.dm_store.specs.Saved.{Done, Faulted, Refused, SavedSet, SavesKey}
use Rattle.dm_store.specs.declared.store.StoreFault.TheVariants as replacing
use Rattle.dm_assembly_desk.specs.Documents.{file, Documents, DeskView, DeskIsInOrder, IsEntry, Pages}
use Rattle.dm_assembly_desk.specs.Desk.{SaveEnds}
use Rattle.dm_assembly_desk.proofs.{DeskViews.desk_of, Saving.held_ends, Saving.held_order}
use Rattle.dm_assembly_desk.proofs.desk.Desk.hold.Goals as goal

-- there is room for the document, or it is held
abbrev HasRoom : ℕ → DeskView → Type 0
HasRoom id desk = get desk.held id ≡ None → len desk.held < desk.capacity

-- A desk is to hold these pages, and its set is this one after their save.
module _ {view : DeskView} (old : DeskView) (is : old ≡ view) (id : ℕ) (pages : Pages) (set : SavedSet) (held : Documents)
    (order : DeskIsInOrder old) (running : view.is_failed ≡ false) (entry : IsEntry id pages) (room : HasRoom id view) where
  runs : old.is_failed ≡ false
  runs = ap (λ (d : DeskView). d.is_failed) is ∙ running

  has_room : HasRoom id old
  has_room = subst (HasRoom id) (sym is) room

  done_order : held ≡ insert old.held id pages → SavesKey old.saved id (file id pages) (Ok tt) set →
      DeskIsInOrder (desk_of set held old.capacity old.is_failed)
  done_order same saves = subst (λ (d : Documents). DeskIsInOrder (desk_of set d old.capacity old.is_failed)) (sym same)
      (held_order old id pages set order runs entry has_room (Ok tt) saves)

  done_ends : held ≡ insert old.held id pages → SavesKey old.saved id (file id pages) (Ok tt) set →
      SaveEnds id (insert view.held id pages) Done view (desk_of set held old.capacity old.is_failed)
  done_ends same saves = subst (λ (d : DeskView). SaveEnds id (insert d.held id pages) Done d
      (desk_of set held old.capacity old.is_failed)) is
      (subst (λ (d : Documents). SaveEnds id (insert old.held id pages) Done old
      (desk_of set d old.capacity old.is_failed)) (sym same)
      (held_ends old id pages set order runs entry has_room (Ok tt) saves))

  module _ (same : held ≡ old.held) where
    faulted_order : SavesKey old.saved id (file id pages) (Err replacing.Device) set →
        DeskIsInOrder (desk_of set held old.capacity true)
    faulted_order saves = subst (λ (d : Documents). DeskIsInOrder (desk_of set d old.capacity true)) (sym same)
        (held_order old id pages set order runs entry has_room (Err replacing.Device) saves)

    faulted_ends : SavesKey old.saved id (file id pages) (Err replacing.Device) set →
        SaveEnds id (insert view.held id pages) Faulted view (desk_of set held old.capacity true)
    faulted_ends saves = subst (λ (d : DeskView). SaveEnds id (insert d.held id pages) Faulted d
        (desk_of set held old.capacity true)) is
        (subst (λ (d : Documents). SaveEnds id (insert old.held id pages) Faulted old
        (desk_of set d old.capacity true)) (sym same)
        (held_ends old id pages set order runs entry has_room (Err replacing.Device) saves))

    refused_ends : SavesKey old.saved id (file id pages) (Err replacing.Memory) set →
        SaveEnds id (insert view.held id pages) Refused view (desk_of set held old.capacity old.is_failed)
    refused_ends saves = subst (λ (d : DeskView). SaveEnds id (insert d.held id pages) Refused d
        (desk_of set held old.capacity old.is_failed)) is
        (subst (λ (d : Documents). SaveEnds id (insert old.held id pages) Refused old
        (desk_of set d old.capacity old.is_failed)) (sym same)
        (subst (λ (s : SavedSet). SaveEnds id (insert old.held id pages) Refused old
        (desk_of s old.held old.capacity old.is_failed)) (sym (saves.refused refl))
        (held_ends old id pages set order runs entry has_room (Err replacing.Memory) saves)))

pub invariant_of-self : goal.invariant_of-self
invariant_of-self g c = done_order _ c.self.view_is _ _ _ _ c.self.invariant c.requires.running c.requires.entry
    c.requires.room c.in-Ok.ensures.ok c.in-Ok.ensures.replaced

pub returns-in-Ok-clause-ends : goal.returns-in-Ok-clause-ends
returns-in-Ok-clause-ends g c = done_ends _ c.self.view_is _ _ _ _ c.self.invariant c.requires.running c.requires.entry
    c.requires.room c.in-Ok.ensures.ok c.in-Ok.ensures.replaced

pub returns-in-Ok-clause-after : goal.returns-in-Ok-clause-after
returns-in-Ok-clause-after g c = done_order _ c.self.view_is _ _ _ _ c.self.invariant c.requires.running
    c.requires.entry c.requires.room c.in-Ok.ensures.ok c.in-Ok.ensures.replaced

pub invariant_of-self-in-Err-Device : goal.invariant_of-self-in-Err-Device
invariant_of-self-in-Err-Device g c = faulted_order _ c.self.view_is _ _ _ _ c.self.invariant c.requires.running
    c.requires.entry c.requires.room (search rules) (rw c.in-Err-Device.field-0-is at c.in-Err-Device.ensures.replaced)

pub returns-in-Err-Device-clause-ends : goal.returns-in-Err-Device-clause-ends
returns-in-Err-Device-clause-ends g c = faulted_ends _ c.self.view_is _ _ _ _ c.self.invariant c.requires.running
    c.requires.entry c.requires.room (search rules) (rw c.in-Err-Device.field-0-is at c.in-Err-Device.ensures.replaced)

pub returns-in-Err-Device-clause-after : goal.returns-in-Err-Device-clause-after
returns-in-Err-Device-clause-after g c = faulted_order _ c.self.view_is _ _ _ _ c.self.invariant c.requires.running
    c.requires.entry c.requires.room (search rules) (rw c.in-Err-Device.field-0-is at c.in-Err-Device.ensures.replaced)

pub invariant_of-self-in-Err-Memory : goal.invariant_of-self-in-Err-Memory
invariant_of-self-in-Err-Memory g c = grind (arith, desk_of)

pub returns-in-Err-Memory-clause-ends : goal.returns-in-Err-Memory-clause-ends
returns-in-Err-Memory-clause-ends g c = refused_ends _ c.self.view_is _ _ _ _ c.self.invariant c.requires.running
    c.requires.entry c.requires.room (search rules) (rw c.in-Err-Memory.field-0-is at c.in-Err-Memory.ensures.replaced)
