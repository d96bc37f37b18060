use Rattle.std.proofs.Common.{arith, ◌≡◌, ◌≢◌, ◌∙◌, ℕ, false, length, map, Result, Ok, Err, refl, ap, sym, subst, rules}
use Rattle.std.specs.FinMap.{insert}
use Rattle.std.proofs.lemmas.List.{length-map}
use Rattle.dm_store.specs.{Saved.Refused, Saved.outcome_of, declared.store.StoreFault.StoreFault}
use Rattle.dm_store.specs.declared.store.StoreFault.TheVariants as replacing
use Rattle.dm_assembly_desk.specs.Documents.{Pages, lent_bytes, IsEntry, file, Documents, DeskView}
use Rattle.dm_assembly_desk.specs.Desk.{keep_fault, JudgedAs, answer_by, added_to, kind_of, pages_with, reply_of, Adds}
use Rattle.dm_assembly_desk.specs.declared.{reply.Kind.Kind, reply.Imported.Imported, adding.AddFault.AddFault}
use Rattle.dm_assembly_desk.specs.declared.adding.AddFault.TheVariants as adds
use Rattle.dm_assembly_desk.proofs.AddLaws.{room, merged_entry, adds_nothing, adds_some, judged_again, judged_some, never_again}
use Rattle.dm_assembly_desk.proofs.{DeskViews.desk_of, Saving.held_ends, Saving.not_begun}
use Rattle.dm_assembly_desk.proofs.desk.Desk.add.Goals as goal

abbrev imported : ℕ → ℕ → ℕ → Kind → Imported
imported id n added kind = record { id = id; n = n; added = added; kind = kind }

named : (held : Documents) (id : ℕ) (given : Pages) (kind : Kind) (file_id n added : ℕ) → file_id ≡ id →
    n ≡ length given → added ≡ added_to held id given → imported file_id n added kind ≡ reply_of held id given kind
named held id given kind file_id n added id_is n_is added_is = cc

-- what is answered where the save was not done
answered : (fault : StoreFault) (done : Result Imported AddFault) →
    Err (keep_fault fault) ≡ answer_by done (Err adds.Memory) (Err adds.Save) (outcome_of (Err fault))
answered fault done = grind arith

pub returns-then-added-eq0-clause-adds : goal.returns-then-added-eq0-clause-adds
returns-then-added-eq0-clause-adds g c = grind (arith, desk_of, adds_nothing, named, length-map, judged_again)

pub returns-in_default-merged_copy-clause-adds : goal.returns-in_default-merged_copy-clause-adds
returns-in_default-merged_copy-clause-adds g c =
    let old : DeskView = desk_of (g.S.StoreSet.state c.self.inside.set) c.self.inside.documents
    c.self.inside.capacity c.self.inside.is_failed in
    let id : ℕ = c.args.id in
    let given : Pages = map lent_bytes c.args.pages.now in
    let all : Pages = pages_with old.held id given in
    let judged : JudgedAs old.capacity old.held id given (Ok c.in_ok-added.added) = search rules in
    let some : c.in_ok-added.added ≢ 0 = search rules in
    let is_kind = judged_some old.capacity old.held id given c.in_ok-added.added judged some in
    let running : old.is_failed ≡ false = ap (λ (d : DeskView). d.is_failed) c.self.view_is ∙ c.requires.running in
    subst (λ (d : DeskView). Adds id given d (Err adds.Memory) d) c.self.view_is
    (adds_some old id given (Err adds.Memory) old Refused
    (held_ends old id all old.saved c.self.invariant running
    (merged_entry old.capacity old.held id given (kind_of all) c.self.invariant.entries c.requires.entry is_kind)
    (room old.capacity old.held id given (kind_of all) is_kind (never_again all)) (Err replacing.Memory)
    (not_begun old.saved (insert old.saved.content id (file id all))))
    (kind_of all) is_kind (never_again all) refl)

pub hold-requires-clause-entry : goal.hold-requires-clause-entry
hold-requires-clause-entry g c =
    let old : DeskView = desk_of (g.S.StoreSet.state c.self.inside.set) c.self.inside.documents
    c.self.inside.capacity c.self.inside.is_failed in
    let given : Pages = map lent_bytes c.args.pages.now in
    let judged : JudgedAs old.capacity old.held c.args.id given (Ok c.in_ok-added.added) = search rules in
    let some : c.in_ok-added.added ≢ 0 = search rules in
    let pages_is : c.in-Ok.document ≡ pages_with old.held c.args.id given = search rules in
    subst (IsEntry c.args.id) (sym pages_is)
    (merged_entry old.capacity old.held c.args.id given _ c.self.invariant.entries c.requires.entry
    (judged_some old.capacity old.held c.args.id given c.in_ok-added.added judged some))

pub hold-requires-clause-room : goal.hold-requires-clause-room
hold-requires-clause-room g c = grind (arith, desk_of, room, judged_some, never_again)

pub returns-in-Ok-hold-clause-adds : goal.returns-in-Ok-hold-clause-adds
returns-in-Ok-hold-clause-adds g c = grind (arith, desk_of, adds_some, named, length-map, judged_some, never_again)

pub returns-in-Err-clause-adds : goal.returns-in-Err-clause-adds
returns-in-Err-clause-adds g c = grind (arith, desk_of, adds_some, answered, judged_some, never_again)
