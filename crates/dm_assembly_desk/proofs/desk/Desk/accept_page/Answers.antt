use Rattle.std.proofs.Common.{◌≡◌, ◌≤◌, ℕ, ◌-◌, map, take, Some, None, Ok, Err, Bor, List, Result, refl, sym, ap, subst, replicate}
use Rattle.std.specs.Prelude.{slice_set}
use Rattle.dm_append_label.specs.Labels.{PageView}
use Rattle.dm_assembly_desk.specs.Documents.{Pages, lent_bytes, IsEntry, DeskView}
use Rattle.dm_assembly_desk.specs.Desk.{Adds, lone}
use Rattle.dm_assembly_desk.specs.declared.{adding.AddFault.AddFault, fault.ScanFault.ScanFault, reply.Imported.Imported}
use Rattle.dm_assembly_desk.proofs.LonePages.{lone_lent, lone_entry, lone_here}
use Rattle.dm_assembly_desk.proofs.HeldAfter.{held_once_accepted}
use Rattle.dm_assembly_desk.proofs.desk.Desk.accept_page.Goals as goal

-- what was added is the page alone
lone_added : (id : ℕ) (p : PageView) (b : Bor (List ℕ)) (old : DeskView) (result : Result Imported AddFault)
    (new : DeskView) → id ≡ p.id → b.now ≡ p.bytes → p.n ≤ 16
    → Adds id (map lent_bytes (take p.n (slice_set (replicate 16 None) (p.m - 1) (Some b)))) old result new
    → Adds p.id (lone p) old result new
lone_added id p b old result new id_is b_is le adds =
    subst (λ (k : ℕ). Adds k (lone p) old result new) id_is
    (subst (λ (ps : Pages). Adds id ps old result new) (lone_lent p p.m p.n b refl refl b_is le) adds)

pub add-requires-clause-entry : goal.add-requires-clause-entry
add-requires-clause-entry g c =
    let p : PageView = record { id = c.args.page.id; m = c.args.page.m; n = c.args.page.n; bytes = c.args.bytes.now } in
    let head = c.requires.head in
    let given : Pages = map lent_bytes (take p.n (slice_set (replicate 16 None) (p.m - 1) (Some c.args.bytes))) in
    subst (λ (k : ℕ). IsEntry k given) (sym c.number.ensures.same)
    (subst (λ (ps : Pages). IsEntry p.id ps) (sym (lone_lent p p.m p.n c.args.bytes refl refl refl head.most))
    (lone_entry p head.id_fits head.least head.most head.first head.last c.requires.short))

pub returns-in-Ok-clause-accepts : goal.returns-in-Ok-clause-accepts
returns-in-Ok-clause-accepts g c =
    let p : PageView = record { id = c.args.page.id; m = c.args.page.m; n = c.args.page.n; bytes = c.args.bytes.now } in (
      Ok c.in-Ok.reply,
      refl,
      lone_added c.number.result p c.args.bytes c.args.self.now (Ok c.in-Ok.reply) c.add.new.self c.number.ensures.same
          refl c.requires.head.most c.in-Ok.ensures.adds,
    )

pub returns-in-Err-clause-accepts : goal.returns-in-Err-clause-accepts
returns-in-Err-clause-accepts g c =
    let p : PageView = record { id = c.args.page.id; m = c.args.page.m; n = c.args.page.n; bytes = c.args.bytes.now } in (
      Err c.in-Err.fault,
      ap (λ (f : ScanFault). Err f) c.from.ensures,
      lone_added c.number.result p c.args.bytes c.args.self.now (Err c.in-Err.fault) c.add.new.self
          c.number.ensures.same refl c.requires.head.most c.in-Err.ensures.adds,
    )

pub returns-in-Ok-clause-held : goal.returns-in-Ok-clause-held
returns-in-Ok-clause-held g c =
    let p : PageView = record { id = c.args.page.id; m = c.args.page.m; n = c.args.page.n; bytes = c.args.bytes.now } in
    let head = c.requires.head in
    held_once_accepted p c.args.self.now c.in-Ok.reply c.add.new.self (lone_here p head.first head.last)
    (lone_added c.number.result p c.args.bytes c.args.self.now (Ok c.in-Ok.reply) c.add.new.self c.number.ensures.same
    refl head.most c.in-Ok.ensures.adds)
