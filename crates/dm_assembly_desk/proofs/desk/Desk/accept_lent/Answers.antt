use Rattle.dm_append_label.specs.{Labels.PageView, Opening.page_at_front}
use Rattle.dm_assembly_desk.specs.Desk.{lone}
use Rattle.dm_assembly_desk.specs.Documents.{DeskView}
use Rattle.dm_assembly_desk.proofs.AddLaws.{adds_kept}
use Rattle.dm_assembly_desk.proofs.desk.Desk.accept_lent.Goals as goal

pub returns-in-Ok-clause-kept : goal.returns-in-Ok-clause-kept
returns-in-Ok-clause-kept g c =
    let p : PageView = page_at_front c.open_page.new.room c.in-Ok.page in
    let accepts = c.accept_page.ensures.accepts in
    let new : DeskView = c.accept_page.new.self in
    adds_kept p.id (lone p) c.args.self.now new accepts.0 accepts.2
