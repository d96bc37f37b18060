use Rattle.std.proofs.Common.{◌≡◌, Global, ℕ, Ok, drop, map, max}
use Rattle.std.specs.Prelude.{All}
use Rattle.dm_assembly_desk.specs.Documents.{DeskView}
use Rattle.relay_shared.specs.Lines.{id_text}
use Rattle.relay_desk_commands.specs.Desks.{Yields}
use Rattle.relay.specs.Program.{GivesEach, OpensBetween, SystemView, system_at}
use Rattle.relay.proofs.system.System.save_each.Given as goal

-- What is at the path of the desk stays; and so far, whatever the saves of the other documents come to.
abbrev pub invariant-loop-document : goal.invariant-loop-document
invariant-loop-document g l = record {
  stays : g.P.Places.state l.system.places l.all.file.now ≡ g.P.Places.state l.fn.self.places l.all.file.now;
  so_far : (desk : DeskView)
      → OpensBetween desk (g.P.Places.state l.fn.self.places l.all.file.now) (g.P.Places.state l.fn.self.places l.all.file.now)
      → All (λ given. Yields l.all.given given.id desk.held (Ok given.bytes.items)) l.documents
      → (others : ℕ) (new : SystemView) → GivesEach Global l.all.given l.all.file.now l.all.folder.now
      (map (λ given. id_text given.id) (drop l.document-index l.documents))
      (system_at l.system.standard (g.P.Places.state l.system.places)) others new
      → GivesEach Global l.all.given l.all.file.now l.all.folder.now (map (λ given. id_text given.id) l.documents)
      (system_at l.fn.self.standard (g.P.Places.state l.fn.self.places)) (max l.status others) new;
}
