use Rattle.std.proofs.Common.{◌≡◌, Global, arith}
use Rattle.relay_places.specs.Places.{KeepsOthers, PlacesView, files_of}
use Rattle.relay_shared.specs.Files.{DeskFiles}
use Rattle.relay.specs.Program.{OpensBetween, SystemView, opens_desk, opens_none, system_at}
use Rattle.relay.proofs.AllDocuments.{opened_at, opens_again, refused_at, texts_are}
use Rattle.relay.proofs.system.System.give_all_of.Goals as goal

pub returns-in-Ok-answer : goal.returns-in-Ok-answer
returns-in-Ok-answer g c =
    let old : SystemView = system_at c.args.self.standard (g.P.Places.state c.args.self.places) in
    let places : PlacesView = g.P.Places.state c.close-closed.new.self in
    let before : DeskFiles = files_of (g.P.File.Store.state c.in-Ok.file) (g.P.Folder.StoreSet.state c.in-Ok.folder) in
    let after : DeskFiles =
    files_of (g.P.File.Store.state c.give_all-answer.result.store) (g.P.Folder.StoreSet.state c.give_all-answer.result.set) in
    let others : KeepsOthers c.args.all.file.now old.places places =
    λ other apart. rw (c.close-closed.ensures.others other apart) (c.open.ensures.others other apart) in
    let given = rw c.in-Ok-answer.is at c.give_all-answer.ensures.ends in
    let again : OpensBetween given.0 (places c.args.all.file.now) (places c.args.all.file.now) =
    rw c.close-closed.ensures.there (opens_again given.0 before after (given.1, given.2)) in
    let saved = c.save_all-status.ensures given.0 again given.3 in
    let opened = opened_at Global c.args.all.file c.args.all.folder c.args.all.given before after old places
    c.in-Ok.ensures.there c.close-closed.ensures.there others given.0 saved.0 (given.1, given.2) saved.1 in (
      opens_desk (system_at saved.0 places) given.0 opened.0 opened.1 saved.2,
      λ zero. texts_are _ _ given.3.ids,
    )

pub returns-in-Err : goal.returns-in-Err
returns-in-Err g c =
    let old : SystemView = system_at c.args.self.standard (g.P.Places.state c.args.self.places) in
    let places : PlacesView = g.P.Places.state c.close-closed.new.self in
    let before : DeskFiles = files_of (g.P.File.Store.state c.in-Ok.file) (g.P.Folder.StoreSet.state c.in-Ok.folder) in
    let after : DeskFiles =
    files_of (g.P.File.Store.state c.give_all-answer.result.store) (g.P.Folder.StoreSet.state c.give_all-answer.result.set) in
    let others : KeepsOthers c.args.all.file.now old.places places =
    λ other apart. rw (c.close-closed.ensures.others other apart) (c.open.ensures.others other apart) in
    let none = rw c.in-Err.is at c.give_all-answer.ensures.ends in
    let fails : (c.refuse_noted-status.result.0 ≡ 0) → ⊥ = λ zero. absurd (omega (arith, c.refuse_noted-status.ensures.status, zero)) in
    rw c.refuse_noted-status.ensures.places (
      opens_none fails (refused_at Global c.args.all.file c.args.all.folder c.args.all.given before after old places
          c.in-Ok.ensures.there c.close-closed.ensures.there others _ _ _ none c.refuse_noted-status.ensures.told),
      λ zero. absurd (fails zero),
    )
