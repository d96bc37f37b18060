use Rattle.std.proofs.Common.{◌≡◌, arith, inl, refl}
use Rattle.std.specs.{Prelude.vec_len, FinMap.len}
use Rattle.std.proofs.lemmas.Bool.Decides.{nat_tests}
use Rattle.relay_desk_commands.specs.Desks.{ids_given}
use Rattle.relay.specs.Program.{gives_each, has_none, system_at}
use Rattle.relay.proofs.AllDocuments.{notes_incomplete, others_are, texts_are}
use Rattle.relay.proofs.system.System.save_all.Goals as goal

pub returns-then-given-eq0 : goal.returns-then-given-eq0
returns-then-given-eq0 g c = λ desk opens gives.
    let empty : vec_len c.args.given.now.documents ≡ 0 = grind (arith, nat_tests, c.if-is_empty.true, c.is_empty.ensures) in
    let none : len desk.held ≡ 0 = omega (arith, gives.others, empty, c.if-given-eq0.true, c.args.given.now.documents.ok) in
    (c.args.self.standard, inl refl, has_none none c.refuse_noted.ensures.told c.refuse_noted.ensures.places)

pub returns : goal.returns
returns g c = λ desk opens gives.
    let each = c.save_each-status.ensures desk opens (rw c.as_slice.ensures.value gives.yields) in
    let ids = ids_given c.args.all.given desk.held in
    let texts = texts_are c.args.given.now.documents.items ids gives.ids in
    let others = others_are c.args.given.now.documents.items ids c.args.given.now.incomplete (len desk.held) gives.ids gives.others in (
      c.noted-standard.result,
      c.noted-standard.ensures.notes,
      gives_each (system_at c.save_each-status.result.1.standard (g.P.Places.state c.save_each-status.result.1.places))
          (rw (c.as_slice.ensures.value, texts) at each)
          (rw others at (notes_incomplete _ _ _ _ c.note_of_incomplete.ensures c.noted-standard-2.ensures.text)) refl,
    )
